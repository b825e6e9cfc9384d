-- The kinds of words that only a user's command line has. This product's own.
use Rattle.std.proofs.Common.{◌≡◌, ℕ, List, [], ◌∷◌, Option, Some, None, refl}
use Rattle.std.specs.Prelude.{codes}
use Rattle.isp1_auth.specs.declared.hash.Hash.{Hash}
use Rattle.isp1_auth.specs.declared.hash.Hash.TheVariants.{Sha1, Sha256}
use Rattle.sle_numbers.specs.declared.service_type.ServiceType.{ServiceType}
use Rattle.sle_numbers.specs.declared.service_type.ServiceType.TheVariants.{RtnAllFrames, RtnChFrames}
use Rattle.sle_numbers.specs.declared.service_type.ServiceType.TheVariants.{FwdCltu}
use Rattle.user_task.specs.declared.task.Signing.{Signing}
use Rattle.user_task.specs.declared.task.Signing.TheVariants.{Unused, Used}
use Rattle.words.specs.Fixed.{word_or}
use Rattle.words.specs.HexOctets.{hex}
use Rattle.words.specs.Kind.{Kind, kind_as}
use Rattle.words.specs.Last.{last}
use Rattle.words.specs.Listed.{AreListed, listed}
use Rattle.words.specs.Separated.{separated}
use Rattle.words.specs.Then.{◌▸◌}

abbrev pub service_word : ServiceType → List ℕ
service_word RtnAllFrames = codes "raf"
service_word RtnChFrames = codes "rcf"
service_word FwdCltu = codes "cltu"

abbrev pub services : List ServiceType
services = RtnAllFrames ∷ RtnChFrames ∷ FwdCltu ∷ []

pub services_are_listed : AreListed service_word services
services_are_listed RtnAllFrames = refl
services_are_listed RtnChFrames = refl
services_are_listed FwdCltu = refl

abbrev pub service : Kind ServiceType
service = listed service_word services services_are_listed

abbrev pub hash_word : Hash → List ℕ
hash_word Sha1 = codes "sha1"
hash_word Sha256 = codes "sha256"

abbrev pub hashes : List Hash
hashes = Sha1 ∷ Sha256 ∷ []

pub hashes_are_listed : AreListed hash_word hashes
hashes_are_listed Sha1 = refl
hashes_are_listed Sha256 = refl

abbrev pub hash : Kind Hash
hash = listed hash_word hashes hashes_are_listed

abbrev pub signing_of : Option (Hash × List ℕ) → Signing
signing_of None = Unused
signing_of (Some (h, octets)) = Used h octets

abbrev pub used_of : Signing → Option (Hash × List ℕ)
used_of Unused = None
used_of (Used h octets) = Some (h, octets)

pub signing_there : (s : Signing) → signing_of (used_of s) ≡ s
signing_there Unused = refl
signing_there (Used h octets) = refl

pub signing_back : (o : Option (Hash × List ℕ)) → used_of (signing_of o) ≡ o
signing_back None = refl
signing_back (Some (h, octets)) = refl

-- `none`, or a hash function and a password of 6 to 16 octets with a colon between them
abbrev pub pass : Kind Signing
pass = kind_as (word_or (codes "none") (separated 58 (hash ▸ last (hex 6 16)) refl refl) refl)
    (record { to = signing_of; from = used_of; there = signing_there; back = signing_back })
