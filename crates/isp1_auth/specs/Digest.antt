-- What protects credentials (CCSDS 913.1-B): the digest of the sequence of time, number, name and
-- password.
use Rattle.std.specs.Prelude.{ℕ, pos, List, [], ◌∷◌, ◌++◌, length}
use Rattle.ber_core.specs.Length.{shortest_length}
use Rattle.ber_core.specs.Integer.{integer_octets}
use Rattle.ber_core.specs.Tree.{Trees, primitive, constructed, trees}
use Rattle.ber_core.specs.Spelling.{canonical, canonical_all}
use Rattle.sha1.specs.Sha1.{sha1}
use Rattle.sha2.specs.Sha256.{sha256}
use Rattle.isp1_auth.specs.declared.hash.Hash.{Hash}
use Rattle.isp1_auth.specs.declared.hash.Hash.TheVariants.{Sha1, Sha256}
use Rattle.isp1_auth.specs.declared.secret.Secret.{Secret}

-- the digest by this hash function (FIPS 180-4)
abbrev pub hashed : Hash → List ℕ → List ℕ
hashed Sha1 octets = sha1 octets
hashed Sha256 octets = sha256 octets

-- time OCTET STRING, number INTEGER, name VisibleString, password OCTET STRING
abbrev pub hash_fields : Secret → List ℕ → ℕ → Trees
hash_fields secret time number = trees (
    primitive (0x04 ∷ []) time
    ∷ primitive (0x02 ∷ []) (integer_octets (pos number))
    ∷ primitive (0x1a ∷ []) secret.name.now
    ∷ primitive (0x04 ∷ []) secret.pass.now
    ∷ [])

-- the canonical spelling of the SEQUENCE of these
abbrev pub hash_input : Secret → List ℕ → ℕ → List ℕ
hash_input secret time number = canonical (constructed (0x30 ∷ []) (hash_fields secret time number))

abbrev pub digest : Secret → List ℕ → ℕ → List ℕ
digest secret time number = hashed secret.hash (hash_input secret time number)

-- ---- in the pieces in which it is hashed

-- up to the name
abbrev pub before_name : Secret → List ℕ → ℕ → List ℕ
before_name secret time number =
    (0x30 ∷ shortest_length (length (canonical_all (hash_fields secret time number))))
    ++ canonical (primitive (0x04 ∷ []) time)
    ++ canonical (primitive (0x02 ∷ []) (integer_octets (pos number)))
    ++ (0x1a ∷ []) ++ shortest_length (length secret.name.now)

-- between the name and the password
abbrev pub before_pass : Secret → List ℕ
before_pass secret = 0x04 ∷ shortest_length (length secret.pass.now)
