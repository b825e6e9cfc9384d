-- The kinds of words that only a configuration has.
use Rattle.std.proofs.Common.{◌≡◌, ℕ, Bool, true, false, ◌&&◌, ◌==◌, nat_le, List, [], ◌∷◌, length}
use Rattle.std.proofs.Common.{refl}
use Rattle.std.proofs.lemmas.Bool.{and_parts}
use Rattle.std.specs.List.{list_all}
use Rattle.std.specs.Prelude.{codes}
use Rattle.sle_numbers.specs.declared.return_delivery_mode.ReturnDeliveryMode.{ReturnDeliveryMode}
use Rattle.sle_numbers.specs.declared.return_delivery_mode.ReturnDeliveryMode.TheVariants.{TimelyOnline, CompleteOnline, Offline}
use Rattle.station_config.specs.declared.level.Level.{Level}
use Rattle.station_config.specs.declared.level.Level.TheVariants.{Nothing, Bind, All}
use Rattle.words.specs.Alphabet.{Of, of_all}
use Rattle.words.specs.Kind.{Kind}
use Rattle.words.specs.Listed.{AreListed, listed}
use Rattle.words.specs.Names.{is_graphic}
use Rattle.words.specs.Plain.{plain}

abbrev pub level_word : Level → List ℕ
level_word Nothing = codes "none"
level_word Bind = codes "bind"
level_word All = codes "all"

abbrev pub levels : List Level
levels = Nothing ∷ Bind ∷ All ∷ []

pub levels_are_listed : AreListed level_word levels
levels_are_listed Nothing = refl
levels_are_listed Bind = refl
levels_are_listed All = refl

abbrev pub level : Kind Level
level = listed level_word levels levels_are_listed

-- sha1, or sha256, which is true
abbrev pub hash_word : Bool → List ℕ
hash_word false = codes "sha1"
hash_word true = codes "sha256"

abbrev pub hashes : List Bool
hashes = false ∷ true ∷ []

pub hashes_are_listed : AreListed hash_word hashes
hashes_are_listed false = refl
hashes_are_listed true = refl

abbrev pub hash : Kind Bool
hash = listed hash_word hashes hashes_are_listed

abbrev pub mode_word : ReturnDeliveryMode → List ℕ
mode_word TimelyOnline = codes "timely"
mode_word CompleteOnline = codes "complete"
mode_word Offline = codes "offline"

abbrev pub modes : List ReturnDeliveryMode
modes = TimelyOnline ∷ CompleteOnline ∷ Offline ∷ []

pub modes_are_listed : AreListed mode_word modes
modes_are_listed TimelyOnline = refl
modes_are_listed CompleteOnline = refl
modes_are_listed Offline = refl

abbrev pub mode : Kind ReturnDeliveryMode
mode = listed mode_word modes modes_are_listed

-- an offline instance has the latency 0, any other one at least 1
abbrev pub is_latency : ReturnDeliveryMode → ℕ → Bool
is_latency TimelyOnline latency = nat_le 1 latency
is_latency CompleteOnline latency = nat_le 1 latency
is_latency Offline latency = latency == 0

-- any word of characters from 21 to 7E
abbrev pub is_owner : List ℕ → Bool
is_owner w = nat_le 1 (length w) && list_all is_graphic w

pub owner_octets : (w : List ℕ) → is_owner w ≡ true → Of is_graphic w
owner_octets w e = of_all is_graphic w (and_parts (nat_le 1 (length w)) (list_all is_graphic w) e).1

abbrev pub owner : Kind (List ℕ)
owner = plain is_owner is_graphic owner_octets
