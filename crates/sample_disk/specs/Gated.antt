-- Octets behind gates, and what a file of them stands for.
use Rattle.std.specs.Prelude.{ℕ, ◌+◌, ◌*◌, ◌≡◌, ◌≢◌, ◌⊎◌, Bool, Option, Some, None, IfSome}
use Rattle.std.specs.Prelude.{IsSomeAnd, List, [], ◌∷◌, ◌++◌, length}
use Rattle.disk_model.specs.Images.{Pending, all_synced}
use Rattle.disk_model.specs.Moments.{Elapses}
use Rattle.disk_model.specs.declared.call.Call.{Call}
use Rattle.disk_model.specs.declared.call.Call.TheVariants.{Write, Sync}

-- each octet behind an open gate (A5)
abbrev pub gated : List ℕ → List ℕ
gated [] = []
gated (octet ∷ octets) = 165 ∷ octet ∷ gated octets

-- A file stands for octets: each behind an open gate, and then a gate that isn't open. Anything may
-- follow that one.
pub record StandsFor (octets file : List ℕ) : Type 0 where
  pub gate : ℕ
  pub rest : List ℕ
  pub shut : gate ≢ 165
  pub is : file ≡ gated octets ++ gate ∷ rest

-- a disk that tells holds a file that stands for these octets, all synced
abbrev pub Keeps : Option Pending → List ℕ → Type 0
Keeps pending octets = IsSomeAnd pending (λ told. (told ≡ all_synced told.content)
    × StandsFor octets told.content)

-- a disk that tells keeps octets, and the gate behind them stands at this place
abbrev pub IsAtRest : Option Pending → ℕ → Type 0
IsAtRest pending gate = IfSome pending (λ told. (octets : List ℕ) × Keeps (Some told) octets
    × (gate ≡ 2 * length octets))

-- what follows the octets of a file that stands for nothing: no gate, or an open one at the end
abbrev pub IsCut : List ℕ → Type 0
IsCut rest = (rest ≡ []) ⊎ (rest ≡ 165 ∷ [])

-- what follows octets: none, and a gate that isn't open, or an octet behind an open gate, and the
-- rest
abbrev pub IsBehind : List ℕ → Option ℕ → List ℕ → Type 0
IsBehind file None rest = (gate : ℕ) × (more : List ℕ) × (gate ≢ 165) × (file ≡ gate ∷ more)
IsBehind file (Some octet) rest = file ≡ 165 ∷ octet ∷ rest

-- the octet at the front of a list, or none of an empty one
abbrev pub IsFirst : List ℕ → Option ℕ → List ℕ → Type 0
IsFirst file None rest = file ≡ []
IsFirst file (Some octet) rest = file ≡ octet ∷ rest

-- nothing but reads: what is pending stays, also where one fails
pub record OnlyReads {D : Type 0} (pending : D → Option Pending) (moment : D → ℕ) (images_since : D
    → ℕ → List ℕ → Type 0) (old new : D) : Type 0 where
  pub same : pending new ≡ pending old
  pub time : Elapses (moment old) (moment new) (images_since old) (images_since new) (pending new)

-- an image stands for the old octets, or for these and the new one
abbrev pub IsOldOrNew : List ℕ → ℕ → List ℕ → Type 0
IsOldOrNew octets octet image = StandsFor octets image ⊎ StandsFor (octets ++ octet ∷ []) image

-- the counted calls that add an octet at a gate
abbrev pub adding : ℕ → ℕ → List Call
adding gate octet = Write (gate + 1) (octet ∷ 0 ∷ []) ∷ Sync ∷ Write gate (165 ∷ []) ∷ Sync ∷ []

-- octets behind gates on a disk, as contracts see them: the gate behind them, and whether adding
-- one has failed
pub record GatesState (D : Type 0) : Type 0 where
  pub disk : D
  pub gate : ℕ
  pub is_stale : Bool
