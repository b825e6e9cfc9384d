-- The images of a disk at every moment since an earlier one, and what its calls say of them.
use Rattle.std.specs.Prelude.{ℕ, ◌≤◌, ◌≡◌, ◌⊎◌, Option, None, MatchOption, IfSome, IsSomeAnd, List}
use Rattle.std.specs.Prelude.{length, take, drop}
use Rattle.disk_model.specs.Images.{Pending, IsImage}

-- an image of a disk that tells
abbrev pub IsImageOf : Option Pending → List ℕ → Type 0
IsImageOf pending image = IsSomeAnd pending (λ told. IsImage told image)

-- a disk that told what is pending still tells it, one step on, and one that didn't doesn't
abbrev pub Becomes : (Pending → Pending → Type 0) → Option Pending → Option Pending → Type 0
Becomes step before after = MatchOption before (after ≡ None) (λ old. IsSomeAnd after (step old))

-- a disk that tells has read these octets at a place
abbrev pub Reads : Option Pending → ℕ → List ℕ → Type 0
Reads pending place octets = IfSome pending (λ told. octets
    ≡ take (length octets) (drop place told.content))

-- Time goes on: the images since an earlier moment are those that there were since then, and those
-- that there are now.
pub record Elapses (before now : ℕ) (past since : ℕ → List ℕ
    → Type 0) (pending : Option Pending) : Type 0 where
  pub later : before ≤ now
  pub keeps : (moment : ℕ) (image : List ℕ) → moment ≤ before → past moment image
      → since moment image
  pub nothing_else : (moment : ℕ) (image : List ℕ) → moment ≤ before → since moment image
      → past moment image ⊎ IsImageOf pending image

-- Each image at every moment from the old disk to the new one has P.
pub record HoldsThroughout {D : Type 0} (moment : D → ℕ) (images_since : D → ℕ → List ℕ
    → Type 0) (old new : D) (P : List ℕ → Type 0) : Type 0 where
  pub later : moment old ≤ moment new
  pub each : (image : List ℕ) → images_since new (moment old) image → P image
  -- for a run that began earlier
  pub before : (since : ℕ) (image : List ℕ) → since ≤ moment old → images_since new since image
      → images_since old since image ⊎ P image
