-- What is read of a file of octets behind gates.
use Rattle.std.proofs.Common.{◌≡◌, inl, ℕ, ◌+◌, ◌*◌, ◌<◌, ◌≤◌, List, [], ◌∷◌, ◌++◌, length, take}
use Rattle.std.proofs.Common.{drop, slice_index, Option, Some, None, IfSome, option_map, Result, Ok}
use Rattle.std.proofs.Common.{Err, OnOk, is_err, false, refl, sym, ◌∙◌, ap, subst, arith}
use Rattle.std.proofs.Common.{append_assoc}
use Rattle.std.proofs.lemmas.List.{drop_all, drop_more, places, length-append}
use Rattle.disk_model.specs.Images.{Pending, after_sync}
use Rattle.disk_model.specs.Moments.{Reads}
use Rattle.sample_disk.specs.Gated.{gated, StandsFor, IsCut, IsBehind, OnlyReads}
use Rattle.sample_disk.proofs.Files.{gated-append, stands_for_none}

first_of : (file : List ℕ) (place : ℕ) → place < length file
    → drop place file ≡ slice_index file place ∷ drop (place + 1) file
first_of file place there = drop_more file place 0 there

one_is : (into file : List ℕ) (place : ℕ) → length into ≡ 1 → place < length file
    → into ≡ take (length into) (drop place file) → slice_index into 0 ≡ slice_index file place
one_is into file place one there read = ap (λ (l : List ℕ). slice_index l 0) read
    ∙ grind (arith, places)

pub one_read : (pending : Option Pending) (extent place : ℕ) (into : List ℕ) → length into ≡ 1
    → Reads pending place into
    → IfSome pending (λ told. extent ≡ length told.content) → place < extent
    → IfSome pending (λ told. drop place told.content
    ≡ slice_index into 0 ∷ drop (place + 1) told.content)
one_read (Some told) extent place into one read size there =
    first_of told.content place (omega (arith, size, there))
    ∙ ap (λ (octet : ℕ). octet ∷ drop (place + 1) told.content)
    (sym (one_is into told.content place one (omega (arith, size, there)) read))
one_read None extent place into one read size there = tt

pub none_there : (pending : Option Pending) (extent place : ℕ)
    → IfSome pending (λ told. extent ≡ length told.content) → extent ≤ place
    → IfSome pending (λ told. drop place told.content ≡ [])
none_there (Some told) extent place size behind =
    drop_all place told.content (omega (arith, size, behind))
none_there None extent place size behind = tt

-- nothing was called
pub nothing_read : {D : Type 0} (pending : D → Option Pending) (moment : D → ℕ) (images_since : D
    → ℕ → List ℕ → Type 0) (disk : D) → OnlyReads pending moment images_since disk disk
nothing_read pending moment images_since disk = record {
  same = refl;
  time = record {
    later = omega arith;
    keeps = λ since image earlier was. was;
    nothing_else = λ since image earlier was. inl was;
  };
}

-- the octets so far, and one more
abbrev pub IsSoFar : Option Pending → List ℕ → ℕ → Type 0
IsSoFar pending octets gate = IfSome pending (λ told. told.content
    ≡ gated octets ++ drop gate told.content)

pub so_far_none : (pending : Option Pending) → IsSoFar pending [] 0
so_far_none (Some told) = refl
so_far_none None = tt

pub so_far_more : (pending : Option Pending) (octets : List ℕ) (octet gate : ℕ)
    → IsSoFar pending octets gate
    → IfSome pending (λ told. drop gate told.content ≡ 165 ∷ octet ∷ drop (gate + 2) told.content)
    → IsSoFar pending (octets ++ octet ∷ []) (gate + 2)
so_far_more (Some told) octets octet gate so_far behind =
    so_far ∙ ap (λ (rest : List ℕ). gated octets ++ rest) behind
    ∙ sym (append_assoc (gated octets) (165 ∷ octet ∷ []) (drop (gate + 2) told.content))
    ∙ ap (λ (front : List ℕ). front ++ drop (gate + 2) told.content)
    (sym (gated-append octets (octet ∷ [])))
so_far_more None octets octet gate so_far behind = tt

pub so_far_next : (pending : Option Pending) (octets next : List ℕ) (octet count : ℕ)
    (found : Option ℕ) → IsSoFar pending octets (2 * count) → found ≡ Some octet
    → IfSome pending (λ told. IsBehind (drop (2 * count) told.content) found
    (drop (2 * count + 2) told.content)) → next ≡ octets ++ octet ∷ []
    → IsSoFar pending next (2 * (count + 1))
so_far_next pending octets next octet count found so_far some behind more =
    let place : 2 * (count + 1) ≡ 2 * count + 2 = omega arith in
    rw (more, place)
    (so_far_more pending octets octet (2 * count) so_far
    (subst (λ (f : Option ℕ). IfSome pending (λ told.
    IsBehind (drop (2 * count) told.content) f (drop (2 * count + 2) told.content))) some
    behind))

pub ended : (pending : Option Pending) (extent place : ℕ)
    → IfSome pending (λ told. extent ≡ length told.content) → extent ≤ place
    → IfSome pending (λ told. IsCut (drop place told.content))
ended (Some told) extent place size behind = inl
    (drop_all place told.content (omega (arith, size, behind)))
ended None extent place size behind = tt

pub so_far_all : (pending : Option Pending) (octets : List ℕ) (gate : ℕ)
    → IsSoFar pending octets gate
    → IfSome pending (λ told. IsBehind (drop gate told.content) None (drop (gate + 2) told.content))
    → IfSome pending (λ told. StandsFor octets told.content)
so_far_all (Some told) octets gate so_far behind = record {
  gate = behind.0;
  rest = behind.1;
  shut = behind.2;
  is = so_far ∙ ap (λ (rest : List ℕ). gated octets ++ rest) behind.3;
}
so_far_all None octets gate so_far behind = tt

pub so_far_cut : (pending : Option Pending) (octets : List ℕ) (gate : ℕ)
    → IsSoFar pending octets gate
    → IfSome pending (λ told. IsCut (drop gate told.content))
    → IfSome pending (λ told. (other : List ℕ) → StandsFor other told.content → ⊥)
so_far_cut (Some told) octets gate so_far cut =
    λ other stands. stands_for_none octets (drop gate told.content) other told.content so_far cut
    stands
so_far_cut None octets gate so_far cut = tt

-- what a sync leaves stands for nothing only where what was there did
pub none_before : {T E : Type 0} → (old new : Option Pending) (result : Result T E)
    → is_err result ≡ false → OnOk result (new ≡ option_map after_sync old)
    → IfSome new (λ told. (octets : List ℕ) → StandsFor octets told.content → ⊥)
    → IfSome old (λ told. (octets : List ℕ) → StandsFor octets told.content → ⊥)
none_before (Some told) new (Ok value) good synced none =
    subst (λ (p : Option Pending). IfSome p (λ told. (octets : List ℕ)
    → StandsFor octets told.content → ⊥)) synced none
none_before None new (Ok value) good synced none = tt
none_before old new (Err error) good synced none = absurd (cc)

-- what follows from the success follows where there was no error
pub if_good : {T E P : Type 0} → (result : Result T E) → is_err result ≡ false → OnOk result P → P
if_good (Ok value) good fact = fact
if_good (Err error) good fact = absurd (cc)

pub one_longer : (octets next : List ℕ) (octet count : ℕ) → next ≡ octets ++ octet ∷ []
    → length octets ≡ count → length next ≡ count + 1
one_longer octets next octet count more so_far =
    omega (arith, ap length more, length-append octets (octet ∷ []), so_far)
