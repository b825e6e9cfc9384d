-- A file that is written and read piece by piece.
use Rattle.std.proofs.Common.{◌≡◌, inl, inr, ⊎_elim, ℕ, ◌+◌, ◌-◌, ◌≤◌, max, Option, Some, None}
use Rattle.std.proofs.Common.{option_map, List, ◌++◌, length, take, drop, refl, sym}
use Rattle.std.proofs.Common.{ap, ◌∙◌, subst, arith, append_assoc, length-append, length-drop}
use Rattle.std.proofs.Common.{take-add, drop-drop}
use Rattle.std.proofs.lemmas.List.{length-take-le, take-append-le}
use Rattle.std.proofs.lemmas.Slice.{take-put_mid_below}
use borrow.Rule.Slice.PartMut.{put_mid}
use Rattle.std.proofs.lemmas.Bool.Decides.{nat_tests}
use Rattle.std.proofs.lemmas.Grind.{common_steps}
use Rattle.std.proofs.Math.Seq.{take-length}
use Rattle.disk_model.specs.Images.{Pending, IsImage, IsTorn, FailsToWrite, overwritten, with_range}
use Rattle.disk_model.specs.Moments.{IsImageOf, Becomes, Elapses}
use Rattle.disk_model.specs.Facts.Images.{written_behind}
use Rattle.disk_model.specs.MemoryDiskLaws.{written_elsewhere}
use Rattle.disk_model.specs.RawFile.{IsSizeOf, IsTornWithin, FailsToGoOn, ReadsFront}
use Rattle.disk_model.specs.RawFile.{after_first_piece, after_further_piece}

-- the octets behind the first so many, as a slice has them
abbrev behind : ℕ → List ℕ → List ℕ
behind count octets = take (length octets - count) (drop count octets)

from_slice : (octets : List ℕ) (i : ℕ) → behind i octets ≡ drop i octets
from_slice octets i = ap (λ n. take n (drop i octets)) (sym (length-drop i octets))
    ∙ take-length (drop i octets)

-- one write behind another
overwritten_both : (content a b : List ℕ) (place : ℕ) → place ≤ length content
    → overwritten (overwritten content place a) (place + length a) b
    ≡ overwritten content place (a ++ b)
overwritten_both content a b place there =
    let rest = drop (place + length a) content in
    let front = take place content ++ a in
    let size : length front ≡ place + length a = length-append (take place content) a
    ∙ ap (λ n. n + length a) (length-take-le place content there) in
    written_behind front rest b (place + length a) size
    ∙ ap (λ x. x ++ drop (length b) rest) (append_assoc (take place content) a b)
    ∙ ap (λ behind. (take place content ++ (a ++ b)) ++ behind)
    (drop-drop (length b) (place + length a) content
    ∙ ap (λ n. drop n content) (omega (arith, length-append a b)))

length-overwritten : (content a : List ℕ) (place : ℕ) → place ≤ length content
    → length (overwritten content place a) ≡ max (length content) (place + length a)
length-overwritten content a place there = grind (arith, common_steps)

further : (content octets : List ℕ) (place k n : ℕ) → place ≤ length content → k ≤ length octets
    → overwritten (overwritten content place (take k octets)) (place + k)
    (take n (behind k octets))
    ≡ overwritten content place (take (k + n) octets)
further content octets place k n there some =
    rw (take-add k n octets, from_slice octets k)
    (ap (λ at. overwritten (overwritten content place (take k octets)) at (take n (drop k octets)))
    (ap (λ x. place + x) (sym (length-take-le k octets some)))
    ∙ overwritten_both content (take k octets) (take n (drop k octets)) place there)

torn_before : (content octets left : List ℕ) (place k : ℕ) → place ≤ length content
    → k ≤ length octets
    → IsTornWithin (place + k) (length octets - k) (overwritten content place (take k octets)) left
    → IsTorn place (length octets) content left
torn_before content octets left place k there some spoilt =
    let size = length-overwritten content (take k octets) place there in
    let front = length-take-le k octets some in
    record {
      no_shorter = omega (arith, spoilt.same_length, size);
      no_longer = omega (arith, spoilt.same_length, size, front, some);
      kept = λ at below free. spoilt.kept at (omega (arith, below, size))
          (grind (arith, nat_tests, free))
          ∙ written_elsewhere content (take k octets) place at below
          (grind (arith, nat_tests, free, front));
    }

torn_so_far : (content octets : List ℕ) (place k : ℕ) → place ≤ length content
    → k ≤ length octets
    → IsTorn place (length octets) content (overwritten content place (take k octets))
torn_so_far content octets place k there some =
    torn_before content octets (overwritten content place (take k octets)) place k there some
    (record { same_length = refl; kept = λ at below free. refl })

-- ---- where the file tells

pub one_more : (before mid new : Option Pending) (octets : List ℕ) (size place k n : ℕ)
    → IsSizeOf before size → place ≤ size → k ≤ length octets
    → mid ≡ option_map (after_first_piece place octets k) before
    → new ≡ option_map (after_further_piece (place + k) (behind k octets) n) mid
    → new ≡ option_map (after_first_piece place octets (k + n)) before
one_more None mid new octets size place k n has there some one two =
    two ∙ ap (option_map (after_further_piece (place + k) (behind k octets) n))
    one
one_more (Some told) mid new octets size place k n has there some one two =
    two ∙ ap (option_map (after_further_piece (place + k) (behind k octets) n))
    one
    ∙ ap (λ content. Some (with_range place (length octets) content told))
    (further told.content octets place k n (omega (arith, has, there)) some)

pub has_size : (before now : Option Pending) (octets : List ℕ) (size place k : ℕ)
    → IsSizeOf before size → place ≤ size → k ≤ length octets
    → now ≡ option_map (after_first_piece place octets k) before
    → IsSizeOf now (max size (place + k))
has_size None now octets size place k has there some is =
    subst (λ (p : Option Pending). IsSizeOf p (max size (place + k))) (sym is) tt
has_size (Some told) now octets size place k has there some is =
    subst (λ (p : Option Pending). IsSizeOf p (max size (place + k))) (sym is)
    (let front = length-take-le k octets some in
    let long = length-overwritten told.content (take k octets) place (omega (arith, has, there)) in
    omega (arith, has, long, front))

-- a write that goes no further
pub stands_torn : (before now : Option Pending) (octets : List ℕ) (size place k : ℕ)
    → IsSizeOf before size → place ≤ size → k ≤ length octets
    → now ≡ option_map (after_first_piece place octets k) before
    → Becomes (FailsToWrite place (length octets)) before now
stands_torn None now octets size place k has there some is = is
stands_torn (Some told) now octets size place k has there some is =
    subst (λ (p : Option Pending). Becomes (FailsToWrite place (length octets)) (Some told) p)
    (sym is)
    (inr (
      overwritten told.content place (take k octets),
      torn_so_far told.content octets place k (omega (arith, has, there)) some,
      refl,
    ))

pub fails_torn : (before mid new : Option Pending) (octets : List ℕ) (size place k : ℕ)
    → IsSizeOf before size → place ≤ size → k ≤ length octets
    → mid ≡ option_map (after_first_piece place octets k) before
    → Becomes (FailsToGoOn (place + k) (length octets - k)) mid new
    → Becomes (FailsToWrite place (length octets)) before new
fails_torn None mid new octets size place k has there some one two =
    subst (λ (p : Option Pending). Becomes (FailsToGoOn (place + k) (length octets - k)) p new) one
    two
fails_torn (Some told) mid None octets size place k has there some one two =
    absurd (subst (λ (p : Option Pending). Becomes (FailsToGoOn (place + k) (length octets - k)) p
    None) one two)
fails_torn (Some told) mid (Some now) octets size place k has there some one two =
    let left
    : FailsToGoOn (place + k) (length octets - k) (after_first_piece place octets k told) now =
    subst (λ (p : Option Pending). Becomes (FailsToGoOn (place + k) (length octets - k)) p
    (Some now)) one two in
    inr (
      left.0,
      torn_before told.content octets left.0 place k (omega (arith, has, there)) some left.1,
      left.2,
    )

-- ---- the images meanwhile

pub elapses_on : (m0 m1 m2 : ℕ) (i0 i1 i2 : ℕ → List ℕ → Type 0) (mid new : Option Pending)
    → Elapses m0 m1 i0 i1 mid → Elapses m1 m2 i1 i2 new
    → ((image : List ℕ) → IsImageOf mid image → IsImageOf new image)
    → Elapses m0 m2 i0 i2 new
elapses_on m0 m1 m2 i0 i1 i2 mid new one two more = record {
  later = omega (arith, one.later, two.later);
  keeps = λ moment image earlier past. two.keeps moment image (omega (arith, earlier, one.later))
      (one.keeps moment image earlier past);
  nothing_else = λ moment image earlier since. ⊎_elim
      (λ was. ⊎_elim (λ past. inl past) (λ is. inr (more image is))
      (one.nothing_else moment image earlier was)) (λ is. inr is)
      (two.nothing_else moment image (omega (arith, earlier, one.later)) since);
}

same_range : (before : Option Pending) (octets image : List ℕ) (place j k : ℕ)
    → IsImageOf (option_map (after_first_piece place octets j) before) image
    → IsImageOf (option_map (after_first_piece place octets k) before) image
same_range None octets image place j k is = is
same_range (Some told) octets image place j k is =
    record { no_shorter = is.no_shorter; no_longer = is.no_longer; kept = is.kept }

pub images_more : (before mid new : Option Pending) (octets : List ℕ) (place j k : ℕ)
    → mid ≡ option_map (after_first_piece place octets j) before
    → new ≡ option_map (after_first_piece place octets k) before
    → (image : List ℕ) → IsImageOf mid image → IsImageOf new image
images_more before mid new octets place j k one two image is =
    subst (λ (p : Option Pending). IsImageOf p image) (sym two)
    (same_range before octets image place j k
    (subst (λ (p : Option Pending). IsImageOf p image) one is))

pub images_stay : (place count : ℕ) (mid new : Option Pending)
    → Becomes (FailsToGoOn place count) mid new
    → (image : List ℕ) → IsImageOf mid image → IsImageOf new image
images_stay place count None new fails image is = subst (λ (p : Option Pending). IsImageOf p image)
    (sym fails) is
images_stay place count (Some told) None fails image is = absurd fails
images_stay place count (Some told) (Some now) fails image is =
    subst (λ (p : Pending). IsImage p image) (sym fails.2)
    (record { no_shorter = is.no_shorter; no_longer = is.no_longer; kept = is.kept })

-- ---- reading

seam : (front behind : List ℕ) (k : ℕ) → length front ≡ k → drop k (front ++ behind) ≡ behind
seam front behind k is = grind (arith, common_steps)

-- where a piece was put into the rest of a slice
put_front : (into piece : List ℕ) (k m n : ℕ) → k ≤ length into → n ≤ length piece
    → take (k + n) (put_mid k m into piece) ≡ take k into ++ take n piece
put_front into piece k m n some more =
    take-add k n (put_mid k m into piece)
    ∙ ap (λ front. front ++ take n (drop k (put_mid k m into piece)))
    (take-put_mid_below k m into piece k (omega arith) some)
    ∙ ap (λ behind. take k into ++ take n behind)
    (seam (take k into) (piece ++ drop m (drop k into)) k (length-take-le k into some))
    ∙ ap (λ behind. take k into ++ behind)
    (take-append-le n piece (drop m (drop k into)) more)

pub room : (into piece : List ℕ) (k m n : ℕ) → k ≤ length into → n ≤ length piece
    → k + n ≤ length (put_mid k m into piece)
room into piece k m n some more = grind (arith, common_steps)

read_told : (content into piece : List ℕ) (place k m n : ℕ) → k ≤ length into
    → n ≤ length piece
    → take k into ≡ take k (drop place content)
    → take n piece ≡ take n (drop (place + k) content)
    → take (k + n) (put_mid k m into piece) ≡ take (k + n) (drop place content)
read_told content into piece place k m n some more front next =
    put_front into piece k m n some more
    ∙ ap (λ x. x ++ take n piece) front
    ∙ ap (λ x. take k (drop place content) ++ x)
    (next ∙ ap (take n) (sym (drop-drop k place content)))
    ∙ sym (take-add k n (drop place content))

pub read_more : (told : Option Pending) (into piece : List ℕ) (place k m n : ℕ)
    → k ≤ length into → n ≤ length piece
    → ReadsFront told place k into
    → ReadsFront told (place + k) n piece
    → ReadsFront told place (k + n) (put_mid k m into piece)
read_more None into piece place k m n some more front next = tt
read_more (Some told) into piece place k m n some more front next =
    read_told told.content into piece place k m n some more front next

-- ---- a slice's own length

pub slice_length : (octets : List ℕ) (k : ℕ)
    → length (behind k octets) ≡ length octets - k
slice_length octets k = ap length (from_slice octets k) ∙ length-drop k octets

-- a further piece that took none
pub none_more : (before mid new : Option Pending) (octets : List ℕ) (size place k n : ℕ) → n ≡ 0
    → IsSizeOf before size → place ≤ size → k ≤ length octets
    → mid ≡ option_map (after_first_piece place octets k) before
    → new ≡ option_map (after_further_piece (place + k) (behind k octets) n) mid
    → new ≡ option_map (after_first_piece place octets k) before
none_more before mid new octets size place k n none has there some one two =
    let same : k + n ≡ k = omega (arith, none) in
    subst (λ m. new ≡ option_map (after_first_piece place octets m) before) same
    (one_more before mid new octets size place k n has there some one two)
