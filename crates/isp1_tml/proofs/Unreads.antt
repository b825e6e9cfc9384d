-- What stands first of octets that weren't given, and what is left behind it.
use Rattle.std.proofs.Common.{◌≡◌, ℕ, zero, suc, ◌+◌, List, [], length, take, drop, Option}
use Rattle.std.proofs.Common.{Some, None, Ok, refl, sym, ap, subst, ◌∙◌}
use Rattle.std.proofs.lemmas.List.{length-take-le}
use Rattle.isp1_tml.specs.declared.tml_fault.TmlFault.{TmlFault}
use Rattle.isp1_tml.specs.Message.{spelling}
use Rattle.isp1_tml.specs.Fault.{capped, fault_of}
use Rattle.isp1_tml.specs.Stream.{whole_size}
use Rattle.isp1_tml.specs.Given.{front_by, front_of}
use Rattle.isp1_tml.specs.Reading.{Reading, content, reading, reading_by, reading_within, behind}
use Rattle.isp1_tml.specs.Reading.{at_end, IsSpelled}
use Rattle.isp1_tml.specs.Unread.{Unread, unread_by, unread_of, first_of, first_by, behind_first}
use Rattle.isp1_tml.proofs.Places.{SamePlace, SamePlace-add, SamePlace-capped, fault_of-same}
use Rattle.isp1_tml.proofs.Readings.{same_by}
use Rattle.isp1_tml.proofs.Walk.{front_reads_whole, front_reads_end}

within_there : (n p q : ℕ) (x : List ℕ) → SamePlace p q
    → reading_within n p x ≡ reading_within n q x
unfolding reading_within
within_there zero p q x h = ap (at_end x) (fault_of-same p q x h)
within_there (suc n) p q x h =
    rw (fault_of-same p q x h)
    (same_by _ _ x (fault_of q x) (whole_size x)
    (λ s e. within_there n (p + s) (q + s) (drop s x) (SamePlace-add p q s h)))

reading_there : (p : ℕ) (x : List ℕ) → reading p x ≡ reading (capped p) x
reading_there p x = within_there (length x) p (capped p) x (sym (SamePlace-capped p))

module _ (p s : ℕ) (x : List ℕ) (u : Unread) (e : unread_of p x ≡ u)
    (front : Ok (Some s) ≡ front_of p x) where
  abbrev left : Reading
  left = reading (capped (p + s)) (drop s x)

  whole_is : u ≡ unread_by p (behind (content (take s x)) left)
  whole_is =
      sym e
      ∙ ap (unread_by p)
      ((front_reads_whole p p s x refl front).1
      ∙ ap (behind (content (take s x))) (reading_there (p + s) (drop s x)))

  -- a whole message is given
  pub whole_gives : Ok (Some (content (take s x))) ≡ first_of u
  whole_gives = sym (ap first_of whole_is)

  -- and what is behind it is left
  pub whole_left : IsSpelled (take s x) → unread_of (capped (p + s)) (drop s x) ≡ behind_first u
  whole_left spelled =
      let size : length (spelling (content (take s x))) ≡ s =
      ap length spelled.1 ∙ length-take-le s x (front_reads_whole p p s x refl front).0 in
      sym (ap (λ n. unread_by (capped (p + n)) left) size) ∙ sym (ap behind_first whole_is)

module _ (p : ℕ) (x : List ℕ) (f : Option TmlFault) (u : Unread) (e : unread_of p x ≡ u)
    (front : front_by f None ≡ front_of p x) where
  none_is : u ≡ record { place = p; messages = []; rest = x; fault = f }
  none_is = sym e ∙ ap (unread_by p) (front_reads_end p p x f refl front)

  -- with no whole message the fault is given, if there is one
  pub none_gives : first_by [] f ≡ first_of u
  none_gives = sym (ap first_of none_is)

  -- and all is left
  pub none_left : u ≡ behind_first u
  none_left = subst (λ w. w ≡ behind_first w) (sym none_is) refl

by_left : (later : ℕ → Reading) (x : List ℕ) (F : Option TmlFault) (W : Option ℕ)
    → (reading_by later x F W).messages ≡ [] → x ≡ (reading_by later x F W).rest
by_left later x (Some f) W e = refl
by_left later x None None e = refl
by_left later x None (Some s) e = absurd cc

within_left : (n p : ℕ) (x : List ℕ) → (reading_within n p x).messages ≡ []
    → x ≡ (reading_within n p x).rest
unfolding reading_within
within_left zero p x e = refl
within_left (suc n) p x e = by_left _ x (fault_of p x) (whole_size x) e

-- with no message left, all octets are the rest
pub left_is : (p : ℕ) (x : List ℕ) → (unread_of p x).messages ≡ [] → x ≡ (unread_of p x).rest
left_is p x e = within_left (length x) p x e
