-- A walk over the whole messages of a list, by what stands in front of what is left.
use Rattle.std.proofs.Common.{◌≡◌, ℕ, ◌+◌, ◌-◌, ◌≤◌, List, length, take, drop, Option, Some, None}
use Rattle.std.proofs.Common.{Ok, sym, ap, subst, ◌∙◌, arith}
use Rattle.std.proofs.Math.Nat.{add_assoc}
use Rattle.std.proofs.lemmas.List.{length-drop, drop-drop, take_rest}
use Rattle.isp1_tml.specs.declared.tml_fault.TmlFault.{TmlFault}
use Rattle.isp1_tml.specs.Fault.{capped, fault_of}
use Rattle.isp1_tml.specs.Stream.{whole_size, IsStream}
use Rattle.isp1_tml.specs.Given.{front_by, front_of}
use Rattle.isp1_tml.specs.Reading.{Reading, content, IsSpelled, at_end, behind, reading}
use Rattle.isp1_tml.proofs.Spelled.{IsOctets, spelled}
use Rattle.isp1_tml.proofs.Places.{SamePlace, fault_of-same}
use Rattle.isp1_tml.proofs.Readings.{reading_whole, reading_end, whole_bound, is_read}

front_whole : (F : Option TmlFault) (W : Option ℕ) (s : ℕ) → Ok (Some s) ≡ front_by F W
    → (F ≡ None) × (W ≡ Some s)
front_whole F W s e = grind arith

front_end : (F f : Option TmlFault) (W : Option ℕ) → front_by f None ≡ front_by F W
    → (F ≡ f) × (F ≡ None → W ≡ None)
front_end F f W e = grind arith

pub front_reads_whole : (p q s : ℕ) (x : List ℕ) → SamePlace p q → Ok (Some s) ≡ front_of q x
    → (s ≤ length x) × (reading p x ≡ behind (content (take s x)) (reading (p + s) (drop s x)))
front_reads_whole p q s x same e =
    let w = front_whole (fault_of q x) (whole_size x) s e in
    ((whole_bound x s w.1).1, reading_whole p s x (fault_of-same p q x same ∙ w.0) w.1)

-- less than a message stands in front, or a fault
pub front_reads_end : (p q : ℕ) (x : List ℕ) (f : Option TmlFault) → SamePlace p q
    → front_by f None ≡ front_of q x → reading p x ≡ at_end x f
front_reads_end p q x f same e =
    let w = front_end (fault_of q x) f (whole_size x) e in
    let is = fault_of-same p q x same in
    reading_end p x (λ none. w.1 (sym is ∙ none)) ∙ ap (at_end x) (is ∙ w.0)

-- a message that is found whole is spelled
pub front_spelled : (p s : ℕ) (x : List ℕ) → IsOctets x → Ok (Some s) ≡ front_of p x
    → (s ≤ length x) × IsSpelled (take s x)
front_spelled p s x o e =
    let w = front_whole (fault_of p x) (whole_size x) s e in spelled p s x o w.0 w.1

-- the part of a slice from a place on
abbrev pub from_on : ℕ → List ℕ → List ℕ
from_on e x = take (length x - e) (drop e x)

abbrev end_of : Reading → Reading
end_of r = at_end r.rest r.fault

-- the walk's step, and its end: what is left, x from e on, ends as the whole list does
pub record Walked (p e : ℕ) (x : List ℕ) : Type 0 where
  pub within : e ≤ length x
  pub alike : end_of (reading p x) ≡ end_of (reading (p + e) (drop e x))

pub walk_step : {p q e s : ℕ} {x : List ℕ} → Walked p e x → q ≡ capped (p + e)
    → Ok (Some s) ≡ front_of q (from_on e x) → Walked p (e + s) x
walk_step {p} {q} {e} {s} {x} h place is =
    let w = front_reads_whole (p + e) q s (drop e x) (omega arith) (rw take_rest at is) in
    record {
      within = omega (arith, w.0, length-drop e x, h.within);
      alike = rw (← add_assoc, ← drop-drop) (h.alike ∙ ap end_of w.1);
    }

pub walk_end : {p q e : ℕ} {x : List ℕ} (f : Option TmlFault) → IsOctets x → Walked p e x
    → q ≡ capped (p + e) → front_by f None ≡ front_of q (from_on e x)
    → IsStream p x (reading p x).messages (drop e x) f
walk_end {p} {q} {e} {x} f o h place is =
    let w = front_reads_end (p + e) q (drop e x) f (omega arith) (rw take_rest at is) in
    subst (λ (r : Reading). IsStream p x (reading p x).messages r.rest r.fault)
    (h.alike ∙ ap end_of w) (is_read p x o)
