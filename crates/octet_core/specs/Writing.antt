-- What holds of octets that are written one after another: theorems on Writes, for those who write
-- in several calls.
use Rattle.std.proofs.Common.{◌≡◌, inl, inr, ⊎_elim, ℕ, ◌≤◌, Option, Some, None, option_map, Result}
use Rattle.std.proofs.Common.{Ok, Err, List, [], ◌++◌, length, take, refl, sym, ap, ◌∙◌}
use Rattle.std.proofs.Common.{append_assoc, length-append, length-take, arith}
use Rattle.std.proofs.lemmas.List.{append-nil, take-append-le}
use Rattle.std.proofs.Math.Seq.{take-append_seam}
use Rattle.octet_core.specs.Fault.{count_up, Rose}
use Rattle.octet_core.specs.Written.{IsFront, Gains, GainsFront, Writes}

-- ---- the octets

pub gains-none : (now : Option (List ℕ)) → Gains now now []
gains-none None = refl
gains-none (Some there) = ap Some (sym (append-nil there))

pub gains-append : (a b c : Option (List ℕ)) (first rest : List ℕ) → Gains a b first
    → Gains b c rest → Gains a c (first ++ rest)
gains-append None b c first rest one two = two ∙ ap (option_map (λ there. there ++ rest)) one
gains-append (Some there) b c first rest one two = two ∙ ap (option_map (λ now. now ++ rest)) one
    ∙ ap Some (append_assoc there first rest)

-- nothing was written, and that begins any octets
pub gains_front-none : (now : Option (List ℕ)) (octets : List ℕ) → GainsFront now now octets
gains_front-none None octets = refl
gains_front-none (Some there) octets = (omega arith, take-append_seam there octets)

-- all of the first octets were written, and those that begin the rest
pub gains_front-append : (a b c : Option (List ℕ)) (first rest : List ℕ) → Gains a b first
    → GainsFront b c rest → GainsFront a c (first ++ rest)
gains_front-append None None c first rest one two = two
gains_front-append None (Some now) c first rest one two = absurd cc
gains_front-append (Some there) None c first rest one two = absurd cc
gains_front-append (Some there) (Some now) None first rest one two = two
gains_front-append (Some there) (Some now) (Some last) first rest one two =
    let same : now ≡ there ++ first = cc in (
      omega (arith, two.0, ap length same, length-append there first),
      ap (take (length last)) (sym (append_assoc there first rest) ∙ ap (λ x. x ++ rest) (sym same))
          ∙ two.1,
    )

front_le : (front whole : List ℕ) → IsFront front whole → length front ≤ length whole
front_le front whole is = omega (arith, simp length-take at (ap length is))

-- what begins the first octets begins those with the rest behind them
pub gains_front-longer : (a b : Option (List ℕ)) (first rest : List ℕ) → GainsFront a b first
    → GainsFront a b (first ++ rest)
gains_front-longer None b first rest front = front
gains_front-longer (Some there) None first rest front = front
gains_front-longer (Some there) (Some now) first rest front = (
  front.0,
  rw (
    ← append_assoc there first rest,
    take-append-le (length now) (there ++ first) rest (front_le now (there ++ first) front.1),
  )
      front.1,
)

-- ---- the count of faults

rose_later : (a b c : ℕ) → a ≤ b → Rose b c → Rose a c
rose_later a b c le (inl less) = inl (omega arith)
rose_later a b c le (inr last) = inr last

-- ---- both

-- before the first call
pub writes-none : {T E : Type 0} (fault : E) (now : Option (List ℕ)) (faults : ℕ) (value : T)
    → Writes fault now now faults faults [] (Ok value)
writes-none fault now faults value = record {
  all = gains-none now;
  front = tt;
  never_falls = omega arith;
  rose = λ is. absurd cc;
  raised = λ is. absurd cc;
  kept = inr refl;
}

-- one call after another, whatever the second answers
pub writes-append : {T U E : Type 0} (fault : E) (a b c : Option (List ℕ)) (fa fb fc : ℕ)
    (first rest : List ℕ) (value : T) (result : Result U E)
    → Writes {T = T} fault a b fa fb first (Ok value) → Writes {T = U} fault b c fb fc rest result
    → Writes {T = U} fault a c fa fc (first ++ rest) result
writes-append fault a b c fa fb fc first rest value (Ok last) one two = record {
  all = gains-append a b c first rest one.all two.all;
  front = tt;
  never_falls = omega (arith, one.never_falls, two.never_falls);
  rose = λ is. absurd cc;
  raised = λ is. absurd cc;
  kept = inr (⊎_elim (λ is. absurd cc) (λ same. same) two.kept
      ∙ ⊎_elim (λ is. absurd cc) (λ same. same) one.kept);
}
writes-append fault a b c fa fb fc first rest value (Err error) one two = record {
  all = tt;
  front = gains_front-append a b c first rest one.all two.front;
  never_falls = omega (arith, one.never_falls, two.never_falls);
  rose = λ is. rose_later fa fb fc one.never_falls (two.rose is);
  raised = λ is. two.raised is ∙ ap count_up (⊎_elim (λ is. absurd cc) (λ kept. kept) one.kept);
  kept = ⊎_elim (λ is. inl is) (λ same. inr (same
      ∙ ⊎_elim (λ is. absurd cc) (λ kept. kept) one.kept)) two.kept;
}

-- a call that failed, with more that would have been written behind it
pub writes-stopped : {T U E : Type 0} (fault : E) (a b : Option (List ℕ)) (fa fb : ℕ)
    (first rest : List ℕ) (error : E)
    → Writes {T = T} fault a b fa fb first (Err error)
    → Writes {T = U} fault a b fa fb (first ++ rest) (Err error)
writes-stopped fault a b fa fb first rest error one = record {
  all = tt;
  front = gains_front-longer a b first rest one.front;
  never_falls = one.never_falls;
  rose = λ is. one.rose (let same : error ≡ fault = cc in ap (λ e. Err e) same);
  raised = λ is. one.raised (let same : error ≡ fault = cc in ap (λ e. Err e) same);
  kept = ⊎_elim (λ is. inl (let same : error ≡ fault = cc in ap (λ e. Err e) same))
      (λ same. inr same) one.kept;
}

-- another error, at which nothing was written
pub writes-refused : {T E : Type 0} (fault : E) (now : Option (List ℕ)) (faults : ℕ)
    (octets : List ℕ) (error : E) → ¬ (error ≡ fault)
    → Writes {T = T} fault now now faults faults octets (Err error)
writes-refused fault now faults octets error other = record {
  all = tt;
  front = gains_front-none now octets;
  never_falls = omega arith;
  rose = λ is. absurd (other cc);
  raised = λ is. absurd (other cc);
  kept = inr refl;
}
