-- The lines of a stream, and the one behind them.
use Rattle.std.proofs.Common.{◌≡◌, ℕ, Bool, true, false, List, Option, Result, Ok, Err, inl, inr, ap}
use Rattle.std.proofs.Common.{⊎_elim}
use Rattle.octet_core.specs.Written.{Writes}
use Rattle.octet_core.specs.Writing.{writes-append, writes-stopped}
use Rattle.user_show.specs.Closing.{text_by}

-- a bad message was told last
pub whole : {T U E : Type 0} (fault : E) (a b : Option (List ℕ)) (fa fb : ℕ)
    (bad : Bool) (text line : List ℕ) (value : T) (now : U) → bad ≡ true
    → Writes {T = T} fault a b fa fb text (Ok value)
    → Writes {T = U} fault a b fa fb (text_by bad text line) (Ok now)
whole fault a b fa fb true text line value now is one = record {
  all = one.all;
  front = tt;
  never_falls = one.never_falls;
  rose = λ is. absurd cc;
  raised = λ is. absurd cc;
  kept = inr (⊎_elim (λ is. absurd cc) (λ same. same) one.kept);
}
whole fault a b fa fb false text line value now is one = absurd cc

-- a line stands behind the messages
pub went_on : {T U E : Type 0} (fault : E) (a b c : Option (List ℕ)) (fa fb fc : ℕ)
    (bad : Bool) (text line : List ℕ) (value : T) (result : Result U E) → bad ≡ false
    → Writes {T = T} fault a b fa fb text (Ok value) → Writes {T = U} fault b c fb fc line result
    → Writes {T = U} fault a c fa fc (text_by bad text line) result
went_on fault a b c fa fb fc true text line value result is one two = absurd cc
went_on fault a b c fa fb fc false text line value result is one two =
    writes-append fault a b c fa fb fc text line value result one two

-- the lines of the messages weren't all written
pub stopped : {T U E : Type 0} (fault : E) (a b : Option (List ℕ)) (fa fb : ℕ)
    (bad : Bool) (text line : List ℕ) (error : E)
    → Writes {T = T} fault a b fa fb text (Err error)
    → Writes {T = U} fault a b fa fb (text_by bad text line) (Err error)
stopped fault a b fa fb true text line error one = record {
  all = tt;
  front = one.front;
  never_falls = one.never_falls;
  rose = λ is. one.rose (let same : error ≡ fault = cc in ap (λ e. Err e) same);
  raised = λ is. one.raised (let same : error ≡ fault = cc in ap (λ e. Err e) same);
  kept = ⊎_elim (λ is. inl (let same : error ≡ fault = cc in ap (λ e. Err e) same))
      (λ same. inr same) one.kept;
}
stopped fault a b fa fb false text line error one =
    writes-stopped fault a b fa fb text line error one
