-- Texts that are written one after another.
use Rattle.std.proofs.Common.{◌≡◌, ℕ, List, [], ◌++◌, Option, Result, Ok, Err, sym, ◌∙◌, refl}
use Rattle.std.proofs.Common.{append_assoc}
use Rattle.std.specs.Result.{IsErrAnd}
use Rattle.octet_core.specs.Written.{Writes}
use Rattle.octet_core.specs.Writing.{writes-none, writes-append, writes-stopped}
use Rattle.user_lines.specs.declared.lines_fault.LinesFault.{LinesFault}
use Rattle.user_lines.specs.declared.lines_fault.LinesFault.TheVariants.{WriteFault}

abbrev pub Wrote : (T : Type 0) → Option (List ℕ) → Option (List ℕ) → ℕ → ℕ → List ℕ
    → Result T LinesFault → Type 0
Wrote T before after f g text result = Writes {T = T} WriteFault before after f g text result

-- an output that held `start` holds `now`, and the rest is what is still to be written of the whole
pub record Behind (start now : Option (List ℕ)) (f g : ℕ) (whole rest : List ℕ) : Type 0 where
  pub so_far : List ℕ
  pub splits : whole ≡ so_far ++ rest
  pub wrote : Wrote (Unit {0}) start now f g so_far (Ok tt)

-- nothing is written yet
pub at_start : (output : Option (List ℕ)) (f : ℕ) (whole : List ℕ)
    → Behind output output f f whole whole
at_start output f whole =
    record { so_far = []; splits = refl; wrote = writes-none WriteFault output f tt }

module _ (start now next : Option (List ℕ)) (f g h : ℕ) (whole : List ℕ) where
  -- a text was written
  pub step_on : (text rest : List ℕ) → Behind start now f g whole (text ++ rest)
      → Wrote (Unit {0}) now next g h text (Ok tt) → Behind start next f h whole rest
  step_on text rest behind wrote = record {
    so_far = behind.so_far ++ text;
    splits = behind.splits ∙ sym (append_assoc behind.so_far text rest);
    wrote = writes-append WriteFault start now next f g h behind.so_far text tt (Ok tt) behind.wrote
        wrote;
  }

  -- a text could not be written whole
  pub stopped_by : {T U : Type 0} (text rest : List ℕ) (e : LinesFault) (result : Result U LinesFault)
      → IsErrAnd result (λ d. d ≡ e) → Behind start now f g whole (text ++ rest)
      → Wrote T now next g h text (Err e) → Wrote U start next f h whole result
  stopped_by text rest e (Ok value) is behind wrote = absurd is
  stopped_by {T} {U} text rest e (Err d) is behind wrote =
      rw (is, behind.splits ∙ sym (append_assoc behind.so_far text rest))
      (writes-stopped {T = T} {U = U} WriteFault start next f h (behind.so_far ++ text) rest e
      (writes-append {U = T} WriteFault start now next f g h behind.so_far text tt (Err e)
      behind.wrote wrote))

  -- the last text was written, or was stopped
  pub ends_with : {T : Type 0} (text : List ℕ) (result : Result T LinesFault)
      → Behind start now f g whole text → Wrote T now next g h text result
      → Wrote T start next f h whole result
  ends_with {T} text result behind wrote =
      rw behind.splits (writes-append {U = T} WriteFault start now next f g h behind.so_far text tt
      result behind.wrote wrote)
