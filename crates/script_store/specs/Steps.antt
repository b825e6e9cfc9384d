-- Texts that are written one after another: facts for callers that write several, which stand here
-- since a clause can range over no facts.
use Rattle.std.proofs.Common.{◌≡◌, ℕ, List, [], ◌++◌, Option, Result, Ok, Err, sym, subst, ◌∙◌}
use Rattle.std.proofs.Common.{refl, append_assoc, inr, ⊎_elim}
use Rattle.std.proofs.lemmas.List.{append-nil}
use Rattle.std.specs.Result.{IsErrAnd}
use Rattle.octet_core.specs.Writing.{writes-none, writes-append, writes-stopped, writes-refused}
use Rattle.script_store.specs.declared.stop.Stop.{Stop}
use Rattle.script_store.specs.declared.stop.Stop.TheVariants.{Memory, WriteFault}
use Rattle.script_store.specs.Output.{Wrote}

-- an output that held `start` holds `now`, and the rest is what is still to be written of the whole
pub record Behind (start now : Option (List ℕ)) (faults_start faults_now : ℕ)
    (whole rest : List ℕ) : Type 0 where
  pub so_far : List ℕ
  pub splits : whole ≡ so_far ++ rest
  pub wrote : Wrote {T = Unit {0}} start now faults_start faults_now so_far (Ok tt)

-- whatever value a call answers
with_value : {T U : Type 0} (a b : Option (List ℕ)) (fa fb : ℕ) (text : List ℕ) (t : T) (u : U)
    → Wrote {T = T} a b fa fb text (Ok t) → Wrote {T = U} a b fa fb text (Ok u)
with_value a b fa fb text t u wrote = record {
  all = wrote.all;
  front = tt;
  never_falls = wrote.never_falls;
  rose = λ is. absurd cc;
  raised = λ is. absurd cc;
  kept = inr (⊎_elim (λ is. absurd cc) (λ same. same) wrote.kept);
}

-- nothing is written yet
pub at_start : (output : Option (List ℕ)) (faults : ℕ) (whole : List ℕ)
    → Behind output output faults faults whole whole
at_start output faults whole = record {
  so_far = [];
  splits = refl;
  wrote = writes-none WriteFault output faults tt;
}

-- the same text, as another term
pub behind_as : (start now : Option (List ℕ)) (f g : ℕ) (whole text other : List ℕ) → text ≡ other
    → Behind start now f g whole text → Behind start now f g whole other
behind_as start now f g whole text other is behind = subst (Behind start now f g whole) is behind

-- a text was written
pub step_on : {T : Type 0} (start now next : Option (List ℕ)) (f g h : ℕ) (whole text rest : List ℕ)
    (value : T) → Behind start now f g whole (text ++ rest)
    → Wrote {T = T} now next g h text (Ok value) → Behind start next f h whole rest
step_on start now next f g h whole text rest value behind wrote = record {
  so_far = behind.so_far ++ text;
  splits = behind.splits ∙ sym (append_assoc behind.so_far text rest);
  wrote = with_value start next f h (behind.so_far ++ text) value tt
      (writes-append WriteFault start now next f g h behind.so_far text tt (Ok value) behind.wrote
      wrote);
}

-- all is written
pub at_end : {T : Type 0} (start now : Option (List ℕ)) (f g : ℕ) (whole : List ℕ) (value : T)
    → Behind start now f g whole [] → Wrote {T = T} start now f g whole (Ok value)
at_end {T} start now f g whole value behind =
    subst (λ text. Wrote {T = T} start now f g text (Ok value))
    (sym (behind.splits ∙ append-nil behind.so_far))
    (with_value start now f g behind.so_far tt value behind.wrote)

-- a text could not be written whole
pub stopped_by : {T U : Type 0} (start now next : Option (List ℕ)) (f g h : ℕ)
    (whole text rest : List ℕ) (stop : Stop) (result : Result U Stop)
    → IsErrAnd result (λ e. e ≡ stop) → Behind start now f g whole (text ++ rest)
    → Wrote {T = T} now next g h text (Err stop) → Wrote {T = U} start next f h whole result
stopped_by start now next f g h whole text rest stop (Ok value) is behind wrote = absurd is
stopped_by {T} {U} start now next f g h whole text rest stop (Err e) is behind wrote =
    rw (is, behind.splits ∙ sym (append_assoc behind.so_far text rest))
    (writes-stopped {T = T} {U = U} WriteFault start next f h (behind.so_far ++ text) rest stop
    (writes-append {U = T} WriteFault start now next f g h behind.so_far text tt (Err stop)
    behind.wrote wrote))

-- nothing of the next text was written, for want of memory
pub stopped_before : {T : Type 0} (start now : Option (List ℕ)) (f g : ℕ) (whole rest : List ℕ)
    → Behind start now f g whole rest → Wrote {T = T} start now f g whole (Err Memory)
stopped_before {T} start now f g whole rest behind =
    rw behind.splits (writes-append {U = T} WriteFault start now now f g g behind.so_far rest tt
    (Err Memory) behind.wrote
    (writes-refused WriteFault now g rest Memory (λ is. absurd cc)))

-- the last text was written, or was stopped
pub ends_with : {T : Type 0} (start now next : Option (List ℕ)) (f g h : ℕ) (whole text : List ℕ)
    (result : Result T Stop) → Behind start now f g whole text
    → Wrote {T = T} now next g h text result → Wrote {T = T} start next f h whole result
ends_with {T} start now next f g h whole text result behind wrote =
    rw behind.splits (writes-append {U = T} WriteFault start now next f g h behind.so_far text tt
    result behind.wrote wrote)
