-- How a drill ends, by what became of its script.
use Rattle.std.proofs.Common.{◌≡◌, ℕ, ◌⊎◌, ◌≤◌, Bool, true, false, List, length, Option, Some}
use Rattle.std.proofs.Common.{None, Result, Ok, Err, subst, ap, inl, inr, refl, sym, ⊎_elim}
use Rattle.std.specs.Result.{IfErr}
use Rattle.std.specs.Option.{IfSome}
use Rattle.octet_core.specs.Fault.{count_up}
use Rattle.octet_core.specs.Written.{Gains, GainsFront}
use Rattle.script_store.specs.declared.stop.Stop.{Stop}
use Rattle.script_store.specs.declared.stop.Stop.TheVariants as stops
use Rattle.script_store.specs.Output.{Wrote}
use Rattle.station_law.specs.State.{start}
use Rattle.station_law.specs.Lines.{step_text}
use Rattle.station_law.specs.Runs.{in_order, all_fine}
use Rattle.command_ends.specs.declared.status.Status.{Status}
use Rattle.command_ends.proofs.Closing.{unraised}
use Rattle.script_commands.specs.Drilled.{text_by, status_by, ran, ended, Drilled}
use Rattle.script_commands.specs.Drilled.{HasText, HasReads, HasWrites, HasScript}
use Rattle.script_head.specs.Lines.{lines_of}
use Rattle.command_ends.specs.Outside.{Outside, showing}
use Rattle.script_commands.specs.Script.{Script, bad_site, no_end, runs, script_of}
use Rattle.script_head.specs.Lines.{most_octets}
use Rattle.script_commands.specs.Script.{status_of}
use Rattle.script_commands.specs.Script as script

-- the octets that were read are those that the input had left, where it tells
of_input : (left : Option (List ℕ)) (read : List ℕ) (IsSo : List ℕ → Type 0)
    → IfSome left (λ octets. read ≡ octets) → IsSo read → IfSome left IsSo
of_input None read IsSo same so = tt
of_input (Some octets) read IsSo same so = subst IsSo same so

-- a script whose lines or head were read to their end ran
ran_by : (good fine : Bool) → ended (script.status_by good fine) ≡ ran
ran_by false fine = refl
ran_by true true = refl
ran_by true false = refl

ends_ran : (s : Script) → ended (status_of s) ≡ ran
ends_ran (bad_site refusal) = refl
ends_ran (no_end number) = refl
ends_ran (runs site lines) =
    ran_by (in_order step_text (start site) lines) (all_fine step_text (start site) lines)

module _ (left left_now before after : Option (List ℕ)) (r s f g : ℕ) (script : List ℕ)
    (read : IfSome left (λ octets. script ≡ octets)) (short : length script ≤ most_octets)
    (kept : s ≡ r) where
  abbrev old : Outside
  old = showing left r before f

  abbrev new : Outside
  new = showing left_now s after g

  -- all of its text was written, and it ends with its status
  pub ran_whole : (status : Status)
      → Wrote {T = Status} before after f g (text_by script) (Ok status)
      → status ≡ status_by script
      → Drilled (showing left r before f) (showing left_now s after g) status
  ran_whole status wrote is =
      let whole : ran ≡ ended status = rw is (sym (ends_ran (script_of (lines_of script)))) in
      record {
        text = subst (HasText old new) whole
            (of_input left script (λ script. Gains before after (text_by script)) read wrote.all);
        reads = subst (HasReads old new) whole kept;
        writes = subst (HasWrites old new) whole
            (unraised before after f g (text_by script) (Ok status) wrote (λ is. absurd cc));
        script = subst (HasScript old status) whole
            (of_input left script
            (λ script. (length script ≤ most_octets) × (status_by script ≡ status)) read
            (short, sym is));
      }

-- a status's own line, by a call that fails by the output alone
pub gains_line : {T : Type 0} (before after : Option (List ℕ)) (f g : ℕ) (line : List ℕ)
    (result : Result T Stop) → Wrote {T = T} before after f g line result
    → IfErr result (λ stop. stop ≡ stops.WriteFault)
    → (Gains before after line × (g ≡ f)) ⊎ (GainsFront before after line × (g ≡ count_up f))
gains_line before after f g line (Ok value) wrote fault =
    inl (wrote.all, unraised before after f g line (Ok value) wrote (λ is. absurd cc))
gains_line before after f g line (Err stop) wrote fault =
    inr (wrote.front, wrote.raised (ap (λ s. Err s) fault))

-- the count of faults of such a line
pub line_count : {T : Type 0} (before after : Option (List ℕ)) (f g : ℕ) (line : List ℕ)
    (result : Result T Stop) → Wrote {T = T} before after f g line result
    → (g ≡ f) ⊎ (g ≡ count_up f)
line_count before after f g line result wrote =
    ⊎_elim (λ is. inr (wrote.raised is)) (λ same. inl same) wrote.kept
