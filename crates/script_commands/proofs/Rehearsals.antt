-- A rehearsal for which memory was refused.
use Rattle.std.proofs.Common.{◌≡◌, ℕ, ◌≤◌, inr, Option, List, refl}
use Rattle.rehearsal.specs.Script.{IsOfScript}
use Rattle.command_ends.specs.declared.status.Status.TheVariants.{Memory}
use Rattle.command_ends.specs.Ends.{code}
use Rattle.script_commands.specs.Rehearsals.{IsRehearsal}

-- nothing was written
pub unwritten : (n : ℕ) (output : Option (List ℕ)) (faults exit : ℕ) → exit ≡ code Memory
    → ((frames : ℕ) → 1 ≤ frames → frames ≤ 20000 → IsOfScript frames)
    → IsRehearsal n output output faults faults exit
unwritten n output faults exit is law = record {
  tells = inr (is, refl, refl);
  script = law n;
}
