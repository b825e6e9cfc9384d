-- What a call that writes lines has written, and why it stops.
use Rattle.std.specs.Prelude.{ℕ, Option, Result, List}
use Rattle.octet_core.specs.Written.{Writes}
use Rattle.script_store.specs.declared.stop.Stop.{Stop}
use Rattle.script_store.specs.declared.stop.Stop.TheVariants.{WriteFault}

-- The output has gained the text; a call that stops has written what begins it. It tells a write
-- fault exactly where the output failed, once; else the output's count of faults is as it was.
abbrev pub Wrote : {T : Type 0} → Option (List ℕ) → Option (List ℕ) → ℕ → ℕ → List ℕ → Result T Stop
    → Type 0
Wrote before after faults_before faults_after text result =
    Writes WriteFault before after faults_before faults_after text result
