-- What holds of a result's value.
use Rattle.std.proofs.Common.{Result, Ok, Err}
use Rattle.std.specs.Prelude.{IfOk}

pub if_ok_map : {T E : Type 0} (P Q : T → Type 0) (result : Result T E) → ((x : T) → P x → Q x)
    → IfOk result P → IfOk result Q
if_ok_map P Q (Ok x) more holds = more x holds
if_ok_map P Q (Err e) more holds = tt
