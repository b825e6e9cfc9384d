-- What holds of a value that may be there.
use Rattle.std.proofs.Common.{Option, Some, None}
use Rattle.std.specs.Prelude.{IfSome}

pub if_some_map : {A : Type 0} (P Q : A → Type 0) (value : Option A) → ((x : A) → P x → Q x)
    → IfSome value P → IfSome value Q
if_some_map P Q (Some x) more holds = more x holds
if_some_map P Q None more holds = tt
