-- Ports that are read one by one.
use Rattle.std.proofs.Common.{◌≡◌, ℕ, Option, Some, None, Bool, true, false, List, [], ◌∷◌, ◌++◌, refl, ap}
use Rattle.std.proofs.Common.{sym, append_assoc, is_some}
use Rattle.std.specs.Prelude.{IsSome}
use Rattle.run_plan.specs.RunPlan.{port_and, plan_with}

-- ports before those that are still to be read
abbrev pub before : List ℕ → Option (List ℕ) → Option (List ℕ)
before ports (Some more) = Some (ports ++ more)
before ports None = None

pub one_more : (ports : List ℕ) (port : ℕ) (more : Option (List ℕ))
    → before ports (port_and (Some port) more) ≡ before (ports ++ port ∷ []) more
one_more ports port None = refl
one_more ports port (Some more) = ap Some (sym (append_assoc ports (port ∷ []) more))

-- whether they are all read doesn't depend on a port before them
pub one_some : (port : ℕ) (more : Option (List ℕ)) → is_some (port_and (Some port) more)
    ≡ is_some more
one_some port None = refl
one_some port (Some more) = refl

pub none_read : (ports : Option (List ℕ)) → is_some ports ≡ false → None ≡ ports
none_read None is = refl
none_read (Some ports) is = absurd cc

-- words whose numbers are read ask for something if their ports are
pub planned : (turns links : ℕ) (path : List ℕ) (feed : ℕ) (antenna : List ℕ)
    (ports : Option (List ℕ)) → IsSome ports
    → IsSome (plan_with (Some turns) (Some links) path (Some feed) antenna ports)
planned turns links path feed antenna (Some ports) is = refl
planned turns links path feed antenna None is = absurd cc
