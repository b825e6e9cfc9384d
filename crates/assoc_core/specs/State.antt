-- The state of an association: its place in the table, and who is bound.
use Rattle.std.specs.Prelude.{Option, Some, None}
use Rattle.assoc_core.specs.declared.outcome.Outcome.{Outcome}
use Rattle.assoc_core.specs.declared.outcome.Outcome.TheVariants.{Bound}
use Rattle.assoc_core.specs.declared.state.Binding.{Binding}
use Rattle.assoc_core.specs.declared.state.State.{State}
use Rattle.assoc_core.specs.declared.state.State.TheVariants.{Opening, Unbound, Ready, Active}
use Rattle.assoc_core.specs.declared.state.State.TheVariants.{Closing}
use Rattle.assoc_core.specs.Table.{Phase, opening, unbound, ready, active, closing, next}

abbrev pub phase_of : State → Phase
phase_of Opening = opening
phase_of Unbound = unbound
phase_of (Ready _) = ready
phase_of (Active _) = active
phase_of Closing = closing

-- who is bound, if one is
abbrev pub binding_of : State → Option Binding
binding_of (Ready binding) = Some binding
binding_of (Active binding) = Some binding
binding_of _ = None

-- the state of a phase; one with nobody bound stands for none that follows
abbrev pub state_in : Phase → Option Binding → State
state_in opening _ = Opening
state_in unbound _ = Unbound
state_in ready (Some binding) = Ready binding
state_in active (Some binding) = Active binding
state_in _ _ = Closing

-- the binding that a BIND's outcome tells
abbrev pub told_binding : Outcome → Option Binding
told_binding (Bound peer forward) = Some (record { peer = peer; forward = forward })
told_binding _ = None

-- who is bound stays so; else it is who an outcome tells
abbrev pub binding_after : Option Binding → Outcome → Option Binding
binding_after (Some binding) outcome = Some binding
binding_after None outcome = told_binding outcome

-- the state after an outcome
abbrev pub moved : State → Outcome → State
moved state outcome =
    state_in (next (phase_of state) outcome) (binding_after (binding_of state) outcome)
