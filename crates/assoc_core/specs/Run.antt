-- Lists of messages of one association, each with what it led to.
use Rattle.std.specs.Prelude.{Bool, true, false, if◌then◌else◌}
use Rattle.std.specs.Prelude.{Option, Some, None, List, [], ◌∷◌}
use Rattle.std.specs.List.{filter_map, AllByRecursion}
use Rattle.station_config.specs.declared.site.Site.{Site}
use Rattle.assoc_core.specs.declared.outcome.Outcome.{Outcome}
use Rattle.assoc_core.specs.declared.outcome.Outcome.TheVariants as outcome
use Rattle.assoc_core.specs.declared.state.State.{State}
use Rattle.assoc_core.specs.declared.step.Step.{Step}
use Rattle.assoc_core.specs.declared.step.Step.TheVariants.{Pass}
use Rattle.assoc_core.specs.Kind.{Kind, context, bind, unbind, start, stop}
use Rattle.assoc_core.specs.Kind.{report, parameter, throw, transfer, Message}
use Rattle.assoc_core.specs.State.{moved}
use Rattle.assoc_core.specs.Association.{step, after_step}

-- a message, and what it led to where it passed
pub record Turn : Type 0 where
  pub message : Message
  pub outcome : Outcome

-- the state after a turn: one that isn't left open by its message stays closed
abbrev pub after_turn : Site → State → Turn → State
after_turn site state turn =
    moved
    (after_step state turn.message.kind (step site state turn.message))
    turn.outcome

abbrev pub after : Site → State → List Turn → State
after site state [] = state
after site state (turn ∷ turns) = after site (after_turn site state turn) turns

-- a turn with what became of its message
pub record Played : Type 0 where
  pub turn : Turn
  pub step : Step

abbrev pub plays : Site → State → List Turn → List Played
plays site state [] = []
plays site state (turn ∷ turns) =
    record { turn = turn; step = step site state turn.message }
    ∷ plays site (after_turn site state turn) turns

abbrev pub is_pass : Step → Bool
is_pass Pass = true
is_pass _ = false

abbrev pub passed_kind : Played → Option Kind
passed_kind p = if is_pass p.step then Some p.turn.message.kind else None

-- the kinds of the messages that passed, in order
abbrev pub passed : List Played → List Kind
passed played = filter_map passed_kind played

-- the messages of a service: those that only a bound user may send
abbrev pub is_of_bound : Kind → Bool
is_of_bound unbind = true
is_of_bound start = true
is_of_bound stop = true
is_of_bound report = true
is_of_bound parameter = true
is_of_bound throw = true
is_of_bound transfer = true
is_of_bound _ = false

-- What a message of a kind may lead to: a context is taken; a BIND, a START and a STOP are answered
-- positively or not; an UNBIND is answered; the others leave the state.
abbrev pub MayLead : Kind → Outcome → Type 0
MayLead context outcome.Context = Unit {0}
MayLead bind (outcome.Bound _ _) = Unit {0}
MayLead bind outcome.Denied = Unit {0}
MayLead bind outcome.Kept = Unit {0}
MayLead start outcome.Started = Unit {0}
MayLead start outcome.Kept = Unit {0}
MayLead stop outcome.Stopped = Unit {0}
MayLead stop outcome.Kept = Unit {0}
MayLead unbind outcome.Unbound = Unit {0}
MayLead context _ = ⊥
MayLead bind _ = ⊥
MayLead start _ = ⊥
MayLead stop _ = ⊥
MayLead unbind _ = ⊥
MayLead _ outcome.Kept = Unit {0}
MayLead _ _ = ⊥

-- a list of turns whose messages led to what they may lead to
abbrev pub AreLed : List Turn → Type 0
AreLed turns = AllByRecursion (λ turn. MayLead turn.message.kind turn.outcome) turns
