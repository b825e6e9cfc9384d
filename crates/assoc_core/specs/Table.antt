-- The table of state and message of an association (CCSDS 911.1-B, 911.2-B and 912.1-B, the
-- provider's state tables; opening and closing are own).
use Rattle.std.specs.Prelude.{Option, Some, None, unwrap_or, option_and_then}
use Rattle.assoc_core.specs.declared.outcome.Outcome.{Outcome}
use Rattle.assoc_core.specs.declared.outcome.Outcome.TheVariants.{Context, Bound, Denied, Started}
use Rattle.assoc_core.specs.declared.outcome.Outcome.TheVariants.{Stopped, Unbound, Kept}
use Rattle.assoc_core.specs.Kind.{Kind, context, heartbeat, bind, unbind, peer_abort, start, stop}
use Rattle.assoc_core.specs.Kind.{report, parameter, throw, transfer}

pub data Phase : Type 0 where
  opening : Phase
  unbound : Phase
  ready : Phase
  active : Phase
  closing : Phase

-- In this state this message is accepted, and then the state is this one: where the message has a
-- return, after a positive one. THROW-EVENT and TRANSFER-DATA are decoded for forward services
-- alone.
abbrev pub follows : Phase → Kind → Option Phase
follows opening context = Some unbound
follows unbound bind = Some ready
follows ready start = Some active
follows ready unbind = Some closing
follows active stop = Some ready
follows ready report = Some ready
follows active report = Some active
follows ready parameter = Some ready
follows active parameter = Some active
follows ready throw = Some ready
follows active throw = Some active
follows active transfer = Some active
follows unbound heartbeat = Some unbound
follows ready heartbeat = Some ready
follows active heartbeat = Some active
follows unbound peer_abort = Some closing
follows ready peer_abort = Some closing
follows active peer_abort = Some closing
follows _ _ = None

-- the message whose positive answer an outcome tells
abbrev pub succeeded : Outcome → Option Kind
succeeded Context = Some context
succeeded (Bound _ _) = Some bind
succeeded Started = Some start
succeeded Stopped = Some stop
succeeded Unbound = Some unbind
succeeded Denied = None
succeeded Kept = None

-- the state that follows by the table; a negative answer leaves it, and accessDenied closes it
abbrev pub next : Phase → Outcome → Phase
next phase Denied = closing
next phase outcome =
    unwrap_or (option_and_then (λ kind. follows phase kind) (succeeded outcome)) phase
