-- What becomes of a message, and of the association.
use Rattle.std.specs.Prelude.{Bool, true, false, not, is_some, if◌then◌else◌}
use Rattle.sle_numbers.specs.declared.peer_abort_diagnostic.PeerAbortDiagnostic.TheVariants as why
use Rattle.station_config.specs.declared.site.Site.{Site}
use Rattle.assoc_core.specs.declared.state.State.{State}
use Rattle.assoc_core.specs.declared.state.State.TheVariants.{Unbound, Ready, Active}
use Rattle.assoc_core.specs.declared.state.State.TheVariants.{Closing}
use Rattle.assoc_core.specs.declared.step.Step.{Step}
use Rattle.assoc_core.specs.declared.step.Step.TheVariants.{Pass, Denied, Abort}
use Rattle.assoc_core.specs.Kind.{Kind, bind, peer_abort, throw, transfer, other, undecoded}
use Rattle.assoc_core.specs.Kind.{Message}
use Rattle.assoc_core.specs.Table.{follows}
use Rattle.assoc_core.specs.State.{phase_of}
use Rattle.assoc_core.specs.Access.{is_admitted}

-- whether the provider decodes a message for a service
abbrev pub is_of_service : Bool → Kind → Bool
is_of_service forward throw = forward
is_of_service forward transfer = forward
is_of_service forward other = false
is_of_service forward undecoded = false
is_of_service forward _ = true

-- Whether a message decodes, where that is asked: in opening and closing no PDU is decoded, and in
-- unbound the tag tells it.
abbrev pub is_decoded : State → Kind → Bool
is_decoded Unbound undecoded = false
is_decoded (Ready binding) kind = is_of_service binding.forward kind
is_decoded (Active binding) kind = is_of_service binding.forward kind
is_decoded _ _ = true

-- whether the table has a row for a message
abbrev pub is_in_place : State → Kind → Bool
is_in_place state kind = is_some (follows (phase_of state) kind)

-- what becomes of a message with credentials that fail
abbrev pub refusal : Kind → Step
refusal bind = Denied
refusal _ = Abort why.AccessDenied

-- Decoding comes before the state, the state before credentials, and credentials before the
-- service.
abbrev pub step : Site → State → Message → Step
step site state m =
    if not (is_decoded state m.kind) then Abort why.EncodingError
    else if not (is_in_place state m.kind) then Abort why.ProtocolError
    else if not (is_admitted site state m) then refusal m.kind
    else Pass

-- an association goes on after a message that passes, but for PEER-ABORT
abbrev pub goes_on : Kind → Step → Bool
goes_on peer_abort _ = false
goes_on _ Pass = true
goes_on _ _ = false

-- the state after a message, before its outcome is told
abbrev pub after_step : State → Kind → Step → State
after_step state kind step = if goes_on kind step then state else Closing
