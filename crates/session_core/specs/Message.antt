-- What a user's message says, in a state of the association, and whether it passes.
use Rattle.std.specs.Prelude.{ℕ, List, [], Option, Some, None, Result, Ok, Err}
use Rattle.ber_core.specs.declared.fault.BerFault.{BerFault}
use Rattle.ber_shape.specs.Exact.{whole}
use Rattle.isp1_tml.specs.Message.{Content, pdu}
use Rattle.isp1_tml.specs.Message as tml
use Rattle.bind_pdu.specs.Aborting.{peer_abort as peer_abort_pdu}
use Rattle.bind_pdu.specs.Binding.{BindContent, bind as bind_pdu}
use Rattle.bind_pdu.specs.Unbinding.{UnbindContent, unbind as unbind_pdu}
use Rattle.station_config.specs.declared.service.Service.{Service}
use Rattle.station_config.specs.declared.site.Site.{Site}
use Rattle.assoc_core.specs.declared.outer_tag.OuterTag.{OuterTag}
use Rattle.assoc_core.specs.declared.outer_tag.OuterTag.TheVariants as tag
use Rattle.assoc_core.specs.declared.state.State.{State}
use Rattle.assoc_core.specs.declared.state.State.TheVariants.{Opening, Unbound, Ready, Active}
use Rattle.assoc_core.specs.declared.state.State.TheVariants.{Closing}
use Rattle.assoc_core.specs.declared.step.Step.{Step}
use Rattle.assoc_core.specs.Association.{step}
use Rattle.assoc_core.specs.Kind.{Kind, Message}
use Rattle.assoc_core.specs.Kind as kind
use Rattle.assoc_core.specs.OuterTag.{outer_tag}
use Rattle.session_services.specs.Service.{Invocation, invocation_in, invocation_kind}
use Rattle.session_services.specs.Service.{invocation_credentials}

-- a context with its interval and its dead factor; a heartbeat; a BIND, an UNBIND and a PEER-ABORT
-- with their fields; what is said to the bound service; octets that don't decode; a PDU that isn't
-- decoded where it stands
pub data UserContent : Type 0 where
  context : ℕ → ℕ → UserContent
  heartbeat : UserContent
  bind : BindContent → UserContent
  unbind : UnbindContent → UserContent
  peer_abort : ℕ → UserContent
  invocation : Invocation → UserContent
  undecoded : UserContent
  out_of_place : UserContent

-- ---- what is read

abbrev pub bind_read : Result BindContent BerFault → UserContent
bind_read (Ok b) = bind b
bind_read (Err _) = undecoded

-- what is said to the bound service; where none is bound nothing decodes
abbrev pub service_read : Option Service → List ℕ → UserContent
service_read (Some bound) octets = invocation (invocation_in bound octets)
service_read None octets = undecoded

-- an UNBIND, or else what is said to the service
abbrev pub unbind_read : Result UnbindContent BerFault → Option Service → List ℕ → UserContent
unbind_read (Ok u) service octets = unbind u
unbind_read (Err _) service octets = service_read service octets

abbrev pub peer_abort_read : Result ℕ BerFault → UserContent
peer_abort_read (Ok diagnostic) = peer_abort diagnostic
peer_abort_read (Err _) = undecoded

-- before a BIND the outer tag is judged before anything is decoded
abbrev pub said_unbound : OuterTag → List ℕ → UserContent
said_unbound tag.Bind octets = bind_read (whole bind_pdu.read octets)
said_unbound tag.PeerAbort octets = peer_abort_read (whole peer_abort_pdu.read octets)
said_unbound tag.Other octets = out_of_place
said_unbound tag.Missing octets = undecoded

-- what a user says that is bound to a service
abbrev pub said_bound : Option Service → OuterTag → List ℕ → UserContent
said_bound service tag.Bind octets = bind_read (whole bind_pdu.read octets)
said_bound service tag.PeerAbort octets = peer_abort_read (whole peer_abort_pdu.read octets)
said_bound service tag.Other octets =
    unbind_read (whole unbind_pdu.read octets) service octets
said_bound service tag.Missing octets = undecoded

-- a PDU in each state; in opening and in closing none is decoded
abbrev pub pdu_said : Option Service → State → List ℕ → UserContent
pdu_said service Unbound octets = said_unbound (outer_tag octets) octets
pdu_said service (Ready _) octets = said_bound service (outer_tag octets) octets
pdu_said service (Active _) octets = said_bound service (outer_tag octets) octets
pdu_said service Opening octets = out_of_place
pdu_said service Closing octets = out_of_place

abbrev pub said_in : Option Service → State → Content → UserContent
said_in service state (tml.context interval factor) = context interval factor
said_in service state tml.heartbeat = heartbeat
said_in service state (pdu octets) = pdu_said service state octets

-- ---- whether it passes

abbrev pub kind_of : UserContent → Kind
kind_of (context _ _) = kind.context
kind_of heartbeat = kind.heartbeat
kind_of (bind _) = kind.bind
kind_of (unbind _) = kind.unbind
kind_of (peer_abort _) = kind.peer_abort
kind_of (invocation i) = invocation_kind i
kind_of undecoded = kind.undecoded
kind_of out_of_place = kind.other

abbrev pub initiator_of : UserContent → List ℕ
initiator_of (bind b) = b.initiator
initiator_of _ = []

abbrev pub credentials_of : UserContent → Option (List ℕ)
credentials_of (bind b) = b.credentials
credentials_of (unbind u) = u.credentials
credentials_of (invocation i) = invocation_credentials i
credentials_of _ = None

abbrev pub message_of : UserContent → ℕ → Message
message_of said now =
    record {
      kind = kind_of said;
      initiator = initiator_of said;
      credentials = credentials_of said;
      now = now;
    }

-- what becomes of it at a moment, by the association
abbrev pub judged : Site → State → UserContent → ℕ → Step
judged site state said now = step site state (message_of said now)
