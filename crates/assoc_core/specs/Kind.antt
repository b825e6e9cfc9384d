-- The messages of a user, by kind.
use Rattle.std.specs.Prelude.{ℕ, List, [], Option}
use Rattle.sle_common.specs.declared.credentials.Credentials.{Credentials}
use Rattle.sle_common.specs.Credentials.{credentials_of}
use Rattle.assoc_core.specs.declared.pdu_kind.PduKind.{PduKind}
use Rattle.assoc_core.specs.declared.pdu_kind.PduKind.TheVariants.{Context, Heartbeat, Bind, Unbind}
use Rattle.assoc_core.specs.declared.pdu_kind.PduKind.TheVariants.{PeerAbort, Start, Stop, Report}
use Rattle.assoc_core.specs.declared.pdu_kind.PduKind.TheVariants.{Parameter, Throw, Transfer}
use Rattle.assoc_core.specs.declared.pdu_kind.PduKind.TheVariants.{Other, Undecoded}

-- a context and a heartbeat are messages of the transport; other has a tag that is out of place in
-- unbound; undecoded spells no PDU that the provider decodes
pub data Kind : Type 0 where
  context : Kind
  heartbeat : Kind
  bind : Kind
  unbind : Kind
  peer_abort : Kind
  start : Kind
  stop : Kind
  report : Kind
  parameter : Kind
  throw : Kind
  transfer : Kind
  other : Kind
  undecoded : Kind

abbrev pub kind_of : PduKind → Kind
kind_of Context = context
kind_of Heartbeat = heartbeat
kind_of (Bind _) = bind
kind_of Unbind = unbind
kind_of PeerAbort = peer_abort
kind_of Start = start
kind_of Stop = stop
kind_of Report = report
kind_of Parameter = parameter
kind_of Throw = throw
kind_of Transfer = transfer
kind_of Other = other
kind_of Undecoded = undecoded

-- the initiator that a BIND names
abbrev pub initiator_of : PduKind → List ℕ
initiator_of (Bind initiator) = initiator.now
initiator_of _ = []

-- a message: its kind, a BIND's initiator, the octets of its credentials where they are used, and
-- the moment at which it is handled
pub record Message : Type 0 where
  pub kind : Kind
  pub initiator : List ℕ
  pub credentials : Option (List ℕ)
  pub now : ℕ

abbrev pub message_of : PduKind → Credentials → ℕ → Message
message_of kind credentials now =
    record {
      kind = kind_of kind;
      initiator = initiator_of kind;
      credentials = credentials_of credentials;
      now = now;
    }
