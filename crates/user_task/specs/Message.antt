-- The messages of a task's invocations (CCSDS 911.1-B, 911.2-B and 912.1-B, annex A; CCSDS 913.1-B).
-- The port and the version are this product's own.
use Rattle.std.specs.Prelude.{ℕ, Bool, nat_le, List, [], Option, Some, None, codes}
use Rattle.ber_core.specs.Spelling.{canonical}
use Rattle.ber_shape.specs.Element.{Element}
use Rattle.bind_pdu.specs.Binding.{BindContent, bind as bind_pdu}
use Rattle.bind_pdu.specs.Unbinding.{UnbindContent, unbind as unbind_pdu}
use Rattle.cds_time.specs.Moment.{octets_of, in_micros}
use Rattle.fcltu_pdu.specs.Start.{Start, start_pdu}
use Rattle.fcltu_pdu.specs.Transfer.{Transfer, transfer_pdu}
use Rattle.isp1_auth.specs.declared.hash.Hash.{Hash}
use Rattle.isp1_auth.specs.declared.secret.Secret.{Secret}
use Rattle.isp1_auth.specs.Signed.{signed}
use Rattle.isp1_tml.specs.Message.{pdu, spelling}
use Rattle.isp1_tml.specs.declared.message.TheConstants.{LONGEST_PDU}
use Rattle.return_pdu.specs.Scheduling.{ScheduleContent, schedule as schedule_pdu}
use Rattle.return_pdu.specs.Starting.{RafStartContent, RcfStartContent, raf_start, rcf_start}
use Rattle.return_pdu.specs.Stopping.{StopContent, stop as stop_pdu}
use Rattle.sle_common.specs.declared.report_kind.ReportKind.TheVariants.{Cycle}
use Rattle.sle_numbers.specs.ServiceType as services
use Rattle.sle_numbers.specs.UnbindReason as reasons
use Rattle.sle_numbers.specs.declared.unbind_reason.UnbindReason.TheVariants.{End}
use Rattle.user_task.specs.declared.cltus.CltuLine.{CltuLine}
use Rattle.user_task.specs.declared.task.Signing.{Signing}
use Rattle.user_task.specs.declared.task.Signing.TheVariants.{Unused, Used}
use Rattle.user_task.specs.declared.task.Task.{Task}
use Rattle.user_task.specs.declared.work.Work.{Work}
use Rattle.user_task.specs.declared.work.Work.TheVariants.{Show, Raf, Rcf, Cltu}
use Rattle.user_task.specs.Invocation.{Said, bind, start, schedule, transfer, stop, unbind}
use Rattle.user_task.specs.Work.{service_of}

-- a PDU as a message of the transport
abbrev pub message_of : {X : Type 0} → Element X → X → List ℕ
message_of element content = spelling (pdu (canonical (element.tree content)))

-- whether each PDU of a kind goes into a message
abbrev pub is_short : {X : Type 0} → Element X → Bool
is_short element = nat_le element.most LONGEST_PDU

-- ---- credentials

-- a name and a password, wherever they stand
abbrev pub secret_of : List ℕ → Hash → List ℕ → Secret
secret_of name hash pass = record {
  name = record { ref_ptr = (0, 0); now = name };
  pass = record { ref_ptr = (0, 0); now = pass };
  hash = hash;
  credential_age = 0;
}

-- where the user has a password: its credentials, made at a moment with a number
abbrev pub credentials_by : Signing → List ℕ → ℕ → ℕ → Option (List ℕ)
credentials_by Unused name number now = None
credentials_by (Used hash pass) name number now =
    Some (signed (secret_of name hash pass) (octets_of (in_micros now)) number)

abbrev pub credentials_of_task : Task → ℕ → ℕ → Option (List ℕ)
credentials_of_task task number now = credentials_by task.signing task.name number now

-- ---- invocations, with their invoke identifiers and credentials

abbrev pub bind_said : Task → Option (List ℕ) → BindContent
bind_said task credentials = record {
  credentials = credentials;
  initiator = task.name;
  port = codes "PORT1";
  service = services.number_of (service_of task.work);
  version = 5;
  instance = task.instance;
}

-- periodically, each so many seconds
abbrev pub schedule_said : ℕ → ℕ → Option (List ℕ) → ScheduleContent
schedule_said cycle invoke credentials =
    record { credentials = credentials; invoke = invoke; report = Cycle cycle }

abbrev pub transfer_said : CltuLine → ℕ → Option (List ℕ) → Transfer
transfer_said line invoke credentials = record {
  credentials = credentials;
  invoke = invoke;
  id = line.id;
  earliest = line.earliest;
  latest = line.latest;
  radiation_delay = line.radiation_delay;
  wanted = line.wanted;
  octets = line.octets;
}

-- START of the work's service; what only reads has none
abbrev pub start_message : Work → ℕ → Option (List ℕ) → List ℕ
start_message (Show service) invoke credentials = []
start_message (Raf from to quality report) invoke credentials =
    message_of raf_start
    (record {
      credentials = credentials;
      invoke = invoke;
      start = from;
      stop = to;
      quality = quality;
    })
start_message (Rcf from to channel report) invoke credentials =
    message_of rcf_start
    (record {
      credentials = credentials;
      invoke = invoke;
      start = from;
      stop = to;
      channel = channel;
    })
start_message (Cltu first cltus report) invoke credentials =
    message_of start_pdu (record { credentials = credentials; invoke = invoke; first = first })

-- the message of an invocation; BIND and UNBIND have no invoke identifier
abbrev pub message : Task → Said → ℕ → Option (List ℕ) → List ℕ
message task bind invoke credentials = message_of bind_pdu (bind_said task credentials)
message task start invoke credentials = start_message task.work invoke credentials
message task (schedule cycle) invoke credentials =
    message_of schedule_pdu (schedule_said cycle invoke credentials)
message task (transfer line) invoke credentials =
    message_of transfer_pdu (transfer_said line invoke credentials)
message task stop invoke credentials =
    message_of stop_pdu (record { credentials = credentials; invoke = invoke })
message task unbind invoke credentials =
    message_of unbind_pdu
    (record { credentials = credentials; reason = reasons.number_of End })
