-- The messages that a script's peer sends: with unused credentials, from the port PORT1.
use Rattle.std.specs.Prelude.{ℕ, Bool, nat_le, Option, None, List, codes}
use Rattle.ber_core.specs.Spelling.{canonical}
use Rattle.ber_shape.specs.Element.{Element}
use Rattle.bind_pdu.specs.Binding.{bind, BindContent}
use Rattle.bind_pdu.specs.Unbinding.{unbind, UnbindContent}
use Rattle.cds_time.specs.declared.cds.Cds.{Cds}
use Rattle.fcltu_pdu.specs.Start.{Start as CltuStartContent, start_pdu}
use Rattle.fcltu_pdu.specs.Transfer.{Transfer, transfer_pdu}
use Rattle.isp1_tml.specs.Message.{Content, context, pdu}
use Rattle.return_pdu.specs.Starting.{RafStartContent, raf_start, RcfStartContent, rcf_start}
use Rattle.return_pdu.specs.Stopping.{StopContent, stop}
use Rattle.return_pdu.specs.Scheduling.{ScheduleContent, schedule}
use Rattle.return_pdu.specs.Getting.{GetParameterContent, get_parameter}
use Rattle.sle_common.specs.declared.gvcid.Gvcid.{Gvcid}
use Rattle.sle_common.specs.declared.instance_id.InstancePart.{InstancePart}
use Rattle.sle_common.specs.declared.report_kind.ReportKind.{ReportKind}
use Rattle.sle_numbers.specs.declared.requested_frame_quality.RequestedFrameQuality.{RequestedFrameQuality}
use Rattle.sle_numbers.specs.UnbindReason.{number_of}
use Rattle.sle_numbers.specs.declared.unbind_reason.UnbindReason.TheVariants.{End}
use Rattle.drill_text.specs.declared.ask_line.AskLine.{AskLine}
use Rattle.drill_text.specs.declared.ask_line.AskLine.TheVariants.{Context, Bind, Unbind}
use Rattle.drill_text.specs.declared.ask_line.AskLine.TheVariants.{StartRaf, StartRcf, StartCltu}
use Rattle.drill_text.specs.declared.ask_line.AskLine.TheVariants.{Stop, Report, Get, Cltu}

abbrev pub port : List ℕ
port = codes "PORT1"

abbrev pub bind_asked : List ℕ → ℕ → ℕ → List InstancePart → BindContent
bind_asked name service version id =
    record {
      credentials = None;
      initiator = name;
      port = port;
      service = service;
      version = version;
      instance = id;
    }

abbrev pub unbind_asked : UnbindContent
unbind_asked = record { credentials = None; reason = number_of End }

-- what a service is told has the invoke id 0: a START of RAF, one of RCF and one of FCLTU, a STOP, a
-- SCHEDULE-STATUS-REPORT, a GET-PARAMETER and a TRANSFER-DATA
abbrev pub start_asked : Option Cds → Option Cds → RequestedFrameQuality → RafStartContent
start_asked first last quality =
    record {
      credentials = None;
      invoke = 0;
      start = first;
      stop = last;
      quality = quality;
    }

abbrev pub channel_asked : Option Cds → Option Cds → Gvcid → RcfStartContent
channel_asked first last channel =
    record {
      credentials = None;
      invoke = 0;
      start = first;
      stop = last;
      channel = channel;
    }

abbrev pub cltu_start_asked : ℕ → CltuStartContent
cltu_start_asked first = record { credentials = None; invoke = 0; first = first }

abbrev pub stop_asked : StopContent
stop_asked = record { credentials = None; invoke = 0 }

abbrev pub report_asked : ReportKind → ScheduleContent
report_asked kind = record { credentials = None; invoke = 0; report = kind }

abbrev pub get_asked : ℕ → GetParameterContent
get_asked name = record { credentials = None; invoke = 0; name = name }

abbrev pub cltu_asked : ℕ → Option Cds → Option Cds → ℕ → Bool → List ℕ → Transfer
cltu_asked id earliest latest radiation_delay wanted octets =
    record {
      credentials = None;
      invoke = 0;
      id = id;
      earliest = earliest;
      latest = latest;
      radiation_delay = radiation_delay;
      wanted = wanted;
      octets = octets;
    }

-- the message of an `ask`
abbrev pub message_of : AskLine → Content
message_of (Context interval factor) = context interval factor
message_of (Bind name service version id) =
    pdu (canonical (bind.tree (bind_asked name service version id)))
message_of Unbind = pdu (canonical (unbind.tree unbind_asked))
message_of (StartRaf first last quality) =
    pdu (canonical (raf_start.tree (start_asked first last quality)))
message_of (StartRcf first last channel) =
    pdu (canonical (rcf_start.tree (channel_asked first last channel)))
message_of (StartCltu first) = pdu (canonical (start_pdu.tree (cltu_start_asked first)))
message_of Stop = pdu (canonical (stop.tree stop_asked))
message_of (Report kind) = pdu (canonical (schedule.tree (report_asked kind)))
message_of (Get name) = pdu (canonical (get_parameter.tree (get_asked name)))
message_of (Cltu id earliest latest radiation_delay wanted octets) =
    pdu (canonical
    (transfer_pdu.tree (cltu_asked id earliest latest radiation_delay wanted octets)))

-- whether every value of a PDU has few octets (this product's own)
abbrev pub is_short : {X : Type 0} → Element X → Bool
is_short element = nat_le element.most 131072
