-- What contracts see of the PDUs.
use Rattle.std.specs.Prelude.{option_map}
use Rattle.sle_common.specs.Credentials.{credentials_of}
use Rattle.sle_common.specs.Antenna.{antenna_of}
use Rattle.return_pdu.specs.declared.raf_start.RafStart.{RafStart}
use Rattle.return_pdu.specs.declared.rcf_start.RcfStart.{RcfStart}
use Rattle.return_pdu.specs.declared.start_return.StartReturn.{StartReturn}
use Rattle.return_pdu.specs.declared.stop.Stop.{Stop}
use Rattle.return_pdu.specs.declared.stop_return.StopReturn.{StopReturn}
use Rattle.return_pdu.specs.declared.schedule.Schedule.{Schedule}
use Rattle.return_pdu.specs.declared.schedule_return.ScheduleReturn.{ScheduleReturn}
use Rattle.return_pdu.specs.declared.get_parameter.GetParameter.{GetParameter}
use Rattle.return_pdu.specs.declared.parameter_return.ParameterReturn.{ParameterReturn}
use Rattle.return_pdu.specs.declared.raf_report.RafReport.{RafReport}
use Rattle.return_pdu.specs.declared.rcf_report.RcfReport.{RcfReport}
use Rattle.return_pdu.specs.declared.told_fields.ToldFields.{ToldFields}
use Rattle.return_pdu.specs.declared.frame_fields.FrameFields.{FrameFields}
use Rattle.return_pdu.specs.declared.item.Item.{Item}
use Rattle.return_pdu.specs.declared.item.Item.TheVariants.{Data, Notice}
use Rattle.return_pdu.specs.declared.transfer_item.TransferItem.{TransferItem}
use Rattle.return_pdu.specs.declared.transfer_item.TransferItem.TheVariants.{Frame, Told}
use Rattle.return_pdu.specs.Starting.{RafStartContent, RcfStartContent, StartReturnContent}
use Rattle.return_pdu.specs.Stopping.{StopContent, StopReturnContent}
use Rattle.return_pdu.specs.Scheduling.{ScheduleContent, ScheduleReturnContent}
use Rattle.return_pdu.specs.Getting.{GetParameterContent, ParameterReturnContent}
use Rattle.return_pdu.specs.Reporting.{RafReportContent, RcfReportContent}
use Rattle.return_pdu.specs.Notification.{ToldContent}
use Rattle.return_pdu.specs.Frames.{FrameContent}
use Rattle.return_pdu.specs.TransferItem.{ItemContent, frame, told}

abbrev pub raf_start_of : RafStart → RafStartContent
raf_start_of x = record {
  credentials = credentials_of x.credentials;
  invoke = x.invoke;
  start = x.start;
  stop = x.stop;
  quality = x.quality;
}

abbrev pub rcf_start_of : RcfStart → RcfStartContent
rcf_start_of x = record {
  credentials = credentials_of x.credentials;
  invoke = x.invoke;
  start = x.start;
  stop = x.stop;
  channel = x.channel;
}

abbrev pub start_return_of : StartReturn → StartReturnContent
start_return_of x = record {
  credentials = credentials_of x.credentials;
  invoke = x.invoke;
  result = x.result;
}

abbrev pub stop_of : Stop → StopContent
stop_of x = record { credentials = credentials_of x.credentials; invoke = x.invoke }

abbrev pub stop_return_of : StopReturn → StopReturnContent
stop_return_of x = record {
  credentials = credentials_of x.credentials;
  invoke = x.invoke;
  result = x.result;
}

abbrev pub schedule_of : Schedule → ScheduleContent
schedule_of x = record {
  credentials = credentials_of x.credentials;
  invoke = x.invoke;
  report = x.report;
}

abbrev pub schedule_return_of : ScheduleReturn → ScheduleReturnContent
schedule_return_of x = record {
  credentials = credentials_of x.credentials;
  invoke = x.invoke;
  result = x.result;
}

abbrev pub get_parameter_of : GetParameter → GetParameterContent
get_parameter_of x = record {
  credentials = credentials_of x.credentials;
  invoke = x.invoke;
  name = x.name;
}

abbrev pub parameter_return_of : ParameterReturn → ParameterReturnContent
parameter_return_of x = record {
  credentials = credentials_of x.credentials;
  invoke = x.invoke;
  result = x.result;
}

abbrev pub raf_report_of : RafReport → RafReportContent
raf_report_of x = record {
  credentials = credentials_of x.credentials;
  error_free = x.error_free;
  delivered = x.delivered;
  frame_sync = x.frame_sync;
  symbol = x.symbol;
  subcarrier = x.subcarrier;
  carrier = x.carrier;
  production = x.production;
}

abbrev pub rcf_report_of : RcfReport → RcfReportContent
rcf_report_of x = record {
  credentials = credentials_of x.credentials;
  delivered = x.delivered;
  frame_sync = x.frame_sync;
  symbol = x.symbol;
  subcarrier = x.subcarrier;
  carrier = x.carrier;
  production = x.production;
}

abbrev pub told_of : ToldFields → ToldContent
told_of x = record { credentials = credentials_of x.credentials; notice = x.notice }

abbrev pub frame_of : FrameFields → FrameContent
frame_of x = record {
  credentials = credentials_of x.credentials;
  ert = x.ert;
  antenna = antenna_of x.antenna;
  continuity = x.continuity;
  quality = x.quality;
  note = option_map (λ octets. octets.now) x.note;
  octets = x.octets.now;
}

-- in the two types whose octets are read
abbrev pub content_of : Item → ItemContent
content_of (Data f) = frame (frame_of f)
content_of (Notice t) = told (told_of t)

abbrev pub item_of : TransferItem → ItemContent
item_of (Frame credentials ert antenna continuity quality note octets) = frame (record {
  credentials = credentials_of credentials;
  ert = ert;
  antenna = antenna_of antenna;
  continuity = continuity;
  quality = quality;
  note = option_map (λ octets. octets.now) note;
  octets = octets.now;
})
item_of (Told credentials notice) =
    told (record { credentials = credentials_of credentials; notice = notice })
