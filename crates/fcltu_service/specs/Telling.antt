-- What a forward service tells unasked (CCSDS 912.1-B, annex A): notices, and the status report of a
-- view of the queue.
use Rattle.std.specs.Prelude.{ℕ, pos, if◌then◌else◌, Option, Some, None, List}
use Rattle.cds_time.specs.declared.cds.Cds.{Cds}
use Rattle.fcltu_numbers.specs.CltuProductionStatus.{number_of as production_number_of}
use Rattle.fcltu_numbers.specs.CltuStatus.{number_of as status_number_of}
use Rattle.fcltu_numbers.specs.UplinkStatus.{number_of as uplink_number_of}
use Rattle.fcltu_numbers.specs.declared.cltu_notification_type.CltuNotificationType.{CltuNotificationType}
use Rattle.cltu_queue.specs.declared.last_ok.LastOk.{LastOk}
use Rattle.cltu_queue.specs.declared.last_ok.LastOk.TheVariants as ok
use Rattle.cltu_queue.specs.declared.notice.Notice.{Notice as QueueNotice}
use Rattle.cltu_queue.specs.declared.processed.Processed.{Processed as LastProcessed}
use Rattle.cltu_queue.specs.declared.processed.Processed.TheVariants as processed
use Rattle.cltu_queue.specs.declared.uplink_view.UplinkView.{UplinkView}
use Rattle.fcltu_pdu.specs.Async.{Notice}
use Rattle.fcltu_pdu.specs.Notice.{is_of_event}
use Rattle.fcltu_pdu.specs.Processed.{Processed}
use Rattle.fcltu_pdu.specs.Report.{Report}

-- the CLTU that was processed last, with the number of what became of it
abbrev pub processed_told : LastProcessed → Option Processed
processed_told processed.None = None
processed_told (processed.Some id start status) =
    Some (id, start, pos (status_number_of status))

-- the CLTU that was radiated last without a fault
abbrev pub ok_told : LastOk → Option (ℕ × Cds)
ok_told ok.None = None
ok_told (ok.Some id stop) = Some (id, stop)

-- A notice of an event, of which no queue makes any, has the number of an invocation: 0.
abbrev pub number_told : CltuNotificationType → Option ℕ
number_told kind = if is_of_event kind then Some 0 else None

-- a notice as CLTU-ASYNC-NOTIFY, with these credentials
abbrev pub notice_told : Option (List ℕ) → QueueNotice → Notice
notice_told credentials notice = record {
  credentials = credentials;
  kind = notice.kind;
  number = number_told notice.kind;
  processed = processed_told notice.processed;
  ok = ok_told notice.ok;
  production = pos (production_number_of notice.production);
  uplink = pos (uplink_number_of notice.status);
}

-- a view as CLTU-STATUS-REPORT, with these credentials
abbrev pub report_told : Option (List ℕ) → UplinkView → Report
report_told credentials view = record {
  credentials = credentials;
  processed = processed_told view.processed;
  ok = ok_told view.ok;
  production = pos (production_number_of view.production);
  uplink = pos (uplink_number_of view.status);
  received = pos view.received;
  taken = pos view.taken;
  radiated = pos view.radiated;
  free = pos view.free;
}
