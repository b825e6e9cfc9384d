-- An instance of a return service as contracts see it, and what becomes of it (CCSDS 911.1-B and
-- 911.2-B).
use Rattle.std.specs.Prelude.{◌≡◌, ℕ, ◌/◌, Bool, not, ◌==◌, if◌then◌else◌, pos}
use Rattle.std.specs.Prelude.{Option, Some, None, option_map, List, []}
use Rattle.sle_common.specs.declared.parameter.Parameter.{Parameter}
use Rattle.sle_common.specs.declared.parameter.Parameter.TheVariants as parameter
use Rattle.sle_common.specs.declared.report_kind.ReportKind.{ReportKind}
use Rattle.archive_terms.specs.Selection as terms
use Rattle.frame_select.specs.declared.filter.Filter.{Filter}
use Rattle.frame_select.specs.Selection.{filter_of}
use Rattle.archive_terms.specs.Delivery.{Mode, timely, complete, offline, is_online, Terms}
use Rattle.archive_terms.specs.Delivery.{selection_of}
use Rattle.archive_terms.specs.Placed.{ToldItem}
use Rattle.archive_terms.specs.Rounds.{Answer, whole, stall, fail}
use Rattle.archive_terms.specs.Glimpse.{Glimpse}
use Rattle.return_core.specs.Course.{Course, terms_of, with_start, without_start, limit_of_course}
use Rattle.return_core.specs.Course.{is_offering, with_step, with_answer, held_of}
use Rattle.return_pdu.specs.declared.return_numbers.ReturnNumbers.{ReturnNumbers}
use Rattle.report_cycle.specs.declared.schedule.Schedule.{Schedule}
use Rattle.report_cycle.specs.declared.schedule.TheConstants.{PICOS_A_SECOND}
use Rattle.report_cycle.specs.Schedule.{no_reports, after_request, is_due, with_report}
use Rattle.return_service.specs.declared.counts.Counts.{Counts}
use Rattle.return_pdu.specs.declared.return_kind.ReturnKind.{ReturnKind}
use Rattle.return_service.specs.declared.span.Span.{Span}
use Rattle.return_service.specs.declared.parameter_names.TheConstants.{BUFFER_SIZE, DELIVERY_MODE}
use Rattle.return_service.specs.declared.parameter_names.TheConstants.{LATENCY_LIMIT}
use Rattle.return_service.specs.declared.parameter_names.TheConstants.{REPORTING_CYCLE}
use Rattle.return_service.specs.declared.parameter_names.TheConstants.{RETURN_TIMEOUT}
use Rattle.return_service.specs.Counts.{no_frames, with_frames_of}
use Rattle.return_service.specs.Requested.{kept_name, kept_parameter, KeptFits}

-- which service it is one of, its delivery, the return timeout in seconds, when its reports are due,
-- what they count, and what the last START asked for, if there was one
pub record Serving : Type 0 where
  pub kind : ReturnKind
  pub course : Course
  pub timeout : ℕ
  pub schedule : Schedule
  pub counts : Counts
  pub kept : Option Filter

-- at the BIND no reports are due, nothing was counted, and nothing was asked for
abbrev pub bound : ReturnKind → Course → ℕ → Serving
bound kind course timeout = record {
  kind = kind;
  course = course;
  timeout = timeout;
  schedule = no_reports;
  counts = no_frames;
  kept = None;
}

-- ---- START and STOP

-- what a START selects that asks for these frames of this span, in a round with this front
abbrev pub terms_at : Course → terms.Filter → Span → ℕ → Terms
terms_at c filter span front =
    terms_of c (selection_of c.mode filter span.start span.stop front)

-- the delivery begins anew
abbrev pub started : Filter → Span → ℕ → Serving → Serving
started filter span front s = record s {
  course = with_start s.course
      (selection_of s.course.mode (filter_of filter) span.start span.stop front);
  kept = Some filter;
}

abbrev pub stopped : Serving → Serving
stopped s = record s { course = without_start s.course }

-- ---- the delivery's rounds

abbrev pub stepped : Glimpse → ℕ → Serving → Serving
stepped g now s = record s { course = with_step s.course g now }

-- what an answer hands over
abbrev pub handed_over : Course → Answer → List ToldItem
handed_over c whole = if is_offering c then held_of c else []
handed_over c stall = []
handed_over c fail = []

-- the frames that are handed over are counted as delivered
abbrev pub answered : Answer → Serving → Serving
answered answer s = record s {
  course = with_answer s.course answer;
  counts = with_frames_of (handed_over s.course answer) s.counts;
}

-- ---- status reports

abbrev pub is_offline : Course → Bool
is_offline c = not (is_online c.mode)

abbrev pub requested : ReportKind → ℕ → Serving → Serving
requested kind now s =
    record s { schedule = after_request (is_offline s.course) kind now s.schedule }

-- the counts, with the locks and the production status of the round's look
abbrev pub numbers_of : Counts → Glimpse → ReturnNumbers
numbers_of c g = record {
  error_free = c.error_free;
  delivered = c.delivered;
  frame_sync = g.locks.frame_sync;
  symbol = g.locks.symbol;
  subcarrier = g.locks.subcarrier;
  carrier = g.locks.carrier;
  production = g.production;
}

-- the report of a round, where one is due
abbrev pub report_of : Glimpse → ℕ → Serving → Option ReturnNumbers
report_of g now s = if is_due s.schedule now then Some (numbers_of s.counts g) else None

abbrev pub reported : ℕ → Serving → Serving
reported now s =
    if is_due s.schedule now then record s { schedule = with_report now s.schedule } else s

-- ---- parameters

-- the number of a mode (CCSDS 911.1-B, annex A, DeliveryMode)
abbrev pub mode_number : Mode → ℕ
mode_number timely = 0
mode_number complete = 1
mode_number offline = 2

-- a latency limit in seconds
abbrev pub seconds_of : Option ℕ → Option ℕ
seconds_of limit = option_map (λ picos. picos / PICOS_A_SECOND) limit

-- the parameter of a name
abbrev pub parameter_of : Serving → ℕ → Option Parameter
parameter_of s name =
    if name == kept_name s.kind then Some (kept_parameter s.kind s.kept)
    else if name == BUFFER_SIZE then Some (parameter.BufferSize (pos s.course.size))
    else if name == DELIVERY_MODE then Some (parameter.Mode (pos (mode_number s.course.mode)))
    else if name == LATENCY_LIMIT then Some (parameter.Latency
    (option_map (λ n. pos n) (seconds_of (limit_of_course s.course))))
    else if name == REPORTING_CYCLE then Some (parameter.Cycle
    (option_map (λ n. pos n) s.schedule.cycle))
    else if name == RETURN_TIMEOUT then Some (parameter.Timeout (pos s.timeout))
    else None

-- ---- what the code keeps

-- what is kept beside a delivery is the delivery's own, and a channel has its numbers in their ranges
pub record IsOf (c : Course) (m : Mode) (items : ℕ) (seconds : Option ℕ) (kept : Option Filter)
    : Type 0 where
  pub mode : c.mode ≡ m
  pub size : c.size ≡ items
  pub latency : seconds_of (limit_of_course c) ≡ seconds
  pub fits : KeptFits kept
