-- When status reports are given (CCSDS 911.1-B, RAF-SCHEDULE-STATUS-REPORT). The order of the
-- refusals is this product's own.
use Rattle.std.specs.Prelude.{ℕ, ◌+◌, ◌*◌, Bool, true, false, not, ◌&&◌, nat_le, if◌then◌else◌}
use Rattle.std.specs.Prelude.{Option, Some, None, is_none, Result, Ok, Err, option_map}
use Rattle.std.specs.Option.{option_map_or}
use Rattle.sle_common.specs.declared.report_kind.ReportKind.{ReportKind}
use Rattle.sle_common.specs.declared.report_kind.ReportKind.TheVariants.{Now, Cycle, Stop}
use Rattle.sle_numbers.specs.declared.schedule_diagnostic.ScheduleDiagnostic.{ScheduleDiagnostic}
use Rattle.sle_numbers.specs.declared.schedule_diagnostic.ScheduleDiagnostic.TheVariants as why
use Rattle.report_cycle.specs.declared.schedule.Schedule.{Schedule}
use Rattle.report_cycle.specs.declared.schedule.TheConstants.{SHORTEST_CYCLE, LONGEST_CYCLE}
use Rattle.report_cycle.specs.declared.schedule.TheConstants.{PICOS_A_SECOND}

-- no cycle runs, and no report is due
abbrev pub no_reports : Schedule
no_reports = record { cycle = None; due = None }

-- ---- what a user asks for

abbrev pub is_stop : ReportKind → Bool
is_stop Stop = true
is_stop _ = false

-- a cycle of 2 to 600 seconds
abbrev pub is_in_range : ReportKind → Bool
is_in_range (Cycle seconds) = nat_le SHORTEST_CYCLE seconds && nat_le seconds LONGEST_CYCLE
is_in_range _ = true

-- why what is asked for is refused: the first of these that holds. Offline delivery has no reports.
abbrev pub refusal : Bool → Schedule → ReportKind → Option ScheduleDiagnostic
refusal offline s kind =
    if offline then Some why.NotSupportedInThisDeliveryMode
    else if is_stop kind && is_none s.cycle then Some why.AlreadyStopped
    else if not (is_in_range kind) then Some why.InvalidReportingCycle
    else None

-- done, or why not
abbrev pub unless : {E : Type 0} → Option E → Result (Unit {0}) E
unless None = Ok tt
unless (Some why) = Err why

-- a report in this round; a report in this round and, as long as the cycle runs, each time that it
-- has passed since the last one; no further reports
abbrev pub with_request : ReportKind → ℕ → Schedule → Schedule
with_request Now now s = record s { due = Some now }
with_request (Cycle seconds) now s = record { cycle = Some seconds; due = Some now }
with_request Stop now s = no_reports

-- a request that is refused leaves what runs
abbrev pub after_request : Bool → ReportKind → ℕ → Schedule → Schedule
after_request offline kind now s =
    if is_none (refusal offline s kind) then with_request kind now s else s

-- ---- the rounds

abbrev pub is_due : Schedule → ℕ → Bool
is_due s now = option_map_or (λ moment. nat_le moment now) s.due false

-- a report is given at this moment: where a cycle runs, the next one is due a cycle later
abbrev pub with_report : ℕ → Schedule → Schedule
with_report now s =
    record s { due = option_map (λ seconds. now + seconds * PICOS_A_SECOND) s.cycle }
