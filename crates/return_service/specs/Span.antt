-- Between which moments a START asks for frames, and why its times are refused (CCSDS 911.1-B,
-- RAF-START). The conditions and their order are this product's own.
use Rattle.std.specs.Prelude.{ℕ, Bool, false, not, ◌&&◌, ◌||◌, ◌==◌, nat_lt, if◌then◌else◌}
use Rattle.std.specs.Prelude.{Option, Some, None, is_none, option_and_then, Result, Ok, Err}
use Rattle.std.specs.Option.{option_map_or}
use Rattle.cds_time.specs.declared.cds.Cds.{Cds}
use Rattle.cds_time.specs.Moment.{moment_of}
use Rattle.sle_numbers.specs.declared.return_start_diagnostic.ReturnStartDiagnostic.{ReturnStartDiagnostic}
use Rattle.sle_numbers.specs.declared.return_start_diagnostic.ReturnStartDiagnostic.TheVariants as why
use Rattle.archive_terms.specs.Delivery.{Mode, is_online}
use Rattle.return_service.specs.declared.span.Span.{Span}

-- the moments of the times that are known
abbrev pub span_of : Option Cds → Option Cds → Span
span_of start stop = record {
  start = option_and_then moment_of start;
  stop = option_and_then moment_of stop;
}

-- whether a known time names no moment
abbrev pub is_no_moment : Option Cds → Bool
is_no_moment time = option_map_or (λ t. is_none (moment_of t)) time false

-- whether the stop is below the start, where both are known
abbrev pub is_reversed : Span → Bool
is_reversed s =
    option_map_or (λ stop. option_map_or (λ start. nat_lt stop start) s.start false) s.stop false

-- production is halted (2)
abbrev pub is_halted : ℕ → Bool
is_halted production = production == 2

-- why the times of a START are refused: the first of these that holds
abbrev pub refusal : Mode → ℕ → Option Cds → Option Cds → Option ReturnStartDiagnostic
refusal mode production start stop =
    if is_online mode && is_halted production then Some why.OutOfService
    else if is_no_moment start then Some why.InvalidStartTime
    else if is_no_moment stop then Some why.InvalidStopTime
    else if not (is_online mode) && (is_none start || is_none stop) then Some why.MissingTimeValue
    else if is_reversed (span_of start stop) then Some why.InvalidStopTime
    else None

-- the moments, or why not
abbrev pub moments_unless : Option Cds → Option Cds → Option ReturnStartDiagnostic
    → Result Span ReturnStartDiagnostic
moments_unless start stop None = Ok (span_of start stop)
moments_unless start stop (Some why) = Err why

abbrev pub moments : Mode → ℕ → Option Cds → Option Cds → Result Span ReturnStartDiagnostic
moments mode production start stop = moments_unless start stop (refusal mode production start stop)
