-- What a user invokes of a forward service (CCSDS 912.1-B), as far as the service's answer hangs on
-- it.
use Rattle.std.specs.Prelude.{ℕ}
use Rattle.sle_common.specs.declared.report_kind.ReportKind.{ReportKind}
use Rattle.cltu_queue.specs.declared.cltu.Cltu.{Cltu}
use Rattle.fcltu_pdu.specs.Transfer.{Transfer, transfer_of}
use Rattle.fcltu_service.specs.declared.invocation.CltuInvocation.{CltuInvocation}
use Rattle.fcltu_service.specs.declared.invocation.CltuInvocation.TheVariants as variant

-- nothing; a START with the identification of its first CLTU; a STOP; a TRANSFER-DATA with its
-- CLTU; a THROW-EVENT with the number of its invocation; a SCHEDULE-STATUS-REPORT; a GET-PARAMETER
-- with the parameter's name
pub data Invocation : Type 0 where
  nothing : Invocation
  start : ℕ → Invocation
  stop : Invocation
  transfer : Cltu → Invocation
  throw : ℕ → Invocation
  report : ReportKind → Invocation
  get : ℕ → Invocation

-- the CLTU that a TRANSFER-DATA hands over
abbrev pub cltu_of : Transfer → Cltu
cltu_of t = record {
  id = t.id;
  earliest = t.earliest;
  latest = t.latest;
  radiation_delay = t.radiation_delay;
  wanted = t.wanted;
  octets = t.octets;
}

abbrev pub invocation_of : CltuInvocation → Invocation
invocation_of variant.Nothing = nothing
invocation_of (variant.Start s) = start s.first
invocation_of variant.Stop = stop
invocation_of (variant.Transfer t) = transfer (cltu_of (transfer_of t))
invocation_of (variant.Throw t) = throw t.number
invocation_of (variant.Report kind) = report kind
invocation_of (variant.Get name) = get name
