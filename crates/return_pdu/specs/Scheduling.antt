-- SCHEDULE-STATUS-REPORT and its return (CCSDS 911.1-B, annex A).
use Rattle.std.proofs.Common.{ℕ, Option, List, [], ◌∷◌, Result, refl}
use Rattle.ber_shape.specs.Element.{Element}
use Rattle.ber_shape.specs.Members.{Members, structured, last, ◌▸◌}
use Rattle.ber_shape.specs.Same.{members_as}
use Rattle.sle_common.specs.declared.diagnostic.Diagnostic.{Diagnostic}
use Rattle.sle_common.specs.declared.report_kind.ReportKind.{ReportKind}
use Rattle.sle_common.specs.Numbers.{invoke_id}
use Rattle.sle_common.specs.Credentials.{credentials}
use Rattle.sle_common.specs.Answer.{confirmation}
use Rattle.sle_common.specs.Report.{report_kind}

-- who sends, its number, and which reports are asked for
pub record ScheduleContent : Type 0 where
  pub credentials : Option (List ℕ)
  pub invoke : ℕ
  pub report : ReportKind

abbrev pub schedule_fields : Members ScheduleContent
schedule_fields = members_as (credentials ▸ invoke_id ▸ last report_kind) (record {
  to = λ p. record { credentials = p.0; invoke = p.1.0; report = p.1.1 };
  from = λ x. (x.credentials, (x.invoke, x.report));
  there = λ x. refl;
  back = λ p. refl;
})

-- [4] SEQUENCE
abbrev pub schedule : Element ScheduleContent
schedule = structured (0xa4 ∷ []) schedule_fields refl

-- that the reports are scheduled, or why not
pub record ScheduleReturnContent : Type 0 where
  pub credentials : Option (List ℕ)
  pub invoke : ℕ
  pub result : Result (Unit {0}) Diagnostic

abbrev pub schedule_return_fields : Members ScheduleReturnContent
schedule_return_fields = members_as (credentials ▸ invoke_id ▸ last confirmation) (record {
  to = λ p. record { credentials = p.0; invoke = p.1.0; result = p.1.1 };
  from = λ x. (x.credentials, (x.invoke, x.result));
  there = λ x. refl;
  back = λ p. refl;
})

-- [5] SEQUENCE
abbrev pub schedule_return : Element ScheduleReturnContent
schedule_return = structured (0xa5 ∷ []) schedule_return_fields refl
