-- START of the forward CLTU service and its return (CCSDS 912.1-B, annex A).
use Rattle.std.proofs.Common.{ℕ, Option, List, [], ◌∷◌, Result, refl}
use Rattle.ber_shape.specs.Element.{Element}
use Rattle.ber_shape.specs.Members.{Members, structured, last, ◌▸◌}
use Rattle.ber_shape.specs.Same.{members_as}
use Rattle.cds_time.specs.declared.cds.Cds.{Cds}
use Rattle.sle_common.specs.declared.diagnostic.Diagnostic.{Diagnostic}
use Rattle.sle_common.specs.Credentials.{credentials, credentials_of}
use Rattle.sle_common.specs.Numbers.{invoke_id}
use Rattle.fcltu_pdu.specs.declared.cltu_start.CltuStart.{CltuStart}
use Rattle.fcltu_pdu.specs.declared.cltu_start_return.CltuStartReturn.{CltuStartReturn}
use Rattle.fcltu_pdu.specs.UnsignedLong.{unsigned_long}
use Rattle.fcltu_pdu.specs.Answer.{start_answer}

-- what a START says: who sends, its number, and the identification of the first CLTU
pub record Start : Type 0 where
  pub credentials : Option (List ℕ)
  pub invoke : ℕ
  pub first : ℕ

abbrev pub start_of : CltuStart → Start
start_of s = record {
  credentials = credentials_of s.credentials;
  invoke = s.invoke;
  first = s.first;
}

abbrev pub start_fields : Members Start
start_fields = members_as (credentials ▸ invoke_id ▸ last unsigned_long) (record {
  to = λ p. record { credentials = p.0; invoke = p.1.0; first = p.1.1 };
  from = λ s. (s.credentials, (s.invoke, s.first));
  there = λ s. refl;
  back = λ p. refl;
})

-- a SEQUENCE under [0]
abbrev pub start_pdu : Element Start
start_pdu = structured (0xa0 ∷ []) start_fields refl

-- what its return says: the times at which radiation may start and stops, or why there is none
pub record StartReturn : Type 0 where
  pub credentials : Option (List ℕ)
  pub invoke : ℕ
  pub result : Result (Cds × Option Cds) Diagnostic

abbrev pub start_return_of : CltuStartReturn → StartReturn
start_return_of s = record {
  credentials = credentials_of s.credentials;
  invoke = s.invoke;
  result = s.result;
}

abbrev pub start_return_fields : Members StartReturn
start_return_fields = members_as (credentials ▸ invoke_id ▸ last start_answer) (record {
  to = λ p. record { credentials = p.0; invoke = p.1.0; result = p.1.1 };
  from = λ s. (s.credentials, (s.invoke, s.result));
  there = λ s. refl;
  back = λ p. refl;
})

-- a SEQUENCE under [1]
abbrev pub start_return_pdu : Element StartReturn
start_return_pdu = structured (0xa1 ∷ []) start_return_fields refl
