-- GET-PARAMETER and its return (CCSDS 911.1-B, annex A).
use Rattle.std.proofs.Common.{ℕ, Option, List, [], ◌∷◌, Result, refl}
use Rattle.ber_shape.specs.Element.{Element}
use Rattle.ber_shape.specs.Members.{Members, structured, last, ◌▸◌}
use Rattle.ber_shape.specs.Same.{members_as}
use Rattle.sle_common.specs.declared.diagnostic.Diagnostic.{Diagnostic}
use Rattle.sle_common.specs.declared.parameter.Parameter.{Parameter}
use Rattle.sle_common.specs.Natural.{natural}
use Rattle.sle_common.specs.Numbers.{invoke_id}
use Rattle.sle_common.specs.Credentials.{credentials}
use Rattle.sle_common.specs.Answer.{answered}
use Rattle.sle_common.specs.Parameter.{parameter}

abbrev pub parameter_name : Element ℕ
parameter_name = natural (0x02 ∷ []) 0 65535 refl refl

-- [0] around the parameter, [1] around a diagnostic
abbrev pub parameter_answer : Element (Result Parameter Diagnostic)
parameter_answer = answered (structured (0xa0 ∷ []) (last parameter) refl) refl

-- who sends, its number, and the name of the parameter
pub record GetParameterContent : Type 0 where
  pub credentials : Option (List ℕ)
  pub invoke : ℕ
  pub name : ℕ

abbrev pub get_parameter_fields : Members GetParameterContent
get_parameter_fields = members_as (credentials ▸ invoke_id ▸ last parameter_name) (record {
  to = λ p. record { credentials = p.0; invoke = p.1.0; name = p.1.1 };
  from = λ x. (x.credentials, (x.invoke, x.name));
  there = λ x. refl;
  back = λ p. refl;
})

-- [6] SEQUENCE
abbrev pub get_parameter : Element GetParameterContent
get_parameter = structured (0xa6 ∷ []) get_parameter_fields refl

-- the parameter with its value, or why there is none
pub record ParameterReturnContent : Type 0 where
  pub credentials : Option (List ℕ)
  pub invoke : ℕ
  pub result : Result Parameter Diagnostic

abbrev pub parameter_return_fields : Members ParameterReturnContent
parameter_return_fields = members_as (credentials ▸ invoke_id ▸ last parameter_answer) (record {
  to = λ p. record { credentials = p.0; invoke = p.1.0; result = p.1.1 };
  from = λ x. (x.credentials, (x.invoke, x.result));
  there = λ x. refl;
  back = λ p. refl;
})

-- [7] SEQUENCE
abbrev pub parameter_return : Element ParameterReturnContent
parameter_return = structured (0xa7 ∷ []) parameter_return_fields refl
