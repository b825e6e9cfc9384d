-- STOP and its return (CCSDS 911.1-B, annex A).
use Rattle.std.proofs.Common.{◌≡◌, ℕ, ℤ, Option, List, [], ◌∷◌, Result, Ok, Err, ◌⊎◌, inl, inr}
use Rattle.std.proofs.Common.{refl}
use Rattle.ber_shape.specs.Content.{null, any_integer}
use Rattle.ber_shape.specs.Element.{Element, simple}
use Rattle.ber_shape.specs.Members.{Members, structured, last, ◌▸◌}
use Rattle.ber_shape.specs.Same.{element_as, members_as}
use Rattle.ber_shape.specs.Choice.{either}
use Rattle.sle_common.specs.Numbers.{invoke_id}
use Rattle.sle_common.specs.Credentials.{credentials}

abbrev pub stop_result_of : ℤ ⊎ Unit {0} → Result (Unit {0}) ℤ
stop_result_of (inl why) = Err why
stop_result_of (inr done) = Ok done

abbrev pub of_stop_result : Result (Unit {0}) ℤ → ℤ ⊎ Unit {0}
of_stop_result (Err why) = inl why
of_stop_result (Ok done) = inr done

pub stop_result_there : (r : Result (Unit {0}) ℤ) → stop_result_of (of_stop_result r) ≡ r
stop_result_there (Err why) = refl
stop_result_there (Ok done) = refl

pub stop_result_back : (z : ℤ ⊎ Unit {0}) → of_stop_result (stop_result_of z) ≡ z
stop_result_back (inl why) = refl
stop_result_back (inr done) = refl

-- [0] NULL, [1] INTEGER a diagnostic that all operations share
abbrev pub stop_result : Element (Result (Unit {0}) ℤ)
stop_result = element_as (either (0x81 ∷ []) (simple (0x81 ∷ []) any_integer refl)
    (simple (0x80 ∷ []) null refl) refl refl)
    (record {
      to = stop_result_of;
      from = of_stop_result;
      there = stop_result_there;
      back = stop_result_back;
    })

-- who sends, and its number
pub record StopContent : Type 0 where
  pub credentials : Option (List ℕ)
  pub invoke : ℕ

abbrev pub stop_fields : Members StopContent
stop_fields = members_as (credentials ▸ last invoke_id) (record {
  to = λ p. record { credentials = p.0; invoke = p.1 };
  from = λ x. (x.credentials, x.invoke);
  there = λ x. refl;
  back = λ p. refl;
})

-- [2] SEQUENCE
abbrev pub stop : Element StopContent
stop = structured (0xa2 ∷ []) stop_fields refl

-- that the service stopped, or why not
pub record StopReturnContent : Type 0 where
  pub credentials : Option (List ℕ)
  pub invoke : ℕ
  pub result : Result (Unit {0}) ℤ

abbrev pub stop_return_fields : Members StopReturnContent
stop_return_fields = members_as (credentials ▸ invoke_id ▸ last stop_result) (record {
  to = λ p. record { credentials = p.0; invoke = p.1.0; result = p.1.1 };
  from = λ x. (x.credentials, (x.invoke, x.result));
  there = λ x. refl;
  back = λ p. refl;
})

-- [3] SEQUENCE
abbrev pub stop_return : Element StopReturnContent
stop_return = structured (0xa3 ∷ []) stop_return_fields refl
