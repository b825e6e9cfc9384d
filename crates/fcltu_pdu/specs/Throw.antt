-- THROW-EVENT and its return (CCSDS 912.1-B, annex A); the length of the qualifier is this
-- product's own.
use Rattle.std.proofs.Common.{ℕ, Option, List, [], ◌∷◌, Result, refl}
use Rattle.ber_shape.specs.Content.{octet_string}
use Rattle.ber_shape.specs.Element.{Element, simple}
use Rattle.ber_shape.specs.Members.{Members, structured, last, ◌▸◌}
use Rattle.ber_shape.specs.Same.{members_as}
use Rattle.sle_common.specs.declared.diagnostic.Diagnostic.{Diagnostic}
use Rattle.sle_common.specs.Answer.{confirmation}
use Rattle.sle_common.specs.Credentials.{credentials, credentials_of}
use Rattle.sle_common.specs.Natural.{natural}
use Rattle.sle_common.specs.Numbers.{invoke_id}
use Rattle.fcltu_pdu.specs.declared.throw.Throw.{Throw as CodeThrow}
use Rattle.fcltu_pdu.specs.declared.throw_return.ThrowReturn.{ThrowReturn as CodeThrowReturn}
use Rattle.fcltu_pdu.specs.UnsignedLong.{unsigned_long}

abbrev pub event_id : Element ℕ
event_id = natural (0x02 ∷ []) 0 65535 refl refl

abbrev pub qualifier : Element (List ℕ)
qualifier = simple (0x04 ∷ []) (octet_string 0 1024) refl

-- what a THROW-EVENT says: who sends, its number, the number of the event's invocation, the event,
-- and its qualifier
pub record Event : Type 0 where
  pub credentials : Option (List ℕ)
  pub invoke : ℕ
  pub number : ℕ
  pub event : ℕ
  pub qualifier : List ℕ

abbrev pub event_of : CodeThrow → Event
event_of t = record {
  credentials = credentials_of t.credentials;
  invoke = t.invoke;
  number = t.number;
  event = t.event;
  qualifier = t.qualifier.now;
}

abbrev pub throw_fields : Members Event
throw_fields = members_as (credentials ▸ invoke_id ▸ unsigned_long ▸ event_id ▸ last qualifier)
    (record {
      to = λ p. record {
        credentials = p.0;
        invoke = p.1.0;
        number = p.1.1.0;
        event = p.1.1.1.0;
        qualifier = p.1.1.1.1;
      };
      from = λ t. (t.credentials, (t.invoke, (t.number, (t.event, t.qualifier))));
      there = λ t. refl;
      back = λ p. refl;
    })

-- a SEQUENCE under [8]
abbrev pub throw_pdu : Element Event
throw_pdu = structured (0xa8 ∷ []) throw_fields refl

-- what its return says: that the event was taken, or why not
pub record EventReturn : Type 0 where
  pub credentials : Option (List ℕ)
  pub invoke : ℕ
  pub number : ℕ
  pub result : Result (Unit {0}) Diagnostic

abbrev pub event_return_of : CodeThrowReturn → EventReturn
event_return_of t = record {
  credentials = credentials_of t.credentials;
  invoke = t.invoke;
  number = t.number;
  result = t.result;
}

abbrev pub throw_return_fields : Members EventReturn
throw_return_fields = members_as (credentials ▸ invoke_id ▸ unsigned_long ▸ last confirmation)
    (record {
      to = λ p. record { credentials = p.0; invoke = p.1.0; number = p.1.1.0; result = p.1.1.1 };
      from = λ t. (t.credentials, (t.invoke, (t.number, t.result)));
      there = λ t. refl;
      back = λ p. refl;
    })

-- a SEQUENCE under [9]
abbrev pub throw_return_pdu : Element EventReturn
throw_return_pdu = structured (0xa9 ∷ []) throw_return_fields refl
