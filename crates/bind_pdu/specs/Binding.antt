-- BIND and its return (CCSDS 911.1-B, annex A).
use Rattle.std.proofs.Common.{◌≡◌, ℕ, ℤ, Option, List, [], ◌∷◌, ◌⊎◌, inl, inr, Result, Ok, Err}
use Rattle.std.proofs.Common.{refl}
use Rattle.ber_shape.specs.Content.{visible_string, any_integer}
use Rattle.ber_shape.specs.Element.{Element, simple}
use Rattle.ber_shape.specs.Members.{Members, structured, last, ◌▸◌}
use Rattle.ber_shape.specs.Same.{members_as, element_as}
use Rattle.ber_shape.specs.Choice.{either}
use Rattle.sle_common.specs.declared.instance_id.InstancePart.{InstancePart}
use Rattle.sle_common.specs.Natural.{natural}
use Rattle.sle_common.specs.Credentials.{credentials}
use Rattle.sle_common.specs.IdentifierOctets.{identifier}

-- the name of a side: the initiator's or the responder's identifier
abbrev pub authority_identifier : Element (List ℕ)
authority_identifier = simple (0x1a ∷ []) (visible_string 3 16) refl

abbrev pub port_identifier : Element (List ℕ)
port_identifier = simple (0x1a ∷ []) (visible_string 1 128) refl

abbrev pub service_type : Element ℕ
service_type = natural (0x02 ∷ []) 0 65535 refl refl

abbrev pub version_number : Element ℕ
version_number = natural (0x02 ∷ []) 1 65535 refl refl

pub record BindContent : Type 0 where
  pub credentials : Option (List ℕ)
  pub initiator : List ℕ
  pub port : List ℕ
  pub service : ℕ
  pub version : ℕ
  pub instance : List InstancePart

abbrev pub bind_fields : Members BindContent
bind_fields = members_as (credentials ▸ authority_identifier ▸ port_identifier ▸ service_type ▸
    version_number ▸ last identifier) (record {
      to = λ p. record {
        credentials = p.0;
        initiator = p.1.0;
        port = p.1.1.0;
        service = p.1.1.1.0;
        version = p.1.1.1.1.0;
        instance = p.1.1.1.1.1;
      };
      from = λ b. (b.credentials, (b.initiator, (b.port, (b.service, (b.version, b.instance)))));
      there = λ b. refl;
      back = λ p. refl;
    })

-- [100] SEQUENCE
abbrev pub bind : Element BindContent
bind = structured (0xbf ∷ 0x64 ∷ []) bind_fields refl

-- ---- the return

abbrev pub result_of : ℤ ⊎ ℤ → Result ℤ ℤ
result_of (inl diagnostic) = Err diagnostic
result_of (inr version) = Ok version

abbrev pub of_result : Result ℤ ℤ → ℤ ⊎ ℤ
of_result (Err diagnostic) = inl diagnostic
of_result (Ok version) = inr version

pub result_there : (r : Result ℤ ℤ) → result_of (of_result r) ≡ r
result_there (Err diagnostic) = refl
result_there (Ok version) = refl

pub result_back : (z : ℤ ⊎ ℤ) → of_result (result_of z) ≡ z
result_back (inl diagnostic) = refl
result_back (inr version) = refl

-- [0] INTEGER
abbrev pub bound_version : Element ℤ
bound_version = simple (0x80 ∷ []) any_integer refl

-- [1] INTEGER
abbrev pub bind_diagnostic : Element ℤ
bind_diagnostic = simple (0x81 ∷ []) any_integer refl

abbrev pub bind_result : Element (Result ℤ ℤ)
bind_result = element_as (either (0x81 ∷ []) bind_diagnostic bound_version refl refl)
    (record { to = result_of; from = of_result; there = result_there; back = result_back })

pub record BindReturnContent : Type 0 where
  pub credentials : Option (List ℕ)
  pub responder : List ℕ
  pub result : Result ℤ ℤ

abbrev pub bind_return_fields : Members BindReturnContent
bind_return_fields = members_as (credentials ▸ authority_identifier ▸ last bind_result) (record {
  to = λ p. record { credentials = p.0; responder = p.1.0; result = p.1.1 };
  from = λ r. (r.credentials, (r.responder, r.result));
  there = λ r. refl;
  back = λ p. refl;
})

-- [101] SEQUENCE
abbrev pub bind_return : Element BindReturnContent
bind_return = structured (0xbf ∷ 0x65 ∷ []) bind_return_fields refl
