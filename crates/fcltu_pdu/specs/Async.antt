-- ASYNC-NOTIFY of the forward CLTU service (CCSDS 912.1-B, annex A).
use Rattle.std.proofs.Common.{ℕ, ℤ, Option, List, [], ◌∷◌, refl}
use Rattle.ber_shape.specs.Element.{Element}
use Rattle.ber_shape.specs.Members.{Members, structured, last, ◌▸◌}
use Rattle.ber_shape.specs.Same.{members_as}
use Rattle.cds_time.specs.declared.cds.Cds.{Cds}
use Rattle.fcltu_numbers.specs.declared.cltu_notification_type.CltuNotificationType.{CltuNotificationType}
use Rattle.sle_common.specs.Credentials.{credentials, credentials_of}
use Rattle.sle_common.specs.Numbers.{number}
use Rattle.fcltu_pdu.specs.declared.async_.Async.{Async}
use Rattle.fcltu_pdu.specs.Notice.{notice_kind}
use Rattle.fcltu_pdu.specs.Processed.{Processed, last_processed, last_ok}

-- what an ASYNC-NOTIFY says: who sends, its kind with the number of an event's invocation, the last
-- CLTUs taken and radiated, and the statuses of production and uplink
pub record Notice : Type 0 where
  pub credentials : Option (List ℕ)
  pub kind : CltuNotificationType
  pub number : Option ℕ
  pub processed : Option Processed
  pub ok : Option (ℕ × Cds)
  pub production : ℤ
  pub uplink : ℤ

abbrev pub notice_of : Async → Notice
notice_of a = record {
  credentials = credentials_of a.credentials;
  kind = a.kind;
  number = a.number;
  processed = a.processed;
  ok = a.ok;
  production = a.production;
  uplink = a.uplink;
}

abbrev pub notice_fields : Members Notice
notice_fields = members_as (credentials ▸ notice_kind ▸ last_processed ▸ last_ok ▸ number ▸ last
    number)
    (record {
      to = λ p. record {
        credentials = p.0;
        kind = p.1.0.kind;
        number = p.1.0.number;
        processed = p.1.1.0;
        ok = p.1.1.1.0;
        production = p.1.1.1.1.0;
        uplink = p.1.1.1.1.1;
      };
      from = λ n. (
        n.credentials,
        (
          record { kind = n.kind; number = n.number },
          (n.processed, (n.ok, (n.production, n.uplink))),
        ),
      );
      there = λ n. refl;
      back = λ p. refl;
    })

-- a SEQUENCE under [12]
abbrev pub notice_pdu : Element Notice
notice_pdu = structured (0xac ∷ []) notice_fields refl
