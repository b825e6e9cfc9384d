-- The status report of the forward CLTU service (CCSDS 912.1-B, annex A); its counts are this
-- product's own.
use Rattle.std.proofs.Common.{ℕ, ℤ, Option, List, [], ◌∷◌, refl}
use Rattle.ber_shape.specs.Element.{Element}
use Rattle.ber_shape.specs.Members.{Members, structured, last, ◌▸◌}
use Rattle.ber_shape.specs.Same.{members_as}
use Rattle.cds_time.specs.declared.cds.Cds.{Cds}
use Rattle.sle_common.specs.Credentials.{credentials, credentials_of}
use Rattle.sle_common.specs.Numbers.{number}
use Rattle.fcltu_pdu.specs.declared.cltu_report.CltuReport.{CltuReport}
use Rattle.fcltu_pdu.specs.Processed.{Processed, last_processed, last_ok}

-- what a status report says: who sends, the last CLTUs taken and radiated, the statuses of
-- production and uplink, how many CLTUs were received, taken and radiated, and how many octets are
-- free
pub record Report : Type 0 where
  pub credentials : Option (List ℕ)
  pub processed : Option Processed
  pub ok : Option (ℕ × Cds)
  pub production : ℤ
  pub uplink : ℤ
  pub received : ℤ
  pub taken : ℤ
  pub radiated : ℤ
  pub free : ℤ

abbrev pub report_of : CltuReport → Report
report_of r = record {
  credentials = credentials_of r.credentials;
  processed = r.processed;
  ok = r.ok;
  production = r.production;
  uplink = r.uplink;
  received = r.received;
  taken = r.taken;
  radiated = r.radiated;
  free = r.free;
}

abbrev pub report_fields : Members Report
report_fields = members_as
    (credentials ▸ last_processed ▸ last_ok ▸ number ▸ number ▸ number ▸ number ▸ number ▸ last
    number)
    (record {
      to = λ p. record {
        credentials = p.0;
        processed = p.1.0;
        ok = p.1.1.0;
        production = p.1.1.1.0;
        uplink = p.1.1.1.1.0;
        received = p.1.1.1.1.1.0;
        taken = p.1.1.1.1.1.1.0;
        radiated = p.1.1.1.1.1.1.1.0;
        free = p.1.1.1.1.1.1.1.1;
      };
      from = λ r. (
        r.credentials,
        (
          r.processed,
          (r.ok, (r.production, (r.uplink, (r.received, (r.taken, (r.radiated, r.free)))))),
        ),
      );
      there = λ r. refl;
      back = λ p. refl;
    })

-- a SEQUENCE under [13]
abbrev pub report_pdu : Element Report
report_pdu = structured (0xad ∷ []) report_fields refl
