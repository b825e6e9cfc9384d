-- The status reports of the return services (CCSDS 911.1-B and 911.2-B, annex A); their numbers are
-- this product's own.
use Rattle.std.proofs.Common.{ℕ, ℤ, Option, List, [], ◌∷◌, refl}
use Rattle.ber_shape.specs.Element.{Element}
use Rattle.ber_shape.specs.Members.{Members, structured, last, ◌▸◌}
use Rattle.ber_shape.specs.Same.{members_as}
use Rattle.sle_common.specs.Numbers.{number}
use Rattle.sle_common.specs.Credentials.{credentials}

-- how many frames were delivered, error-free ones and all, the locks and the production status
pub record RafReportContent : Type 0 where
  pub credentials : Option (List ℕ)
  pub error_free : ℤ
  pub delivered : ℤ
  pub frame_sync : ℤ
  pub symbol : ℤ
  pub subcarrier : ℤ
  pub carrier : ℤ
  pub production : ℤ

abbrev pub raf_report_fields : Members RafReportContent
raf_report_fields = members_as (credentials ▸ number ▸ number ▸ number ▸ number ▸ number ▸ number ▸
    last number) (record {
      to = λ p. record {
        credentials = p.0;
        error_free = p.1.0;
        delivered = p.1.1.0;
        frame_sync = p.1.1.1.0;
        symbol = p.1.1.1.1.0;
        subcarrier = p.1.1.1.1.1.0;
        carrier = p.1.1.1.1.1.1.0;
        production = p.1.1.1.1.1.1.1;
      };
      from = λ x. (
        x.credentials,
        (
          x.error_free,
          (
            x.delivered,
            (x.frame_sync, (x.symbol, (x.subcarrier, (x.carrier, x.production)))),
          ),
        ),
      );
      there = λ x. refl;
      back = λ p. refl;
    })

-- [9] SEQUENCE
abbrev pub raf_report : Element RafReportContent
raf_report = structured (0xa9 ∷ []) raf_report_fields refl

-- how many frames were delivered, the locks and the production status
pub record RcfReportContent : Type 0 where
  pub credentials : Option (List ℕ)
  pub delivered : ℤ
  pub frame_sync : ℤ
  pub symbol : ℤ
  pub subcarrier : ℤ
  pub carrier : ℤ
  pub production : ℤ

abbrev pub rcf_report_fields : Members RcfReportContent
rcf_report_fields = members_as (credentials ▸ number ▸ number ▸ number ▸ number ▸ number ▸ last
    number) (record {
      to = λ p. record {
        credentials = p.0;
        delivered = p.1.0;
        frame_sync = p.1.1.0;
        symbol = p.1.1.1.0;
        subcarrier = p.1.1.1.1.0;
        carrier = p.1.1.1.1.1.0;
        production = p.1.1.1.1.1.1;
      };
      from = λ x. (
        x.credentials,
        (
          x.delivered,
          (
            x.frame_sync,
            (x.symbol, (x.subcarrier, (x.carrier, x.production))),
          ),
        ),
      );
      there = λ x. refl;
      back = λ p. refl;
    })

-- [9] SEQUENCE
abbrev pub rcf_report : Element RcfReportContent
rcf_report = structured (0xa9 ∷ []) rcf_report_fields refl
