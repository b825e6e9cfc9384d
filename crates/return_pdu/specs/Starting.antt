-- START of the return services and its return (CCSDS 911.1-B and 911.2-B, annex A).
use Rattle.std.proofs.Common.{ℕ, Option, List, [], ◌∷◌, Result, refl}
use Rattle.ber_shape.specs.Element.{Element}
use Rattle.ber_shape.specs.Members.{Members, structured, last, ◌▸◌}
use Rattle.ber_shape.specs.Same.{members_as}
use Rattle.cds_time.specs.declared.cds.Cds.{Cds}
use Rattle.sle_common.specs.declared.diagnostic.Diagnostic.{Diagnostic}
use Rattle.sle_common.specs.declared.gvcid.Gvcid.{Gvcid}
use Rattle.sle_common.specs.Numbers.{invoke_id}
use Rattle.sle_common.specs.Credentials.{credentials}
use Rattle.sle_common.specs.Time.{conditional_time}
use Rattle.sle_common.specs.Gvcid.{gvcid}
use Rattle.sle_common.specs.Answer.{confirmation}
use Rattle.sle_common.specs.InTable.{in_table}
use Rattle.sle_numbers.specs.RequestedFrameQuality as requested
use Rattle.sle_numbers.specs.declared.requested_frame_quality.RequestedFrameQuality.{RequestedFrameQuality}

-- who sends, its number, the times that the frames asked for lie between, and their quality
pub record RafStartContent : Type 0 where
  pub credentials : Option (List ℕ)
  pub invoke : ℕ
  pub start : Option Cds
  pub stop : Option Cds
  pub quality : RequestedFrameQuality

abbrev pub requested_quality : Element RequestedFrameQuality
requested_quality = in_table requested.number_of requested.all requested.each

abbrev pub raf_start_fields : Members RafStartContent
raf_start_fields = members_as (credentials ▸ invoke_id ▸ conditional_time ▸ conditional_time ▸ last
    requested_quality) (record {
      to = λ p. record {
        credentials = p.0;
        invoke = p.1.0;
        start = p.1.1.0;
        stop = p.1.1.1.0;
        quality = p.1.1.1.1;
      };
      from = λ x. (x.credentials, (x.invoke, (x.start, (x.stop, x.quality))));
      there = λ x. refl;
      back = λ p. refl;
    })

-- [0] SEQUENCE
abbrev pub raf_start : Element RafStartContent
raf_start = structured (0xa0 ∷ []) raf_start_fields refl

-- who sends, its number, the times that the frames asked for lie between, and their channel
pub record RcfStartContent : Type 0 where
  pub credentials : Option (List ℕ)
  pub invoke : ℕ
  pub start : Option Cds
  pub stop : Option Cds
  pub channel : Gvcid

abbrev pub rcf_start_fields : Members RcfStartContent
rcf_start_fields = members_as (credentials ▸ invoke_id ▸ conditional_time ▸ conditional_time ▸ last
    (structured (0x30 ∷ []) gvcid refl)) (record {
      to = λ p. record {
        credentials = p.0;
        invoke = p.1.0;
        start = p.1.1.0;
        stop = p.1.1.1.0;
        channel = p.1.1.1.1;
      };
      from = λ x. (x.credentials, (x.invoke, (x.start, (x.stop, x.channel))));
      there = λ x. refl;
      back = λ p. refl;
    })

-- [0] SEQUENCE
abbrev pub rcf_start : Element RcfStartContent
rcf_start = structured (0xa0 ∷ []) rcf_start_fields refl

-- that the delivery starts, or why not
pub record StartReturnContent : Type 0 where
  pub credentials : Option (List ℕ)
  pub invoke : ℕ
  pub result : Result (Unit {0}) Diagnostic

abbrev pub start_return_fields : Members StartReturnContent
start_return_fields = members_as (credentials ▸ invoke_id ▸ last confirmation) (record {
  to = λ p. record { credentials = p.0; invoke = p.1.0; result = p.1.1 };
  from = λ x. (x.credentials, (x.invoke, x.result));
  there = λ x. refl;
  back = λ p. refl;
})

-- [1] SEQUENCE
abbrev pub start_return : Element StartReturnContent
start_return = structured (0xa1 ∷ []) start_return_fields refl
