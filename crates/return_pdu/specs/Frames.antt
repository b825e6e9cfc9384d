-- Frames of a transfer buffer (CCSDS 911.1-B and 911.2-B, annex A).
use Rattle.std.proofs.Common.{◌≡◌, ℕ, ℤ, pos, negsuc, true, Option, Some, None, is_some, unwrap_or}
use Rattle.std.proofs.Common.{List, [], ◌∷◌, refl, sym, ap}
use Rattle.ber_shape.specs.Content.{integer, octet_string}
use Rattle.ber_shape.specs.Element.{Element, simple}
use Rattle.ber_shape.specs.Members.{Members, last, ◌▸◌}
use Rattle.ber_shape.specs.Same.{members_where}
use Rattle.cds_time.specs.declared.cds.Cds.{Cds}
use Rattle.sle_common.specs.Credentials.{credentials}
use Rattle.sle_common.specs.Time.{time}
use Rattle.sle_common.specs.Antenna.{Antenna, antenna}
use Rattle.sle_common.specs.Annotation.{annotation}
use Rattle.sle_common.specs.InTable.{in_table}
use Rattle.sle_numbers.specs.FrameQuality as frame_quality
use Rattle.sle_numbers.specs.declared.frame_quality.FrameQuality.{FrameQuality}
use Rattle.sle_numbers.specs.declared.frame_quality.FrameQuality.TheVariants.{Good}

-- -1 where it isn't known, 0 where no frame is missing before it, else how many are at most
abbrev pub continuity : Element ℤ
continuity = simple (0x02 ∷ []) (integer (negsuc 0) (pos 16777215)) refl

abbrev pub frame_octets : Element (List ℕ)
frame_octets = simple (0x04 ∷ []) (octet_string 1 65536) refl

abbrev pub quality : Element FrameQuality
quality = in_table frame_quality.number_of frame_quality.all frame_quality.each

-- who sends, the earth receive time, the antenna, the continuity, the quality for RAF alone, the
-- annotation, the frame
pub record FrameContent : Type 0 where
  pub credentials : Option (List ℕ)
  pub ert : Cds
  pub antenna : Antenna
  pub continuity : ℤ
  pub quality : Option FrameQuality
  pub note : Option (List ℕ)
  pub octets : List ℕ

-- ---- of RAF

abbrev pub RafParts : Type 0
RafParts = Option (List ℕ) × (Cds × (Antenna × (ℤ × (FrameQuality × (Option (List ℕ) × List ℕ)))))

abbrev pub raf_parts : Members RafParts
raf_parts = credentials ▸ time ▸ antenna ▸ continuity ▸ quality ▸ annotation ▸ last frame_octets

abbrev pub of_raf_parts : RafParts → FrameContent
of_raf_parts p = record {
  credentials = p.0;
  ert = p.1.0;
  antenna = p.1.1.0;
  continuity = p.1.1.1.0;
  quality = Some p.1.1.1.1.0;
  note = p.1.1.1.1.1.0;
  octets = p.1.1.1.1.1.1;
}

abbrev pub parts_of_raf : FrameContent → RafParts
parts_of_raf f = (
  f.credentials,
  (f.ert, (f.antenna, (f.continuity, (unwrap_or f.quality Good, (f.note, f.octets))))),
)

-- the fields are in their ranges, and there is a quality
pub record FitsRaf (f : FrameContent) : Type 0 where
  pub fields : raf_parts.Fits (parts_of_raf f)
  pub has_quality : is_some f.quality ≡ true

some_again : (o : Option FrameQuality) → is_some o ≡ true → Some (unwrap_or o Good) ≡ o
some_again (Some q) is = refl
some_again None is = cc

pub raf_there : (f : FrameContent) → FitsRaf f
    → raf_parts.Fits (parts_of_raf f) × (of_raf_parts (parts_of_raf f) ≡ f)
raf_there f fits = (
  fits.fields,
  ap (λ q. record f { quality = q }) (some_again f.quality fits.has_quality),
)

pub raf_back : (p : RafParts) → raf_parts.Fits p
    → FitsRaf (of_raf_parts p) × (parts_of_raf (of_raf_parts p) ≡ p)
raf_back p fits = (record { fields = fits; has_quality = refl }, refl)

abbrev pub raf_frame_fields : Members FrameContent
raf_frame_fields = members_where raf_parts
    (record {
      to = of_raf_parts;
      from = parts_of_raf;
      Holds = FitsRaf;
      there = raf_there;
      back = raf_back;
    })

-- ---- of RCF

abbrev pub RcfParts : Type 0
RcfParts = Option (List ℕ) × (Cds × (Antenna × (ℤ × (Option (List ℕ) × List ℕ))))

abbrev pub rcf_parts : Members RcfParts
rcf_parts = credentials ▸ time ▸ antenna ▸ continuity ▸ annotation ▸ last frame_octets

abbrev pub of_rcf_parts : RcfParts → FrameContent
of_rcf_parts p = record {
  credentials = p.0;
  ert = p.1.0;
  antenna = p.1.1.0;
  continuity = p.1.1.1.0;
  quality = None;
  note = p.1.1.1.1.0;
  octets = p.1.1.1.1.1;
}

abbrev pub parts_of_rcf : FrameContent → RcfParts
parts_of_rcf f = (f.credentials, (f.ert, (f.antenna, (f.continuity, (f.note, f.octets)))))

-- the fields are in their ranges, and there is no quality
pub record FitsRcf (f : FrameContent) : Type 0 where
  pub fields : rcf_parts.Fits (parts_of_rcf f)
  pub no_quality : f.quality ≡ None

pub rcf_there : (f : FrameContent) → FitsRcf f
    → rcf_parts.Fits (parts_of_rcf f) × (of_rcf_parts (parts_of_rcf f) ≡ f)
rcf_there f fits = (fits.fields, ap (λ q. record f { quality = q }) (sym fits.no_quality))

pub rcf_back : (p : RcfParts) → rcf_parts.Fits p
    → FitsRcf (of_rcf_parts p) × (parts_of_rcf (of_rcf_parts p) ≡ p)
rcf_back p fits = (record { fields = fits; no_quality = refl }, refl)

abbrev pub rcf_frame_fields : Members FrameContent
rcf_frame_fields = members_where rcf_parts
    (record {
      to = of_rcf_parts;
      from = parts_of_rcf;
      Holds = FitsRcf;
      there = rcf_there;
      back = rcf_back;
    })
