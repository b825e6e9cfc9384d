-- Plain items fit, and have the trees of their fields.
use Rattle.std.proofs.Common.{◌≡◌, ℕ, zero, suc, ◌≤◌, ℤ, pos, negsuc, ◌≤ℤ◌, [], ◌∷◌, Some, refl}
use Rattle.std.proofs.Common.{sym, ◌∙◌, ap, arith}
use Rattle.std.proofs.lemmas.Int.{ints}
use Rattle.ber_core.specs.Integer.{Has64Bits}
use Rattle.ber_core.specs.Tree.{Tree, constructed, tree_and, no_trees, primitive}
use Rattle.cds_time.specs.Octets.{FieldsFit}
use Rattle.cds_time.specs.declared.cds.Cds.{Cds}
use Rattle.cds_time.specs.declared.cds.Rest.{Rest}
use Rattle.cds_time.specs.declared.cds.Rest.TheVariants.{Micros, Picos}
use Rattle.sle_common.specs.Time as common
use Rattle.sle_numbers.specs.Numbered.{of_number}
use Rattle.sle_numbers.specs.FrameQuality.{number_of, all, each}
use Rattle.sle_numbers.specs.declared.frame_quality.FrameQuality.{FrameQuality}
use Rattle.sle_numbers.specs.declared.frame_quality.FrameQuality.TheVariants.{Good, Erred, Undetermined}
use Rattle.return_pdu.specs.Fields.{IsFrame}
use Rattle.return_pdu.specs.Items.{Frame, frame, frame_fields, absent, integer, time}
use Rattle.return_pdu.specs.TransferItem.{raf_item}
use Rattle.return_pdu.specs.Plain.{plain_item, with_quality, FramesArePlain, EndIsPlain}

made : ℕ → ℕ → Rest → Cds
made days millis rest = record { days = days; millis = millis; rest = rest }

time_fits : (days millis : ℕ) (rest : Rest)
    → FieldsFit (record { days = days; millis = millis; rest = rest })
    → common.time.Fits (record { days = days; millis = millis; rest = rest })
time_fits days millis (Micros n) fit = record { fields = fit; form = refl }
time_fits days millis (Picos n) fit = record { fields = fit; form = refl }

time_tree : (days millis : ℕ) (rest : Rest)
    → common.time.tree (record { days = days; millis = millis; rest = rest })
    ≡ time (record { days = days; millis = millis; rest = rest })
unfolding time
time_tree days millis (Micros n) = refl
time_tree days millis (Picos n) = refl

has_bits : (z : ℤ) → negsuc 0 ≤ℤ z → z ≤ℤ pos 16777215 → Has64Bits z
has_bits z low high = record { least = grind (arith, ints); greatest = grind (arith, ints) }

-- a frame's tree with this one in the time's place, and this quality
with_time : Frame → ℕ → Tree → Tree
with_time f quality t = constructed (0xa0 ∷ [])
    (tree_and absent (tree_and t (tree_and (primitive (0x81 ∷ []) f.antenna)
    (tree_and (integer f.continuity) (tree_and (integer (pos quality))
    (tree_and absent (tree_and (primitive (0x04 ∷ []) f.octets) no_trees)))))))

pub tree_with : (f : Frame) (q : FrameQuality) → number_of q ≡ f.quality
    → raf_item.tree (with_quality f (Some q)) ≡ frame f
unfolding frame_fields with_time
tree_with f q e = ap (with_time f (number_of q)) (time_tree f.ert.days f.ert.millis f.ert.rest)
    ∙ ap (λ n. with_time f n (time f.ert)) e

pub fits_with : (f : Frame) (q : FrameQuality) → IsFrame f → FieldsFit f.ert
    → raf_item.Fits (with_quality f (Some q))
fits_with f q is fit = record {
  fields = (
    tt,
    (
      time_fits f.ert.days f.ert.millis f.ert.rest fit,
      (
        record { least_so = is.antenna_some; greatest_so = is.antenna_short },
        (
          record {
            bits = has_bits f.continuity is.continuity_least is.continuity_greatest;
            least_so = is.continuity_least;
            greatest_so = is.continuity_greatest;
          },
          (
            tt,
            (tt, record { least_so = is.octets_some; greatest_so = is.octets_fit }),
          ),
        ),
      ),
    ),
  );
  has_quality = refl;
}

-- a number up to 2 is that of a quality
of_small : (n : ℕ) → n ≤ 2
    → (q : FrameQuality) × (of_number number_of all n ≡ Some q) × (number_of q ≡ n)
of_small zero h = (Good, refl, refl)
of_small (suc zero) h = (Erred, refl, refl)
of_small (suc (suc zero)) h = (Undetermined, refl, refl)
of_small (suc (suc (suc n))) h = absurd (omega (arith, h))

pub frames_are_plain : FramesArePlain
frames_are_plain f is fit = let known = of_small f.quality is.quality in record {
  fits = rw known.1 (fits_with f known.0 is fit);
  tree = rw known.1 (tree_with f known.0 known.2);
}

-- the number of a quality is that of this one
pub plain_with : (f : Frame) (q : FrameQuality) → number_of q ≡ f.quality
    → with_quality f (Some q) ≡ plain_item f
plain_with f q e = ap (with_quality f) (sym (each q).found)
    ∙ ap (λ n. with_quality f (of_number number_of all n)) e

pub end_is_plain : EndIsPlain
end_is_plain = record { fits = (tt, tt); tree = refl }
