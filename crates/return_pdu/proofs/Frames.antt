-- What a frame's fields spell together, and how long that is.
use Rattle.std.proofs.Common.{◌≡◌, ℕ, ◌+◌, ◌*◌, ◌≤◌, ℤ, pos, [], ◌∷◌, ◌++◌, length, length-append}
use Rattle.std.proofs.Common.{append-nil, arith, refl, ◌∙◌}
use Rattle.ber_core.specs.Length.{shortest_length}
use Rattle.ber_core.specs.Tree.{primitive, trees}
use Rattle.ber_core.specs.Spelling.{element, canonical, canonical_all}
use Rattle.ber_core.specs.Integer.{integer_octets}
use Rattle.ber_core.specs.Parts.{spelled-trees, length-constructed, length-primitive}
use Rattle.ber_core.specs.Parts.{few-shortest_length, few-integer_octets}
use Rattle.cds_time.specs.Moment.{octets_of}
use Rattle.cds_time.specs.declared.cds.Cds.{Cds}
use Rattle.cds_time.specs.declared.cds.Rest.{Rest}
use Rattle.cds_time.specs.declared.cds.Rest.TheVariants.{Micros, Picos}
use Rattle.return_pdu.specs.Items.{Frame, frame, frame_fields, absent, end_of_data, integer, time}
use Rattle.return_pdu.specs.Items.{time_tag}
use Rattle.return_pdu.specs.Plain.{FramesAreShort}

pub spelled-frame_fields : (f : Frame) → canonical_all (trees (frame_fields f))
    ≡ canonical absent ++ (canonical (time f.ert)
    ++ (canonical (primitive (0x81 ∷ []) f.antenna)
    ++ (canonical (integer f.continuity) ++ (canonical (integer (pos f.quality))
    ++ (canonical absent ++ canonical (primitive (0x04 ∷ []) f.octets))))))
unfolding frame_fields
spelled-frame_fields f = spelled-trees (frame_fields f) ∙ simp append-nil

pub length-frame : (f : Frame) (n : ℕ) → n ≡ length (canonical_all (trees (frame_fields f)))
    → length (canonical (frame f)) ≡ 1 + length (shortest_length n) + n
length-frame f n e = rw e (length-constructed (0xa0 ∷ []) (trees (frame_fields f)))

pub length-frame_fields : (f : Frame) → length (canonical_all (trees (frame_fields f)))
    ≡ 2 * length (canonical absent) + length (canonical (time f.ert)) + length
    (canonical (primitive (0x81 ∷ []) f.antenna)) + length (canonical (integer f.continuity))
    + length (canonical (integer (pos f.quality))) + length
    (canonical (primitive (0x04 ∷ []) f.octets))
length-frame_fields f = rw spelled-frame_fields (simp length-append (omega arith))

pub null_size : length (canonical absent) ≡ 2
unfolding canonical element shortest_length
null_size = refl

pub end_of_data_size : length (canonical end_of_data) ≡ 6
unfolding canonical element shortest_length
end_of_data_size = refl

one_tag : (rest : Rest) → length (time_tag rest) ≡ 1
one_tag (Micros n) = refl
one_tag (Picos n) = refl

few_octets : (t : Cds) → length (octets_of t) ≤ 10
few_octets t = elim t.rest as (λ rest. length (octets_of (record t { rest = rest })) ≤ 10)
    [ Micros n ↦ omega arith | Picos n ↦ omega arith ]

time_small : (t : Cds) → length (canonical (time t)) ≤ 20
unfolding time
time_small t = omega (
  arith,
  length-primitive (time_tag t.rest) (octets_of t),
  one_tag t.rest,
  few_octets t,
  few-shortest_length (length (octets_of t)),
)

integer_small : (z : ℤ) → length (canonical (integer z)) ≤ 26
integer_small z = omega (
  arith,
  length-primitive (0x02 ∷ []) (integer_octets z),
  few-integer_octets z,
  few-shortest_length (length (integer_octets z)),
)

pub frames_short : FramesAreShort
frames_short f fits =
    let content = length (canonical_all (trees (frame_fields f))) in
    omega (
      arith,
      length-frame f content refl,
      length-frame_fields f,
      few-shortest_length content,
      null_size,
      time_small f.ert,
      length-primitive (0x81 ∷ []) f.antenna,
      few-shortest_length (length f.antenna),
      fits.antenna_short,
      integer_small f.continuity,
      integer_small (pos f.quality),
      length-primitive (0x04 ∷ []) f.octets,
      few-shortest_length (length f.octets),
    )
