-- The trees of what a transfer buffer of RAF holds (CCSDS 911.1-B, annex A), with unused
-- credentials, the local form of the antenna and no annotation.
use Rattle.std.specs.Prelude.{◌≡◌, ℕ, ℤ, pos, List, [], ◌∷◌, ◌++◌, length}
use Rattle.std.specs.List.{flat_map}
use Rattle.ber_core.specs.Length.{shortest_length}
use Rattle.ber_core.specs.Integer.{integer_octets}
use Rattle.ber_core.specs.Tree.{Tree, primitive, constructed, trees}
use Rattle.ber_core.specs.Spelling.{canonical}
use Rattle.cds_time.specs.Moment.{octets_of}
use Rattle.cds_time.specs.declared.cds.Cds.{Cds}
use Rattle.cds_time.specs.declared.cds.Rest.{Rest}
use Rattle.cds_time.specs.declared.cds.Rest.TheVariants.{Micros, Picos}

-- a NULL under the context tag 0: unused credentials, no annotation
abbrev pub absent : Tree
absent = primitive (0x80 ∷ []) []

abbrev pub integer : ℤ → Tree
integer z = primitive (0x02 ∷ []) (integer_octets z)

-- context tag 0 for the form with microseconds, 1 for the one with picoseconds
abbrev pub time_tag : Rest → List ℕ
time_tag (Micros n) = 0x80 ∷ []
time_tag (Picos n) = 0x81 ∷ []

unfoldable pub time : Cds → Tree
time t = primitive (time_tag t.rest) (octets_of t)

-- what a frame says
pub record Frame : Type 0 where
  pub ert : Cds
  pub antenna : List ℕ
  pub continuity : ℤ
  pub quality : ℕ
  pub octets : List ℕ

abbrev pub frame_of : Cds → List ℕ → ℤ → ℕ → List ℕ → Frame
frame_of ert antenna continuity quality octets =
    record {
      ert = ert;
      antenna = antenna;
      continuity = continuity;
      quality = quality;
      octets = octets;
    }

-- credentials, earth receive time, antenna, continuity, quality, annotation and the frame itself
unfoldable pub frame_fields : Frame → List Tree
frame_fields f =
    absent
    ∷ time f.ert
    ∷ primitive (0x81 ∷ []) f.antenna
    ∷ integer f.continuity
    ∷ integer (pos f.quality)
    ∷ absent
    ∷ primitive (0x04 ∷ []) f.octets
    ∷ []

abbrev pub frame : Frame → Tree
frame f = constructed (0xa0 ∷ []) (trees (frame_fields f))

abbrev pub end_of_data : Tree
end_of_data = constructed (0xa1 ∷ []) (trees (absent ∷ primitive (0x83 ∷ []) [] ∷ []))

abbrev pub buffer_tag : List ℕ
buffer_tag = 0xa8 ∷ []

-- a transfer buffer of frames and notifications
abbrev pub transfer_buffer : List Tree → Tree
transfer_buffer items = constructed buffer_tag (trees items)

-- the outer tag and length of a transfer buffer whose items have so many octets
abbrev pub buffer_start : ℕ → List ℕ
buffer_start content = buffer_tag ++ shortest_length content

-- the items' canonical spellings, one after another
abbrev pub items_spelled : List Tree → List ℕ
items_spelled items = flat_map canonical items

abbrev pub BufferIsHeadAndItems : Type 0
BufferIsHeadAndItems =
    (items : List Tree) → canonical (transfer_buffer items)
    ≡ buffer_start (length (items_spelled items)) ++ items_spelled items
