-- The frames of a rehearsal, and the archive that they are. This product's own.
use Rattle.std.proofs.Common.{◌≡◌, ℕ, ◌+◌, ◌*◌, ◌-◌, ◌%◌, ◌==◌, Bool, true, false}
use Rattle.std.proofs.Common.{if◌then◌else◌, List, [], ◌∷◌, ◌++◌}
use Rattle.std.proofs.Common.{length, map, refl, arith}
use Rattle.std.specs.List.{range_with_len, count_by}
use Rattle.std.proofs.lemmas.List.FromFn.{length-map-range_with_len}
use Rattle.cds_time.specs.declared.cds.Cds.{Cds}
use Rattle.cds_time.specs.declared.cds.Rest.TheVariants.{Micros}
use Rattle.archive_terms.specs.Archive.{Frame, Entry, frame, seal}
use Rattle.sle_numbers.specs.FrameQuality.{number_of}
use Rattle.sle_numbers.specs.declared.frame_quality.FrameQuality.{FrameQuality}
use Rattle.sle_numbers.specs.declared.frame_quality.FrameQuality.TheVariants.{Good, Erred}

-- frame i is received 20,000 days and 10 i milliseconds after 1958-01-01
abbrev pub time_at : ℕ → Cds
time_at i = record { days = 20000; millis = 10 * i; rest = Micros 0 }

-- each seventh frame is erred, from frame 3 on
abbrev pub quality_at : ℕ → FrameQuality
quality_at i = if i % 7 == 3 then Erred else Good

-- a frame has 1,115 octets: these and two before them
unfoldable pub body_octets : ℕ
body_octets = 1113

pub body_octets-is : body_octets ≡ 1113
unfolding body_octets
body_octets-is = refl

-- the octet of frame i at a place
abbrev pub octet_at : ℕ → ℕ → ℕ
octet_at i place = (i + place) % 256

abbrev pub body_at : ℕ → List ℕ
body_at i = map (octet_at i) (range_with_len 2 body_octets)

-- frame i begins as a TM frame of spacecraft 42 on virtual channel i mod 8 (CCSDS 132.0-B, 4.1.2)
unfoldable pub octets_at : ℕ → List ℕ
octets_at i = 0x02 ∷ (0xa0 + 2 * (i % 8)) ∷ body_at i

pub length-octets_at : (i : ℕ) → length (octets_at i) ≡ 1115
unfolding octets_at
length-octets_at i =
    omega (arith, length-map-range_with_len (octet_at i) 2 body_octets, body_octets-is)

-- octets that go up by one in a circle: a frame's behind the first two are a stretch of these
unfoldable pub ramp_size : ℕ
ramp_size = 1369

pub ramp_size-is : ramp_size ≡ 1369
unfolding ramp_size
ramp_size-is = refl

abbrev pub in_circle : ℕ → ℕ
in_circle place = place % 256

unfoldable pub ramp_octets : List ℕ
ramp_octets = map in_circle (range_with_len 0 ramp_size)

abbrev pub frame_at : ℕ → Frame
frame_at i = record {
  ert = time_at i;
  quality = number_of (quality_at i);
  antenna = 0x41 ∷ [];
  lost = 0;
  octets = octets_at i;
}

abbrev pub entry_at : ℕ → Entry
entry_at i = frame (frame_at i)

-- the first frames
abbrev pub frames : ℕ → List Entry
frames n = map entry_at (range_with_len 0 n)

-- whether an entry is a frame, and how many are
abbrev pub is_frame : Entry → Bool
is_frame (frame _) = true
is_frame _ = false

abbrev pub frames_stored : List Entry → ℕ
frames_stored entries = count_by is_frame entries

-- so many frames, and a seal at the last one's time
abbrev pub archive : ℕ → List Entry
archive n = frames n ++ seal (time_at (n - 1)) ∷ []
