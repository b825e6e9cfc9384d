-- The octets of an entry in a file: one spelling for each. This product's own form; numbers stand
-- with the high octet first.
use Rattle.std.specs.Prelude.{ℕ, List, [], ◌∷◌, ◌++◌, length}
use Rattle.std.specs.Int.{w32, to_be_bytes}
use Rattle.cds_time.specs.Moment.{octets_of}
use Rattle.cds_time.specs.declared.cds.Cds.{Cds}
use Rattle.cds_time.specs.declared.cds.Rest.{Rest}
use Rattle.cds_time.specs.declared.cds.Rest.TheVariants.{Micros, Picos}
use Rattle.archive_terms.specs.Archive.{Entry, Frame, frame, loss_of_sync, production, seal}
use Rattle.record_form.specs.declared.kind.TheConstants.{FRAME, LOSS_OF_SYNC, PRODUCTION, SEAL}
use Rattle.record_form.specs.declared.kind.TheConstants.{MICROS, PICOS}

-- the number of a time's form
abbrev pub form_of : Rest → ℕ
form_of (Micros n) = MICROS
form_of (Picos n) = PICOS

-- the number of the form, and the fields: 8 octets with microseconds, 10 with picoseconds
abbrev pub time_octets : Cds → List ℕ
time_octets time = form_of time.rest ∷ octets_of time

-- an antenna's identifier behind its length, one octet
abbrev pub antenna_octets : List ℕ → List ℕ
antenna_octets antenna = length antenna ∷ antenna

-- a frame's octets behind their number, four octets
abbrev pub content_octets : List ℕ → List ℕ
content_octets octets = to_be_bytes w32 (length octets) ++ octets

abbrev pub frame_octets : Frame → List ℕ
frame_octets f =
    time_octets f.ert ++ (f.quality ∷ [] ++ (antenna_octets f.antenna
    ++ (to_be_bytes w32 f.lost ++ content_octets f.octets)))

-- the number of the kind, and the fields
abbrev pub entry_octets : Entry → List ℕ
entry_octets (frame f) = FRAME ∷ frame_octets f
entry_octets (loss_of_sync l) =
    LOSS_OF_SYNC ∷ (time_octets l.at ++ (l.carrier ∷ [] ++ (l.subcarrier ∷ [] ++ l.symbol ∷ [])))
entry_octets (production status) = PRODUCTION ∷ status ∷ []
entry_octets (seal at) = SEAL ∷ time_octets at
