-- What a START is answered (CCSDS 912.1-B, annex A): under [0] the times of radiation, under [1]
-- why there is none.
use Rattle.std.proofs.Common.{[], ◌∷◌, Option, Result, refl}
use Rattle.ber_shape.specs.Element.{Element}
use Rattle.ber_shape.specs.Members.{Members, structured, last, ◌▸◌}
use Rattle.cds_time.specs.declared.cds.Cds.{Cds}
use Rattle.sle_common.specs.declared.diagnostic.Diagnostic.{Diagnostic}
use Rattle.sle_common.specs.Answer.{answered}
use Rattle.sle_common.specs.Time.{time, conditional_time}

-- the time at which radiation may start, and that at which it stops
abbrev pub window_fields : Members (Cds × Option Cds)
window_fields = time ▸ last conditional_time

-- [0] SEQUENCE of the times
abbrev pub start_answer : Element (Result (Cds × Option Cds) Diagnostic)
start_answer = answered (structured (0xa0 ∷ []) window_fields refl) refl
