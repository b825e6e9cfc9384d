-- A look at the whole archive.
use Rattle.std.proofs.Common.{◌≡◌, ◌≤◌, List, length, refl}
use Rattle.std.proofs.Math.Seq.{take-length}
use Rattle.archive_terms.specs.Archive.{Entry}
use Rattle.archive_terms.specs.Delivery.{Terms}
use Rattle.archive_terms.specs.Rounds.{Round, last_front}
use Rattle.archive_terms.specs.Glimpse.{Want, wants_items, Glimpse, glimpse}
use Rattle.frame_select.specs.Glimpse.{as_said}
use Rattle.return_core.specs.Course.{Course, want_of_course}
use Rattle.return_core.specs.Standing.{IsNextLook}

front_of : (entries : List Entry) (want : Want)
    → (as_said (glimpse entries want)).front ≡ length entries
front_of entries (wants_items w) = refl
front_of entries _ = refl

pub front_is : (g : Glimpse) (entries : List Entry) (want : Want)
    → g ≡ as_said (glimpse entries want) → g.front ≡ length entries
front_is g entries want shown = rw shown (front_of entries want)

pub look_is_next : (g : Glimpse) (want : Want) (c : Course) (t : Terms) (entries : List Entry)
    (rounds : List Round) → g ≡ as_said (glimpse entries want) → want ≡ want_of_course c
    → last_front t.selection.first rounds ≤ length entries → IsNextLook g c t entries rounds
look_is_next g want c t entries rounds shown wants later =
    let front = front_is g entries want shown in
    record { shown = cc (take-length entries); later = rw front later }
