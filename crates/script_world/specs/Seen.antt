-- A round of a connection sees what the book that it asks has published. This product's own.
use Rattle.std.specs.Prelude.{◌≡◌, ℕ, Bool, true, false, if◌then◌else◌, None, Some, List, length}
use Rattle.std.proofs.Common.{refl}
use Rattle.archive_terms.specs.Archive.{Entry}
use Rattle.archive_terms.specs.Glimpse.{Want, wants_nothing, wants_front, wants_items, glimpse}
use Rattle.frame_select.specs.Glimpse.{as_said}
use Rattle.station_config.specs.declared.site.Site.{Site}
use Rattle.station_book.specs.State as books
use Rattle.station_book.specs.History.{moment_at}
use Rattle.session_core.specs.Course.{is_over}
use Rattle.session_core.specs.Session.{next_of}
use Rattle.session_core.specs.Steps.{inquiry_at}
use Rattle.session_events.specs.Rounds.{SawFront}
use Rattle.station_links.specs.Connected.{Connected}
use Rattle.station_links.specs.Rounds.{listened_at, told_now, round_at}

front_is : (entries : List Entry) (want : Want)
    → (as_said (glimpse entries want)).front ≡ length entries
front_is entries wants_nothing = refl
front_is entries wants_front = refl
front_is entries (wants_items w) = refl

module _ (site : Site) (c reading : ℕ) (b : books.State) (l : Connected) where
  saw_by : (over : Bool)
      → SawFront (length b.published)
      (if over then None else Some (told_now site c (listened_at l) b reading))
  saw_by true = tt
  saw_by false =
      let s = listened_at l in
      front_is b.published
      (inquiry_at site s.standing (next_of s) (moment_at b reading)).want

  -- the theorem
  pub sees_published : SawFront (length b.published) (round_at site c l b reading).told
  sees_published = saw_by (is_over (listened_at l).standing.course)
