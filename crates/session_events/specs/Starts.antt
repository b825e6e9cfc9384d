-- Each START of a session is one of its station's world. This product's own.
use Rattle.std.specs.Prelude.{◌≡◌, ◌⊎◌, ℕ, true, false, Some, List, [], ◌∷◌, slice_get}
use Rattle.return_core.specs.Visits.{rounds_of}
use Rattle.return_pdu.specs.declared.return_kind.ReturnKind.{ReturnKind}
use Rattle.station_config.specs.Validity.{IsSite}
use Rattle.station_config.specs.declared.site.Site.{Site}
use Rattle.session_core.specs.Lists.{Began, start_of}
use Rattle.session_core.specs.Session.{State, Round, BookAnswer, AreRounds, after_round}
use Rattle.session_core.specs.Session.{after_rounds}
use Rattle.session_laws.specs.Deliveries.{is_serving, visits_of}
use Rattle.session_laws.specs.Handing.{Start as SessionStart, IsStart, found_by, begun_by}
use Rattle.session_laws.specs.Instances.{shape_at, shape_of_terms}
use Rattle.session_laws.specs.Starts.{Asks}
use Rattle.station_world.specs.Comes.{Begins}
use Rattle.station_world.specs.Life.{Start, with_end}
use Rattle.line_events.specs.Progress.{ended_now, progressed}
use Rattle.session_events.specs.Rounds.{front_in, progress_of}

-- what rounds of a session at a door, one behind the other, make of STARTs
abbrev pub starts_over : ℕ → Site → State → List Round → List Start → List Start
starts_over door site s [] all = all
starts_over door site s (r ∷ rounds) all =
    starts_over door site (after_round site s r) rounds
    (progressed door (front_in r.told) (progress_of door site s r) all)

-- behind rounds that a session serves no round follows, or the first one ends what it serves
abbrev pub ServesNoMore : Site → State → List Round → Type 0
ServesNoMore site s [] = Unit {0}
ServesNoMore site s (r ∷ rounds) = is_serving (after_round site s r).standing ≡ false

-- so it is behind the rounds that a START serves: these are all
abbrev pub ServesThese : Began → SessionStart → Type 0
ServesThese b a = ServesNoMore b.site (after_rounds b.site (begun_by b a) a.serving) a.later

-- A START of the world is this one of a session: it is at its door; its terms are what the START's
-- message asks for, of the instance that is bound, at the front that the round's look saw; and its
-- rounds begin with the delivery's in the rounds that the START serves, and are no others where it
-- serves no more.
pub record IsIt (b : Began) (a : SessionStart) (s : Start) : Type 0 where
  pub kind : ReturnKind
  pub door : s.door ≡ b.door
  pub told : BookAnswer
  pub asked : a.own.told ≡ Some told
  pub asks : Asks b.site (found_by b a) a.own told.answer.glimpse.front s.terms
  pub shape : shape_at b.site (found_by b a).standing ≡ Some (shape_of_terms kind s.terms)
  pub rounds : Begins (rounds_of (visits_of b.site (begun_by b a) a.serving)) s.rounds
  pub all : ServesThese b a → s.rounds ≡ rounds_of (visits_of b.site (begun_by b a) a.serving)

-- so is one of these
pub record HasIt (b : Began) (a : SessionStart) (all : List Start) : Type 0 where
  pub place : ℕ
  pub start : Start
  pub there : slice_get all place ≡ Some start
  pub is : IsIt b a start

-- Behind all rounds of its session. Where it serves no more it ended, if a round followed; and what
-- ends the START that goes on at the door leaves it as it is, and ended.
pub record LeavesIt (b : Began) (a : SessionStart) (all : List Start) : Type 0 where
  pub has : HasIt b a all
  pub over : ServesThese b a → (a.later ≡ []) ⊎ (has.start.ended ≡ true)
  pub ends : ServesThese b a
      → slice_get (progressed b.door 0 ended_now all) has.place ≡ Some (with_end has.start)

-- Each START among the rounds of a session of a valid site is one of those that the rounds leave,
-- whatever STARTs there were before.
abbrev pub StartsAreThere : Type 0
StartsAreThere =
    (b : Began) (rounds : List Round) (before : List Start) → IsSite b.site
    → AreRounds b.site (start_of b) rounds → (a : SessionStart) → IsStart b rounds a
    → LeavesIt b a (starts_over b.door b.site (start_of b) rounds before)
