-- What a session's rounds make of the START of their door. This product's own.
use Rattle.std.specs.Prelude.{◌≡◌, ℕ, ◌==◌, Bool, true, false, if◌then◌else◌, Option, Some, None}
use Rattle.std.specs.Prelude.{List, length}
use Rattle.std.specs.Option.{option_map}
use Rattle.archive_terms.specs.Archive.{Entry}
use Rattle.archive_terms.specs.Rounds.{Round as DeliveryRound}
use Rattle.return_core.specs.Visits.{round_of}
use Rattle.station_config.specs.declared.site.Site.{Site}
use Rattle.session_core.specs.Session.{State, Round, BookAnswer, after_round}
use Rattle.session_laws.specs.Deliveries.{is_serving, visit_in}
use Rattle.station_world.specs.Life.{Start, Asked}
use Rattle.line_events.specs.Progress.{Progress, none_runs, taken_now, goes_by, ended_now, progressed}
use Rattle.line_events.specs.Progress.{IsFit, MayProgress}
use Rattle.session_events.specs.Asked.{asked_in}

-- the delivery's round that a round makes, if the book was asked
abbrev pub made_in : State → Round → Option DeliveryRound
made_in s r = option_map round_of (visit_in s r)

abbrev pub taken_by : Option Asked → Progress
taken_by None = none_runs
taken_by (Some a) = taken_now a

abbrev pub made_by : Option DeliveryRound → Progress
made_by None = none_runs
made_by (Some r) = goes_by r

-- By whether a session serves before a round, and behind it: it never did; its START is taken; that
-- START makes a round; it ends.
abbrev pub progress_by : Bool → Bool → Option Asked → Option DeliveryRound → Progress
progress_by false false asked made = none_runs
progress_by false true asked made = taken_by asked
progress_by true true asked made = made_by made
progress_by true false asked made = ended_now

-- what a round of a session at a door makes of the START of that door
abbrev pub progress_of : ℕ → Site → State → Round → Progress
progress_of door site s r =
    progress_by (is_serving s.standing) (is_serving (after_round site s r).standing)
    (asked_in door site s r) (made_in s r)

-- where door 0 is the desk's, as in a script, which has no session
abbrev pub progress_in : ℕ → Site → State → Round → Progress
progress_in door site s r = if door == 0 then none_runs else progress_of door site s r

-- ---- that it may come

-- the front that a round's look saw, if the book was asked
abbrev pub front_in : Option BookAnswer → ℕ
front_in None = 0
front_in (Some told) = told.answer.glimpse.front

-- it is this one
abbrev pub SawFront : ℕ → Option BookAnswer → Type 0
SawFront front None = Unit {0}
SawFront front (Some told) = told.answer.glimpse.front ≡ front

-- What a round makes of a START is fit where it saw this front; it makes the same at the front that
-- its look saw; and it may come where the round saw what is published.
pub record RoundsMayCome : Type 0 where
  pub fits : (door front : ℕ) (site : Site) (s : State) (r : Round) → SawFront front r.told
      → IsFit door front (progress_of door site s r)
  pub same : (door front : ℕ) (site : Site) (s : State) (r : Round) (all : List Start)
      → SawFront front r.told
      → progressed door (front_in r.told) (progress_of door site s r) all
      ≡ progressed door front (progress_of door site s r) all
  pub may : (door : ℕ) (site : Site) (s : State) (r : Round) (published : List Entry)
      → SawFront (length published) r.told
      → MayProgress door published (progress_in door site s r)
