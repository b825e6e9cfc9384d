-- The sessions of a run's doors, one behind the other, and what their events make of STARTs. This
-- product's own.
use Rattle.std.specs.Prelude.{◌≡◌, ℕ, Option, Some, None, List, [], ◌∷◌, ◌++◌}
use Rattle.link_model.specs.declared.call.Call.{Call as LinkCall}
use Rattle.station_config.specs.declared.site.Site.{Site}
use Rattle.station_book.specs.State.{quit, Event as Answered}
use Rattle.session_core.specs.Lists.{Part, start_of}
use Rattle.session_core.specs.Session.{State, Round, BookAnswer, AreRounds, after_round}
use Rattle.session_core.specs.Session.{session_events}
use Rattle.session_turns.specs.Serving.{began_at}
use Rattle.station_world.specs.Life.{Start}
use Rattle.line_events.specs.Progress.{Progress, ended_now, progressed}
use Rattle.session_events.specs.Rounds.{progress_of}
use Rattle.session_events.specs.Starts.{starts_over}

-- A session of a door: the program's draw, the moment at which it began, its rounds, the part of a
-- further one that ran out of memory, if any, and the calls of its link.
pub record Session : Type 0 where
  pub draw : ℕ
  pub entered : ℕ
  pub rounds : List Round
  pub part : Part
  pub calls : List LinkCall

abbrev pub first_of : Site → ℕ → Session → State
first_of site door a = start_of (began_at site door a.draw a.entered)

abbrev pub IsSession : Site → ℕ → Session → Type 0
IsSession site door a = AreRounds site (first_of site door a) a.rounds

-- The events of a door are those of its sessions: of each the answers to its rounds, and a quit.
abbrev pub AreAsked : Site → ℕ → List Answered → List Session → Type 0
AreAsked site door es [] = es ≡ []
AreAsked site door es (a ∷ sessions) =
    (left : Answered) × (rest : List Answered)
    × (es ≡ session_events site door (first_of site door a) a.rounds ++ left ∷ rest)
    × (left.call ≡ quit door) × AreAsked site door rest sessions

-- ---- what they make of STARTs

-- the answer to a round makes what the round does
abbrev pub answer_makes : Option BookAnswer → Progress → List Progress
answer_makes None p = []
answer_makes (Some told) p = p ∷ []

abbrev pub rounds_make : ℕ → Site → State → List Round → List Progress
rounds_make door site s [] = []
rounds_make door site s (r ∷ rounds) =
    answer_makes r.told (progress_of door site s r)
    ++ rounds_make door site (after_round site s r) rounds

-- and a quit ends the START that goes on, if one does
abbrev pub sessions_make : Site → ℕ → List Session → List Progress
sessions_make site door [] = []
sessions_make site door (a ∷ sessions) =
    rounds_make door site (first_of site door a) a.rounds
    ++ ended_now ∷ sessions_make site door sessions

-- the STARTs that they leave
abbrev pub starts_of : Site → ℕ → List Session → List Start → List Start
starts_of site door [] all = all
starts_of site door (a ∷ sessions) all =
    starts_of site door sessions
    (progressed door 0 ended_now (starts_over door site (first_of site door a) a.rounds all))
