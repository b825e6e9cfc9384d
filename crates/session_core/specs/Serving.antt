-- Rounds from a session's beginning.
use Rattle.std.specs.Prelude.{◌≡◌, ℕ, Option, List, [], ◌++◌, length, take}
use Rattle.link_model.specs.declared.call.Call.{Call}
use Rattle.link_model.specs.Calls.{Tells, octets_handed}
use Rattle.link_model.specs.Counts.{CountsWhere}
use Rattle.station_book.specs.State as book
use Rattle.station_book.specs.History.{IsLegal, replay}
use Rattle.session_core.specs.declared.run.Start.{Start}
use Rattle.session_core.specs.declared.spoken.Spoken.{Spoken}
use Rattle.session_core.specs.declared.spoken.Spoken.TheVariants.{Going}
use Rattle.session_services.specs.Whole.{AreWhole}
use Rattle.session_core.specs.Session.{Round, AreRounds, session_calls, session_events, session_end}
use Rattle.session_core.specs.Session.{spoken_of, is_fault}
use Rattle.session_core.specs.Lists.{Began, start_of, state_after, readings_in, Part, IsPart}
use Rattle.session_core.specs.Lists.{part_state, part_calls, part_events}

-- a session's beginning, as contracts see it
abbrev pub began_of : Start → Began
began_of start =
    record {
      site = start.site.now;
      door = start.door;
      draw = start.draw;
      entered = start.entered;
    }

-- These are rounds of a session from its beginning, at the first of these readings: by the answers
-- of link and book, the events of the book, with what each asks, are *Session*.
pub record Made (b : Began) (rounds : List Round) (book_before book_after : book.State)
    (readings : List ℕ) : Type 0 where
  pub right : AreRounds b.site (start_of b) rounds
  pub legal : IsLegal book_before (session_events b.site b.door (start_of b) rounds)
  pub book_is : book_after ≡ replay book_before
      (session_events b.site b.door (start_of b) rounds)
  pub made : ℕ
  pub reads : readings_in (session_events b.site b.door (start_of b) rounds) ≡ take made readings

-- Rounds at the first of these readings, or at all of them where the session goes on, came to this.
-- By the answers of link and book, the calls of the link with each offer's octets, and the end are
-- *Session* too. What the link was handed is whole messages.
pub record Serves (b : Began) (before after : Option (List Call)) (book_before
    book_after : book.State) (readings : List ℕ) (end : Spoken) : Type 0 where
  pub rounds : List Round
  pub so : Made b rounds book_before book_after readings
  pub told : Tells before after (session_calls b.site (start_of b) rounds)
  pub whole : AreWhole (octets_handed (session_calls b.site (start_of b) rounds))
  pub ends : end ≡ session_end b.site (start_of b) rounds
  pub all : end ≡ Going → so.made ≡ length readings

-- Behind rounds at the first of these readings memory was wanted: in the next round, or where the
-- session was to begin. The book is as these rounds left it. The link has their calls, and behind
-- them at most those of a listen, and was handed whole messages; its count of faults rose exactly
-- where it failed in these.
pub record Breaks (b : Began) (before after : Option (List Call)) (faults faults_now : ℕ)
    (book_before book_after : book.State) (readings : List ℕ) : Type 0 where
  pub rounds : List Round
  pub so : Made b rounds book_before book_after readings
  pub part : Part
  pub part_right : IsPart (state_after b rounds) part
  pub unasked : part_events b.site b.door (state_after b rounds) part ≡ []
  pub told : Tells before after
      (session_calls b.site (start_of b) rounds ++ part_calls (state_after b rounds) part)
  pub whole : AreWhole
      (octets_handed
      (session_calls b.site (start_of b) rounds ++ part_calls (state_after b rounds) part))
  pub fails : CountsWhere
      (is_fault (spoken_of (part_state b.site (state_after b rounds) part).standing.course))
      faults faults_now
