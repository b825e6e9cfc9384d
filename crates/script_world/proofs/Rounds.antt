-- The rounds of a connection lead where they leave the book.
use Rattle.std.proofs.Common.{ℕ, zero, suc, Bool, true, false, ◌&&◌, not, IsTrue, Option, Some}
use Rattle.std.proofs.Common.{None, List, [], ◌∷◌, ◌++◌, length, refl, sym, subst}
use Rattle.std.proofs.lemmas.Bool.{and_parts}
use Rattle.std.proofs.lemmas.List.Sums.{fold-append}
use Rattle.archive_terms.specs.Archive.{Entry}
use Rattle.station_config.specs.declared.site.Site.{Site}
use Rattle.station_book.specs.State.{Opening, Event as Answered}
use Rattle.station_book.specs.State as books
use Rattle.station_book.specs.History.{replay, then_after}
use Rattle.station_world.specs.Life.{Start}
use Rattle.station_world.specs.World.{World, Event, after_events}
use Rattle.station_world.specs.Calls.{is_publishing, publishes_nothing, call_events}
use Rattle.session_core.specs.Session as sessions
use Rattle.drill_text.specs.declared.end_word.EndWord.{EndWord}
use Rattle.line_events.specs.Shows.{View, Shows}
use Rattle.line_events.specs.Forms.{LeadTo, LinesAreEvents, with_progress}
use Rattle.line_events.specs.Progress.{Progress, progress_events, progressed, MayProgress}
use Rattle.session_events.specs.Rounds.{SawFront, RoundsMayCome, progress_in}
use Rattle.station_links.specs.Connected.{Connected}
use Rattle.station_links.specs.Rounds.{round_at, round_of, end_after, quits}
use Rattle.station_law.specs.Doors.{rounds_of}
use Rattle.script_world.specs.Events.{round_events, rounds_events}
use Rattle.script_world.specs.Seen.{sees_published}
use Rattle.script_world.specs.Users.{users_rounds}
use Rattle.script_world.proofs.Leading.{lead_both}

-- ---- what a round calls publishes nothing

both : (a b : Bool) → IsTrue a → IsTrue b → IsTrue (a && b)
both true b h k = k
both false b h k = h

nothing_both : (h k : List Answered) → IsTrue (publishes_nothing h) → IsTrue (publishes_nothing k)
    → IsTrue (publishes_nothing (h ++ k))
nothing_both [] k first second = second
nothing_both (e ∷ h) k first second =
    let parts = and_parts (not (is_publishing e.call)) (publishes_nothing h) first in
    both (not (is_publishing e.call)) (publishes_nothing (h ++ k)) parts.0
    (nothing_both h k parts.1 second)

module _ (site : Site) (c reading : ℕ) where
  -- an answer to a session, and the quit of its door
  asks : (s : sessions.State) (told : Option sessions.BookAnswer)
      → IsTrue (publishes_nothing (sessions.step_events site c s told))
  asks s None = refl
  asks s (Some told) = refl

  ends : (b : books.State) (end : Option EndWord) → IsTrue (publishes_nothing (quits c b end))
  ends b None = refl
  ends b (Some why) = refl

  quiet : (b : books.State) (l : Connected)
      → IsTrue (publishes_nothing (round_of site c l b reading).events)
  quiet b l =
      let r = round_at site c l b reading in
      let asked : List Answered = sessions.round_events site c l.state r in
      nothing_both asked (quits c (replay b asked) (end_after site l r))
      (asks (sessions.before_step l.state r) r.told)
      (ends (replay b asked) (end_after site l r))

  -- ---- a round leads on

  module _ (law : LinesAreEvents) (v : View) where
    abbrev left : books.State → List Start → View
    left b users = record v { book = b; users = users }

    -- calls that publish nothing, and what a round makes of a START
    one_leads : (w : World) (b : books.State) (users : List Start) (h : List Answered)
        (p : Progress) → Shows (left b users) w → IsTrue (publishes_nothing h)
        → MayProgress c v.published p
        → LeadTo w (round_events w c h p)
        (left (replay b h) (progressed c (length b.published) p users))
    one_leads w b users h p shows none may =
        let first = law.book (left b users) w h shows none in
        let there : World = after_events w (call_events h) in
        let next : View = left (replay b h) users in
        subst (λ (xs : List Entry). LeadTo w (round_events w c h p)
        (left (replay b h) (progressed c (length xs) p users))) (sym shows.one)
        (lead_both w (call_events h) (progress_events c there p) next (with_progress c p next)
        first (law.progress next there c p first.1 may))

    -- a round, and those behind it
    then_leads : (w : World) (b : books.State) (h k : List Answered) (events more : List Event)
        (between users : List Start) → LeadTo w events (left (replay b h) between)
        → LeadTo (after_events w events) more (left (replay (replay b h) k) users)
        → LeadTo w (events ++ more) (left (replay b (h ++ k)) users)
    then_leads w b h k events more between users first second =
        subst (λ (x : books.State). LeadTo w (events ++ more) (left x users))
        (sym (fold-append then_after b h k))
        (lead_both w events more (left (replay b h) between) (left (replay (replay b h) k) users)
        first second)

module _ (law : LinesAreEvents) (may : RoundsMayCome) (site : Site) (c reading : ℕ) (v : View) where
  pub rounds_lead : (n : ℕ) (w : World) (b : books.State) (l : Option Connected)
      (users : List Start) → Shows (record v { book = b; users = users }) w
      → LeadTo w (rounds_events site c reading w n b l)
      (record v {
        book = replay b (rounds_of site c reading n b l).events;
        users = users_rounds site c reading n b l users;
      })
  rounds_lead zero w b l users shows = (tt, shows)
  rounds_lead (suc n) w b None users shows = (tt, shows)
  rounds_lead (suc n) w b (Some l) users shows =
      let r = round_at site c l b reading in
      let turned = round_of site c l b reading in
      let p : Progress = progress_in c site l.state r in
      let events : List Event = round_events w c turned.events p in
      let there : World = after_events w events in
      let behind : books.State = replay b turned.events in
      let between : List Start = progressed c (length b.published) p users in
      let right : MayProgress c v.published p =
      may.may c site l.state r v.published
      (subst (λ (xs : List Entry). SawFront (length xs) r.told) shows.one
      (sees_published site c reading b l)) in
      let first = one_leads site c reading law v w b users turned.events p shows
      (quiet site c reading b l) right in
      then_leads site c reading law v w b turned.events
      (rounds_of site c reading n behind turned.next).events events
      (rounds_events site c reading there n behind turned.next) between
      (users_rounds site c reading n behind turned.next between) first
      (rounds_lead n there behind turned.next between first.1)
