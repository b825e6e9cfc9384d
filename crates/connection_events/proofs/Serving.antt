-- Whether a connection's session serves behind what a line does to it.
use Rattle.std.proofs.Common.{◌≡◌, ℕ, zero, suc, ◌==◌, Bool, true, false, ◌&&◌, if◌then◌else◌, is_some}
use Rattle.std.proofs.Common.{Option, Some, None, List, [], ◌++◌, refl, sym, ◌∙◌}
use Rattle.station_config.specs.declared.site.Site.{Site}
use Rattle.station_book.specs.State as books
use Rattle.station_book.specs.History.{replay}
use Rattle.drill_text.specs.declared.end_word.EndWord.{EndWord}
use Rattle.session_core.specs.declared.course.Course.{Course}
use Rattle.session_core.specs.declared.course.Course.TheVariants.{Going, Closing, Over, LinkFailing}
use Rattle.session_core.specs.declared.course.Course.TheVariants.{LinkFailed, Spent}
use Rattle.session_core.specs.Course.{is_going}
use Rattle.session_core.specs.ServiceSteps.{is_active}
use Rattle.session_core.specs.Session.{after_rounds, spoken_of}
use Rattle.session_laws.specs.Deliveries.{is_serving}
use Rattle.station_links.specs.Connected.{Connected}
use Rattle.station_links.specs.LinkLines.{end_of}
use Rattle.station_links.specs.Rounds.{round_at, round_of, end_after, stands_after, left_by}
use Rattle.station_links.specs.Run.{Order, Deed, rounds_by}
use Rattle.station_law.specs.Connections.{at_door, turns_of, orders_in, deeds_by}
use Rattle.station_law.specs.Doors.{Act, ordered, rounds_of}
use Rattle.station_law.specs.State.{State}
use Rattle.connection_events.proofs.Doors.{left_of}

-- an end leaves nothing that goes on
ended_serves : (course : Course) (active : Bool) (why : EndWord)
    → end_of (spoken_of course) ≡ Some why → (is_going course && active) ≡ false
ended_serves Going active why is = absurd (cc is)
ended_serves (Closing end) active why is = refl
ended_serves (Over end) active why is = refl
ended_serves LinkFailing active why is = refl
ended_serves LinkFailed active why is = refl
ended_serves Spent active why is = refl

module _ (c : ℕ) (site : Site) where
  -- behind deeds of a connection, if one is there
  abbrev pub serves : Option Connected → List Deed → Bool
  serves None deeds = false
  serves (Some l) deeds =
      is_serving (after_rounds site l.state (rounds_by site c l deeds)).standing

  none_serves : (reading n : ℕ) (b : books.State) (rest : List Deed)
      → serves (rounds_of site c reading n b None).left rest ≡ false
  none_serves reading zero b rest = refl
  none_serves reading (suc n) b rest = refl

  by_end : (end : Option EndWord) (m : Connected) (reading n : ℕ) (b : books.State)
      (rest : List Deed) → end_of (spoken_of m.state.standing.course) ≡ end
      → serves (Some m) (turns_of site c reading n b (Some m) ++ rest)
      ≡ serves (rounds_of site c reading n b (Some m)).left rest
      → is_serving (after_rounds site m.state (if is_some end then []
      else rounds_by site c m (turns_of site c reading n b (left_by end m) ++ rest))).standing
      ≡ serves (rounds_of site c reading n b (left_by end m)).left rest
  by_end None m reading n b rest is so = so
  by_end (Some why) m reading n b rest is so =
      ended_serves m.state.standing.course (is_active m.state.standing.association) why is
      ∙ sym (none_serves reading n b rest)

  turned : (reading n : ℕ) (b : books.State) (l : Connected) (rest : List Deed)
      → serves (Some l) (turns_of site c reading n b (Some l) ++ rest)
      ≡ serves (rounds_of site c reading n b (Some l)).left rest
  turned reading zero b l rest = refl
  turned reading (suc n) b l rest =
      let r = round_at site c l b reading in
      let next = replay b (round_of site c l b reading).events in
      let m : Connected = stands_after site l r in
      by_end (end_after site l r) m reading n next rest refl (turned reading n next m rest)

  ordered_first : (o : Option Order) (l : Connected) (deeds rest : List Deed)
      → serves (Some l) ((orders_in o ++ deeds) ++ rest) ≡ serves (Some (ordered o l)) (deeds ++ rest)
  ordered_first None l deeds rest = refl
  ordered_first (Some o) l deeds rest = refl

module _ (c : ℕ) (state : State) (l : Connected) (at : at_door state c ≡ Some l) where
  abbrev site : Site
  site = state.doors.site

  abbrev first : Act → Connected
  first a = ordered a.order l

  abbrev its_turns : Act → List Deed
  its_turns a = turns_of site c state.clock a.rounds state.doors.book (Some (first a))

  abbrev if_here : Act → Bool → List Deed
  if_here a b = if b then orders_in a.order ++ its_turns a else []

  abbrev if_left : Act → Bool → Option Connected
  if_left a b =
      if b
      then (rounds_of site c state.clock a.rounds state.doors.book (Some (first a))).left
      else Some l

  by_door : (a : Act) (rest : List Deed) (b : Bool)
      → serves c site (Some l) (if_here a b ++ rest) ≡ serves c site (if_left a b) rest
  by_door a rest true =
      ordered_first c site a.order l (its_turns a) rest
      ∙ turned c site state.clock a.rounds state.doors.book (first a) rest
  by_door a rest false = refl

  -- it serves behind the deeds of a line where what is left of it does
  pub acts_serve : (asks : Option Act) (rest : List Deed)
      → serves c site (Some l) (deeds_by state.doors state.clock c l asks ++ rest)
      ≡ serves c site (left_of c state l at asks) rest
  acts_serve None rest = refl
  acts_serve (Some a) rest = by_door a rest (a.c == c)
