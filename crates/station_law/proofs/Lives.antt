-- What is said of a connection over the lines of a script is said by what comes to it, is ordered
-- and turns; and the book goes on by the events of each line.
use Rattle.std.proofs.Common.{◌≡◌, ℕ, zero, suc, ◌==◌, Bool, true, false, if◌then◌else◌, Option}
use Rattle.std.proofs.Common.{Some, None, List, [], ◌∷◌, ◌++◌, map, replicate, slice_get, set}
use Rattle.std.proofs.Common.{arith, is_some, refl, sym, ap, subst, ◌∙◌, append_assoc, append-nil}
use Rattle.std.proofs.Common.{⊎_elim, IsTrue}
use Rattle.std.proofs.lemmas.Bool.{eq-eqb}
use Rattle.std.proofs.lemmas.Bool.Decides.{eqb_tells}
use Rattle.std.proofs.lemmas.Option.{gets}
use Rattle.std.proofs.lemmas.Grind.{common_steps}
use Rattle.std.specs.List.{AllByRecursion}
use Rattle.archive_terms.specs.Archive.{Entry, is_valid}
use Rattle.cds_time.specs.declared.cds.Cds.{Cds}
use Rattle.disk_model.specs.declared.orders.Pick.{Pick}
use Rattle.record_form.specs.Entry.{entry_of}
use Rattle.station_config.specs.declared.site.Site.{Site}
use Rattle.station_book.specs.State.{Event, Call, publish, answer, quit, take, done as was_done}
use Rattle.station_book.specs.State.{interrupted}
use Rattle.station_book.specs.State.{uplink as set_uplink, gone as worker_gone}
use Rattle.station_book.specs.State as books
use Rattle.station_book.specs.Doors.{is_by}
use Rattle.station_book.specs.History.{replay, then_after, IsLegal, event_at}
use Rattle.drill_text.specs.declared.end_word.EndWord.{EndWord}
use Rattle.drill_text.specs.declared.script_line.ScriptLine.{ScriptLine}
use Rattle.drill_text.specs.declared.script_line.ScriptLine.TheVariants.{Skip, Offer, Desk, Clock}
use Rattle.drill_text.specs.declared.script_line.ScriptLine.TheVariants.{Crash, Fault, Open}
use Rattle.drill_text.specs.declared.script_line.ScriptLine.TheVariants.{Take, Done, Uplink}
use Rattle.session_core.specs.Session.{State as StateOfSession, step_events, round_events}
use Rattle.session_core.specs.Course.{is_over}
use Rattle.station_links.specs.declared.link_line.LinkLine.{LinkLine}
use Rattle.station_links.specs.Connected.{Connected, opened as opened_link}
use Rattle.station_links.specs.Rounds.{round_at, round_of, end_after, stands_after, left_by, quits}
use Rattle.station_links.specs.Rounds.{listened_at, told_now}
use Rattle.station_links.specs.Run.{Order, Deed, said_by, events_by, RunsAreSessions}
use Rattle.station_uplink.specs.declared.turn.Turn.{Turn}
use Rattle.station_uplink.specs.declared.turn.Turn.TheVariants as turns
use Rattle.station_uplink.specs.declared.uplink_line.UplinkLine.{UplinkLine}
use Rattle.station_uplink.specs.Turns.{Turned, events_of}
use Rattle.station_uplink.specs.Facts.{is_of_antenna, turn_holds}
use Rattle.sle_numbers.specs.RequestedFrameQuality.{number_of}
use Rattle.script_store.specs.Store.{Store}
use Rattle.station_law.specs.Doors.{Act, Acted, act_of, acted, acted_on, acted_by, opens, Doors}
use Rattle.station_law.specs.Doors.{Ran, ordered, rounds_of, anew, act}
use Rattle.station_desk.specs.Start.{moment, told_desk}
use Rattle.station_law.specs.State.{State}
use Rattle.station_desk.specs.ToldBuffer.{ToldBuffer}
use Rattle.script_store.specs.Said.{linked, uplink, handed}
use Rattle.script_store.specs.Answer.{Answer, ends, is_wrong}
use Rattle.script_store.specs.declared.step_done.StepDone.{StepDone}
use Rattle.script_store.specs.declared.step_done.StepDone.TheVariants.{Fine, WrongState}
use Rattle.station_law.specs.Standing.{there}
use Rattle.script_store.specs.Entries.{offer}
use Rattle.station_law.specs.Desk.{desk}
use Rattle.script_store.specs.Orders.{pick_of}
use Rattle.script_store.specs.Power.{crash_line, fault_line}
use Rattle.station_law.specs.Lines.{recorded, offered, connected, uplinked, turn_at, step}
use Rattle.station_law.specs.Lines.{step_read}
use Rattle.station_law.specs.Connections.{at_door, turns_of, orders_in, deeds_by, deeds_at, said_at}
use Rattle.station_law.specs.Connections.{published_by, events_of_act, own_events, events_at}
use Rattle.station_law.specs.Connections.{GoesOn}
use Rattle.station_law.specs.Connections.{Life, no_life, life, IsOfSession}
use Rattle.station_law.proofs.Rounds.{gone}

-- ---- doors

set_there : {A : Type 0} → (xs : List A) (c : ℕ) (x y : A) → slice_get xs c ≡ Some x
    → slice_get (set xs c y) c ≡ Some y
set_there xs c x y is = grind (arith, gets, common_steps)

set_other : {A : Type 0} → (xs : List A) (k c : ℕ) (y : A) → ¬ (k ≡ c)
    → slice_get (set xs k y) c ≡ slice_get xs c
set_other xs k c y other = grind (arith, gets, common_steps)

nobody_at : {A : Type 0} → (n c : ℕ) → there {X = A} (slice_get (replicate n None) c) ≡ None
nobody_at n c = grind (arith, gets, common_steps)

slot_of : {A : Type 0} → (o : Option (Option A)) (x : A) → there o ≡ Some x → o ≡ Some (Some x)
slot_of o x is = grind arith

-- ---- rounds

module _ (site : Site) (c : ℕ) where
  -- what is left of a connection goes on
  abbrev later_said : Option Connected → List Deed → List LinkLine
  later_said None rest = []
  later_said (Some l) rest = said_by site c l rest

  abbrev later_events : Option Connected → List Deed → List Event
  later_events None rest = []
  later_events (Some l) rest = events_by site c l rest

  -- deeds of a connection say and ask for this, and then for what deeds behind them do of what is
  -- left of it
  record Gathers (l : Connected) (deeds : List Deed) (ran : Ran) (rest : List Deed) : Type 0 where
    says : said_by site c l (deeds ++ rest) ≡ ran.said ++ later_said ran.left rest
    asks : events_by site c l (deeds ++ rest) ≡ ran.events ++ later_events ran.left rest

  -- a round first, and the others unless it ended the connection
  by_end : (end : Option EndWord) (l : Connected) (reading n : ℕ) (b : books.State)
      (said : List LinkLine) (events : List Event) (rest : List Deed)
      → Gathers l (turns_of site c reading n b (Some l))
      (rounds_of site c reading n b (Some l)) rest
      → let deeds = turns_of site c reading n b (left_by end l) ++ rest in
      let ran = rounds_of site c reading n b (left_by end l) in
      (said ++ (if is_some end then [] else said_by site c l deeds)
      ≡ (said ++ ran.said) ++ later_said ran.left rest)
      × (events ++ (if is_some end then [] else events_by site c l deeds)
      ≡ (events ++ ran.events) ++ later_events ran.left rest)
  by_end None l reading n b said events rest so =
      (rw so.says (sym (append_assoc said _ _)), rw so.asks (sym (append_assoc events _ _)))
  by_end (Some why) l reading n b said events rest so =
      rw (gone site c reading n b) (simp append-nil, simp append-nil)

  turned : (reading n : ℕ) (b : books.State) (l : Connected) (rest : List Deed)
      → Gathers l (turns_of site c reading n b (Some l))
      (rounds_of site c reading n b (Some l)) rest
  turned reading zero b l rest = record { says = refl; asks = refl }
  turned reading (suc n) b l rest =
      let r = round_at site c l b reading in
      let o = round_of site c l b reading in
      let next = stands_after site l r in
      let so = by_end (end_after site l r) next reading n (replay b o.events) o.said o.events rest
      (turned reading n (replay b o.events) next rest) in
      record { says = so.0; asks = so.1 }

  -- what comes or is ordered comes first
  ordered_first : (o : Option Order) (l : Connected) (deeds : List Deed) (ran : Ran)
      (rest : List Deed) → Gathers (ordered o l) deeds ran rest
      → Gathers l (orders_in o ++ deeds) ran rest
  ordered_first None l deeds ran rest so = so
  ordered_first (Some o) l deeds ran rest so = record { says = so.says; asks = so.asks }

-- ---- whose events they are

-- each event is of a door, or none is
abbrev Are : Bool → ℕ → List Event → Type 0
Are b c events = AllByRecursion (λ (e : Event). is_by c e.call ≡ b) events

are_both : (b : Bool) (c : ℕ) (h k : List Event) → Are b c h → Are b c k → Are b c (h ++ k)
are_both b c [] k first second = second
are_both b c (e ∷ h) k first second = (first.0, are_both b c h k first.1 second)

picked_events : (b : Bool) (c : ℕ) (events : List Event) → Are b c events
    → events_at c events ≡ (if b then events else [])
picked_events b c [] are = grind arith
picked_events b c (e ∷ events) are =
    let rest = picked_events b c events are.1 in grind (arith, are.0, rest)

legal_both : (b : books.State) (h k : List Event) → IsLegal b h → IsLegal (replay b h) k
    → IsLegal b (h ++ k)
legal_both b [] k first second = second
legal_both b (e ∷ h) k first second =
    (first.0, legal_both (then_after b e) h k first.1 second)

-- What holds of no events, of those behind others, and of a session's answer and quit, holds of
-- those of rounds at a door.
module _ (P : books.State → List Event → Type 0) (none : (b : books.State) → P b [])
    (both : (b : books.State) (h k : List Event) → P b h → P (replay b h) k → P b (h ++ k))
    (site : Site) (k reading : ℕ)
    (asks : (b : books.State) (s : StateOfSession)
    → P b (step_events site k s (Some (told_now site k s b reading))))
    (ends : (b : books.State) → P b (event_at b (quit k) ∷ [])) where
  by_over : (b : books.State) (s : StateOfSession) (over : Bool)
      → P b (step_events site k s (if over then None else Some (told_now site k s b reading)))
  by_over b s true = none b
  by_over b s false = asks b s

  by_quit : (b : books.State) (end : Option EndWord) → P b (quits k b end)
  by_quit b None = none b
  by_quit b (Some why) = ends b

  pub rounds_hold : (n : ℕ) (b : books.State) (l : Option Connected)
      → P b (rounds_of site k reading n b l).events
  rounds_hold zero b l = none b
  rounds_hold (suc n) b None = none b
  rounds_hold (suc n) b (Some l) =
      let o = round_of site k l b reading in
      let asked = round_events site k l.state (round_at site k l b reading) in
      both b o.events (rounds_of site k reading n (replay b o.events) o.next).events
      (both b asked _ (by_over b (listened_at l) (is_over (listened_at l).standing.course))
      (by_quit (replay b asked) (end_after site l (round_at site k l b reading))))
      (rounds_hold n (replay b o.events) o.next)

rounds_are : (site : Site) (k c : ℕ) (same : Bool) → (k == c) ≡ same
    → (reading n : ℕ) (b : books.State) (l : Option Connected)
    → Are same c (rounds_of site k reading n b l).events
rounds_are site k c same is reading = rounds_hold (λ b h. Are same c h) (λ b. tt)
    (λ b h k. are_both same c h k) site k reading (λ b s. (is, tt)) (λ b. (is, tt))

-- nor is a call of the antenna's worker a door's

none_by : (c : ℕ) (call : Call) → IsTrue (is_of_antenna call) → is_by c call ≡ false
none_by c (publish entries) own = absurd cc
none_by c (answer door reading ask want) own = absurd cc
none_by c (quit door) own = absurd cc
none_by c (worker_gone worker) own = absurd cc
none_by c (take reading) own = refl
none_by c (was_done run id reading) own = refl
none_by c (interrupted run id reading) own = refl
none_by c (set_uplink production status reading) own = refl

-- ---- what is said of a door

said_of_lines : (k c : ℕ) (lines : List LinkLine)
    → said_at c (map (linked k) lines) ≡ (if k == c then lines else [])
said_of_lines k c [] = grind arith
said_of_lines k c (line ∷ lines) = let rest = said_of_lines k c lines in grind (arith, rest)

handed_elsewhere : (c : ℕ) (buffers : List ToldBuffer) → said_at c (map (handed 0) buffers) ≡ []
handed_elsewhere c [] = refl
handed_elsewhere c (buffer ∷ buffers) = handed_elsewhere c buffers

-- what a turn of the uplink says is of no door
uplink_apart : (c : ℕ) (lines : List UplinkLine) → said_at c (map uplink lines) ≡ []
uplink_apart c [] = refl
uplink_apart c (line ∷ lines) = uplink_apart c lines

-- no line that concerns what is stored says anything of a door
offer_apart : (c : ℕ) (store : Store) (entry : Entry) → said_at c (offer store entry).said ≡ []
offer_apart c store entry = grind arith

desk_apart : (c : ℕ) (store : Store) (start stop : Cds) (quality : ℕ)
    → said_at c (desk store start stop quality).said ≡ []
desk_apart c store start stop quality =
    let none = handed_elsewhere c (told_desk store.published start stop quality) in
    grind (arith, none)

crash_apart : (c : ℕ) (store : Store) (k : ℕ) (pick : Pick)
    → said_at c (crash_line store k pick).said ≡ []
crash_apart c store k pick = grind arith

fault_apart : (c : ℕ) (store : Store) (k : ℕ) → said_at c (fault_line store k).said ≡ []
fault_apart c store k = grind arith

-- ---- what lines are

-- A line does nothing at the doors, concerns what is stored, opens a connection, asks something of
-- one, or is a turn of the uplink. What holds of each of these, with its events of the book but those
-- that publish, holds of every line.
module _ (state : State) (P : Option Act → Answer State → List Event → Type 0)
    (still : (done : StepDone) (clock : ℕ)
    → P None (ends done [] (record state { clock = clock })) [])
    (stored : (a : Answer Store) → ((c : ℕ) → said_at c a.said ≡ [])
    → P None (recorded state a) [])
    (opened : (k : ℕ) (o : Option (Option Connected)) → slice_get state.doors.connections k ≡ o
    → P None (connected state (opens state.doors state.clock k o))
    (events_of_act (opens state.doors state.clock k o)))
    (asked : (a : Option Act) → P a (connected state (acted state.doors state.clock a))
    (events_of_act (acted state.doors state.clock a)))
    (turned : (turn : Turn) → P None (uplinked state (turn_at state turn))
    (events_of (turn_at state turn))) where
  by_valid : (entry : Entry) (valid : Bool)
      → P None (if valid then offered state entry else is_wrong state) []
  by_valid entry true = stored (offer state.store entry) (λ c. offer_apart c state.store entry)
  by_valid entry false = still WrongState state.clock

  pub by_line : (line : ScriptLine)
      → P (act_of line) (step state line) (own_events state (Some line))
  by_line Skip = still Fine state.clock
  by_line (Offer entry) = by_valid (entry_of entry) (is_valid (entry_of entry))
  by_line (Desk start stop quality) = stored (desk state.store start stop (number_of quality))
      (λ c. desk_apart c state.store start stop (number_of quality))
  by_line (Clock time) = still Fine (moment time)
  by_line (Crash k pick) = stored (crash_line state.store k (pick_of pick))
      (λ c. crash_apart c state.store k (pick_of pick))
  by_line (Fault k) = stored (fault_line state.store k) (λ c. fault_apart c state.store k)
  by_line (Open k) = opened k (slice_get state.doors.connections k) refl
  by_line (Take fail) = turned (turns.Take fail)
  by_line Done = turned turns.Done
  by_line (Uplink production status) = turned (turns.Uplink production status)
  by_line line = asked (act_of line)

-- what holds of no events, and of those of rounds, holds of the events of what is asked
pub by_act : (Q : List Event → Type 0) (d : Doors) (reading : ℕ) → Q []
    → ((a : Act) (l : Connected)
    → Q (rounds_of d.site a.c reading a.rounds d.book (Some l)).events)
    → (a : Option Act) → Q (events_of_act (acted d reading a))
by_act Q d reading none rounds None = none
by_act Q d reading none rounds (Some a) = by_slot (slice_get d.connections a.c)
  where
    by_slot : (o : Option (Option Connected)) → Q (events_of_act (acted_on d reading a o))
    by_slot None = none
    by_slot (Some None) = none
    by_slot (Some (Some l)) = rounds a (ordered a.order l)

pub opens_nothing : (d : Doors) (reading k : ℕ) (o : Option (Option Connected))
    → events_of_act (opens d reading k o) ≡ []
opens_nothing d reading k o = grind arith

-- ---- one line

-- what a line says of a door, the events that are its own, and what is left at it
abbrev ran_at : ℕ → State → Answer State → List Event → Ran
ran_at c state a acted = record {
  said = said_at c a.said;
  events = events_at c (published_by a.recovers state.doors.book a.given ++ acted);
  left = at_door a.next c;
}

-- what a line does to the connection at a door
record Moves (c : ℕ) (state : State) (l : Connected) (deeds : List Deed) (a : Answer State)
    (acted : List Event) : Type 0 where
  site : a.next.doors.site ≡ state.doors.site
  gathers : (rest : List Deed) → (at_door a.next c ≡ None → rest ≡ [])
      → Gathers state.doors.site c l deeds (ran_at c state a acted) rest

-- the connection stays as it is
stays : (c : ℕ) (state : State) (l : Connected) (a : Answer State) (acted : List Event)
    → at_door state c ≡ Some l → a.next.doors.site ≡ state.doors.site
    → slice_get a.next.doors.connections c ≡ slice_get state.doors.connections c
    → said_at c a.said ≡ []
    → events_at c (published_by a.recovers state.doors.book a.given ++ acted) ≡ []
    → Moves c state l [] a acted
stays c state l a acted at site same none unasked =
    let left : at_door a.next c ≡ Some l = rw same at in
    record {
      site = site;
      gathers = λ rest gone. rw (none, unasked, left) (record { says = refl; asks = refl });
    }

-- a publishing is no door's
none_published : (c : ℕ) (recovers : Bool) (b : books.State) (given : List Entry)
    → events_at c (published_by recovers b given ++ []) ≡ []
none_published c true b given = refl
none_published c false b [] = refl
none_published c false b (entry ∷ given) = refl

module _ (c : ℕ) (state : State) (l : Connected) (at : at_door state c ≡ Some l) where
  abbrev MovesBy : List Deed → Answer State → List Event → Type 0
  MovesBy deeds a acted = Moves c state l deeds a acted

  -- a line that concerns what is stored: a recovery leaves nobody
  stored : (a : Answer Store) → said_at c a.said ≡ [] → MovesBy [] (recorded state a) []
  stored a none = by_recovery a.recovers refl
    where
      by_recovery : (r : Bool) → a.recovers ≡ r → MovesBy [] (recorded state a) []
      by_recovery true is =
          let left : at_door (recorded state a).next c ≡ None = rw is (nobody_at 17 c) in
          let unasked = none_published c a.recovers state.doors.book a.given in
          record {
            site = rw is refl;
            gathers = λ rest gone. rw (none, unasked, left, gone left)
                (record { says = refl; asks = refl });
          }
      by_recovery false is = stays c state l (recorded state a) [] at (rw is refl) (rw is refl) none
          (none_published c a.recovers state.doors.book a.given)

  wrong : MovesBy [] (is_wrong state) []
  wrong = stays c state l (is_wrong state) [] at refl refl refl refl

  opens_so : (k : ℕ) (o : Option (Option Connected)) → slice_get state.doors.connections k ≡ o
      → MovesBy [] (connected state (opens state.doors state.clock k o))
      (events_of_act (opens state.doors state.clock k o))
  opens_so k None slot = wrong
  opens_so k (Some (Some other)) slot = wrong
  opens_so k (Some None) slot =
      stays c state l (connected state (opens state.doors state.clock k (Some None))) [] at refl
      (set_other state.doors.connections k c (Some (opened_link k state.clock)) (λ is. cc))
      refl refl

  -- a turn of the uplink
  turned_so : (o : Option Turned) → Are false c (events_of o)
      → MovesBy [] (uplinked state o) (events_of o)
  turned_so None are = wrong
  turned_so (Some t) are =
      stays c state l (uplinked state (Some t)) t.events at refl refl (uplink_apart c t.said)
      (picked_events false c t.events are)

  turn_so : (turn : Turn)
      → MovesBy [] (uplinked state (turn_at state turn)) (events_of (turn_at state turn))
  turn_so turn = turned_so (turn_at state turn) (turn_holds (λ b h. Are false c h) (λ b. tt)
      (λ b h k. are_both false c h k) (λ b call own. (none_by c call own, tt)) state.doors.book
      state.clock state.uplink turn)

  -- another door
  acts_elsewhere : (a : Act) (o : Option (Option Connected)) → (a.c == c) ≡ false
      → ¬ (a.c ≡ c) → MovesBy [] (connected state (acted_on state.doors state.clock a o))
      (events_of_act (acted_on state.doors state.clock a o))
  acts_elsewhere a None other differ = wrong
  acts_elsewhere a (Some None) other differ = wrong
  acts_elsewhere a (Some (Some m)) other differ =
      let ran = rounds_of state.doors.site a.c state.clock a.rounds state.doors.book
      (Some (ordered a.order m)) in
      stays c state l (connected state (Some (acted_by state.doors a.c ran))) ran.events at refl
      (set_other state.doors.connections a.c c ran.left differ)
      (rw other at (said_of_lines a.c c ran.said)) (picked_events false c ran.events
      (rounds_are state.doors.site a.c c false other state.clock a.rounds state.doors.book
      (Some (ordered a.order m))))

-- this door
acts_here : (state : State) (l : Connected) (a : Act) → at_door state a.c ≡ Some l
    → Moves a.c state l
    (orders_in a.order ++ turns_of state.doors.site a.c state.clock a.rounds state.doors.book
    (Some (ordered a.order l)))
    (connected state (acted_on state.doors state.clock a
    (slice_get state.doors.connections a.c)))
    (events_of_act (acted_on state.doors state.clock a
    (slice_get state.doors.connections a.c)))
acts_here state l a at =
    let d = state.doors in
    let self : (a.c == a.c) ≡ true = eq-eqb a.c a.c refl in
    let slot = slot_of (slice_get d.connections a.c) l at in
    let first = ordered a.order l in
    let ran = rounds_of d.site a.c state.clock a.rounds d.book (Some first) in
    let left : there (slice_get (set d.connections a.c ran.left) a.c) ≡ ran.left =
    ap there (set_there d.connections a.c (Some l) ran.left slot) in
    let events = picked_events true a.c ran.events
    (rounds_are d.site a.c a.c true self state.clock a.rounds d.book (Some first)) in
    rw slot (record {
      site = refl;
      gathers = λ rest gone.
          let so = ordered_first d.site a.c a.order l _ ran rest
          (turned d.site a.c state.clock a.rounds d.book first rest) in
          rw (left, said_of_lines a.c a.c ran.said, self, events)
          (record { says = so.says; asks = so.asks });
    })

module _ (c : ℕ) (state : State) (l : Connected) (at : at_door state c ≡ Some l) where
  abbrev MovesAct : ℕ → Option Act → Type 0
  MovesAct k a = Moves k state l (deeds_by state.doors state.clock k l a)
      (connected state (acted state.doors state.clock a))
      (events_of_act (acted state.doors state.clock a))

  acts_so : (a : Option Act) → MovesAct c a
  acts_so None = wrong c state l at
  acts_so (Some a) = ⊎_elim
      (λ here.
      let self : (a.c == a.c) ≡ true = eq-eqb a.c a.c refl in
      let so : at_door state a.c ≡ Some l = ap (at_door state) here.1 ∙ at in
      let moves : MovesAct a.c (Some a) = rw self (acts_here state l a so) in
      subst (λ k. MovesAct k (Some a)) here.1 moves)
      (λ other. rw (other.0) (acts_elsewhere c state l at a
      (slice_get state.doors.connections a.c) other.0 other.1))
      (eqb_tells a.c c)

  moves : (line : Option ScriptLine) → Moves c state l (deeds_at state c l line)
      (step_read state line) (own_events state line)
  moves None = wrong c state l at
  moves (Some line) = by_line state
      (λ asks a own. Moves c state l (deeds_by state.doors state.clock c l asks) a own)
      (λ done clock. stays c state l (ends done [] (record state { clock = clock })) [] at refl refl
      refl refl) (λ a none. stored c state l at a (none c)) (opens_so c state l at) acts_so
      (turn_so c state l at) line

-- ---- lines

module _ {L : Type 0} (reads : L → Option ScriptLine) (c : ℕ) where
  ended : (state : State) (lines : List L) → at_door state c ≡ None
      → life reads c state lines ≡ no_life
  ended state [] none = refl
  ended state (line ∷ lines) none = rw none refl

  -- a life's deeds say it, and ask for it
  record Lived (site : Site) (l : Connected) (v : Life) : Type 0 where
    says : said_by site c l v.deeds ≡ v.said
    asks : events_by site c l v.deeds ≡ v.events

  -- so do those of a line, and of what follows it
  module _ (site : Site) (l : Connected) (deeds : List Deed) (ran : Ran) (later : Life)
      (gathers : Gathers site c l deeds ran later.deeds) where
    followed : (left : Option Connected) → ran.left ≡ left → (left ≡ None → later ≡ no_life)
        → ((m : Connected) → left ≡ Some m → Lived site m later)
        → Lived site l (record {
          deeds = deeds ++ later.deeds;
          said = ran.said ++ later.said;
          events = ran.events ++ later.events;
        })
    followed None is over goes_on =
        let none = over refl in
        record {
          says = gathers.says ∙ rw (is, none) refl;
          asks = gathers.asks ∙ rw (is, none) refl;
        }
    followed (Some m) is over goes_on =
        let so = goes_on m refl in
        record {
          says = gathers.says ∙ rw (is, so.says) refl;
          asks = gathers.asks ∙ rw (is, so.asks) refl;
        }

  lived : (lines : List L) (state : State) (l : Connected) → at_door state c ≡ Some l
      → Lived state.doors.site l (life reads c state lines)
  lived [] state l at = record { says = refl; asks = refl }
  lived (line ∷ lines) state l at =
      let a = step_read state (reads line) in
      let acted = own_events state (reads line) in
      let later = life reads c a.next lines in
      let moved = moves c state l at (reads line) in
      rw at (followed state.doors.site l (deeds_at state c l (reads line)) (ran_at c state a acted)
      later (moved.gathers later.deeds (λ none. ap (λ v. v.deeds) (ended a.next lines none)))
      (at_door a.next c) refl (ended a.next lines)
      (λ m is. subst (λ site. Lived site m later) moved.site (lived lines a.next m is)))

  pub of_session : RunsAreSessions → (state : State) (reading : ℕ) (lines : List L)
      → at_door state c ≡ Some (opened_link c reading)
      → IsOfSession state.doors.site c reading (life reads c state lines)
  of_session runs state reading lines at brings =
      let so = lived lines state (opened_link c reading) at in
      rw (← so.says, ← so.asks) (runs state.doors.site c (opened_link c reading)
      (life reads c state lines).deeds refl tt brings)

-- ---- the book

module _ (state : State) where
  -- a line goes on so, whose connection has these events
  record Goes (a : Answer State) (acted : List Event) : Type 0 where
    site : a.next.doors.site ≡ state.doors.site
    legal : IsLegal state.doors.book (published_by a.recovers state.doors.book a.given ++ acted)
    same : a.recovers ≡ false → a.next.doors.book
        ≡ replay state.doors.book (published_by a.recovers state.doors.book a.given ++ acted)
    renewed : a.recovers ≡ true → a.next.doors ≡ anew state.doors.site a.next.store.published

  still : (done : StepDone) (clock : ℕ) → Goes (ends done [] (record state { clock = clock })) []
  still done clock = record {
    site = refl;
    legal = tt;
    same = λ is. refl;
    renewed = λ is. absurd cc;
  }

  published_legal : (recovers : Bool) (given : List Entry)
      → IsLegal state.doors.book (published_by recovers state.doors.book given ++ [])
  published_legal true given = tt
  published_legal false [] = tt
  published_legal false (entry ∷ given) = (refl, tt)

  recorded_goes : (a : Answer Store) → Goes (recorded state a) []
  recorded_goes a = record {
    site = grind arith;
    legal = published_legal a.recovers a.given;
    same = λ is. rw (is, append-nil) refl;
    renewed = λ is. rw is refl;
  }

  acted_goes : (o : Option Acted) → IsLegal state.doors.book (events_of_act o)
      → Goes (connected state o) (events_of_act o)
  acted_goes None legal = still WrongState state.clock
  acted_goes (Some a) legal = record {
    site = refl;
    legal = legal;
    same = λ is. refl;
    renewed = λ is. absurd cc;
  }

  turned_goes : (o : Option Turned) → IsLegal state.doors.book (events_of o)
      → Goes (uplinked state o) (events_of o)
  turned_goes None legal = still WrongState state.clock
  turned_goes (Some t) legal = record {
    site = refl;
    legal = legal;
    same = λ is. refl;
    renewed = λ is. absurd cc;
  }

  line_goes : (line : ScriptLine)
      → Goes (step_read state (Some line)) (own_events state (Some line))
  line_goes = by_line state (λ asks a own. Goes a own) still
      (λ a none. recorded_goes a)
      (λ k o slot. acted_goes (opens state.doors state.clock k o)
      (rw (opens_nothing state.doors state.clock k o) tt))
      (λ a. acted_goes (acted state.doors state.clock a) (by_act (IsLegal state.doors.book)
      state.doors state.clock tt (λ a l. rounds_hold IsLegal (λ b. tt) legal_both
      state.doors.site a.c state.clock (λ b s. (refl, tt)) (λ b. (refl, tt)) a.rounds
      state.doors.book (Some l)) a))
      (λ turn. turned_goes (turn_at state turn) (turn_holds IsLegal (λ b. tt) legal_both
      (λ b call own. (refl, tt)) state.doors.book state.clock state.uplink turn))

  goes_read : (line : Option ScriptLine)
      → Goes (step_read state line) (own_events state line)
  goes_read None = still WrongState state.clock
  goes_read (Some line) = line_goes line

  pub goes_on : (line : Option ScriptLine) → GoesOn state line
  goes_on line =
      let so = goes_read line in
      record { site = so.site; legal = so.legal; same = so.same; renewed = so.renewed }
