-- The book behind a script holds what is stored.
use Rattle.std.proofs.Common.{◌≡◌, ℕ, Bool, true, false, if◌then◌else◌, IsTrue, Option, Some, None}
use Rattle.std.proofs.Common.{List, [], ◌∷◌, ◌++◌, refl, sym, ap, subst, ◌∙◌, arith}
use Rattle.std.proofs.lemmas.List.{append-nil}
use Rattle.archive_terms.specs.Archive.{Entry, IsArchive}
use Rattle.station_config.specs.declared.site.Site.{Site}
use Rattle.cltu_queue.specs.declared.ask.Ask.{Ask}
use Rattle.station_book.specs.State as books
use Rattle.station_book.specs.State.{Call, publish, answer, quit, take, done, interrupted, uplink}
use Rattle.station_book.specs.State.{gone}
use Rattle.station_book.specs.History.{replay, after, is_lost, with_ask, may_publish, moment_at}
use Rattle.drill_text.specs.declared.script_line.ScriptLine.{ScriptLine}
use Rattle.drill_text.specs.declared.script_line.ScriptLine.TheVariants.{Open}
use Rattle.drill_text.specs.Reading.{reading}
use Rattle.session_core.specs.Session as sessions
use Rattle.session_core.specs.Steps.{ask_of}
use Rattle.station_links.specs.Connected.{Connected}
use Rattle.station_uplink.specs.declared.turn.Turn.{Turn}
use Rattle.station_uplink.specs.Turns.{Turned, events_of}
use Rattle.station_uplink.specs.Facts.{is_of_antenna, turn_holds}
use Rattle.script_store.specs.Store.{Store}
use Rattle.station_law.specs.Doors.{Act, act_of, rounds_of, acted, opens, act, Acted}
use Rattle.station_law.specs.State.{State, start}
use Rattle.script_store.specs.Answer.{Answer}
use Rattle.station_law.specs.Sound.{IsSound, Moves, Keeps}
use Rattle.station_law.specs.Runs as runs
use Rattle.station_law.specs.EntriesFacts.{Grows}
use Rattle.station_law.specs.LinesFacts.{facts, facts_text}
use Rattle.station_law.specs.Lines.{doors_behind, recorded, connected, uplinked, turn_at}
use Rattle.station_law.specs.Lines.{step, step_read, step_text}
use Rattle.station_law.specs.Shown.{HasWhatIsStored, HasOneArchive}
use Rattle.station_law.proofs.Rounds.{replay-append}
use Rattle.station_law.proofs.Lives.{rounds_hold, by_line, by_act, opens_nothing}
use Rattle.station_law.specs.Connections.{events_of_act}

-- ---- rounds publish nothing

asked_shown : (b : books.State) (door now : ℕ) (ask : Ask) (lost : Bool)
    → (if lost then b else with_ask b door now ask).published ≡ b.published
asked_shown b door now ask lost = grind arith

rounds_shown : (site : Site) (c reading n : ℕ) (b : books.State) (l : Option Connected)
    → (replay b (rounds_of site c reading n b l).events).published ≡ b.published
rounds_shown site c reading = rounds_hold (λ b h. (replay b h).published ≡ b.published) (λ b. refl)
    (λ b h k first second. rw (replay-append b h k) (second ∙ first)) site c reading
    (λ b s.
    let ask = ask_of site s.standing (sessions.next_of s) (moment_at b reading) in
    asked_shown b c (moment_at b reading) ask (is_lost b c ask)) (λ b. refl)

-- nor does a turn of the uplink

call_shown : (b : books.State) (call : Call) → IsTrue (is_of_antenna call)
    → (after b call).published ≡ b.published
call_shown b (publish entries) own = absurd cc
call_shown b (answer door reading ask want) own = absurd cc
call_shown b (quit door) own = absurd cc
call_shown b (gone worker) own = absurd cc
call_shown b (take reading) own = refl
call_shown b (done run id reading) own = refl
call_shown b (interrupted run id reading) own = refl
call_shown b (uplink production status reading) own = refl

published_so : (b : books.State) (given : List Entry) (may : Bool) → IsTrue may
    → (if may then record b { published = b.published ++ given } else b).published
    ≡ b.published ++ given
published_so b given may holds = grind (arith, holds)

module _ (state : State) (shown : state.doors.book.published ≡ state.store.published) where
  abbrev Shows : Answer State → Type 0
  Shows a = a.next.doors.book.published ≡ a.next.store.published

  stored_shown : (recovers : Bool) (given next : List Entry)
      → Moves recovers state.store.published given next → IsArchive next
      → (doors_behind recovers state.doors given next).book.published ≡ next
  stored_shown true given next moves archive = refl
  stored_shown false [] next moves archive =
      shown ∙ sym (moves ∙ append-nil state.store.published)
  stored_shown false (entry ∷ entries) next moves archive =
      let given = entry ∷ entries in
      let is : state.doors.book.published ++ given ≡ next =
      ap (λ (x : List Entry). x ++ given) shown ∙ sym moves in
      published_so state.doors.book given (may_publish state.doors.book given)
      (subst IsArchive (sym is) archive) ∙ is

  recorded_shown : (a : Answer Store) → Keeps state.store (runs.in_store (recorded state a))
      → Shows (recorded state a)
  recorded_shown a keeps =
      stored_shown a.recovers a.given a.next.published keeps.moves keeps.sound.archive

  acted_shown : (o : Option Acted)
      → (replay state.doors.book (events_of_act o)).published ≡ state.doors.book.published
      → Shows (connected state o)
  acted_shown None same = shown
  acted_shown (Some a) same = same ∙ shown

  act_shown : (asks : Option Act) → Shows (connected state (acted state.doors state.clock asks))
  act_shown asks = acted_shown (acted state.doors state.clock asks) (by_act
      (λ h. (replay state.doors.book h).published ≡ state.doors.book.published) state.doors
      state.clock refl (λ a l. rounds_shown state.doors.site a.c state.clock a.rounds
      state.doors.book (Some l)) asks)

  door_shown : (c : ℕ) (o : Option (Option Connected))
      → Shows (connected state (opens state.doors state.clock c o))
  door_shown c o = acted_shown (opens state.doors state.clock c o)
      (rw (opens_nothing state.doors state.clock c o) refl)

  turned_shown : (o : Option Turned)
      → (replay state.doors.book (events_of o)).published ≡ state.doors.book.published
      → Shows (uplinked state o)
  turned_shown None same = shown
  turned_shown (Some t) same = same ∙ shown

  turn_shown : (turn : Turn) → Shows (uplinked state (turn_at state turn))
  turn_shown turn = turned_shown (turn_at state turn)
      (turn_holds (λ b h. (replay b h).published ≡ b.published) (λ b. refl)
      (λ b h k first second. rw (replay-append b h k) (second ∙ first)) call_shown
      state.doors.book state.clock state.uplink turn)

  line_shown : (line : ScriptLine) → Keeps state.store (runs.in_store (step state line))
      → Shows (step state line)
  line_shown = by_line state (λ asks a done. Keeps state.store (runs.in_store a) → Shows a)
      (λ done clock keeps. shown) (λ a none. recorded_shown a) (λ c o slot keeps. door_shown c o)
      (λ asks keeps. act_shown asks) (λ turn keeps. turn_shown turn)

  pub at_doors_shown : (line : ScriptLine)
      → Shows (connected state (act state.doors state.clock line))
  at_doors_shown (Open c) = door_shown c _
  at_doors_shown line = act_shown (act_of line)

  shows : (line : Option ScriptLine) → Keeps state.store (runs.in_store (step_read state line))
      → Shows (step_read state line)
  shows None keeps = shown
  shows (Some line) keeps = line_shown line keeps

module _ (grows : Grows) where
  shown_behind : (lines : List (List ℕ)) (state : State) → IsSound state.store
      → state.doors.book.published ≡ state.store.published
      → (runs.after step_text state lines).doors.book.published
      ≡ (runs.after step_text state lines).store.published
  shown_behind [] state sound shown = shown
  shown_behind (line ∷ lines) state sound shown =
      let keeps = facts_text grows state line sound in
      shown_behind lines (step_text state line).next keeps.sound
      (shows state shown (reading line) keeps)

  pub has_what_is_stored : HasWhatIsStored
  has_what_is_stored site lines =
      shown_behind lines (start site) (record { archive = refl; settled = refl }) refl

  pub one_stays : (state : State) (line : ScriptLine) → HasOneArchive state
      → HasOneArchive (step state line).next
  one_stays state line one =
      let keeps = facts grows state line one.sound in
      record { sound = keeps.sound; same = line_shown state one.same line keeps }

pub one_stays_at_doors : (state : State) (line : ScriptLine) → HasOneArchive state
    → HasOneArchive (connected state (act state.doors state.clock line)).next
one_stays_at_doors state line one = record {
  sound = grind (arith, one.sound);
  same = at_doors_shown state one.same line;
}
