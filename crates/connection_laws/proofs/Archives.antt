-- What is published in the book of a script while a connection is there begins what is stored behind
-- any later lines.
use Rattle.std.proofs.Common.{◌≡◌, ℕ, Bool, true, false, Option, Some, None, List, [], ◌∷◌, ◌++◌}
use Rattle.std.proofs.Common.{slice_get, take, append_assoc, refl, sym, ap, subst, ◌∙◌}
use Rattle.std.proofs.lemmas.List.{append-nil}
use mathlib.Core.List.{IsPrefix}
use Rattle.archive_terms.specs.Archive.{Entry}
use Rattle.station_book.specs.State.{Event}
use Rattle.station_book.specs.State as books
use Rattle.station_book.specs.History.{replay}
use Rattle.drill_text.specs.declared.script_line.ScriptLine.{ScriptLine}
use Rattle.drill_text.specs.declared.script_line.ScriptLine.TheVariants.{Skip, Offer, Desk, Clock}
use Rattle.drill_text.specs.declared.script_line.ScriptLine.TheVariants.{Crash, Fault, Open}
use Rattle.drill_text.specs.declared.script_line.ScriptLine.TheVariants.{Take, Done, Uplink}
use Rattle.station_links.specs.Connected.{Connected}
use Rattle.station_uplink.specs.declared.turn.Turn.TheVariants as turns
use Rattle.station_uplink.specs.Turns.{Turned, events_of}
use Rattle.station_law.specs.Connections.{AreSessions, at_door, events_of_act, line_events}
use Rattle.station_law.specs.Connections.{own_events, published_by}
use Rattle.station_law.specs.Doors.{Acted, act_of, acted, opens}
use Rattle.station_law.specs.EntriesFacts.{Grows, leaves_all}
use Rattle.station_law.specs.Lines.{connected, step, step_read, turn_at, uplinked}
use Rattle.station_law.specs.LinesFacts.{facts}
use Rattle.station_law.specs.Runs.{in_store}
use Rattle.station_law.specs.Sound.{IsSound, Keeps, Moves}
use Rattle.station_law.specs.State.{State}
use Rattle.connection_laws.specs.Delivered.{world_after}
use Rattle.connection_laws.proofs.Books.{replay-append}
use Rattle.connection_laws.proofs.Lives.{gone, history, over, while_there}

-- ---- a line that recovers

-- has no event of the book
acted_none : (state : State) (a : Option Acted) → (connected state a).recovers ≡ true
    → events_of_act a ≡ []
acted_none state None is = absurd (cc is)
acted_none state (Some a) is = absurd (cc is)

turned_none : (state : State) (t : Option Turned) → (uplinked state t).recovers ≡ true
    → events_of t ≡ []
turned_none state None is = absurd (cc is)
turned_none state (Some t) is = absurd (cc is)

own_none : (state : State) (line : ScriptLine) → (step state line).recovers ≡ true
    → own_events state (Some line) ≡ []
own_none state Skip is = refl
own_none state (Offer entry) is = refl
own_none state (Desk first last quality) is = refl
own_none state (Clock time) is = refl
own_none state (Crash k pick) is = refl
own_none state (Fault k) is = refl
own_none state (Open k) is =
    acted_none state
    (opens state.doors state.clock k (slice_get state.doors.connections k)) is
own_none state (Take fail) is = turned_none state (turn_at state (turns.Take fail)) is
own_none state Done is = turned_none state (turn_at state turns.Done) is
own_none state (Uplink production status) is =
    turned_none state (turn_at state (turns.Uplink production status)) is
own_none state line is = acted_none state (acted state.doors state.clock (act_of line)) is

read_none : (state : State) (line : Option ScriptLine) → (step_read state line).recovers ≡ true
    → own_events state line ≡ []
read_none state None is = refl
read_none state (Some line) is = own_none state line is

none_by : (recovers : Bool) (b : books.State) (given : List Entry) (own : List Event)
    → recovers ≡ true → own ≡ [] → published_by recovers b given ++ own ≡ []
none_by true b given own is none = none
none_by false b given own is none = absurd (cc is)

events_none : (state : State) (line : Option ScriptLine)
    → (step_read state line).recovers ≡ true → line_events state line ≡ []
events_none state line is =
    none_by (step_read state line).recovers state.doors.book (step_read state line).given
    (own_events state line) is (read_none state line is)

-- ---- what is stored grows

pub prefix_on : {X : Type 0} (xs ys zs : List X) → IsPrefix xs ys → IsPrefix ys zs → IsPrefix xs zs
prefix_on {X} xs ys zs h k =
    (h.0 ++ k.0, sym (append_assoc xs h.0 k.0) ∙ ap (λ (front : List X). front ++ k.0) h.1 ∙ k.1)

moved_on : (recovers : Bool) (before given after : List Entry) → Moves recovers before given after
    → IsPrefix before after
moved_on true before given after moves = (take moves.0 given, sym moves.1)
moved_on false before given after moves = (given, sym moves)

pub read_keeps : Grows → (state : State) (line : Option ScriptLine) → IsSound state.store
    → Keeps state.store (in_store (step_read state line))
read_keeps grows state None sound =
    leaves_all state.store state.store _ [] refl refl (λ starts. refl) refl sound
read_keeps grows state (Some line) sound = facts grows state line sound

module _ {L : Type 0} (reads : L → Option ScriptLine) (sessions : AreSessions reads)
    (grows : Grows) where
  abbrev onward : State → L → State
  onward state line = (step_read state (reads line)).next

  pub sound_behind : (lines : List L) (state : State) → IsSound state.store
      → IsSound (world_after reads state lines).store
  sound_behind [] state sound = sound
  sound_behind (line ∷ lines) state sound =
      sound_behind lines (onward state line) (read_keeps grows state (reads line) sound).sound

  pub grown : (lines : List L) (state : State) → IsSound state.store
      → IsPrefix state.store.published (world_after reads state lines).store.published
  grown [] state sound = ([], append-nil state.store.published)
  grown (line ∷ lines) state sound =
      let a = step_read state (reads line) in
      let keeps = read_keeps grows state (reads line) sound in
      prefix_on state.store.published a.next.store.published
      (world_after reads a.next lines).store.published
      (moved_on a.recovers state.store.published a.given a.next.store.published keeps.moves)
      (grown lines a.next keeps.sound)

  -- what is published in the book is what is stored, behind any lines
  abbrev pub IsStored : State → Type 0
  IsStored state =
      (lines : List L) → (world_after reads state lines).doors.book.published
      ≡ (world_after reads state lines).store.published

  module _ (c : ℕ) where
    abbrev later : State → L → List L → List Event
    later state line lines = history reads sessions c (onward state line) lines

    -- behind a line, by what is so behind the lines that follow it
    line_within : (line : L) (lines : List L) (state : State) → IsStored state
        → IsSound state.store
        → IsPrefix (replay (onward state line).doors.book (later state line lines)).published
        (world_after reads (onward state line) lines).store.published
        → IsPrefix (replay state.doors.book (history reads sessions c state (line ∷ lines))).published
        (world_after reads state (line ∷ lines)).store.published
    line_within line lines state stored sound rest = by_there (at_door state c)
      where
        first : IsPrefix state.doors.book.published
            (world_after reads state (line ∷ lines)).store.published
        first =
            subst
            (λ (xs : List Entry).
            IsPrefix xs (world_after reads state (line ∷ lines)).store.published)
            (sym (stored [])) (grown (line ∷ lines) state sound)

        by_line : (recovers : Bool) → (step_read state (reads line)).recovers ≡ recovers
            → IsPrefix
            (replay state.doors.book
            (line_events state (reads line) ++ later state line lines)).published
            (world_after reads state (line ∷ lines)).store.published
        by_line true is =
            let none : line_events state (reads line) ++ later state line lines ≡ [] =
            ap (λ (events : List Event). events ++ later state line lines)
            (events_none state (reads line) is)
            ∙ over reads sessions c (onward state line) lines (gone reads sessions c state line is) in
            subst
            (λ (h : List Event).
            IsPrefix (replay state.doors.book h).published
            (world_after reads state (line ∷ lines)).store.published)
            (sym none) first
        by_line false is =
            let same :
            replay state.doors.book (line_events state (reads line) ++ later state line lines)
            ≡ replay (onward state line).doors.book (later state line lines) =
            replay-append state.doors.book (line_events state (reads line)) (later state line lines)
            ∙ ap (λ (b : books.State). replay b (later state line lines))
            (sym ((sessions.history state line).same is)) in
            subst
            (λ (b : books.State).
            IsPrefix b.published (world_after reads state (line ∷ lines)).store.published)
            (sym same) rest

        by_there : (l : Option Connected)
            → IsPrefix
            (replay state.doors.book
            (while_there reads sessions c l (line_events state (reads line))
            (later state line lines))).published
            (world_after reads state (line ∷ lines)).store.published
        by_there None = first
        by_there (Some l) = by_line (step_read state (reads line)).recovers refl

    pub within : (lines : List L) (state : State) → IsStored state → IsSound state.store
        → IsPrefix (replay state.doors.book (history reads sessions c state lines)).published
        (world_after reads state lines).store.published
    within [] state stored sound =
        subst (λ (xs : List Entry). IsPrefix xs state.store.published) (sym (stored []))
        (grown [] state sound)
    within (line ∷ lines) state stored sound =
        line_within line lines state stored sound
        (within lines (onward state line) (λ others. stored (line ∷ others))
        (read_keeps grows state (reads line) sound).sound)
