-- The life of a connection, as a session whose door began free in a legal history.
use Rattle.std.proofs.Common.{◌≡◌, ℕ, Bool, true, false, IsTrue, Option, Some, None, List, []}
use Rattle.std.proofs.Common.{◌∷◌, ◌++◌, slice_get, refl, sym, ap, subst, ◌∙◌}
use Rattle.std.proofs.lemmas.List.Elements.{filter-append}
use Rattle.std.specs.List.{AllByRecursion, list_any}
use Rattle.station_book.specs.State.{Event}
use Rattle.station_book.specs.State as books
use Rattle.station_book.specs.Doors.{is_by, HasOneForward}
use Rattle.station_book.specs.Origin.{kinds_of}
use Rattle.station_book.specs.History.{replay, then_after, IsLegal, instance_of}
use Rattle.drill_text.specs.declared.end_word.EndWord.{EndWord}
use Rattle.drill_text.specs.declared.script_line.ScriptLine.{ScriptLine}
use Rattle.session_core.specs.Session.{session_events, session_end, at_first}
use Rattle.session_laws.specs.Losing.{loses, own_in}
use Rattle.station_links.specs.Connected.{Connected, began, draw, opened}
use Rattle.station_links.specs.LinkLines.{end_of, end_lines}
use Rattle.station_links.specs.Rounds.{session_lines}
use Rattle.station_links.specs.Run.{BringsPieces, EndsWith, rounds_by}
use Rattle.station_law.specs.Connections.{AreSessions, at_door, events_at, life, life_by}
use Rattle.station_law.specs.Connections.{line_events}
use Rattle.station_law.specs.Doors.{opens, Doors}
use Rattle.station_law.specs.Lines.{connected, step_read}
use Rattle.station_law.specs.Runs.{after}
use Rattle.station_law.specs.Standing.{is_free, there}
use Rattle.station_law.specs.State.{State, start}
use Rattle.connection_laws.specs.Laws.{Laws}
use Rattle.connection_laws.specs.Lossless.{AreLossless, IsLossless, world_behind}
use Rattle.connection_laws.proofs.Books.{StaysOf, none_both}
use Rattle.connection_laws.proofs.Doors.{AreFree, new_are, nobody_at, read_are, set_there}
use Rattle.connection_laws.proofs.Ends.{contains_none, end_others, others_both, rounds_others}

legal_both : (b : books.State) (h k : List Event) → IsLegal b h → IsLegal (replay b h) k
    → IsLegal b (h ++ k)
legal_both b [] k first second = second
legal_both b (e ∷ h) k first second =
    (first.0, legal_both (then_after b e) h k first.1 second)

-- a quit isn't answered Lost
last_kept : (door : ℕ) (end : Option EndWord) (last : List Event) → EndsWith door end last
    → list_any (λ (e : Event). loses e.reply) last ≡ false
last_kept door None last is = ap (list_any (λ (e : Event). loses e.reply)) is
last_kept door (Some why) last is = ap (list_any (λ (e : Event). loses e.reply)) is.is

module _ {L : Type 0} (reads : L → Option ScriptLine) (sessions : AreSessions reads) where
  abbrev next : State → L → State
  next state line = (step_read state (reads line)).next

  -- ---- the book's history while a connection is there

  module _ (c : ℕ) where
    abbrev pub while_there : Option Connected → List Event → List Event → List Event
    while_there None own later = []
    while_there (Some l) own later = own ++ later

    abbrev pub history : State → List L → List Event
    history state [] = []
    history state (line ∷ lines) =
        while_there (at_door state c) (line_events state (reads line))
        (history (next state line) lines)

    pub over : (state : State) (lines : List L) → at_door state c ≡ None → history state lines ≡ []
    over state [] none = refl
    over state (line ∷ lines) none = ap (λ (l : Option Connected). while_there l
        (line_events state (reads line)) (history (next state line) lines)) none

    -- behind a line, by whether the connection is there
    own_by : (l : Option Connected) (state : State) (line : L) (lines : List L)
        → own_in c (history (next state line) lines)
        ≡ (life reads c (next state line) lines).events
        → own_in c (while_there l (line_events state (reads line))
        (history (next state line) lines))
        ≡ (life_by c state (reads line) l (life reads c (next state line) lines)).events
    own_by None state line lines rest = refl
    own_by (Some l) state line lines rest =
        let events = line_events state (reads line) in
        filter-append (λ (e : Event). is_by c e.call) events (history (next state line) lines)
        ∙ ap (λ later. events_at c events ++ later) rest

    pub own_is : (lines : List L) (state : State)
        → own_in c (history state lines) ≡ (life reads c state lines).events
    own_is [] state = refl
    own_is (line ∷ lines) state =
        own_by (at_door state c) state line lines (own_is lines (next state line))

    -- a recovery leaves nobody
    pub gone : (state : State) (line : L) → (step_read state (reads line)).recovers ≡ true
        → at_door (next state line) c ≡ None
    gone state line is =
        ap (λ (d : Doors). there (slice_get d.connections c))
        ((sessions.history state line).renewed is) ∙ nobody_at 17 c

    behind : (recovers : Bool) (state : State) (line : L) (lines : List L)
        → (step_read state (reads line)).recovers ≡ recovers
        → IsLegal (next state line).doors.book (history (next state line) lines)
        → IsLegal (replay state.doors.book (line_events state (reads line)))
        (history (next state line) lines)
    behind false state line lines is rest =
        subst (λ (b : books.State). IsLegal b (history (next state line) lines))
        ((sessions.history state line).same is) rest
    behind true state line lines is rest =
        subst (IsLegal (replay state.doors.book (line_events state (reads line))))
        (sym (over (next state line) lines (gone state line is))) tt

    legal_by : (l : Option Connected) (b : books.State) (own later : List Event) → IsLegal b own
        → IsLegal (replay b own) later → IsLegal b (while_there l own later)
    legal_by None b own later first second = tt
    legal_by (Some l) b own later first second = legal_both b own later first second

    pub legal : (lines : List L) (state : State) → IsLegal state.doors.book (history state lines)
    legal [] state = tt
    legal (line ∷ lines) state = legal_by (at_door state c) state.doors.book
        (line_events state (reads line)) (history (next state line) lines)
        (sessions.history state line).legal
        (behind (step_read state (reads line)).recovers state line lines refl
        (legal lines (next state line)))

  -- ---- a connection that has just been opened

  record IsOpened (c moment : ℕ) (state : State) : Type 0 where
    one : HasOneForward (kinds_of state.doors.site.instances)
    at : at_door state c ≡ Some (opened c moment)
    stays : StaysOf state.doors.site state.doors.book
    free : instance_of state.doors.book c ≡ None

  module _ (laws : Laws) where
    loses_nothing : (c moment : ℕ) (state : State) (lines : List L) → IsOpened c moment state
        → AllByRecursion BringsPieces (life reads c state lines).deeds
        → IsLossless (life reads c state lines)
    loses_nothing c moment state lines open_so brings =
        let site = state.doors.site in
        let s = at_first c draw moment in
        let v = life reads c state lines in
        let rounds = rounds_by site c (opened c moment) v.deeds in
        let is = sessions.lives state c moment lines open_so.at brings in
        let fits = open_so.stays [] in
        let none = laws.lost (began site c moment) state.doors.book (history c state lines) is.last
        rounds open_so.one
        (record {
          services = fits.services;
          places = fits.places;
          runs = fits.runs;
          free = open_so.free;
        })
        (legal c lines state) is.right (own_is c lines state ∙ is.events_are) in
        let end = session_end site s rounds in
        record {
          replies = ap (list_any (λ (e : Event). loses e.reply)) is.events_are
              ∙ none_both (λ (e : Event). loses e.reply) (session_events site c s rounds) is.last
              none.replies (last_kept c (end_of end) is.last is.ends);
          ends = rw is.said_is (contains_none _
              (others_both (session_lines site s rounds) (end_lines (end_of end))
              (rounds_others site s rounds) (end_others end none.ends)));
        }

    are_behind : (lines : List L) (state : State) → AreFree state.doors
        → AreFree (after (λ state line. step_read state (reads line)) state lines).doors
    are_behind [] state are = are
    are_behind (line ∷ lines) state are =
        are_behind lines (next state line) (read_are laws state are (reads line))

    just_opened : (c : ℕ) (before : State) → AreFree before.doors → (o : Option (Option Connected))
        → slice_get before.doors.connections c ≡ o → IsTrue (is_free o)
        → IsOpened c before.clock
        (connected before (opens before.doors before.clock c o)).next
    just_opened c before are None slot free = absurd cc
    just_opened c before are (Some (Some l)) slot free = absurd cc
    just_opened c before are (Some None) slot free = record {
      at = ap there (set_there before.doors.connections c None (Some (opened c before.clock)) slot);
      one = are.one;
      stays = are.stays;
      free = are.free c (ap there slot);
    }

    pub are_lossless : AreLossless reads
    are_lossless site earlier later c one free =
        let before = world_behind reads site earlier in
        let are = are_behind earlier (start site) (new_are laws site [] one) in
        loses_nothing c before.clock _ later
        (just_opened c before are (slice_get before.doors.connections c) refl free)
