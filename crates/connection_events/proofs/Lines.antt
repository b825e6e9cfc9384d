-- The STARTs of a connection's door, over the lines behind the one that opens it.
use Rattle.std.proofs.Common.{◌≡◌, ℕ, Bool, true, false, if◌then◌else◌, Option, Some, None, List, []}
use Rattle.std.proofs.Common.{◌∷◌, ◌++◌, slice_get, refl, sym, ap, ◌∙◌}
use Rattle.station_config.specs.declared.site.Site.{Site}
use Rattle.drill_text.specs.declared.script_line.ScriptLine.{ScriptLine}
use Rattle.station_world.specs.Life.{Start}
use Rattle.line_events.specs.Progress.{IsUsers, ProgressIsOfItsDoor}
use Rattle.session_events.specs.Rounds.{RoundsMayCome}
use Rattle.session_events.specs.Starts.{starts_over}
use Rattle.station_links.specs.Connected.{Connected}
use Rattle.station_links.specs.Run.{Deed, rounds_by}
use Rattle.station_law.specs.Connections.{AreSessions, at_door, deeds_at, deeds_by, Life, no_life}
use Rattle.station_law.specs.Connections.{life, life_by}
use Rattle.station_law.specs.Doors.{Act, Doors}
use Rattle.station_law.specs.Lines.{step_read}
use Rattle.station_law.specs.Runs.{after}
use Rattle.station_law.specs.Standing.{there}
use Rattle.station_law.specs.State.{State}
use Rattle.script_world.specs.Script.{answers, users_after}
use Rattle.script_world.specs.Users.{users_act, users_asked, users_behind}
use Rattle.connection_events.proofs.Doors.{nobody_at, left_of, asks_of, moves}
use Rattle.connection_events.proofs.Rounds.{own, behind, gathers}
use Rattle.connection_events.proofs.Serving.{serves, acts_serve}
use Rattle.connection_events.proofs.Staying.{Breaks}

module _ {L : Type 0} (reads : L → Option ScriptLine) (sessions : AreSessions reads)
    (owns : ProgressIsOfItsDoor) (may : RoundsMayCome) (c : ℕ) (users : IsUsers c) where
  abbrev next : State → L → State
  next state line = (step_read state (reads line)).next

  abbrev pub its : List Start → List Start
  its all = own owns may c users all

  -- a recovery leaves nobody
  gone : (state : State) (line : L) → (step_read state (reads line)).recovers ≡ true
      → at_door (next state line) c ≡ None
  gone state line is =
      ap (λ (d : Doors). there (slice_get d.connections c))
      ((sessions.history state line).renewed is) ∙ nobody_at 17 c

  ended : (state : State) (lines : List L) → at_door state c ≡ None
      → life reads c state lines ≡ no_life
  ended state [] none = refl
  ended state (line ∷ lines) none =
      ap (λ (o : Option Connected). life_by c state (reads line) o
      (life reads c (next state line) lines)) none

  -- ---- one line

  module _ (state : State) (l : Connected) (at : at_door state c ≡ Some l) where
    deeds_of : (line : Option ScriptLine)
        → deeds_at state c l line ≡ deeds_by state.doors state.clock c l (asks_of c state l at line)
    deeds_of None = refl
    deeds_of (Some line) = refl

    asked_of : (line : Option ScriptLine) (all : List Start)
        → users_asked state line all ≡ users_act state (asks_of c state l at line) all
    asked_of None all = refl
    asked_of (Some line) all = refl

    none_of : (line : Option ScriptLine) → (step_read state line).recovers ≡ true
        → deeds_at state c l line ≡ []
    none_of line is =
        deeds_of line
        ∙ ap (λ (a : Option Act). deeds_by state.doors state.clock c l a)
        ((moves c state l at line).none is)

    line_gathers : (line : Option ScriptLine) (rest : List Deed) (all : List Start)
        → (step_read state line).recovers ≡ false
        → starts_over c state.doors.site l.state
        (rounds_by state.doors.site c l (deeds_at state c l line ++ rest)) (its all)
        ≡ behind owns may c users state.doors.site (at_door (step_read state line).next c) rest
        (its (users_behind state line all))
    line_gathers line rest all is =
        let site = state.doors.site in
        let asks = asks_of c state l at line in
        let left = left_of c state l at asks in
        ap (λ (deeds : List Deed). starts_over c site l.state (rounds_by site c l (deeds ++ rest))
        (its all)) (deeds_of line)
        ∙ gathers owns may c users state l at asks rest all
        ∙ ap (λ (x : List Start). behind owns may c users site left rest (its x))
        (sym (asked_of line all)
        ∙ sym (ap (λ (b : Bool). if b then [] else users_asked state line all) is))
        ∙ ap (λ (o : Option Connected). behind owns may c users site o rest
        (its (users_behind state line all))) (sym ((moves c state l at line).left is))

    -- and it serves behind it where what is left of it does
    line_serves : (line : Option ScriptLine) (rest : List Deed)
        → (step_read state line).recovers ≡ false
        → serves c state.doors.site (Some l) (deeds_at state c l line ++ rest)
        ≡ serves c state.doors.site (at_door (step_read state line).next c) rest
    line_serves line rest is =
        let site = state.doors.site in
        ap (λ (deeds : List Deed). serves c site (Some l) (deeds ++ rest)) (deeds_of line)
        ∙ acts_serve c state l at (asks_of c state l at line) rest
        ∙ ap (λ (o : Option Connected). serves c site o rest) (sym ((moves c state l at line).left is))

  -- ---- lines

  -- behind the first of some lines, up to the last one at which the connection is there, the door's
  -- STARTs are what its rounds over all of them make; where its session serves then, no line follows
  -- these, or a recovery does
  pub record Reaches (state : State) (l : Connected) (all : List Start) (lines : List L) : Type 0
    where
      pub first : List L
      pub more : List L
      pub is : lines ≡ first ++ more
      pub makes : its (users_after reads state all first)
          ≡ starts_over c state.doors.site l.state
          (rounds_by state.doors.site c l (life reads c state lines).deeds) (its all)
      pub rests : serves c state.doors.site (Some l) (life reads c state lines).deeds ≡ true
          → Breaks reads (after (answers reads) state first) more

  abbrev deeds_with : State → L → List L → Option Connected → List Deed
  deeds_with state line lines o =
      (life_by c state (reads line) o (life reads c (next state line) lines)).deeds

  -- the connection isn't there behind the line
  module _ (state : State) (l : Connected) (at : at_door state c ≡ Some l) (all : List Start)
      (line : L) (lines : List L) where
    abbrev site : Site
    site = state.doors.site

    abbrev own_deeds : List Deed
    own_deeds = deeds_at state c l (reads line)

    abbrev Over : List Deed → List Start
    Over deeds = starts_over c site l.state (rounds_by site c l deeds) (its all)

    with_own : deeds_with state line lines (at_door state c)
        ≡ own_deeds ++ (life reads c (next state line) lines).deeds
    with_own = ap (λ (o : Option Connected). deeds_with state line lines o) at

    recovers : (step_read state (reads line)).recovers ≡ true → Reaches state l all (line ∷ lines)
    recovers is =
        let none = ended (next state line) lines (gone state line is) in
        let deeds : deeds_with state line lines (at_door state c) ≡ [] =
        with_own ∙ ap (λ (v : Life). own_deeds ++ v.deeds) none
        ∙ ap (λ (ds : List Deed). ds ++ []) (none_of state l at (reads line) is) in
        record {
          first = [];
          more = line ∷ lines;
          is = refl;
          makes = sym (ap Over deeds);
          rests = λ serving. is;
        }

    -- whether it serves behind the line
    over : (o : Option Connected) → (step_read state (reads line)).recovers ≡ false
        → at_door (next state line) c ≡ o
        → serves c site (Some l) (deeds_with state line lines (at_door state c))
        ≡ serves c site o (life reads c (next state line) lines).deeds
    over o is left =
        let later = (life reads c (next state line) lines).deeds in
        ap (λ (deeds : List Deed). serves c site (Some l) deeds) with_own
        ∙ line_serves state l at (reads line) later is
        ∙ ap (λ (x : Option Connected). serves c site x later) left

    ends : (step_read state (reads line)).recovers ≡ false → at_door (next state line) c ≡ None
        → Reaches state l all (line ∷ lines)
    ends is none =
        let done = ended (next state line) lines none in
        let made = its (users_behind state (reads line) all) in
        record {
          first = line ∷ [];
          more = lines;
          is = refl;
          makes =
              sym (ap Over (with_own ∙ ap (λ (v : Life). own_deeds ++ v.deeds) done)
              ∙ line_gathers state l at (reads line) [] all is
              ∙ ap (λ (o : Option Connected). behind owns may c users site o [] made) none);
          rests = λ serving. absurd (cc (sym serving ∙ over None is none));
        }

    goes_on : (m : Connected) → (step_read state (reads line)).recovers ≡ false
        → at_door (next state line) c ≡ Some m
        → Reaches (next state line) m (users_behind state (reads line) all) lines
        → Reaches state l all (line ∷ lines)
    goes_on m is left rest =
        let later = life reads c (next state line) lines in
        let made = its (users_behind state (reads line) all) in
        record {
          first = line ∷ rest.first;
          more = rest.more;
          is = ap (λ (ls : List L). line ∷ ls) rest.is;
          makes =
              rest.makes
              ∙ ap (λ (x : Site). starts_over c x m.state (rounds_by x c m later.deeds) made)
              (sessions.history state line).site
              ∙ sym (ap Over with_own
              ∙ line_gathers state l at (reads line) later.deeds all is
              ∙ ap (λ (o : Option Connected). behind owns may c users site o later.deeds made) left);
          rests = λ serving.
              rest.rests (ap (λ (x : Site). serves c x (Some m) later.deeds)
              (sessions.history state line).site ∙ sym (over (Some m) is left) ∙ serving);
        }

  module _ (state : State) (l : Connected) (at : at_door state c ≡ Some l) (all : List Start)
      (line : L) (lines : List L)
      (inner : (m : Connected) → at_door (next state line) c ≡ Some m
      → Reaches (next state line) m (users_behind state (reads line) all) lines) where
    by_left : (o : Option Connected) → (step_read state (reads line)).recovers ≡ false
        → at_door (next state line) c ≡ o → Reaches state l all (line ∷ lines)
    by_left None is left = ends state l at all line lines is left
    by_left (Some m) is left = goes_on state l at all line lines m is left (inner m left)

    by_recovery : (r : Bool) → (step_read state (reads line)).recovers ≡ r
        → Reaches state l all (line ∷ lines)
    by_recovery true is = recovers state l at all line lines is
    by_recovery false is = by_left (at_door (next state line) c) is refl

  pub reaches : (lines : List L) (state : State) (l : Connected) (all : List Start)
      → at_door state c ≡ Some l → Reaches state l all lines
  reaches [] state l all at = record {
    first = [];
    more = [];
    is = refl;
    makes = refl;
    rests = λ serving. tt;
  }
  reaches (line ∷ lines) state l all at =
      by_recovery state l at all line lines
      (λ m left. reaches lines (next state line) m (users_behind state (reads line) all) left)
      (step_read state (reads line)).recovers refl
