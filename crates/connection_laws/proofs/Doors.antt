-- At a door at which nobody is connected no instance is bound, behind any lines of a script.
use Rattle.std.proofs.Common.{◌≡◌, ◌==◌, ℕ, zero, suc, Bool, true, false, ◌||◌, if◌then◌else◌}
use Rattle.std.proofs.Common.{Option, Some, None, List, [], ◌∷◌, ◌++◌, replicate, slice_get, set}
use Rattle.std.proofs.Common.{refl, sym, ap, subst, ◌∙◌, ⊎_elim, arith, IsTrue}
use Rattle.std.proofs.lemmas.Bool.Decides.{eqb_tells}
use Rattle.std.proofs.lemmas.Grind.{common_steps}
use Rattle.std.proofs.lemmas.Option.{gets}
use Rattle.std.specs.List.{list_any}
use Rattle.archive_terms.specs.Archive.{Entry, is_valid}
use Rattle.record_form.specs.Entry.{entry_of}
use Rattle.sle_numbers.specs.RequestedFrameQuality.{number_of}
use Rattle.station_config.specs.declared.site.Site.{Site}
use Rattle.station_book.specs.State.{Event, Call, publish, answer, quit, take, done, interrupted}
use Rattle.station_book.specs.State.{uplink as set_uplink, gone}
use Rattle.station_book.specs.State as books
use Rattle.station_book.specs.Doors.{is_by, HasOneForward}
use Rattle.station_book.specs.Origin.{kinds_of}
use Rattle.station_book.specs.History.{replay, instance_of, event_at}
use Rattle.drill_text.specs.declared.end_word.EndWord.{EndWord}
use Rattle.drill_text.specs.declared.script_line.ScriptLine.{ScriptLine}
use Rattle.drill_text.specs.declared.script_line.ScriptLine.TheVariants.{Skip, Offer, Desk, Clock}
use Rattle.drill_text.specs.declared.script_line.ScriptLine.TheVariants.{Crash, Fault, Open}
use Rattle.drill_text.specs.declared.script_line.ScriptLine.TheVariants.{Take, Done, Uplink}
use Rattle.session_core.specs.Session.{State as Session, BookAnswer, step_events, before_step}
use Rattle.session_core.specs.Session.{round_events}
use Rattle.station_links.specs.Connected.{Connected, opened}
use Rattle.station_links.specs.Rounds.{round_at, round_of, end_after, stands_after, left_by, quits}
use Rattle.station_uplink.specs.declared.turn.Turn.{Turn}
use Rattle.station_uplink.specs.declared.turn.Turn.TheVariants as turns
use Rattle.station_uplink.specs.Turns.{Turned, events_of}
use Rattle.station_uplink.specs.Facts.{is_of_antenna, turn_holds}
use Rattle.script_store.specs.Answer.{Answer, is_wrong}
use Rattle.station_law.specs.Desk.{desk}
use Rattle.station_law.specs.Doors.{Act, Doors, act_of, acted, acted_on, anew, opens, ordered}
use Rattle.station_law.specs.Doors.{rounds_of}
use Rattle.script_store.specs.Entries.{offer}
use Rattle.station_law.specs.Lines.{connected, doors_behind, offered, recorded, uplinked, turn_at}
use Rattle.station_law.specs.Lines.{step, step_read}
use Rattle.script_store.specs.Orders.{pick_of}
use Rattle.script_store.specs.Power.{crash_line, fault_line}
use Rattle.station_law.specs.Standing.{there}
use Rattle.station_law.specs.State.{State}
use Rattle.script_store.specs.Store.{Store}
use Rattle.connection_laws.specs.Laws.{Laws}
use Rattle.connection_laws.proofs.Books.{StaysOf, later_of, new_free, new_of, none_both, quit_frees}
use Rattle.connection_laws.proofs.Books.{replay-append}

-- ---- slots

pub set_there : {A : Type 0} → (xs : List A) (c : ℕ) (x y : A) → slice_get xs c ≡ Some x
    → slice_get (set xs c y) c ≡ Some y
set_there xs c x y is = grind (arith, gets, common_steps)

set_other : {A : Type 0} → (xs : List A) (k c : ℕ) (y : A) → ¬ (k ≡ c)
    → slice_get (set xs k y) c ≡ slice_get xs c
set_other xs k c y other = grind (arith, gets, common_steps)

pub nobody_at : {A : Type 0} → (n c : ℕ) → there {X = A} (slice_get (replicate n None) c) ≡ None
nobody_at n c = grind (arith, gets, common_steps)

-- nobody is where nobody is once somebody was put somewhere
put_some : {A : Type 0} → (xs : List (Option A)) (k c : ℕ) (x : A)
    → there (slice_get (set xs k (Some x)) c) ≡ None → there (slice_get xs c) ≡ None
put_some [] k c x none = none
put_some (y ∷ xs) zero zero x none = absurd (cc none)
put_some (y ∷ xs) zero (suc c) x none = none
put_some (y ∷ xs) (suc k) zero x none = none
put_some (y ∷ xs) (suc k) (suc c) x none = put_some xs k c x none

-- ---- rounds

module _ (site : Site) (c reading : ℕ) where
  -- behind rounds at whose end nobody is connected the door is free, if it was where nobody was
  ended_frees : (b : books.State) (asked : List Event) (end : Option EndWord) (l : Connected)
      → StaysOf site b → left_by end l ≡ None
      → instance_of (replay b (asked ++ quits c (replay b asked) end)) c ≡ None
  ended_frees b asked None l stays none = absurd (cc none)
  ended_frees b asked (Some why) l stays none =
      ap (λ (s : books.State). instance_of s c)
      (replay-append b asked (event_at (replay b asked) (quit c) ∷ []))
      ∙ quit_frees site (replay b asked) c (stays asked)

  rounds_free : (n : ℕ) (b : books.State) (l : Option Connected) → StaysOf site b
      → (l ≡ None → instance_of b c ≡ None) → (rounds_of site c reading n b l).left ≡ None
      → instance_of (replay b (rounds_of site c reading n b l).events) c ≡ None
  rounds_free zero b l stays free none = free none
  rounds_free (suc n) b None stays free none = free refl
  rounds_free (suc n) b (Some l) stays free none =
      let r = round_at site c l b reading in
      let o = round_of site c l b reading in
      let rest = rounds_of site c reading n (replay b o.events) o.next in
      ap (λ (s : books.State). instance_of s c) (replay-append b o.events rest.events)
      ∙ rounds_free n (replay b o.events) o.next (later_of site b o.events stays)
      (ended_frees b (round_events site c l.state r) (end_after site l r)
      (stands_after site l r) stays) none

  -- no event of rounds is another door's
  module _ (other : ℕ) (apart : (c == other) ≡ false) where
    abbrev by_other : Event → Bool
    by_other e = is_by other e.call

    one_apart : (c == other || false) ≡ false
    one_apart = ap (λ (b : Bool). b || false) apart

    asked_apart : (s : Session) (told : Option BookAnswer)
        → list_any by_other (step_events site c s told) ≡ false
    asked_apart s None = refl
    asked_apart s (Some told) = one_apart

    quit_apart : (b : books.State) (end : Option EndWord)
        → list_any by_other (quits c b end) ≡ false
    quit_apart b None = refl
    quit_apart b (Some why) = one_apart

    rounds_apart : (n : ℕ) (b : books.State) (l : Option Connected)
        → list_any by_other (rounds_of site c reading n b l).events ≡ false
    rounds_apart zero b l = refl
    rounds_apart (suc n) b None = refl
    rounds_apart (suc n) b (Some l) =
        let r = round_at site c l b reading in
        let o = round_of site c l b reading in
        let asked = round_events site c l.state r in
        none_both by_other o.events
        (rounds_of site c reading n (replay b o.events) o.next).events
        (none_both by_other asked (quits c (replay b asked) (end_after site l r))
        (asked_apart (before_step l.state r) r.told)
        (quit_apart (replay b asked) (end_after site l r)))
        (rounds_apart n (replay b o.events) o.next)

-- a call of the antenna's worker is no door's
no_door : (c : ℕ) (call : Call) → IsTrue (is_of_antenna call) → is_by c call ≡ false
no_door c (publish entries) own = absurd cc
no_door c (answer door reading ask want) own = absurd cc
no_door c (quit door) own = absurd cc
no_door c (gone worker) own = absurd cc
no_door c (take reading) own = refl
no_door c (done run id reading) own = refl
no_door c (interrupted run id reading) own = refl
no_door c (set_uplink production status reading) own = refl

-- ---- lines

-- a book of a site with one forward service at most, in which a door at which nobody is connected has no instance
pub record AreFree (d : Doors) : Type 0 where
  pub one : HasOneForward (kinds_of d.site.instances)
  pub stays : StaysOf d.site d.book
  pub free : (c : ℕ) → there (slice_get d.connections c) ≡ None → instance_of d.book c ≡ None

module _ (laws : Laws) where
  pub new_are : (site : Site) (entries : List Entry) → HasOneForward (kinds_of site.instances)
      → AreFree (anew site entries)
  new_are site entries one = record {
    one = one;
    stays = new_of laws site entries;
    free = λ c none. new_free laws site entries c;
  }

  module _ (state : State) (are : AreFree state.doors) where
    abbrev d : Doors
    d = state.doors

    abbrev Leaves : Answer State → Type 0
    Leaves a = AreFree a.next.doors

    published_are : (recovers : Bool) (given found : List Entry)
        → AreFree (doors_behind recovers d given found)
    published_are true given found = new_are d.site found are.one
    published_are false [] found =
        record { one = are.one; stays = are.stays; free = are.free }
    published_are false (entry ∷ given) found =
        let events = event_at d.book (books.publish (entry ∷ given)) ∷ [] in
        record {
          one = are.one;
          stays = later_of d.site d.book events are.stays;
          free = λ c none. laws.others d.book events c refl ∙ are.free c none;
        }

    recorded_are : (a : Answer Store) → Leaves (recorded state a)
    recorded_are a = published_are a.recovers a.given a.next.published

    opens_are : (k : ℕ) (o : Option (Option Connected))
        → Leaves (connected state (opens d state.clock k o))
    opens_are k None = are
    opens_are k (Some (Some l)) = are
    opens_are k (Some None) = record {
      one = are.one;
      stays = are.stays;
      free = λ c none.
          are.free c (put_some d.connections k c (opened k state.clock) none);
    }

    acts_are : (a : Act) (o : Option (Option Connected)) → slice_get d.connections a.c ≡ o
        → Leaves (connected state (acted_on d state.clock a o))
    acts_are a None slot = are
    acts_are a (Some None) slot = are
    acts_are a (Some (Some l)) slot =
        let first = ordered a.order l in
        let ran = rounds_of d.site a.c state.clock a.rounds d.book (Some first) in
        let here : there (slice_get (set d.connections a.c ran.left) a.c) ≡ ran.left =
        ap there (set_there d.connections a.c (Some l) ran.left slot) in
        record {
          one = are.one;
          stays = later_of d.site d.book ran.events are.stays;
          free = λ c none. ⊎_elim
              (λ same. subst
              (λ (k : ℕ). there (slice_get (set d.connections a.c ran.left) k) ≡ None
              → instance_of (replay d.book ran.events) k ≡ None) same.1
              (λ left. rounds_free d.site a.c state.clock a.rounds d.book (Some first) are.stays
              (λ is. absurd (cc is)) (sym here ∙ left)) none)
              (λ other. laws.others d.book ran.events c
              (rounds_apart d.site a.c state.clock c other.0 a.rounds d.book (Some first))
              ∙ are.free c
              (ap there (sym (set_other d.connections a.c c ran.left other.1)) ∙ none))
              (eqb_tells a.c c);
        }

    asked_are : (a : Option Act) → Leaves (connected state (acted d state.clock a))
    asked_are None = are
    asked_are (Some a) = acts_are a (slice_get d.connections a.c) refl

    turned_are : (o : Option Turned)
        → ((c : ℕ) → list_any (λ (e : Event). is_by c e.call) (events_of o) ≡ false)
        → Leaves (uplinked state o)
    turned_are None apart = are
    turned_are (Some t) apart = record {
      one = are.one;
      stays = later_of d.site d.book t.events are.stays;
      free = λ c none. laws.others d.book t.events c (apart c) ∙ are.free c none;
    }

    turn_are : (turn : Turn) → Leaves (uplinked state (turn_at state turn))
    turn_are turn = turned_are (turn_at state turn) (λ c. turn_holds
        (λ b h. list_any (λ (e : Event). is_by c e.call) h ≡ false) (λ b. refl)
        (λ b h k. none_both (λ (e : Event). is_by c e.call) h k)
        (λ b call own. ap (λ (by : Bool). by || false) (no_door c call own))
        d.book state.clock state.uplink turn)

    valid_are : (entry : Entry) (valid : Bool)
        → Leaves (if valid then offered state entry else is_wrong state)
    valid_are entry true = recorded_are (offer state.store entry)
    valid_are entry false = are

    line_are : (line : ScriptLine) → Leaves (step state line)
    line_are Skip = are
    line_are (Offer entry) = valid_are (entry_of entry) (is_valid (entry_of entry))
    line_are (Desk first last quality) =
        recorded_are (desk state.store first last (number_of quality))
    line_are (Clock time) = are
    line_are (Crash k pick) = recorded_are (crash_line state.store k (pick_of pick))
    line_are (Fault k) = recorded_are (fault_line state.store k)
    line_are (Open k) = opens_are k (slice_get d.connections k)
    line_are (Take fail) = turn_are (turns.Take fail)
    line_are Done = turn_are turns.Done
    line_are (Uplink production status) = turn_are (turns.Uplink production status)
    line_are line = asked_are (act_of line)

    pub read_are : (line : Option ScriptLine) → Leaves (step_read state line)
    read_are None = are
    read_are (Some line) = line_are line
