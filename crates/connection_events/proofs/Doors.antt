-- What a line leaves at the door of a connection that is there.
use Rattle.std.proofs.Common.{◌≡◌, ℕ, ◌==◌, Bool, true, false, if◌then◌else◌, Option, Some}
use Rattle.std.proofs.Common.{None, List, replicate, slice_get, set, refl, sym, ap, ◌∙◌}
use Rattle.std.proofs.Common.{⊎_elim, arith}
use Rattle.std.proofs.lemmas.Bool.Decides.{eqb_tells}
use Rattle.std.proofs.lemmas.Grind.{common_steps}
use Rattle.std.proofs.lemmas.Option.{gets}
use Rattle.archive_terms.specs.Archive.{is_valid}
use Rattle.record_form.specs.Entry.{entry_of}
use Rattle.sle_numbers.specs.RequestedFrameQuality.{number_of}
use Rattle.drill_text.specs.declared.script_line.ScriptLine.{ScriptLine}
use Rattle.drill_text.specs.declared.script_line.ScriptLine.TheVariants.{Skip, Offer, Desk, Clock}
use Rattle.drill_text.specs.declared.script_line.ScriptLine.TheVariants.{Crash, Fault, Open, Take}
use Rattle.drill_text.specs.declared.script_line.ScriptLine.TheVariants.{Done, Uplink}
use Rattle.station_links.specs.Connected.{Connected, opened as opened_link}
use Rattle.station_uplink.specs.declared.turn.Turn.TheVariants as turns
use Rattle.station_uplink.specs.Turns.{Turned}
use Rattle.script_store.specs.Answer.{Answer, is_wrong}
use Rattle.station_law.specs.Connections.{at_door}
use Rattle.station_law.specs.Desk.{desk}
use Rattle.station_law.specs.Doors.{Act, act_of, acted, acted_on, opens, ordered, rounds_of}
use Rattle.script_store.specs.Entries.{offer}
use Rattle.station_law.specs.Lines.{recorded, offered, connected, doors_behind, uplinked, turn_at}
use Rattle.station_law.specs.Lines.{step, step_read}
use Rattle.script_store.specs.Orders.{pick_of}
use Rattle.script_store.specs.Power.{crash_line, fault_line}
use Rattle.station_law.specs.Standing.{there, is_free}
use Rattle.station_law.specs.State.{State}
use Rattle.script_store.specs.Store.{Store}

set_there : {A : Type 0} → (xs : List A) (c : ℕ) (x y : A) → slice_get xs c ≡ Some x
    → slice_get (set xs c y) c ≡ Some y
set_there xs c x y is = grind (arith, gets, common_steps)

set_other : {A : Type 0} → (xs : List A) (k c : ℕ) (y : A) → ¬ (k ≡ c)
    → slice_get (set xs k y) c ≡ slice_get xs c
set_other xs k c y other = grind (arith, gets, common_steps)

pub nobody_at : {A : Type 0} → (n c : ℕ) → there {X = A} (slice_get (replicate n None) c) ≡ None
nobody_at n c = grind (arith, gets, common_steps)

pub slot_of : {A : Type 0} → (o : Option (Option A)) (x : A) → there o ≡ Some x → o ≡ Some (Some x)
slot_of o x is = grind arith

free_slot : {A : Type 0} → (o : Option (Option A)) → is_free o ≡ true → o ≡ Some None
free_slot o free = grind arith

-- a connection that is opened at a free door is there
pub opened_at : (before : State) (c : ℕ) → is_free (slice_get before.doors.connections c) ≡ true
    → at_door (step before (Open c)).next c ≡ Some (opened_link c before.clock)
opened_at before c free =
    let slots = before.doors.connections in
    let first = opened_link c before.clock in
    let slot : slice_get slots c ≡ Some None = free_slot (slice_get slots c) free in
    ap (λ (found : Option (Option Connected)).
    at_door (connected before (opens before.doors before.clock c found)).next c) slot
    ∙ ap there (set_there slots c None (Some first) slot)

module _ (c : ℕ) (state : State) (l : Connected) (at : at_door state c ≡ Some l) where
  -- what rounds leave at the door, where they are this connection's
  abbrev pub left_of : Option Act → Option Connected
  left_of None = Some l
  left_of (Some a) =
      if a.c == c
      then (rounds_of state.doors.site c state.clock a.rounds state.doors.book
      (Some (ordered a.order l))).left
      else Some l

  -- a line that recovers asks nothing of a connection, and another one leaves this at the door
  pub record Moved (asks : Option Act) (a : Answer State) : Type 0 where
    pub none : a.recovers ≡ true → asks ≡ None
    pub left : a.recovers ≡ false → at_door a.next c ≡ left_of asks

  stays : (a : Answer State) → a.next.doors.connections ≡ state.doors.connections → Moved None a
  stays a same = record {
    none = λ is. refl;
    left = λ is. ap (λ (xs : List (Option Connected)). there (slice_get xs c)) same ∙ at;
  }

  wrong : Moved None (is_wrong state)
  wrong = stays (is_wrong state) refl

  stored : (a : Answer Store) → Moved None (recorded state a)
  stored a = record {
    none = λ is. refl;
    left = λ is.
        ap (λ (r : Bool). there (slice_get
        (doors_behind r state.doors a.given a.next.published).connections c)) is ∙ at;
  }

  opens_so : (k : ℕ) (o : Option (Option Connected)) → slice_get state.doors.connections k ≡ o
      → Moved None (connected state (opens state.doors state.clock k o))
  opens_so k None slot = wrong
  opens_so k (Some (Some other)) slot = wrong
  opens_so k (Some None) slot = record {
    none = λ is. refl;
    left = λ is.
        ap there (set_other state.doors.connections k c (Some (opened_link k state.clock))
        (λ same. differ same)) ∙ at;
  }
    where
      differ : k ≡ c → ⊥
      differ same =
          let here : there (slice_get state.doors.connections c) ≡ None =
          ap (λ (n : ℕ). there (slice_get state.doors.connections n)) (sym same) ∙ ap there slot in
          absurd (cc (sym here ∙ at))

  turned_so : (t : Option Turned) → Moved None (uplinked state t)
  turned_so None = wrong
  turned_so (Some t) = stays (uplinked state (Some t)) refl

  -- a line of this connection, and one of another
  here : (a : Act) → a.c ≡ c → (a.c == c) ≡ true
      → Moved (Some a) (connected state (acted state.doors state.clock (Some a)))
  here a same is =
      let slots = state.doors.connections in
      let slot : slice_get slots a.c ≡ Some (Some l) =
      ap (λ (n : ℕ). slice_get slots n) same ∙ slot_of (slice_get slots c) l at in
      let ran : ℕ → Option Connected = λ n.
      (rounds_of state.doors.site n state.clock a.rounds state.doors.book
      (Some (ordered a.order l))).left in
      let found = λ (o : Option (Option Connected)).
      connected state (acted_on state.doors state.clock a o) in
      record {
        none = λ r.
            let never : false ≡ true =
            sym (ap (λ (o : Option (Option Connected)). (found o).recovers) slot) ∙ r in
            absurd (cc never);
        left = λ r.
            ap (λ (o : Option (Option Connected)). at_door (found o).next c) slot
            ∙ ap (λ (n : ℕ). there (slice_get (set slots a.c (ran a.c)) n)) (sym same)
            ∙ ap there (set_there slots a.c (Some l) (ran a.c) slot)
            ∙ ap ran same
            ∙ sym (ap (λ (b : Bool). if b then ran c else Some l) is);
      }

  abbrev ran_by : Act → Option Connected
  ran_by a = (rounds_of state.doors.site c state.clock a.rounds state.doors.book
      (Some (ordered a.order l))).left

  other_slot : (a : Act) → ¬ (a.c ≡ c) → (a.c == c) ≡ false → (o : Option (Option Connected))
      → Moved (Some a) (connected state (acted_on state.doors state.clock a o))
  other_slot a differ is None = record {
    none = λ r. absurd (cc r);
    left = λ r. at ∙ sym (ap (λ (b : Bool). if b then ran_by a else Some l) is);
  }
  other_slot a differ is (Some None) = record {
    none = λ r. absurd (cc r);
    left = λ r. at ∙ sym (ap (λ (b : Bool). if b then ran_by a else Some l) is);
  }
  other_slot a differ is (Some (Some m)) = record {
    none = λ r. absurd (cc r);
    left = λ r.
        ap there (set_other state.doors.connections a.c c
        (rounds_of state.doors.site a.c state.clock a.rounds state.doors.book
        (Some (ordered a.order m))).left differ) ∙ at
        ∙ sym (ap (λ (b : Bool). if b then ran_by a else Some l) is);
  }

  acts_so : (a : Option Act) → Moved a (connected state (acted state.doors state.clock a))
  acts_so None = wrong
  acts_so (Some a) =
      ⊎_elim (λ same. here a same.1 same.0)
      (λ other. other_slot a other.1 other.0 (slice_get state.doors.connections a.c))
      (eqb_tells a.c c)

  line_moves : (line : ScriptLine) → Moved (act_of line) (step state line)
  line_moves Skip = stays (step state Skip) refl
  line_moves (Offer entry) = offers (is_valid (entry_of entry))
    where
      offers : (valid : Bool)
          → Moved None (if valid then offered state (entry_of entry) else is_wrong state)
      offers true = stored (offer state.store (entry_of entry))
      offers false = wrong
  line_moves (Desk start stop quality) = stored (desk state.store start stop (number_of quality))
  line_moves (Clock at) = stays (step state (Clock at)) refl
  line_moves (Crash k pick) = stored (crash_line state.store k (pick_of pick))
  line_moves (Fault k) = stored (fault_line state.store k)
  line_moves (Open k) = opens_so k (slice_get state.doors.connections k) refl
  line_moves (Take fail) = turned_so (turn_at state (turns.Take fail))
  line_moves Done = turned_so (turn_at state turns.Done)
  line_moves (Uplink production status) = turned_so (turn_at state (turns.Uplink production status))
  line_moves line = acts_so (act_of line)

  -- what a line asks
  abbrev pub asks_of : Option ScriptLine → Option Act
  asks_of None = None
  asks_of (Some line) = act_of line

  pub moves : (line : Option ScriptLine) → Moved (asks_of line) (step_read state line)
  moves None = wrong
  moves (Some line) = line_moves line
