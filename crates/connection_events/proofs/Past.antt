-- A life that a power failure ends stays as it is.
use Rattle.std.proofs.Common.{◌≡◌, ℕ, zero, suc, ◌==◌, Bool, true, false, if◌then◌else◌, Option, Some}
use Rattle.std.proofs.Common.{None, List, [], ◌∷◌, ◌++◌, slice_get, refl, sym, ap}
use Rattle.std.proofs.Common.{◌∙◌, append-nil}
use Rattle.std.specs.Option.{option_to_list}
use Rattle.archive_terms.specs.Archive.{Entry, is_valid}
use Rattle.record_form.specs.Entry.{entry_of}
use Rattle.drill_text.specs.declared.script_line.ScriptLine.{ScriptLine}
use Rattle.drill_text.specs.declared.script_line.ScriptLine.TheVariants.{Skip, Offer, Desk, Clock}
use Rattle.drill_text.specs.declared.script_line.ScriptLine.TheVariants.{Crash, Fault, Take, Done}
use Rattle.drill_text.specs.declared.script_line.ScriptLine.TheVariants.{Uplink}
use Rattle.station_config.specs.declared.site.Site.{Site}
use Rattle.station_book.specs.State.{Opening}
use Rattle.station_uplink.specs.declared.turn.Turn.TheVariants as turns
use Rattle.station_uplink.specs.Turns.{Turned}
use Rattle.station_world.specs.Comes.{Begins}
use Rattle.station_world.specs.File.{found_by, without_batch}
use Rattle.station_world.specs.Life.{Life}
use Rattle.station_world.specs.World.{World, before_all, lives, in_the_dark, restarted, Event, offers}
use Rattle.station_world.specs.World.{begins_store, ends_store, reopens, calls, starts, makes_round}
use Rattle.station_world.specs.World.{ends_start, sends, reads as reads_clock, loses_power, restarts}
use Rattle.station_world.specs.World.{after_event, after_events}
use Rattle.station_world.proofs.Moments.{after_both}
use Rattle.line_events.specs.Forms.{finding_of, store_events, struck_events, power_events, first_events}
use Rattle.script_store.specs.declared.order.Order.{Order}
use Rattle.script_store.specs.declared.order.Strike.{Strike}
use Rattle.script_store.specs.declared.order.Strike.TheVariants.{Stop, Fail}
use Rattle.script_store.specs.declared.refusal.Refusal.{Refusal}
use Rattle.script_store.specs.Answer.{is_wrong}
use Rattle.script_store.specs.Entries.{refusal, struck, stores, stores_under}
use Rattle.script_store.specs.Entries as entries
use Rattle.script_store.specs.Orders.{is_hit, behind_store, leaves_entry, found, pick_of}
use Rattle.script_store.specs.Power.{fails_now, orders}
use Rattle.station_law.specs.Doors.{Acted, act}
use Rattle.station_law.specs.Lines.{connected, uplinked, turn_at, step, step_read, offered}
use Rattle.station_law.specs.Runs.{after}
use Rattle.station_law.specs.State.{State, start as new_world}
use Rattle.script_world.specs.Events.{origin, struck_by, stored_under, by_refusal, entry_line}
use Rattle.script_world.specs.Events.{events_of, events_read}
use Rattle.script_world.specs.Script.{answers, events_from, world_behind}
use Rattle.connection_events.proofs.Lists.{begins_both}
use Rattle.connection_events.proofs.Staying.{Breaks}

-- ---- past lives

same_past : (o : Opening) (w : World) (entries : Option (List Entry)) → (restarted o w entries).past ≡ w.past
same_past o w None = refl
same_past o w (Some entries) = refl

nothing_more : (w v : World) → v.past ≡ w.past → Begins w.past v.past
nothing_more w v is = ([], is ∙ sym (append-nil w.past))

past_stays : (e : Event) (w : World) → Begins w.past (after_event w e).past
past_stays (offers entry) w = nothing_more w (after_event w (offers entry)) refl
past_stays begins_store w = nothing_more w (after_event w begins_store) refl
past_stays (ends_store good) w = nothing_more w (after_event w (ends_store good)) refl
past_stays (reopens finding) w = nothing_more w (after_event w (reopens finding)) refl
past_stays (calls call) w = nothing_more w (after_event w (calls call)) refl
past_stays (starts a) w = nothing_more w (after_event w (starts a)) refl
past_stays (makes_round place r) w = nothing_more w (after_event w (makes_round place r)) refl
past_stays (ends_start place) w = nothing_more w (after_event w (ends_start place)) refl
past_stays (sends good) w = nothing_more w (after_event w (sends good)) refl
past_stays (reads_clock moment) w = nothing_more w (after_event w (reads_clock moment)) refl
past_stays loses_power w = (option_to_list w.now, refl)
past_stays (restarts o finding) w =
    nothing_more w (after_event w (restarts o finding)) (same_past o w (found_by w.file finding))

past_lasts : (events : List Event) (w : World) → Begins w.past (after_events w events).past
past_lasts [] w = nothing_more w w refl
past_lasts (e ∷ events) w =
    let next = after_event w e in
    begins_both w.past next.past (after_events next events).past (past_stays e w)
    (past_lasts events next)

-- ---- a line that recovers

module _ (w : World) where
  -- the lives are past ones behind these events, where it recovers
  abbrev Ends : List Event → Bool → Type 0
  Ends events recovers = recovers ≡ true → Begins (lives w) (after_events w events).past

  never : (events : List Event) → Ends events false
  never events is = absurd (cc is)

  struck_ends : (o : Opening) (entry : Entry) (has : Bool)
      → Begins (lives w) (after_events w (struck_events o entry has)).past
  struck_ends o entry has =
      past_stays (restarts o (finding_of has))
      (after_events w (offers entry ∷ begins_store ∷ loses_power ∷ []))

  power_ends : (o : Opening) → Begins (lives w) (after_events w (power_events o)).past
  power_ends o = past_stays (restarts o without_batch) (in_the_dark w)

  module _ (state : State) where
    abbrev o : Opening
    o = origin state.doors.site

    by_strike : (entry : Entry) (there : List Entry) (has : Bool) (s : Strike)
        → Ends (struck_by o entry s has) (struck state.store entry there s).recovers
    by_strike entry there has (Stop pick) is = struck_ends o entry has
    by_strike entry there has Fail is = never (struck_by o entry Fail has) is

    by_hit : (entry : Entry) (order : Order) (hit : Bool)
        → Ends (if hit then struck_by o entry order.strike (leaves_entry order.strike order.calls)
        else store_events entry)
        (if hit then struck state.store entry (found order state.store.published entry) order.strike
        else stores (record state.store { order = behind_store order }) entry).recovers
    by_hit entry order true =
        by_strike entry (found order state.store.published entry)
        (leaves_entry order.strike order.calls) order.strike
    by_hit entry order false = never (store_events entry)

    under : (entry : Entry) (order : Option Order)
        → Ends (stored_under o entry order) (stores_under state.store entry order).recovers
    under entry None = never (store_events entry)
    under entry (Some order) = by_hit entry order (is_hit order)

    by_why : (entry : Entry) (why : Option Refusal)
        → Ends (by_refusal o entry state.store.order why)
        (entries.by_refusal state.store entry why).recovers
    by_why entry None = under entry state.store.order
    by_why entry (Some why) = never []

    by_valid : (entry : Entry) (valid : Bool)
        → Ends (if valid then entry_line o state.store entry else [])
        (if valid then offered state entry else is_wrong state).recovers
    by_valid entry true = by_why entry (refusal state.store entry)
    by_valid entry false = never []

    by_now : (k : ℕ) (s : Strike) (now : Bool)
        → Ends (if now then power_events o else [])
        (if now then fails_now state.store else orders state.store k s).recovers
    by_now k s true is = power_ends o
    by_now k s false is = never [] is

    by_none : (k : ℕ) (none : Bool)
        → Ends [] (if none then is_wrong state.store else orders state.store k Fail).recovers
    by_none k true = never []
    by_none k false = never []

    acts : (events : List Event) (a : Option Acted) → Ends events (connected state a).recovers
    acts events None = never events
    acts events (Some a) = never events

    turned : (events : List Event) (t : Option Turned) → Ends events (uplinked state t).recovers
    turned events None = never events
    turned events (Some t) = never events

    line_ends : (line : ScriptLine) → Ends (events_of state w line) (step state line).recovers
    line_ends Skip = never []
    line_ends (Offer entry) = by_valid (entry_of entry) (is_valid (entry_of entry))
    line_ends (Desk start stop quality) = never (events_of state w (Desk start stop quality))
    line_ends (Clock at) = never (events_of state w (Clock at))
    line_ends (Crash k pick) = by_now k (Stop (pick_of pick)) (k == 0)
    line_ends (Fault k) = by_none k (k == 0)
    line_ends (Take fail) =
        turned (events_of state w (Take fail)) (turn_at state (turns.Take fail))
    line_ends Done = turned (events_of state w Done) (turn_at state turns.Done)
    line_ends (Uplink production status) =
        turned (events_of state w (Uplink production status))
        (turn_at state (turns.Uplink production status))
    line_ends line = acts (events_of state w line) (act state.doors state.clock line)

    read_ends : (line : Option ScriptLine)
        → Ends (events_read state w line) (step_read state line).recovers
    read_ends None = never []
    read_ends (Some line) = line_ends line

-- ---- lines

get_front : {X : Type 0} → (xs ys : List X) (k : ℕ) (x : X) → Begins xs ys
    → slice_get xs k ≡ Some x → slice_get ys k ≡ Some x
get_front {X} xs ys k x begins at =
    ap (λ (zs : List X). slice_get zs k) begins.1 ∙ in_front xs k at
  where
    in_front : (xs : List X) (k : ℕ) → slice_get xs k ≡ Some x
        → slice_get (xs ++ begins.0) k ≡ Some x
    in_front [] k is = absurd (cc is)
    in_front (y ∷ xs) zero is = is
    in_front (y ∷ xs) (suc k) is = in_front xs k is

module _ {L : Type 0} (reads : L → Option ScriptLine) (site : Site) where
  abbrev behind : State → World → List L → World
  behind state w lines = after_events w (events_from reads state w lines)

  both_behind : (lines more : List L) (state : State) (w : World)
      → behind state w (lines ++ more)
      ≡ behind (after (answers reads) state lines) (behind state w lines) more
  both_behind [] more state w = refl
  both_behind (line ∷ lines) more state w =
      let events = events_read state w (reads line) in
      let next = (answers reads state line).next in
      let v = after_events w events in
      after_both w events (events_from reads next v (lines ++ more))
      ∙ both_behind lines more next v
      ∙ ap (λ (x : World). behind (after (answers reads) next lines) x more)
      (sym (after_both w events (events_from reads next v lines)))

  abbrev first : World
  first = after_events before_all (first_events (origin site))

  world_from : (lines : List L) → world_behind reads site lines ≡ behind (new_world site) first lines
  world_from lines =
      after_both before_all (first_events (origin site)) (events_from reads (new_world site) first lines)

  world_on : (lines more : List L)
      → world_behind reads site (lines ++ more)
      ≡ behind (after (answers reads) (new_world site) lines) (world_behind reads site lines) more
  world_on lines more =
      world_from (lines ++ more) ∙ both_behind lines more (new_world site) first
      ∙ ap (λ (x : World). behind (after (answers reads) (new_world site) lines) x more)
      (sym (world_from lines))

  life_on : (more : List L) (state : State) (w : World) → Breaks reads state more
      → (place : ℕ) (l : Life) → slice_get (lives w) place ≡ Some l
      → slice_get (lives (behind state w more)) place ≡ Some l
  life_on [] state w breaks place l at = at
  life_on (line ∷ more) state w breaks place l at =
      let events = events_read state w (reads line) in
      let next = (answers reads state line).next in
      let v = after_events w events in
      let rest = events_from reads next v more in
      let end = after_events v rest in
      let begins : Begins (lives w) end.past =
      begins_both (lives w) v.past end.past (read_ends w state (reads line) breaks)
      (past_lasts rest v) in
      ap (λ (x : World). slice_get (lives x) place) (after_both w events rest)
      ∙ get_front end.past (lives end) place l (option_to_list end.now, refl)
      (get_front (lives w) end.past place l begins at)

  -- a life behind some lines is that behind all, where those that follow begin with a recovery
  pub life_stays : (lines more : List L)
      → Breaks reads (after (answers reads) (new_world site) lines) more → (place : ℕ) (l : Life)
      → slice_get (lives (world_behind reads site lines)) place ≡ Some l
      → slice_get (lives (world_behind reads site (lines ++ more))) place ≡ Some l
  life_stays lines more breaks place l at =
      ap (λ (x : World). slice_get (lives x) place) (world_on lines more)
      ∙ life_on more (after (answers reads) (new_world site) lines) (world_behind reads site lines)
      breaks place l at
