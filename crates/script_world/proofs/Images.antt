-- Each image that a line's disk may have stands for one of the lists of the world's file.
use Rattle.std.proofs.Common.{◌≡◌, ℕ, ◌==◌, Bool, true, false, if◌then◌else◌, Option}
use Rattle.std.proofs.Common.{Some, None, List, [], ◌∷◌, ◌++◌, take, refl, sym, ap, subst, ◌∙◌}
use Rattle.std.proofs.Common.{append-nil, inl, inr}
use Rattle.archive_terms.specs.Archive.{Entry, is_valid}
use Rattle.disk_model.specs.declared.orders.Pick.{Pick}
use Rattle.record_form.specs.Entry.{entry_of}
use Rattle.gate_journal.specs.File.{StandsFor}
use Rattle.gate_journal.specs.JournalState.{IsOldOrNew}
use Rattle.station_book.specs.State.{Opening}
use Rattle.station_world.specs.File.{acknowledged, in_store}
use Rattle.station_world.specs.Life.{Start}
use Rattle.station_world.specs.World.{World, Event, offers, begins_store, after_events}
use Rattle.station_world.specs.Archives.{StandsForOne}
use Rattle.station_uplink.specs.declared.turn.Turn.{Turn}
use Rattle.station_uplink.specs.Turns.{Turned, turn_of}
use Rattle.drill_text.specs.declared.script_line.ScriptLine.{ScriptLine}
use Rattle.drill_text.specs.declared.script_line.ScriptLine.TheVariants.{Skip, Offer, Desk, Clock}
use Rattle.drill_text.specs.declared.script_line.ScriptLine.TheVariants.{Crash, Fault}
use Rattle.line_events.specs.Shows.{Shows}
use Rattle.line_events.specs.Forms.{store_events}
use Rattle.script_store.specs.declared.order.Order.{Order}
use Rattle.script_store.specs.declared.order.Strike.{Strike}
use Rattle.script_store.specs.declared.order.Strike.TheVariants.{Stop, Fail}
use Rattle.script_store.specs.declared.refusal.Refusal.{Refusal}
use Rattle.script_store.specs.Orders.{is_hit, behind_store, leaves_entry, found, pick_of}
use Rattle.script_store.specs.Entries.{struck, stores, stores_under}
use Rattle.script_store.specs.Entries as entries
use Rattle.script_store.specs.Power.{fails_now, orders}
use Rattle.script_store.specs.Said.{Handed}
use Rattle.script_store.specs.Answer.{is_wrong}
use Rattle.station_law.specs.Doors.{Acted, act}
use Rattle.station_law.specs.State.{State}
use Rattle.station_law.specs.Lines.{offered, connected, uplinked, turn_at, turned_or_acted, step}
use Rattle.script_world.specs.Events.{origin, struck_by, stored_under, by_refusal, entry_line}
use Rattle.script_world.specs.Events.{events_of}
use Rattle.script_world.specs.Script.{view_of, StandsBehind}

module _ (state : State) (starts : List Handed) (users : List Start) (w : World)
    (shows : Shows (view_of state starts users) w) (image : List ℕ) where
  abbrev o : Opening
  o = origin state.doors.site

  abbrev published : List Entry
  published = state.store.published

  -- an image is what a line that gives these entries to stores may have
  abbrev May : List Entry → Type 0
  May given = IsOldOrNew published given image

  is_acknowledged : acknowledged w.file ≡ published
  is_acknowledged =
      ap (λ (x : World). acknowledged x.file) shows.is ∙ shows.acknowledges

  -- a line that gives nothing to a store
  nothing : (events : List Event) → May [] → StandsBehind w events image
  nothing events may = record {
    count = 0;
    stands = record {
      entries = acknowledged w.file;
      one = inl refl;
      stands = subst (λ (xs : List Entry). StandsFor xs image) (sym is_acknowledged) (same may);
    };
  }
    where
      same : May [] → StandsFor published image
      same (inl old) = old
      same (inr new) = subst (λ (xs : List Entry). StandsFor xs image) (append-nil published) new

  -- behind the begin of an entry's store
  in_its_store : (entry : Entry) (events : List Event) → May (entry ∷ [])
      → take 2 events ≡ offers entry ∷ begins_store ∷ [] → StandsBehind w events image
  in_its_store entry events may is = record {
    count = 2;
    stands = subst (λ (es : List Event). StandsForOne (after_events w es).file image) (sym is)
        (subst (λ (x : World). StandsForOne
        (after_events x (offers entry ∷ begins_store ∷ [])).file image) (sym shows.is)
        (either may));
  }
    where
      a : List Entry
      a = shows.found ++ shows.kept

      either : May (entry ∷ [])
          → StandsForOne (record {
            found = shows.found;
            kept = shows.kept;
            waiting = [] ++ entry ∷ [];
            phase = in_store ([] ++ entry ∷ []);
          }) image
      either (inl old) = record {
        entries = a;
        one = inl refl;
        stands = subst (λ (xs : List Entry). StandsFor xs image) (sym shows.acknowledges) old;
      }
      either (inr new) = record {
        entries = a ++ entry ∷ [];
        one = inr refl;
        stands = subst (λ (xs : List Entry). StandsFor (xs ++ entry ∷ []) image)
            (sym shows.acknowledges) new;
      }

  -- ---- an entry's line

  by_strike : (entry : Entry) (s : Strike) (has : Bool) (there : List Entry)
      → May (struck state.store entry there s).given
      → StandsBehind w (struck_by o entry s has) image
  by_strike entry (Stop pick) has there may = in_its_store entry _ may refl
  by_strike entry Fail has there may = in_its_store entry _ may refl

  by_hit : (entry : Entry) (order : Order) (hit : Bool)
      → May (if hit then struck state.store entry (found order published entry) order.strike
      else stores (record state.store { order = behind_store order }) entry).given
      → StandsBehind w (if hit
      then struck_by o entry order.strike (leaves_entry order.strike order.calls)
      else store_events entry) image
  by_hit entry order true may = by_strike entry order.strike _ (found order published entry) may
  by_hit entry order false may = in_its_store entry _ may refl

  under : (entry : Entry) (order : Option Order) → May (stores_under state.store entry order).given
      → StandsBehind w (stored_under o entry order) image
  under entry None may = in_its_store entry _ may refl
  under entry (Some order) may = by_hit entry order (is_hit order) may

  by_why : (entry : Entry) (why : Option Refusal)
      → May (entries.by_refusal state.store entry why).given
      → StandsBehind w (by_refusal o entry state.store.order why) image
  by_why entry None may = under entry state.store.order may
  by_why entry (Some why) may = nothing [] may

  by_valid : (entry : Entry) (valid : Bool)
      → May (if valid then offered state entry else is_wrong state).given
      → StandsBehind w (if valid then entry_line o state.store entry else []) image
  by_valid entry true may = by_why entry (entries.refusal state.store entry) may
  by_valid entry false may = nothing [] may

  -- ---- other lines

  by_now : (k : ℕ) (pick : Pick) (now : Bool) (events : List Event)
      → May (if now then fails_now state.store else orders state.store k (Stop pick)).given
      → StandsBehind w events image
  by_now k pick true events may = nothing events may
  by_now k pick false events may = nothing events may

  by_none : (k : ℕ) (none : Bool) (events : List Event)
      → May (if none then is_wrong state.store else orders state.store k Fail).given
      → StandsBehind w events image
  by_none k true events may = nothing events may
  by_none k false events may = nothing events may

  by_act : (a : Option Acted) (events : List Event) → May (connected state a).given
      → StandsBehind w events image
  by_act None events may = nothing events may
  by_act (Some a) events may = nothing events may

  by_done : (t : Option Turned) (events : List Event) → May (uplinked state t).given
      → StandsBehind w events image
  by_done None events may = nothing events may
  by_done (Some t) events may = nothing events may

  by_turn : (line : ScriptLine) (turn : Option Turn) (events : List Event)
      → May (turned_or_acted state line turn).given → StandsBehind w events image
  by_turn line None events may = by_act (act state.doors state.clock line) events may
  by_turn line (Some turn) events may = by_done (turn_at state turn) events may

  pub of_the_file : (line : ScriptLine) → May (step state line).given
      → StandsBehind w (events_of state w line) image
  of_the_file Skip may = nothing [] may
  of_the_file (Offer entry) may = by_valid (entry_of entry) (is_valid (entry_of entry)) may
  of_the_file (Desk start stop quality) may = nothing _ may
  of_the_file (Clock at) may = nothing _ may
  of_the_file (Crash k pick) may = by_now k (pick_of pick) (k == 0) _ may
  of_the_file (Fault k) may = by_none k (k == 0) _ may
  of_the_file line may = by_turn line (turn_of line) _ may
