-- Each line's events lead where the line does.
use Rattle.std.proofs.Common.{◌≡◌, ℕ, ◌≤◌, ◌<◌, ◌==◌, Bool, true, false, ◌&&◌, not, nat_lt, IsTrue}
use Rattle.std.proofs.Common.{if◌then◌else◌, Option, Some, None, List, [], ◌∷◌, ◌++◌, map, slice_get}
use Rattle.std.proofs.Common.{refl, sym, ap, subst, arith}
use Rattle.std.proofs.lemmas.Bool.Decides.{nat_tests}
use Rattle.cds_time.specs.declared.cds.Cds.{Cds}
use Rattle.archive_terms.specs.Archive.{Entry, IsArchive, is_valid, is_short, keeps_order}
use Rattle.archive_terms.specs.Archive.{may_follow}
use Rattle.disk_model.specs.declared.orders.Pick.{Pick}
use Rattle.record_form.specs.Entry.{entry_of}
use Rattle.sle_numbers.specs.RequestedFrameQuality.{number_of}
use Rattle.cltu_queue.specs.declared.taken.Taken.{Taken}
use Rattle.cltu_queue.specs.declared.taken.Taken.TheVariants.{Idle, Waits, Expired, Radiate}
use Rattle.station_book.specs.State.{Opening, take, took, done, interrupted, uplink}
use Rattle.station_book.specs.State as books
use Rattle.station_book.specs.History.{event_at, after}
use Rattle.station_uplink.specs.declared.aloft.Aloft.{Aloft}
use Rattle.station_uplink.specs.declared.turn.Turn.{Turn}
use Rattle.station_uplink.specs.declared.turn.Turn.TheVariants as turns
use Rattle.station_uplink.specs.Turns.{found as finds, taken_by, done_by}
use Rattle.station_uplink.specs.Turns.{events_of as turned_events}
use Rattle.station_book.specs.Origin.{opening_of}
use Rattle.station_world.specs.Life.{Start}
use Rattle.station_world.specs.World.{World, Event}
use Rattle.station_world.specs.Calls.{call_events}
use Rattle.drill_text.specs.declared.script_line.ScriptLine.{ScriptLine}
use Rattle.drill_text.specs.declared.script_line.ScriptLine.TheVariants.{Skip, Offer, Desk, Clock}
use Rattle.drill_text.specs.declared.script_line.ScriptLine.TheVariants.{Crash, Fault, Open, Take}
use Rattle.drill_text.specs.declared.script_line.ScriptLine.TheVariants.{Done, Uplink}
use Rattle.session_events.specs.Rounds.{RoundsMayCome}
use Rattle.station_links.specs.declared.link_line.LinkLine.{LinkLine}
use Rattle.station_links.specs.Connected.{Connected}
use Rattle.station_desk.specs.declared.limits.TheConstants.{BUFFER_ITEMS}
use Rattle.station_desk.specs.Start.{moment}
use Rattle.line_events.specs.Shows.{View, Shows}
use Rattle.line_events.specs.Forms.{LeadTo, LinesAreEvents, power_events, start_events}
use Rattle.line_events.specs.Forms.{store_events}
use Rattle.script_store.specs.declared.order.Order.{Order}
use Rattle.script_store.specs.declared.order.Strike.{Strike}
use Rattle.script_store.specs.declared.order.Strike.TheVariants.{Stop, Fail}
use Rattle.script_store.specs.declared.refusal.Refusal.{Refusal}
use Rattle.script_store.specs.declared.refusal.Refusal.TheVariants as refusals
use Rattle.script_store.specs.Store.{Store}
use Rattle.script_store.specs.Orders.{is_hit, behind_store, leaves_entry, found, pick_of}
use Rattle.script_store.specs.Entries.{need, free, struck, stores, stores_under}
use Rattle.script_store.specs.Entries as entries
use Rattle.script_store.specs.Power.{fails_now, orders}
use Rattle.station_law.specs.Desk.{desk, said_at_start, handed_at_start}
use Rattle.script_store.specs.Said.{Handed, handed_by, linked, told, refused}
use Rattle.script_store.specs.Answer.{Answer, says, is_wrong}
use Rattle.station_law.specs.Doors.{Act, act_of, acted_by, acted_on, acted, opens, act}
use Rattle.station_law.specs.Doors.{ordered, rounds_of}
use Rattle.station_law.specs.State.{State}
use Rattle.station_law.specs.Lines.{recorded, offered, connected, uplinked, turn_at}
use Rattle.station_law.specs.Lines.{step, step_read}
use Rattle.script_world.specs.Events.{struck_by, stored_under, by_refusal, entry_line, asked}
use Rattle.script_world.specs.Events.{acted_events, act_events, rounds_events}
use Rattle.script_world.specs.Events.{take_events, turn_events, events_of, events_read}
use Rattle.script_world.specs.Users.{users_acted, users_act, users_behind}
use Rattle.script_world.specs.Script.{view_of}
use Rattle.script_world.proofs.Rounds.{rounds_lead}

-- a START that isn't refused is the last one
abbrev pub HandsOver : Type 0
HandsOver =
    (store : Store) (first last : Cds) (quality : ℕ) (starts : List Handed)
    → moment first ≤ moment last
    → handed_by starts (desk store first last quality).said
    ≡ handed_at_start store.published first last quality ∷ starts

both : (a b : Bool) → a ≡ true → b ≡ true → (a && b) ≡ true
both true b h k = k
both false b h k = h

in_order : (a b : ℕ) → nat_lt b a ≡ false → a ≤ b
in_order a b is = grind (arith, nat_tests, is)

-- what a connection says hands nothing over
none_handed : (c : ℕ) (lines : List LinkLine) (starts : List Handed)
    → handed_by starts (map (linked c) lines) ≡ starts
none_handed c [] starts = refl
none_handed c (line ∷ lines) starts = none_handed c lines starts

module _ (law : LinesAreEvents) (may : RoundsMayCome) (hands : HandsOver) (state : State)
    (starts : List Handed) (users : List Start) (w : World)
    (shows : Shows (view_of state starts users) w) (archive : IsArchive state.store.published) where
  -- at a station whose book is opened so
  abbrev o : Opening
  o = opening_of state.doors.site [] 0

  -- the events lead where the answer does, with these STARTs of users, unless it recovers
  abbrev LeadsWith : List Start → List Event → Answer State → Type 0
  LeadsWith left events a =
      LeadTo w events
      (view_of a.next (handed_by starts a.said) (if a.recovers then [] else left))

  abbrev Leads : List Event → Answer State → Type 0
  Leads events a = LeadsWith users events a

  abbrev here : View
  here = view_of state starts users

  -- a line that changes nothing of what the world shows
  stays : LeadTo w [] here
  stays = (tt, shows)

  -- ---- entries

  module _ (entry : Entry) (follows : may_follow state.store.published entry ≡ true) where
    by_strike : (s : Strike) (has : Bool)
        → Leads (struck_by o entry s has) (recorded state (struck state.store entry
        (if has then state.store.published ++ entry ∷ [] else state.store.published) s))
    by_strike (Stop pick) has = law.struck o here w entry has shows follows
    by_strike Fail has = law.fails here w entry has shows archive follows

    by_hit : (order : Order) (hit : Bool)
        → Leads (if hit then struck_by o entry order.strike (leaves_entry order.strike order.calls)
        else store_events entry)
        (recorded state (if hit
        then struck state.store entry (found order state.store.published entry) order.strike
        else stores (record state.store { order = behind_store order }) entry))
    by_hit order true = by_strike order.strike (leaves_entry order.strike order.calls)
    by_hit order false = law.stores here w entry shows archive follows

    under : (order : Option Order)
        → Leads (stored_under o entry order) (recorded state (stores_under state.store entry order))
    under None = law.stores here w entry shows archive follows
    under (Some order) = by_hit order (is_hit order)

  refused_entry : (entry : Entry) (why : Refusal)
      → Leads [] (recorded state (entries.by_refusal state.store entry (Some why)))
  refused_entry entry why = stays

  -- by the tests of its refusal
  by_tests : (entry : Entry) → IsTrue (is_valid entry) → (ordered short over : Bool)
      → keeps_order state.store.published entry ≡ ordered → is_short entry ≡ short →
      let why = if not ordered then Some refusals.Backward
      else if not short then Some refusals.TooLong
      else if over then Some (refusals.Full (need entry) (free state.store))
      else None in
      Leads (by_refusal o entry state.store.order why)
      (recorded state (entries.by_refusal state.store entry why))
  by_tests entry valid false short over ordered_is short_is = refused_entry entry refusals.Backward
  by_tests entry valid true false over ordered_is short_is = refused_entry entry refusals.TooLong
  by_tests entry valid true true true ordered_is short_is =
      refused_entry entry (refusals.Full (need entry) (free state.store))
  by_tests entry valid true true false ordered_is short_is =
      under entry (both (is_valid entry && is_short entry) _
      (both (is_valid entry) _ valid short_is) ordered_is) state.store.order

  by_valid : (entry : Entry) (valid : Bool) → is_valid entry ≡ valid
      → Leads (if valid then entry_line o state.store entry else [])
      (if valid then offered state entry else is_wrong state)
  by_valid entry true valid = by_tests entry valid (keeps_order state.store.published entry)
      (is_short entry) _ refl refl
  by_valid entry false valid = stays

  -- ---- STARTs

  by_times : (start stop : Cds) (quality : ℕ) (back : Bool)
      → nat_lt (moment stop) (moment start) ≡ back
      → Leads (if back then []
      else start_events (asked start stop quality) w state.store.published state.clock)
      (recorded state (says (if back then told refused ∷ []
      else said_at_start state.store.published start stop quality) state.store))
  by_times start stop quality true is = stays
  by_times start stop quality false is =
      let some : 0 < BUFFER_ITEMS = omega arith in
      let taken : handed_by starts (said_at_start state.store.published start stop quality)
      ≡ handed_at_start state.store.published start stop quality ∷ starts =
      subst (λ (back : Bool). handed_by starts (if back then told refused ∷ []
      else said_at_start state.store.published start stop quality)
      ≡ handed_at_start state.store.published start stop quality ∷ starts) is
      (hands state.store start stop quality starts (in_order (moment start) (moment stop) is)) in
      subst (λ (all : List Handed). LeadTo w
      (start_events (asked start stop quality) w state.store.published state.clock)
      (view_of state all users)) (sym taken)
      (law.desk here w (asked start stop quality) shows refl some refl)

  -- ---- the power and the disk

  by_now : (k : ℕ) (pick : Pick) (now : Bool)
      → Leads (if now then power_events o else [])
      (recorded state (if now then fails_now state.store else orders state.store k (Stop pick)))
  by_now k pick true = law.power o here w shows
  by_now k pick false = stays

  by_none : (k : ℕ) (none : Bool)
      → Leads [] (recorded state (if none then is_wrong state.store else orders state.store k Fail))
  by_none k true = stays
  by_none k false = stays

  -- ---- connections

  opens_on : (c : ℕ) (at : Option (Option Connected))
      → Leads [] (connected state (opens state.doors state.clock c at))
  opens_on c None = stays
  opens_on c (Some None) = stays
  opens_on c (Some (Some l)) = stays

  acts_on : (a : Act) (at : Option (Option Connected))
      → LeadsWith (users_acted state a at users) (acted_events state w a at)
      (connected state (acted_on state.doors state.clock a at))
  acts_on a None = stays
  acts_on a (Some None) = stays
  acts_on a (Some (Some l)) =
      let there : Option Connected = Some (ordered a.order l) in
      let ran = rounds_of state.doors.site a.c state.clock a.rounds state.doors.book there in
      let answer = connected state (Some (acted_by state.doors a.c ran)) in
      subst (λ (all : List Handed). LeadTo w
      (rounds_events state.doors.site a.c state.clock w a.rounds state.doors.book there)
      (view_of answer.next all (users_acted state a (Some (Some l)) users)))
      (sym (none_handed a.c ran.said starts))
      (rounds_lead law may state.doors.site a.c state.clock here a.rounds w state.doors.book there
      users shows)

  acts : (a : Option Act)
      → LeadsWith (users_act state a users) (act_events state w a)
      (connected state (acted state.doors state.clock a))
  acts None = stays
  acts (Some a) = acts_on a (slice_get state.doors.connections a.c)

  at_doors : (line : ScriptLine)
      → LeadsWith (users_act state (act_of line) users) (act_events state w (act_of line))
      (connected state (act state.doors state.clock line))
  at_doors (Open c) = opens_on c (slice_get state.doors.connections c)
  at_doors line = acts (act_of line)

  -- ---- turns of the uplink

  abbrev b : books.State
  b = state.doors.book

  by_send : (fail : Bool) (run id : ℕ) (octets : List ℕ) → finds b state.clock ≡ Radiate run id octets
      → Leads (take_events b state.clock fail (Radiate run id octets))
      (uplinked state (Some (taken_by b state.clock fail state.uplink (Radiate run id octets))))
  by_send false run id octets is =
      law.radiates here w state.clock run id octets true [] shows
      (ap took is) refl
  by_send true run id octets is =
      law.radiates here w state.clock run id octets false
      (event_at (after b (take state.clock)) (interrupted run id state.clock) ∷ []) shows
      (ap took is) refl

  by_found : (fail : Bool) (taken : Taken) → finds b state.clock ≡ taken
      → Leads (take_events b state.clock fail taken)
      (uplinked state (Some (taken_by b state.clock fail state.uplink taken)))
  by_found fail Idle is = law.book here w
      (event_at b (take state.clock) ∷ []) shows refl
  by_found fail (Waits until) is = law.book here w
      (event_at b (take state.clock) ∷ []) shows refl
  by_found fail (Expired id) is = law.book here w
      (event_at b (take state.clock) ∷ []) shows refl
  by_found fail (Radiate run id octets) is = by_send fail run id octets is

  by_air : (air : Option Aloft)
      → Leads (call_events (turned_events (done_by b state.clock state.uplink air)))
      (uplinked state (done_by b state.clock state.uplink air))
  by_air None = stays
  by_air (Some a) = law.book here w
      (event_at b (done a.run a.id state.clock) ∷ []) shows refl

  turn_leads : (turn : Turn) → Leads (turn_events state turn) (uplinked state (turn_at state turn))
  turn_leads (turns.Take fail) = by_found fail (finds b state.clock) refl
  turn_leads turns.Done = by_air state.uplink.in_air
  turn_leads (turns.Uplink production status) = law.book here w
      (event_at b (uplink production status state.clock) ∷ []) shows refl

  pub line_leads : (line : ScriptLine)
      → LeadsWith (users_act state (act_of line) users) (events_of state w line)
      (step state line)
  line_leads Skip = stays
  line_leads (Offer entry) = by_valid (entry_of entry) (is_valid (entry_of entry)) refl
  line_leads (Desk start stop quality) =
      by_times start stop (number_of quality) (nat_lt (moment stop) (moment start)) refl
  line_leads (Clock at) = law.clock here w (moment at) shows
  line_leads (Crash k pick) = by_now k (pick_of pick) (k == 0)
  line_leads (Fault k) = by_none k (k == 0)
  line_leads (Take fail) = turn_leads (turns.Take fail)
  line_leads Done = turn_leads turns.Done
  line_leads (Uplink production status) = turn_leads (turns.Uplink production status)
  line_leads line = at_doors line

  pub read_leads : (line : Option ScriptLine)
      → LeadTo w (events_read state w line)
      (view_of (step_read state line).next (handed_by starts (step_read state line).said)
      (users_behind state line users))
  read_leads None = stays
  read_leads (Some line) = line_leads line
