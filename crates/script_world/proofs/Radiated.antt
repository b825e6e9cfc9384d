-- What lines tell as radiated is what the antenna was sent.
use Rattle.std.proofs.Common.{◌≡◌, ℕ, Bool, true, false, if◌then◌else◌, Option, Some, None, List, []}
use Rattle.std.proofs.Common.{◌∷◌, ◌++◌, map, refl, sym, ap, ◌∙◌, append_assoc, append-nil, arith}
use Rattle.archive_terms.specs.Archive.{Entry, is_valid}
use Rattle.cds_time.specs.declared.cds.Cds.{Cds}
use Rattle.cltu_queue.specs.declared.taken.Taken.{Taken}
use Rattle.cltu_queue.specs.declared.taken.Taken.TheVariants.{Idle, Waits, Expired, Radiate}
use Rattle.disk_model.specs.declared.orders.Pick.{Pick}
use Rattle.record_form.specs.Entry.{entry_of}
use Rattle.sle_numbers.specs.RequestedFrameQuality.{number_of}
use Rattle.drill_text.specs.declared.script_line.ScriptLine.{ScriptLine}
use Rattle.drill_text.specs.declared.script_line.ScriptLine.TheVariants.{Skip, Offer, Desk, Clock}
use Rattle.drill_text.specs.declared.script_line.ScriptLine.TheVariants.{Crash, Fault}
use Rattle.station_links.specs.declared.link_line.LinkLine.{LinkLine}
use Rattle.station_desk.specs.Start.{told_desk}
use Rattle.station_desk.specs.ToldBuffer.{ToldBuffer}
use Rattle.station_uplink.specs.declared.aloft.Aloft.{Aloft}
use Rattle.station_uplink.specs.declared.turn.Turn.{Turn}
use Rattle.station_uplink.specs.declared.turn.Turn.TheVariants as turns
use Rattle.station_uplink.specs.Turns.{Uplink, turn_of, found, taken_by, done_by}
use Rattle.script_store.specs.Store.{Store}
use Rattle.station_law.specs.State.{State}
use Rattle.script_store.specs.Answer.{Answer, is_wrong}
use Rattle.script_store.specs.Said.{linked, handed, radiated_by}
use Rattle.station_law.specs.Doors.{Acted, act}
use Rattle.script_store.specs.Entries.{offer}
use Rattle.station_law.specs.Desk.{desk}
use Rattle.script_store.specs.Orders.{pick_of}
use Rattle.script_store.specs.Power.{crash_line, fault_line}
use Rattle.station_law.specs.Lines.{recorded, offered, uplink_behind, connected, uplinked, turn_at}
use Rattle.station_law.specs.Lines.{turned_or_acted, step, step_read}
use Rattle.station_law.specs.Runs.{after}
use Rattle.script_world.specs.Script.{answers, radiated_from}

-- ---- what no line but a turn of the uplink tells

of_linked : (c : ℕ) (lines : List LinkLine) → radiated_by (map (linked c) lines) ≡ []
of_linked c [] = refl
of_linked c (line ∷ lines) = of_linked c lines

of_handed : (buffers : List ToldBuffer) → radiated_by (map (handed 0) buffers) ≡ []
of_handed [] = refl
of_handed (buffer ∷ buffers) = of_handed buffers

of_offer : (store : Store) (entry : Entry) → radiated_by (offer store entry).said ≡ []
of_offer store entry = grind arith

of_desk : (store : Store) (start stop : Cds) (quality : ℕ)
    → radiated_by (desk store start stop quality).said ≡ []
of_desk store start stop quality =
    let none = of_handed (told_desk store.published start stop quality) in grind (arith, none)

of_crash : (store : Store) (k : ℕ) (pick : Pick) → radiated_by (crash_line store k pick).said ≡ []
of_crash store k pick = grind arith

of_fault : (store : Store) (k : ℕ) → radiated_by (fault_line store k).said ≡ []
of_fault store k = grind arith

behind_same : (recovers : Bool) (u : Uplink) → (uplink_behind recovers u).sent ≡ u.sent
behind_same true u = refl
behind_same false u = refl

-- ---- lines

module _ (state : State) where
  -- the antenna was sent what a line tells as radiated, and nothing else
  abbrev Grows : Answer State → Type 0
  Grows a = a.next.uplink.sent ≡ state.uplink.sent ++ radiated_by a.said

  -- a line that tells none, and sends none
  still : (a : Answer State) → a.next.uplink.sent ≡ state.uplink.sent → radiated_by a.said ≡ []
      → Grows a
  still a same none =
      same ∙ sym (append-nil state.uplink.sent)
      ∙ ap (λ (told : List (List ℕ)). state.uplink.sent ++ told) (sym none)

  stored : (a : Answer Store) → radiated_by a.said ≡ [] → Grows (recorded state a)
  stored a none = still (recorded state a) (behind_same a.recovers state.uplink) none

  wrong : Grows (is_wrong state)
  wrong = still (is_wrong state) refl refl

  by_valid : (entry : Entry) (valid : Bool)
      → Grows (if valid then offered state entry else is_wrong state)
  by_valid entry true = stored (offer state.store entry) (of_offer state.store entry)
  by_valid entry false = wrong

  by_act : (a : Option Acted) → Grows (connected state a)
  by_act None = wrong
  by_act (Some a) = still (connected state (Some a)) refl (of_linked a.c a.said)

  by_send : (fail : Bool) (run id : ℕ) (octets : List ℕ)
      → Grows (uplinked state (Some (taken_by state.doors.book state.clock fail state.uplink
      (Radiate run id octets))))
  by_send false run id octets = refl
  by_send true run id octets = sym (append-nil state.uplink.sent)

  by_found : (fail : Bool) (taken : Taken)
      → Grows (uplinked state (Some (taken_by state.doors.book state.clock fail state.uplink taken)))
  by_found fail Idle = sym (append-nil state.uplink.sent)
  by_found fail (Waits until) = sym (append-nil state.uplink.sent)
  by_found fail (Expired id) = sym (append-nil state.uplink.sent)
  by_found fail (Radiate run id octets) = by_send fail run id octets

  by_air : (air : Option Aloft)
      → Grows (uplinked state (done_by state.doors.book state.clock state.uplink air))
  by_air None = wrong
  by_air (Some a) = sym (append-nil state.uplink.sent)

  turn_grows : (turn : Turn) → Grows (uplinked state (turn_at state turn))
  turn_grows (turns.Take fail) = by_found fail (found state.doors.book state.clock)
  turn_grows turns.Done = by_air state.uplink.in_air
  turn_grows (turns.Uplink production status) = sym (append-nil state.uplink.sent)

  by_turn : (line : ScriptLine) (turn : Option Turn) → Grows (turned_or_acted state line turn)
  by_turn line None = by_act (act state.doors state.clock line)
  by_turn line (Some turn) = turn_grows turn

  line_grows : (line : ScriptLine) → Grows (step state line)
  line_grows Skip = sym (append-nil state.uplink.sent)
  line_grows (Offer entry) = by_valid (entry_of entry) (is_valid (entry_of entry))
  line_grows (Desk start stop quality) = stored (desk state.store start stop (number_of quality))
      (of_desk state.store start stop (number_of quality))
  line_grows (Clock at) = sym (append-nil state.uplink.sent)
  line_grows (Crash k pick) = stored (crash_line state.store k (pick_of pick))
      (of_crash state.store k (pick_of pick))
  line_grows (Fault k) = stored (fault_line state.store k) (of_fault state.store k)
  line_grows line = by_turn line (turn_of line)

  read_grows : (line : Option ScriptLine) → Grows (step_read state line)
  read_grows None = wrong
  read_grows (Some line) = line_grows line

-- so it is over lines
module _ {L : Type 0} (reads : L → Option ScriptLine) where
  pub sent_behind : (lines : List L) (state : State)
      → (after (answers reads) state lines).uplink.sent
      ≡ state.uplink.sent ++ radiated_from reads state lines
  sent_behind [] state = sym (append-nil state.uplink.sent)
  sent_behind (line ∷ lines) state =
      let next : State = (answers reads state line).next in
      let told : List (List ℕ) = radiated_by (answers reads state line).said in
      sent_behind lines next
      ∙ ap (λ (sent : List (List ℕ)). sent ++ radiated_from reads next lines)
      (read_grows state (reads line))
      ∙ append_assoc state.uplink.sent told (radiated_from reads next lines)
