-- What the doors become by what became of an entry.
use Rattle.std.proofs.Common.{◌≡◌, ℕ, refl, ◌∙◌, arith}
use Rattle.cds_time.specs.declared.cds.Cds.{Cds}
use Rattle.archive_terms.specs.Archive.{Entry}
use Rattle.disk_model.specs.declared.orders.Pick as disks
use Rattle.record_form.specs.Entry.{entry_of}
use Rattle.record_form.specs.declared.entry.Entry as form
use Rattle.drill_text.specs.declared.pick.Pick.{Pick}
use Rattle.drill_text.specs.declared.script_line.ScriptLine.{ScriptLine}
use Rattle.drill_text.specs.declared.script_line.ScriptLine.TheVariants.{Skip, Offer, Desk, Clock}
use Rattle.drill_text.specs.declared.script_line.ScriptLine.TheVariants.{Crash, Fault}
use Rattle.drill_text.specs.Reading.{HasValidEntry}
use Rattle.station_uplink.specs.Standing.{IsUplink}
use Rattle.station_uplink.specs.Standing as uplinks
use Rattle.station_uplink.specs.Turns.{Uplink, silent, turn_of}
use Rattle.sle_numbers.specs.declared.requested_frame_quality.RequestedFrameQuality.{RequestedFrameQuality}
use Rattle.script_store.specs.declared.outcome.Outcome.{Outcome}
use Rattle.script_store.specs.declared.outcome.Outcome.TheVariants.{Stored, Refused, Crashed}
use Rattle.script_store.specs.declared.outcome.Outcome.TheVariants.{Failed}
use Rattle.script_store.specs.Store.{Store, Recorded}
use Rattle.station_law.specs.Doors.{Doors}
use Rattle.station_law.specs.State.{State}
use Rattle.script_store.specs.Orders.{pick_of}
use Rattle.script_store.specs.Power.{crash_line}
use Rattle.script_store.specs.Outcomes.{said_of, done_of}
use Rattle.script_store.specs.Entries.{offer}
use Rattle.station_law.specs.Standing.{DoorsSeen, AreDoors, Seen, uplink_seen}
use Rattle.script_store.specs.Stopped.{IsDone}
use Rattle.station_law.specs.Does.{IsTaken}
use Rattle.station_law.specs.Lines.{doors_by, doors_behind, uplink_by, uplink_behind, recorded}
use Rattle.station_law.specs.Lines.{offered, turned_or_acted, step}

-- the doors follow an outcome that says what an entry's line does
same_doors : (store : Store) (entry : Entry) (d : Doors) (outcome : Outcome)
    → said_of outcome ≡ (offer store entry).said
    → doors_by outcome entry (offer store entry).next.published d
    ≡ doors_behind (offer store entry).recovers d (offer store entry).given
    (offer store entry).next.published
same_doors store entry d outcome is = grind arith

pub followed : (store : Store) (entry : Entry) (seen : DoorsSeen) (d : Doors) (outcome : Outcome)
    → said_of outcome ≡ (offer store entry).said
    → AreDoors seen (doors_by outcome entry (offer store entry).next.published d)
    → AreDoors seen (offered (record {
      store = store;
      clock = 0;
      doors = d;
      uplink = silent;
    }) entry).next.doors
followed store entry seen d outcome is are = rw (same_doors store entry d outcome is) at are

-- so does the uplink
same_uplink : (store : Store) (entry : Entry) (u : Uplink) (outcome : Outcome)
    → said_of outcome ≡ (offer store entry).said
    → uplink_by outcome u ≡ uplink_behind (offer store entry).recovers u
same_uplink store entry u outcome is = grind arith

seen_so : (outcome : Outcome) (seen : uplinks.Seen) (u : Uplink) → IsUplink seen u
    → IsUplink (uplink_seen outcome seen) (uplink_by outcome u)
seen_so Stored seen u is = is
seen_so (Refused why) seen u is = is
seen_so (Failed count) seen u is = is
seen_so (Crashed count) seen u is = record { told = is.told; in_air = refl }

uplink_followed : (store : Store) (entry : Entry) (seen : uplinks.Seen) (u : Uplink)
    (outcome : Outcome) → said_of outcome ≡ (offer store entry).said → IsUplink seen u
    → IsUplink (uplink_seen outcome seen) (uplink_behind (offer store entry).recovers u)
uplink_followed store entry seen u outcome is stands =
    rw (same_uplink store entry u outcome is) at (seen_so outcome seen u stands)

-- an entry's line was done, all but its text
pub offer_taken : (entry : Entry) (outcome : Outcome) (seen new : Seen) (recorder : Recorded)
    → said_of outcome ≡ (offer seen.recorder.state entry).said
    → done_of outcome ≡ (offer seen.recorder.state entry).done
    → IsDone (offer seen.recorder.state entry) recorder
    → ((d : Doors) → AreDoors seen.doors d
    → AreDoors new.doors (doors_by outcome entry recorder.state.published d))
    → new.recorder ≡ recorder → new.clock ≡ seen.clock
    → new.uplink ≡ uplink_seen outcome seen.uplink
    → IsTaken (λ state. offered state entry) seen new (said_of outcome) (done_of outcome)
offer_taken entry outcome seen new recorder said done is_done follows same clock up = record {
  says = λ state stands. rw (← stands.store) said;
  ends = λ state stands. rw (← stands.store) done;
  next = λ state stands.
      let done_so : IsDone (offer state.store entry) recorder = rw stands.store at is_done in
      record {
        stands = record {
          store = rw (same, done_so.state) refl;
          clock = clock ∙ stands.clock;
          doors = followed state.store entry new.doors state.doors outcome
              (rw (← stands.store) said) (rw done_so.state at (follows state.doors stands.doors));
          uplink = rw up (uplink_followed state.store entry seen.uplink state.uplink outcome
              (rw (← stands.store) said) stands.uplink);
        };
        ready = rw same done_so.ready;
      };
}

-- ---- lines that aren't of the store

pub other_line : (state : State) (line : ScriptLine) → (line ≡ Skip → ⊥)
    → ((entry : form.Entry) → line ≡ Offer entry → ⊥)
    → ((start stop : Cds) (quality : RequestedFrameQuality)
    → line ≡ Desk start stop quality → ⊥)
    → ((at : Cds) → line ≡ Clock at → ⊥)
    → ((k : ℕ) (pick : Pick) → line ≡ Crash k pick → ⊥) → ((k : ℕ) → line ≡ Fault k → ⊥)
    → turned_or_acted state line (turn_of line) ≡ step state line
other_line state line s o d c k f = grind (arith, s, o, d, c, k, f)

-- ---- the lines of an entry and of a power failure

pub offer_line_is : (state : State) (line : ScriptLine) (entry : form.Entry) → line ≡ Offer entry
    → HasValidEntry line → offered state (entry_of entry) ≡ step state line
offer_line_is state line entry is valid = let holds = rw is at valid in rw (is, holds) refl

pub crash_line_is : (state : State) (line : ScriptLine) (k : ℕ) (pick : Pick) (other : disks.Pick)
    → line ≡ Crash k pick → other ≡ pick_of pick
    → recorded state (crash_line state.store k other) ≡ step state line
crash_line_is state line k pick other is picked = rw (is, picked) refl
