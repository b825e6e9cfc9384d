-- A world's book has what is stored, behind each call of its parts.
use Rattle.std.proofs.Common.{◌≡◌, ℕ, Bool, true, false, Option, Some, None, IsTrue, refl, sym}
use Rattle.std.proofs.Common.{subst, ◌∙◌}
use Rattle.archive_terms.specs.Archive.{is_valid}
use Rattle.record_form.specs.Entry.{entry_of}
use Rattle.record_form.specs.declared.entry.Entry as form
use Rattle.drill_text.specs.declared.script_line.ScriptLine.{ScriptLine}
use Rattle.drill_text.specs.declared.script_line.ScriptLine.TheVariants.{Offer}
use Rattle.station_uplink.specs.Turns.{silent}
use Rattle.script_store.specs.declared.outcome.Outcome.{Outcome}
use Rattle.station_law.specs.declared.said.SaidAt.{SaidAt}
use Rattle.script_store.specs.Store.{Store, Recorded}
use Rattle.station_law.specs.Doors.{Doors, Acted, act, doors_after}
use Rattle.station_law.specs.State.{State}
use Rattle.script_store.specs.Answer.{Answer}
use Rattle.script_store.specs.Entries.{offer}
use Rattle.script_store.specs.Outcomes.{said_of}
use Rattle.script_store.specs.Stopped.{IsDone}
use Rattle.station_law.specs.Lines.{doors_by, offered, connected, step}
use Rattle.station_law.specs.Standing.{DoorsSeen, AreDoors, IsActed, Agree, AgreeUnless}
use Rattle.station_law.specs.Shown.{HasOneArchive}
use Rattle.station_law.specs.Sound.{IsSound}
use Rattle.station_law.proofs.Following.{followed, offer_line_is}

-- a world that runs further lines agrees
pub agree_unless : (spent : Bool) (store : Store) (doors : DoorsSeen)
    → (spent ≡ false → Agree store doors) → AgreeUnless spent store doors
agree_unless true store doors agree = tt
agree_unless false store doors agree = agree refl

pub agrees : (spent : Bool) (store : Store) (doors : DoorsSeen) → spent ≡ false
    → AgreeUnless spent store doors → Agree store doors
agrees spent store doors ready agree = rw ready at agree

-- the state that a store and doors are, at a reading of the clock
abbrev state_of : Store → ℕ → Doors → State
state_of store reading d =
    record { store = store; clock = reading; doors = d; uplink = silent }

one_of : (store : Store) (reading : ℕ) (doors : DoorsSeen) (agree : Agree store doors)
    → HasOneArchive (state_of store reading agree.stands)
one_of store reading doors agree = record {
  sound = agree.sound;
  same = rw (← agree.are.book) agree.same;
}

-- doors that have what is stored agree with it
with_doors : (store : Store) (new : DoorsSeen) (d : Doors) → IsSound store → AreDoors new d
    → d.book.published ≡ store.published → Agree store new
with_doors store new d sound are same =
    record { sound = sound; stands = d; are = are; same = rw (are.book) same }

abbrev pub OneStays : Type 0
OneStays = (state : State) (line : ScriptLine) → HasOneArchive state
    → HasOneArchive (step state line).next

abbrev pub OneStaysAtDoors : Type 0
OneStaysAtDoors = (state : State) (line : ScriptLine) → HasOneArchive state
    → HasOneArchive (connected state (act state.doors state.clock line)).next

pub offer_agrees : OneStays → (store : Store) (entry : form.Entry) (outcome : Outcome)
    (old new : DoorsSeen) (recorder : Recorded) → IsTrue (is_valid (entry_of entry))
    → Agree store old → said_of outcome ≡ (offer store (entry_of entry)).said
    → IsDone (offer store (entry_of entry)) recorder
    → ((d : Doors) → AreDoors old d
    → AreDoors new (doors_by outcome (entry_of entry) recorder.state.published d))
    → Agree recorder.state new
offer_agrees law store entry outcome old new recorder valid agree said done follows =
    let state : State = state_of store 0 agree.stands in
    let one : HasOneArchive (offered state (entry_of entry)).next =
    subst (λ (a : Answer State). HasOneArchive a.next)
    (sym (offer_line_is state (Offer entry) entry refl valid))
    (law state (Offer entry) (one_of store 0 old agree)) in
    rw (done.state) (with_doors (offered state (entry_of entry)).next.store new
    (offered state (entry_of entry)).next.doors one.sound
    (followed store (entry_of entry) new agree.stands outcome said
    (rw (done.state) at (follows agree.stands agree.are))) one.same)

pub acted_agrees : OneStaysAtDoors → (store : Store) (reading : ℕ) (line : ScriptLine)
    (said : Option SaidAt) (old new : DoorsSeen) → Agree store old
    → ((d : Doors) → AreDoors old d → IsActed said d (act d reading line) new) → Agree store new
acted_agrees law store reading line said old new agree does =
    by_case (act agree.stands reading line) said
    (law (state_of store reading agree.stands) line (one_of store reading old agree))
    (does agree.stands agree.are)
  where
    by_case : (a : Option Acted) (said : Option SaidAt)
        → HasOneArchive (connected (state_of store reading agree.stands) a).next
        → IsActed said agree.stands a new → Agree store new
    by_case None said one is = with_doors store new agree.stands agree.sound is.1 one.same
    by_case (Some a) None one is = absurd is
    by_case (Some a) (Some s) one is =
        with_doors store new (doors_after agree.stands a) agree.sound is.doors one.same

-- doors of which the book alone changed, which publishes nothing
pub turned_agrees : (store : Store) (old new : DoorsSeen) → Agree store old
    → new ≡ record old { book = new.book } → new.book.published ≡ old.book.published
    → Agree store new
turned_agrees store old new agree new_is published = record {
  sound = agree.sound;
  stands = record agree.stands { book = new.book };
  are = subst (λ (x : DoorsSeen). AreDoors x (record agree.stands { book = new.book }))
      (sym new_is) (record {
        site = agree.are.site;
        book = refl;
        at = agree.are.at;
      });
  same = published ∙ agree.same;
}
