-- What a reading batch by batch has passed, and what it finds next.
use Rattle.std.proofs.Common.{◌≡◌, ◌≢◌, ◌⊎◌, ℕ, zero, suc, ◌+◌, ◌-◌, ◌≤◌, true, List, []}
use Rattle.std.proofs.Common.{◌∷◌, ◌++◌, length, drop, Option, Some, None, IfSome}
use Rattle.std.proofs.Common.{Result, Ok, Err}
use Rattle.std.proofs.Common.{refl, sym, ap, subst, ◌∙◌, arith}
use Rattle.std.specs.List.{list_all}
use Rattle.std.proofs.lemmas.List.{drop_at, drop-drop}
use Rattle.archive_terms.specs.Archive.{Entry, IsArchive, is_storable}
use Rattle.disk_model.specs.Images.{Pending}
use Rattle.disk_model.specs.Moments.{Reads}
use Rattle.record_form.specs.Spelling.{entry_octets}
use Rattle.record_form.specs.Reading.{AreOctets, ReadWhereSpelled, ReadBack, entry_from}
use Rattle.gate_journal.specs.declared.fault.JournalFault.{JournalFault}
use Rattle.gate_journal.specs.declared.order.Times.{Times}
use Rattle.gate_journal.specs.File.{StandsAt, entries_octets}
use Rattle.gate_journal.specs.Order.{Knows}
use Rattle.gate_journal.specs.Passing.{PassedGate}
use Rattle.gate_journal.specs.Reading.{LedTo, gate_at}
use Rattle.gate_journal.specs.Batches.{BatchesState, HasPassed, StandsForSome, HoldsBatch}
use Rattle.gate_journal.specs.Batches.{entries_in, batch_in}
use Rattle.gate_journal.proofs.Growth.{Grows, Opened, gate_told, led_more, stands_shut}
use Rattle.gate_journal.proofs.Again.{behind_led, entries_behind, not_past}
use Rattle.gate_journal.proofs.Again.{count_is, behind_count}
use Rattle.std.proofs.lemmas.Bool.{and_parts}
use Rattle.gate_journal.proofs.Unique.{regroup}
use Rattle.gate_journal.proofs.Windows.{open_shown, shut_shown, read_shown}

abbrev pub standing : ℕ → ℕ → Times → List ℕ → List Entry → BatchesState
standing start at times room batch =
    record { gate = start + at; times = times; start = start; room = room; batch = batch }

-- ---- the entries of a batch, as its octets have them

pub first_in : (count : ℕ) (octets : List ℕ) (entry : Entry) (end : ℕ) → count ≢ 0
    → entry_from 0 octets ≡ Ok (entry, end)
    → entries_in count octets ≡ entry ∷ entries_in (count - 1) (drop end octets)
unfolding entries_in
first_in zero octets entry end some read = absurd (some refl)
first_in (suc count) octets entry end some read =
    let less : count ≡ suc count - 1 = omega arith in
    rw (read, ← less) refl

spelled_in : ReadBack → (batch : List Entry) (rest : List ℕ) → list_all is_storable batch ≡ true
    → entries_in (length batch) (entries_octets batch ++ rest) ≡ batch
unfolding entries_in
spelled_in back [] rest storable = refl
spelled_in back (e ∷ batch) rest storable =
    let each = and_parts _ _ storable in
    rw (regroup e batch rest, back e (entries_octets batch ++ rest) each.0) (simp (
      drop_at (entry_octets e) (entries_octets batch ++ rest) (length (entry_octets e)) refl,
      spelled_in back batch rest each.1,
    ))

batch_read : ReadWhereSpelled → Grows → ReadBack → (before after : List Entry)
    (file : List ℕ) (gate end : ℕ) (found : Opened before after file gate end) → AreOctets file
    → batch_in file (Some gate) ≡ found.batch
batch_read law grows back before after file gate end found all =
    let there = not_past gate file _ _ found.spelled in
    let behind = sym (drop-drop 1 gate file) ∙ ap (drop 1) found.spelled in
    let archive = rw found.after_is at found.archive in
    let count = count_is law grows before found.batch file (gate + 1) end all found.is_batch archive
    found.ends behind (omega (arith, there)) in
    let octets : drop (gate + 7) file ≡ entries_octets found.batch ++ drop end file =
    ap (λ (n : ℕ). drop n file) (omega arith) ∙ behind_count law grows before found.batch file
    (gate + 1) end all found.is_batch archive found.ends behind (omega (arith, there)) in
    rw (count, octets) (spelled_in back found.batch (drop end file) found.is_batch.storable)

-- what reading gives at a gate is the batch that the octets have behind it
pub read_as_it_is : ReadWhereSpelled → Grows → ReadBack → (entries after : List Entry)
    (file : List ℕ) (gate end : ℕ) → AreOctets file → IsArchive entries
    → gate_at entries file gate ≡ Ok (Some (after, end))
    → after ≡ entries ++ batch_in file (Some gate)
read_as_it_is law grows back entries after file gate end all archive e =
    let found = gate_told law grows entries file gate _ all archive e in
    found.after_is ∙ ap (λ (b : List Entry). entries ++ b)
    (sym (batch_read law grows back entries after file gate end found all))

-- the octets in memory as a slice, behind entries that were passed
pub record Sliced (pending : Option Pending) (entries : List Entry) (start at : ℕ) (times : Times)
    (slice : List ℕ) (last : List Entry) : Type 0 where
  pub within : at ≤ length slice
  pub passed : HasPassed pending entries (standing start at times slice last)

-- as it is once the next batch was brought into memory
pub sliced : {pending : Option Pending} {entries : List Entry} {old now : BatchesState}
    {start : ℕ} {times : Times} {room slice : List ℕ} {last : List Entry} (at : ℕ)
    → now.gate ≡ old.gate → now.times ≡ old.times
    → (Reads pending old.start old.room → Reads pending now.start now.room)
    → standing start at times room last ≡ now → slice ≡ room → at ≤ length room
    → HasPassed pending entries old → Sliced pending entries start at times slice last
sliced at gate times room is same within passed = record {
  within = rw same within;
  passed = rw (same, is) (record {
    knows = rw times passed.knows;
    led = rw gate passed.led;
    room = room passed.room;
  });
}

-- and what they hold
pub holds_there : {now : BatchesState} {start : ℕ} {times : Times} {room slice : List ℕ}
    {last : List Entry} (at extent : ℕ) → standing start at times room last ≡ now → slice ≡ room
    → HoldsBatch now.room (now.gate - now.start) ⊎ (extent ≤ now.start + length now.room)
    → HoldsBatch slice at ⊎ (extent ≤ start + length slice)
holds_there {start = start} at extent is same holds =
    let there : (start + at) - start ≡ at = omega arith in
    rw (same, ← there)
    (subst (λ (s : BatchesState). HoldsBatch s.room (s.gate - s.start)
    ⊎ (extent ≤ s.start + length s.room)) (sym is) holds)

module _ (law : ReadWhereSpelled) (grows : Grows) {pending : Option Pending} {entries : List Entry}
    {start at : ℕ} {times : Times} {room : List ℕ} {last : List Entry}
    (there : Sliced pending entries start at times room last) where
  module _ (all : AreOctets room) (back : ReadBack) where
    -- the next gate isn't open
    pub shut_next : gate_at entries room at ≡ Ok None
        → IfSome pending (λ told. StandsAt entries (start + at) told.content)
    shut_next e = by_told pending there.passed
      where
        by_told : (p : Option Pending) → HasPassed p entries (standing start at times room last)
            → IfSome p (λ told. StandsAt entries (start + at) told.content)
        by_told None has = tt
        by_told (Some told) has =
            let shut = gate_told law grows entries room at _ all has.knows.0 e in
            let shown = shut_shown told.content room start at has.room there.within shut.0 in
            stands_shut entries told.content _ has.led (shown.0, rw (← shown.1) at shut.1)

    -- the next batch stands behind what was passed, and is what the octets in memory have there
    pub batch_next : (new : Option Pending) (after : List Entry) (next : Times) (end : ℕ)
        → new ≡ pending → gate_at entries room at ≡ Ok (Some (after, end)) → end ≤ length room
        → Knows after (Some next)
        → HasPassed new (entries ++ batch_in room (Some at))
        (standing start end next room (batch_in room (Some at)))
    batch_next new after next end same e inside knows =
        let after_is : after ≡ entries ++ batch_in room (Some at) =
        read_as_it_is law grows back entries after room at end all there.passed.knows.0 e in
        rw same (record {
          knows = rw after_is at knows;
          led = rw after_is at (led_by pending there.passed);
          room = there.passed.room;
        })
      where
        led_by : (p : Option Pending) → HasPassed p entries (standing start at times room last)
            → IfSome p (λ told. LedTo (start + end) after told.content)
        led_by None has = tt
        led_by (Some told) has =
            let found = gate_told law grows entries room at _ all there.passed.knows.0 e in
            rw found.after_is
            (led_more entries found.batch told.content (start + at) (start + end) has.led
            found.is_batch (rw found.after_is at found.archive) (omega (arith, found.ends))
            (open_shown told.content room start at has.room there.within entries after end found
            inside))

    -- what the file has there, where it stands for entries, is read
    pub none_next : (extent : ℕ) (fault : JournalFault)
        → IfSome pending (λ told. extent ≡ length told.content)
        → HoldsBatch room at ⊎ (extent ≤ start + length room)
        → gate_at entries room at ≡ Err fault → StandsForSome pending → ⊥
    none_next extent fault size holds e stands = by_told pending size there.passed stands
      where
        by_told : (p : Option Pending) → IfSome p (λ told. extent ≡ length told.content)
            → HasPassed p entries (standing start at times room last) → StandsForSome p → ⊥
        by_told None size has stands = stands
        by_told (Some told) size has stands =
            let at_place = stands.1.1 in
            let follows = behind_led back _ _ _ _ told.content has.led at_place in
            let read = read_shown told.content room start at has.room there.within law grows all
            (rw size at holds) entries follows.more at_place.rest at_place.gate follows.each
            (rw (entries_behind _ _ _ _ told.content _ _ has.led at_place follows)
            at at_place.leads.archive) at_place.shut follows.octets in
            cc (read.1, e)

-- what a call found at a gate
pub gate_is : {found known : Option (Times × ℕ)}
    (read : Result (Option (List Entry × ℕ)) JournalFault)
    → found ≡ known → PassedGate (Ok found) read → PassedGate (Ok known) read
gate_is read is passed = subst (λ (f : Option (Times × ℕ)). PassedGate (Ok f) read) is passed
