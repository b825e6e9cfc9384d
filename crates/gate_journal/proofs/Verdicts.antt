-- Each file has a verdict, and one alone.
use Rattle.std.proofs.Common.{◌≡◌, inl, inr, ⊎_elim, ◌⊎◌, ℕ, zero, suc, ◌+◌, ◌<◌, ◌≤◌, List, []}
use Rattle.std.proofs.Common.{◌++◌, length, drop, slice_index, Option, Some, None, Result, Ok}
use Rattle.std.proofs.Common.{Err, refl, ap, ◌∙◌, arith}
use Rattle.std.proofs.lemmas.Bool.{cases_eq, cases_lt}
use Rattle.std.proofs.lemmas.List.{get_or_append_left, length-append}
use Rattle.archive_terms.specs.Archive.{Entry}
use Rattle.record_form.specs.Reading.{AreOctets, ReadWhereSpelled}
use Rattle.gate_journal.specs.declared.fault.JournalFault.{JournalFault}
use Rattle.gate_journal.specs.File.{header}
use Rattle.gate_journal.specs.Reading.{IsNoJournal, LedTo, gate_at, Verdict, stands}
use Rattle.gate_journal.specs.Reading.{no_journal, damaged, IsFound}
use Rattle.gate_journal.proofs.Growth.{Grows, Tells, Found, gate_told, led_more, stands_shut}
use Rattle.gate_journal.proofs.Growth.{no_gate}
use Rattle.gate_journal.proofs.Header.{leads}

-- the octets below a place are the header's
abbrev IsFront : List ℕ → ℕ → Type 0
IsFront file place = (k : ℕ) → k < place → (k < length file)
    × (slice_index file k ≡ slice_index header k)

one_more : (file : List ℕ) (place : ℕ) → IsFront file place → place < length file
    → slice_index file place ≡ slice_index header place → IsFront file (suc place)
one_more file place before there same k below =
    ⊎_elim (λ at. rw at (there, same)) (λ other. before k (omega (arith, below, other)))
    (cases_eq k place)

-- the header leads, or one of its octets is another one or missing
header_or_not : (file : List ℕ) (left place : ℕ) → place + left ≡ 8 → IsFront file place
    → ((at : ℕ) × IsNoJournal at file) ⊎ (file ≡ header ++ drop 8 file)
header_or_not file zero place is before =
    inr (leads file (λ k below. before k (omega (arith, is, below))))
header_or_not file (suc left) place is before =
    ⊎_elim (λ there. ⊎_elim (λ same. header_or_not file left (suc place) (omega (arith, is))
    (one_more file place before there same)) (λ other. inl (
      place,
      record {
        inside = omega (arith, is);
        before = before;
        differs = λ _. other;
      },
    )) (cases_eq (slice_index file place) (slice_index header place)))
    (λ past. inl (
      place,
      record {
        inside = omega (arith, is);
        before = before;
        differs = λ there. absurd (omega (arith, there, past));
      },
    )) (cases_lt place (length file))

abbrev pub HasVerdict : List ℕ → Type 0
HasVerdict file = (verdict : Verdict) × IsFound verdict file

module _ (law : ReadWhereSpelled) (grows : Grows) (file : List ℕ) (all : AreOctets file) where
  -- by what stands at a gate
  by_gate : (entries : List Entry) (gate : ℕ) (r : Result (Option (List Entry × ℕ)) JournalFault)
      → LedTo gate entries file → gate_at entries file gate ≡ r
      → Tells (Found entries file gate) r
      → ((after : List Entry) (end : ℕ) → gate < end → LedTo end after file → HasVerdict file)
      → HasVerdict file
  by_gate entries gate (Ok None) led is told more =
      (stands entries, (gate, stands_shut entries file gate led told))
  by_gate entries gate (Ok (Some read)) led is told more =
      more read.0 read.1 (omega (arith, told.ends)) (rw told.after_is
      (led_more entries told.batch file gate read.1 led told.is_batch
      (rw told.after_is at told.archive) told.ends told.spelled))
  by_gate entries gate (Err fault) led is told more = (
    damaged told.0,
    record { gate = gate; entries = entries; led = led; fault = is ∙ ap Err told.1 },
  )

  -- within so many octets of a gate
  verdict_from : (left gate : ℕ) (entries : List Entry) → length file ≤ gate + left
      → LedTo gate entries file → HasVerdict file
  verdict_from zero gate entries near led = (
    damaged (length file),
    record {
      gate = gate;
      entries = entries;
      led = led;
      fault = no_gate entries file gate (omega (arith, near));
    },
  )
  verdict_from (suc left) gate entries near led =
      by_gate entries gate _ led refl
      (gate_told law grows entries file gate _ all led.leads.archive refl)
      (λ after end further. verdict_from left end after (omega (arith, near, further)))

  pub some_verdict : HasVerdict file
  some_verdict =
      ⊎_elim (λ other. (no_journal other.0, other.1)) (λ is.
      verdict_from (length file) 8 [] (omega arith) (record {
        batches = [];
        leads = record { each = tt; entries_are = refl; archive = refl; there = refl };
        is = is;
      })) (header_or_not file 8 0 refl (λ k below. absurd (omega (arith, below))))

-- ---- one alone

no_later : (place other : ℕ) (file : List ℕ) → IsNoJournal place file → IsNoJournal other file
    → place ≤ other
no_later place other file first second =
    ⊎_elim (λ below. let same = first.before other below in absurd (second.differs same.0 same.1))
    (λ is. is) (cases_lt other place)

pub one_place : (place other : ℕ) (file : List ℕ) → IsNoJournal place file → IsNoJournal other file
    → place ≡ other
one_place place other file first second =
    omega (arith, no_later place other file first second, no_later other place file second first)

-- where the header leads, each of its octets is there
pub header_leads : (place : ℕ) (behind file : List ℕ) → file ≡ header ++ behind
    → IsNoJournal place file → ⊥
header_leads place behind file is other =
    other.differs (omega (arith, other.inside, ap length is, length-append header behind))
    (rw is (get_or_append_left header behind 0 place other.inside))
