-- A journal grows by entries that are read, and by batches.
use Rattle.std.proofs.Common.{◌≡◌, ◌≢◌, ℕ, zero, suc, ◌+◌, ◌≤◌, ◌<◌, ◌==◌, Bool}
use Rattle.std.proofs.Common.{true, false, ◌&&◌, List, [], ◌∷◌, ◌++◌, length, take, drop}
use Rattle.std.proofs.Common.{slice_index, nat_lt, nat_le, min, IsTrue, if◌then◌else◌, Option, Some}
use Rattle.std.proofs.Common.{None, Result, Ok, Err, refl, sym, ap, subst, ◌∙◌}
use Rattle.std.proofs.Common.{arith, append_assoc}
use Rattle.std.specs.List.{AllByRecursion, list_all}
use Rattle.std.specs.Int.{w16, w32, to_be_bytes}
use Rattle.std.proofs.lemmas.List.{append-nil, take-append-drop, drop-drop, drop_more}
use Rattle.std.proofs.lemmas.List.{length-append, length-take, length-drop, get_or-take}
use Rattle.std.proofs.lemmas.List.{get_or-drop, get_or_past}
use Rattle.std.proofs.lemmas.Bool.{eqb-true, ltb-true, ltb-false}
use Rattle.std.proofs.lemmas.Bool.Decides.{nat_tests}
use Rattle.std.proofs.lemmas.Nat.{be_bytes_2, be_bytes_4}
use Rattle.archive_terms.specs.Archive.{Entry, IsArchive, is_archive, is_storable, may_follow}
use Rattle.archive_terms.specs.Archive.{keeps_order}
use Rattle.record_form.specs.declared.fault.EntryFault.{EntryFault}
use Rattle.record_form.specs.Reading.{AreOctets, ReadWhereSpelled, StandsFrom, entry_from}
use Rattle.gate_journal.specs.declared.fault.JournalFault.{JournalFault}
use Rattle.gate_journal.specs.declared.fault.JournalFault.TheVariants.{Damaged}
use Rattle.gate_journal.specs.File.{entries_octets, batch_octets, IsBatch, gated, joined}
use Rattle.gate_journal.specs.File.{StandsAt, Leads}
use Rattle.gate_journal.specs.Reading.{◌>>=◌, with_next, first_fault, next_entry, entries_at}
use Rattle.gate_journal.specs.Reading.{ending_at, size_at, count_at, batch_at, gate_at}
use Rattle.gate_journal.specs.Reading.{LedTo}
use Rattle.gate_journal.proofs.Unique.{regroup, entries_longer, in_front}

-- ---- what a reading tells: of its answer, or that there is damage

abbrev pub Tells : {A : Type 0} → (A → Type 0) → Result A JournalFault → Type 0
Tells of (Ok x) = of x
Tells of (Err fault) = (place : ℕ) × (fault ≡ Damaged place)

tested : {A : Type 0} (of : A → Type 0) (test : Bool) (r : Result A JournalFault) (place : ℕ)
    → (test ≡ true → Tells of r) → Tells of (if test then r else Err (Damaged place))
tested of true r place told = told refl
tested of false r place told = (place, refl)

refused : {A : Type 0} (of : A → Type 0) (test : Bool) (r : Result A JournalFault) (place : ℕ)
    → (test ≡ false → Tells of r) → Tells of (if test then Err (Damaged place) else r)
refused of true r place told = (place, refl)
refused of false r place told = told refl

bound : {A B : Type 0} (of : A → Type 0) (next : B → Type 0) (r : Result A JournalFault)
    (f : A → Result B JournalFault) → Tells of r → ((x : A) → of x → Tells next (f x))
    → Tells next (r >>= f)
bound of next (Ok x) f told more = more x told
bound of next (Err fault) f told more = told

weaker : {A : Type 0} (of other : A → Type 0) (r : Result A JournalFault) → Tells of r
    → ((x : A) → of x → other x) → Tells other r
weaker of other (Ok x) told more = more x told
weaker of other (Err fault) told more = told

-- ---- entries

abbrev pub Grows : Type 0
Grows = (a : List Entry) (e : Entry) → is_archive (a ++ e ∷ []) ≡ (is_archive a && may_follow a e)

-- entries that stand from one place to another, behind others
pub record Stand (before after : List Entry) (count : ℕ) (file : List ℕ) (place end : ℕ) : Type
    0 where
  pub batch : List Entry
  pub after_is : after ≡ before ++ batch
  pub count_is : length batch ≡ count
  pub storable : IsTrue (list_all is_storable batch)
  pub ends : end ≡ place + length (entries_octets batch)
  pub spelled : drop place file ≡ entries_octets batch ++ drop end file
  pub archive : IsArchive after

pub record One (before after : List Entry) (file : List ℕ) (place end : ℕ) : Type 0 where
  pub entry : Entry
  pub after_is : after ≡ before ++ entry ∷ []
  pub in_order : keeps_order before entry ≡ true
  pub stands : StandsFrom place file entry end

next_tells : (before : List Entry) (file : List ℕ) (place : ℕ) (read : Result (Entry
    × ℕ) EntryFault)
    → ((entry : Entry) (end : ℕ) → read ≡ Ok (entry, end) → StandsFrom place file entry end)
    → Tells (λ found. One before found.0 file place found.1) (with_next before file place read)
next_tells before file place (Ok read) law =
    tested _ (keeps_order before read.0) _ (place + 1) (λ in_order. record {
      entry = read.0;
      after_is = refl;
      in_order = in_order;
      stands = law read.0 read.1 refl;
    })
next_tells before file place (Err fault) law = (first_fault before file place fault, refl)

module _ (law : ReadWhereSpelled) (grows : Grows) (file : List ℕ) (all : AreOctets file) where
  entries_tell : (count : ℕ) (before : List Entry) (place : ℕ) → IsArchive before
      → Tells (λ read. Stand before read.0 count file place read.1)
      (entries_at count before file place)
  unfolding entries_at next_entry
  entries_tell zero before place archive = record {
    batch = [];
    after_is = sym (append-nil before);
    count_is = refl;
    storable = refl;
    ends = omega arith;
    spelled = refl;
    archive = archive;
  }
  entries_tell (suc count) before place archive =
      bound (λ read. One before read.0 file place read.1) _ _ _
      (next_tells before file place (entry_from place file)
      (λ entry stop read. (law place file entry stop all).0 read)) (λ mid one.
      let longer : IsArchive mid.0 = cc (
        one.after_is,
        grows before one.entry,
        archive,
        one.stands.storable,
        one.in_order,
      ) in
      weaker (λ read. Stand mid.0 read.0 count file mid.1 read.1) _ _
      (entries_tell count mid.0 mid.1 longer) (λ read rest. record {
        batch = one.entry ∷ rest.batch;
        after_is = cc (
          rest.after_is,
          one.after_is,
          append_assoc before (one.entry ∷ []) rest.batch,
        );
        count_is = ap suc rest.count_is;
        storable = rw one.stands.storable rest.storable;
        ends = omega (arith, one.stands.ends, rest.ends, entries_longer one.entry rest.batch);
        spelled = cc (
          one.stands.spelled,
          rest.spelled,
          regroup one.entry rest.batch (drop read.1 file),
        );
        archive = rest.archive;
      }))

-- ---- a batch

taken_octets : (n place : ℕ) (file : List ℕ) → AreOctets file → AreOctets (take n (drop place file))
taken_octets n place file all k =
    grind (arith, get_or-take, get_or-drop, get_or_past, length-take, all (place + k))

ending_tells : (of : List Entry × ℕ → Type 0) (stated : ℕ)
    (r : Result (List Entry × ℕ) JournalFault) → Tells of r
    → Tells (λ read. of read × (read.1 ≡ stated)) (ending_at stated r)
ending_tells of stated (Ok read) told =
    tested _ (read.1 == stated) _ (min read.1 stated) (λ same. (told, eqb-true _ _ same))
ending_tells of stated (Err fault) told = rw told.1 (min told.0 stated, refl)

between : (n : ℕ) → (nat_le 1 n && nat_le n 256) ≡ true → (1 ≤ n) × (n ≤ 256)
between n e = (grind (arith, nat_tests), grind (arith, nat_tests))

in_three : (file : List ℕ) (place : ℕ) → drop place file
    ≡ take 4 (drop place file) ++ (take 2 (drop (place + 4) file) ++ drop (place + 6) file)
in_three file place =
    let behind : place + 4 + 2 ≡ place + 6 = omega arith in
    cc (
      take-append-drop 4 (drop place file),
      drop-drop 4 place file,
      take-append-drop 2 (drop (place + 4) file),
      drop-drop 2 (place + 4) file,
      behind,
    )

-- ---- the file up to a gate

pub joined-append : (batches more : List (List Entry))
    → joined (batches ++ more) ≡ joined batches ++ joined more
joined-append [] more = refl
joined-append (batch ∷ batches) more =
    rw (joined-append batches more, append_assoc batch (joined batches) (joined more)) refl

all-append : (batches : List (List Entry)) (batch : List Entry) → AllByRecursion IsBatch batches
    → IsBatch batch → AllByRecursion IsBatch (batches ++ batch ∷ [])
all-append [] batch all is = (is, tt)
all-append (first ∷ batches) batch all is = (all.0, all-append batches batch all.1 is)

pub gated_more : (batches : List (List Entry)) (batch : List Entry)
    → gated (batches ++ batch ∷ []) ≡ gated batches ++ 165 ∷ batch_octets batch
gated_more [] batch = rw (append-nil (batch_octets batch)) refl
gated_more (first ∷ batches) batch =
    rw (gated_more batches batch, append_assoc (batch_octets first)) refl

-- batches lead also with one more
pub leads_more : (batches : List (List Entry)) (entries batch : List Entry) (gate end : ℕ)
    → Leads batches entries gate → IsBatch batch → IsArchive (entries ++ batch)
    → end ≡ gate + 1 + length (batch_octets batch)
    → Leads (batches ++ batch ∷ []) (entries ++ batch) end
leads_more batches entries batch gate end leads is_batch archive ends = record {
  each = all-append batches batch leads.each is_batch;
  entries_are = cc (leads.entries_are, joined-append batches (batch ∷ []), append-nil batch);
  archive = archive;
  there = omega (
    arith,
    ends,
    leads.there,
    ap length (gated_more batches batch),
    length-append (gated batches) (165 ∷ batch_octets batch),
  );
}

-- a batch stands behind an open gate, and entries with those of the batch are an archive
pub record Opened (before after : List Entry) (file : List ℕ) (gate end : ℕ) : Type 0 where
  pub batch : List Entry
  pub is_batch : IsBatch batch
  pub after_is : after ≡ before ++ batch
  pub ends : end ≡ gate + 1 + length (batch_octets batch)
  pub spelled : drop gate file ≡ 165 ∷ (batch_octets batch ++ drop end file)
  pub archive : IsArchive after

-- what a gate is found to be
abbrev pub Found : List Entry → List ℕ → ℕ → Option (List Entry × ℕ) → Type 0
Found before file gate (Some read) = Opened before read.0 file gate read.1
Found before file gate None = (gate < length file) × (slice_index file gate ≢ 165)

opened_at : (before after : List Entry) (file : List ℕ) (gate end : ℕ) → AreOctets file
    → gate < length file → slice_index file gate ≡ 165 → gate + 1 + 6 ≤ length file
    → (nat_le 1 (count_at file (gate + 1)) && nat_le (count_at file (gate + 1)) 256) ≡ true
    → Stand before after (count_at file (gate + 1)) file (gate + 1 + 6) end
    → end ≡ gate + 1 + 6 + size_at file (gate + 1) → Opened before after file gate end
opened_at before after file gate end all there is_open long counted read ended =
    let range = between (count_at file (gate + 1)) counted in
    let size : to_be_bytes w32 (length (entries_octets read.batch))
    ≡ take 4 (drop (gate + 1) file) =
    be_bytes_4 _ _
    (omega (arith, length-take 4 (drop (gate + 1) file), length-drop (gate + 1) file))
    (taken_octets 4 (gate + 1) file all) (omega (arith, ended, read.ends)) in
    let count : to_be_bytes w16 (length read.batch) ≡ take 2 (drop (gate + 1 + 4) file) =
    be_bytes_2 _ _
    (omega (arith, length-take 2 (drop (gate + 1 + 4) file), length-drop (gate + 1 + 4) file))
    (taken_octets 2 (gate + 1 + 4) file all) read.count_is in record {
      batch = read.batch;
      is_batch = record {
        some = omega (arith, range.0, read.count_is);
        most = omega (arith, range.1, read.count_is);
        storable = read.storable;
      };
      after_is = read.after_is;
      ends = omega (arith, read.ends);
      spelled = cc (
        drop_more file gate 0 there,
        is_open,
        in_three file (gate + 1),
        size,
        count,
        read.spelled,
        in_front read.batch (drop end file),
      );
      archive = read.archive;
    }

by_gate : {A : Type 0} (test : Bool) (of : Option A → Type 0) (r : Result A JournalFault)
    → (test ≡ true → Tells (λ x. of (Some x)) r) → (test ≡ false → of None)
    → Tells of (if test then (r >>= λ x. Ok (Some x)) else Ok None)
by_gate true of r is_open shut = bound _ of r _ (is_open refl) (λ x told. told)
by_gate false of r is_open shut = shut refl

eqb_false : (a b : ℕ) → (a == b) ≡ false → a ≢ b
eqb_false a b e same = grind (arith, nat_tests)

gate_tells : ReadWhereSpelled → Grows → (before : List Entry) (file : List ℕ) (gate : ℕ)
    → AreOctets file → IsArchive before
    → Tells (Found before file gate) (gate_at before file gate)
unfolding gate_at batch_at
gate_tells law grows before file gate all archive =
    tested _ (nat_lt gate (length file)) _ (length file) (λ inside.
    let there = ltb-true _ _ inside in
    by_gate (slice_index file gate == 165) _ (batch_at before file (gate + 1)) (λ is_open.
    refused _ _ _ (length file) (λ long.
    tested _ _ _ (gate + 1 + 4) (λ counted.
    weaker _ _ _ (ending_tells (λ read. Stand before read.0 (count_at file (gate + 1)) file
    (gate + 1 + 6) read.1) _ _ (entries_tell law grows file all _ before (gate + 1 + 6) archive))
    (λ (read : List Entry × ℕ) told.
    opened_at before read.0 file gate read.1 all there (eqb-true _ _ is_open)
    (ltb-false _ _ long) counted told.0 told.1))))
    (λ shut. (there, eqb_false _ _ shut)))

pub gate_told : ReadWhereSpelled → Grows → (before : List Entry) (file : List ℕ) (gate : ℕ)
    (r : Result (Option (List Entry × ℕ)) JournalFault) → AreOctets file → IsArchive before
    → gate_at before file gate ≡ r → Tells (Found before file gate) r
gate_told law grows before file gate r all archive e =
    subst (Tells (Found before file gate)) e (gate_tells law grows before file gate all archive)

-- batches lead a file also with one more that stands behind them
pub led_more : (entries batch : List Entry) (file : List ℕ) (gate end : ℕ) → LedTo gate entries file
    → IsBatch batch → IsArchive (entries ++ batch) → end ≡ gate + 1 + length (batch_octets batch)
    → drop gate file ≡ 165 ∷ (batch_octets batch ++ drop end file)
    → LedTo end (entries ++ batch) file
led_more entries batch file gate end led is_batch archive ends behind = record {
  batches = led.batches ++ batch ∷ [];
  leads = leads_more led.batches entries batch gate end led.leads is_batch archive ends;
  is = led.is ∙ rw (behind, gated_more led.batches batch, append_assoc (gated led.batches)) refl;
}

pub stands_shut : (entries : List Entry) (file : List ℕ) (gate : ℕ) → LedTo gate entries file
    → (gate < length file) × (slice_index file gate ≢ 165) → StandsAt entries gate file
stands_shut entries file gate led there = record {
  batches = led.batches;
  gate = slice_index file gate;
  rest = drop (gate + 1) file;
  leads = led.leads;
  shut = there.1;
  is = led.is ∙ rw (drop_more file gate 0 there.0) refl;
}

pub no_gate : (entries : List Entry) (file : List ℕ) (gate : ℕ) → length file ≤ gate
    → gate_at entries file gate ≡ Err (Damaged (length file))
unfolding gate_at
no_gate entries file gate past = grind (arith, nat_tests)
