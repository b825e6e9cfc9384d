-- What stands in a file is read, so a damaged file stands for nothing.
use Rattle.std.proofs.Common.{◌≡◌, ◌≢◌, ℕ, ◌*◌, ◌+◌, ◌≤◌, ◌<◌}
use Rattle.std.proofs.Common.{◌==◌, true, false, ◌&&◌, List, [], ◌∷◌, ◌++◌, length, take}
use Rattle.std.proofs.Common.{drop, slice_index, nat_le, Option}
use Rattle.std.proofs.Common.{Some, None, Ok, Err, refl, sym, ap, ◌∙◌, arith}
use Rattle.std.proofs.Common.{append_assoc, eq-eqb}
use Rattle.std.specs.List.{AllByRecursion, list_all}
use Rattle.std.specs.Int.{w16, w32, to_be_bytes, from_be_bytes}
use Rattle.std.proofs.lemmas.List.{append-nil, drop_at, drop-drop, drop_more}
use Rattle.std.proofs.lemmas.List.{length-append, length-drop}
use Rattle.std.proofs.lemmas.Bool.{lt-ltb, le-ltb}
use Rattle.std.proofs.lemmas.Bool.Decides.{nat_tests}
use Rattle.std.proofs.lemmas.Nat.{from_be_bytes-to_be_bytes_2, from_be_bytes-to_be_bytes_4}
use Rattle.archive_terms.specs.Archive.{Entry, frame, loss_of_sync, production, seal}
use Rattle.archive_terms.specs.Archive.{IsArchive, is_storable, keeps_order}
use Rattle.cds_time.specs.Moment.{rest_octets}
use Rattle.cds_time.specs.declared.cds.Rest.{Rest}
use Rattle.cds_time.specs.declared.cds.Rest.TheVariants.{Micros, Picos}
use Rattle.record_form.specs.Spelling.{entry_octets}
use Rattle.record_form.specs.Reading.{AreOctets, ReadWhereSpelled, ReadBack, StandsFrom, entry_from}
use Rattle.gate_journal.specs.declared.fault.JournalFault.{JournalFault}
use Rattle.gate_journal.specs.declared.fault.JournalFault.TheVariants.{Damaged}
use Rattle.gate_journal.specs.File.{header, entries_octets, batch_octets, IsBatch, gated, joined}
use Rattle.gate_journal.specs.File.{StandsAt}
use Rattle.gate_journal.specs.Reading.{next_entry, entries_at}
use Rattle.gate_journal.specs.Reading.{size_at, count_at, batch_at, gate_at}
use Rattle.gate_journal.specs.Reading.{LedTo}
use Rattle.gate_journal.proofs.Growth.{Grows, joined-append}
use Rattle.gate_journal.proofs.Unique.{regroup, entries_longer, in_front}
use Rattle.std.proofs.lemmas.Bool.{and_parts}
use Rattle.gate_journal.proofs.Unique.{same_batch, same_rest, tail_of, Follows, follows_led}

-- a front of an archive is one
pub archive_front : Grows → (a b : List Entry) → IsArchive (a ++ b) → IsArchive a
archive_front grows a [] archive = rw append-nil at archive
archive_front grows a (e ∷ b) archive =
    let longer = archive_front grows (a ++ e ∷ []) b (rw append_assoc archive) in
    (and_parts _ _ (sym (grows a e) ∙ longer)).0

-- an entry behind others in an archive keeps their order
pub in_order : Grows → (a : List Entry) (e : Entry) (b : List Entry) → IsArchive (a ++ e ∷ b)
    → keeps_order a e ≡ true
in_order grows a e b archive =
    let longer = archive_front grows (a ++ e ∷ []) b (rw append_assoc archive) in
    (and_parts _ _ (and_parts _ _ (sym (grows a e) ∙ longer)).1).1

pub next_again : (before : List Entry) (file : List ℕ) (place : ℕ) (entry : Entry) (end : ℕ)
    → entry_from place file ≡ Ok (entry, end) → keeps_order before entry ≡ true
    → next_entry before file place ≡ Ok (before ++ entry ∷ [], end)
unfolding next_entry
next_again before file place entry end read order = rw (read, order) refl

rest_behind : (x y : List ℕ) (file : List ℕ) (place : ℕ) → drop place file ≡ x ++ y
    → drop (place + length x) file ≡ y
rest_behind x y file place is = cc (drop-drop (length x) place file, drop_at x y (length x) refl)

entries_again : ReadWhereSpelled → Grows
    → (batch before : List Entry) (file : List ℕ) (place end : ℕ) → AreOctets file
    → list_all is_storable batch ≡ true → IsArchive (before ++ batch)
    → end ≡ place + length (entries_octets batch)
    → drop place file ≡ entries_octets batch ++ drop end file
    → entries_at (length batch) before file place ≡ Ok (before ++ batch, end)
unfolding entries_at
entries_again law grows [] before file place end all storable archive ends is =
    let same : place ≡ end = omega (arith, ends) in
    cc (append-nil before)
entries_again law grows (entry ∷ more) before file place end all storable archive ends is =
    let each = and_parts _ _ storable in
    let mid = place + length (entry_octets entry) in
    let split = is ∙ regroup entry more (drop end file) in
    let rest = rest_behind (entry_octets entry) _ file place split in
    let stands : StandsFrom place file entry mid =
    record { storable = each.0; ends = refl; spelled = cc (split, rest) } in
    rw (
      next_again before file place entry mid ((law place file entry mid all).1 stands)
          (in_order grows before entry more archive),
      entries_again law grows more (before ++ entry ∷ []) file mid end all each.1
          (rw append_assoc archive) (omega (arith, ends, entries_longer entry more)) rest,
      append_assoc before (entry ∷ []) more,
    ) refl

-- ---- how long a batch is

rest_short : (rest : Rest) → length (rest_octets rest) ≤ 4
rest_short (Micros n) = omega arith
rest_short (Picos n) = omega arith

entry_short : (e : Entry) → is_storable e ≡ true → length (entry_octets e) ≤ 65574
entry_short (frame f) is = grind (arith, nat_tests, length-append {A = ℕ}, rest_short)
entry_short (loss_of_sync l) is = grind (arith, length-append {A = ℕ}, rest_short)
entry_short (production status) is = omega arith
entry_short (seal at) is = omega (arith, rest_short at.rest)

entries_short : (batch : List Entry) → list_all is_storable batch ≡ true
    → length (entries_octets batch) ≤ 65574 * length batch
entries_short [] is = omega arith
entries_short (e ∷ batch) is =
    let each : (is_storable e ≡ true) × (list_all is_storable batch ≡ true) = and_parts _ _ is in
    omega (arith, entry_short e each.0, entries_short batch each.1, entries_longer e batch)

-- ---- a batch

-- the length that stands in front of a batch
pub size_of_batch : (batch : List Entry) (rest : List ℕ) → IsBatch batch
    → from_be_bytes w32 (take 4 (batch_octets batch ++ rest)) ≡ length (entries_octets batch)
size_of_batch batch rest is_batch =
    ap (λ (l : List ℕ). from_be_bytes w32 (take 4 l)) (in_front batch rest)
    ∙ from_be_bytes-to_be_bytes_4 (length (entries_octets batch))
    (omega (arith, entries_short batch is_batch.storable, is_batch.most))

in_range : (n : ℕ) → 1 ≤ n → n ≤ 256 → (nat_le 1 n && nat_le n 256) ≡ true
in_range n some most = grind (arith, nat_tests)

module _ (law : ReadWhereSpelled) (grows : Grows) (before batch : List Entry) (file : List ℕ)
    (place end : ℕ) (all : AreOctets file) (is_batch : IsBatch batch)
    (archive : IsArchive (before ++ batch)) (ends : end ≡ place + length (batch_octets batch))
    (is : drop place file ≡ batch_octets batch ++ drop end file)
    (inside : place ≤ length file) where
  parts_are : drop place file ≡ to_be_bytes w32 (length (entries_octets batch))
      ++ (to_be_bytes w16 (length batch) ++ (entries_octets batch ++ drop end file))
  parts_are = is ∙ in_front batch (drop end file)

  size_is : size_at file place ≡ length (entries_octets batch)
  size_is = rw is (size_of_batch batch (drop end file) is_batch)

  behind_size : drop (place + 4) file ≡ to_be_bytes w16 (length batch)
      ++ (entries_octets batch ++ drop end file)
  behind_size = sym (drop-drop 4 place file) ∙ ap (drop 4) parts_are

  pub count_is : count_at file place ≡ length batch
  count_is = rw behind_size
      (from_be_bytes-to_be_bytes_2 (length batch) (omega (arith, is_batch.most)))

  pub behind_count : drop (place + 6) file ≡ entries_octets batch ++ drop end file
  behind_count = sym (drop-drop 6 place file) ∙ ap (drop 6) parts_are

  batch_again : batch_at before file place ≡ Ok (before ++ batch, end)
  unfolding batch_at
  batch_again =
      let long : place + 6 ≤ length file =
      omega (arith, inside, ap length parts_are, length-drop place file) in
      rw (
        le-ltb (length file) (place + 6) long,
        ap (λ (n : ℕ). nat_le 1 n && nat_le n 256) count_is
            ∙ in_range (length batch) is_batch.some is_batch.most,
        count_is,
        entries_again law grows batch before file (place + 6) end all is_batch.storable archive
            (omega (arith, ends)) behind_count,
        eq-eqb end (place + 6 + size_at file place) (omega (arith, ends, size_is)),
      ) refl

-- ---- a gate

pub not_past : (n : ℕ) (l : List ℕ) (x : ℕ) (xs : List ℕ) → drop n l ≡ x ∷ xs → n < length l
not_past n l x xs is = omega (arith, ap length is, length-drop n l)

-- the octet that stands at a place
pub first_is : (x : ℕ) (xs file : List ℕ) (place : ℕ) → drop place file ≡ x ∷ xs
    → slice_index file place ≡ x
first_is x xs file place is =
    ap (λ (l : List ℕ). slice_index l 0) (sym (drop_more file place 0 (not_past _ _ _ _ is)) ∙ is)

pub open_again : ReadWhereSpelled → Grows → (before batch : List Entry) (rest file : List ℕ)
    (gate : ℕ) → AreOctets file → IsBatch batch → IsArchive (before ++ batch)
    → drop gate file ≡ 165 ∷ (batch_octets batch ++ rest)
    → gate_at before file gate
    ≡ Ok (Some (before ++ batch, (gate + 1) + length (batch_octets batch)))
unfolding gate_at
open_again law grows before batch rest file gate all is_batch archive is =
    let there = not_past _ _ _ _ is in
    let behind = sym (drop-drop 1 gate file) ∙ ap (drop 1) is in
    let rest_is = rest_behind (batch_octets batch) rest file (gate + 1) behind in
    rw (
      lt-ltb gate (length file) there,
      eq-eqb (slice_index file gate) 165 (first_is 165 _ file gate is),
      batch_again law grows before batch file (gate + 1) (gate + 1 + length (batch_octets batch))
          all is_batch archive refl (cc (behind, rest_is)) (omega (arith, there)),
    ) refl

pub shut_again : (before : List Entry) (rest file : List ℕ) (gate shut : ℕ) → shut ≢ 165
    → drop gate file ≡ shut ∷ rest → gate_at before file gate ≡ Ok None
unfolding gate_at
shut_again before rest file gate shut closed is =
    let first = first_is shut rest file gate is in
    let other : (slice_index file gate == 165) ≡ false = grind (arith, nat_tests, first, closed) in
    rw (lt-ltb gate (length file) (not_past _ _ _ _ is), other) refl

-- what follows batches that lead a file which stands for entries
pub behind_led : ReadBack → (entries whole : List Entry) (gate place : ℕ) (file : List ℕ)
    (led : LedTo gate entries file) (stands : StandsAt whole place file)
    → Follows led.batches stands.batches (drop gate file) (stands.gate ∷ stands.rest)
behind_led back entries whole gate place file led stands =
    follows_led back _ _ _ _ _ led.leads.each stands.leads.each stands.shut
    (same_rest header _ _ (sym led.is ∙ stands.is))

-- the entries behind those that were read
pub entries_behind : (entries whole : List Entry) (gate place : ℕ) (file rest behind : List ℕ)
    (led : LedTo gate entries file) (stands : StandsAt whole place file)
    (follows : Follows led.batches stands.batches rest behind)
    → whole ≡ entries ++ joined follows.more
entries_behind entries whole gate place file rest behind led stands follows =
    cc (
      stands.leads.entries_are,
      follows.batches,
      joined-append led.batches follows.more,
      led.leads.entries_are,
    )

-- a batch, or a gate that isn't open, is read where it stands
pub read_there : ReadWhereSpelled → Grows → (before : List Entry) (more : List (List Entry))
    (file rest : List ℕ) (gate shut : ℕ) → AreOctets file → AllByRecursion IsBatch more
    → IsArchive (before ++ joined more) → shut ≢ 165 → drop gate file ≡ gated more ++ shut ∷ rest
    → (found : Option (List Entry × ℕ)) × (gate_at before file gate ≡ Ok found)
read_there law grows before [] file rest gate shut all each archive closed is =
    (None, shut_again before rest file gate shut closed is)
read_there law grows before (b ∷ bs) file rest gate shut all each archive closed is = (
  Some (before ++ b, (gate + 1) + length (batch_octets b)),
  open_again law grows before b (gated bs ++ shut ∷ rest) file gate all each.0
      (archive_front grows (before ++ b) (joined bs) (rw append_assoc archive))
      (rw append_assoc at is),
)

-- ---- one place

module _ (law : ReadWhereSpelled) (back : ReadBack) (grows : Grows) (file : List ℕ)
    (all : AreOctets file) where
  -- a batch that stands at a gate with a fault
  no_batch : (before batch : List Entry) (others : List (List Entry)) (rest : List ℕ) (gate : ℕ)
      (fault : JournalFault) → IsBatch batch → IsArchive (before ++ (batch ++ joined others))
      → drop gate file ≡ 165 ∷ ((batch_octets batch ++ gated others) ++ rest)
      → gate_at before file gate ≡ Err fault → ⊥
  no_batch before batch others rest gate fault is_batch archive is e =
      cc (
        open_again law grows before batch (gated others ++ rest) file gate all is_batch
            (archive_front grows (before ++ batch) (joined others) (rw append_assoc archive))
            (rw append_assoc at is),
        e,
      )

  pub one_damage : (one other : List (List Entry)) (before : List Entry) (g h p q : ℕ)
      → AllByRecursion IsBatch one → AllByRecursion IsBatch other
      → IsArchive (before ++ joined one) → IsArchive (before ++ joined other)
      → gated one ++ drop g file ≡ gated other ++ drop h file
      → g + length (gated other) ≡ h + length (gated one)
      → gate_at (before ++ joined one) file g ≡ Err (Damaged p)
      → gate_at (before ++ joined other) file h ≡ Err (Damaged q) → p ≡ q
  one_damage [] [] before g h p q first second a b same places e f =
      let gates : g ≡ h = omega (arith, places) in
      cc
  one_damage [] (y ∷ ys) before g h p q first second a b same places e f =
      absurd (no_batch before y ys (drop h file) g (Damaged p) second.0 b same
      (rw append-nil at e))
  one_damage (x ∷ xs) [] before g h p q first second a b same places e f =
      absurd (no_batch before x xs (drop g file) h (Damaged q) first.0 a (sym same)
      (rw append-nil at f))
  one_damage (x ∷ xs) (y ∷ ys) before g h p q first second a b same places e f =
      let found = same_batch back x y _ _ first.0 second.0 (simp append_assoc at (tail_of same)) in
      one_damage xs ys (before ++ x) g h p q first.1 second.1
      (rw append_assoc a) (rw (append_assoc, found.0) b) found.1
      (omega (
        arith,
        places,
        ap (λ (l : List Entry). length (batch_octets l)) found.0,
        length-append (batch_octets x) (gated xs),
        length-append (batch_octets y) (gated ys),
      ))
      (rw append_assoc e) (rw (append_assoc, found.0) f)
