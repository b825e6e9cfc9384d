-- A part of a file, in which a batch is read by itself.
use Rattle.std.proofs.Common.{◌≡◌, ◌≢◌, ◌⊎◌, inl, inr, ℕ, ◌+◌, ◌≤◌, ◌<◌, List}
use Rattle.std.proofs.Common.{[]}
use Rattle.std.proofs.Common.{◌∷◌, ◌++◌, length, take, drop, slice_index, Option, Some, None}
use Rattle.std.proofs.Common.{Ok, refl, sym, ap, ◌∙◌, arith, append_assoc}
use Rattle.std.specs.List.{AllByRecursion}
use Rattle.std.specs.Int.{w32, from_be_bytes}
use Rattle.std.proofs.lemmas.List.{append-nil, take-append-drop, take-append-le, drop-append-le}
use Rattle.std.proofs.lemmas.List.{drop-drop, drop_all, drop_more, length-append, length-drop}
use Rattle.std.proofs.lemmas.List.{take_at}
use Rattle.archive_terms.specs.Archive.{Entry, IsArchive}
use Rattle.record_form.specs.Reading.{AreOctets, ReadWhereSpelled}
use Rattle.gate_journal.specs.File.{batch_octets, entries_octets, IsBatch, gated, joined}
use Rattle.gate_journal.specs.Reading.{gate_at, size_at}
use Rattle.gate_journal.specs.Batches.{HoldsBatch}
use Rattle.gate_journal.proofs.Growth.{Grows, Opened}
use Rattle.gate_journal.proofs.Again.{archive_front, open_again, shut_again, not_past, first_is}
use Rattle.gate_journal.proofs.Again.{size_of_batch}

-- octets that begin with others
begins : (x more front rest : List ℕ) → x ++ more ≡ front ++ rest → length front ≤ length x
    → x ≡ front ++ drop (length front) x
begins x more front rest same long =
    sym (take-append-drop (length front) x)
    ∙ ap (λ (l : List ℕ). l ++ drop (length front) x)
    (sym (take-append-le (length front) x more long) ∙ ap (take (length front)) same
    ∙ take_at front rest (length front) refl)

-- a part of a file from a place on, and a place in it
module _ (file window : List ℕ) (start at : ℕ)
    (part : window ≡ take (length window) (drop start file)) (within : at ≤ length window) where
  abbrev past : List ℕ
  past = drop (start + length window) file

  whole : (n : ℕ) → n ≤ length window → drop (start + n) file ≡ drop n window ++ past
  whole n inside =
      sym (drop-drop n start file)
      ∙ ap (drop n) (sym (take-append-drop (length window) (drop start file))
      ∙ ap (λ (l : List ℕ). l ++ drop (length window) (drop start file)) (sym part)
      ∙ ap (λ (l : List ℕ). window ++ l) (drop-drop (length window) start file))
      ∙ drop-append-le n window past inside

  -- a batch that stands in the part stands in the file
  pub open_shown : (before after : List Entry) (end : ℕ) (found : Opened before after window at end)
      → end ≤ length window
      → drop (start + at) file ≡ 165 ∷ (batch_octets found.batch ++ drop (start + end) file)
  open_shown before after end found inside =
      rw (whole at within, found.spelled, whole end inside, append_assoc) refl

  -- and so does a gate
  pub shut_shown : at < length window → (start + at < length file)
      × (slice_index file (start + at) ≡ slice_index window at)
  shut_shown there =
      let same = whole at within ∙ ap (λ (l : List ℕ). l ++ past) (drop_more window at 0 there) in
      (not_past _ _ _ _ same, first_is _ _ file (start + at) same)

  -- nothing of the file stands behind a part that goes to its end
  at_end : length file ≤ start + length window → drop (start + at) file ≡ drop at window
  at_end long = rw (whole at within, drop_all (start + length window) file long, append-nil) refl

  module _ (law : ReadWhereSpelled) (grows : Grows) (all : AreOctets window)
      (holds : HoldsBatch window at ⊎ (length file ≤ start + length window)) where
    module _ (octet : ℕ) (rest : List ℕ) (is : drop (start + at) file ≡ octet ∷ rest) where
      -- there is a gate in the part where there is one in the file
      gate_there : at < length window
      gate_there = elim holds [
        | inl held ↦ held.0
        | inr long ↦ not_past at window octet rest (sym (at_end long) ∙ is)
      ]

      gate_same : slice_index window at ≡ octet
      gate_same = sym (shut_shown gate_there).1 ∙ first_is _ _ file (start + at) is

      gate_is : drop at window ≡ octet ∷ drop (at + 1) window
      gate_is = rw (drop_more window at 0 gate_there, gate_same) refl

      behind_gate : drop (at + 1) window ++ past ≡ rest
      behind_gate =
          sym (whole (at + 1) (omega (arith, gate_there)))
          ∙ ap (λ (n : ℕ). drop n file) (omega arith)
          ∙ sym (drop-drop 1 (start + at) file) ∙ ap (drop 1) is

    module _ (batch : List Entry) (rest : List ℕ) (is_batch : IsBatch batch)
        (is : drop (start + at) file ≡ 165 ∷ (batch_octets batch ++ rest)) where
      -- the part has all of a batch that the file has
      long_enough : length (batch_octets batch) ≤ length (drop (at + 1) window)
      long_enough =
          let behind = behind_gate _ _ is in
          elim holds [
            | inl held ↦ elim held.1 [
              | inl shut ↦ absurd (shut (gate_same _ _ is))
              | inr long ↦
                  let sized : size_at window (at + 1) ≡ length (entries_octets batch) =
                  ap (from_be_bytes w32) (sym (take-append-le 4 (drop (at + 1) window) past
                  (omega (arith, long, length-drop (at + 1) window)))
                  ∙ ap (take 4) behind) ∙ size_of_batch batch rest is_batch in
                  omega (arith, long, sized, length-drop (at + 1) window)
            ]
            | inr long ↦ omega (
              arith,
              ap length behind,
              length-append (batch_octets batch) rest,
              length-append (drop (at + 1) window) past,
              ap length (drop_all (start + length window) file long),
            )
          ]

      batch_there : drop at window ≡ 165 ∷ (batch_octets batch
          ++ drop (length (batch_octets batch)) (drop (at + 1) window))
      batch_there =
          gate_is _ _ is ∙ ap (λ (l : List ℕ). 165 ∷ l)
          (begins _ past (batch_octets batch) rest (behind_gate _ _ is) long_enough)

    -- what the file has at the gate is read in the part
    pub read_shown : (entries : List Entry) (more : List (List Entry)) (rest : List ℕ) (shut : ℕ)
        → AllByRecursion IsBatch more → IsArchive (entries ++ joined more) → shut ≢ 165
        → drop (start + at) file ≡ gated more ++ shut ∷ rest
        → (found : Option (List Entry × ℕ)) × (gate_at entries window at ≡ Ok found)
    read_shown entries [] rest shut each archive closed is =
        (None, shut_again entries _ window at shut closed (gate_is shut rest is))
    read_shown entries (b ∷ bs) rest shut each archive closed is = (
      Some (entries ++ b, (at + 1) + length (batch_octets b)),
      open_again law grows entries b _ window at all each.0
          (archive_front grows (entries ++ b) (joined bs) (rw append_assoc archive))
          (batch_there b _ each.0 (rw append_assoc at is)),
    )
