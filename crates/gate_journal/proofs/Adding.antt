-- What a file stands for while a batch is written behind its gate.
use Rattle.std.proofs.Common.{◌≡◌, ◌≢◌, inl, inr, ℕ, ◌+◌, List, [], ◌∷◌, ◌++◌}
use Rattle.std.proofs.Common.{length, take, drop, slice_index, Option, Some}
use Rattle.std.proofs.Common.{None, option_map, refl, sym, ◌∙◌, ap, subst, arith, append_assoc}
use Rattle.std.proofs.lemmas.Bool.{cases_eq}
use Rattle.std.proofs.lemmas.Grind.{common_steps}
use Rattle.std.proofs.lemmas.List.{take_at, set_at}
use Rattle.std.proofs.lemmas.List.{take-append-drop, length-append}
use Rattle.archive_terms.specs.Archive.{Entry, IsArchive}
use Rattle.record_form.specs.Reading.{ReadBack}
use Rattle.disk_model.specs.Images.{Pending, IsImage, all_synced, with_range, overwritten}
use Rattle.disk_model.specs.Images.{written_and_synced}
use Rattle.disk_model.specs.Moments.{IsImageOf}
use Rattle.disk_model.specs.Facts.Images.{written_behind, only_synced, as_before, but_for_one}
use Rattle.gate_journal.specs.File.{header, gated, batch_octets, IsBatch, Leads, StandsAt}
use Rattle.gate_journal.specs.File.{StandsFor, entries_octets}
use Rattle.gate_journal.specs.JournalState.{Keeps, IsAtRest, IsOldOrNew, IsInPlace, IsReady}
use Rattle.gate_journal.specs.JournalState.{closed_batch}
use Rattle.gate_journal.proofs.Growth.{gated_more, leads_more}
use Rattle.gate_journal.proofs.Unique.{stands_for_one}

-- what stands behind a gate once octets are written there
abbrev pub behind : List ℕ → List ℕ → List ℕ
behind rest octets = octets ++ drop (length octets) rest

-- ---- what such files stand for

abbrev pub front_of : List (List Entry) → List ℕ
front_of batches = header ++ gated batches

pub stands_closed : (batches : List (List Entry)) (entries : List Entry) (gate shut : ℕ)
    (rest file : List ℕ) → Leads batches entries gate → shut ≢ 165
    → file ≡ front_of batches ++ shut ∷ rest → StandsAt entries gate file
stands_closed batches entries gate shut rest file leads closed is = record {
  batches = batches;
  gate = shut;
  rest = rest;
  leads = leads;
  shut = closed;
  is = is ∙ append_assoc header (gated batches) (shut ∷ rest);
}

stands_opened : (batches : List (List Entry)) (entries batch : List Entry) (gate : ℕ)
    (rest file : List ℕ) → Leads batches entries gate → IsBatch batch → IsArchive (entries ++ batch)
    → file ≡ front_of batches ++ 165 ∷ (closed_batch batch ++ rest)
    → StandsAt (entries ++ batch) (gate + length (closed_batch batch)) file
stands_opened batches entries batch gate rest file leads is_batch archive is = record {
  batches = batches ++ batch ∷ [];
  gate = 0;
  rest = rest;
  leads = leads_more batches entries batch gate _ leads is_batch archive
      (omega (arith, length-append (batch_octets batch) (0 ∷ [])));
  shut = λ same. cc;
  is = is ∙ rw (gated_more batches batch) (simp append_assoc);
}

pub closed_size : (batch : List Entry)
    → length (closed_batch batch) ≡ length (entries_octets batch) + 7
closed_size batch = grind (arith, common_steps)

-- a file in place stands for what it has
pub old_or_new : (entries batch : List Entry) (gate : ℕ) (file : List ℕ)
    → IsInPlace entries batch gate file → IsOldOrNew entries batch file
old_or_new entries batch gate file (inl old) = inl (gate, old)
old_or_new entries batch gate file (inr new) = inr (_, new)

pub kept_image : (pending : Option Pending) (entries : List Entry) (image : List ℕ)
    → Keeps pending entries → IsImageOf pending image → StandsFor entries image
kept_image (Some told) entries image keeps is =
    rw (only_synced told.content image (rw keeps.0 at is)) keeps.1
kept_image None entries image keeps is = absurd is

-- a disk at rest, as its front, its gate and the rest
module _ {told : Pending} {gate : ℕ} (at_rest : IsAtRest (Some told) gate) where
  abbrev held : StandsAt at_rest.1 gate told.content
  held = at_rest.2

  abbrev front : List ℕ
  front = front_of held.batches

  front_there : length front ≡ gate
  front_there = omega (arith, held.leads.there, length-append header (gated held.batches))

  content_is : told.content ≡ front ++ held.gate ∷ held.rest
  content_is = held.is ∙ sym (append_assoc header (gated held.batches) (held.gate ∷ held.rest))

  -- the file with this octet at its gate, and octets written behind it
  abbrev pub with_gate : ℕ → List ℕ → List ℕ
  with_gate value octets = front ++ value ∷ behind held.rest octets

  gate_length : length (front ++ held.gate ∷ []) ≡ gate + 1
  gate_length = omega (arith, front_there, length-append front (held.gate ∷ []))

  split : told.content ≡ (front ++ held.gate ∷ []) ++ held.rest
  split = content_is ∙ sym (append_assoc front (held.gate ∷ []) held.rest)

  pub written : (octets : List ℕ)
      → overwritten told.content (gate + 1) octets ≡ with_gate held.gate octets
  written octets =
      let put : overwritten ((front ++ held.gate ∷ []) ++ held.rest) (gate + 1) octets
      ≡ with_gate held.gate octets =
      written_behind (front ++ held.gate ∷ []) held.rest octets (gate + 1) gate_length
      ∙ simp append_assoc in
      ap (λ (file : List ℕ). overwritten file (gate + 1) octets) split ∙ put

  pub gate_over : (octets : List ℕ) (value : ℕ)
      → overwritten (with_gate held.gate octets) gate (value ∷ []) ≡ with_gate value octets
  gate_over octets value =
      written_behind front (held.gate ∷ behind held.rest octets) (value ∷ []) gate front_there
      ∙ append_assoc front (value ∷ []) (behind held.rest octets)

  mid_is : (octets : List ℕ) (mid : Option Pending)
      → mid ≡ Some (written_and_synced (gate + 1) octets told)
      → mid ≡ Some (all_synced (with_gate held.gate octets))
  mid_is octets mid is = is ∙ ap (λ (file : List ℕ). Some (all_synced file)) (written octets)

  new_is : (octets : List ℕ) (mid new : Option Pending)
      → mid ≡ Some (written_and_synced (gate + 1) octets told)
      → new ≡ option_map (written_and_synced gate (165 ∷ [])) mid
      → new ≡ Some (all_synced (with_gate 165 octets))
  new_is octets mid new mid_was new_was =
      rw (new_was, mid_is octets mid mid_was, gate_over octets 165) refl

  module _ (law : ReadBack) (entries : List Entry) (keeps : Keeps (Some told) entries) where
    leads : Leads held.batches entries gate
    leads = subst (λ (l : List Entry). Leads held.batches l gate)
        (stands_for_one law _ entries gate keeps.1.0 told.content held keeps.1.1).0 held.leads

    pub kept : StandsAt entries gate told.content
    kept = stands_closed held.batches entries gate held.gate held.rest _ leads held.shut content_is

    pub stands_gated : (octets : List ℕ) (value : ℕ) (file : List ℕ) → value ≢ 165
        → file ≡ with_gate value octets → StandsAt entries gate file
    stands_gated octets value file = stands_closed _ _ gate value _ file leads

    -- behind the closed gate all is free
    first_image : (count : ℕ) (image : List ℕ)
        → IsImage (with_range (gate + 1) count [] told) image → StandsAt entries gate image
    first_image count image is =
        let begins = as_before told.content image (gate + 1) count
        (omega (
          arith,
          gate_length,
          ap length split,
          length-append (front ++ held.gate ∷ []) held.rest,
        ))
        (subst (λ (p : Pending). IsImage (with_range (gate + 1) count [] p) image) at_rest.0 is)
        ∙ ap (take (gate + 1)) split ∙ take_at (front ++ held.gate ∷ []) held.rest _ gate_length in
        stands_closed _ _ gate held.gate (drop (gate + 1) image) image leads held.shut
        (cc (
          begins,
          take-append-drop (gate + 1) image,
          append_assoc front (held.gate ∷ []) (drop (gate + 1) image),
        ))

    module _ (octets : List ℕ) (batch : List Entry) (ready : IsReady (Some told) batch octets) where
      pub stands_whole : (file : List ℕ) → file ≡ with_gate 165 octets
          → StandsAt (entries ++ batch) (gate + length octets) file
      stands_whole file is =
          rw ready.spelled (stands_opened held.batches entries batch gate _ file leads
          ready.is_batch (ready.archive entries keeps) (rw ready.spelled at is))

      stands_behind : (file : List ℕ) → file ≡ with_gate 165 octets
          → StandsAt (entries ++ batch) (gate + (length (entries_octets batch) + 7)) file
      stands_behind file is = subst (λ (n : ℕ). StandsAt (entries ++ batch) (gate + n) file)
          (ap length ready.spelled ∙ closed_size batch) (stands_whole file is)

      -- and then the gate alone
      second_image : (image : List ℕ)
          → IsImage (with_range gate 1 [] (all_synced (with_gate held.gate octets))) image
          → IsInPlace entries batch gate image
      second_image image is =
          let past = behind held.rest octets in
          let there = but_for_one (with_gate held.gate octets) image gate
          (omega (arith, front_there, length-append front (held.gate ∷ past))) is
          ∙ set_at front held.gate past (slice_index image gate) gate front_there in
          elim (cases_eq (slice_index image gate) 165) [
            | inl opened ↦ inr (stands_behind image (rw opened at there))
            | inr closed ↦ inl (stands_gated octets _ image closed there)
          ]

-- ---- the whole of it over what a disk tells

pub first_holds : ReadBack → (old : Option Pending) (gate : ℕ) (octets : List ℕ) → IsAtRest old gate
    → (batch entries : List Entry) → Keeps old entries → (image : List ℕ)
    → IsImageOf (option_map (with_range (gate + 1) (length octets) []) old) image
    → IsInPlace entries batch gate image
first_holds law (Some told) gate octets at_rest batch entries keeps image is =
    inl (first_image at_rest law entries keeps _ image is)
first_holds law None gate octets at_rest batch entries keeps image is = absurd keeps

pub second_holds : ReadBack → (old mid : Option Pending) (gate : ℕ) (octets : List ℕ)
    → IsAtRest old gate → mid ≡ option_map (written_and_synced (gate + 1) octets) old
    → (batch : List Entry) → IsReady old batch octets → (entries : List Entry) → Keeps old entries
    → (image : List ℕ) → IsImageOf (option_map (with_range gate 1 []) mid) image
    → IsInPlace entries batch gate image
second_holds law (Some told) mid gate octets at_rest mid_was batch ready entries keeps image is =
    second_image at_rest law entries keeps octets batch ready image
    (rw (mid_is at_rest octets mid mid_was) at is)
second_holds law None mid gate octets at_rest mid_was batch ready entries keeps image is =
    absurd keeps

pub added : ReadBack → (old mid new : Option Pending) (gate : ℕ) (octets : List ℕ)
    → IsAtRest old gate → mid ≡ option_map (written_and_synced (gate + 1) octets) old
    → new ≡ option_map (written_and_synced gate (165 ∷ [])) mid → (batch : List Entry)
    → IsReady old batch octets → (entries : List Entry) → Keeps old entries
    → Keeps new (entries ++ batch)
added law (Some told) mid new gate octets at_rest mid_was new_was batch ready entries keeps =
    rw (new_is at_rest octets mid new mid_was new_was)
    (refl, (_, stands_whole at_rest law entries keeps octets batch ready _ refl))
added law None mid new gate octets at_rest mid_was new_was batch ready entries keeps = absurd keeps

pub rests_again : ReadBack → (old mid new : Option Pending) (gate : ℕ) (octets : List ℕ)
    → IsAtRest old gate → mid ≡ option_map (written_and_synced (gate + 1) octets) old
    → new ≡ option_map (written_and_synced gate (165 ∷ [])) mid → (batch : List Entry)
    → IsReady old batch octets → IsAtRest new (gate + length octets)
rests_again law (Some told) mid new gate octets at_rest mid_was new_was batch ready =
    rw (new_is at_rest octets mid new mid_was new_was) (
      refl,
      _,
      stands_whole at_rest law at_rest.1 (at_rest.0, (gate, at_rest.2)) octets batch ready _ refl,
    )
rests_again law None mid new gate octets at_rest mid_was new_was batch ready =
    rw (new_was, mid_was) tt
