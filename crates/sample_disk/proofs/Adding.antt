-- What a file of octets behind gates stands for, while one more is written.
use Rattle.std.proofs.Common.{◌≡◌, ◌≢◌, ◌⊎◌, inl, inr, ℕ, ◌+◌, ◌*◌, ◌<◌, ◌≤◌, List, [], ◌∷◌, ◌++◌}
use Rattle.std.proofs.Common.{length, take, drop, slice_index, Option, Some}
use Rattle.std.proofs.Common.{None, option_map, refl, sym, ◌∙◌, ap, subst, arith, append_assoc}
use Rattle.std.proofs.lemmas.Bool.{cases_eq}
use Rattle.std.proofs.lemmas.List.{take_at, set_at}
use Rattle.std.proofs.lemmas.List.{take-append-drop, length-append}
use Rattle.disk_model.specs.Images.{Pending, IsImage, all_synced, with_range, overwritten}
use Rattle.disk_model.specs.Images.{written_and_synced}
use Rattle.disk_model.specs.Moments.{IsImageOf}
use Rattle.disk_model.specs.Facts.Images.{written_behind, only_synced, as_before, but_for_one}
use Rattle.sample_disk.specs.Gated.{gated, StandsFor, Keeps, IsAtRest, IsOldOrNew}
use Rattle.sample_disk.proofs.Files.{length-gated, gated-append, stands_for_one}

module _ (octets rest : List ℕ) (octet shut gate : ℕ) (place : gate ≡ 2 * length octets) where
  -- a file that stands for octets, and the same with the new octet behind its gate
  abbrev old_file : List ℕ
  old_file = gated octets ++ shut ∷ rest

  abbrev behind : List ℕ
  behind = octet ∷ 0 ∷ drop 2 rest

  gate_is : length (gated octets) ≡ gate
  gate_is = omega (arith, length-gated octets, place)

  front_length : length (gated octets ++ shut ∷ []) ≡ gate + 1
  front_length = omega (arith, gate_is, length-append (gated octets) (shut ∷ []))

  old_length : gate + 1 ≤ length old_file
  old_length = omega (arith, gate_is, length-append (gated octets) (shut ∷ rest))

  new_length : gate < length (gated octets ++ shut ∷ behind)
  new_length = omega (arith, gate_is, length-append (gated octets) (shut ∷ behind))

  split_old : old_file ≡ (gated octets ++ shut ∷ []) ++ rest
  split_old = sym (append_assoc (gated octets) (shut ∷ []) rest)

  octet_written : overwritten old_file (gate + 1) (octet ∷ 0 ∷ []) ≡ gated octets ++ shut ∷ behind
  octet_written =
      ap (λ (file : List ℕ). overwritten file (gate + 1) (octet ∷ 0 ∷ [])) split_old
      ∙ written_behind (gated octets ++ shut ∷ []) rest (octet ∷ 0 ∷ []) (gate + 1) front_length
      ∙ append_assoc (gated octets ++ shut ∷ []) (octet ∷ 0 ∷ []) (drop 2 rest)
      ∙ append_assoc (gated octets) (shut ∷ []) behind

  with_octet : gated octets ++ 165 ∷ behind ≡ gated (octets ++ octet ∷ []) ++ 0 ∷ drop 2 rest
  with_octet =
      sym (append_assoc (gated octets) (165 ∷ octet ∷ []) (0 ∷ drop 2 rest))
      ∙ ap (λ (front : List ℕ). front ++ 0 ∷ drop 2 rest) (sym (gated-append octets (octet ∷ [])))

  gate_written : overwritten (gated octets ++ shut ∷ behind) gate (165 ∷ [])
      ≡ gated (octets ++ octet ∷ []) ++ 0 ∷ drop 2 rest
  gate_written =
      written_behind (gated octets) (shut ∷ behind) (165 ∷ []) gate gate_is
      ∙ append_assoc (gated octets) (165 ∷ []) behind ∙ with_octet

  stands_new : (file : List ℕ) → file ≡ gated octets ++ 165 ∷ behind
      → StandsFor (octets ++ octet ∷ []) file
  stands_new file is = record {
    gate = 0;
    rest = drop 2 rest;
    shut = λ same. cc;
    is = is
        ∙ with_octet;
  }

  -- behind the closed gate all is free
  during_first : shut ≢ 165 → (image : List ℕ)
      → IsImage (with_range (gate + 1) 2 [] (all_synced old_file)) image → StandsFor octets image
  during_first closed image is =
      let front : take (gate + 1) image ≡ gated octets ++ shut ∷ [] =
      as_before old_file image (gate + 1) 2 old_length is ∙ ap (take (gate + 1)) split_old
      ∙ take_at (gated octets ++ shut ∷ []) rest (gate + 1) front_length in
      record {
        gate = shut;
        rest = drop (gate + 1) image;
        shut = closed;
        is = sym (take-append-drop (gate + 1) image)
            ∙ ap (λ (f : List ℕ). f ++ drop (gate + 1) image) front
            ∙ append_assoc (gated octets) (shut ∷ []) (drop (gate + 1) image);
      }

  open_or_not : (image : List ℕ) (value : ℕ) → image ≡ gated octets ++ value ∷ behind
      → (value ≡ 165) ⊎ (value ≢ 165) → IsOldOrNew octets octet image
  open_or_not image value is (inl open_) = inr
      (stands_new image (is ∙ ap (λ (v : ℕ). gated octets ++ v ∷ behind) open_))
  open_or_not image value is (inr closed) = inl
      (record { gate = value; rest = behind; shut = closed; is = is })

  -- and then the gate alone
  during_second : (image : List ℕ)
      → IsImage (with_range gate 1 [] (all_synced (gated octets ++ shut ∷ behind))) image
      → IsOldOrNew octets octet image
  during_second image is =
      open_or_not image (slice_index image gate)
      (but_for_one (gated octets ++ shut ∷ behind) image gate new_length is
      ∙ set_at (gated octets) shut behind (slice_index image gate) gate gate_is)
      (cases_eq (slice_index image gate) 165)

pub kept_image : (pending : Option Pending) (octets image : List ℕ) → Keeps pending octets
    → IsImageOf pending image → StandsFor octets image
kept_image (Some told) octets image keeps is =
    subst (StandsFor octets) (sym (only_synced told.content image
    (subst (λ (p : Pending). IsImage p image) keeps.0 is))) keeps.1
kept_image None octets image keeps is = absurd is

-- the place of the gate is that behind the octets
place_of : (told : Pending) (octets : List ℕ) (gate : ℕ) → IsAtRest (Some told) gate
    → Keeps (Some told) octets → gate ≡ 2 * length octets
place_of told octets gate at_rest keeps =
    at_rest.2 ∙ ap (λ (l : List ℕ). 2 * length l)
    (stands_for_one at_rest.0 octets told.content at_rest.1.1 keeps.1)

-- the whole of it over what a disk tells
pub first_holds : (old : Option Pending) (gate octet : ℕ) → IsAtRest old gate → (octets : List ℕ)
    → Keeps old octets → (image : List ℕ)
    → IsImageOf (option_map (with_range (gate + 1) 2 []) old) image → IsOldOrNew octets octet image
first_holds (Some told) gate octet at_rest octets keeps image is =
    inl (during_first octets keeps.1.rest octet keeps.1.gate gate
    (place_of told octets gate at_rest keeps) keeps.1.shut image
    (subst (λ (p : Pending). IsImage (with_range (gate + 1) 2 [] p) image) (keeps.0
    ∙ ap all_synced keeps.1.is) is))
first_holds None gate octet at_rest octets keeps image is = absurd keeps

staged : (told : Pending) (mid : Option Pending) (gate octet : ℕ) (octets : List ℕ)
    (keeps : Keeps (Some told) octets) → gate ≡ 2 * length octets
    → mid ≡ Some (written_and_synced (gate + 1) (octet ∷ 0 ∷ []) told)
    → mid ≡ Some (all_synced (gated octets ++ keeps.1.gate ∷ octet ∷ 0 ∷ drop 2 keeps.1.rest))
staged told mid gate octet octets keeps place mid_is =
    mid_is ∙ ap (λ (file : List ℕ). Some (all_synced
    (overwritten file (gate + 1) (octet ∷ 0 ∷ [])))) keeps.1.is
    ∙ ap (λ (file : List ℕ). Some (all_synced file))
    (octet_written octets keeps.1.rest octet keeps.1.gate gate place)

pub second_holds : (old mid : Option Pending) (gate octet : ℕ) → IsAtRest old gate
    → mid ≡ option_map (written_and_synced (gate + 1) (octet ∷ 0 ∷ [])) old
    → (octets : List ℕ) → Keeps old octets → (image : List ℕ)
    → IsImageOf (option_map (with_range gate 1 []) mid) image → IsOldOrNew octets octet image
second_holds (Some told) mid gate octet at_rest mid_is octets keeps image is =
    let place = place_of told octets gate at_rest keeps in
    during_second octets keeps.1.rest octet keeps.1.gate gate place image
    (subst (λ (p : Option Pending). IsImageOf (option_map (with_range gate 1 []) p) image)
    (staged told mid gate octet octets keeps place mid_is) is)
second_holds None mid gate octet at_rest mid_is octets keeps image is = absurd keeps

pub added : (old mid new : Option Pending) (gate octet : ℕ) → IsAtRest old gate
    → mid ≡ option_map (written_and_synced (gate + 1) (octet ∷ 0 ∷ [])) old
    → new ≡ option_map (written_and_synced gate (165 ∷ [])) mid → (octets : List ℕ)
    → Keeps old octets → Keeps new (octets ++ octet ∷ [])
added (Some told) mid new gate octet at_rest mid_is new_is octets keeps =
    let place = place_of told octets gate at_rest keeps in
    let file = gated (octets ++ octet ∷ []) ++ 0 ∷ drop 2 keeps.1.rest in
    let is : new ≡ Some (all_synced file) =
    new_is ∙ ap (option_map (written_and_synced gate (165 ∷ [])))
    (staged told mid gate octet octets keeps place mid_is)
    ∙ ap (λ (f : List ℕ). Some (all_synced f))
    (gate_written octets keeps.1.rest octet keeps.1.gate gate place) in
    subst (λ (p : Option Pending). Keeps p (octets ++ octet ∷ [])) (sym is)
    (refl, record { gate = 0; rest = drop 2 keeps.1.rest; shut = λ same. cc; is = refl })
added None mid new gate octet at_rest mid_is new_is octets keeps = absurd keeps

at_rest_at : (new : Option Pending) (octets : List ℕ) (gate : ℕ) → Keeps new octets
    → gate ≡ 2 * length octets → IsAtRest new gate
at_rest_at (Some told) octets gate keeps place = (octets, keeps, place)
at_rest_at None octets gate keeps place = absurd keeps

pub rests_again : (old mid new : Option Pending) (gate octet : ℕ) → IsAtRest old gate
    → mid ≡ option_map (written_and_synced (gate + 1) (octet ∷ 0 ∷ [])) old
    → new ≡ option_map (written_and_synced gate (165 ∷ [])) mid → IsAtRest new (gate + 2)
rests_again (Some told) mid new gate octet at_rest mid_is new_is =
    at_rest_at new (at_rest.0 ++ octet ∷ []) (gate + 2)
    (added (Some told) mid new gate octet at_rest mid_is new_is at_rest.0 at_rest.1)
    (omega (arith, at_rest.2, length-append at_rest.0 (octet ∷ [])))
rests_again None mid new gate octet at_rest mid_is new_is =
    subst (λ (p : Option Pending). IsAtRest p (gate + 2))
    (sym (new_is ∙ ap (option_map (written_and_synced gate (165 ∷ []))) mid_is)) tt
