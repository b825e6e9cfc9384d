-- The promises of a whole script, from the facts of each of its lines: proved once, for any lines.
use Rattle.std.proofs.Common.{◌≡◌, ℕ, suc, ◌+◌, Bool, true, false, ◌&&◌, IsTrue, List, [], ◌∷◌}
use Rattle.std.proofs.Common.{◌++◌, length, refl, sym, ap, subst, ◌∙◌, append_assoc, zero-add}
use Rattle.std.proofs.Common.{arith}
use Rattle.script_store.specs.declared.step_done.StepDone.{StepDone}
use Rattle.script_store.specs.declared.step_done.StepDone.TheVariants.{Fine, Full, WrongState}
use Rattle.station_law.specs.State.{State}
use Rattle.script_store.specs.Said.{texts}
use Rattle.script_store.specs.Answer.{Answer}
use Rattle.station_law.specs.Sound.{IsSound, Keeps}
use Rattle.station_law.specs.Runs.{text_behind, ending_behind, is_fine, in_store, is_in_order}
use Rattle.station_law.specs.Runs.{transcript_from, ending, in_order, all_fine, after, handed_after}
use Rattle.station_law.specs.Runs.{ending_of, AreTold}

-- each line brings its facts
abbrev pub IsLawful : {L : Type 0} → (State → L → Answer State) → Type 0
IsLawful {L} step =
    (state : State) (line : L) → IsSound state.store
    → Keeps state.store (in_store (step state line))

-- ---- tests and texts

and_left : (a b : Bool) → IsTrue (a && b) → IsTrue a
and_left true b h = refl
and_left false b h = h

and_right : (a b : Bool) → IsTrue (a && b) → IsTrue b
and_right true b h = h
and_right false b h = absurd cc

split_text : (done : StepDone) (number : ℕ) (text a b rest : List ℕ) → IsTrue (is_in_order done)
    → a ≡ b ++ rest
    → text ++ text_behind done number a ≡ (text ++ text_behind done number b) ++ rest
split_text Fine number text a b rest good is =
    ap (λ t. text ++ t) is ∙ sym (append_assoc text b rest)
split_text Full number text a b rest good is =
    ap (λ t. text ++ t) is ∙ sym (append_assoc text b rest)
split_text WrongState number text a b rest good is = absurd cc

ending_on : (one : StepDone) (good fine : Bool)
    → ending_behind one (ending_of good fine)
    ≡ ending_of (is_in_order one && good) (is_fine one && fine)
ending_on Fine good fine = refl
ending_on Full false fine = refl
ending_on Full true true = refl
ending_on Full true false = refl
ending_on WrongState good fine = refl

-- ---- how a script ends

module _ {L : Type 0} (step : State → L → Answer State) where
  pub ending_is : (state : State) (lines : List L)
      → ending step state lines ≡ ending_of (in_order step state lines) (all_fine step state lines)
  ending_is state [] = refl
  ending_is state (line ∷ lines) =
      ap (ending_behind (step state line).done) (ending_is (step state line).next lines)
      ∙ ending_on (step state line).done (in_order step (step state line).next lines)
      (all_fine step (step state line).next lines)

-- ---- what holds behind any lines

module _ {L : Type 0} (step : State → L → Answer State) (lawful : IsLawful step) where
  behind : (state : State) (lines : List L) → IsSound state.store
      → IsSound (after step state lines).store
  behind state [] sound = sound
  behind state (line ∷ lines) sound =
      behind (step state line).next lines (lawful state line sound).sound

  -- ---- the text

  split : (number : ℕ) (state : State) (earlier later : List L)
      → IsTrue (in_order step state earlier)
      → transcript_from step number state (earlier ++ later)
      ≡ transcript_from step number state earlier
      ++ transcript_from step (length earlier + number) (after step state earlier) later
  split number state [] later good =
      ap (λ n. transcript_from step n state later) (sym (zero-add number))
  split number state (line ∷ earlier) later good =
      let count : length earlier + (number + 1) ≡ suc (length earlier) + number = omega arith in
      split_text (step state line).done number (texts (step state line).said)
      (transcript_from step (number + 1) (step state line).next (earlier ++ later))
      (transcript_from step (number + 1) (step state line).next earlier)
      (transcript_from step (suc (length earlier) + number)
      (after step (step state line).next earlier) later)
      (and_left (is_in_order (step state line).done) _ good)
      (subst (λ n. transcript_from step (number + 1) (step state line).next (earlier ++ later)
      ≡ transcript_from step (number + 1) (step state line).next earlier
      ++ transcript_from step n (after step (step state line).next earlier) later) count
      (split (number + 1) (step state line).next earlier later
      (and_right (is_in_order (step state line).done) _ good)))

  -- ---- each line

  pub told : (first : State) (lines : List L) → IsSound first.store → AreTold step first lines
  told first lines sound = λ earlier later line are good.
      let here = lawful (after step first earlier) line (behind first earlier sound) in
      record {
        text = split 1 first earlier (line ∷ later) good;
        whole = here.whole (handed_after step first [] earlier);
      }
