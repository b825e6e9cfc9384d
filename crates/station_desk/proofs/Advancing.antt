-- From one buffer of a START to the next, by the rounds for which its delivery stands.
use Rattle.std.proofs.Common.{◌≡◌, ℕ, ◌+◌, ◌<◌, ◌≤◌, Bool, true, false, cond, nat_lt, IsTrue}
use Rattle.std.proofs.Common.{IsFalse, Some, None, List, [], ◌∷◌, ◌++◌, length, take, get_or, refl}
use Rattle.std.proofs.Common.{sym, ap, ◌∙◌, arith}
use Rattle.std.proofs.lemmas.Bool.Decides.{nat_tests}
use Rattle.std.proofs.lemmas.List.{length-take, length-append, take_all, take_more}
use Rattle.std.proofs.lemmas.List.{append_cancel_left}
use Rattle.archive_terms.specs.Archive.{Entry}
use Rattle.archive_terms.specs.Selection.{Selection}
use Rattle.archive_terms.specs.Delivery.{Terms}
use Rattle.archive_terms.specs.Rounds.{Answer, whole, free, Round, last_front}
use Rattle.return_core.specs.Course.{Course, with_answer, is_offering}
use Rattle.return_core.specs.Standing.{goes_on, waiting_round, answered_round, StandsFor, Steps}
use Rattle.return_core.specs.Standing.{Settles, due_told}
use Rattle.station_desk.specs.ToldBuffer.{ToldBuffer}
use Rattle.station_desk.specs.Cursor.{terms_of, told_of, rounds, IsBetween, IsOnItsWay, IsRight}
use Rattle.station_desk.specs.Cursor.{at_next}
use Rattle.station_desk.proofs.Rounds.{OfflineRounds, rounds-more, last_front-rounds, next_told}
use Rattle.station_desk.proofs.Rounds.{all_told}

-- ---- the current buffer is taken

-- where none is offered nothing is done
idle : (c : Course) → is_offering c ≡ false → with_answer c whole ≡ c
idle c = elim c.run as (λ run. is_offering (record c { run = run }) ≡ false
    → with_answer (record c { run = run }) whole ≡ record c { run = run })
    [ None ↦ λ none. refl | Some r ↦ λ none. rw none refl ]

-- what an answer makes of a delivery with a round that waits
abbrev pub SettlesSo : Course → Course → Type 0
SettlesSo old new = (t : Terms) (entries : List Entry) (rounds : List Round) (front now : ℕ)
    → StandsFor old t entries (rounds ++ waiting_round front now ∷ [])
    → Settles old new t entries rounds front now whole

pub taken : (old new : Course) → new ≡ with_answer old whole → SettlesSo old new
    → (s : Selection) (entries : List Entry) (count : ℕ)
    → IsOnItsWay s entries count old (is_offering old) → IsBetween s entries count new
taken old new is settles s entries count way = by_case (is_offering old) refl way
  where
    by_case : (b : Bool) → is_offering old ≡ b → IsOnItsWay s entries count old b
        → IsBetween s entries count new
    by_case true offers at = record {
      made = at.before + 1;
      stands = rw (← rounds-more (length entries) at.before) ((settles (terms_of s) entries
          (rounds (length entries) at.before) (length entries) 0 at.steps.stands).stands refl);
      handed = rw at.next refl;
    }
    by_case false none between = rw (is, idle old none) between

-- ---- the next one

-- a round whose buffer isn't due stands whatever its link would have answered
abbrev pub NotDue : Type 0
NotDue = (c : Course) (t : Terms) (entries : List Entry) (rounds : List Round)
    (front now : ℕ) (answer : Answer)
    → StandsFor c t entries (rounds ++ waiting_round front now ∷ []) → IsFalse (is_offering c)
    → IsTrue (goes_on (free answer))
    → StandsFor c t entries (rounds ++ answered_round front now answer ∷ [])

-- a look and a step
abbrev pub LooksSo : Course → Course → List Entry → Type 0
LooksSo old new entries = (t : Terms) (rounds : List Round) → StandsFor old t entries rounds
    → last_front t.selection.first rounds ≤ length entries
    → Steps new t entries rounds (length entries) 0

-- a cursor at the next buffer, or behind the last
next_is : (buffers : List ToldBuffer) (count n : ℕ) (had b : Bool) → b ≡ nat_lt count
    (length buffers) → n ≡ cond b (count + 1) count
    → record { buffers = buffers; count = n; has_current = b }
    ≡ at_next (record { buffers = buffers; count = count; has_current = had })
next_is buffers count n had b has more = cc

module _ (law : OfflineRounds) (not_due : NotDue) (s : Selection) (entries : List Entry)
    (before old new : Course) (looks : LooksSo old new entries) (count : ℕ)
    (right : IsRight s entries count before) (between : IsBetween s entries count old) where
  abbrev told : List ToldBuffer
  told = told_of s entries

  abbrev due : ToldBuffer
  due = due_told (terms_of s) entries (rounds (length entries) between.made) (length entries) 0

  steps : Steps new (terms_of s) entries (rounds (length entries) between.made) (length entries) 0
  steps = looks (terms_of s) (rounds (length entries) between.made) between.stands
      (last_front-rounds s.first (length entries) between.made between.stands.first)

  -- the next one is current, or none is behind the last, with the count of those handed over
  pub advanced : (n : ℕ) (had b : Bool) → is_offering new ≡ b → n ≡ count + cond b 1 0
      → IsRight s entries n new × (record { buffers = told; count = n; has_current = b }
      ≡ at_next (record { buffers = told; count = count; has_current = had }))
  advanced n had true offers next =
      let more : take (between.made + 1) told ≡ take between.made told ++ due ∷ [] =
      next_told law (terms_of s) entries (omega arith) refl between.made
      (sym steps.offers ∙ offers) in
      let longer = ap length more in
      let sum = length-append (take between.made told) (due ∷ []) in
      let same = ap length between.handed in
      let below : between.made < length told = omega (arith, length-take {A = ToldBuffer}) in
      let is : between.made ≡ count = omega (arith, length-take {A = ToldBuffer}) in
      let last : get_or told between.made [] ∷ [] ≡ due ∷ [] =
      append_cancel_left (take between.made told) _ _
      (sym (take_more told between.made [] below) ∙ more) in (
        record {
          readable = right.readable;
          within = omega arith;
          on_its_way = rw offers (record {
            before = between.made;
            next = omega arith;
            steps = steps;
            held = cc (steps.items offers);
          });
        },
        next_is told count n had true (grind (arith, nat_tests)) (omega arith),
      )
  advanced n had false none next =
      let all : take between.made told ≡ told = all_told law (terms_of s) entries (omega arith) refl
      between.made (sym steps.offers ∙ none) in
      let same = ap length (sym between.handed ∙ all) in
      let whole_is = ap length all in
      let past : length told ≤ between.made + 1 = omega (arith, length-take {A = ToldBuffer}) in
      let is : count ≡ length told = omega (arith, length-take {A = ToldBuffer}, right.within) in (
        record {
          readable = right.readable;
          within = omega arith;
          on_its_way = rw none (record {
            made = between.made + 1;
            stands = rw (← rounds-more (length entries) between.made)
                (not_due new (terms_of s) entries (rounds (length entries) between.made)
                (length entries) 0 whole steps.stands none refl);
            handed = take_all (between.made + 1) told past ∙ sym (take_all n told (omega arith));
          });
        },
        next_is told count n had false (grind (arith, nat_tests)) (omega arith),
      )
