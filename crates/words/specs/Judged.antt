-- A row with the cause why it is refused: a wrong number of words, else a word that is none of its
-- kind.
use Rattle.std.proofs.Common.{◌≡◌, ℕ, inl, inr, Bool, true, false, ◌&&◌, if◌then◌else◌, nat_le}
use Rattle.std.proofs.Common.{List, length, Option, Some, None, Result, Ok, Err, refl, ap}
use Rattle.std.proofs.lemmas.Bool.{le-leb}
use Rattle.words.specs.Row.{Row}
use Rattle.words.specs.Steps.{ok_is, chosen}
use Rattle.words.specs.declared.cause.Cause.{Cause}
use Rattle.words.specs.declared.cause.Cause.TheVariants.{Count, Word}

abbrev pub found : {X : Type 0} → Option X → Result X Cause
found None = Err Word
found (Some x) = Ok x

abbrev pub takes : {X : Type 0} → Row X → List (List ℕ) → Bool
takes r ws = nat_le r.least (length ws) && nat_le (length ws) r.most

abbrev pub judged : {X : Type 0} → Row X → List (List ℕ) → Result X Cause
judged r ws = if takes r ws then found (r.read ws) else Err Count

pub err_ok : {A B X : Type 0} {cause : B} {x : A} → ◌≡◌ {A = Result A B} (Err cause) (Ok x) → X
err_ok e = absurd cc

found_ok : {X : Type 0} (o : Option X) (x : X) → found o ≡ Ok x → o ≡ Some x
found_ok None x e = err_ok e
found_ok (Some y) x e = ap Some (ok_is y x e)

pub and_so : (a b : Bool) → a ≡ true → b ≡ true → (a && b) ≡ true
and_so true b e f = f
and_so false b e f = absurd cc

module _ {X : Type 0} (r : Row X) (ws : List (List ℕ)) (x : X) where
  pub judged_is : judged r ws ≡ Ok x → r.Fits x × r.Spells x ws
  judged_is e = elim (chosen (takes r ws) (found (r.read ws)) (Err Count) (Ok x) e)
      [ inl h ↦ r.is_spelled ws x (found_ok (r.read ws) x h.1) | inr h ↦ err_ok h.1 ]

  pub judged_again : r.Fits x → r.Spells x ws → judged r ws ≡ Ok x
  judged_again fits spells =
      let n = r.counted ws x fits spells in
      rw (
        and_so (nat_le r.least (length ws)) (nat_le (length ws) r.most)
            (le-leb r.least (length ws) n.0) (le-leb (length ws) r.most n.1),
        r.is_read ws x fits spells,
      ) refl

-- a row that is read, or not, with its causes
pub judged_some : {X : Type 0} (r : Row X) (ws : List (List ℕ)) (x : X) → r.read ws ≡ Some x
    → judged r ws ≡ Ok x
judged_some r ws x e = let h = r.is_spelled ws x e in judged_again r ws x h.0 h.1

pub judged_none : {X : Type 0} (r : Row X) (ws : List (List ℕ)) → r.read ws ≡ None
    → (cause : Cause) × (judged r ws ≡ Err cause)
judged_none r ws e = elim (takes r ws) as (λ b. (cause : Cause)
    × ((if b then found (r.read ws) else Err Count) ≡ Err cause))
    [ true ↦ (Word, ap found e) | false ↦ (Count, refl) ]
