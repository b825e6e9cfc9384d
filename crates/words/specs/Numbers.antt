-- A word that is the number of a value of a table.
use Rattle.std.proofs.Common.{◌≡◌, ℕ, List, Option, Some, refl, sym, ◌∙◌, ap, arith}
use Rattle.std.proofs.lemmas.Bool.{ltb-true}
use Rattle.std.specs.Char.{is_ascii_digit}
use Rattle.std.specs.Fmt.{decimal}
use Rattle.sle_numbers.specs.Numbered.{of_number, has_number, AreNumbered}
use Rattle.words.specs.Kind.{Kind}
use Rattle.words.specs.Number.{number_read, number_spelled, number_again, number_clean, IsWithin}
use Rattle.words.specs.Steps.{◌>>=◌, some_bind}

module _ {X : Type 0} (number_of : X → ℕ) (all : List X) (each : AreNumbered number_of all) where
  abbrev pub value_read : List ℕ → Option X
  value_read w = number_read 0 127 w >>= of_number number_of all

  pub within : (x : X) → IsWithin 0 127 (number_of x)
  within x = (omega arith, omega (arith, ltb-true (number_of x) 128 (each x).small))

  pub value_is : (w : List ℕ) (x : X) → value_read w ≡ Some x → w ≡ decimal (number_of x)
  value_is w x e =
      let found = some_bind (number_read 0 127 w) (of_number number_of all) x e in
      (number_spelled 0 127 w found.0 found.1).1
      ∙ ap decimal (sym (has_number number_of all found.0 x found.2))

  pub value_again : (w : List ℕ) (x : X) → w ≡ decimal (number_of x) → value_read w ≡ Some x
  value_again w x e =
      rw (number_again 0 127 w (number_of x) (within x) e) (each x).found

  abbrev pub numbered : Kind X
  numbered = record {
    read = value_read;
    write = λ x. decimal (number_of x);
    Fits = λ x. Unit {0};
    Spells = λ x w. w ≡ decimal (number_of x);
    alphabet = is_ascii_digit;
    is_spelled = λ w x e. (tt, value_is w x e);
    is_read = λ w x fits e. value_again w x e;
    canonical = λ x fits. refl;
    clean = λ w x fits e. number_clean 0 127 w (number_of x) (within x) e;
  }
