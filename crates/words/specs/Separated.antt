-- A word that is a row of words with a separator between them.
use Rattle.std.proofs.Common.{◌≡◌, ℕ, ◌≤◌, true, false, ◌||◌, ◌==◌, nat_le, List, length, Option}
use Rattle.std.proofs.Common.{Some, refl, sym, ◌∙◌, ap, subst, arith, eq-eqb}
use Rattle.std.proofs.lemmas.Bool.{leb-true}
use Rattle.words.specs.Alphabet.{Of, each_of_more}
use Rattle.words.specs.Kind.{Kind}
use Rattle.words.specs.Parts.{parts, joined_by, some_parts, text_is_parts, parts_of_text, of_text}
use Rattle.words.specs.Row.{Row}
use Rattle.words.specs.Steps.{or_left, or_right}

abbrev pub read_parts : {X : Type 0} → (List (List ℕ) → Option X) → ℕ → List ℕ → Option X
read_parts read separator text = read (parts separator text)

-- a text spells what its words spell
pub record IsSeparated (spells : List (List ℕ)
    → Type 0) (separator : ℕ) (text : List ℕ) : Type 0 where
  pub words : List (List ℕ)
  pub is : text ≡ joined_by separator words
  pub some : 1 ≤ length words
  pub spelled : spells words

module _ {X : Type 0} (separator : ℕ) (r : Row X) (some : nat_le 1 r.least ≡ true)
    (apart : r.alphabet separator ≡ false) where
  pub text_spelled : (text : List ℕ) (x : X) → read_parts r.read separator text ≡ Some x
      → r.Fits x × IsSeparated (r.Spells x) separator text
  text_spelled text x e =
      let h = r.is_spelled (parts separator text) x e in (
        h.0,
        record {
          words = parts separator text;
          is = text_is_parts separator text (parts separator text) refl (some_parts separator text);
          some = some_parts separator text;
          spelled = h.1;
        },
      )

  pub text_again : (text : List ℕ) (x : X) → r.Fits x → IsSeparated (r.Spells x) separator text
      → read_parts r.read separator text ≡ Some x
  text_again text x fits e =
      ap r.read (ap (parts separator) e.is
      ∙ parts_of_text separator r.alphabet apart e.words e.some
      (r.clean e.words x fits e.spelled)) ∙ r.is_read e.words x fits e.spelled

  pub text_canonical : (x : X) → r.Fits x
      → IsSeparated (r.Spells x) separator (joined_by separator (r.write x))
  text_canonical x fits =
      let spelled = r.canonical x fits in
      record {
        words = r.write x;
        is = refl;
        some =
            omega (arith, leb-true 1 r.least some, (r.counted (r.write x) x fits spelled).0);
        spelled = spelled;
      }

  pub text_clean : (text : List ℕ) (x : X) → r.Fits x → IsSeparated (r.Spells x) separator text
      → Of (λ c. (c == separator) || r.alphabet c) text
  text_clean text x fits e =
      subst (Of (λ c. (c == separator) || r.alphabet c)) (sym e.is)
      (of_text separator (λ c. (c == separator) || r.alphabet c)
      (or_left (separator == separator) (r.alphabet separator)
      (eq-eqb separator separator refl)) e.words
      (each_of_more r.alphabet (λ c. (c == separator) || r.alphabet c)
      (λ c h. or_right (c == separator) (r.alphabet c) h) e.words
      (r.clean e.words x fits e.spelled)))

  abbrev pub separated : Kind X
  separated = record {
    read = read_parts r.read separator;
    write = λ x. joined_by separator (r.write x);
    Fits = r.Fits;
    Spells = λ x text. IsSeparated (r.Spells x) separator text;
    alphabet = λ c. (c == separator) || r.alphabet c;
    is_spelled = text_spelled;
    is_read = text_again;
    canonical = text_canonical;
    clean = text_clean;
  }
