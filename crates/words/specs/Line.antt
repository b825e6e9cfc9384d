-- A line: a row of words, one blank apart. Its end, the octet 0A, stands behind it.
use Rattle.std.proofs.Common.{◌≡◌, ℕ, ◌↔◌, true, false, not, ◌==◌, ◌||◌, nat_le, List, Option, Some}
use Rattle.std.proofs.Common.{refl, ap, ◌∙◌, ne_eqb}
use Rattle.words.specs.Alphabet.{Of, of_more}
use Rattle.words.specs.Parts.{parts, joined_by}
use Rattle.words.specs.Row.{Row}
use Rattle.words.specs.Separated.{IsSeparated, text_spelled, text_again, text_canonical, text_clean}
use Rattle.words.specs.Steps.{contradicted}

-- what a line says
abbrev pub reading : {X : Type 0} → Row X → List ℕ → Option X
reading r line = r.read (parts 32 line)

-- the canonical line
abbrev pub spelling : {X : Type 0} → Row X → X → List ℕ
spelling r x = joined_by 32 (r.write x)

-- the line spells this value
abbrev pub IsLineOf : {X : Type 0} → Row X → X → List ℕ → Type 0
IsLineOf r x line = IsSeparated (r.Spells x) 32 line

-- Lines are read exactly where they spell a value that fits, the canonical one is read back, and no
-- line holds a line end.
pub record IsExact {X : Type 0} (r : Row X) : Type 0 where
  pub read : (line : List ℕ) (x : X) → (reading r line ≡ Some x) ↔ (r.Fits x × IsLineOf r x line)
  pub back : (x : X) → r.Fits x → reading r (spelling r x) ≡ Some x
  pub one_line : (x : X) (line : List ℕ) → r.Fits x → IsLineOf r x line
      → Of (λ octet. not (octet == 10)) line

-- a row has a word, and neither blanks nor line ends stand in its words
pub record HasLines {X : Type 0} (r : Row X) : Type 0 where
  pub some : nat_le 1 r.least ≡ true
  pub blank : r.alphabet 32 ≡ false
  pub end : r.alphabet 10 ≡ false

module _ {X : Type 0} (r : Row X) (h : HasLines r) where
  no_end : (octet : ℕ) → ((octet == 32) || r.alphabet octet) ≡ true → not (octet == 10) ≡ true
  no_end octet e =
      rw (ne_eqb octet 10 (λ same. contradicted ((octet == 32) || r.alphabet octet) e
      (ap (λ o. (o == 32) || r.alphabet o) same ∙ h.end))) refl

  pub exact : IsExact r
  exact = record {
    read = λ line x. (
      λ e. text_spelled 32 r h.some h.blank line x e,
      λ e. text_again 32 r h.some h.blank line x e.0 e.1,
    );
    back = λ x fits. text_again 32 r h.some h.blank (spelling r x) x fits
        (text_canonical 32 r h.some h.blank x fits);
    one_line = λ x line fits e.
        of_more (λ o. (o == 32) || r.alphabet o) (λ o. not (o == 10)) no_end line
        (text_clean 32 r h.some h.blank line x fits e);
  }
