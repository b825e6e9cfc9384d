-- Whole lines by their first word, their words one blank apart.
use Rattle.std.proofs.Common.{◌≡◌, ℕ, true, false, not, ◌==◌, List, [], ◌∷◌, ◌++◌, Result, Ok, Err}
use Rattle.std.proofs.Common.{refl, sym, ◌∙◌, ap, subst, ne_eqb, ◌↔◌}
use Rattle.words.specs.Alphabet.{Of, of_more, each_of_more, of_append}
use Rattle.words.specs.Choice.{Choice}
use Rattle.words.specs.Judged.{err_ok}
use Rattle.words.specs.Parts.{behind, parts, from_parts, to_parts, of_behind}
use Rattle.words.specs.Steps.{contradicted}
use Rattle.words.specs.declared.cause.Cause.{Cause}
use Rattle.words.specs.declared.cause.Cause.TheVariants.{FirstWord}

abbrev pub by_first : {X : Type 0} → (List ℕ → List (List ℕ) → Result X Cause) → List (List ℕ)
    → Result X Cause
by_first read [] = Err FirstWord
by_first read (w ∷ ws) = read w ws

-- what a line says; its words are separated by one space
abbrev pub reading : {X : Type 0} → Choice X → List ℕ → Result X Cause
reading c text = by_first c.read (parts 32 text)

-- the canonical line
abbrev pub spelling : {X : Type 0} → Choice X → X → List ℕ
spelling c x = c.first x ++ behind 32 (c.others x)

-- a line that spells a value
pub record IsLine {X : Type 0} (c : Choice X) (x : X) (text : List ℕ) : Type 0 where
  pub first : List ℕ
  pub others : List (List ℕ)
  pub is : text ≡ first ++ behind 32 others
  pub spelled : c.Spells x first others

-- Lines are read exactly where they spell a value that fits, the canonical one is read back, and
-- none has a line end.
pub record AreExact {X : Type 0} (c : Choice X) : Type 0 where
  pub read : (text : List ℕ) (x : X) → (reading c text ≡ Ok x) ↔ (c.Fits x × IsLine c x text)
  pub back : (x : X) → c.Fits x → reading c (spelling c x) ≡ Ok x
  pub one_line : (x : X) (text : List ℕ) → c.Fits x → IsLine c x text → Of (λ o. not (o == 10)) text

module _ {X : Type 0} (c : Choice X) (space : c.alphabet 32 ≡ false)
    (end : c.alphabet 10 ≡ false) where
  from_line : (text : List ℕ) (x : X) (ps : List (List ℕ)) → parts 32 text ≡ ps
      → by_first c.read ps ≡ Ok x → c.Fits x × IsLine c x text
  from_line text x [] is e = err_ok e
  from_line text x (w ∷ ws) is e =
      let h = c.is_spelled w ws x e in
      (h.0, record { first = w; others = ws; is = from_parts 32 text w ws is; spelled = h.1 })

  to_line : (text : List ℕ) (x : X) → c.Fits x → IsLine c x text → reading c text ≡ Ok x
  to_line text x fits l =
      let made = c.clean l.first l.others x fits l.spelled in
      ap (by_first c.read) (ap (parts 32) l.is
      ∙ to_parts 32 c.alphabet space l.first l.others made.0 made.1)
      ∙ c.is_read l.first l.others x fits l.spelled

  no_end : (x : X) (text : List ℕ) → c.Fits x → IsLine c x text → Of (λ o. not (o == 10)) text
  no_end x text fits l =
      let made = c.clean l.first l.others x fits l.spelled in
      let other : (o : ℕ) → c.alphabet o ≡ true
      → not (o == 10) ≡ true = λ o h.
      rw (ne_eqb o 10 (λ same. contradicted (c.alphabet o) h (ap c.alphabet same ∙ end))) refl
      in
      subst (Of (λ o. not (o == 10))) (sym l.is)
      (of_append (λ o. not (o == 10)) l.first (behind 32 l.others)
      (of_more c.alphabet (λ o. not (o == 10)) other l.first made.0)
      (of_behind 32 (λ o. not (o == 10)) refl l.others
      (each_of_more c.alphabet (λ o. not (o == 10)) other l.others made.1)))

  pub exact : AreExact c
  exact = record {
    read = λ text x. (λ e. from_line text x (parts 32 text) refl e, λ h. to_line text x h.0 h.1);
    back = λ x fits. to_line (spelling c x) x fits
        (record {
          first = c.first x;
          others = c.others x;
          is = refl;
          spelled = c.canonical x fits;
        });
    one_line = no_end;
  }
