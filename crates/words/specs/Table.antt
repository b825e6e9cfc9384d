-- A table of forms: a first word for each form, and the row that stands behind it.
use Rattle.std.proofs.Common.{◌≡◌, ℕ, suc, ◌≤◌, max, inl, inr, Bool, true, false, ◌||◌, List, []}
use Rattle.std.proofs.Common.{◌∷◌, length, Option, Some, None, refl, sym, subst, arith}
use Rattle.std.specs.Str.{bytes_eq}
use Rattle.words.specs.Alphabet.{Of, EachOf, of_more, each_of_more, among, among_itself}
use Rattle.words.specs.Listed.{value_of, AreListed, listed_is}
use Rattle.words.specs.Row.{Row}
use Rattle.words.specs.Steps.{◌>>=◌, some_bind, some_is, chosen, or_left, or_right}

-- Forms, each with a word of its own and a row.
pub record Table (Form : Type 0) : Type 1 where
  pub all : List Form
  pub word : Form → List ℕ
  pub each : AreListed word all
  pub Behind : Form → Type 0
  pub row : (f : Form) → Row (Behind f)

module _ {Form : Type 0} (t : Table Form) where
  -- a form, and what stands behind its word
  abbrev pub Says : Type 0
  Says = (f : Form) × t.Behind f

  abbrev pub table_read : List (List ℕ) → Option Says
  table_read [] = None
  table_read (w ∷ ws) = value_of t.word t.all w >>= λ f. (t.row f).read ws >>= λ x. Some (f, x)

  abbrev pub table_spelled : Says → List (List ℕ) → Type 0
  table_spelled s [] = ⊥
  table_spelled s (w ∷ ws) = (w ≡ t.word s.0) × (t.row s.0).Spells s.1 ws

  abbrev pub table_fits : Says → Type 0
  table_fits s = (t.row s.0).Fits s.1

  -- the octets of one of these forms, and of all
  abbrev pub form_octet : Form → ℕ → Bool
  form_octet f c = among (t.word f) c || (t.row f).alphabet c

  abbrev pub octet_of : List Form → ℕ → Bool
  octet_of [] c = false
  octet_of (f ∷ fs) c = form_octet f c || octet_of fs c

  abbrev pub most_of : List Form → ℕ
  most_of [] = 0
  most_of (f ∷ fs) = max (t.row f).most (most_of fs)

  octet_listed : (fs : List Form) (w : List ℕ) (f : Form) → value_of t.word fs w ≡ Some f → (c : ℕ)
      → form_octet f c ≡ true → octet_of fs c ≡ true
  octet_listed [] w f e c h = absurd cc
  octet_listed (g ∷ fs) w f e c h =
      elim (chosen (bytes_eq w (t.word g)) (Some g) (value_of t.word fs w) (Some f) e) [
        | inl k ↦ or_left (form_octet g c) (octet_of fs c)
            (subst (λ f. form_octet f c ≡ true) (sym (some_is g f k.1)) h)
        | inr k ↦ or_right (form_octet g c) (octet_of fs c) (octet_listed fs w f k.1 c h)
      ]

  most_listed : (fs : List Form) (w : List ℕ) (f : Form) → value_of t.word fs w ≡ Some f
      → (t.row f).most ≤ most_of fs
  most_listed [] w f e = absurd cc
  most_listed (g ∷ fs) w f e =
      elim (chosen (bytes_eq w (t.word g)) (Some g) (value_of t.word fs w) (Some f) e) [
        | inl k ↦ subst (λ f. (t.row f).most ≤ max (t.row g).most (most_of fs)) (some_is g f k.1)
            (omega arith)
        | inr k ↦ omega (arith, most_listed fs w f k.1)
      ]

  octet_known : (f : Form) (c : ℕ) → form_octet f c ≡ true → octet_of t.all c ≡ true
  octet_known f c h = octet_listed t.all (t.word f) f (t.each f) c h

  most_known : (f : Form) → (t.row f).most ≤ most_of t.all
  most_known f = most_listed t.all (t.word f) f (t.each f)

  pub table_is : (ws : List (List ℕ)) (s : Says) → table_read ws ≡ Some s
      → table_fits s × table_spelled s ws
  table_is [] s e = absurd cc
  table_is (w ∷ ws) s e =
      let form = some_bind (value_of t.word t.all w) (λ f. (t.row f).read ws >>= λ x. Some (f, x)) s
      e in
      let read = some_bind ((t.row form.0).read ws) (λ x. Some (form.0, x)) s form.2 in
      let is = (t.row form.0).is_spelled ws read.0 read.1 in
      subst (λ s. table_fits s × table_spelled s (w ∷ ws)) (some_is (form.0, read.0) s read.2)
      (is.0, (listed_is t.word t.all w form.0 form.1, is.1))

  pub table_again : (ws : List (List ℕ)) (s : Says) → table_fits s → table_spelled s ws
      → table_read ws ≡ Some s
  table_again [] s fits e = absurd e
  table_again (w ∷ ws) s fits e = rw (e.0, t.each s.0, (t.row s.0).is_read ws s.1 fits e.1) refl

  pub table_clean : (ws : List (List ℕ)) (s : Says) → table_fits s → table_spelled s ws
      → EachOf (octet_of t.all) ws
  table_clean [] s fits e = absurd e
  table_clean (w ∷ ws) s fits e = (
    subst (Of (octet_of t.all)) (sym e.0) (of_more (among (t.word s.0)) (octet_of t.all)
        (λ c h. octet_known s.0 c (or_left (among (t.word s.0) c) ((t.row s.0).alphabet c) h))
        (t.word s.0) (among_itself (t.word s.0))),
    each_of_more (t.row s.0).alphabet (octet_of t.all)
        (λ c h. octet_known s.0 c (or_right (among (t.word s.0) c) ((t.row s.0).alphabet c) h)) ws
        ((t.row s.0).clean ws s.1 fits e.1),
  )

  pub table_counted : (ws : List (List ℕ)) (s : Says) → table_fits s → table_spelled s ws
      → (1 ≤ length ws) × (length ws ≤ suc (most_of t.all))
  table_counted [] s fits e = absurd e
  table_counted (w ∷ ws) s fits e = (
    omega arith,
    omega (arith, ((t.row s.0).counted ws s.1 fits e.1).1, most_known s.0),
  )

  -- the row of all forms
  abbrev pub of_forms : Row Says
  of_forms = record {
    read = table_read;
    write = λ s. t.word s.0 ∷ (t.row s.0).write s.1;
    Fits = table_fits;
    Spells = table_spelled;
    alphabet = octet_of t.all;
    least = 1;
    most = suc (most_of t.all);
    is_spelled = table_is;
    is_read = table_again;
    canonical = λ s fits. (refl, (t.row s.0).canonical s.1 fits);
    clean = table_clean;
    counted = table_counted;
  }
