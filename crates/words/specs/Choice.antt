-- Lines by their first word, which says which row stands behind it.
use Rattle.std.proofs.Common.{◌≡◌, ℕ, suc, ◌≤◌, ◌⊎◌, inl, inr, max, Bool, true, false, ◌||◌}
use Rattle.std.proofs.Common.{if◌then◌else◌, List, [], ◌∷◌, length, Option, Some, None, Result, Ok}
use Rattle.std.proofs.Common.{Err, refl, sym, ◌∙◌, ap, subst, arith}
use Rattle.std.specs.Str.{bytes_eq}
use Rattle.words.specs.Alphabet.{Of, EachOf, of_more, each_of_more, among, among_itself}
use Rattle.words.specs.Either.{on_either, either_of}
use Rattle.words.specs.Fixed.{same_word, is_same}
use Rattle.words.specs.Judged.{err_ok, judged, judged_is, judged_again}
use Rattle.words.specs.Kind.{Views}
use Rattle.words.specs.Row.{Row}
use Rattle.words.specs.Steps.{some_is, ok_is, chosen, contradicted, or_left, or_right}
use Rattle.words.specs.declared.cause.Cause.{Cause}
use Rattle.words.specs.declared.cause.Cause.TheVariants.{FirstWord}

-- A choice of lines by their first word.
pub record Choice (X : Type 0) : Type 1 where
  pub read : List ℕ → List (List ℕ) → Result X Cause
  -- the first words
  pub knows : List ℕ → Bool
  pub first : X → List ℕ
  pub others : X → List (List ℕ)
  pub Fits : X → Type 0
  pub Spells : X → List ℕ → List (List ℕ) → Type 0
  pub alphabet : ℕ → Bool
  pub is_spelled : (w : List ℕ) (ws : List (List ℕ)) (x : X) → read w ws ≡ Ok x
      → Fits x × Spells x w ws
  pub is_read : (w : List ℕ) (ws : List (List ℕ)) (x : X) → Fits x → Spells x w ws
      → read w ws ≡ Ok x
  pub canonical : (x : X) → Fits x → Spells x (first x) (others x)
  pub clean : (w : List ℕ) (ws : List (List ℕ)) (x : X) → Fits x → Spells x w ws
      → Of alphabet w × EachOf alphabet ws
  pub known : (w : List ℕ) (ws : List (List ℕ)) (x : X) → Spells x w ws → knows w ≡ true
  -- the most words behind the first one
  pub most : ℕ
  pub counted : (w : List ℕ) (ws : List (List ℕ)) (x : X) → Fits x → Spells x w ws
      → length ws ≤ most

abbrev pub no_line : Choice ⊥
no_line = record {
  read = λ w ws. Err FirstWord;
  knows = λ w. false;
  first = λ x. [];
  others = λ x. [];
  Fits = λ x. Unit {0};
  Spells = λ x w ws. ⊥;
  alphabet = λ c. false;
  is_spelled = λ w ws x e. absurd x;
  is_read = λ w ws x fits e. absurd e;
  canonical = λ x fits. absurd x;
  clean = λ w ws x fits e. absurd e;
  known = λ w ws x e. absurd e;
  most = 0;
  counted = λ w ws x fits e. absurd e;
}

abbrev pub mapped : {X Y : Type 0} → (X → Y) → Result X Cause → Result Y Cause
mapped f (Ok x) = Ok (f x)
mapped f (Err cause) = Err cause

pub mapped_ok : {X Y : Type 0} (f : X → Y) (r : Result X Cause) (y : Y) → mapped f r ≡ Ok y
    → (x : X) × (r ≡ Ok x) × (f x ≡ y)
mapped_ok f (Ok x) y e = (x, refl, ok_is (f x) y e)
mapped_ok f (Err cause) y e = err_ok e

module _ {X Y : Type 0} (text : List ℕ) (r : Row X) (c : Choice Y)
    (apart : c.knows text ≡ false) where
  abbrev pub line_read : List ℕ → List (List ℕ) → Result (X ⊎ Y) Cause
  line_read w ws = if bytes_eq w text then mapped inl (judged r ws) else mapped inr (c.read w ws)

  abbrev pub line_spelled : X ⊎ Y → List ℕ → List (List ℕ) → Type 0
  line_spelled (inl x) w ws = (w ≡ text) × r.Spells x ws
  line_spelled (inr y) w ws = c.Spells y w ws

  abbrev pub line_alphabet : ℕ → Bool
  line_alphabet o = among text o || (r.alphabet o || c.alphabet o)

  pub line_is : (w : List ℕ) (ws : List (List ℕ)) (z : X ⊎ Y) → line_read w ws ≡ Ok z
      → on_either r.Fits c.Fits z × line_spelled z w ws
  line_is w ws z e =
      elim (chosen (bytes_eq w text) (mapped inl (judged r ws)) (mapped inr (c.read w ws))
      (Ok z) e) [
        | inl h ↦
            let read = mapped_ok inl (judged r ws) z h.1 in
            let is = judged_is r ws read.0 read.1 in
            subst (λ z. on_either r.Fits c.Fits z × line_spelled z w ws) read.2 (
              is.0,
              (same_word w text h.0, is.1),
            )
        | inr h ↦
            let read = mapped_ok inr (c.read w ws) z h.1 in
            subst (λ z. on_either r.Fits c.Fits z × line_spelled z w ws) read.2
            (c.is_spelled w ws read.0 read.1)
      ]

  pub line_again : (w : List ℕ) (ws : List (List ℕ)) (z : X ⊎ Y) → on_either r.Fits c.Fits z
      → line_spelled z w ws → line_read w ws ≡ Ok z
  line_again w ws (inl x) fits e = rw (is_same w text e.0, judged_again r ws x fits e.1) refl
  line_again w ws (inr y) fits e =
      elim (bytes_eq w text) as (λ b. bytes_eq w text ≡ b
      → (if b then mapped inl (judged r ws) else mapped inr (c.read w ws)) ≡ Ok (inr y)) [
        | true ↦ λ same. contradicted (c.knows text) (ap c.knows (sym (same_word w text same))
            ∙ c.known w ws y e) apart
        | false ↦ λ other. rw (c.is_read w ws y fits e) refl
      ] refl

  pub line_canonical : (z : X ⊎ Y) → on_either r.Fits c.Fits z
      → line_spelled z (either_of (λ x. text) c.first z) (either_of r.write c.others z)
  line_canonical (inl x) fits = (refl, r.canonical x fits)
  line_canonical (inr y) fits = c.canonical y fits

  pub line_clean : (w : List ℕ) (ws : List (List ℕ)) (z : X ⊎ Y) → on_either r.Fits c.Fits z
      → line_spelled z w ws → Of line_alphabet w × EachOf line_alphabet ws
  line_clean w ws (inl x) fits e = (
    subst (Of line_alphabet) (sym e.0) (of_more (among text) line_alphabet
        (λ o h. or_left (among text o) (r.alphabet o || c.alphabet o) h) text (among_itself text)),
    each_of_more r.alphabet line_alphabet (λ o h.
        or_right (among text o) (r.alphabet o || c.alphabet o)
        (or_left (r.alphabet o) (c.alphabet o) h)) ws (r.clean ws x fits e.1),
  )
  line_clean w ws (inr y) fits e =
      let more : (o : ℕ) → c.alphabet o ≡ true
      → line_alphabet o ≡ true = λ o h. or_right (among text o) (r.alphabet o || c.alphabet o)
      (or_right (r.alphabet o) (c.alphabet o) h) in
      let made = c.clean w ws y fits e in (
        of_more c.alphabet line_alphabet more w made.0,
        each_of_more c.alphabet line_alphabet more ws made.1,
      )

  pub line_known : (w : List ℕ) (ws : List (List ℕ)) (z : X ⊎ Y) → line_spelled z w ws
      → (bytes_eq w text || c.knows w) ≡ true
  line_known w ws (inl x) e = or_left (bytes_eq w text) (c.knows w) (is_same w text e.0)
  line_known w ws (inr y) e = or_right (bytes_eq w text) (c.knows w) (c.known w ws y e)

  pub line_counted : (w : List ℕ) (ws : List (List ℕ)) (z : X ⊎ Y) → on_either r.Fits c.Fits z
      → line_spelled z w ws → length ws ≤ max r.most c.most
  line_counted w ws (inl x) fits e = omega (arith, (r.counted ws x fits e.1).1)
  line_counted w ws (inr y) fits e = omega (arith, c.counted w ws y fits e)

  abbrev pub line : Choice (X ⊎ Y)
  line = record {
    read = line_read;
    knows = λ w. bytes_eq w text || c.knows w;
    first = either_of (λ x. text) c.first;
    others = either_of r.write c.others;
    Fits = on_either r.Fits c.Fits;
    Spells = line_spelled;
    alphabet = line_alphabet;
    is_spelled = line_is;
    is_read = line_again;
    canonical = line_canonical;
    clean = line_clean;
    known = line_known;
    most = max r.most c.most;
    counted = line_counted;
  }

abbrev pub choice_as : {X Y : Type 0} → Choice X → Views X Y → Choice Y
choice_as c s = record {
  read = λ w ws. mapped s.to (c.read w ws);
  knows = c.knows;
  first = λ y. c.first (s.from y);
  others = λ y. c.others (s.from y);
  Fits = λ y. c.Fits (s.from y);
  Spells = λ y w ws. c.Spells (s.from y) w ws;
  alphabet = c.alphabet;
  is_spelled = λ w ws y e.
      let read = mapped_ok s.to (c.read w ws) y e in
      let same : read.0 ≡ s.from y = sym (s.back read.0) ∙ ap s.from read.2 in
      subst (λ x. c.Fits x × c.Spells x w ws) same (c.is_spelled w ws read.0 read.1);
  is_read = λ w ws y fits e. rw (c.is_read w ws (s.from y) fits e) (ap Ok (s.there y));
  canonical = λ y fits. c.canonical (s.from y) fits;
  clean = λ w ws y fits e. c.clean w ws (s.from y) fits e;
  known = λ w ws y e. c.known w ws (s.from y) e;
  most = c.most;
  counted = λ w ws y fits e. c.counted w ws (s.from y) fits e;
}

-- ---- a row whose first word says what stands behind it

abbrev pub passed : {X : Type 0} → Result X Cause → Option X
passed (Ok x) = Some x
passed (Err cause) = None

abbrev pub choice_read : {X : Type 0} → (List ℕ → List (List ℕ) → Result X Cause) → List (List ℕ)
    → Option X
choice_read read [] = None
choice_read read (w ∷ ws) = passed (read w ws)

abbrev pub choice_spelled : (List ℕ → List (List ℕ) → Type 0) → List (List ℕ) → Type 0
choice_spelled spells [] = ⊥
choice_spelled spells (w ∷ ws) = spells w ws

passed_some : {X : Type 0} (r : Result X Cause) (x : X) → passed r ≡ Some x → r ≡ Ok x
passed_some (Ok y) x e = ap Ok (some_is y x e)
passed_some (Err cause) x e = absurd cc

module _ {X : Type 0} (c : Choice X) where
  pub choice_is : (ws : List (List ℕ)) (x : X) → choice_read c.read ws ≡ Some x
      → c.Fits x × choice_spelled (c.Spells x) ws
  choice_is [] x e = absurd cc
  choice_is (w ∷ ws) x e = c.is_spelled w ws x (passed_some (c.read w ws) x e)

  pub choice_again : (ws : List (List ℕ)) (x : X) → c.Fits x → choice_spelled (c.Spells x) ws
      → choice_read c.read ws ≡ Some x
  choice_again [] x fits e = absurd e
  choice_again (w ∷ ws) x fits e = ap passed (c.is_read w ws x fits e)

  pub choice_clean : (ws : List (List ℕ)) (x : X) → c.Fits x → choice_spelled (c.Spells x) ws
      → EachOf c.alphabet ws
  choice_clean [] x fits e = absurd e
  choice_clean (w ∷ ws) x fits e = c.clean w ws x fits e

  pub choice_counted : (ws : List (List ℕ)) (x : X) → c.Fits x → choice_spelled (c.Spells x) ws
      → (1 ≤ length ws) × (length ws ≤ suc c.most)
  choice_counted [] x fits e = absurd e
  choice_counted (w ∷ ws) x fits e = (omega arith, omega (arith, c.counted w ws x fits e))

  abbrev pub row_of : Row X
  row_of = record {
    read = choice_read c.read;
    write = λ x. c.first x ∷ c.others x;
    Fits = c.Fits;
    Spells = λ x ws. choice_spelled (c.Spells x) ws;
    alphabet = c.alphabet;
    least = 1;
    most = suc c.most;
    is_spelled = choice_is;
    is_read = choice_again;
    canonical = c.canonical;
    clean = choice_clean;
    counted = choice_counted;
  }
