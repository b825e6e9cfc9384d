-- A word with an octet behind it.
use Rattle.std.proofs.Common.{◌≡◌, ℕ, Bool, true, false, not, ◌&&◌, ◌||◌, ◌==◌, if◌then◌else◌}
use Rattle.std.proofs.Common.{nat_le, List, [], ◌∷◌, ◌++◌, length, Option, Some, None, refl, sym}
use Rattle.std.proofs.Common.{◌∙◌, ap, subst, ne_eqb, eq-eqb, slice_index}
use Rattle.std.proofs.lemmas.Bool.{eqb-true}
use Rattle.std.specs.Char.{is_ascii_digit}
use Rattle.std.specs.List.{list_all}
use Rattle.std.specs.Str.Parse.{digits_value}
use Rattle.words.specs.Alphabet.{Of, of_more, of_append}
use Rattle.words.specs.Kind.{Kind}
use Rattle.words.specs.Number.{capped, number_read}
use Rattle.words.specs.Steps.{◌>>=◌, some_bind, some_is, if_some, or_left, or_right}

abbrev pub before_last : ℕ → List ℕ → Option (List ℕ)
before_last c [] = None
before_last c (x ∷ []) = if x == c then Some [] else None
before_last c (x ∷ y ∷ w) = before_last c (y ∷ w) >>= λ front. Some (x ∷ front)

pub before_last-some : (c : ℕ) (w front : List ℕ) → before_last c w ≡ Some front
    → w ≡ front ++ c ∷ []
before_last-some c [] front e = absurd cc
before_last-some c (x ∷ []) front e =
    let h = if_some (x == c) [] front e in
    ap (λ x. x ∷ []) (eqb-true x c h.0) ∙ ap (λ front. front ++ c ∷ []) h.1
before_last-some c (x ∷ y ∷ w) front e =
    let h = some_bind (before_last c (y ∷ w)) (λ front. Some (x ∷ front)) front e in
    ap (λ w. x ∷ w) (before_last-some c (y ∷ w) h.0 h.1)
    ∙ ap (λ front. front ++ c ∷ []) (some_is (x ∷ h.0) front h.2)

pub before_last-of : (c : ℕ) (front : List ℕ) → before_last c (front ++ c ∷ []) ≡ Some front
before_last-of c [] = rw (eq-eqb c c refl) refl
before_last-of c (x ∷ []) = rw (eq-eqb c c refl) refl
before_last-of c (x ∷ y ∷ front) = rw (before_last-of c (y ∷ front)) refl

-- the front of a word and its last octet
pub record Ends (c : ℕ) (spells : List ℕ → Type 0) (w : List ℕ) : Type 0 where
  pub front : List ℕ
  pub is : w ≡ front ++ c ∷ []
  pub spelled : spells front

module _ {X : Type 0} (c : ℕ) (k : Kind X) where
  pub ends_is : (w : List ℕ) (x : X) → (before_last c w >>= k.read) ≡ Some x
      → k.Fits x × Ends c (k.Spells x) w
  ends_is w x e =
      let found = some_bind (before_last c w) k.read x e in
      let read = k.is_spelled found.0 x found.2 in (
        read.0,
        record {
          front = found.0;
          is = before_last-some c w found.0 found.1;
          spelled = read.1;
        },
      )

  pub ends_again : (w : List ℕ) (x : X) → k.Fits x → Ends c (k.Spells x) w
      → (before_last c w >>= k.read) ≡ Some x
  ends_again w x fits e = rw (e.is, before_last-of c e.front) (k.is_read e.front x fits e.spelled)

  pub ends_clean : (w : List ℕ) (x : X) → k.Fits x → Ends c (k.Spells x) w
      → Of (λ d. (d == c) || k.alphabet d) w
  ends_clean w x fits e =
      subst (Of (λ d. (d == c) || k.alphabet d)) (sym e.is)
      (of_append (λ d. (d == c) || k.alphabet d) e.front (c ∷ [])
      (of_more k.alphabet (λ d. (d == c) || k.alphabet d)
      (λ d h. or_right (d == c) (k.alphabet d) h) e.front (k.clean e.front x fits e.spelled))
      (or_left (c == c) (k.alphabet c) (eq-eqb c c refl), tt))

  abbrev pub ending : Kind X
  ending = record {
    read = λ w. before_last c w >>= k.read;
    write = λ x. k.write x ++ c ∷ [];
    Fits = k.Fits;
    Spells = λ x w. Ends c (k.Spells x) w;
    alphabet = λ d. (d == c) || k.alphabet d;
    is_spelled = ends_is;
    is_read = ends_again;
    canonical = λ x fits. record { front = k.write x; is = refl; spelled = k.canonical x fits };
    clean = ends_clean;
  }

-- a word that ends so is no number
not_all : (c : ℕ) (front : List ℕ) → is_ascii_digit c ≡ false
    → list_all is_ascii_digit (front ++ c ∷ []) ≡ false
not_all c [] e = rw e refl
not_all c (x ∷ front) e = elim (is_ascii_digit x) as
    (λ b. (b && list_all is_ascii_digit (front ++ c ∷ [])) ≡ false)
    [ true ↦ not_all c front e | false ↦ refl ]

pub no_number : (least most c : ℕ) → is_ascii_digit c ≡ false → {S : List ℕ → Type 0} (w : List ℕ)
    → Ends c S w → number_read least most w ≡ None
no_number least most c e w ends =
    let text = ends.front ++ c ∷ [] in
    ap (number_read least most) ends.is
    ∙ refused (nat_le 1 (length text)) (list_all is_ascii_digit text) (length text == 1
    || not (slice_index text 0 == 48)) (nat_le least (digits_value 10 text)
    && nat_le (digits_value 10 text) (capped most)) (digits_value 10 text)
    (not_all c ends.front e)
  where
    refused : (a b l r : Bool) (n : ℕ) → b ≡ false
        → (if (a && (b && l)) && r then Some n else None) ≡ None
    refused true true l r n e = absurd cc
    refused true false l r n e = refl
    refused false b l r n e = refl

pub before_last-at : (c d : ℕ) (front : List ℕ)
    → before_last c (front ++ d ∷ []) ≡ (if d == c then Some front else None)
before_last-at c d [] = refl
before_last-at c d (x ∷ []) = elim (d == c) as
    (λ b. ((if b then Some [] else None) >>= λ front. Some (x ∷ front))
    ≡ (if b then Some (x ∷ []) else None)) [ true ↦ refl | false ↦ refl ]
before_last-at c d (x ∷ y ∷ front) = rw (before_last-at c d (y ∷ front))
    (elim (d == c) as (λ b. ((if b then Some (y ∷ front) else None) >>= λ front. Some (x ∷ front))
    ≡ (if b then Some (x ∷ y ∷ front) else None)) [ true ↦ refl | false ↦ refl ])

pub before_last-yes : (c d : ℕ) (word front : List ℕ) → word ≡ front ++ d ∷ [] → d ≡ c
    → before_last c word ≡ Some front
before_last-yes c d word front is same = ap (before_last c) is ∙ before_last-at c d front
    ∙ ap (λ b. if b then Some front else None) (eq-eqb d c same)

pub before_last-no : (c d : ℕ) (word front : List ℕ) → word ≡ front ++ d ∷ [] → (d ≡ c → ⊥)
    → before_last c word ≡ None
before_last-no c d word front is other = ap (before_last c) is ∙ before_last-at c d front
    ∙ ap (λ b. if b then Some front else None) (ne_eqb d c other)
