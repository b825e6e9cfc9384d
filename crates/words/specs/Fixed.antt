-- A fixed word, alone or in place of a value.
use Rattle.std.proofs.Common.{◌≡◌, ℕ, inl, inr, true, false, ◌||◌, if◌then◌else◌, List, Option}
use Rattle.std.proofs.Common.{Some, None, refl, sym, ◌∙◌, ap, subst}
use Rattle.std.proofs.lemmas.Cmp.{nat_list_eq_equiv}
use Rattle.std.specs.Cmp.Lexicographic.{same_text}
use Rattle.std.specs.Str.{bytes_eq}
use Rattle.words.specs.Alphabet.{Of, of_more, among, among_itself}
use Rattle.words.specs.Kind.{Kind}
use Rattle.words.specs.Steps.{◌>>=◌, some_bind, some_is, chosen, if_some, or_left, or_right}

pub same_word : (w text : List ℕ) → bytes_eq w text ≡ true → w ≡ text
same_word w text e = same_text w text (sym e)

pub is_same : (w text : List ℕ) → w ≡ text → bytes_eq w text ≡ true
is_same w text e = rw e (nat_list_eq_equiv.refl text)

abbrev pub fixed : List ℕ → Kind (Unit {0})
fixed text = record {
  read = λ w. if bytes_eq w text then Some tt else None;
  write = λ x. text;
  Fits = λ x. Unit {0};
  Spells = λ x w. w ≡ text;
  alphabet = among text;
  is_spelled = λ w x e. (tt, same_word w text (if_some (bytes_eq w text) tt x e).0);
  is_read = λ w x fits e. rw (is_same w text e) refl;
  canonical = λ x fits. refl;
  clean = λ w x fits e. subst (Of (among text)) (sym e) (among_itself text);
}

-- a fixed word in place of a value, as `none`
abbrev pub or_none : {X : Type 0} → (X → Type 0) → Option X → Type 0
or_none alphabet None = Unit {0}
or_none alphabet (Some x) = alphabet x

abbrev pub spelled_or : {X : Type 0} → List ℕ → (X → List ℕ → Type 0) → Option X → List ℕ → Type 0
spelled_or text spells None w = w ≡ text
spelled_or text spells (Some x) w = spells x w

abbrev pub written_or : {X : Type 0} → List ℕ → (X → List ℕ) → Option X → List ℕ
written_or text write None = text
written_or text write (Some x) = write x

module _ {X : Type 0} (text : List ℕ) (k : Kind X) (apart : k.read text ≡ None) where
  abbrev pub read_or : List ℕ → Option (Option X)
  read_or w = if bytes_eq w text then Some None else (k.read w >>= λ x. Some (Some x))

  pub or_spelled : (w : List ℕ) (x : Option X) → read_or w ≡ Some x
      → or_none k.Fits x × spelled_or text k.Spells x w
  or_spelled w x e =
      elim (chosen (bytes_eq w text) (Some None) (k.read w >>= λ x. Some (Some x)) (Some x) e) [
        | inl h ↦ subst (λ x. or_none k.Fits x × spelled_or text k.Spells x w) (some_is None x h.1)
            (tt, same_word w text h.0)
        | inr h ↦
            let read = some_bind (k.read w) (λ x. Some (Some x)) x h.1 in
            subst (λ x. or_none k.Fits x × spelled_or text k.Spells x w)
            (some_is (Some read.0) x read.2) (k.is_spelled w read.0 read.1)
      ]

  pub or_read : (w : List ℕ) (x : Option X) → or_none k.Fits x → spelled_or text k.Spells x w
      → read_or w ≡ Some x
  or_read w None fits e = rw (is_same w text e) refl
  or_read w (Some x) fits e =
      let found = k.is_read w x fits e in
      elim (bytes_eq w text) as (λ b. bytes_eq w text ≡ b
      → (if b then Some None else (k.read w >>= λ x. Some (Some x))) ≡ Some (Some x)) [
        | true ↦ λ same. absurd (none_some (sym apart ∙ ap k.read (sym (same_word w text same))
            ∙ found))
        | false ↦ λ other. rw found refl
      ] refl
    where
      none_some : None ≡ Some x → ⊥
      none_some e = cc

  pub or_canonical : (x : Option X) → or_none k.Fits x
      → spelled_or text k.Spells x (written_or text k.write x)
  or_canonical None fits = refl
  or_canonical (Some x) fits = k.canonical x fits

  pub or_clean : (w : List ℕ) (x : Option X) → or_none k.Fits x → spelled_or text k.Spells x w
      → Of (λ c. among text c || k.alphabet c) w
  or_clean w None fits e = subst (Of (λ c. among text c || k.alphabet c)) (sym e)
      (of_more (among text) (λ c. among text c || k.alphabet c)
      (λ c h. or_left (among text c) (k.alphabet c) h) text (among_itself text))
  or_clean w (Some x) fits e = of_more k.alphabet (λ c. among text c || k.alphabet c)
      (λ c h. or_right (among text c) (k.alphabet c) h) w (k.clean w x fits e)

  abbrev pub word_or : Kind (Option X)
  word_or = record {
    read = read_or;
    write = written_or text k.write;
    Fits = or_none k.Fits;
    Spells = spelled_or text k.Spells;
    alphabet = λ c. among text c || k.alphabet c;
    is_spelled = or_spelled;
    is_read = or_read;
    canonical = or_canonical;
    clean = or_clean;
  }
