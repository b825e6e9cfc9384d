-- Words that stand for themselves where they pass a test.
use Rattle.std.proofs.Common.{◌≡◌, ℕ, Bool, true, if◌then◌else◌, List, Some, None, refl, sym, subst}
use Rattle.words.specs.Alphabet.{Of}
use Rattle.words.specs.Kind.{Kind}
use Rattle.words.specs.Steps.{if_some}

pub plain_is : (test : List ℕ → Bool) (w x : List ℕ) → (if test w then Some w else None) ≡ Some x
    → (test x ≡ true) × (w ≡ x)
plain_is test w x e = let h = if_some (test w) w x e in (subst (λ w. test w ≡ true) h.1 h.0, h.1)

-- the octets of a word that passes are some of these
abbrev pub plain : (test : List ℕ → Bool) (octets : ℕ → Bool)
    → ((w : List ℕ) → test w ≡ true → Of octets w) → Kind (List ℕ)
plain test octets only = record {
  read = λ w. if test w then Some w else None;
  write = λ w. w;
  Fits = λ w. test w ≡ true;
  Spells = λ x w. w ≡ x;
  alphabet = octets;
  is_spelled = plain_is test;
  is_read = λ w x fits e. rw (e, fits) refl;
  canonical = λ w fits. refl;
  clean = λ w x fits e. subst (Of octets) (sym e) (only x fits);
}
