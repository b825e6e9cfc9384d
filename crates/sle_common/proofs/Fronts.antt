-- How far a text goes with a language, by the octets that were read already.
use Rattle.std.proofs.Common.{◌≡◌, ℕ, zero, suc, ◌+◌, ◌-◌, ◌≤◌, ◌<◌, ◌⊎◌, inl, inr, List, [], ◌∷◌}
use Rattle.std.proofs.Common.{◌++◌, length, take, sym, subst, append_assoc, arith, length-append}
use Rattle.std.proofs.lemmas.Bool.{cases_lt}
use Rattle.std.proofs.Math.Seq.{take-append-add}
use Rattle.sle_common.specs.Front.{Begins, IsRefusedAt}

-- the same texts
pub refused_as : (L M : List ℕ → Type 0) → ((t : List ℕ) → L t → M t) → ((t : List ℕ) → M t → L t)
    → (text : List ℕ) (n : ℕ) → IsRefusedAt M text n → IsRefusedAt L text n
refused_as L M to from text n refused = record {
  no_text = λ is. refused.no_text (to text is);
  front = record {
    within = refused.front.within;
    begins = (
      refused.front.begins.0,
      from (take n text ++ refused.front.begins.0) refused.front.begins.1,
    );
    longest = λ m within begins. refused.front.longest m within (
      begins.0,
      to (take m text ++ begins.0) begins.1,
    );
  };
}

regrouped : (f rest more : List ℕ) (n : ℕ) → take (length f + n) (f ++ rest) ++ more
    ≡ f ++ (take n rest ++ more)
regrouped f rest more n = rw take-append-add (append_assoc f (take n rest) more)

-- behind octets that were read
pub refused_behind : (L : List ℕ → Type 0) (f rest : List ℕ) (n : ℕ)
    → IsRefusedAt (λ t. L (f ++ t)) rest n → IsRefusedAt L (f ++ rest) (length f + n)
refused_behind L f rest n refused = record {
  no_text = refused.no_text;
  front = record {
    within = omega (arith, length-append f rest, refused.front.within);
    begins = let (more, is) = refused.front.begins in
        (more, subst L (sym (regrouped f rest more n)) is);
    longest = λ m within begins. by_place m within begins (cases_lt m (length f));
  };
}
  where
    past : (m k : ℕ) → m ≡ length f + k → m ≤ length (f ++ rest) → Begins L (take m (f ++ rest))
        → m ≤ length f + n
    past m k e within (more, is) =
        let here : k ≤ length rest = omega (arith, length-append f rest, e) in
        let begun : L (take (length f + k) (f ++ rest) ++ more) =
        subst (λ m. L (take m (f ++ rest) ++ more)) e is in
        let short : k ≤ n = refused.front.longest k here (
          more,
          subst L (regrouped f rest more k) begun,
        ) in
        omega (arith, e)

    by_place : (m : ℕ) → m ≤ length (f ++ rest) → Begins L (take m (f ++ rest))
        → (m < length f) ⊎ (length f ≤ m) → m ≤ length f + n
    by_place m within begins (inl before) = omega arith
    by_place m within begins (inr behind) = past m (m - length f) (omega arith) within begins

-- at the end of the text
pub refused_end : (L : List ℕ → Type 0) → (L [] → ⊥) → Begins L [] → IsRefusedAt L [] 0
refused_end L no_text begins = record {
  no_text = no_text;
  front = record { within = omega arith; begins = begins; longest = λ m within begins. within };
}

-- at an octet with which no text goes on
pub refused_at : (L : List ℕ → Type 0) (octet : ℕ) (rest : List ℕ)
    → ((t : List ℕ) → L (octet ∷ t) → ⊥) → Begins L [] → IsRefusedAt L (octet ∷ rest) 0
refused_at L octet rest none begins = record {
  no_text = none rest;
  front = record { within = omega arith; begins = begins; longest = longest };
}
  where
    longest : (m : ℕ) → m ≤ length (octet ∷ rest) → Begins L (take m (octet ∷ rest)) → m ≤ 0
    longest zero within begins = omega arith
    longest (suc m) within (more, is) = absurd (none (take m rest ++ more) is)
