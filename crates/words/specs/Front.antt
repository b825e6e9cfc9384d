-- What a call leaves that was to append a text and got no memory for all of it.
use Rattle.std.proofs.Common.{◌≡◌, ℕ, ◌≤◌, List, [], ◌∷◌, ◌++◌, length, take, drop, sym, ap, ◌∙◌}
use Rattle.std.proofs.Common.{subst, arith, append_assoc, length-take}
use Rattle.std.proofs.lemmas.List.{take-append-le, take-append-drop}
use Rattle.std.proofs.Math.Seq.{take-append_seam, take-length}
use Rattle.octet_core.specs.Written.{IsFront}

-- what was there is still there, and behind it stands what begins the text: none or all of it
-- perhaps
pub record AppendsFront (before after text : List ℕ) : Type 0 where
  pub kept : IsFront before after
  pub front : IsFront after (before ++ text)

-- what begins the octets goes on to begin them where more stands behind
pub front_kept : (before now more : List ℕ) → IsFront before now → IsFront before (now ++ more)
front_kept before now more kept =
    let left = drop (length before) now in
    let whole : before ++ left ≡ now = ap (λ l. l ++ left) (sym kept)
    ∙ take-append-drop (length before) now in
    ap (take (length before)) (ap (λ l. l ++ more) (sym whole) ∙ append_assoc before left more)
    ∙ take-append_seam before (left ++ more)

front_on : (before now after : List ℕ) → IsFront before now → IsFront now after
    → IsFront before after
front_on before now after first kept =
    let left = drop (length now) after in
    let whole : now ++ left ≡ after = ap (λ l. l ++ left) (sym kept)
    ∙ take-append-drop (length now) after in
    subst (λ l. IsFront before l) whole (front_kept before now left first)

-- so much of the text was appended, and what is left of it would have been next
pub front_here : (before now left text : List ℕ) → IsFront before now
    → now ++ left ≡ before ++ text → AppendsFront before now text
front_here before now left text kept e = record {
  kept = kept;
  front = ap (take (length now)) (sym e) ∙ take-append_seam now left;
}

-- and what begins what is left was appended too
pub front_onwards : (before now after left text : List ℕ) → IsFront before now
    → now ++ left ≡ before ++ text → AppendsFront now after left → AppendsFront before after text
front_onwards before now after left text kept e more = record {
  kept = front_on before now after kept more.kept;
  front = ap (take (length after)) (sym e) ∙ more.front;
}

front_le : (front whole : List ℕ) → IsFront front whole → length front ≤ length whole
front_le front whole is = omega (arith, simp length-take at (ap length is))

-- what begins a text begins it with the rest behind it
front_longer : (before after first rest : List ℕ) → AppendsFront before after first
    → AppendsFront before after (first ++ rest)
front_longer before after first rest one = record {
  kept = one.kept;
  front = rw (
    ← append_assoc before first rest,
    take-append-le (length after) (before ++ first) rest
        (front_le after (before ++ first) one.front),
  ) one.front;
}

-- a separator was appended, and what begins the word behind it
pub front_behind : (before mid after : List ℕ) (separator : ℕ) (word rest : List ℕ)
    → mid ≡ before ++ separator ∷ [] → AppendsFront mid after word
    → AppendsFront before after (separator ∷ (word ++ rest))
front_behind before mid after separator word rest same begun =
    front_onwards before mid after (word ++ rest) (separator ∷ (word ++ rest))
    (subst (λ l. IsFront before l) (sym same)
    (front_kept before before (separator ∷ []) (take-length before)))
    (ap (λ l. l ++ (word ++ rest)) same ∙ append_assoc before (separator ∷ []) (word ++ rest))
    (front_longer mid after word rest begun)
