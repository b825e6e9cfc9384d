-- A value at the front of a text ends where its octets end.
use Rattle.std.proofs.Common.{◌≡◌, ℕ, zero, suc, ◌+◌, ◌≤◌, ◌<◌, ◌⊎◌, inl, inr, Bool, true, false}
use Rattle.std.proofs.Common.{nat_le, ◌&&◌, List, [], ◌∷◌, ◌++◌, length, take, drop, refl, sym, ◌∙◌}
use Rattle.std.proofs.Common.{ap, cond, arith}
use Rattle.std.proofs.lemmas.Str.{IsUtf8-from_ascii}
use Rattle.std.proofs.lemmas.Str.Ascii.{IsAscii-nil, IsAscii-cons}
use Rattle.std.specs.List.{list_all, prefix_len}
use Rattle.std.specs.Str.{IsAscii, IsUtf8}
use Rattle.sle_common.specs.Identifier.{is_value_octet, is_value}
use Rattle.sle_common.specs.TextParts.{begins_with_value_octet}

abbrev pub AreOctets : List ℕ → Type 0
AreOctets value = list_all is_value_octet value ≡ true

both : (a b : Bool) → (a && b) ≡ true → (a ≡ true) × (b ≡ true)
both true b e = (refl, e)
both false b e = cc

pub record IsValue (value : List ℕ) : Type 0 where
  pub some : 1 ≤ length value
  pub few : length value ≤ 256
  pub octets : AreOctets value

pub value_is : (value : List ℕ) → is_value value ≡ true → IsValue value
value_is value e =
    let h = both (nat_le 1 (length value) && nat_le (length value) 256)
    (list_all is_value_octet value) e in
    let g = both (nat_le 1 (length value)) (nat_le (length value) 256) h.0 in
    record { some = grind arith; few = grind arith; octets = h.1 }

pub is_value_so : (value : List ℕ) → IsValue value → is_value value ≡ true
is_value_so value is = let low = is.some in let high = is.few in rw is.octets (grind arith)

cons_is : (x y : ℕ) (xs ys : List ℕ) → x ∷ xs ≡ y ∷ ys → (x ≡ y) × (xs ≡ ys)
cons_is x y xs ys e = (cc, cc)

pub record GoesOn (v w tail u : List ℕ) : Type 0 where
  pub more : List ℕ
  pub longer : w ≡ v ++ more
  pub rest : u ≡ more ++ tail
  pub octets : AreOctets more

-- A value that ends in the text is at least as long as octets of a value at the text's front.
pub goes_on : (v w tail u : List ℕ) → AreOctets v → AreOctets w
    → begins_with_value_octet tail ≡ false → w ++ tail ≡ v ++ u → GoesOn v w tail u
goes_on [] w tail u all these ends e = record {
  more = w;
  longer = refl;
  rest = sym e;
  octets = these;
}
goes_on (c ∷ v) [] [] u all these ends e = cc
goes_on (c ∷ v) [] (t ∷ tail) u all these ends e =
    let (same, others) = cons_is t c tail (v ++ u) e in
    let h = both (is_value_octet c) (list_all is_value_octet v) all in
    absurd (contradicted (sym ends ∙ ap is_value_octet same ∙ h.0))
  where
    contradicted : false ≡ true → ⊥
    contradicted e = cc
goes_on (c ∷ v) (d ∷ w) tail u all these ends e =
    let (same, others) = cons_is d c (w ++ tail) (v ++ u) e in
    let rest = goes_on v w tail u (both (is_value_octet c) (list_all is_value_octet v) all).1
    (both (is_value_octet d) (list_all is_value_octet w) these).1 ends others in
    record { more = rest.more; longer = cc; rest = rest.rest; octets = rest.octets }

-- the octets of a value that were counted at the front, up to a limit
pub prefix_octets : (limit : ℕ) (text : List ℕ)
    → AreOctets (take (prefix_len is_value_octet (take limit text)) text)
prefix_octets zero text = refl
prefix_octets (suc limit) [] = refl
prefix_octets (suc limit) (octet ∷ text) =
    elim (is_value_octet octet) as (λ test. is_value_octet octet ≡ test
    → AreOctets (take (cond test (1 + prefix_len is_value_octet (take limit text)) 0)
    (octet ∷ text))) [
      | true ↦ λ is. grind (arith, is, prefix_octets limit text)
      | false ↦ λ other. refl
    ] refl

-- they end, or the limit is reached
pub prefix_ended : (limit : ℕ) (text : List ℕ)
    → (begins_with_value_octet (drop (prefix_len is_value_octet (take limit text)) text) ≡ false)
    ⊎ (limit ≤ prefix_len is_value_octet (take limit text))
prefix_ended zero text = inr (omega arith)
prefix_ended (suc limit) [] = inl refl
prefix_ended (suc limit) (octet ∷ text) =
    elim (is_value_octet octet) as (λ test. is_value_octet octet ≡ test
    → (begins_with_value_octet (drop (cond test (1 + prefix_len is_value_octet (take limit text)) 0)
    (octet ∷ text)) ≡ false)
    ⊎ (suc limit ≤ cond test (1 + prefix_len is_value_octet (take limit text)) 0)) [
      | true ↦ λ is. elim (prefix_ended limit text)
          [ inl ends ↦ inl (grind (arith, ends)) | inr reached ↦ inr (omega arith) ]
      | false ↦ λ other. inl other
    ] refl

-- ---- a value is text

octet_is_ascii : (c : ℕ) → is_value_octet c ≡ true → c < 128
octet_is_ascii c e = grind (arith, e)

octets_are_ascii : (value : List ℕ) → AreOctets value → IsAscii value
octets_are_ascii [] all = IsAscii-nil
octets_are_ascii (c ∷ value) all =
    let h = both (is_value_octet c) (list_all is_value_octet value) all in
    IsAscii-cons c value (octet_is_ascii c h.0) (octets_are_ascii value h.1)

pub value_is_utf8 : (value : List ℕ) → is_value value ≡ true → IsUtf8 value
value_is_utf8 value e = IsUtf8-from_ascii value (octets_are_ascii value (value_is value e).octets)
