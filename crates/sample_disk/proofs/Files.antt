-- What a file of octets behind gates stands for.
use Rattle.std.proofs.Common.{◌≡◌, ◌≢◌, inl, inr, ℕ, ◌*◌, List, [], ◌∷◌, ◌++◌, length, drop}
use Rattle.std.proofs.Common.{slice_index, refl, sym, ◌∙◌, ap, arith}
use Rattle.sample_disk.specs.Gated.{gated, StandsFor, IsCut}

pub length-gated : (octets : List ℕ) → length (gated octets) ≡ 2 * length octets
length-gated [] = refl
length-gated (octet ∷ octets) = omega (arith, length-gated octets)

pub gated-append : (octets more : List ℕ) → gated (octets ++ more) ≡ gated octets ++ gated more
gated-append [] more = refl
gated-append (octet ∷ octets) more = ap (λ (rest : List ℕ). 165 ∷ octet ∷ rest)
    (gated-append octets more)

head_of : {x y : ℕ} {xs ys : List ℕ} → x ∷ xs ≡ y ∷ ys → x ≡ y
head_of {x} same = ap (λ (l : List ℕ). slice_index l 0) same

tail_of : {x y : ℕ} {xs ys : List ℕ} → x ∷ xs ≡ y ∷ ys → xs ≡ ys
tail_of same = ap (λ (l : List ℕ). drop 1 l) same

one_only : (one other rest more : List ℕ) (gate shut : ℕ) → gate ≢ 165 → shut ≢ 165
    → gated one ++ gate ∷ rest ≡ gated other ++ shut ∷ more → one ≡ other
one_only [] [] rest more gate shut closed closed' same = refl
one_only [] (y ∷ ys) rest more gate shut closed closed' same = absurd (closed (head_of same))
one_only (x ∷ xs) [] rest more gate shut closed closed' same = absurd (closed' (sym (head_of same)))
one_only (x ∷ xs) (y ∷ ys) rest more gate shut closed closed' same =
    let behind : x ∷ (gated xs ++ gate ∷ rest) ≡ y ∷ (gated ys ++ shut ∷ more) = tail_of same in
    ap (λ (l : List ℕ). x ∷ l) (one_only xs ys rest more gate shut closed closed' (tail_of behind))
    ∙ ap (λ (z : ℕ). z ∷ ys) (head_of behind)

-- a file stands for one list at most
pub stands_for_one : (one other file : List ℕ) → StandsFor one file → StandsFor other file
    → one ≡ other
stands_for_one one other file first second = one_only one other first.rest second.rest first.gate
    second.gate first.shut second.shut (sym first.is ∙ second.is)

nothing_fits : (ys more : List ℕ) (shut : ℕ) → shut ≢ 165 → [] ≡ gated ys ++ shut ∷ more → ⊥
nothing_fits [] more shut closed same = cc
nothing_fits (y ∷ ys) more shut closed same = cc

cut_fits : (rest ys more : List ℕ) (shut : ℕ) → shut ≢ 165 → IsCut rest
    → rest ≡ gated ys ++ shut ∷ more → ⊥
cut_fits rest ys more shut closed (inl none) same =
    nothing_fits ys more shut closed (sym none ∙ same)
cut_fits rest [] more shut closed (inr one) same = closed (sym (head_of (sym one ∙ same)))
cut_fits rest (y ∷ ys) more shut closed (inr one) same =
    let behind : [] ≡ y ∷ (gated ys ++ shut ∷ more) = tail_of (sym one ∙ same) in cc

none_fits : (xs rest ys more : List ℕ) (shut : ℕ) → shut ≢ 165 → IsCut rest
    → gated xs ++ rest ≡ gated ys ++ shut ∷ more → ⊥
none_fits [] rest ys more shut closed cut same = cut_fits rest ys more shut closed cut same
none_fits (x ∷ xs) rest [] more shut closed cut same = closed (sym (head_of same))
none_fits (x ∷ xs) rest (y ∷ ys) more shut closed cut same =
    let behind : x ∷ (gated xs ++ rest) ≡ y ∷ (gated ys ++ shut ∷ more) = tail_of same in
    none_fits xs rest ys more shut closed cut (tail_of behind)

pub stands_for_none : (octets rest other file : List ℕ) → file ≡ gated octets ++ rest → IsCut rest
    → StandsFor other file → ⊥
stands_for_none octets rest other file is cut stands =
    none_fits octets rest other stands.rest stands.gate stands.shut cut (sym is ∙ stands.is)
