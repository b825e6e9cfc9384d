-- An input that is read in pieces.
use Rattle.std.proofs.Common.{◌≡◌, ℕ, ◌+◌, ◌<◌, ◌≤◌, List, ◌++◌, length, take, drop, Option, Some}
use Rattle.std.proofs.Common.{None, sym, ap, subst, ◌∙◌, length-drop, length-take, arith, ⊎_elim}
use Rattle.std.proofs.lemmas.Bool.Decides.{leb_tells}
use Rattle.std.proofs.lemmas.List.{drop-drop, take_all}
use Rattle.std.proofs.Math.Seq.{take-add}
use Rattle.std.specs.Option.{option_map, IfSome}
use Rattle.octet_core.specs.Taken.{Gives}

-- so much of an input was read, where it tells
abbrev pub IsRead : Option (List ℕ) → ℕ → List ℕ → Type 0
IsRead all count read = IfSome all (λ octets. (read ≡ take count octets) × (count ≤ length octets))

-- where a call gives none, all of it was read
pub whole_read : (all left after : Option (List ℕ)) (into filled read : List ℕ) (n count : ℕ)
    → left ≡ option_map (drop count) all → IsRead all count read
    → Gives left after into filled n → 0 < length into → n ≡ 0
    → IfSome all (λ octets. read ≡ octets)
whole_read None left after into filled read n count is front gives some none = tt
whole_read (Some octets) left after into filled read n count is front gives some none =
    let tells : Gives (Some (drop count octets)) after into filled n =
    subst (λ now. Gives now after into filled n) is gives in
    let most : length octets ≤ count = ⊎_elim (λ le. le.1)
    (λ more. let below : count < length octets = more.1 in
    let given : 0 < n = tells.some (omega (arith, length-drop count octets, below)) some in
    absurd (omega (arith, given, none)))
    (leb_tells (length octets) count) in
    front.0 ∙ take_all count octets most

-- a further piece was read
pub more_read : (all left after : Option (List ℕ)) (into filled read taken read_now : List ℕ)
    (n count count_now : ℕ) → left ≡ option_map (drop count) all → IsRead all count read
    → Gives left after into filled n → taken ≡ take n filled → length taken ≡ n
    → read_now ≡ read ++ taken → count_now ≡ count + n
    → (after ≡ option_map (drop count_now) all) × IsRead all count_now read_now
more_read None left after into filled read taken read_now n count count_now is front gives piece
    full joined counted =
    (gives.left ∙ ap (option_map (drop n)) is, tt)
more_read (Some octets) left after into filled read taken read_now n count count_now is front gives
    piece full joined counted =
    let tells : Gives (Some (drop count octets)) after into filled n =
    subst (λ now. Gives now after into filled n) is gives in
    let same : taken ≡ take n (drop count octets) = piece ∙ tells.octets in
    let long : n ≤ length (drop count octets) =
    omega (arith, full, simp length-take at (ap length same)) in
    let within : count + n ≤ length octets = omega (
      arith,
      front.1,
      long,
      length-drop count octets,
    ) in
    rw counted (
      gives.left ∙ ap (option_map (drop n)) is ∙ ap Some (drop-drop n count octets),
      (
        joined ∙ ap (λ xs. xs ++ taken) front.0 ∙ ap (λ xs. take count octets ++ xs) same
            ∙ sym (take-add count n octets),
        within,
      ),
    )
