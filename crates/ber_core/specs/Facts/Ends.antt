-- The ends of entered elements.
use Rattle.std.proofs.Common.{◌≡◌, ℕ, ◌+◌, ◌<◌, ◌≤◌, List, [], ◌∷◌, drop, get_or, length, arith}
use Rattle.std.proofs.lemmas.List.{drop_more, drop-drop}
use Rattle.ber_core.specs.View.{end_before, IsInside}

pub IsInside-reached : (place : ℕ) (ends : List ℕ) (input_end : ℕ) → IsInside place ends input_end
    → place ≤ end_before ends input_end
IsInside-reached place [] input_end h = h
IsInside-reached place (end ∷ ends) input_end h = h.0

pub IsInside-within : (place : ℕ) (ends : List ℕ) (input_end : ℕ) → IsInside place ends input_end
    → end_before ends input_end ≤ input_end
IsInside-within place [] input_end h = omega arith
IsInside-within place (end ∷ ends) input_end h =
    omega (arith, IsInside-reached end ends input_end h.1, IsInside-within end ends input_end h.1)

-- the innermost end is within the octets
pub end_at_within : (place free input_end : ℕ) (ends : List ℕ) → free < length ends
    → IsInside place (drop free ends) input_end → get_or ends free 0 ≤ input_end
end_at_within place free input_end ends some inside =
    let split : IsInside place (get_or ends free 0 ∷ drop (free + 1) ends) input_end =
    rw (drop_more ends free 0 some) at inside in
    IsInside-within place (get_or ends free 0 ∷ drop (free + 1) ends) input_end split

-- an element is left at its end
pub leave_inside : (place free input_end : ℕ) (ends : List ℕ) → free < length ends
    → IsInside place (drop free ends) input_end → place ≡ end_before (drop free ends) input_end
    → IsInside place (drop (free + 1) ends) input_end
leave_inside place free input_end ends some inside at_end =
    let split : IsInside place (get_or ends free 0 ∷ drop (free + 1) ends) input_end =
    rw (drop_more ends free 0 some) at inside in
    let here : place ≡ get_or ends free 0 = rw (drop_more ends free 0 some) at at_end in
    rw here split.1

pub ruleset leaving = (leave_inside, drop-drop)

pub ruleset staying = (IsInside-reached, IsInside-within)
