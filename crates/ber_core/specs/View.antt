-- What contracts see of a reader.
use Rattle.std.specs.Prelude.{ℕ, ◌-◌, ◌≤◌, List, [], ◌∷◌, length, take, drop, refl}
use Rattle.std.specs.Coded.{Coded, code_by, coded×, coded_ℕ, coded_list}

-- the octets, the place of the next one, and the ends of the entered elements, the innermost first
pub record View : Type 0 where
  pub octets : List ℕ
  pub place : ℕ
  pub ends : List ℕ

abbrev pub view_code : Coded View
view_code =
    code_by (List ℕ × (ℕ × List ℕ)) (coded× (coded_list coded_ℕ)
    (coded× coded_ℕ (coded_list coded_ℕ)))
    (λ v. (v.octets, (v.place, v.ends))) (λ p. record { octets = p.0; place = p.1.0; ends = p.1.1 })
    (λ _. refl)

-- the end of the innermost entered element, or where none is entered, of the octets
abbrev pub end_before : List ℕ → ℕ → ℕ
end_before [] input_end = input_end
end_before (end ∷ ends) input_end = end

abbrev pub end_of : View → ℕ
end_of view = end_before view.ends (length view.octets)

-- the octets from the place to that end
abbrev pub left : View → List ℕ
left view = take (end_of view - view.place) (drop view.place view.octets)

-- a reader before the first octet
abbrev pub view_before : List ℕ → View
view_before octets = record { octets = octets; place = 0; ends = [] }

-- the place is within the innermost entered element, and each element within the one around it
abbrev pub IsInside : ℕ → List ℕ → ℕ → Type 0
IsInside place [] input_end = place ≤ input_end
IsInside place (end ∷ ends) input_end = (place ≤ end) × IsInside end ends input_end
