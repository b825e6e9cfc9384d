-- What a reader finds stays as octets come behind the input, but for Cut.
use Rattle.std.proofs.Common.{◌≡◌, ℕ, ◌+◌, ◌-◌, ◌≤◌, Bool, true, false, ◌==◌, ◌||◌, ◌&&◌, List, []}
use Rattle.std.proofs.Common.{◌∷◌, ◌++◌, length, take, drop, nat_eq, nat_lt, slice_index, Ok, Err}
use Rattle.std.proofs.Common.{Result, if◌then◌else◌, refl, ap, ◌∙◌, arith}
use Rattle.std.specs.List.{starts_with}
use Rattle.std.proofs.lemmas.Bool.{ltb-false, le-ltb}
use Rattle.std.proofs.lemmas.List.{append_assoc, take-append-le, drop-append-le, take_rest}
use Rattle.std.proofs.lemmas.List.{length-append, length-drop, drop_at}
use Rattle.ber_core.specs.declared.fault.BerFault.{BerFault}
use Rattle.ber_core.specs.declared.fault.BerFault.TheVariants.{Cut, WrongTag, BadLength}
use Rattle.ber_core.specs.Length.{number_of}
use Rattle.ber_core.specs.View.{View, end_of, left, IsInside}
use Rattle.ber_core.specs.Reading.{missing, content_from, content_behind, content_at, next_content}
use Rattle.ber_core.specs.Longer.{longer, IsUncut, IsWithin}
use Rattle.ber_core.specs.Facts.Ends.{IsInside-reached, IsInside-within}
use Rattle.ber_core.specs.Facts.Found.{front_of, front_starts}

-- ---- lists of which neither begins the other

nat_eq-sym : (a b : ℕ) → nat_eq a b ≡ nat_eq b a
nat_eq-sym a b = grind arith

both_false : (same p q longer_p longer_q : Bool) → (same && p) ≡ false → (same && q) ≡ false
    → (p ≡ false → q ≡ false → (longer_p ≡ false) × (longer_q ≡ false))
    → ((same && longer_p) ≡ false) × ((same && longer_q) ≡ false)
both_false true p q longer_p longer_q e f h = h e f
both_false false p q longer_p longer_q e f h = (refl, refl)

apart : (x tag more : List ℕ) → starts_with nat_eq x tag ≡ false → starts_with nat_eq tag x ≡ false
    → (starts_with nat_eq (x ++ more) tag ≡ false) × (starts_with nat_eq tag (x ++ more) ≡ false)
apart [] tag more one other = cc
apart (a ∷ x) [] more one other = cc
apart (a ∷ x) (b ∷ tag) more one other =
    let is = both_false (nat_eq b a) _ _ _ _ one (rw (nat_eq-sym a b) at other)
    (apart x tag more) in
    (is.0, rw (nat_eq-sym a b) is.1)

first_same : (x tag more : List ℕ) → starts_with nat_eq tag x ≡ false
    → slice_index (x ++ more) 0 ≡ slice_index x 0
first_same [] tag more other = cc
first_same (a ∷ x) tag more other = refl

-- ---- with no element around

abbrev Uncut : Result (ℕ × List ℕ) BerFault → Type 0
Uncut found = IsUncut found

module _ (octets : List ℕ) (place : ℕ) where
  abbrev pub outer : View
  outer = record { octets = octets; place = place; ends = [] }

  from_stays : (at start n : ℕ) (rest more : List ℕ) → Uncut (content_from outer at start n rest)
      → content_from outer at start n (rest ++ more) ≡ content_from outer at start n rest
  from_stays at start n rest more h =
      elim (nat_lt (length rest) n) as (λ b. nat_lt (length rest) n ≡ b
      → Uncut (if b then Err (missing outer at) else Ok (start, take n rest))
      → content_from outer at start n (rest ++ more)
      ≡ (if b then Err (missing outer at) else Ok (start, take n rest))) [
        | true ↦ λ e h. absurd h
        | false ↦ λ e h.
            let enough : n ≤ length rest = ltb-false (length rest) n e in
            rw (
              le-ltb (length (rest ++ more)) n (omega (arith, length-append rest more)),
              take-append-le n rest more enough,
            ) refl
      ] refl h

  behind_stays : (at count : ℕ) (rest more : List ℕ)
      → Uncut (content_behind outer at count rest)
      → content_behind outer at count (rest ++ more) ≡ content_behind outer at count rest
  behind_stays at count rest more h =
      let found = content_from outer at (at + 1 + count) (number_of (take count rest))
      (drop count rest) in
      elim (nat_lt (length rest) count) as (λ b. nat_lt (length rest) count ≡ b
      → Uncut (if b then Err (missing outer at) else found)
      → content_behind outer at count (rest ++ more)
      ≡ (if b then Err (missing outer at) else found)) [
        | true ↦ λ e h. absurd h
        | false ↦ λ e h.
            let enough : count ≤ length rest = ltb-false (length rest) count e in
            rw (
              le-ltb (length (rest ++ more)) count (omega (arith, length-append rest more)),
              take-append-le count rest more enough,
              drop-append-le count rest more enough,
            ) (from_stays at (at + 1 + count) (number_of (take count rest)) (drop count rest) more
            h)
      ] refl h

  at_stays : (at : ℕ) (rest more : List ℕ) → Uncut (content_at outer at rest)
      → content_at outer at (rest ++ more) ≡ content_at outer at rest
  at_stays at [] more h = absurd h
  at_stays at (first ∷ rest) more h =
      elim (nat_lt first 128) as (λ b. Uncut (if b then content_from outer at (at + 1) first rest
      else if first == 128 || nat_lt 136 first then Err (BadLength at)
      else content_behind outer at (first - 128) rest)
      → (if b then content_from outer at (at + 1) first (rest ++ more)
      else if first == 128 || nat_lt 136 first then Err (BadLength at)
      else content_behind outer at (first - 128) (rest ++ more))
      ≡ (if b then content_from outer at (at + 1) first rest
      else if first == 128 || nat_lt 136 first then Err (BadLength at)
      else content_behind outer at (first - 128) rest)) [
        | true ↦ from_stays at (at + 1) first rest more
        | false ↦ elim (first == 128 || nat_lt 136 first) as (λ b.
            Uncut (if b then Err (BadLength at) else content_behind outer at (first - 128) rest)
            → (if b then Err (BadLength at)
            else content_behind outer at (first - 128) (rest ++ more))
            ≡ (if b then Err (BadLength at) else content_behind outer at (first - 128) rest)) [
              | true ↦ λ h. refl
              | false ↦ behind_stays at (first - 128) rest more
            ]
      ] h

  -- what stands in front of the octets x, as the next element
  abbrev pub from : List ℕ → List ℕ → Result (ℕ × List ℕ) BerFault
  from tag x =
      if starts_with nat_eq x tag then content_at outer (place + length tag) (drop (length tag) x)
      else if starts_with nat_eq tag x then Err (Cut place)
      else Err (WrongTag place (slice_index x 0))

  from_more : (tag x more : List ℕ) → Uncut (from tag x) → from tag (x ++ more) ≡ from tag x
  from_more tag x more h =
      elim (starts_with nat_eq x tag) as (λ b. starts_with nat_eq x tag ≡ b
      → Uncut (if b then content_at outer (place + length tag) (drop (length tag) x)
      else if starts_with nat_eq tag x then Err (Cut place)
      else Err (WrongTag place (slice_index x 0)))
      → from tag (x ++ more)
      ≡ (if b then content_at outer (place + length tag) (drop (length tag) x)
      else if starts_with nat_eq tag x then Err (Cut place)
      else Err (WrongTag place (slice_index x 0)))) [
        | true ↦ λ yes h.
            let whole : x ++ more ≡ tag ++ (drop (length tag) x ++ more) =
            ap (λ y. y ++ more) (front_of x tag yes)
            ∙ append_assoc tag (drop (length tag) x) more in
            let behind : drop (length tag) (x ++ more) ≡ drop (length tag) x ++ more =
            ap (drop (length tag)) whole
            ∙ drop_at tag (drop (length tag) x ++ more) (length tag) refl in
            rw (front_starts (x ++ more) tag (drop (length tag) x ++ more) whole, behind)
            (at_stays (place + length tag) (drop (length tag) x) more h)
        | false ↦ λ one. elim (starts_with nat_eq tag x) as (λ b. starts_with nat_eq tag x ≡ b
            → Uncut (if b then Err (Cut place) else Err (WrongTag place (slice_index x 0)))
            → from tag (x ++ more)
            ≡ (if b then Err (Cut place) else Err (WrongTag place (slice_index x 0)))) [
              | true ↦ λ yes h. absurd h
              | false ↦ λ other h.
                  let is = apart x tag more one other in
                  rw (is.0, is.1, first_same x tag more other) refl
            ] refl
      ] refl h

same_at : (view : View) (more : List ℕ) (at : ℕ) (rest : List ℕ)
    → content_at (longer more view) at rest ≡ content_at view at rest
same_at view more at [] = refl
same_at view more at (first ∷ rest) = refl

outer_stays : (octets : List ℕ) (place : ℕ) (tag more : List ℕ) → place ≤ length octets
    → Uncut (next_content (outer octets place) tag)
    → next_content (longer more (outer octets place)) tag ≡ next_content (outer octets place) tag
unfolding next_content
outer_stays octets place tag more h uncut =
    let left_is = take_rest octets place in
    let longer_left = take_rest (octets ++ more) place ∙ drop-append-le place octets more h in
    rw (left_is, longer_left, same_at (outer octets place) more)
    (from_more octets place tag (drop place octets) more (rw left_is at uncut))

-- ---- with an element around

left_kept : (octets more : List ℕ) (place end : ℕ) → place ≤ end → end ≤ length octets
    → take (end - place) (drop place (octets ++ more)) ≡ take (end - place) (drop place octets)
left_kept octets more place end reached within =
    rw (drop-append-le place octets more (omega arith))
    (take-append-le (end - place) (drop place octets) more
    (omega (arith, length-drop place octets)))

entered_stays : (view : View) (tag more : List ℕ) → left (longer more view) ≡ left view
    → end_of (longer more view) ≡ end_of view
    → next_content (longer more view) tag ≡ next_content view tag
unfolding next_content
entered_stays view tag more same ends = rw (same, ends, same_at view more) refl

found_by : (octets : List ℕ) (place : ℕ) (ends tag more : List ℕ)
    → IsInside place ends (length octets)
    → Uncut (next_content (record { octets = octets; place = place; ends = ends }) tag)
    → next_content (record { octets = octets ++ more; place = place; ends = ends }) tag
    ≡ next_content (record { octets = octets; place = place; ends = ends }) tag
found_by octets place [] tag more within uncut = outer_stays octets place tag more within uncut
found_by octets place (end ∷ ends) tag more within uncut =
    entered_stays (record { octets = octets; place = place; ends = end ∷ ends }) tag more
    (left_kept octets more place end within.0
    (omega (
      arith,
      IsInside-reached end ends (length octets) within.1,
      IsInside-within end ends (length octets) within.1,
    ))) refl

pub found_stays : (view : View) (tag more : List ℕ) → IsWithin view
    → IsUncut (next_content view tag)
    → next_content (longer more view) tag ≡ next_content view tag
found_stays view tag more = found_by view.octets view.place view.ends tag more
