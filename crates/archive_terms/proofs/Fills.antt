-- A look gives enough to fill a buffer.
use Rattle.std.proofs.Common.{◌≡◌, ℕ, ◌+◌, ◌-◌, ◌≤◌, true, not, nat_le, List, ◌++◌, length, map}
use Rattle.std.proofs.Common.{take, ap, sym, ◌∙◌, arith, inl, inr, ◌⊎◌, length-append}
use Rattle.std.specs.List.{list_any, sum_by, sum}
use Rattle.std.proofs.lemmas.List.{take-map, take-take, length-map, take-append-le, length-take-le}
use Rattle.std.proofs.lemmas.List.Sums.{sum-map, sum_by-append}
use Rattle.std.proofs.lemmas.Bool.{both_ways, cases_lt, or_left, or_right, le-leb}
use Rattle.std.proofs.Math.Seq.{take-append-add}
use Rattle.archive_terms.specs.Archive.{Entry}
use Rattle.archive_terms.specs.Delivery.{Item, archived, archived_items, frame_octets}
use Rattle.archive_terms.specs.Delivery.{is_notice_item, is_full, is_complete, buffer_length}
use Rattle.archive_terms.specs.Glimpse.{given, lengths_of}
use Rattle.archive_terms.proofs.Buffers.{InLimits, buffer_length-le, buffer_length-open}
use Rattle.archive_terms.proofs.Buffers.{buffer_length-stops}
use Rattle.archive_terms.proofs.Counts.{passing-is, given-le, given-stops}

-- the first items behind those that are held
front_same : (h : List Item) (g : ℕ) (w : List (ℕ × Entry))
    → take (length h + g) (h ++ archived_items w) ≡ h ++ archived_items (take g w)
front_same h g w = take-append-add h (archived_items w) g
    ∙ ap (λ xs. h ++ xs) (take-map (λ x. archived x.0 x.1) g w)

pub front_length : (h : List Item) (w : List (ℕ × Entry))
    → length (h ++ archived_items w) ≡ length h + length w
front_length h w = omega (
  arith,
  length-append h (archived_items w),
  length-map w (λ x. archived x.0 x.1),
)

-- with the room or the octets reached the buffer is full
reached_is_complete : (size : ℕ) (h : List Item) (g : ℕ) (w : List (ℕ × Entry)) → g ≤ length w
    → (size - length h ≤ g) ⊎ (524288 - sum_by frame_octets h ≤ sum (take g (lengths_of w)))
    → is_complete size (h ++ archived_items (take g w)) ≡ true
reached_is_complete size h g w within reached =
    or_left (is_full size items) (list_any is_notice_item items)
    (elim reached [
      | inl room ↦ or_left (nat_le size (length items)) (nat_le 524288 (sum_by frame_octets items))
          (le-leb size (length items) (omega (
            arith,
            front_length h (take g w),
            length-take-le g w within,
          )))
      | inr octets ↦ or_right (nat_le size (length items))
          (nat_le 524288 (sum_by frame_octets items))
          (le-leb 524288 (sum_by frame_octets items)
          (omega (arith, sum_by-append frame_octets h (archived_items (take g w)), summed)))
    ])
  where
    items : List Item
    items = h ++ archived_items (take g w)

    summed : sum (take g (lengths_of w)) ≡ sum_by frame_octets (archived_items (take g w))
    summed =
        ap sum (take-map frame_octets g (archived_items w))
        ∙ ap (λ xs. sum (map frame_octets xs)) (take-map (λ x. archived x.0 x.1) g w)
        ∙ sum-map frame_octets (archived_items (take g w))

-- how many a look gives behind held items
abbrev pub look : ℕ → List Item → List (ℕ × Entry) → ℕ
look size h w = given (size - length h) (524288 - sum_by frame_octets h) (lengths_of w)

pub look-le : (size : ℕ) (h : List Item) (w : List (ℕ × Entry)) → look size h w ≤ length w
look-le size h w =
    omega (
      arith,
      given-le (size - length h) (524288 - sum_by frame_octets h) (lengths_of w),
      length-map (archived_items w) frame_octets,
      length-map w (λ x. archived x.0 x.1),
    )

-- the buffer takes no more than what is held and given
pub enough_given : (size : ℕ) (h : List Item) (w : List (ℕ × Entry))
    → buffer_length size (h ++ archived_items w) ≤ length h + look size h w
enough_given size h w =
    elim (cases_lt (look size h w) (length w)) [
      | inl less ↦ elim (cases_lt (length h + look size h w)
          (buffer_length size (h ++ archived_items w))) [
            | inl more ↦ absurd (both_ways (is_complete size
                (h ++ archived_items (take (look size h w) w)))
                (ap (is_complete size) (sym (front_same h (look size h w) w))
                ∙ buffer_length-open size (h ++ archived_items w) (length h + look size h w) more)
                (reached_is_complete size h (look size h w) w (look-le size h w)
                (given-stops (size - length h) (524288 - sum_by frame_octets h) (lengths_of w)
                (omega (
                  arith,
                  length-map (archived_items w) frame_octets,
                  length-map w (λ x. archived x.0 x.1),
                )))))
            | inr fits ↦ omega arith
          ]
      | inr all ↦ omega (arith, buffer_length-le size (h ++ archived_items w), front_length h w)
    ]

-- no less than what is held
pub held_taken : (size : ℕ) (h : List Item) (w : List (ℕ × Entry)) → InLimits size h
    → length h ≤ buffer_length size (h ++ archived_items w)
held_taken size h w limits =
    elim (cases_lt (buffer_length size (h ++ archived_items w)) (length h)) [
      | inl less ↦
          let k : ℕ = buffer_length size (h ++ archived_items w) in
          absurd (both_ways (is_complete size (take k h)) (limits.open_before k less)
          (ap (is_complete size) (sym (take-append-le k h (archived_items w) (omega arith)))
          ∙ buffer_length-stops size (h ++ archived_items w) (omega (arith, front_length h w))))
      | inr more ↦ omega arith
    ]

-- of what is given the buffer takes what it would take of all
pub given_fills : (size : ℕ) (h : List Item) (w : List (ℕ × Entry))
    → buffer_length size (h ++ archived_items (take (look size h w) w))
    ≡ buffer_length size (h ++ archived_items w)
given_fills size h w =
    passing-is (λ j. not (is_complete size (take j front))) front k
    (omega (
      arith,
      within,
      front_length h (take g w),
      length-take-le g w (look-le size h w),
      look-le size h w,
    ))
    (λ j below. ap not (ap (is_complete size) (same j (omega (arith, within)))
    ∙ buffer_length-open size all j below))
    (λ more. ap not (ap (is_complete size) (same k within) ∙ buffer_length-stops size all
    (omega (
      arith,
      front_length h w,
      front_length h (take g w),
      length-take-le g w (look-le size h w),
      look-le size h w,
    ))))
  where
    g : ℕ
    g = look size h w

    all : List Item
    all = h ++ archived_items w

    front : List Item
    front = h ++ archived_items (take g w)

    k : ℕ
    k = buffer_length size all

    within : k ≤ length h + g
    within = enough_given size h w

    same : (j : ℕ) → j ≤ length h + g → take j front ≡ take j all
    same j le = ap (take j) (sym (front_same h g w)) ∙ take-take j (length h + g) all le
