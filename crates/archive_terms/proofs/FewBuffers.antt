-- How many buffers frames fill by their number alone.
use Rattle.std.proofs.Common.{◌≡◌, ℕ, suc, ◌+◌, ◌*◌, ◌<◌, ◌≤◌, Bool, true, false, cond}
use Rattle.std.proofs.Common.{List, [], ◌∷◌, ◌++◌, length, refl, sym, ◌∙◌, arith, subst}
use Rattle.std.specs.List.{list_all}
use Rattle.std.proofs.lemmas.List.{length-append}
use Rattle.std.proofs.lemmas.List.Folds.{list_all-append}
use Rattle.std.proofs.lemmas.Bool.{and_parts, and_from, leb-true, leb-false}
use Rattle.archive_terms.specs.Delivery.{Item, is_complete, is_short_frame, cut, cut_onto}
use Rattle.archive_terms.proofs.FewFrames.{complete_by_number}
use Rattle.std.proofs.Math.Nat.{suc-mul, mul-le-mul_right}
use Rattle.std.proofs.Common.{ap, nat_le, nat_eq, ◌&&◌, ◌||◌}
use Rattle.archive_terms.specs.Archive.{is_archive}
use Rattle.archive_terms.specs.Selection.{is_stop_closed}
use Rattle.archive_terms.specs.Delivery.{started}
use Rattle.archive_terms.specs.Rounds.{Round, outcomes, handed_items, to_hand_over, free_round}
use Rattle.archive_terms.specs.Rounds.{picked_at, FrontsRise, last_front, after_rounds}
use Rattle.archive_terms.specs.Progress.{unready_buffers, after_fixed, is_last_late, ready_at}
use Rattle.archive_terms.proofs.FewFrames.{picked_short}
use Rattle.archive_terms.proofs.Runs.{Run-all, Run-further, is_archive-take}
use Rattle.archive_terms.proofs.AllRounds.{all_complete}
use Rattle.std.proofs.Common.{not, take, drop, map, inl, inr}
use Rattle.std.proofs.lemmas.List.{length-map, length-drop, map-append, take-append-drop}
use Rattle.std.proofs.lemmas.List.Filters.{length-filter_both}
use Rattle.std.proofs.lemmas.Bool.{cases_lt, false≢true, true≢false}
use Rattle.archive_terms.specs.Archive.{Entry}
use Rattle.archive_terms.specs.Delivery.{archived, end_of_data, archived_items, is_timely, Terms}
use Rattle.archive_terms.specs.Delivery.{Delivery}
use Rattle.archive_terms.specs.Progress.{is_ready, ready_of, ready_buffers}
use Rattle.archive_terms.proofs.States.{State, going, owing, telling, ending, over}

-- so many buffers of a size are what so many items fill
pub record Fill (size count buffers : ℕ) : Type 0 where
  pub enough : count ≤ buffers * size
  pub no_more : buffers * size < count + size

one_more : (size n l : ℕ) → Fill size n l → Fill size (n + size) (suc l)
one_more size n l f =
    let more : suc l * size ≡ l * size + size = suc-mul l size in
    record {
      enough = omega (arith, f.enough, more);
      no_more = omega (arith, f.no_more, more);
    }

same_count : (size n m l : ℕ) → n ≡ m → Fill size n l → Fill size m l
same_count size n m l is f = subst (λ k. Fill size k l) is f

cut_fill : (size : ℕ) (items held : List Item) → size ≤ 8 → length held < size
    → list_all is_short_frame items ≡ true → list_all is_short_frame held ≡ true
    → Fill size (length items + length held) (length (cut_onto size items held))
cut_fill size [] [] small less short own = record { enough = omega arith; no_more = omega arith }
cut_fill size [] (x ∷ held) small less short own =
    record { enough = omega arith; no_more = omega arith }
cut_fill size (x ∷ items) held small less short own =
    on (is_complete size (held ++ x ∷ [])) refl
    (cut_fill size items [] small (omega arith) parts.1 refl)
    (λ further. cut_fill size items (held ++ x ∷ []) small further parts.1 both)
  where
    parts : (is_short_frame x ≡ true) × (list_all is_short_frame items ≡ true)
    parts = and_parts (is_short_frame x) (list_all is_short_frame items) short

    both : list_all is_short_frame (held ++ x ∷ []) ≡ true
    both = list_all-append is_short_frame held (x ∷ [])
        ∙ and_from (list_all is_short_frame held) (list_all is_short_frame (x ∷ [])) own
        (and_from (is_short_frame x) true parts.0 refl)

    longer : length (held ++ x ∷ []) ≡ length held + 1
    longer = length-append held (x ∷ [])

    on : (b : Bool) → is_complete size (held ++ x ∷ []) ≡ b
        → Fill size (length items + 0) (length (cut_onto size items []))
        → (length (held ++ x ∷ []) < size
        → Fill size (length items + length (held ++ x ∷ []))
        (length (cut_onto size items (held ++ x ∷ []))))
        → Fill size (suc (length items) + length held)
        (length (cond b ((held ++ x ∷ []) ∷ cut_onto size items [])
        (cut_onto size items (held ++ x ∷ []))))
    on true is next further =
        let full : size ≤ length (held ++ x ∷ []) =
        leb-true size (length (held ++ x ∷ []))
        (sym (complete_by_number size (held ++ x ∷ []) small both) ∙ is) in
        same_count size (length items + 0 + size) (suc (length items) + length held)
        (suc (length (cut_onto size items []))) (omega (arith, full, longer, less))
        (one_more size (length items + 0) (length (cut_onto size items [])) next)
    on false is next further =
        let open_yet : length (held ++ x ∷ []) < size =
        leb-false size (length (held ++ x ∷ []))
        (sym (complete_by_number size (held ++ x ∷ []) small both) ∙ is) in
        same_count size (length items + length (held ++ x ∷ []))
        (suc (length items) + length held)
        (length (cut_onto size items (held ++ x ∷ []))) (omega (arith, longer)) (further open_yet)

pub cut_fills : (size : ℕ) (items : List Item) → 0 < size → size ≤ 8
    → list_all is_short_frame items ≡ true
    → Fill size (length items) (length (cut size items))
cut_fills size items some small short =
    same_count size (length items + 0) (length items) (length (cut size items)) (omega arith)
    (cut_fill size items [] small some short refl)

-- ---- of a delivery

ready_of_few : (size : ℕ) (items : List Item) (closed : Bool)
    → length (ready_of size items closed) ≤ length (cut size items) + 1
ready_of_few size items true =
    omega (arith, length-append (cut size items) ((end_of_data ∷ []) ∷ []))
ready_of_few size items false =
    omega (
      arith,
      length-filter_both (is_ready size) (λ items. not (is_ready size items))
          (λ items. refl) (cut size items),
    )

-- beside a fixed buffer and end of data the ready buffers are those of some of the picked entries
record FewLeft (t : Terms) (entries : List (ℕ × Entry)) (closed : Bool) (d : Delivery)
    : Type 0 where
  from : ℕ
  few : length (ready_buffers t entries closed d)
      ≤ length (cut t.size (archived_items (drop from entries))) + 2

few_left : (t : Terms) (entries : List (ℕ × Entry)) (closed : Bool) (d : Delivery)
    → is_timely t.mode ≡ false → State t entries closed d → FewLeft t entries closed d
few_left t entries closed d mode (going n k true since fits limits) = record {
  from = n + k;
  few = omega (arith, ready_of_few t.size (archived_items (drop (n + k) entries)) closed);
}
few_left t entries closed d mode (going n k false since fits limits) = record {
  from = n;
  few = omega (arith, ready_of_few t.size (archived_items (drop n entries)) closed);
}
few_left t entries closed d mode (owing n since fits timely) =
    absurd (false≢true (sym mode ∙ timely))
few_left t entries closed d mode (telling n k fixed since fits limits timely) =
    absurd (false≢true (sym mode ∙ timely))
few_left t entries closed d mode (ending n k true since all none is shut) =
    record { from = 0; few = omega arith }
few_left t entries closed d mode (ending n k false since all none is shut) = absurd (false≢true is)
few_left t entries closed d mode (over n k true since all none is shut) = absurd (true≢false is)
few_left t entries closed d mode (over n k false since all none is shut) =
    record { from = 0; few = omega arith }

short_rest : (n : ℕ) (entries : List (ℕ × Entry))
    → list_all is_short_frame (archived_items entries) ≡ true
    → list_all is_short_frame (archived_items (drop n entries)) ≡ true
short_rest n entries short =
    let front : List Item = archived_items (take n entries) in
    let rest : List Item = archived_items (drop n entries) in
    let whole : front ++ rest ≡ archived_items entries =
    sym (map-append (λ x. archived x.0 x.1) (take n entries) (drop n entries))
    ∙ ap archived_items (take-append-drop n entries) in
    (and_parts (list_all is_short_frame front) (list_all is_short_frame rest)
    (sym (list_all-append is_short_frame front rest) ∙ ap (list_all is_short_frame) whole
    ∙ short)).1

-- a number of rounds that makes up for the entries and two buffers
few_enough : (t : Terms) (entries : List (ℕ × Entry)) (closed : Bool) (d : Delivery) (rounds : ℕ)
    → 0 < t.size → t.size ≤ 8 → is_timely t.mode ≡ false
    → list_all is_short_frame (archived_items entries) ≡ true
    → State t entries closed d
    → length entries + 2 * t.size ≤ rounds * t.size
    → length (ready_buffers t entries closed d) ≤ rounds
few_enough t entries closed d rounds some small mode short state many =
    let left = few_left t entries closed d mode state in
    let rest : List Item = archived_items (drop left.from entries) in
    let buffers : ℕ = length (cut t.size rest) in
    let fill = cut_fills t.size rest some small (short_rest left.from entries short) in
    let fewer : length rest ≤ length entries =
    omega (
      arith,
      length-map (drop left.from entries) (λ x. archived x.0 x.1),
      length-drop left.from entries,
    ) in
    elim (cases_lt rounds (length (ready_buffers t entries closed d))) [
      | inl more ↦
          let at_most : rounds ≤ suc buffers = omega (arith, more, left.few) in
          let scaled : rounds * t.size ≤ suc buffers * t.size =
          mul-le-mul_right t.size at_most in
          absurd (omega (arith, scaled, suc-mul buffers t.size, fill.no_more, fewer, many))
      | inr enough ↦ enough
    ]

-- where the stop is closed no buffer waits
none_waits : (t : Terms) (entries : List (ℕ × Entry)) (d : Delivery)
    → unready_buffers t entries true d ≡ []
none_waits t entries d = on (after_fixed d).ended
  where
    on : (b : Bool) → cond b (let none : List (List Item) = [] in none) [] ≡ []
    on true = refl
    on false = refl

enough_of : (ready rounds unready : ℕ) (late : Bool) → ready ≤ rounds → unready ≡ 0
    → (nat_le ready rounds && (nat_eq unready 0 || late)) ≡ true
enough_of ready rounds unready late some none = grind arith

pub few_rounds : (t : Terms) (entries : List Entry) (rounds : List Round) (front : ℕ)
    (moments : List ℕ)
    → 0 < t.size → t.size ≤ 8 → is_timely t.mode ≡ false → t.selection.notices ≡ false
    → is_archive entries ≡ true → FrontsRise 0 rounds → last_front 0 rounds ≤ front
    → is_stop_closed t.selection (take front entries) ≡ true
    → length (picked_at t entries front) + 2 * t.size ≤ length moments * t.size
    → handed_items (outcomes t entries rounds started)
    ++ handed_items (outcomes t entries (map (free_round front) moments)
    (after_rounds t entries rounds started))
    ≡ to_hand_over t (take front entries)
few_rounds t entries rounds front moments some small mode notices archive rise behind shut many =
    let d : Delivery = after_rounds t entries rounds started in
    let all : List (ℕ × Entry) = picked_at t entries front in
    let closed : Bool = is_stop_closed t.selection (take front entries) in
    let state : State t all closed d =
    (Run-further t entries (last_front 0 rounds) front (outcomes t entries rounds started) d archive
    behind (Run-all t entries rounds some archive rise)).state in
    let few : length (ready_at t entries front d) ≤ length moments =
    few_enough t all closed d (length moments) some small mode
    (picked_short (take front entries) t.selection notices (is_archive-take entries front archive))
    state many in
    let none : length (unready_buffers t all closed d) ≡ 0 =
    ap (λ b. length (unready_buffers t all b d)) shut ∙ ap length (none_waits t all d) in
    all_complete t entries rounds front moments some archive rise behind mode
    (enough_of (length (ready_at t entries front d)) (length moments)
    (length (unready_buffers t all closed d)) (is_last_late t all closed d moments) few none)
