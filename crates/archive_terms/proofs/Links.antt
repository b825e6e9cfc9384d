-- What a round does by its link.
use Rattle.std.proofs.Common.{◌≡◌, Bool, true, false, cond, List, [], ◌∷◌, Option, Some, None, refl}
use Rattle.std.proofs.Common.{ap, sym, subst, ◌∙◌, take, ℕ, zero, suc, slice_get, arith}
use Rattle.std.specs.Option.{option_map_or}
use Rattle.std.specs.List.{All, list_any}
use Rattle.archive_terms.specs.Archive.{Entry}
use Rattle.archive_terms.specs.Selection.{is_stop_closed}
use Rattle.archive_terms.specs.Delivery.{Item, is_archived, Terms, Delivery, buffer, stepped}
use Rattle.archive_terms.specs.Rounds.{Answer, whole, stall, fail, Link, blocked, waiting, free}
use Rattle.archive_terms.specs.Rounds.{broken, Round, Outcome, nothing, handed, answered, fate}
use Rattle.archive_terms.specs.Rounds.{picked_at, takes_step, at_round, answer_on, answer_at}
use Rattle.archive_terms.specs.Rounds.{after_round, outcome, is_failed, ends_run, outcomes}
use Rattle.archive_terms.specs.Rounds.{handed_buffer, to_discard, IsDiscardedRightly, TimelyShape}

never : (fixed : Bool) → cond fixed (let none : Option Answer = None in none) None ≡ None
never true = refl
never false = refl

-- without an answer nothing was offered
unanswered : (t : Terms) (entries : List Entry) (r : Round) (d : Delivery)
    → answer_at r (at_round t entries r d) ≡ None
    → (after_round t entries r d ≡ at_round t entries r d) × (outcome t entries r d ≡ nothing)
unanswered t entries r d none =
    let after : Delivery = at_round t entries r d in (
      ap (λ a. option_map_or (λ x. answered t x after) a after) none,
      ap (λ a. option_map_or (λ x. fate t x after (buffer (picked_at t entries r.front) after)) a
          nothing) none,
    )

no_answer : (t : Terms) (entries : List Entry) (r : Round) (d : Delivery) → answer_on r.link ≡ None
    → answer_at r (at_round t entries r d) ≡ None
no_answer t entries r d none =
    ap (λ a. cond (at_round t entries r d).fixed a None) none ∙ never (at_round t entries r d).fixed

pub blocked_round : (t : Terms) (entries : List Entry) (r : Round) (d : Delivery) → r.link ≡ blocked
    → (after_round t entries r d ≡ d) × (outcome t entries r d ≡ nothing)
blocked_round t entries r d is =
    let none : (after_round t entries r d ≡ at_round t entries r d)
    × (outcome t entries r d ≡ nothing) =
    unanswered t entries r d (no_answer t entries r d (ap answer_on is)) in (
      none.0
          ∙ ap (λ l. cond (takes_step l) (stepped t (picked_at t entries r.front)
          (is_stop_closed t.selection (take r.front entries)) r.now d) d) is,
      none.1,
    )

pub waiting_round : (t : Terms) (entries : List Entry) (r : Round) (d : Delivery) → r.link ≡ waiting
    → (after_round t entries r d ≡ at_round t entries r d) × (outcome t entries r d ≡ nothing)
waiting_round t entries r d is = unanswered t entries r d
    (no_answer t entries r d (ap answer_on is))

pub taken_round : (t : Terms) (entries : List Entry) (r : Round) (d : Delivery)
    → r.link ≡ free whole
    → (at_round t entries r d).fixed ≡ true → outcome t entries r d
    ≡ handed (buffer (picked_at t entries r.front) (at_round t entries r d))
taken_round t entries r d is fixed =
    let after : Delivery = at_round t entries r d in
    let answer : answer_at r after ≡ Some whole = ap (λ b. cond b (answer_on r.link) None) fixed
    ∙ ap answer_on is in
    ap (λ a. option_map_or (λ x. fate t x after (buffer (picked_at t entries r.front) after)) a
    nothing) answer

pub not_due_round : (t : Terms) (entries : List Entry) (r : Round) (d : Delivery)
    → (at_round t entries r d).fixed ≡ false
    → outcome t entries r d ≡ nothing
not_due_round t entries r d waits =
    (unanswered t entries r d (ap (λ b. cond b (answer_on r.link) None) waits)).1

-- a link that failed takes nothing
none_taken : (t : Terms) (link : Link) (fixed : Bool) (d : Delivery) (items : List Item)
    → is_failed link (cond fixed (answer_on link) None) ≡ true
    → handed_buffer (option_map_or (λ x. fate t x d items) (cond fixed (answer_on link) None)
    nothing) ≡ None
none_taken t broken true d items ended = refl
none_taken t broken false d items ended = refl
none_taken t (free fail) true d items ended = refl
none_taken t (free fail) false d items ended = refl
none_taken t (free whole) true d items ended = cc
none_taken t (free whole) false d items ended = refl
none_taken t (free stall) true d items ended = cc
none_taken t (free stall) false d items ended = refl
none_taken t blocked true d items ended = refl
none_taken t blocked false d items ended = refl
none_taken t waiting true d items ended = refl
none_taken t waiting false d items ended = refl

pub failed_round : (t : Terms) (entries : List Entry) (r : Round) (rounds : List Round)
    (d : Delivery) → ends_run t entries r d ≡ true
    → (outcomes t entries (r ∷ rounds) d ≡ outcome t entries r d ∷ [])
    × (handed_buffer (outcome t entries r d) ≡ None)
failed_round t entries r rounds d ended =
    let after : Delivery = at_round t entries r d in (
      ap (λ b. outcome t entries r d ∷ cond b []
          (outcomes t entries rounds (after_round t entries r d))) ended,
      none_taken t r.link after.fixed after (buffer (picked_at t entries r.front) after) ended,
    )

-- only a buffer that was offered, that the link stalled and that has a picked entry is to be
-- discarded
abbrev stalled_offer : List Item → Option (List Item × Answer)
stalled_offer items = Some (items, stall)

stalled_with_entry : (offer : Option (List Item × Answer)) (items : List Item)
    → to_discard offer ≡ Some items
    → (offer ≡ Some (items, stall)) × (list_any is_archived items ≡ true)
stalled_with_entry None items is = cc
stalled_with_entry (Some (xs, whole)) items is = cc
stalled_with_entry (Some (xs, fail)) items is = cc
stalled_with_entry (Some (xs, stall)) items is = by_test (list_any is_archived xs) refl is
  where
    by_test : (b : Bool) → list_any is_archived xs ≡ b → cond b (Some xs) None ≡ Some items
        → (stalled_offer xs ≡ stalled_offer items) × (list_any is_archived items ≡ true)
    by_test true has is =
        let same : xs ≡ items = cc in (
          ap stalled_offer same,
          ap (list_any is_archived) (sym same)
              ∙ has,
        )
    by_test false has is = cc

all_at : {X : Type 0} → (P : X → Type 0) (xs : List X) (i : ℕ) (x : X) → All P xs
    → slice_get xs i ≡ Some x → P x
all_at P [] i x all is = cc
all_at P (y ∷ xs) zero x all is = let same : y ≡ x = cc in subst P same (all 0 y (omega arith))
all_at P (y ∷ xs) (suc i) x all is = all_at P xs i x (λ k d below. all (suc k) d (omega arith)) is

pub discard_was_stalled : (all : List Item) (done : List Outcome) (i : ℕ) (o : Outcome)
    (items : List Item) → TimelyShape all done
    → slice_get done i ≡ Some o → o.dropped ≡ Some items
    → (o.offer ≡ Some (items, stall)) × (list_any is_archived items ≡ true)
discard_was_stalled all done i o items shape at dropped =
    let rightly : o.dropped ≡ to_discard o.offer =
    all_at IsDiscardedRightly done i o shape.discarded_where_stalled at in
    stalled_with_entry o.offer items (sym rightly ∙ dropped)
