-- A delivery whose front stands still and whose offers are taken.
use Rattle.std.proofs.Common.{◌≡◌, ℕ, ◌<◌, ◌≤◌, Bool, true, false, cond, ◌||◌, nat_eq, arith, List, []}
use Rattle.std.proofs.Common.{◌∷◌, ◌++◌, length, map, take, drop, slice_index_or, refl, ap, sym, ◌∙◌, Some, None}
use Rattle.std.specs.List.{cons_option}
use Rattle.std.specs.Option.{option_map_or}
use Rattle.archive_terms.specs.Archive.{Entry, is_archive}
use Rattle.archive_terms.specs.Selection.{is_stop_closed}
use Rattle.archive_terms.specs.Delivery.{Item, Terms, Delivery, buffer, started, stepped}
use Rattle.archive_terms.specs.Delivery.{taken_whole, is_empty}
use Rattle.archive_terms.specs.Rounds.{Round, whole, free, answered, fate, nothing}
use Rattle.archive_terms.specs.Rounds.{is_failed, picked_at, outcomes, handed_buffer}
use Rattle.archive_terms.specs.Rounds.{handed_buffers, free_round, FrontsRise}
use Rattle.archive_terms.specs.Rounds.{last_front, after_rounds}
use Rattle.archive_terms.specs.Progress.{ready_buffers, unready_buffers, put_at_first, is_late_at}
use Rattle.archive_terms.specs.Progress.{still_buffers, still_buffers_at}
use Rattle.archive_terms.proofs.OfflineRounds.{take_none}
use Rattle.archive_terms.proofs.Runs.{Run-all, Run-further}
use Rattle.archive_terms.proofs.States.{State, State-stepped, State-answered}
use Rattle.archive_terms.proofs.Steps.{Steps, hands, late, waits, rests, state_step, first_put}
use Rattle.std.proofs.Math.Seq.{drop-nil}

-- what is handed over from ready buffers and a last one that isn't ready
abbrev still_of : Terms → Delivery → List (List Item) → List (List Item) → List ℕ → List (List Item)
still_of t d ready unready moments =
    take (length moments) ready
    ++ cond (is_late_at t (put_at_first d (length ready) moments) (drop (length ready) moments))
    unready []

-- a ready buffer goes first
still_hands : (t : Terms) (d d' : Delivery) (now : ℕ) (moments : List ℕ) (items : List Item)
    (ready unready : List (List Item))
    → is_empty d' ≡ true
    → still_of t d (items ∷ ready) unready (now ∷ moments)
    ≡ items ∷ still_of t d' ready unready moments
still_hands t d d' now moments items ready unready empty =
    ap (λ since. items ∷ take (length moments) ready
    ++ cond (is_late_at t since (drop (length ready) moments)) unready []) put
  where
    or_true : (b : Bool) → (b || true) ≡ true
    or_true true = refl
    or_true false = refl

    put : put_at_first d (length (items ∷ ready)) (now ∷ moments)
        ≡ put_at_first d' (length ready) moments
    put =
        let more : nat_eq (length (items ∷ ready)) 0 ≡ false = grind arith in
        rw (empty, more, or_true (is_empty d)) refl

-- with none ready the last one goes where it is late
abbrev none_ready : Terms → ℕ → List (List Item) → List ℕ → List (List Item)
none_ready t since unready moments = cond (is_late_at t since moments) unready []

still_none : (t : Terms) (d : Delivery) (now : ℕ) (moments : List ℕ) (unready : List (List Item))
    → still_of t d [] unready (now ∷ moments)
    ≡ none_ready t (first_put d now) unready (now ∷ moments)
still_none t d now moments unready = ap (λ b. none_ready t (cond b now d.since) unready
    (now ∷ moments)) (or_false (is_empty d))
  where
    or_false : (b : Bool) → (b || false) ≡ b
    or_false true = refl
    or_false false = refl

-- what a round at a front and those behind it hand over, where its step has led to a delivery
module _ (t : Terms) (a : List Entry) (front : ℕ) (rounds : List Round) where
  abbrev entries : List (ℕ × Entry)
  entries = picked_at t a front

  abbrev pub handed_from : Delivery → List (List Item)
  handed_from d = handed_buffers (outcomes t a rounds d)

  abbrev pub handed_with : Bool → Delivery → List (List Item)
  handed_with fixed s =
      let answer = cond fixed (Some whole) None in
      cons_option
      (handed_buffer (option_map_or (λ x. fate t x s (buffer entries s)) answer nothing))
      (handed_buffers (cond (is_failed (free whole) answer) []
      (outcomes t a rounds (option_map_or (λ x. answered t x s) answer s))))

  pub fixed_is_handed : (s : Delivery) (fixed : Bool) → fixed ≡ true
      → handed_with fixed s ≡ buffer entries s ∷ handed_from (taken_whole s)
  fixed_is_handed s fixed is = rw is refl

  pub open_is_kept : (s : Delivery) (fixed : Bool) → fixed ≡ false
      → handed_with fixed s ≡ handed_from s
  open_is_kept s fixed is = rw is refl

no_late : (b : Bool) → cond b (let none : List (List Item) = [] in none) [] ≡ []
no_late true = refl
no_late false = refl

module _ (t : Terms) (a : List Entry) (front : ℕ) (some : 0 < t.size) where
  abbrev closed : Bool
  closed = is_stop_closed t.selection (take front a)

  abbrev all : List (ℕ × Entry)
  all = picked_at t a front

  abbrev free_rounds : List ℕ → List Round
  free_rounds moments = map (free_round front) moments

  abbrev Still : List ℕ → Delivery → Type 0
  Still moments d = handed_from t a front (free_rounds moments) d ≡ still_buffers t all closed d moments

  nothing_still : (d : Delivery) (moments : List ℕ) → still_of t d [] [] moments ≡ []
  nothing_still d moments =
      ap (λ buffers. buffers ++ cond (is_late_at t (put_at_first d 0 moments) moments) [] [])
      (take_none (length moments))
      ∙ no_late (is_late_at t (put_at_first d 0 moments) moments)

  still_held : (d : Delivery) (moments : List ℕ) (unready : List (List Item))
      → is_empty d ≡ false
      → still_of t d [] unready moments ≡ none_ready t d.since unready moments
  still_held d moments unready held =
      ap (λ b. take (length moments) [] ++ none_ready t (cond (b || false)
      (slice_index_or moments 0 0) d.since) unready moments) held
      ∙ ap (λ buffers. buffers ++ none_ready t d.since unready moments)
      (take_none (length moments))

  on_step : (now : ℕ) (moments : List ℕ) (d s : Delivery) → Steps t all closed now d s
      → (s.fixed ≡ true → Still moments (taken_whole s))
      → (s.fixed ≡ false → Still moments s)
      → handed_with t a front (free_rounds moments) s.fixed s
      ≡ still_of t d (ready_buffers t all closed d) (unready_buffers t all closed d) (now ∷ moments)
  on_step now moments d s (hands fixed ready rest) taken kept =
      fixed_is_handed t a front (free_rounds moments) s s.fixed fixed
      ∙ ap (λ buffers. buffer all s ∷ buffers) (taken fixed)
      ∙ sym (still_hands t d (taken_whole s) now moments (buffer all s)
      (ready_buffers t all closed (taken_whole s)) (unready_buffers t all closed (taken_whole s))
      refl)
      ∙ sym (ap (λ buffers. still_of t d buffers (unready_buffers t all closed d) (now ∷ moments))
      ready
      ∙ ap (λ buffers. still_of t d (buffer all s ∷ ready_buffers t all closed (taken_whole s))
      buffers (now ∷ moments)) rest)
  on_step now moments d s (late fixed none last none_more none_last is) taken kept =
      fixed_is_handed t a front (free_rounds moments) s s.fixed fixed
      ∙ ap (λ buffers. buffer all s ∷ buffers) (taken fixed
      ∙ ap (λ buffers. still_of t (taken_whole s) buffers
      (unready_buffers t all closed (taken_whole s)) moments) none_more
      ∙ ap (λ buffers. still_of t (taken_whole s) [] buffers moments) none_last
      ∙ nothing_still (taken_whole s) moments)
      ∙ sym (ap (λ buffers. still_of t d buffers (unready_buffers t all closed d) (now ∷ moments))
      none
      ∙ ap (λ buffers. still_of t d [] buffers (now ∷ moments)) last
      ∙ still_none t d now moments (buffer all s ∷ [])
      ∙ ap (λ b. cond (b || is_late_at t (first_put d now) moments) (buffer all s ∷ []) []) is)
  on_step now moments d s (waits open_yet none none_yet same is put held) taken kept =
      open_is_kept t a front (free_rounds moments) s s.fixed open_yet
      ∙ kept open_yet
      ∙ ap (λ buffers. still_of t s buffers (unready_buffers t all closed s) moments) none_yet
      ∙ ap (λ buffers. still_of t s [] buffers moments) same
      ∙ still_held s moments (unready_buffers t all closed d) held
      ∙ ap (λ since. none_ready t since (unready_buffers t all closed d) moments) (sym put)
      ∙ sym (ap (λ buffers. still_of t d buffers (unready_buffers t all closed d) (now ∷ moments))
      none
      ∙ still_none t d now moments (unready_buffers t all closed d)
      ∙ ap (λ b. cond (b || is_late_at t (first_put d now) moments)
      (unready_buffers t all closed d) []) is)
  on_step now moments d s (rests open_yet none none_yet no_last no_last_yet) taken kept =
      open_is_kept t a front (free_rounds moments) s s.fixed open_yet
      ∙ kept open_yet
      ∙ ap (λ buffers. still_of t s buffers (unready_buffers t all closed s) moments) none_yet
      ∙ ap (λ buffers. still_of t s [] buffers moments) no_last_yet
      ∙ nothing_still s moments
      ∙ sym (ap (λ buffers. still_of t d buffers (unready_buffers t all closed d) (now ∷ moments))
      none
      ∙ ap (λ buffers. still_of t d [] buffers (now ∷ moments)) no_last
      ∙ nothing_still d (now ∷ moments))

  pub rounds_still : (moments : List ℕ) (d : Delivery) → State t all closed d → Still moments d
  rounds_still [] d state =
      rw (drop-nil (length (ready_buffers t all closed d))) refl
  rounds_still (now ∷ moments) d state =
      let s : Delivery = stepped t all closed now d in
      let next : State t all closed s = State-stepped t all closed now d some state in
      on_step now moments d s (state_step t all closed now d some state)
      (λ fixed. rounds_still moments (taken_whole s) (State-answered t all closed whole s fixed
      next))
      (λ open_yet. rounds_still moments s next)

pub still_rounds_lem : (t : Terms) (entries : List Entry) (rounds : List Round) (front : ℕ)
    (moments : List ℕ)
    → 0 < t.size → is_archive entries ≡ true → FrontsRise 0 rounds → last_front 0 rounds ≤ front
    → handed_buffers (outcomes t entries (map (free_round front) moments)
    (after_rounds t entries rounds started))
    ≡ still_buffers_at t entries front (after_rounds t entries rounds started) moments
still_rounds_lem t entries rounds front moments some archive rise behind =
    rounds_still t entries front some moments (after_rounds t entries rounds started)
    (Run-further t entries (last_front 0 rounds) front (outcomes t entries rounds started)
    (after_rounds t entries rounds started) archive behind
    (Run-all t entries rounds some archive rise)).state
