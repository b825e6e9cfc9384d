-- What a round offers whose link answers.
use Rattle.std.proofs.Common.{◌≡◌, ℕ, ◌<◌, ◌≤◌, Bool, true, false, cond, List, [], ◌∷◌}
use Rattle.std.proofs.Common.{take, Some, None, refl, ap, sym, ◌∙◌}
use Rattle.std.proofs.lemmas.Bool.{true≢false}
use Rattle.std.specs.Option.{option_map_or}
use Rattle.archive_terms.specs.Archive.{Entry, is_archive}
use Rattle.archive_terms.specs.Selection.{is_stop_closed}
use Rattle.archive_terms.specs.Delivery.{Item, Terms, Delivery, buffer, started, stepped, is_discardable}
use Rattle.archive_terms.specs.Delivery.{is_late, limit_of, taken_whole}
use Rattle.archive_terms.specs.Rounds.{Answer, whole, stall, fail, Round, free, nothing, fate}
use Rattle.archive_terms.specs.Rounds.{picked_at, outcome, outcomes, after_rounds, FrontsRise}
use Rattle.archive_terms.specs.Rounds.{last_front, discarded, kept}
use Rattle.archive_terms.specs.Progress.{ready_at, ready_buffers, unready_at}
use Rattle.archive_terms.proofs.GrowingRounds.{not_both, head_or}
use Rattle.archive_terms.proofs.Runs.{Run-all, Run-further}
use Rattle.archive_terms.proofs.Steps.{Steps, hands, late, waits, rests, state_step, first_put}

-- what a fixed buffer's offer comes to
fate_offers : (t : Terms) (answer : Answer) (d : Delivery) (items : List Item)
    → (fate t answer d items).offer ≡ Some (items, answer)
fate_offers t whole d items = refl
fate_offers t fail d items = refl
fate_offers t stall d items = on (is_discardable t.mode d)
  where
    on : (b : Bool) → (cond b (discarded items) (kept items)).offer ≡ Some (items, stall)
    on true = refl
    on false = refl

offered_with : (t : Terms) (answer : Answer) (s : Delivery) (items : List Item) (fixed : Bool)
    → fixed ≡ true
    → (option_map_or (λ x. fate t x s items) (cond fixed (Some answer) None) nothing).offer
    ≡ Some (items, answer)
offered_with t answer s items fixed is =
    ap (λ b. (option_map_or (λ x. fate t x s items) (cond b (Some answer) None) nothing).offer) is
    ∙ fate_offers t answer s items

module _ (t : Terms) (entries : List Entry) (rounds : List Round) (front now : ℕ) (answer : Answer)
    (some : 0 < t.size) (archive : is_archive entries ≡ true) (rise : FrontsRise 0 rounds)
    (behind : last_front 0 rounds ≤ front) where
  abbrev d : Delivery
  d = after_rounds t entries rounds started

  abbrev closed : Bool
  closed = is_stop_closed t.selection (take front entries)

  abbrev all : List (ℕ × Entry)
  all = picked_at t entries front

  abbrev s : Delivery
  s = stepped t all closed now d

  abbrev Offers : List Item → Type 0
  Offers items =
      (outcome t entries (record { front = front; now = now; link = free answer }) d).offer
      ≡ Some (items, answer)

  step : Steps t all closed now d s
  step = state_step t all closed now d some (Run-further t entries (last_front 0 rounds) front
      (outcomes t entries rounds started) d archive behind
      (Run-all t entries rounds some archive rise)).state

  offers_fixed : (items : List Item) → s.fixed ≡ true → buffer all s ≡ items → Offers items
  offers_fixed items fixed is = offered_with t answer s (buffer all s) s.fixed fixed
      ∙ ap (λ x. Some (x, answer)) is

  pub ready_offered : (items : List Item) (rest : List (List Item))
      → ready_at t entries front d ≡ items ∷ rest → Offers items
  ready_offered items rest is = on step
    where
      on : Steps t all closed now d s → Offers items
      on (hands fixed ready unready) =
          offers_fixed items fixed (ap (head_or items) (sym ready ∙ is))
      on (late fixed none last none_more none_last passed) =
          absurd (not_both (ready_at t entries front d) items rest none is)
      on (waits open_yet none none_yet same passed put held) =
          absurd (not_both (ready_at t entries front d) items rest none is)
      on (rests open_yet none none_yet no_last no_last_yet) =
          absurd (not_both (ready_at t entries front d) items rest none is)

  pub late_offered : (items : List Item)
      → ready_at t entries front d ≡ [] → unready_at t entries front d ≡ items ∷ []
      → is_late (limit_of t) (first_put d now) now ≡ true → Offers items
  late_offered items nothing_ready is is_late_now = on step
    where
      on : Steps t all closed now d s → Offers items
      on (hands fixed ready unready) =
          absurd (not_both (ready_at t entries front d) (buffer all s)
          (ready_buffers t all closed (taken_whole s)) nothing_ready ready)
      on (late fixed none last none_more none_last passed) =
          offers_fixed items fixed (ap (head_or items) (sym last ∙ is))
      on (waits open_yet none none_yet same passed put held) =
          absurd (true≢false (sym is_late_now ∙ passed))
      on (rests open_yet none none_yet no_last no_last_yet) =
          absurd (not_both (unready_at t entries front d) items [] no_last is)
