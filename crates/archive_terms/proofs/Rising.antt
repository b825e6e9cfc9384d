-- The frames that are handed over rise by their places.
use Rattle.std.proofs.Common.{◌≡◌, ℕ, ◌+◌, ◌≤◌, Bool, true, false, cond, List, [], ◌∷◌, ◌++◌}
use Rattle.std.proofs.Common.{length, take, drop, refl, ap, sym, ◌∙◌, arith, subst}
use Rattle.std.proofs.lemmas.List.{append-nil, map-append, take-append-drop, drop-drop}
use Rattle.std.proofs.lemmas.List.{drop-append-le, length-append}
use Rattle.std.proofs.lemmas.List.Elements.{filter_map-append}
use Rattle.archive_terms.specs.Archive.{Entry}
use Rattle.archive_terms.specs.Selection.{Selection, is_picked}
use Rattle.archive_terms.specs.Delivery.{Item, archived_items, Terms, Delivery, buffer}
use Rattle.archive_terms.specs.Delivery.{is_discardable, released}
use Rattle.archive_terms.specs.Rounds.{Answer, whole, stall, fail, answered, fate, Outcome, handed}
use Rattle.archive_terms.specs.Rounds.{kept, discarded, failed, handed_in, handed_items}
use Rattle.archive_terms.specs.Continuity.{frame_place, frame_places}
use Rattle.archive_terms.proofs.Picks.{picked_behind}
use Rattle.archive_terms.proofs.States.{State, going, owing, telling, ending, over}
use Rattle.archive_terms.proofs.Histories.{flat_map-push}
use Rattle.archive_terms.proofs.Places.{RisesTo, rises_to_end, rises_from_less, rises-append}
use Rattle.archive_terms.proofs.Places.{rises_apart, places_of, frames_rise, filter_rises}

-- the frames handed over lie below some place, and the entries that aren't settled from there on
pub record Rising (entries : List (ℕ × Entry)) (end : ℕ) (done : List Outcome) (n : ℕ) : Type
    0 where
  pub mid : ℕ
  pub below : RisesTo 0 mid (frame_places (handed_items done))
  pub above : RisesTo mid end (places_of (drop n entries))

-- what is picked of new entries stands behind the old ones
pub behind_rises : (a b : List Entry) (s : Selection)
    → RisesTo (length a) (length (a ++ b)) (places_of (picked_behind a b s))
behind_rises a b s =
    let end : 0 + length a + length b ≡ length (a ++ b) = omega (arith, length-append a b) in
    subst (λ to. RisesTo (length a) to (places_of (picked_behind a b s))) end
    (rises_from_less (length a) (0 + length a) _ (places_of (picked_behind a b s)) (omega arith)
    (filter_rises (λ x. is_picked s (a ++ b) x.0 x.1) (0 + length a) b))

pub Rising-grow : (a b : List Entry) (s : Selection) (entries : List (ℕ × Entry))
    (done : List Outcome) (n : ℕ)
    → n ≤ length entries
    → Rising entries (length a) done n
    → Rising (entries ++ picked_behind a b s) (length (a ++ b)) done n
Rising-grow a b s entries done n within r = record {
  mid = r.mid;
  below = r.below;
  above =
      subst (λ xs. RisesTo r.mid (length (a ++ b)) (places_of xs))
      (sym (drop-append-le n entries (picked_behind a b s) within))
      (subst (RisesTo r.mid (length (a ++ b)))
      (sym (map-append (λ x. x.0) (drop n entries) (picked_behind a b s)))
      (rises-append r.mid (length a) (length (a ++ b)) (places_of (drop n entries))
      (places_of (picked_behind a b s)) r.above (behind_rises a b s)));
}

-- the next k entries lie between two places
next_rise : (entries : List (ℕ × Entry)) (from end n k : ℕ)
    → RisesTo from end (places_of (drop n entries))
    → (mid : ℕ) × RisesTo from mid (places_of (take k (drop n entries)))
    × RisesTo mid end (places_of (drop (n + k) entries))
next_rise entries from end n k rise =
    let x : List (ℕ × Entry) = drop n entries in
    let split : places_of x ≡ places_of (take k x) ++ places_of (drop k x) =
    ap places_of (sym (take-append-drop k x)) ∙ map-append (λ y. y.0) (take k x) (drop k x) in
    let apart : (mid : ℕ) × RisesTo from mid (places_of (take k x))
    × RisesTo mid end (places_of (drop k x)) =
    rises_apart from end (places_of (take k x)) (places_of (drop k x))
    (subst (RisesTo from end) split rise) in (
      apart.0,
      apart.1,
      subst (λ xs. RisesTo apart.0 end (places_of xs)) (drop-drop k n entries)
          apart.2,
    )

handed_push : (done : List Outcome) (o : Outcome)
    → frame_places (handed_items (done ++ o ∷ []))
    ≡ frame_places (handed_items done) ++ frame_places (handed_in o)
handed_push done o =
    ap frame_places (flat_map-push handed_in done o)
    ∙ filter_map-append frame_place (handed_items done) (handed_in o)

none_handed : (to : ℕ) (done : List Outcome) (o : Outcome) → handed_in o ≡ []
    → RisesTo 0 to (frame_places (handed_items done))
    → RisesTo 0 to (frame_places (handed_items (done ++ o ∷ [])))
none_handed to done o none rise =
    let before : List ℕ = frame_places (handed_items done) in
    subst (RisesTo 0 to) (sym (handed_push done o ∙ ap (λ xs. before ++ frame_places xs) none
    ∙ append-nil before)) rise

-- a round that hands nothing over
pub Rising-same : (entries : List (ℕ × Entry)) (end : ℕ) (done : List Outcome) (o : Outcome) (n : ℕ)
    → handed_in o ≡ [] → Rising entries end done n → Rising entries end (done ++ o ∷ []) n
Rising-same entries end done o n none r =
    record { mid = r.mid; below = none_handed r.mid done o none r.below; above = r.above }

-- a round that settles the next k entries, and hands over frames that rise between the same places
rising_on : (entries : List (ℕ × Entry)) (end : ℕ) (done : List Outcome) (o : Outcome) (n k : ℕ)
    (r : Rising entries end done n)
    → ((mid : ℕ) → RisesTo r.mid mid (places_of (take k (drop n entries)))
    → RisesTo r.mid mid (frame_places (handed_in o)))
    → Rising entries end (done ++ o ∷ []) (n + k)
rising_on entries end done o n k r frames =
    let next : (mid : ℕ) × RisesTo r.mid mid (places_of (take k (drop n entries)))
    × RisesTo mid end (places_of (drop (n + k) entries)) =
    next_rise entries r.mid end n k r.above in
    record {
      mid = next.0;
      below =
          subst (RisesTo 0 next.0) (sym (handed_push done o))
          (rises-append 0 r.mid next.0 (frame_places (handed_items done))
          (frame_places (handed_in o)) r.below (frames next.0 next.1));
      above = next.2;
    }

rising_stalled : (entries : List (ℕ × Entry)) (end : ℕ) (done : List Outcome) (d : Delivery)
    (items : List Item) (discards : Bool)
    → Rising entries end done d.settled
    → Rising entries end (done ++ cond discards (discarded items) (kept items) ∷ [])
    (cond discards (record (released d) { owed = true }) d).settled
rising_stalled entries end done d items true r =
    rising_on entries end done (discarded items) d.settled d.held r
    (λ mid rise. rises_to_end r.mid mid (places_of (take d.held (drop d.settled entries))) rise)
rising_stalled entries end done d items false r =
    Rising-same entries end done (kept items) d.settled refl r

pub Rising-answered : (t : Terms) (entries : List (ℕ × Entry)) (closed : Bool) (end : ℕ)
    (answer : Answer) (done : List Outcome) (d : Delivery)
    → State t entries closed d → Rising entries end done d.settled
    → Rising entries end (done ++ fate t answer d (buffer entries d) ∷ [])
    (answered t answer d).settled
Rising-answered t entries closed end stall done d s r =
    rising_stalled entries end done d (buffer entries d) (is_discardable t.mode d) r
Rising-answered t entries closed end fail done d s r =
    Rising-same entries end done (failed (buffer entries d)) d.settled refl r
Rising-answered t entries closed end whole done d s r =
    rising_on entries end done (handed (buffer entries d)) d.settled d.held r
    (λ mid rise. subst (RisesTo r.mid mid) (sym (head_aside t entries closed d s))
    (frames_rise r.mid mid (take d.held (drop d.settled entries)) rise))
  where
    head_aside : (t : Terms) (entries : List (ℕ × Entry)) (closed : Bool) (d : Delivery)
        → State t entries closed d
        → frame_places (buffer entries d) ≡ frame_places
        (archived_items (take d.held (drop d.settled entries)))
    head_aside t entries closed d (going n k fixed since fits limits) = refl
    head_aside t entries closed d (owing n since fits timely) = refl
    head_aside t entries closed d (telling n k fixed since fits limits timely) = refl
    head_aside t entries closed d (ending n k fixed since all none fix shut) = refl
    head_aside t entries closed d (over n k fixed since all none fix shut) = refl
