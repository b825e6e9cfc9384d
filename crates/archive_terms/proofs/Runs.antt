-- A delivery over a list of rounds: what it has come to and done.
use Rattle.std.proofs.Common.{◌≡◌, ℕ, ◌+◌, ◌<◌, ◌≤◌, Bool, true, false, cond, nat_lt, List, [], ◌∷◌}
use Rattle.std.proofs.Common.{◌++◌, length, take, drop, get_or, Option, Some, None, refl, ap, sym}
use Rattle.std.proofs.Common.{◌∙◌, arith}
use Rattle.std.specs.List.{All, list_all}
use Rattle.std.specs.Option.{option_map_or}
use Rattle.std.proofs.lemmas.List.{append-nil, append_assoc, take-take, take-append-drop}
use Rattle.std.proofs.lemmas.List.{take-append-le, take_all, take_at, map-append}
use Rattle.archive_terms.specs.Archive.{Entry, is_archive}
use Rattle.archive_terms.specs.Selection.{Selection, picked, is_stop_closed}
use Rattle.std.specs.List.Sorted.{IsStrictlyIncreasing}
use Rattle.archive_terms.specs.Continuity.{frame_places}
use Rattle.archive_terms.specs.Delivery.{is_timely, Item, end_of_data, archived_items, all_items}
use Rattle.archive_terms.specs.Delivery.{IsBuffer, Terms, Delivery, started, buffer, stepped}
use Rattle.archive_terms.specs.Delivery.{filled, with_end, with_due_fixed}
use Rattle.archive_terms.specs.Rounds.{Answer, answered, fate, Round, Outcome, nothing, picked_at}
use Rattle.archive_terms.specs.Rounds.{takes_step, at_round, answer_at, after_round, outcome}
use Rattle.archive_terms.specs.Rounds.{ends_run, after_rounds, outcomes, handed_items}
use Rattle.archive_terms.specs.Rounds.{handed_buffers, settled_items, TimelyShape, without_backlog}
use Rattle.archive_terms.specs.Rounds.{FrontsRise, last_front, to_hand_over}
use Rattle.archive_terms.proofs.Picks.{picked_behind, picked-append, nothing_behind, stop_known}
use Rattle.archive_terms.proofs.Picks.{is_stop_closed-append, is_archive-append_left}
use Rattle.archive_terms.proofs.Buffers.{InLimits, InLimits-length}
use Rattle.archive_terms.proofs.States.{State, going, owing, telling, ending, over, State-grow}
use Rattle.archive_terms.proofs.States.{State-stepped, State-answered}
use Rattle.archive_terms.proofs.Places.{picked_rises, increasing_from_rises, rises_to_end}
use Rattle.archive_terms.proofs.Places.{all_below}
use Rattle.archive_terms.proofs.Rising.{Rising, Rising-grow, Rising-same, Rising-answered}
use Rattle.archive_terms.proofs.Histories.{History, History-add, reached, adds_nothing}
use Rattle.archive_terms.proofs.Histories.{adds_answered}

-- a delivery that was given the archive `a` has come to d and done `done`
pub record Run (t : Terms) (a : List Entry) (done : List Outcome) (d : Delivery) : Type 0 where
  pub state : State t (picked a t.selection) (is_stop_closed t.selection a) d
  pub history : History t (picked a t.selection) done d
  pub rising : Rising (picked a t.selection) (length a) done d.settled

pub held_within : (t : Terms) (entries : List (ℕ × Entry)) (closed : Bool) (d : Delivery)
    → State t entries closed d → d.settled + d.held ≤ length entries
held_within t entries closed d (going n k fixed since fits limits) = fits
held_within t entries closed d (telling n k fixed since fits limits timely) = fits
held_within t entries closed d (owing n since fits timely) = omega arith
held_within t entries closed d (ending n k fixed since all none is shut) = omega arith
held_within t entries closed d (over n k fixed since all none is shut) = omega arith

-- with other picked entries or in another state the same was done
History-same : (t : Terms) (entries entries' : List (ℕ × Entry)) (done : List Outcome)
    (d d' : Delivery)
    → reached entries d.settled d.ended ≡ reached entries' d'.settled d'.ended → d.owed ≡ d'.owed
    → History t entries done d → History t entries' done d'
History-same t entries entries' done d d' same owes h = assumption (
  h.settled ∙ same,
  λ (mode : is_timely t.mode ≡ false). h.all_handed mode ∙ same,
  h.owed ∙ owes,
  h,
)

-- the same state with a longer archive
pub State-longer : (t : Terms) (a b : List Entry) (d : Delivery) → is_archive (a ++ b) ≡ true
    → State t (picked a t.selection) (is_stop_closed t.selection a) d
    → State t (picked (a ++ b) t.selection) (is_stop_closed t.selection (a ++ b)) d
State-longer t a b d archive state =
    let s : Selection = t.selection in
    let last : is_stop_closed s a ≡ true → picked_behind a b s ≡ [] = λ closed.
    let known = stop_known s a closed in
    nothing_behind a b s known.0 known.1 known.2 archive in
    rw (picked-append a b s) (State-grow t (picked a s) (picked_behind a b s) (is_stop_closed s a)
    (is_stop_closed s (a ++ b)) d (is_stop_closed-append s a b) last state)

pub Run-grow : (t : Terms) (a b : List Entry) (done : List Outcome) (d : Delivery)
    → is_archive (a ++ b) ≡ true → Run t a done d → Run t (a ++ b) done d
Run-grow t a b done d archive run =
    let s : Selection = t.selection in
    let all_is : picked (a ++ b) s ≡ picked a s ++ picked_behind a b s = picked-append a b s in
    let within : d.settled ≤ length (picked a s) =
    omega (arith, held_within t (picked a s) (is_stop_closed s a) d run.state) in
    let same : take d.settled (picked a s) ≡ take d.settled (picked (a ++ b) s) =
    rw (all_is, take-append-le d.settled (picked a s) (picked_behind a b s) within) in
    record {
      state = State-longer t a b d archive run.state;
      history = History-same t (picked a s) (picked (a ++ b) s) done d d (rw same) refl run.history;
      rising = rw all_is (Rising-grow a b s (picked a s) done d.settled within run.rising);
    }

-- the step changes nothing of what was done
Run-stepped : (t : Terms) (a : List Entry) (now : ℕ) (done : List Outcome) (d : Delivery)
    → 0 < t.size
    → Run t a done d
    → Run t a done (stepped t (picked a t.selection) (is_stop_closed t.selection a) now d)
Run-stepped t a now done d some run = record {
  state = State-stepped t (picked a t.selection) (is_stop_closed t.selection a) now d some
      run.state;
  history = on_fixed d.fixed;
  rising = still d.fixed;
}
  where
    next : Delivery
    next =
        with_due_fixed t (picked a t.selection) (is_stop_closed t.selection a) now
        (with_end (picked a t.selection) (is_stop_closed t.selection a)
        (filled t (picked a t.selection) now d))

    still : (b : Bool) → Rising (picked a t.selection) (length a) done (cond b d next).settled
    still true = run.rising
    still false = run.rising

    on_fixed : (b : Bool) → History t (picked a t.selection) done (cond b d next)
    on_fixed true = run.history
    on_fixed false =
        History-same t (picked a t.selection) (picked a t.selection) done d next refl refl
        run.history

-- an offer, where there is one, and its answer
Run-offered : (t : Terms) (a : List Entry) (done : List Outcome) (d : Delivery)
    (answer : Option Answer)
    → 0 < t.size → ((x : Answer) → answer ≡ Some x → d.fixed ≡ true) → Run t a done d
    → Run t a (done ++ option_map_or (λ x. fate t x d (buffer (picked a t.selection) d)) answer
    nothing ∷ []) (option_map_or (λ x. answered t x d) answer d)
Run-offered t a done d None some fix run = record {
  state = run.state;
  history = History-add t (picked a t.selection) done d nothing d run.history
      (adds_nothing t (picked a t.selection) d nothing refl refl refl refl (λ mode. refl) tt);
  rising = Rising-same (picked a t.selection) (length a) done nothing d.settled refl run.rising;
}
Run-offered t a done d (Some answer) some fix run = record {
  state =
      State-answered t (picked a t.selection) (is_stop_closed t.selection a) answer d
      (fix answer refl) run.state;
  history =
      History-add t (picked a t.selection) done d
      (fate t answer d (buffer (picked a t.selection) d)) (answered t answer d) run.history
      (adds_answered t (picked a t.selection) (is_stop_closed t.selection a) answer d some
      (fix answer refl) run.state);
  rising =
      Rising-answered t (picked a t.selection) (is_stop_closed t.selection a) (length a) answer done
      d run.state run.rising;
}

-- a longer front is a longer archive
pub front_grows : (a : List Entry) (f g : ℕ) → f ≤ g → take f a ++ drop f (take g a) ≡ take g a
front_grows a f g rise =
    ap (λ xs. xs ++ drop f (take g a)) (sym (take-take f g a rise)) ∙ take-append-drop f (take g a)

pub is_archive-take : (a : List Entry) (n : ℕ) → is_archive a ≡ true → is_archive (take n a) ≡ true
is_archive-take a n archive =
    is_archive-append_left (take n a) (drop n a) (ap is_archive (take-append-drop n a) ∙ archive)

-- the same with a later front
pub Run-further : (t : Terms) (entries : List Entry) (f g : ℕ) (done : List Outcome) (d : Delivery)
    → is_archive entries ≡ true → f ≤ g
    → Run t (take f entries) done d → Run t (take g entries) done d
Run-further t entries f g done d archive rise run =
    let to : take f entries ++ drop f (take g entries) ≡ take g entries =
    front_grows entries f g rise in
    rw to at (Run-grow t (take f entries) (drop f (take g entries)) done d (ap is_archive to
    ∙ is_archive-take entries g archive) run)

Run-round : (t : Terms) (entries : List Entry) (f : ℕ) (r : Round) (done : List Outcome)
    (d : Delivery)
    → 0 < t.size → is_archive entries ≡ true → f ≤ r.front
    → Run t (take f entries) done d
    → Run t (take r.front entries) (done ++ outcome t entries r d ∷ []) (after_round t entries r d)
Run-round t entries f r done d some archive rise run =
    let grown : Run t (take r.front entries) done d =
    Run-further t entries f r.front done d archive rise run in
    let next : Delivery = at_round t entries r d in
    Run-offered t (take r.front entries) done next (answer_at r next) some
    (λ x is. grind (arith, is))
    (on_step (takes_step r.link) grown)
  where
    on_step : (b : Bool) → Run t (take r.front entries) done d
        → Run t (take r.front entries) done (cond b
        (stepped t (picked_at t entries r.front)
        (is_stop_closed t.selection (take r.front entries)) r.now d) d)
    on_step true grown = Run-stepped t (take r.front entries) r.now done d some grown
    on_step false grown = grown

front_to_last : (f : ℕ) (rounds : List Round) → FrontsRise f rounds → f ≤ last_front f rounds
front_to_last f [] rise = omega arith
front_to_last f (r ∷ rounds) rise =
    let here : f ≤ r.front = rise.0 in omega (arith, front_to_last r.front rounds rise.1)

-- a run that ends here, or goes on
either_run : (t : Terms) (a : List Entry) (done : List Outcome) (o : Outcome) (later : List Outcome)
    (d d' : Delivery) (b : Bool) → Run t a (done ++ o ∷ []) d → Run t a (done ++ o ∷ later) d'
    → Run t a (done ++ o ∷ cond b [] later) (cond b d d')
either_run t a done o later d d' true ended further = ended
either_run t a done o later d d' false ended further = further

Run-rounds : (t : Terms) (entries : List Entry) (f : ℕ) (rounds : List Round) (done : List Outcome)
    (d : Delivery)
    → 0 < t.size → is_archive entries ≡ true → FrontsRise f rounds
    → Run t (take f entries) done d
    → Run t (take (last_front f rounds) entries) (done ++ outcomes t entries rounds d)
    (after_rounds t entries rounds d)
Run-rounds t entries f [] done d some archive rise run =
    rw append-nil run
Run-rounds t entries f (r ∷ rounds) done d some archive rise run =
    let o : Outcome = outcome t entries r d in
    let next : Delivery = after_round t entries r d in
    let first : Run t (take r.front entries) (done ++ o ∷ []) next =
    Run-round t entries f r done d some archive rise.0 run in
    either_run t (take (last_front r.front rounds) entries) done o (outcomes t entries rounds next)
    next (after_rounds t entries rounds next) (ends_run t entries r d)
    (Run-further t entries r.front (last_front r.front rounds) (done ++ o ∷ []) next archive
    (front_to_last r.front rounds rise.1) first)
    (rw (append_assoc done (o ∷ []) (outcomes t entries rounds next)) at
    (Run-rounds t entries r.front rounds (done ++ o ∷ []) next some archive rise.1 first))

-- nothing was done at START
Run-started : (t : Terms) (a : List Entry) → Run t a [] started
Run-started t a = record {
  state = going 0 0 false 0 (omega arith)
      (record { open_before = λ j below. absurd (omega arith) });
  history = record {
    settled = refl;
    all_handed = λ mode. refl;
    limits = λ k d below. absurd (omega arith);
    rightly = λ mode k d below. absurd (omega arith);
    owed = refl;
    told = λ i o items is takes. cc;
    told_once = refl;
  };
  rising = record { mid = 0; below = omega arith; above = picked_rises a t.selection };
}

pub Run-all : (t : Terms) (entries : List Entry) (rounds : List Round) → 0 < t.size
    → is_archive entries ≡ true → FrontsRise 0 rounds
    → Run t (take (last_front 0 rounds) entries) (outcomes t entries rounds started)
    (after_rounds t entries rounds started)
Run-all t entries rounds some archive rise =
    Run-rounds t entries 0 rounds [] started some archive rise (Run-started t (take 0 entries))

first_items : (n : ℕ) (entries : List (ℕ × Entry)) (behind : List Item)
    → take (length (reached entries n false)) (archived_items entries ++ behind)
    ≡ reached entries n false
first_items n entries behind =
    let front : List Item = archived_items (take n entries) in
    let rest : List Item = archived_items (drop n entries) in
    let split : archived_items entries ++ behind ≡ front ++ (rest ++ behind) =
    rw (← append_assoc, ← map-append, take-append-drop) in
    rw (append-nil front, split, take_at front (rest ++ behind) (length front) refl)

-- what was reached is a prefix of all that is to be handed over
reached-prefix : (t : Terms) (entries : List (ℕ × Entry)) (closed : Bool) (d : Delivery)
    → State t entries closed d
    → take (length (reached entries d.settled d.ended)) (all_items entries closed)
    ≡ reached entries d.settled d.ended
reached-prefix t entries closed d (going n k fixed since fits limits) =
    first_items n entries (cond closed (end_of_data ∷ []) [])
reached-prefix t entries closed d (owing n since fits timely) =
    first_items n entries (cond closed (end_of_data ∷ []) [])
reached-prefix t entries closed d (telling n k fixed since fits limits timely) =
    first_items n entries (cond closed (end_of_data ∷ []) [])
reached-prefix t entries closed d (ending n k fixed since all none fix shut) =
    first_items n entries (cond closed (end_of_data ∷ []) [])
reached-prefix t entries closed d (over n k fixed since all none fix shut) =
    let whole : reached entries n true ≡ all_items entries closed =
    rw (take_all n entries (omega arith), shut) in
    let items : List Item = all_items entries closed in
    rw (whole, take_all (length items) items (omega arith))

-- the same for a longer archive, of a run over rounds
Run-prefix : (t : Terms) (a : List Entry) (done : List Outcome) (d : Delivery) (items : List Item)
    → Run t a done d
    → items ≡ reached (picked a t.selection) d.settled d.ended
    → take (length items) (to_hand_over t a) ≡ items
Run-prefix t a done d items run is =
    rw is (reached-prefix t (picked a t.selection) (is_stop_closed t.selection a) d run.state)

Run-later : (t : Terms) (entries later : List Entry) (rounds : List Round) → 0 < t.size
    → is_archive entries ≡ true → FrontsRise 0 rounds
    → is_archive (take (last_front 0 rounds) entries ++ later) ≡ true
    → Run t (take (last_front 0 rounds) entries ++ later) (outcomes t entries rounds started)
    (after_rounds t entries rounds started)
Run-later t entries later rounds some archive rise longer =
    Run-grow t (take (last_front 0 rounds) entries) later (outcomes t entries rounds started)
    (after_rounds t entries rounds started) longer
    (Run-all t entries rounds some archive rise)

pub complete_run : (t : Terms) (entries later : List Entry) (rounds : List Round) → 0 < t.size
    → is_timely t.mode ≡ false → is_archive entries ≡ true → FrontsRise 0 rounds
    → is_archive (take (last_front 0 rounds) entries ++ later) ≡ true
    → take (length (handed_items (outcomes t entries rounds started)))
    (to_hand_over t (take (last_front 0 rounds) entries ++ later))
    ≡ handed_items (outcomes t entries rounds started)
complete_run t entries later rounds some mode archive rise longer =
    let a : List Entry = take (last_front 0 rounds) entries ++ later in
    let done : List Outcome = outcomes t entries rounds started in
    let run : Run t a done (after_rounds t entries rounds started) =
    Run-later t entries later rounds some archive rise longer in
    Run-prefix t a done (after_rounds t entries rounds started) (handed_items done) run
    (run.history.all_handed mode)

pub timely_run : (t : Terms) (entries later : List Entry) (rounds : List Round) → 0 < t.size
    → is_timely t.mode ≡ true → is_archive entries ≡ true → FrontsRise 0 rounds
    → is_archive (take (last_front 0 rounds) entries ++ later) ≡ true
    → TimelyShape (to_hand_over t (take (last_front 0 rounds) entries ++ later))
    (outcomes t entries rounds started)
timely_run t entries later rounds some mode archive rise longer =
    let a : List Entry = take (last_front 0 rounds) entries ++ later in
    let done : List Outcome = outcomes t entries rounds started in
    let run : Run t a done (after_rounds t entries rounds started) =
    Run-later t entries later rounds some archive rise longer in
    record {
      in_order =
          Run-prefix t a done (after_rounds t entries rounds started)
          (without_backlog (settled_items done)) run run.history.settled;
      discarded_where_stalled = run.history.rightly mode;
      told = run.history.told;
      nowhere_else = run.history.told_once;
    }

pub buffers_in_run : (t : Terms) (entries : List Entry) (rounds : List Round) → 0 < t.size
    → is_archive entries ≡ true → FrontsRise 0 rounds
    → All (IsBuffer t.size) (handed_buffers (outcomes t entries rounds started))
buffers_in_run t entries rounds some archive rise k x below =
    let limits : InLimits t.size (get_or (handed_buffers (outcomes t entries rounds started)) k x) =
    (Run-all t entries rounds some archive rise).history.limits k x below in
    record { few = InLimits-length t.size _ limits; open_before = limits.open_before }

pub frames_in_run : (t : Terms) (entries : List Entry) (rounds : List Round) → 0 < t.size
    → is_archive entries ≡ true → FrontsRise 0 rounds
    → IsStrictlyIncreasing (frame_places (handed_items (outcomes t entries rounds started)))
frames_in_run t entries rounds some archive rise =
    let rising = (Run-all t entries rounds some archive rise).rising in
    increasing_from_rises 0 rising.mid _ rising.below

-- the frames that a run handed over stand before its last front
pub frames_within : (t : Terms) (entries : List Entry) (rounds : List Round) → 0 < t.size
    → is_archive entries ≡ true → FrontsRise 0 rounds
    → list_all (λ place. nat_lt place (length (take (last_front 0 rounds) entries)))
    (frame_places (handed_items (outcomes t entries rounds started))) ≡ true
frames_within t entries rounds some archive rise =
    let a : List Entry = take (last_front 0 rounds) entries in
    let rising = (Run-all t entries rounds some archive rise).rising in
    all_below 0 rising.mid (length a) _ rising.below
    (rises_to_end rising.mid (length a) _ rising.above)
