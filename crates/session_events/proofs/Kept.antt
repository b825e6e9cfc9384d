-- What rounds leave of STARTs that were there.
use Rattle.std.proofs.Common.{◌≡◌, ℕ, zero, suc, Bool, true, false, not, ◌&&◌, Option, Some, None}
use Rattle.std.proofs.Common.{List, [], ◌∷◌, ◌++◌}
use Rattle.std.proofs.Common.{length, slice_get, refl, sym, ap, subst, ◌∙◌, append_assoc, append-nil}
use Rattle.archive_terms.specs.Delivery.{Terms}
use Rattle.archive_terms.specs.Rounds.{Round as DeliveryRound}
use Rattle.return_core.specs.Visits.{rounds_of}
use Rattle.station_config.specs.declared.site.Site.{Site}
use Rattle.session_core.specs.Lists.{Began}
use Rattle.session_core.specs.Session.{State, Round, after_round, after_rounds}
use Rattle.session_laws.specs.Deliveries.{is_serving, ServesOn, visits_of}
use Rattle.session_laws.specs.Handing.{Start as SessionStart, found_by, begun_by}
use Rattle.session_laws.specs.Instances.{shape_of_terms}
use Rattle.session_laws.specs.Starts.{Asks}
use Rattle.station_world.specs.Comes.{Begins}
use Rattle.station_world.specs.Life.{Start, begun, change_at, with_round, with_end}
use Rattle.line_events.specs.Progress.{Progress, none_runs, taken_now, goes_by, ended_now, is_going}
use Rattle.line_events.specs.Progress.{is_at, going_by, going_in, changed_at, change_going, progressed}
use Rattle.session_events.specs.Rounds.{front_in, progress_of}
use Rattle.session_events.specs.Starts.{starts_over, ServesThese, IsIt}

-- ---- the last START, which goes on

module _ (door : ℕ) where
  last_goes : (xs : List Start) (g : Start) → is_going door g ≡ true
      → going_in door (xs ++ g ∷ []) ≡ Some (length xs)
  last_goes [] g is = ap (λ (b : Bool). going_by b None) is
  last_goes (x ∷ xs) g is =
      ap (λ (o : Option ℕ). going_by (is_going door x) o) (last_goes xs g is)

  last_changes : (change : Start → Start) (xs : List Start) (g : Start)
      → change_at (length xs) change (xs ++ g ∷ []) ≡ xs ++ change g ∷ []
  last_changes change [] g = refl
  last_changes change (x ∷ xs) g = ap (λ (all : List Start). x ∷ all) (last_changes change xs g)

  pub changes_last : (change : Start → Start) (xs : List Start) (g : Start)
      → is_going door g ≡ true → change_going door change (xs ++ g ∷ []) ≡ xs ++ change g ∷ []
  changes_last change xs g is =
      ap (λ (o : Option ℕ). changed_at o change (xs ++ g ∷ [])) (last_goes xs g is)
      ∙ last_changes change xs g

-- a place has one START
pub one_at : (o : Option Start) (s t : Start) → o ≡ Some s → o ≡ Some t → s ≡ t
one_at o s t is also = cc (sym is ∙ also)

-- ---- a START that is there stays

-- with its door, its terms and the rounds that it had
pub record StaysAt (s : Start) (all : List Start) (place : ℕ) : Type 0 where
  pub start : Start
  pub there : slice_get all place ≡ Some start
  pub door : start.door ≡ s.door
  pub terms : start.terms ≡ s.terms
  pub begins : Begins s.rounds start.rounds

pub same_there : (s : Start) (all : List Start) (place : ℕ) → slice_get all place ≡ Some s
    → StaysAt s all place
same_there s all place there = record {
  start = s;
  there = there;
  door = refl;
  terms = refl;
  begins = ([], sym (append-nil s.rounds));
}

there_before : (s : Start) (all others : List Start) (place : ℕ) → slice_get all place ≡ Some s
    → slice_get (all ++ others) place ≡ Some s
there_before s [] others place there = absurd (cc there)
there_before s (x ∷ all) others zero there = there
there_before s (x ∷ all) others (suc place) there = there_before s all others place there

-- a change that lets it go on
abbrev LetsGoOn : (Start → Start) → Type 0
LetsGoOn change =
    (x : Start) → ((change x).door ≡ x.door) × ((change x).terms ≡ x.terms)
    × Begins x.rounds (change x).rounds

changed_stays : (change : Start → Start) → LetsGoOn change → (at : ℕ) (s : Start) (all : List Start)
    (place : ℕ) → slice_get all place ≡ Some s → StaysAt s (change_at at change all) place
changed_stays change lets at s [] place there = absurd (cc there)
changed_stays change lets zero s (x ∷ all) zero there =
    let same : x ≡ s = cc there in
    subst (λ (y : Start). StaysAt y (change x ∷ all) 0) same (record {
      start = change x;
      there = refl;
      door = (lets x).0;
      terms = (lets x).1;
      begins = (lets x).2;
    })
changed_stays change lets zero s (x ∷ all) (suc place) there =
    same_there s (change x ∷ all) (suc place) there
changed_stays change lets (suc at) s (x ∷ all) zero there =
    same_there s (x ∷ change_at at change all) 0 there
changed_stays change lets (suc at) s (x ∷ all) (suc place) there =
    let one = changed_stays change lets at s all place there in record {
      start = one.start;
      there = one.there;
      door = one.door;
      terms = one.terms;
      begins = one.begins;
    }

going_stays : (change : Start → Start) → LetsGoOn change → (o : Option ℕ) (s : Start)
    (all : List Start) (place : ℕ) → slice_get all place ≡ Some s
    → StaysAt s (changed_at o change all) place
going_stays change lets None s all place there = same_there s all place there
going_stays change lets (Some at) s all place there = changed_stays change lets at s all place there

pub progress_stays : (door front : ℕ) (p : Progress) (s : Start) (all : List Start) (place : ℕ)
    → slice_get all place ≡ Some s → StaysAt s (progressed door front p all) place
progress_stays door front none_runs s all place there = same_there s all place there
progress_stays door front (taken_now a) s all place there =
    same_there s (all ++ begun a front ∷ []) place
    (there_before s all (begun a front ∷ []) place there)
progress_stays door front (goes_by r) s all place there =
    going_stays (with_round r) (λ x. (refl, refl, (r ∷ [], refl))) (going_in door all) s all place
    there
progress_stays door front ended_now s all place there =
    going_stays with_end (λ x. (refl, refl, ([], sym (append-nil x.rounds)))) (going_in door all) s
    all place there

begins_both : (a b c : List DeliveryRound) → Begins a b → Begins b c → Begins a c
begins_both a b c first second = (
  first.0 ++ second.0,
  second.1 ∙ ap (λ (xs : List DeliveryRound). xs ++ second.0) first.1
      ∙ append_assoc a first.0 second.0,
)

pub stays_both : (s : Start) (some all : List Start) (place : ℕ) (one : StaysAt s some place)
    → StaysAt one.start all place → StaysAt s all place
stays_both s some all place one rest = record {
  start = rest.start;
  there = rest.there;
  door = rest.door ∙ one.door;
  terms = rest.terms ∙ one.terms;
  begins = begins_both s.rounds one.start.rounds rest.start.rounds one.begins rest.begins;
}

-- ---- a START that ended stays as it is

pub none_and : (b : Bool) → (b && false) ≡ false
none_and true = refl
none_and false = refl

module _ (s : Start) (over : s.ended ≡ true) where
  not_going : (door : ℕ) (x : Start) → x ≡ s → is_going door x ≡ false
  not_going door x same =
      ap (λ (y : Start). is_at door x && not y.ended) same
      ∙ ap (λ (b : Bool). is_at door x && not b) over ∙ none_and (is_at door x)

  module _ (door : ℕ) (change : Start → Start) where
    abbrev Left : List Start → ℕ → Option ℕ → Type 0
    Left all place at = slice_get (changed_at at change all) place ≡ Some s

    one_more : (x : Start) (all : List Start) (at : Option ℕ) (goes : Bool) (place : ℕ)
        → is_going door x ≡ goes → ((p : ℕ) → slice_get all p ≡ Some s → Left all p at)
        → slice_get (x ∷ all) place ≡ Some s → Left (x ∷ all) place (going_by goes at)
    one_more x all (Some k) goes zero is inner there = there
    one_more x all (Some k) goes (suc p) is inner there = inner p there
    one_more x all None false place is inner there = there
    one_more x all None true zero is inner there =
        absurd (cc (sym (not_going door x (cc there)) ∙ is))
    one_more x all None true (suc p) is inner there = there

    pub going_leaves : (all : List Start) (place : ℕ) → slice_get all place ≡ Some s
        → Left all place (going_in door all)
    going_leaves [] place there = absurd (cc there)
    going_leaves (x ∷ all) place there =
        one_more x all (going_in door all) (is_going door x) place refl (going_leaves all) there

  pub progress_leaves : (door front : ℕ) (p : Progress) (all : List Start) (place : ℕ)
      → slice_get all place ≡ Some s → slice_get (progressed door front p all) place ≡ Some s
  progress_leaves door front none_runs all place there = there
  progress_leaves door front (taken_now a) all place there =
      there_before s all (begun a front ∷ []) place there
  progress_leaves door front (goes_by r) all place there =
      going_leaves door (with_round r) all place there
  progress_leaves door front ended_now all place there =
      going_leaves door with_end all place there

  pub over_leaves : (door : ℕ) (site : Site) (rounds : List Round) (t : State) (all : List Start)
      (place : ℕ) → slice_get all place ≡ Some s
      → slice_get (starts_over door site t rounds all) place ≡ Some s
  over_leaves door site [] t all place there = there
  over_leaves door site (r ∷ rounds) t all place there =
      let front = front_in r.told in
      let p = progress_of door site t r in
      over_leaves door site rounds (after_round site t r) (progressed door front p all) place
      (progress_leaves door front p all place there)

-- ---- over rounds

module _ (door : ℕ) (site : Site) where
  pub over_stays : (rounds : List Round) (t : State) (s : Start) (all : List Start) (place : ℕ)
      → slice_get all place ≡ Some s → StaysAt s (starts_over door site t rounds all) place
  over_stays [] t s all place there = same_there s all place there
  over_stays (r ∷ rounds) t s all place there =
      let front = front_in r.told in
      let p = progress_of door site t r in
      let one = progress_stays door front p s all place there in
      let next = progressed door front p all in
      let then = after_round site t r in
      stays_both s next (starts_over door site then rounds next) place one
      (over_stays rounds then one.start next place one.there)

  -- rounds in two parts
  pub over_both : (rounds more : List Round) (t : State) (all : List Start)
      → starts_over door site t (rounds ++ more) all
      ≡ starts_over door site (after_rounds site t rounds) more
      (starts_over door site t rounds all)
  over_both [] more t all = refl
  over_both (r ∷ rounds) more t all =
      over_both rounds more (after_round site t r)
      (progressed door (front_in r.told) (progress_of door site t r) all)

pub last_there : (xs : List Start) (g : Start) → slice_get (xs ++ g ∷ []) (length xs) ≡ Some g
last_there [] g = refl
last_there (x ∷ xs) g = last_there xs g

-- ---- a session

-- rounds of it in two parts
pub rounds_both : (site : Site) (rounds more : List Round) (s : State)
    → after_rounds site s (rounds ++ more) ≡ after_rounds site (after_rounds site s rounds) more
rounds_both site [] more s = refl
rounds_both site (r ∷ rounds) more s = rounds_both site rounds more (after_round site s r)

pub serves_last : (site : Site) (s : State) (rounds : List Round) → ServesOn site s rounds
    → is_serving (after_rounds site s rounds).standing ≡ true
serves_last site s [] serves = serves
serves_last site s (r ∷ rounds) serves = serves_last site (after_round site s r) rounds serves.1

-- its START is its own later too, with the rounds that it had where it serves no more
pub it_stays : (b : Began) (a : SessionStart) (s : Start) (all : List Start) (place : ℕ)
    → IsIt b a s → (on : StaysAt s all place)
    → (ServesThese b a → on.start.rounds ≡ s.rounds)
    → IsIt b a on.start
it_stays b a s all place is on same = record {
  kind = is.kind;
  door = on.door ∙ is.door;
  told = is.told;
  asked = is.asked;
  asks = subst (λ (t : Terms). Asks b.site (found_by b a) a.own
      is.told.answer.glimpse.front t) (sym on.terms) is.asks;
  shape = is.shape ∙ ap (λ (t : Terms). Some (shape_of_terms is.kind t)) (sym on.terms);
  rounds = begins_both (rounds_of (visits_of b.site (begun_by b a) a.serving)) s.rounds
      on.start.rounds is.rounds on.begins;
  all = λ these. same these ∙ is.all these;
}
