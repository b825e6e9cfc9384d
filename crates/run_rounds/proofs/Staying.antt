-- A START that a session's rounds leave stays, whatever comes at its door.
use Rattle.std.proofs.Common.{◌≡◌, ℕ, zero, suc, Bool, true, false, cond, Some}
use Rattle.std.proofs.Common.{List, [], ◌∷◌, ◌++◌, slice_get, filter, refl, sym, ap, subst, ◌∙◌}
use Rattle.std.specs.List.{AllByRecursion}
use Rattle.station_config.specs.Validity.{IsSite}
use Rattle.station_config.specs.declared.site.Site.{Site}
use Rattle.session_core.specs.Lists.{Began}
use Rattle.session_laws.specs.Handing.{Start as SessionStart, IsStart}
use Rattle.session_turns.specs.Serving.{began_at}
use Rattle.station_world.specs.Life.{Start, with_end}
use Rattle.line_events.specs.Progress.{ended_now, progressed}
use Rattle.session_events.specs.Starts.{starts_over, ServesThese, HasIt, LeavesIt}
use Rattle.session_events.specs.Starts.{StartsAreThere}
use Rattle.session_events.proofs.Kept.{one_at, StaysAt, same_there, progress_stays, stays_both}
use Rattle.session_events.proofs.Kept.{progress_leaves, over_stays, over_leaves, it_stays}
use Rattle.run_rounds.specs.Sessions.{Session, first_of, IsSession, starts_of}

module _ (site : Site) (door : ℕ) where
  -- ---- over sessions

  quit_stays : (all : List Start) (place : ℕ) (s : Start) → StaysAt s all place
      → StaysAt s (progressed door 0 ended_now all) place
  quit_stays all place s first =
      stays_both s all (progressed door 0 ended_now all) place first
      (progress_stays door 0 ended_now first.start all place first.there)

  sessions_stay : (sessions : List Session) (s : Start) (all : List Start) (place : ℕ)
      → slice_get all place ≡ Some s → StaysAt s (starts_of site door sessions all) place
  sessions_stay [] s all place there = same_there s all place there
  sessions_stay (a ∷ sessions) s all place there =
      let over = starts_over door site (first_of site door a) a.rounds all in
      let quit = progressed door 0 ended_now over in
      let one = quit_stays over place s
      (over_stays door site a.rounds (first_of site door a) s all place there) in
      stays_both s quit (starts_of site door sessions quit) place one
      (sessions_stay sessions one.start quit place one.there)

  -- one that ended stays as it is
  sessions_leave : (s : Start) → s.ended ≡ true → (sessions : List Session) (all : List Start)
      (place : ℕ) → slice_get all place ≡ Some s
      → slice_get (starts_of site door sessions all) place ≡ Some s
  sessions_leave s ended [] all place there = there
  sessions_leave s ended (a ∷ sessions) all place there =
      let over = starts_over door site (first_of site door a) a.rounds all in
      sessions_leave s ended sessions (progressed door 0 ended_now over) place
      (progress_leaves s ended door 0 ended_now over place
      (over_leaves s ended door site a.rounds (first_of site door a) all place there))

  -- ---- a session's START

  abbrev began : Session → Began
  began a = began_at site door a.draw a.entered

  -- behind the quit of its session, and the sessions that follow
  has_still : (b : Began) (x : SessionStart) → b.door ≡ door
      → (later : List Session) (over : List Start) → LeavesIt b x over
      → HasIt b x (starts_of site door later (progressed door 0 ended_now over))
  has_still b x at later over left =
      let s = left.has.start in
      let place = left.has.place in
      let quit = progressed door 0 ended_now over in
      let all = starts_of site door later quit in
      let one = quit_stays over place s (same_there s over place left.has.there) in
      let on =
      stays_both s quit all place one (sessions_stay later one.start quit place one.there) in
      let ended : ServesThese b x → slice_get quit place ≡ Some (with_end s) =
      λ these. subst (λ (d : ℕ). slice_get (progressed d 0 ended_now over) place ≡ Some (with_end s))
      at (left.ends these) in
      let same : ServesThese b x → with_end s ≡ on.start =
      λ these. one_at (slice_get all place) (with_end s) on.start
      (sessions_leave (with_end s) refl later quit place (ended these)) on.there in
      record {
        place = place;
        start = on.start;
        there = on.there;
        is = it_stays b x s all place left.has.is on
            (λ these. ap (λ (y : Start). y.rounds) (sym (same these)));
      }

  pub each_is_there : StartsAreThere → IsSite site → (earlier later : List Session) (a : Session)
      → IsSession site door a → (x : SessionStart)
      → IsStart (began a) a.rounds x → (all : List Start)
      → HasIt (began a) x (starts_of site door (earlier ++ a ∷ later) all)
  each_is_there law valid [] later a right x is all =
      has_still (began a) x refl later
      (starts_over door site (first_of site door a) a.rounds all)
      (law (began a) a.rounds all valid right x is)
  each_is_there law valid (b ∷ earlier) later a right x is all =
      each_is_there law valid earlier later a right x is
      (progressed door 0 ended_now (starts_over door site (first_of site door b) b.rounds all))

-- ---- among others

-- an element that a filter leaves stands in the whole
from_filter : (p : Start → Bool) (all : List Start) (place : ℕ) (s : Start)
    → slice_get (filter p all) place ≡ Some s → (k : ℕ) × (slice_get all k ≡ Some s)
from_filter p [] place s is = absurd (cc is)
from_filter p (x ∷ all) place s is = by (p x) refl (from_filter p all)
  where
    rest : List Start
    rest = filter p all

    inner : (b : Bool) → (place : ℕ) → slice_get (cond b (x ∷ rest) rest) place ≡ Some s
        → ((place : ℕ) (s : Start) → slice_get rest place ≡ Some s
        → (k : ℕ) × (slice_get all k ≡ Some s))
        → (k : ℕ) × (slice_get (x ∷ all) k ≡ Some s)
    inner true zero got goes = (0, got)
    inner true (suc place) got goes = let one = goes place s got in (suc one.0, one.1)
    inner false place got goes = let one = goes place s got in (suc one.0, one.1)

    by : (b : Bool) → p x ≡ b
        → ((place : ℕ) (s : Start) → slice_get rest place ≡ Some s
        → (k : ℕ) × (slice_get all k ≡ Some s))
        → (k : ℕ) × (slice_get (x ∷ all) k ≡ Some s)
    by b here goes =
        inner b place
        (subst (λ (c : Bool). slice_get (cond c (x ∷ rest) rest) place ≡ Some s) here is) goes

pub has_in_whole : (b : Began) (x : SessionStart) (p : Start → Bool)
    (all some_of : List Start) → filter p all ≡ some_of → HasIt b x some_of
    → HasIt b x all
has_in_whole b x p all some_of same has =
    let one = from_filter p all has.place has.start
    (ap (λ (xs : List Start). slice_get xs has.place) same ∙ has.there) in record {
      place = one.0;
      start = has.start;
      there = one.1;
      is = has.is;
    }

pub all_at : (P : Session → Type 0) (earlier later : List Session) (a : Session)
    → AllByRecursion P (earlier ++ a ∷ later) → P a
all_at P [] later a all = all.0
all_at P (b ∷ earlier) later a all = all_at P earlier later a all.1
