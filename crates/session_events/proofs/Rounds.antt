-- What a round makes of its door's START may come.
use Rattle.std.proofs.Common.{◌≡◌, ℕ, ◌<◌, ◌==◌, Bool, true, false, nat_lt, if◌then◌else◌, Option}
use Rattle.std.proofs.Common.{Some, None, List, length, refl, ap, ◌∙◌, arith}
use Rattle.std.proofs.lemmas.Bool.Decides.{nat_tests}
use Rattle.std.specs.Option.{option_map}
use Rattle.octet_core.specs.declared.offer.Offer.{Offer}
use Rattle.archive_terms.specs.Archive.{Entry}
use Rattle.archive_terms.specs.Rounds.{Round as DeliveryRound}
use Rattle.return_core.specs.Visits.{round_of}
use Rattle.station_config.specs.declared.site.Site.{Site}
use Rattle.session_core.specs.Session.{State, Round, BookAnswer, before_step, after_round}
use Rattle.session_core.specs.Course.{is_blocked}
use Rattle.session_laws.specs.Deliveries.{is_serving, visit_by}
use Rattle.session_laws.specs.Instances.{Shape, shape_at}
use Rattle.session_laws.specs.Starts.{Wanted}
use Rattle.station_world.specs.Life.{Start, Asked}
use Rattle.line_events.specs.Progress.{Progress, none_runs, taken_now, goes_by, ended_now, progressed}
use Rattle.line_events.specs.Progress.{IsFit, MayProgress, IsUsers}
use Rattle.session_events.specs.Asked.{asked_of, asked_so, asked_where, asked_in, wanted_at}
use Rattle.session_events.specs.Rounds.{front_in, SawFront, made_in, taken_by, made_by, progress_by}
use Rattle.session_events.specs.Rounds.{progress_of, RoundsMayCome}

-- ---- a START

-- it is of the door, and its buffers have room
abbrev IsRight : ℕ → Option Asked → Type 0
IsRight door None = Unit {0}
IsRight door (Some a) = (a.door ≡ door) × (0 < a.size)

some : (n : ℕ) → nat_lt 0 n ≡ true → 0 < n
some n is = grind (arith, nat_tests, is)

room_right : (door : ℕ) (a : Asked) → a.door ≡ door → (b : Bool) → nat_lt 0 a.size ≡ b
    → IsRight door (if b then Some a else None)
room_right door a at true is = (at, some a.size is)
room_right door a at false is = tt

one_right : (door : ℕ) (shape : Option Shape) (wanted : Option Wanted)
    → IsRight door (asked_of door shape wanted)
one_right door None wanted = tt
one_right door (Some shape) None = tt
one_right door (Some shape) (Some wanted) =
    room_right door (asked_so door shape wanted) refl (nat_lt 0 shape.size) refl

told_right : (door : ℕ) (told : Option BookAnswer) (asked : Option Asked) → IsRight door asked
    → IsRight door (asked_where told asked)
told_right door None asked right = tt
told_right door (Some told) asked right = right

asked_right : (door : ℕ) (site : Site) (s : State) (r : Round) → IsRight door (asked_in door site s r)
asked_right door site s r =
    told_right door r.told (asked_of door (shape_at site s.standing) (wanted_at site s r))
    (one_right door (shape_at site s.standing) (wanted_at site s r))

-- ---- a delivery's round

-- it is at this front
abbrev IsAt : ℕ → Option DeliveryRound → Type 0
IsAt front None = Unit {0}
IsAt front (Some r) = r.front ≡ front

visit_at : (blocked : Bool) (told : BookAnswer) (sent : Option Offer)
    → (round_of (visit_by blocked told sent)).front ≡ told.answer.glimpse.front
visit_at true told sent = refl
visit_at false told None = refl
visit_at false told (Some answer) = refl

made_at : (front : ℕ) (blocked : Bool) (sent : Option Offer) (told : Option BookAnswer)
    → SawFront front told
    → IsAt front (option_map round_of (option_map (λ t. visit_by blocked t sent) told))
made_at front blocked sent None saw = tt
made_at front blocked sent (Some told) saw = visit_at blocked told sent ∙ saw

-- ---- what is fit

taken_fits : (door front : ℕ) (asked : Option Asked) → IsRight door asked
    → IsFit door front (taken_by asked)
taken_fits door front None right = tt
taken_fits door front (Some a) right = right

made_fits : (door front : ℕ) (made : Option DeliveryRound) → IsAt front made
    → IsFit door front (made_by made)
made_fits door front None at = tt
made_fits door front (Some r) at = at

by_serving : (door front : ℕ) (before behind : Bool) (asked : Option Asked)
    (made : Option DeliveryRound) → IsRight door asked → IsAt front made
    → IsFit door front (progress_by before behind asked made)
by_serving door front false false asked made right at = tt
by_serving door front false true asked made right at = taken_fits door front asked right
by_serving door front true true asked made right at = made_fits door front made at
by_serving door front true false asked made right at = tt

fits_so : (door front : ℕ) (site : Site) (s : State) (r : Round) → SawFront front r.told
    → IsFit door front (progress_of door site s r)
fits_so door front site s r saw =
    by_serving door front (is_serving s.standing) (is_serving (after_round site s r).standing)
    (asked_in door site s r) (made_in s r) (asked_right door site s r)
    (made_at front (is_blocked (before_step s r).standing.arrival) r.sent r.told saw)

-- ---- the front

same_made : (door front other : ℕ) (made : Option DeliveryRound) (all : List Start)
    → progressed door front (made_by made) all ≡ progressed door other (made_by made) all
same_made door front other None all = refl
same_made door front other (Some r) all = refl

-- at whatever front, where the book wasn't asked
same_none : (door front other : ℕ) (before behind : Bool) (asked : Option Asked)
    (made : Option DeliveryRound) (all : List Start)
    → progressed door front (progress_by before behind (asked_where None asked) made) all
    ≡ progressed door other (progress_by before behind (asked_where None asked) made) all
same_none door front other false false asked made all = refl
same_none door front other false true asked made all = refl
same_none door front other true true asked made all = same_made door front other made all
same_none door front other true false asked made all = refl

by_told : (door front : ℕ) (told : Option BookAnswer) (before behind : Bool) (asked : Option Asked)
    (made : Option DeliveryRound) (all : List Start) → SawFront front told
    → progressed door (front_in told) (progress_by before behind (asked_where told asked) made) all
    ≡ progressed door front (progress_by before behind (asked_where told asked) made) all
by_told door front None before behind asked made all saw =
    same_none door 0 front before behind asked made all
by_told door front (Some told) before behind asked made all saw =
    ap (λ (n : ℕ). progressed door n (progress_by before behind asked made) all) saw

same_so : (door front : ℕ) (site : Site) (s : State) (r : Round) (all : List Start)
    → SawFront front r.told
    → progressed door (front_in r.told) (progress_of door site s r) all
    ≡ progressed door front (progress_of door site s r) all
same_so door front site s r all saw =
    by_told door front r.told (is_serving s.standing) (is_serving (after_round site s r).standing)
    (asked_of door (shape_at site s.standing) (wanted_at site s r)) (made_in s r)
    all saw

-- ---- what may come

users_may : (door : ℕ) (published : List Entry) (p : Progress) → IsUsers door
    → IsFit door (length published) p → MayProgress door published p
users_may door published none_runs users fits = tt
users_may door published (taken_now a) users fits = (users, fits)
users_may door published (goes_by r) users fits = (users, fits)
users_may door published ended_now users fits = (users, fits)

by_door : (door : ℕ) (published : List Entry) (p : Progress) (b : Bool) → (door == 0) ≡ b
    → IsFit door (length published) p → MayProgress door published (if b then none_runs else p)
by_door door published p true is fits = tt
by_door door published p false is fits = users_may door published p is fits

pub rounds_may : RoundsMayCome
rounds_may = record {
  fits = fits_so;
  same = same_so;
  may = λ door site s r published saw.
      by_door door published (progress_of door site s r) (door == 0) refl
      (fits_so door (length published) site s r saw);
}
