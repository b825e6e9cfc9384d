-- What a round of a session makes of the START of its door leads to the same view.
use Rattle.std.proofs.Common.{◌≡◌, ℕ, suc, ◌≤◌, ◌==◌, Bool, true, false, not, ◌||◌}
use Rattle.std.proofs.Common.{if◌then◌else◌, Option, Some, None, List, [], ◌∷◌, ◌++◌, length, map}
use Rattle.std.proofs.Common.{slice_get, refl, sym, ap, subst, ◌∙◌, arith}
use Rattle.std.proofs.lemmas.Bool.{and_parts}
use Rattle.std.proofs.lemmas.Bool.Decides.{nat_tests}
use Rattle.std.specs.List.{AllByRecursion, filter}
use Rattle.std.specs.Option.{is_some}
use Rattle.archive_terms.specs.Archive.{Entry}
use Rattle.archive_terms.specs.Rounds.{Round, last_front}
use Rattle.station_world.specs.Life.{Start, Life, book, Asked, begun, change_at, with_round, with_end}
use Rattle.station_world.specs.World.{World, starts, makes_round, ends_start}
use Rattle.line_events.specs.Shows.{is_desk, is_users, desk_starts, users_starts, told_of, IsLasting}
use Rattle.line_events.specs.Shows.{HasSeen, View, resting, Shows}
use Rattle.line_events.specs.Forms.{LeadTo, with_progress}
use Rattle.line_events.specs.Progress.{Progress, none_runs, taken_now, goes_by, ended_now, is_at}
use Rattle.line_events.specs.Progress.{is_going, progressed, IsOf, ProgressIsOfItsDoor}
use Rattle.line_events.specs.Progress.{going_by, going_in, events_at, progress_events, changed_at}
use Rattle.line_events.specs.Progress.{change_going, IsUsers, MayProgress}
use Rattle.line_events.proofs.Lists.{filter_more, filter_less, others_stay, told_same, all_and}
use Rattle.line_events.proofs.Lists.{seen_at, seen_round, seen_end}
use Rattle.line_events.proofs.Forms.{published_is}

-- ---- the START that goes on

-- a START of the door stands there, and goes on
record GoesOn (door : ℕ) (all : List Start) (place : ℕ) : Type 0 where
  start : Start
  there : slice_get all place ≡ Some start
  going : is_going door start ≡ true

by_others : (door : ℕ) (s : Start) (others : List Start) (place : ℕ)
    → ((k : ℕ) → going_in door others ≡ Some k → GoesOn door others k) → (b : Bool) (o : Option ℕ)
    → is_going door s ≡ b → going_in door others ≡ o → going_by b o ≡ Some place
    → GoesOn door (s ∷ others) place
by_others door s others place inner b (Some k) goes was is =
    let same : suc k ≡ place = cc is in
    let one = inner k was in
    subst (GoesOn door (s ∷ others)) same
    (record { start = one.start; there = one.there; going = one.going })
by_others door s others place inner true None goes was is =
    let same : 0 ≡ place = cc is in
    subst (GoesOn door (s ∷ others)) same (record { start = s; there = refl; going = goes })
by_others door s others place inner false None goes was is = absurd (cc is)

goes_on : (door : ℕ) (all : List Start) (place : ℕ) → going_in door all ≡ Some place
    → GoesOn door all place
goes_on door [] place is = absurd (cc is)
goes_on door (s ∷ others) place is =
    by_others door s others place (goes_on door others) (is_going door s) (going_in door others) refl
    refl is

equal : (a b : ℕ) → (a == b) ≡ true → a ≡ b
equal a b is = grind (arith, nat_tests, is)

not_so : (b : Bool) → not b ≡ true → b ≡ false
not_so true is = absurd (cc is)
not_so false is = refl

-- it is a user's, and hasn't ended
user_goes : (door : ℕ) (s : Start) → IsUsers door → is_going door s ≡ true → is_desk s ≡ false
user_goes door s users going =
    ap (λ (x : ℕ). x == 0) (equal s.door door (and_parts (s.door == door) (not s.ended) going).0)
    ∙ users

still : (door : ℕ) (s : Start) → is_going door s ≡ true → s.ended ≡ false
still door s going = not_so s.ended (and_parts (s.door == door) (not s.ended) going).1

-- ---- those that pass a test, where a START that goes on passes it

module _ (door : ℕ) (q : Start → Bool) (goes : (x : Start) → is_going door x ≡ true → q x ≡ true)
    (change : Start → Start) (keeps : (x : Start) → q (change x) ≡ q x) where
  some_by : (b : Bool) (o : Option ℕ) → is_some (going_by b o) ≡ (b || is_some o)
  some_by true (Some place) = refl
  some_by false (Some place) = refl
  some_by true None = refl
  some_by false None = refl

  some_one : (s : Start) (others : List Start) (g b : Bool) → is_going door s ≡ g → q s ≡ b
      → is_some (going_in door (filter q others)) ≡ is_some (going_in door others)
      → is_some (going_in door (if b then s ∷ filter q others else filter q others))
      ≡ is_some (going_by (is_going door s) (going_in door others))
  some_one s others g true is passes inner =
      some_by (is_going door s) (going_in door (filter q others))
      ∙ ap (λ (x : Bool). is_going door s || x) inner
      ∙ sym (some_by (is_going door s) (going_in door others))
  some_one s others true false is passes inner = absurd (cc (sym (goes s is) ∙ passes))
  some_one s others false false is passes inner =
      inner ∙ sym (some_by false (going_in door others))
      ∙ ap (λ (x : Bool). is_some (going_by x (going_in door others))) (sym is)

  -- one goes on among them where one does
  some_same : (all : List Start)
      → is_some (going_in door (filter q all)) ≡ is_some (going_in door all)
  some_same [] = refl
  some_same (s ∷ others) =
      some_one s others (is_going door s) (q s) refl refl (some_same others)

  abbrev Inner : List Start → Option ℕ → Option ℕ → Type 0
  Inner others o p =
      filter q (changed_at o change others) ≡ changed_at p change (filter q others)

  abbrev target : Bool → Bool → Start → List Start → Option ℕ → List Start
  target true g s all p = changed_at (going_by g p) change (s ∷ all)
  target false g s all p = changed_at p change all

  one_changes : (s : Start) (others : List Start) (g b : Bool) (o p : Option ℕ)
      → is_going door s ≡ g → q s ≡ b → is_some p ≡ is_some o → Inner others o p
      → filter q (changed_at (going_by g o) change (s ∷ others))
      ≡ target b g s (filter q others) p
  one_changes s others g true (Some k) (Some j) is passes same inner =
      ap (λ (x : Bool). if x then s ∷ filter q (change_at k change others)
      else filter q (change_at k change others)) passes
      ∙ ap (λ (all : List Start). s ∷ all) inner
  one_changes s others g false (Some k) (Some j) is passes same inner =
      ap (λ (x : Bool). if x then s ∷ filter q (change_at k change others)
      else filter q (change_at k change others)) passes ∙ inner
  one_changes s others true true None None is passes same inner =
      ap (λ (x : Bool). if x then change s ∷ filter q others else filter q others)
      (keeps s ∙ passes)
  one_changes s others true false None None is passes same inner =
      absurd (cc (sym (goes s is) ∙ passes))
  one_changes s others false true None None is passes same inner =
      ap (λ (x : Bool). if x then s ∷ filter q others else filter q others) passes
  one_changes s others false false None None is passes same inner =
      ap (λ (x : Bool). if x then s ∷ filter q others else filter q others) passes
  one_changes s others g b (Some k) None is passes same inner = absurd (cc same)
  one_changes s others g b None (Some j) is passes same inner = absurd (cc same)

  from_target : (s : Start) (all : List Start) (b : Bool)
      → target b (is_going door s) s all (going_in door all)
      ≡ change_going door change (if b then s ∷ all else all)
  from_target s all true = refl
  from_target s all false = refl

  pub passing_change : (all : List Start)
      → filter q (change_going door change all) ≡ change_going door change (filter q all)
  passing_change [] = refl
  passing_change (s ∷ others) =
      one_changes s others (is_going door s) (q s) (going_in door others)
      (going_in door (filter q others)) refl refl (some_same others) (passing_change others)
      ∙ from_target s (filter q others) (q s)

-- ---- whose it is

module _ (door other : ℕ) (differ : (door == other) ≡ false) (change : Start → Start)
    (keeps : (x : Start) → is_at other (change x) ≡ is_at other x) where
  others_by : (all : List Start) (o : Option ℕ) → going_in door all ≡ o
      → filter (is_at other) (changed_at o change all) ≡ filter (is_at other) all
  others_by all None is = refl
  others_by all (Some place) is =
      let one = goes_on door all place is in
      let at = equal one.start.door door (and_parts (is_at door one.start) _ one.going).0 in
      others_stay (is_at other) place change all one.start keeps one.there
      (ap (λ (x : ℕ). x == other) at ∙ differ)

  others_same : (all : List Start)
      → filter (is_at other) (change_going door change all) ≡ filter (is_at other) all
  others_same all = others_by all (going_in door all) refl

itself : (door : ℕ) → (door == door) ≡ true
itself door = grind arith

own_change : (door : ℕ) (change : Start → Start)
    → ((x : Start) → is_at door (change x) ≡ is_at door x) → (all : List Start)
    → filter (is_at door) (change_going door change all)
    ≡ change_going door change (filter (is_at door) all)
own_change door change keeps all =
    passing_change door (is_at door) (λ x going. (and_parts (is_at door x) (not x.ended) going).0)
    change keeps all

own_progress : (door front : ℕ) (p : Progress) (all : List Start) → IsOf door p
    → filter (is_at door) (progressed door front p all)
    ≡ progressed door front p (filter (is_at door) all)
own_progress door front none_runs all of = refl
own_progress door front (taken_now a) all of =
    filter_more (is_at door) all (begun a front) (ap (λ (x : ℕ). x == door) of ∙ itself door)
own_progress door front (goes_by r) all of = own_change door (with_round r) (λ x. refl) all
own_progress door front ended_now all of = own_change door with_end (λ x. refl) all

others_progress : (door other front : ℕ) (p : Progress) (all : List Start) → IsOf door p
    → (door == other) ≡ false
    → filter (is_at other) (progressed door front p all) ≡ filter (is_at other) all
others_progress door other front none_runs all of differ = refl
others_progress door other front (taken_now a) all of differ =
    filter_less (is_at other) all (begun a front) (ap (λ (x : ℕ). x == other) of ∙ differ)
others_progress door other front (goes_by r) all of differ =
    others_same door other differ (with_round r) (λ x. refl) all
others_progress door other front ended_now all of differ =
    others_same door other differ with_end (λ x. refl) all

pub of_its_door : ProgressIsOfItsDoor
of_its_door = record { own = own_progress; others = others_progress }

-- ---- where its events lead

module _ (v : View) (w : World) (shows : Shows v w) (door : ℕ) where
  abbrev l : Life
  l = shows.life

  abbrev rests : World
  rests = resting shows.found shows.kept shows.past l v.clock v.antenna

  -- a life with other STARTs of users shows these
  with_starts : (all users : List Start) → filter is_desk all ≡ desk_starts l
      → filter is_users all ≡ users → AllByRecursion (HasSeen v.published) all
      → Shows (record v { users = users })
      (resting shows.found shows.kept shows.past (record l { starts = all }) v.clock v.antenna)
  with_starts all users desk users_are seen = record {
    found = shows.found;
    kept = shows.kept;
    past = shows.past;
    life = record l { starts = all };
    is = refl;
    acknowledges = shows.acknowledges;
    book_is = shows.book_is;
    one = shows.one;
    told_is =
        told_same shows.past l (record l { starts = all })
        (ap (λ (ss : List Start). map (told_of (book l).published) ss) desk) ∙ shows.told_is;
    lasting = subst (AllByRecursion (IsLasting v.published)) (sym desk) shows.lasting;
    users_are = users_are;
    seen = seen;
  }

  nothing : (users : List Start) → users_starts l ≡ users
      → LeadTo rests [] (record v { users = users })
  nothing users are = (tt, with_starts l.starts users refl are shows.seen)

  takes : (a : Asked) → MayProgress door v.published (taken_now a)
      → LeadTo rests (starts a ∷ []) (with_progress door (taken_now a) v)
  takes a may =
      let new : Start = begun a (length (book l).published) in
      let none : HasSeen v.published new = omega arith in
      let user : is_desk new ≡ false = ap (λ (x : ℕ). x == 0) may.1.0 ∙ may.0 in
      let are : filter is_users (l.starts ++ new ∷ [])
      ≡ v.users ++ begun a (length v.published) ∷ [] =
      filter_more is_users l.starts new (ap (λ (b : Bool). not b) user)
      ∙ ap (λ (all : List Start). all ++ new ∷ []) shows.users_are
      ∙ ap (λ (xs : List Entry). v.users ++ begun a (length xs) ∷ []) (published_is v w shows) in (
        (may.1.1, tt),
        with_starts (l.starts ++ new ∷ []) (v.users ++ begun a (length v.published) ∷ [])
            (filter_less is_desk l.starts new user) are
            (all_and (HasSeen v.published) l.starts new shows.seen none),
      )

  -- the users' STARTs where the one that goes on changes
  changed : IsUsers door → (change : Start → Start)
      → ((x : Start) → is_desk (change x) ≡ is_desk x) → (place : Option ℕ)
      → going_in door l.starts ≡ place
      → filter is_users (changed_at place change l.starts) ≡ change_going door change v.users
  changed users change keeps place is =
      ap (λ (at : Option ℕ). filter is_users (changed_at at change l.starts)) (sym is)
      ∙ passing_change door is_users
      (λ x going. ap (λ (b : Bool). not b) (user_goes door x users going)) change
      (λ x. ap (λ (b : Bool). not b) (keeps x)) l.starts
      ∙ ap (λ (all : List Start). change_going door change all) shows.users_are

  makes : (r : Round) (place : Option ℕ) → going_in door l.starts ≡ place
      → MayProgress door v.published (goes_by r)
      → LeadTo rests (events_at place (λ (p : ℕ). makes_round p r))
      (with_progress door (goes_by r) v)
  makes r None is may =
      nothing (change_going door (with_round r) v.users)
      (changed may.0 (with_round r) (λ x. refl) None is)
  makes r (Some place) is may =
      let one = goes_on door l.starts place is in
      let s : Start = one.start in
      let saw : HasSeen v.published s = seen_at v.published place l.starts s shows.seen one.there in
      let rises : last_front 0 s.rounds ≤ r.front = omega (arith, saw, may.1) in
      let within : r.front ≤ length v.published = omega (arith, may.1) in (
        (
          record {
            start = s;
            there = one.there;
            goes_on = still door s one.going;
            rises = rises;
            published = subst (λ (xs : List Entry). r.front ≤ length xs)
                (sym (published_is v w shows)) within;
          },
          tt,
        ),
        with_starts (change_at place (with_round r) l.starts)
            (change_going door (with_round r) v.users)
            (others_stay is_desk place (with_round r) l.starts s (λ x. refl) one.there
            (user_goes door s may.0 one.going))
            (changed may.0 (with_round r) (λ x. refl) (Some place) is)
            (seen_round v.published place r l.starts within shows.seen),
      )

  stops : (place : Option ℕ) → going_in door l.starts ≡ place → IsUsers door
      → LeadTo rests (events_at place ends_start) (with_progress door ended_now v)
  stops None is users =
      nothing (change_going door with_end v.users) (changed users with_end (λ x. refl) None is)
  stops (Some place) is users =
      let one = goes_on door l.starts place is in (
        (tt, tt),
        with_starts (change_at place with_end l.starts) (change_going door with_end v.users)
            (others_stay is_desk place with_end l.starts one.start (λ x. refl) one.there
            (user_goes door one.start users one.going))
            (changed users with_end (λ x. refl) (Some place) is)
            (seen_end v.published place l.starts shows.seen),
      )

  at_rest : (p : Progress) → MayProgress door v.published p
      → LeadTo rests (progress_events door rests p) (with_progress door p v)
  at_rest none_runs may = nothing v.users shows.users_are
  at_rest (taken_now a) may = takes a may
  at_rest (goes_by r) may = makes r (going_in door l.starts) refl may
  at_rest ended_now may = stops (going_in door l.starts) refl may.0

pub progress_leads : (v : View) (w : World) (door : ℕ) (p : Progress)
    → (shows : Shows v w) → MayProgress door v.published p
    → LeadTo w (progress_events door w p) (with_progress door p v)
progress_leads v w door p shows may =
    subst (λ (x : World). LeadTo x (progress_events door x p) (with_progress door p v))
    (sym shows.is) (at_rest v w shows door p may)
