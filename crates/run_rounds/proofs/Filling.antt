-- What the turns of doors make of STARTs, put behind these turns.
use Rattle.std.proofs.Common.{◌≡◌, ℕ, suc, zero, ◌≤◌, ◌<◌, ◌==◌, Bool, true, false, not, cond}
use Rattle.std.proofs.Common.{IsTrue}
use Rattle.std.proofs.Common.{Option, Some, None, List, [], ◌∷◌, ◌++◌, length, slice_get, refl}
use Rattle.std.proofs.Common.{sym, ap, subst, ◌∙◌, append-nil, append_assoc, arith, if◌then◌else◌}
use Rattle.std.proofs.Common.{eq-eqb, length-append}
use Rattle.std.specs.List.{filter, list_all, AllByRecursion}
use Rattle.std.specs.Option.{option_map, option_map_or}
use Rattle.std.proofs.lemmas.Bool.{and_parts}
use Rattle.std.proofs.lemmas.Bool.Decides.{nat_tests}
use Rattle.std.proofs.lemmas.List.Elements.{filter-append}
use Rattle.std.proofs.lemmas.List.Sums.{fold-append}
use Rattle.archive_terms.specs.Archive.{Entry}
use Rattle.archive_terms.specs.Glimpse.{Want, wants_nothing, wants_front, wants_items, glimpse}
use Rattle.archive_terms.specs.Rounds.{Round, last_front}
use Rattle.station_book.specs.Doors.{is_by}
use Rattle.station_book.specs.Publishing.{published_by, front_of}
use Rattle.station_book.specs.State.{State, opened, Call, publish, answer, quit, take}
use Rattle.station_book.specs.State.{done}
use Rattle.station_book.specs.State.{interrupted, uplink, gone, Event as Answered}
use Rattle.station_book.specs.History.{after, event_at, reply_to, then_after, replay, IsLegal}
use Rattle.station_book.proofs.Published.{one_published}
use Rattle.station_world.specs.Life.{Start, Life, book, Asked, called, begun, change_at, with_round}
use Rattle.station_world.specs.Life.{with_end, sent_with, taken, changed}
use Rattle.station_world.specs.World.{World, Event, offers, begins_store, ends_store, reopens}
use Rattle.station_world.specs.World.{calls}
use Rattle.station_world.specs.World.{starts, makes_round, ends_start, sends, reads, loses_power}
use Rattle.station_world.specs.World.{restarts, after_event, after_events}
use Rattle.station_world.specs.Comes.{Lives, Comes, MayMake}
use Rattle.station_world.proofs.Lists.{last_is}
use Rattle.run_laws.proofs.Calls.{owner}
use Rattle.line_events.specs.Progress.{Progress, none_runs, taken_now, goes_by, ended_now, is_at}
use Rattle.line_events.specs.Progress.{is_going, going_by, going_in, progress_events, progressed}
use Rattle.line_events.specs.Progress.{changed_at, events_at, IsFit, ProgressIsOfItsDoor, IsOf}
use Rattle.run_events.specs.Turns.{Turn, events_of_turn, events_of, answered_in, is_beside}
use Rattle.run_events.specs.Turns.{StandsBeside, IsAlone, is_others, turns_with}
use Rattle.run_events.specs.Beside.{is_of_start, without_starts, StartsCome}
use Rattle.run_events.proofs.Owning.{neither}
use Rattle.run_rounds.specs.Doors.{called_in, placed, Makes, AllMake, turns_by, seen_by, made_of}
use Rattle.run_rounds.specs.Doors.{FitsAt, AllFit, events_by}

-- ---- lists of events

pub after_both : (w : World) (xs ys : List Event)
    → after_events w (xs ++ ys) ≡ after_events (after_events w xs) ys
after_both w [] ys = refl
after_both w (x ∷ xs) ys = after_both (after_event w x) xs ys

pub come_both : (w : World) (xs ys : List Event) → StartsCome w xs
    → StartsCome (after_events w xs) ys → StartsCome w (xs ++ ys)
come_both w [] ys first second = second
come_both w (x ∷ xs) ys first second =
    (first.0, come_both (after_event w x) xs ys first.1 second)

other_kind : (e : Event) → is_beside e ≡ true → is_of_start e ≡ false
other_kind (offers entry) is = refl
other_kind begins_store is = refl
other_kind (ends_store good) is = refl
other_kind (reopens finding) is = refl
other_kind (calls call) is = refl
other_kind (starts a) is = absurd (cc is)
other_kind (makes_round place r) is = absurd (cc is)
other_kind (ends_start place) is = absurd (cc is)
other_kind (sends good) is = refl
other_kind (reads moment) is = refl
other_kind loses_power is = refl
other_kind (restarts o finding) is = refl

-- an event that is no START's
one_comes : (w : World) (e : Event) → is_of_start e ≡ false → IsTrue (is_of_start e) → Comes w e
one_comes w e other own = absurd (cc (sym own ∙ other))

none_come : (w : World) (es : List Event) → IsTrue (list_all is_beside es)
    → StartsCome w es
none_come w [] all = tt
none_come w (e ∷ es) all =
    let parts = and_parts (is_beside e) (list_all is_beside es) all in
    (one_comes w e (other_kind e parts.0), none_come (after_event w e) es parts.1)

kept_both : (xs ys : List Event)
    → without_starts (xs ++ ys) ≡ without_starts xs ++ without_starts ys
kept_both xs ys = filter-append (λ (e : Event). not (is_of_start e)) xs ys

all_kept : (es : List Event) → IsTrue (list_all is_beside es) → without_starts es ≡ es
all_kept [] all = refl
all_kept (e ∷ es) all =
    let parts = and_parts (is_beside e) (list_all is_beside es) all in
    let rest = without_starts es in
    ap (λ (b : Bool). cond (not b) (e ∷ rest) rest) (other_kind e parts.0)
    ∙ ap (λ (xs : List Event). e ∷ xs) (all_kept es parts.1)

-- ---- lives

-- a life goes on, and another does with the same STARTs, whose book is this
pub record GoesOn (w : World) (all : List Start) (b : State) : Type 0 where
  pub life : Life
  pub now : w.now ≡ Some life
  pub same : life.starts ≡ all
  pub book_is : book life ≡ b

beside_one : (w : World) (all : List Start) (b : State) (e : Event)
    → is_beside e ≡ true → GoesOn w all b → GoesOn (after_event w e) all b
beside_one w all b (offers entry) is g =
    record { life = g.life; now = g.now; same = g.same; book_is = g.book_is }
beside_one w all b begins_store is g =
    record { life = g.life; now = g.now; same = g.same; book_is = g.book_is }
beside_one w all b (ends_store good) is g =
    record { life = g.life; now = g.now; same = g.same; book_is = g.book_is }
beside_one w all b (reopens finding) is g =
    record { life = g.life; now = g.now; same = g.same; book_is = g.book_is }
beside_one w all b (calls call) is g = absurd (cc is)
beside_one w all b (starts a) is g = absurd (cc is)
beside_one w all b (makes_round place r) is g = absurd (cc is)
beside_one w all b (ends_start place) is g = absurd (cc is)
beside_one w all b (sends good) is g = record {
  life = sent_with good g.life;
  now = ap (option_map (sent_with good)) g.now;
  same = g.same;
  book_is = g.book_is;
}
beside_one w all b (reads moment) is g = absurd (cc is)
beside_one w all b loses_power is g = absurd (cc is)
beside_one w all b (restarts o finding) is g = absurd (cc is)

beside_all : (w : World) (all : List Start) (b : State) (es : List Event)
    → IsTrue (list_all is_beside es) → GoesOn w all b → GoesOn (after_events w es) all b
beside_all w all b [] is g = g
beside_all w all b (e ∷ es) is g =
    let parts = and_parts (is_beside e) (list_all is_beside es) is in
    beside_all (after_event w e) all b es parts.1 (beside_one w all b e parts.0 g)

call_goes : (w : World) (all : List Start) (b : State) (c : Call) → GoesOn w all b
    → GoesOn (after_event w (calls c)) all (after b c)
call_goes w all b c g = record {
  life = called c g.life;
  now = ap (option_map (called c)) g.now;
  same = g.same;
  book_is = fold-append then_after (opened g.life.opening) g.life.history
      (event_at (book g.life) c ∷ [])
      ∙ ap (λ (s : State). after s c) g.book_is;
}

-- ---- STARTs

-- no round of theirs saw more
abbrev pub Within : ℕ → List Start → Type 0
Within front all = AllByRecursion (λ (s : Start). last_front 0 s.rounds ≤ front) all

within_more : (n m : ℕ) (all : List Start) → n ≤ m → Within n all → Within m all
within_more n m [] more all = tt
within_more n m (s ∷ others) more all =
    let here : last_front 0 s.rounds ≤ n = all.0 in
    (omega (arith, here, more), within_more n m others more all.1)

within_one : (n : ℕ) (all : List Start) (s : Start) → Within n all → last_front 0 s.rounds ≤ n
    → Within n (all ++ s ∷ [])
within_one n [] s all one = (one, tt)
within_one n (x ∷ others) s all one = (all.0, within_one n others s all.1 one)

within_change : (n : ℕ) (change : Start → Start)
    → ((s : Start) → last_front 0 s.rounds ≤ n → last_front 0 (change s).rounds ≤ n)
    → (place : ℕ) (all : List Start) → Within n all → Within n (change_at place change all)
within_change n change keeps place [] all = tt
within_change n change keeps zero (s ∷ others) all = (keeps s all.0, all.1)
within_change n change keeps (suc place) (s ∷ others) all =
    (all.0, within_change n change keeps place others all.1)

within_at : (n : ℕ) (place : ℕ) (all : List Start) (s : Start) → slice_get all place ≡ Some s
    → Within n all → last_front 0 s.rounds ≤ n
within_at n place [] s there all = absurd (cc there)
within_at n zero (x ∷ others) s there all =
    let same : x ≡ s = cc there in
    subst (λ (y : Start). last_front 0 y.rounds ≤ n) same all.0
within_at n (suc place) (x ∷ others) s there all = within_at n place others s there all.1

-- a START of the door stands there, and goes on
record StandsThere (door : ℕ) (all : List Start) (place : ℕ) : Type 0 where
  start : Start
  there : slice_get all place ≡ Some start
  going : is_going door start ≡ true

by_others : (door : ℕ) (s : Start) (others : List Start) (place : ℕ)
    → ((k : ℕ) → going_in door others ≡ Some k → StandsThere door others k) → (b : Bool)
    (o : Option ℕ)
    → is_going door s ≡ b → going_in door others ≡ o → going_by b o ≡ Some place
    → StandsThere door (s ∷ others) place
by_others door s others place inner b (Some k) goes was is =
    let same : suc k ≡ place = cc is in
    let one = inner k was in
    subst (StandsThere door (s ∷ others)) same
    (record { start = one.start; there = one.there; going = one.going })
by_others door s others place inner true None goes was is =
    let same : 0 ≡ place = cc is in
    subst (StandsThere door (s ∷ others)) same
    (record { start = s; there = refl; going = goes })
by_others door s others place inner false None goes was is = absurd (cc is)

stands_there : (door : ℕ) (all : List Start) (place : ℕ) → going_in door all ≡ Some place
    → StandsThere door all place
stands_there door [] place is = absurd (cc is)
stands_there door (s ∷ others) place is =
    by_others door s others place (stands_there door others) (is_going door s)
    (going_in door others) refl refl is

not_ended : (door : ℕ) (s : Start) → is_going door s ≡ true → s.ended ≡ false
not_ended door s going = by s.ended (and_parts (is_at door s) (not s.ended) going).1
  where
    by : (b : Bool) → not b ≡ true → b ≡ false
    by true is = absurd (cc is)
    by false is = refl

-- ---- what is made behind a turn

-- where it leads
record Acted (door front : ℕ) (p : Progress) (v : World) (all : List Start) (b : State)
    : Type 0 where
  come : StartsCome v (progress_events door v p)
  goes : GoesOn (after_events v (progress_events door v p)) (progressed door front p all) b
  within : Within front (progressed door front p all)

module _ (door front : ℕ) (v : World) (all : List Start) (b : State) (g : GoesOn v all b)
    (front_is : length b.published ≡ front) (saw : Within front all) where
  abbrev l : Life
  l = g.life

  here : length (book l).published ≡ front
  here = ap (λ (s : State). length s.published) g.book_is ∙ front_is

  lives_so : (P : Life → Type 0) → P l → Lives v.now P
  lives_so P holds = subst (λ (x : Option Life). Lives x P) (sym g.now) holds

  going_here : option_map_or (λ (m : Life). going_in door m.starts) v.now None
      ≡ going_in door all
  going_here =
      ap (λ (x : Option Life). option_map_or (λ (m : Life). going_in door m.starts) x None) g.now
      ∙ ap (going_in door) g.same

  -- a START is taken
  take_acts : (a : Asked) → IsFit door front (taken_now a)
      → Acted door front (taken_now a) v all b
  take_acts a fit = record {
    come = ((λ _. lives_so (λ _. 0 < a.size) fit.1), tt);
    goes = record {
      life = taken a l;
      now = ap (option_map (taken a)) g.now;
      same = ap (λ n. l.starts ++ begun a n ∷ []) here
          ∙ ap (λ (xs : List Start). xs ++ begun a front ∷ []) g.same;
      book_is = g.book_is;
    };
    within = within_one front all (begun a front) saw (omega arith);
  }

  -- the one that goes on changes, by an event at its place
  module _ (change : Start → Start)
      (keeps : (s : Start) → last_front 0 s.rounds ≤ front
      → last_front 0 (change s).rounds ≤ front)
      (event : ℕ → Event)
      (own : (place : ℕ) → is_of_start (event place) ≡ true)
      (comes : (place : ℕ) (s : Start) → slice_get l.starts place ≡ Some s
      → s.ended ≡ false → last_front 0 s.rounds ≤ front → Comes v (event place))
      (leaves : (place : ℕ)
      → after_event v (event place)
      ≡ record v { now = option_map (changed place change) v.now }) where
    record Changed (at : Option ℕ) : Type 0 where
      come : StartsCome v (events_at at event)
      goes : GoesOn (after_events v (events_at at event)) (changed_at at change all) b
      within : Within front (changed_at at change all)

    change_acts : (at : Option ℕ) → going_in door all ≡ at → Changed at
    change_acts None is = record { come = tt; goes = g; within = saw }
    change_acts (Some place) is =
        let one = stands_there door all place is in
        let there : slice_get l.starts place ≡ Some one.start =
        ap (λ (xs : List Start). slice_get xs place) g.same ∙ one.there in record {
          come = (
            (
                λ _. comes place one.start there (not_ended door one.start one.going)
                (within_at front place all one.start one.there saw)
                ),
            tt,
          );
          goes = subst (λ (w : World). GoesOn w (change_at place change all) b)
              (sym (leaves place)) (record {
                life = changed place change l;
                now = ap (option_map (changed place change)) g.now;
                same = ap (change_at place change) g.same;
                book_is = g.book_is;
              });
          within = within_change front change keeps place all saw;
        }

    all_change : (at : Option ℕ) → at ≡ going_in door all
        → (come : StartsCome v (events_at at event))
        × GoesOn (after_events v (events_at at event))
        (changed_at (going_in door all) change all) b
        × Within front (changed_at (going_in door all) change all)
    all_change at is =
        let one = change_acts (going_in door all) refl in
        subst (λ (x : Option ℕ). (come : StartsCome v (events_at x event))
        × GoesOn (after_events v (events_at x event))
        (changed_at (going_in door all) change all) b
        × Within front (changed_at (going_in door all) change all)) (sym is)
        (one.come, one.goes, one.within)

  round_acts : (r : Round) → IsFit door front (goes_by r)
      → Acted door front (goes_by r) v all b
  round_acts r fit =
      let at = option_map_or (λ (m : Life). going_in door m.starts) v.now None in
      let one = all_change (with_round r)
      (λ s before. subst (λ n. n ≤ front) (sym (last_is 0 s.rounds r)) (omega (arith, fit)))
      (λ place. makes_round place r) (λ place. refl)
      (λ place s there on before. lives_so (λ m. MayMake m place r) (record {
        start = s;
        there = there;
        goes_on = on;
        rises = omega (arith, before, fit);
        published = omega (arith, here, fit);
      }))
      (λ place. refl) at going_here in
      record { come = one.0; goes = one.1; within = one.2 }

  end_acts : Acted door front ended_now v all b
  end_acts =
      let at = option_map_or (λ (m : Life). going_in door m.starts) v.now None in
      let one = all_change with_end (λ s before. before) ends_start (λ place. refl)
      (λ place s there on before. lives_so (λ m. Unit {0}) tt) (λ place. refl) at going_here in
      record { come = one.0; goes = one.1; within = one.2 }

  acts : (p : Progress) → IsFit door front p → Acted door front p v all b
  acts none_runs fit = record { come = tt; goes = g; within = saw }
  acts (taken_now a) fit = take_acts a fit
  acts (goes_by r) fit = round_acts r fit
  acts ended_now fit = end_acts

-- ---- what a door saw

-- what is fit at the front that it saw is so at what is published, and makes the same
record SeenSo (door : ℕ) (saw : Option ℕ) (front : ℕ) (p : Progress) : Type 0 where
  fit : IsFit door front p
  same : (all : List Start) → progressed door (seen_by saw) p all ≡ progressed door front p all

seen_some : (door n front : ℕ) (p : Progress) → n ≡ front → FitsAt door (Some n) p
    → SeenSo door (Some n) front p
seen_some door n front p is fit = record {
  fit = subst (λ k. IsFit door k p) is fit;
  same = λ all. ap (λ k. progressed door k p all) is;
}

seen_none : (door front : ℕ) (p : Progress) → FitsAt door None p → SeenSo door None front p
seen_none door front none_runs fit = record { fit = tt; same = λ all. refl }
seen_none door front (taken_now a) fit = absurd fit
seen_none door front (goes_by r) fit = absurd fit
seen_none door front ended_now fit = record { fit = tt; same = λ all. refl }

look_front : (entries : List Entry) (w : Want) → (glimpse entries w).front ≡ length entries
look_front entries wants_nothing = refl
look_front entries wants_front = refl
look_front entries (wants_items w) = refl

-- a door's call publishes nothing
seen_at : (b : State) (c : Call) (door : ℕ) (p : Progress) → owner c ≡ Some door
    → FitsAt door (front_of (reply_to b c)) p
    → SeenSo door (front_of (reply_to b c)) (length (after b c).published) p
seen_at b (answer other reading ask want) door p is fit =
    seen_some door (glimpse b.published want).front
    (length (after b (answer other reading ask want)).published) p
    (look_front b.published want
    ∙ ap length (sym (one_published b (answer other reading ask want)
    ∙ append-nil b.published))) fit
seen_at b (quit other) door p is fit =
    seen_none door (length (after b (quit other)).published) p fit
seen_at b (publish entries) door p is fit = absurd (cc is)
seen_at b (take reading) door p is fit = absurd (cc is)
seen_at b (done run id reading) door p is fit = absurd (cc is)
seen_at b (interrupted run id reading) door p is fit = absurd (cc is)
seen_at b (uplink production status reading) door p is fit = absurd (cc is)
seen_at b (gone worker) door p is fit = absurd (cc is)

-- ---- turns of doors

by_owner : (c : Call) (d k : ℕ) → owner c ≡ Some d → is_by k c ≡ (d == k)
by_owner (answer other reading ask want) d k is = ap (λ n. n == k) (cc is)
by_owner (quit other) d k is = ap (λ n. n == k) (cc is)
by_owner (publish entries) d k is = absurd (cc is)
by_owner (take reading) d k is = absurd (cc is)
by_owner (done run id reading) d k is = absurd (cc is)
by_owner (interrupted run id reading) d k is = absurd (cc is)
by_owner (uplink production status reading) d k is = absurd (cc is)
by_owner (gone worker) d k is = absurd (cc is)

by_nobody : (c : Call) (k : ℕ) → owner c ≡ None → is_by k c ≡ false
by_nobody (answer other reading ask want) k is = absurd (cc is)
by_nobody (quit other) k is = absurd (cc is)
by_nobody (publish entries) k is = refl
by_nobody (take reading) k is = refl
by_nobody (done run id reading) k is = refl
by_nobody (interrupted run id reading) k is = refl
by_nobody (uplink production status reading) k is = refl
by_nobody (gone worker) k is = refl

of_it : (door front : ℕ) (p : Progress) → IsFit door front p → IsOf door p
of_it door front none_runs fit = tt
of_it door front (taken_now a) fit = fit.0
of_it door front (goes_by r) fit = tt
of_it door front ended_now fit = tt

abbrev pub Plans : Type 0
Plans = ℕ → List Progress

-- a door has these left
abbrev with_rest : ℕ → List Progress → Plans → Plans
with_rest door ps plans = λ k. if door == k then ps else plans k

grows_by : (b : State) (c : Call) → length b.published ≤ length (after b c).published
grows_by b c = omega (
  arith,
  ap length (one_published b c)
      ∙ length-append b.published (published_by c (reply_to b c)),
)

same_number : (a b : ℕ) → (a == b) ≡ true → a ≡ b
same_number a b is = grind (arith, nat_tests, is)

itself : (a : ℕ) → (a == a) ≡ true
itself a = eq-eqb a a refl

none_left : (door : ℕ) (w : World) (p : Progress)
    → without_starts (progress_events door w p) ≡ []
none_left door w none_runs = refl
none_left door w (taken_now a) = refl
none_left door w (goes_by r) =
    no_round (option_map_or (λ (m : Life). going_in door m.starts) w.now None)
  where
    no_round : (at : Option ℕ)
        → without_starts (events_at at (λ place. makes_round place r)) ≡ []
    no_round None = refl
    no_round (Some place) = refl
none_left door w ended_now =
    no_end (option_map_or (λ (m : Life). going_in door m.starts) w.now None)
  where
    no_end : (at : Option ℕ) → without_starts (events_at at ends_start) ≡ []
    no_end None = refl
    no_end (Some place) = refl

-- ---- plans, one door's head taken off

module _ (d : ℕ) (p : Progress) (ps : List Progress) (plans : Plans)
    (planned : plans d ≡ p ∷ ps) where
  rest_of_it : (k : ℕ) → (d == k) ≡ true → with_rest d ps plans k ≡ ps
  rest_of_it k is = ap (λ (c : Bool). if c then ps else plans k) is

  rest_of_other : (k : ℕ) → (d == k) ≡ false → with_rest d ps plans k ≡ plans k
  rest_of_other k is = ap (λ (c : Bool). if c then ps else plans k) is

  module _ (c : Call) (own : owner c ≡ Some d) where
    makes_more : (k : ℕ) (x : World × Turn) (later : List (World × Turn))
        → Makes d p x.0 x.1 → AllMake k (with_rest d ps plans k) later → (b : Bool)
        → (d == k) ≡ b
        → AllMake k (plans k) (cond (is_by k c) (x ∷ later) later)
    makes_more k x later one rest true is =
        let same : d ≡ k = same_number d k is in
        let by_it : is_by k c ≡ true = by_owner c d k own ∙ is in
        let there : AllMake k ps later =
        subst (λ (qs : List Progress). AllMake k qs later) (rest_of_it k is) rest in
        subst (λ (b : Bool). AllMake k (plans k) (cond b (x ∷ later) later)) (sym by_it)
        (subst (λ n. AllMake n (plans n) (x ∷ later)) same
        (subst (λ (qs : List Progress). AllMake d qs (x ∷ later)) (sym planned)
        (one, subst (λ n. AllMake n ps later) (sym same) there)))
    makes_more k x later one rest false is =
        let by_it : is_by k c ≡ false = by_owner c d k own ∙ is in
        subst (λ (b : Bool). AllMake k (plans k) (cond b (x ∷ later) later)) (sym by_it)
        (subst (λ (qs : List Progress). AllMake k qs later) (rest_of_other k is) rest)

    fits_less : (k : ℕ) (e : Answered) (later : List Answered)
        → AllFit k (cond (is_by k c) (e ∷ later) later) (plans k) → (b : Bool) → (d == k) ≡ b
        → AllFit k later (with_rest d ps plans k)
    fits_less k e later fit true is =
        let same : d ≡ k = same_number d k is in
        let by_it : is_by k c ≡ true = by_owner c d k own ∙ is in
        let all : AllFit k (e ∷ later) (plans k) =
        subst (λ (b : Bool). AllFit k (cond b (e ∷ later) later) (plans k)) by_it fit in
        let own_all : AllFit k (e ∷ later) (p ∷ ps) =
        subst (λ (qs : List Progress). AllFit k (e ∷ later) qs)
        (ap plans (sym same) ∙ planned) all in
        subst (λ (qs : List Progress). AllFit k later qs) (sym (rest_of_it k is)) own_all.1
    fits_less k e later fit false is =
        let by_it : is_by k c ≡ false = by_owner c d k own ∙ is in
        subst (λ (qs : List Progress). AllFit k later qs) (sym (rest_of_other k is))
        (subst (λ (b : Bool). AllFit k (cond b (e ∷ later) later) (plans k)) by_it fit)

    made_more : ProgressIsOfItsDoor → (n k : ℕ) (e : Answered) (later : List Answered)
        (ends all : List Start) → IsOf d p
        → ((xs : List Start)
        → progressed d (seen_by (front_of e.reply)) p xs ≡ progressed d n p xs)
        → filter (is_at k) ends
        ≡ made_of k later (with_rest d ps plans k) (filter (is_at k) (progressed d n p all))
        → (b : Bool) → (d == k) ≡ b
        → filter (is_at k) ends
        ≡ made_of k (cond (is_by k c) (e ∷ later) later) (plans k) (filter (is_at k) all)
    made_more law n k e later ends all of seen rest true is =
        let same : d ≡ k = same_number d k is in
        let by_it : is_by k c ≡ true = by_owner c d k own ∙ is in
        let goal : ℕ → Type 0 = λ m. filter (is_at m) ends
        ≡ made_of m (e ∷ later) (plans m) (filter (is_at m) all) in
        let there : filter (is_at d) ends
        ≡ made_of d later ps (filter (is_at d) (progressed d n p all)) =
        subst (λ m. filter (is_at m) ends
        ≡ made_of m later ps (filter (is_at m) (progressed d n p all))) (sym same)
        (rest ∙ ap (λ (qs : List Progress).
        made_of k later qs (filter (is_at k) (progressed d n p all))) (rest_of_it k is)) in
        let own_there : goal d =
        there
        ∙ (ap (made_of d later ps) (law.own d n p all of ∙ sym (seen (filter (is_at d) all)))
        ∙ ap (λ (qs : List Progress). made_of d (e ∷ later) qs (filter (is_at d) all))
        (sym planned)) in
        subst goal same own_there
        ∙ ap (λ (b : Bool). made_of k (cond b (e ∷ later) later) (plans k) (filter (is_at k) all))
        (sym by_it)
    made_more law n k e later ends all of seen rest false is =
        let by_it : is_by k c ≡ false = by_owner c d k own ∙ is in
        rest
        ∙ (ap (λ (qs : List Progress).
        made_of k later qs (filter (is_at k) (progressed d n p all))) (rest_of_other k is)
        ∙ (ap (made_of k later (plans k)) (law.others d k n p all of is)
        ∙ ap (λ (b : Bool). made_of k (cond b (e ∷ later) later) (plans k) (filter (is_at k) all))
        (sym by_it)))

module _ (number : ℕ) (law : ProgressIsOfItsDoor) where
  -- Turns with what doors make of STARTs behind theirs.
  pub record Filled (ts : List Turn) (plans : Plans) (u : World) (all : List Start) (b : State)
      : Type 0 where
    pub filled : List Turn
    pub answered : answered_in filled ≡ answered_in ts
    pub plain : without_starts (events_of filled) ≡ events_of ts
    pub come : StartsCome u (events_of filled)
    pub ends : List Start
    pub goes : GoesOn (after_events u (events_of filled)) ends (replay b (answered_in ts))
    pub makes : (door : ℕ) → AllMake door (plans door) (turns_by door (placed u filled))
    pub made : (door : ℕ)
        → filter (is_at door) ends
        ≡ made_of door (events_by door (answered_in ts)) (plans door) (filter (is_at door) all)

  abbrev Fill : List Turn → Type 0
  Fill ts =
      (plans : Plans) (u : World) (all : List Start) (b : State) → IsLegal b (answered_in ts)
      → AllByRecursion StandsBeside ts
      → AllByRecursion IsAlone (turns_with (is_others number) ts)
      → GoesOn u all b → Within (length b.published) all
      → ((door : ℕ) → AllFit door (events_by door (answered_in ts)) (plans door))
      → Filled ts plans u all b

  module _ (t : Turn) (ts : List Turn) (fill : Fill ts) (plans : Plans) (u : World)
      (all : List Start) (b : State) (legal : IsLegal b (answered_in (t ∷ ts)))
      (beside : AllByRecursion StandsBeside (t ∷ ts)) (g : GoesOn u all b)
      (saw : Within (length b.published) all) where
    abbrev e : Answered
    e = t.answered

    abbrev next : State
    next = after b e.call

    abbrev v : World
    v = called_in u t

    -- right behind the call
    called_goes : GoesOn v all next
    called_goes =
        subst (λ (w : World). GoesOn w all next)
        (sym (after_both u t.before (calls e.call ∷ [])))
        (call_goes (after_events u t.before) all b e.call
        (beside_all u all b t.before beside.0.0 g))

    saw_then : Within (length next.published) all
    saw_then = within_more (length b.published) (length next.published) all (grows_by b e.call) saw

    -- what stands up to the call
    abbrev front : List Event
    front = t.before ++ calls e.call ∷ []

    split : (behind : List Event) → t.before ++ calls e.call ∷ behind ≡ front ++ behind
    split behind = sym (append_assoc t.before (calls e.call ∷ []) behind)

    front_plain : without_starts front ≡ front
    front_plain =
        kept_both t.before (calls e.call ∷ [])
        ∙ ap (λ (xs : List Event). xs ++ calls e.call ∷ []) (all_kept t.before beside.0.0)

    front_comes : StartsCome u front
    front_comes =
        come_both u t.before (calls e.call ∷ []) (none_come u t.before beside.0.0)
        (one_comes (after_events u t.before) (calls e.call) refl, tt)

    -- with these events behind it
    module _ (behind : List Event) (come : StartsCome v behind)
        (plain : without_starts behind ≡ t.behind) where
      abbrev its : Turn
      its = record { before = t.before; answered = e; behind = behind }

      whole_comes : StartsCome u (events_of_turn its)
      whole_comes =
          subst (StartsCome u) (sym (split behind)) (come_both u front behind front_comes come)

      leads_on : after_events u (events_of_turn its) ≡ after_events v behind
      leads_on = ap (after_events u) (split behind) ∙ after_both u front behind

      plain_is : without_starts (events_of_turn its) ≡ events_of_turn t
      plain_is =
          ap without_starts (split behind)
          ∙ (kept_both front behind
          ∙ (ap (λ (xs : List Event). xs ++ without_starts behind) front_plain
          ∙ (ap (λ (xs : List Event). front ++ xs) plain ∙ sym (split t.behind))))

      -- and the turns behind that
      and_more : (plans_then : Plans) (all_then : List Start)
          → (rest : Filled ts plans_then (after_events u (events_of_turn its)) all_then next)
          → ((door : ℕ)
          → AllMake door (plans door) (turns_by door (placed u (its ∷ rest.filled))))
          → ((door : ℕ)
          → filter (is_at door) rest.ends
          ≡ made_of door (events_by door (answered_in (t ∷ ts))) (plans door)
          (filter (is_at door) all))
          → Filled (t ∷ ts) plans u all b
      and_more plans_then all_then rest makes made = record {
        filled = its ∷ rest.filled;
        answered = ap (λ (xs : List Answered). e ∷ xs) rest.answered;
        plain = kept_both (events_of_turn its) (events_of rest.filled)
            ∙ (ap (λ (xs : List Event). xs ++ without_starts (events_of rest.filled)) plain_is
            ∙ ap (λ (xs : List Event). events_of_turn t ++ xs) rest.plain);
        come = come_both u (events_of_turn its) (events_of rest.filled) whole_comes rest.come;
        ends = rest.ends;
        goes = subst (λ (x : World). GoesOn x rest.ends (replay next (answered_in ts)))
            (sym (after_both u (events_of_turn its) (events_of rest.filled))) rest.goes;
        makes = makes;
        made = made;
      }

    -- a turn of no door
    stays : owner e.call ≡ None
        → AllByRecursion IsAlone (turns_with (is_others number) ts)
        → ((door : ℕ) → AllFit door (events_by door (answered_in ts)) (plans door))
        → Filled (t ∷ ts) plans u all b
    stays nobody alone fit =
        let come : StartsCome v t.behind = none_come v t.behind beside.0.1 in
        let plain : without_starts t.behind ≡ t.behind = all_kept t.behind beside.0.1 in
        let w : World = after_events u (events_of_turn t) in
        let there : GoesOn w all next =
        subst (λ (x : World). GoesOn x all next) (sym (leads_on t.behind come plain))
        (beside_all v all next t.behind beside.0.1 called_goes) in
        let rest = fill plans w all next legal.1 beside.1 alone there saw_then fit in
        and_more t.behind come plain plans all rest
        (λ door.
        let later = turns_by door (placed w rest.filled) in
        subst (λ (c : Bool). AllMake door (plans door) (cond c ((v, t) ∷ later) later))
        (sym (by_nobody e.call door nobody)) (rest.makes door))
        (λ door.
        let later = events_by door (answered_in ts) in
        rest.made door
        ∙ ap (λ (c : Bool). made_of door (cond c (e ∷ later) later) (plans door)
        (filter (is_at door) all)) (sym (by_nobody e.call door nobody)))

    -- a door's turn, of which this is made
    makes_at : (d : ℕ) (p : Progress) (ps : List Progress) → owner e.call ≡ Some d
        → plans d ≡ p ∷ ps → IsAlone t
        → AllByRecursion IsAlone (turns_with (is_others number) ts)
        → FitsAt d (front_of e.reply) p → e ≡ event_at b e.call
        → ((door : ℕ)
        → AllFit door (events_by door (answered_in ts)) (with_rest d ps plans door))
        → Filled (t ∷ ts) plans u all b
    makes_at d p ps own planned single alone fits is fit =
        let n = length next.published in
        let reply : front_of e.reply ≡ front_of (reply_to b e.call) =
        ap (λ (x : Answered). front_of x.reply) is in
        let seen = seen_at b e.call d p own
        (subst (λ (x : Option ℕ). FitsAt d x p) reply fits) in
        let acted = acts d n v all next called_goes refl saw_then p seen.fit in
        let behind : List Event = progress_events d v p in
        let plain : without_starts behind ≡ t.behind = none_left d v p ∙ sym single.1 in
        let t' : Turn = its behind acted.come plain in
        let all' : List Start = progressed d n p all in
        let w : World = after_events u (events_of_turn t') in
        let there : GoesOn w all' next =
        subst (λ (x : World). GoesOn x all' next) (sym (leads_on behind acted.come plain))
        acted.goes in
        let rest = fill (with_rest d ps plans) w all' next legal.1 beside.1 alone there acted.within
        fit in
        and_more behind acted.come plain (with_rest d ps plans) all' rest
        (λ door.
        makes_more d p ps plans planned e.call own door (v, t')
        (turns_by door (placed w rest.filled)) (record { before = single.0; behind = refl })
        (rest.makes door) (d == door) refl)
        (λ door.
        made_more d p ps plans planned e.call own law n door e (events_by door (answered_in ts))
        rest.ends all (of_it d n p seen.fit)
        (λ xs. ap (λ (x : Option ℕ). progressed d (seen_by x) p xs) reply ∙ seen.same xs)
        (rest.made door) (d == door) refl)

    one_turn : AllByRecursion IsAlone (turns_with (is_others number) (t ∷ ts))
        → ((door : ℕ) → AllFit door (events_by door (answered_in (t ∷ ts))) (plans door))
        → Filled (t ∷ ts) plans u all b
    one_turn alone fit = by (owner e.call) refl
      where
        others : List Turn
        others = turns_with (is_others number) ts

        later : ℕ → List Answered
        later k = events_by k (answered_in ts)

        by_plan : (d : ℕ) → owner e.call ≡ Some d → (qs : List Progress) → plans d ≡ qs
            → AllFit d (e ∷ later d) qs → Filled (t ∷ ts) plans u all b
        by_plan d own [] planned fits = absurd fits
        by_plan d own (p ∷ ps) planned fits =
            let both = subst
            (λ (b : Bool). AllByRecursion IsAlone (cond b (t ∷ others) others))
            (ap not (neither number e.call d own)) alone in
            makes_at d p ps own planned both.0 both.1 fits.0 legal.0
            (λ k. fits_less d p ps plans planned e.call own k e (later k) (fit k) (d == k) refl)

        kept : (b : Bool) → AllByRecursion IsAlone (cond b (t ∷ others) others)
            → AllByRecursion IsAlone others
        kept true all = all.1
        kept false all = all

        by : (x : Option ℕ) → owner e.call ≡ x → Filled (t ∷ ts) plans u all b
        by None nobody =
            stays nobody (kept (is_others number e.call) alone)
            (λ k. subst (λ (b : Bool). AllFit k (cond b (e ∷ later k) (later k)) (plans k))
            (by_nobody e.call k nobody) (fit k))
        by (Some d) own =
            by_plan d own (plans d) refl
            (subst (λ (b : Bool). AllFit d (cond b (e ∷ later d) (later d)) (plans d))
            (by_owner e.call d d own ∙ itself d) (fit d))

  no_turn : Fill []
  no_turn plans u all b legal beside alone g saw fit = record {
    filled = [];
    answered = refl;
    plain = refl;
    come = tt;
    ends = all;
    goes = g;
    makes = λ door. none_make door (plans door) (fit door);
    made = λ door. refl;
  }
    where
      none_make : (door : ℕ) (ps : List Progress) → AllFit door [] ps → AllMake door ps []
      none_make door [] fits = tt
      none_make door (p ∷ ps) fits = absurd fits

  more_turns : (t : Turn) (ts : List Turn) → Fill ts → Fill (t ∷ ts)
  more_turns t ts rest plans u all b legal beside alone g saw fit =
      one_turn t ts rest plans u all b legal beside g saw alone fit

  pub fill : (ts : List Turn) → Fill ts
  fill [] = no_turn
  fill (t ∷ ts) = more_turns t ts (fill ts)
