-- What happened stays.
use Rattle.std.proofs.Common.{◌≡◌, ℕ, zero, suc, ◌≤◌, Bool, true, false, Option, Some, None, List, []}
use Rattle.std.proofs.Common.{◌∷◌, ◌++◌, length, take, refl, sym, ap, subst, ◌∙◌, append-nil}
use Rattle.std.proofs.Common.{arith, cond, option_map}
use Rattle.std.specs.List.{AllByRecursion}
use Rattle.std.specs.Option.{option_to_list}
use Rattle.std.proofs.lemmas.List.{take-append-le}
use Rattle.archive_terms.specs.Archive.{Entry}
use Rattle.archive_terms.specs.Delivery.{Terms, Delivery, started}
use Rattle.archive_terms.specs.Rounds.{Round, Outcome, outcome, outcomes, after_round, ends_run}
use Rattle.archive_terms.specs.Rounds.{FrontsRise, last_front}
use Rattle.station_book.specs.State.{Opening, Call}
use Rattle.station_world.specs.File.{Finding, with_batch, without_batch, refused, found_by}
use Rattle.station_world.specs.Life.{Start, Life, book, done_by, Asked, called, taken, change_at}
use Rattle.station_world.specs.Life.{with_round, with_end, changed, sent_with}
use Rattle.station_world.specs.World.{World, lives, Event, offers, begins_store, ends_store, reopens}
use Rattle.station_world.specs.World.{calls, starts, makes_round, ends_start, sends, reads}
use Rattle.station_world.specs.World.{loses_power, restarts, restarted, after_event, after_events}
use Rattle.station_world.specs.Comes.{Begins, Comes, AllCome}
use Rattle.station_world.specs.Stays.{Match, StartGoesOn, LifeGoesOn, WhatWasDoneStays}
use Rattle.station_world.specs.Laws.{Laws}
use Rattle.station_world.proofs.Lists.{all_of_it, joined, front_to_last}
use Rattle.station_world.proofs.Lives.{StartStands, call_begins}
use Rattle.station_world.proofs.Worlds.{WorldStands, goes, behind_both, one_stands}

-- ---- lists that match

match_more : {X : Type 0} (R : X → X → Type 0) → ((x : X) → R x x) → (xs more : List X)
    → Match R xs (xs ++ more)
match_more R same [] more = tt
match_more R same (x ∷ xs) more = (same x, match_more R same xs more)

match_same : {X : Type 0} (R : X → X → Type 0) → ((x : X) → R x x) → (xs : List X) → Match R xs xs
match_same R same [] = tt
match_same R same (x ∷ xs) = (same x, match_same R same xs)

match_then : {X : Type 0} (R S T : X → X → Type 0) → ((x y z : X) → R x y → S y z → T x z)
    → (xs ys zs : List X) → Match R xs ys → Match S ys zs → Match T xs zs
match_then R S T both [] ys zs first second = tt
match_then R S T both (x ∷ xs) [] zs first second = absurd first
match_then R S T both (x ∷ xs) (y ∷ ys) [] first second = absurd second
match_then R S T both (x ∷ xs) (y ∷ ys) (z ∷ zs) first second =
    (both x y z first.0 second.0, match_then R S T both xs ys zs first.1 second.1)

match_last : {X : Type 0} (R : X → X → Type 0) → ((x : X) → R x x) → (xs : List X) (x y : X)
    → R x y → Match R (xs ++ x ∷ []) (xs ++ y ∷ [])
match_last R same [] x y is = (is, tt)
match_last R same (z ∷ xs) x y is = (same z, match_last R same xs x y is)

-- ---- rounds

-- rounds whose fronts lie in an archive do the same as it grows
done_longer : (t : Terms) (a b : List Entry) (f : ℕ) (rounds : List Round) (d : Delivery)
    → FrontsRise f rounds → last_front f rounds ≤ length a
    → outcomes t (a ++ b) rounds d ≡ outcomes t a rounds d
done_longer t a b f [] d rise within = refl
done_longer t a b f (r ∷ rounds) d rise within =
    let here : r.front ≤ length a = omega (arith, front_to_last r.front rounds rise.1, within) in
    let same : take r.front (a ++ b) ≡ take r.front a = take-append-le r.front a b here in
    rw (same, done_longer t a b r.front rounds (after_round t a r d) rise.1 within) (refl {a = outcomes t a (r ∷ rounds) d})

-- a round more adds to what was done
done_more : (t : Terms) (a : List Entry) (rounds : List Round) (r : Round) (d : Delivery)
    → Begins (outcomes t a rounds d) (outcomes t a (rounds ++ r ∷ []) d)
done_more t a [] r d = (outcomes t a (r ∷ []) d, refl)
done_more t a (x ∷ rounds) r d =
    let rest = done_more t a rounds r (after_round t a x d) in
    by_end (ends_run t a x d) rest
  where
    by_end : (b : Bool)
        → Begins (outcomes t a rounds (after_round t a x d))
        (outcomes t a (rounds ++ r ∷ []) (after_round t a x d))
        → Begins (outcome t a x d ∷ cond b [] (outcomes t a rounds (after_round t a x d)))
        (outcome t a x d ∷ cond b [] (outcomes t a (rounds ++ r ∷ []) (after_round t a x d)))
    by_end true rest = ([], refl)
    by_end false rest = (rest.0, ap (λ (xs : List Outcome). outcome t a x d ∷ xs) rest.1)

-- ---- STARTs and lives

-- it is the same START, and did the same over what is published later
same_done : (l m : Life) (s : Start)
    → outcomes s.terms (book m).published s.rounds started ≡ done_by l s → StartGoesOn l m s s
same_done l m s is =
    record { door = refl; terms = refl; done = ([], is ∙ sym (append-nil (done_by l s))) }

same_start : (l m : Life) → (book m).published ≡ (book l).published → (s : Start)
    → StartGoesOn l m s s
same_start l m is s =
    same_done l m s (ap (λ (p : List Entry). outcomes s.terms p s.rounds started) is)

-- a life whose book is the same
goes_on : (l m : Life) → m.opening ≡ l.opening → m.history ≡ l.history
    → Match (StartGoesOn l m) l.starts m.starts → LifeGoesOn l m
goes_on l m opening history each = record {
  opening = opening;
  history = ([], history ∙ sym (append-nil l.history));
  each = each;
}

same_life : (l : Life) → LifeGoesOn l l
same_life l = goes_on l l refl refl (match_same (StartGoesOn l l) (same_start l l refl) l.starts)

start_then : (l m n : Life) (s t u : Start) → StartGoesOn l m s t → StartGoesOn m n t u
    → StartGoesOn l n s u
start_then l m n s t u first second = record {
  door = second.door ∙ first.door;
  terms = second.terms ∙ first.terms;
  done = joined (done_by l s) (done_by m t) (done_by n u) first.done second.done;
}

life_then : (l m n : Life) → LifeGoesOn l m → LifeGoesOn m n → LifeGoesOn l n
life_then l m n first second = record {
  opening = second.opening ∙ first.opening;
  history = joined l.history m.history n.history first.history second.history;
  each = match_then (StartGoesOn l m) (StartGoesOn m n) (StartGoesOn l n) (start_then l m n)
      l.starts m.starts n.starts first.each second.each;
}

longer_starts : (l m : Life) (more : List Entry) → (book m).published ≡ (book l).published ++ more
    → (all : List Start) → AllByRecursion (StartStands (book l).published) all
    → Match (StartGoesOn l m) all all
longer_starts l m more is [] stand = tt
longer_starts l m more is (s ∷ all) stand = (
  same_done l m s (ap (λ (p : List Entry). outcomes s.terms p s.rounds started) is
      ∙ done_longer s.terms (book l).published more 0 s.rounds started stand.0.rise
      stand.0.within),
  longer_starts l m more is all stand.1,
)

by_call : Laws → (call : Call) (l : Life)
    → AllByRecursion (StartStands (book l).published) l.starts → LifeGoesOn l (called call l)
by_call laws call l stand = record {
  opening = refl;
  history = (_, refl);
  each = longer_starts l (called call l) _ (call_begins laws call l) l.starts stand;
}

by_start : (a : Asked) (l : Life) → LifeGoesOn l (taken a l)
by_start a l =
    goes_on l (taken a l) refl refl
    (match_more (StartGoesOn l (taken a l)) (same_start l (taken a l) refl) l.starts _)

-- the START at a place changes
at_place : (place : ℕ) (f : Start → Start) (l : Life)
    → ((s : Start) → StartGoesOn l (changed place f l) s (f s)) → LifeGoesOn l (changed place f l)
at_place place f l changes = goes_on l m refl refl (at place l.starts)
  where
    m : Life
    m = changed place f l

    same : (s : Start) → StartGoesOn l m s s
    same = same_start l m refl

    at : (k : ℕ) (all : List Start) → Match (StartGoesOn l m) all (change_at k f all)
    at k [] = tt
    at zero (s ∷ all) = (changes s, match_same (StartGoesOn l m) same all)
    at (suc k) (s ∷ all) = (same s, at k all)

by_round : (place : ℕ) (r : Round) (l : Life) → LifeGoesOn l (changed place (with_round r) l)
by_round place r l = at_place place (with_round r) l (λ s. record {
  door = refl;
  terms = refl;
  done = done_more s.terms (book l).published s.rounds r started;
})

by_stop : (place : ℕ) (l : Life) → LifeGoesOn l (changed place with_end l)
by_stop place l = at_place place with_end l (λ s. record {
  door = refl;
  terms = refl;
  done = all_of_it (done_by l s);
})

by_send : (good : Bool) (l : Life) → LifeGoesOn l (sent_with good l)
by_send good l =
    goes_on l (sent_with good l) refl refl (match_same (StartGoesOn l (sent_with good l))
    (same_start l (sent_with good l) refl) l.starts)

-- ---- worlds

abbrev GoOn : World → World → Type 0
GoOn w next = Match LifeGoesOn (lives w) (lives next)

same_lives : (w : World) → GoOn w w
same_lives w = match_same LifeGoesOn same_life (lives w)

alters : (past : List Life) (o : Option Life) (alter : Life → Life)
    → ((l : Life) → o ≡ Some l → LifeGoesOn l (alter l))
    → Match LifeGoesOn (past ++ option_to_list o) (past ++ option_to_list (option_map alter o))
alters past None alter on = match_same LifeGoesOn same_life (past ++ [])
alters past (Some l) alter on = match_last LifeGoesOn same_life past l (alter l) (on l refl)

-- a new life is behind the others
one_more : (w : World) (l : Life) → w.now ≡ None → Match LifeGoesOn (lives w) (w.past ++ l ∷ [])
one_more w l none =
    subst (λ (xs : List Life). Match LifeGoesOn xs (w.past ++ l ∷ []))
    (sym (ap (λ (o : Option Life). w.past ++ option_to_list o) none ∙ append-nil w.past))
    (match_more LifeGoesOn same_life w.past (l ∷ []))

opened_again : (w : World) (o : Opening) (finding : Finding) → w.now ≡ None
    → GoOn w (restarted o w (found_by w.file finding))
opened_again w o refused none = same_lives w
opened_again w o with_batch none = one_more w _ none
opened_again w o without_batch none = one_more w _ none

one_goes : Laws → (w : World) (e : Event) → Comes w e → WorldStands w
    → GoOn w (after_event w e)
one_goes laws w (offers entry) may old = same_lives w
one_goes laws w begins_store may old = same_lives w
one_goes laws w (ends_store good) may old = same_lives w
one_goes laws w (reopens finding) may old = same_lives w
one_goes laws w (calls call) may old =
    alters w.past w.now (called call)
    (λ l is. by_call laws call l (one_stands w l is old).starts)
one_goes laws w (starts a) may old = alters w.past w.now (taken a) (λ l is. by_start a l)
one_goes laws w (makes_round place r) may old =
    alters w.past w.now (changed place (with_round r)) (λ l is. by_round place r l)
one_goes laws w (ends_start place) may old =
    alters w.past w.now (changed place with_end) (λ l is. by_stop place l)
one_goes laws w (sends good) may old =
    alters w.past w.now (sent_with good) (λ l is. by_send good l)
one_goes laws w (reads moment) may old = same_lives w
one_goes laws w loses_power may old =
    subst (λ (xs : List Life). Match LifeGoesOn (lives w) xs) (sym (append-nil (lives w)))
    (same_lives w)
one_goes laws w (restarts o finding) may old = opened_again w o finding may

go_on : Laws → (w : World) (events : List Event) → AllCome w events
    → WorldStands w → GoOn w (after_events w events)
go_on laws w [] come old = same_lives w
go_on laws w (e ∷ events) come old =
    match_then LifeGoesOn LifeGoesOn LifeGoesOn life_then (lives w) (lives (after_event w e))
    (lives (after_events (after_event w e) events)) (one_goes laws w e come.0 old)
    (go_on laws (after_event w e) events come.1 (goes laws w e come.0 old).stands)

pub stays : Laws → WhatWasDoneStays
stays laws events more come =
    behind_both laws GoOn events more come (λ w old later. go_on laws w more later old)
