-- The book's events and a START of the desk as events of a world.
use Rattle.std.proofs.Common.{◌≡◌, ℕ, zero, suc, ◌≤◌, not, IsTrue}
use Rattle.std.proofs.Common.{Option, Some, List, [], ◌∷◌, ◌++◌, length, map, take, replicate}
use Rattle.std.proofs.Common.{slice_get, refl, sym, ap, subst, ◌∙◌, append_assoc, append-nil, arith}
use Rattle.std.proofs.lemmas.Bool.{and_parts}
use Rattle.std.proofs.lemmas.List.{take_all}
use Rattle.std.proofs.lemmas.List.Sums.{fold-append}
use Rattle.archive_terms.specs.Archive.{Entry}
use Rattle.archive_terms.specs.Selection.{picked, is_stop_closed}
use Rattle.archive_terms.specs.Delivery.{Item, offline_buffers}
use Rattle.archive_terms.specs.Rounds.{Round, free_round, last_front}
use Rattle.station_book.specs.State.{State, opened, Call, publish, answer, quit}
use Rattle.station_book.specs.State.{take as takes, done, interrupted, uplink, gone}
use Rattle.station_book.specs.State.{Event as Answered}
use Rattle.station_book.specs.History.{event_at, IsLegal, then_after}
use Rattle.station_world.specs.File.{File}
use Rattle.station_world.specs.Life.{Start, Life, book, Asked, asked_terms, called, begun}
use Rattle.station_world.specs.Life.{with_start, change_at, with_round, with_end}
use Rattle.station_world.specs.World.{World, after_events}
use Rattle.station_world.specs.Comes.{MayCall, AllCome}
use Rattle.station_world.specs.Calls.{with_now, Leads, is_publishing, publishes_nothing, call_events}
use Rattle.station_world.specs.Calls.{all_called, CallsAreEvents, desk_rounds, desk_events}
use Rattle.station_world.specs.Calls.{desk_start, DeskIsEvents}
use Rattle.station_world.specs.Laws.{Laws}
use Rattle.station_world.proofs.Lists.{last_is}

-- what holds where this life goes on holds in each world whose life it is
going_on : (P : World → Type 0) (w : World) (l : Life) → w.now ≡ Some l → P (with_now w l) → P w
going_on P w l is holds =
    subst (λ (o : Option Life). P (record w { now = o })) (sym is) holds

-- ---- events of the book

may_call : (call : Call) (f : File) (l : Life) → IsTrue (not (is_publishing call))
    → MayCall f l call
may_call (publish entries) f l none = absurd cc
may_call (answer door reading ask want) f l none = tt
may_call (quit door) f l none = tt
may_call (takes reading) f l none = tt
may_call (done run id reading) f l none = tt
may_call (interrupted run id reading) f l none = tt
may_call (uplink production status reading) f l none = tt
may_call (gone worker) f l none = tt

calls_lead : (w : World) (l : Life) (h : List Answered)
    → IsTrue (publishes_nothing h)
    → Leads (with_now w l) (call_events h) (with_now w (all_called h l))
calls_lead w l [] none = (tt, refl)
calls_lead w l (e ∷ h) none =
    let parts = and_parts (not (is_publishing e.call)) (publishes_nothing h) none in
    let rest = calls_lead w (called e.call l) h parts.1 in
    ((may_call e.call w.file l parts.0, rest.0), rest.1)

called_history : (l : Life) (h : List Answered) → IsLegal (book l) h
    → (all_called h l).history ≡ l.history ++ h
called_history l [] legal = sym (append-nil l.history)
called_history l (e ∷ h) legal =
    let is : event_at (book l) e.call ≡ e = sym legal.0 in
    let next : book (called e.call l) ≡ then_after (book l) e =
    fold-append then_after (opened l.opening) l.history (event_at (book l) e.call ∷ []) in
    called_history (called e.call l) h
    (subst (λ (s : State). IsLegal s h) (sym next) legal.1)
    ∙ ap (λ (x : Answered). (l.history ++ x ∷ []) ++ h) is ∙ append_assoc l.history (e ∷ []) h

called_starts : (l : Life) (h : List Answered) → (all_called h l).starts ≡ l.starts
called_starts l [] = refl
called_starts l (e ∷ h) = called_starts (called e.call l) h

pub calls_are_events : CallsAreEvents
calls_are_events = record {
  leads = λ w l h is none.
      going_on (λ v. Leads v (call_events h) (with_now w (all_called h l))) w l is
      (calls_lead w l h none);
  history = called_history;
  starts = called_starts;
}

-- ---- a START of the desk

-- the last of the STARTs
change_last : (f : Start → Start) (xs : List Start) (s : Start)
    → change_at (length xs) f (xs ++ s ∷ []) ≡ xs ++ f s ∷ []
change_last f [] s = refl
change_last f (x ∷ xs) s = ap (λ (ys : List Start). x ∷ ys) (change_last f xs s)

get_last : (xs : List Start) (s : Start) → slice_get (xs ++ s ∷ []) (length xs) ≡ Some s
get_last [] s = refl
get_last (x ∷ xs) s = get_last xs s

abbrev rounds_of : Asked → ℕ → List Round → Start
rounds_of a front rounds = record (begun a front) { rounds = rounds }

module _ (w : World) (l : Life) (a : Asked) (now : ℕ) where
  abbrev front : ℕ
  front = length (book l).published

  abbrev at : List Start → World
  at all = with_now w (record l { starts = all })

  -- so many further rounds, and the end
  rounds_lead : (n : ℕ) (rounds : List Round) → last_front 0 rounds ≤ front
      → Leads (at (l.starts ++ rounds_of a front rounds ∷ []))
      (desk_rounds (length l.starts) front now n)
      (at (l.starts
      ++ with_end (rounds_of a front (rounds ++ map (free_round front) (replicate n now))) ∷ []))
  rounds_lead zero rounds rises = (
    (tt, tt),
    ap at (change_last with_end l.starts (rounds_of a front rounds)
        ∙ ap (λ (rs : List Round). l.starts ++ with_end (rounds_of a front rs) ∷ [])
        (sym (append-nil rounds))),
  )
  rounds_lead (suc n) rounds rises =
      let r : Round = free_round front now in
      let next : change_at (length l.starts) (with_round r) (l.starts ++ rounds_of a front rounds ∷ [])
      ≡ l.starts ++ rounds_of a front (rounds ++ r ∷ []) ∷ [] =
      change_last (with_round r) l.starts (rounds_of a front rounds) in
      let rest = rounds_lead n (rounds ++ r ∷ [])
      (subst (λ k. k ≤ front) (sym (last_is 0 rounds r)) (omega arith)) in (
        (
          record {
            start = rounds_of a front rounds;
            there = get_last l.starts (rounds_of a front rounds);
            goes_on = refl;
            rises = rises;
            published = omega arith;
          },
          subst (λ (all : List Start). AllCome (at all) (desk_rounds (length l.starts) front now n))
              (sym next) rest.0,
        ),
        ap (λ (all : List Start). after_events (at all) (desk_rounds (length l.starts) front now n))
            next
            ∙ rest.1
            ∙ ap (λ (rs : List Round). at (l.starts ++ with_end (rounds_of a front rs) ∷ []))
            (append_assoc rounds (r ∷ []) (map (free_round front) (replicate n now))),
      )

length_of : (n now : ℕ) → length (replicate n now) ≡ n
length_of zero now = refl
length_of (suc n) now = let rest = length_of n now in omega (arith, rest)

pub desk : Laws → DeskIsEvents
desk laws = record {
  leads = λ w l a now n is some.
      let front = length (book l).published in
      going_on (λ v. Leads v (desk_events a (length l.starts) front now n)
      (with_now w (with_start l (desk_start a front now n)))) w l is
      (let rest = rounds_lead w l a now n [] (omega arith) in ((some, rest.0), rest.1));
  hands_over = λ l a now n some mode.
      let p : List Entry = (book l).published in
      let t = asked_terms a (length p) in
      let all : List Entry → List (List Item) = λ xs. offline_buffers a.size
      (picked xs t.selection) (is_stop_closed t.selection xs) in
      laws.offline_rounds t p (length p) (replicate n now) some mode
      ∙ ap (λ k. take k (all (take (length p) p))) (length_of n now)
      ∙ ap (λ (xs : List Entry). take n (all xs)) (take_all (length p) p (omega arith));
}
