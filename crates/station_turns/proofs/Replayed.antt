-- Own events are those that the events before them give.
use Rattle.std.proofs.Common.{◌≡◌, ℕ, zero, suc, ◌+◌, ◌≤◌, List, [], ◌∷◌, Some, slice_get, take, refl, ap, sym}
use Rattle.std.proofs.Common.{subst, ◌∙◌, arith}
use Rattle.turn_lock.specs.PassState.{PassState, Lock}
use Rattle.turn_lock.specs.Own.{StandFrom}
use Rattle.turn_lock.specs.declared.view.Mark.{Mark}
use Rattle.station_book.specs.State.{Opening, State, opened, Event}
use Rattle.station_book.specs.History.{event_at, replay, then_after, IsLegal}
use Rattle.station_turns.specs.Turned.{called, IsSound}

-- each event of a legal list is the one that the replay of those before it gives
legal_at : (s : State) (h : List Event) (k : ℕ) (e : Event) → IsLegal s h
    → slice_get h k ≡ Some e → e ≡ event_at (replay s (take k h)) e.call
legal_at s [] k e legal is = grind arith
legal_at s (x ∷ h) zero e legal is =
    let same : x ≡ e = grind (arith, is) in
    subst (λ y. y ≡ event_at s y.call) same legal.0
legal_at s (x ∷ h) (suc k) e legal is =
    legal_at (then_after s x) h k e legal.1 (grind (arith, is))

-- each event of a list that stands in a history stands there at its place
stands_at : (h : List Event) (n : ℕ) (ms : List (Mark Event)) (i : ℕ) (m : Mark Event)
    → StandFrom h n ms → slice_get ms i ≡ Some m → slice_get h m.place ≡ Some m.event
stands_at h n [] i m stand is = grind arith
stands_at h n (x ∷ ms) zero m stand is =
    let same : x ≡ m = grind (arith, is) in
    subst (λ (y : Mark Event). slice_get h y.place ≡ Some y.event) same stand.1
stands_at h n (x ∷ ms) (suc i) m stand is =
    stands_at h (x.place + 1) ms i m stand.2 (grind (arith, is))

pub own_is_replayed : (lock : Lock Opening) (pass : PassState Event Opening) (i : ℕ)
    (m : Mark Event) → IsSound lock pass → slice_get pass.own i ≡ Some m
    → m.event ≡ called lock.origin (take m.place pass.seen) m.event.call
own_is_replayed lock pass i m sound is =
    legal_at (opened lock.origin) pass.seen m.place m.event sound.legal
    (stands_at pass.seen 0 pass.own i m sound.stand.0 is)
