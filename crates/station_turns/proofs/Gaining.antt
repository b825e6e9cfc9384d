-- What a pass gains, turn by turn.
use Rattle.std.proofs.Common.{◌≡◌, ℕ, ◌+◌, ◌<◌, List, [], ◌∷◌, ◌++◌, refl, ap, sym, subst, ◌∙◌}
use Rattle.std.proofs.Common.{append_assoc, append-nil, arith}
use mathlib.Core.List.{IsPrefix}
use Rattle.turn_lock.specs.PassState.{PassState, Lock}
use Rattle.turn_lock.specs.Own.{mark}
use Rattle.turn_lock.specs.declared.view.Mark.{Mark}
use Rattle.station_book.specs.State.{Opening, Event, Call}
use Rattle.station_turns.specs.Turned.{called, IsReady, Makes, Leaves}
use Rattle.station_turns.specs.Gained.{Gains}

through : {A : Type 0} (xs ys zs : List A) → IsPrefix xs ys → IsPrefix ys zs → IsPrefix xs zs
through xs ys zs p q =
    (p.0 ++ q.0, sym (append_assoc xs p.0 q.0) ∙ (ap (λ w. w ++ q.0) p.1 ∙ q.1))

pub gains_none : (lock : Lock Opening) (pass : PassState Event Opening) → IsReady lock pass
    → Gains lock 0 [] pass pass
gains_none lock pass ready = record {
  ready = ready;
  own = sym (append-nil pass.own);
  joined = refl;
  left = omega arith;
  entered = omega arith;
  later = ([], append-nil pass.seen);
  sound = λ x. x;
}

pub gains_one : (lock : Lock Opening) (call : Call) (p q : PassState Event Opening)
    → IsReady lock p → 0 < p.left → (makes : Makes lock call p q)
    → Gains lock 1 (mark makes.before (called lock.origin makes.before call) ∷ []) p q
gains_one lock call p q ready some makes =
    let left = ap (λ (x : PassState Event Opening). x.left) makes.pass in
    let entered = ap (λ (x : PassState Event Opening). x.entered) makes.pass in
    record {
      ready = (
        ap (λ (x : PassState Event Opening). x.lock) makes.pass ∙ ready.0,
        ap (λ (x : PassState Event Opening). x.standing) makes.pass ∙ ready.1,
      );
      own = ap (λ (x : PassState Event Opening). x.own) makes.pass;
      joined = ap (λ (x : PassState Event Opening). x.joined) makes.pass;
      left = omega (arith, left, some);
      entered = entered;
      later = subst (λ x. IsPrefix p.seen x)
          (sym (ap (λ (x : PassState Event Opening). x.seen) makes.pass))
          (through p.seen makes.before _ makes.later
          (called lock.origin makes.before call ∷ [], refl));
      sound = λ _. makes.sound;
    }

pub gains_left : (lock : Lock Opening) (p q : PassState Event Opening)
    → IsReady lock p → 0 < p.left → Leaves lock p q → Gains lock 1 [] p q
gains_left lock p q ready some leaves =
    let left = ap (λ (x : PassState Event Opening). x.left) leaves.pass in
    let entered = ap (λ (x : PassState Event Opening). x.entered) leaves.pass in
    record {
      ready = (
        ap (λ (x : PassState Event Opening). x.lock) leaves.pass ∙ ready.0,
        ap (λ (x : PassState Event Opening). x.standing) leaves.pass ∙ ready.1,
      );
      own = ap (λ (x : PassState Event Opening). x.own) leaves.pass ∙ sym (append-nil p.own);
      joined = ap (λ (x : PassState Event Opening). x.joined) leaves.pass;
      left = omega (arith, left, some);
      entered = entered;
      later = subst (λ x. IsPrefix p.seen x)
          (sym (ap (λ (x : PassState Event Opening). x.seen) leaves.pass)) leaves.later;
      sound = λ _. leaves.sound;
    }

pub gains_both : (lock : Lock Opening) (m n : ℕ) (xs ys : List (Mark Event))
    (p q r : PassState Event Opening) → Gains lock m xs p q → Gains lock n ys q r
    → Gains lock (m + n) (xs ++ ys) p r
gains_both lock m n xs ys p q r first second = record {
  ready = second.ready;
  own = second.own ∙ (ap (λ own. own ++ ys) first.own ∙ append_assoc p.own xs ys);
  joined = second.joined ∙ first.joined;
  left = omega (arith, first.left, second.left);
  entered = omega (arith, first.entered, second.entered);
  later = through p.seen q.seen r.seen first.later second.later;
  sound = λ x. second.sound (first.sound x);
}
