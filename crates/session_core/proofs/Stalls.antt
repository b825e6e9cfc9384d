-- A link's stalls in a round, and in many.
use Rattle.std.proofs.Common.{◌≡◌, ℕ, ◌+◌, ◌≤◌, ◌<◌, Bool, true, false, not, ◌&&◌, ◌||◌, arith}
use Rattle.std.proofs.Common.{refl, subst, sym, ap, ◌∙◌, Option, List}
use Rattle.std.proofs.Math.Nat.{min-le_left}
use Rattle.octet_core.specs.Fault.{last_count}
use Rattle.link_model.specs.declared.call.Call.{Call}
use Rattle.link_model.specs.Counts.{CountsWhere}
use Rattle.session_core.specs.declared.course.Course.{Course}
use Rattle.session_core.specs.Course.{is_going, is_live}
use Rattle.session_core.specs.Course as course
use Rattle.session_core.specs.Steps.{course_at_end, round_ended, has_block}
use Rattle.session_core.specs.SessionState.{SessionState, IsSpoken, IsSent}
use Rattle.session_core.specs.Outcome.{StallsAtMost, has_waiting, has_kept, has_dropped, is_left}
use Rattle.session_core.specs.Outcome.{is_blocked, is_spent, has_failed, Uncalled, Rests, FailsBy}
use Rattle.session_core.specs.Session.{spoken_of, is_fault}
use Rattle.session_core.proofs.Staying.{stays_stalled, stalled_block}

-- ---- two calls, of which one counts at most

then_none : (l m n : ℕ) (x : Bool) → CountsWhere x l m → CountsWhere false m n → CountsWhere x l n
then_none l m n x h k = grind arith

none_then : (l m n : ℕ) (x : Bool) → CountsWhere false l m → CountsWhere x m n → CountsWhere x l n
none_then l m n x h k = grind arith

-- a listen after which the session is blocked or not, and the speak behind it
behind_listen : (x left : Bool) (l m n : ℕ) → CountsWhere x l m → CountsWhere (not x && left) m n
    → CountsWhere (x || left) l n
behind_listen true left l m n h k = then_none l m n true h k
behind_listen false left l m n h k = none_then l m n left h k

pub round_stalls : (x y z left : Bool) (l m n : ℕ) → CountsWhere x l m → y ≡ x → z ≡ y
    → CountsWhere (not y && left) m n → CountsWhere (z || left) l n
round_stalls x y z left l m n h e f k =
    subst (λ (b : Bool). CountsWhere (b || left) l n) (sym (f ∙ e))
    (behind_listen x left l m n h
    (subst (λ (b : Bool). CountsWhere (not b && left) m n) e k))

-- the block's offer where the round is blocked or not, and the message's behind it
behind_block : (waits blocked left : Bool) (l m n : ℕ) → CountsWhere (waits && not blocked) l m
    → CountsWhere (not blocked && (not waits && left)) m n
    → CountsWhere (not blocked && (waits || left)) l n
behind_block true true left l m n h k = then_none l m n false h k
behind_block true false left l m n h k = then_none l m n true h k
behind_block false true left l m n h k = then_none l m n false h k
behind_block false false left l m n h k = none_then l m n left h k

-- ---- what the message's offer and the end of the round leave

ends_waiting : (c : Course) (waits : Bool) → (is_live (course_at_end c waits) && waits)
    ≡ (is_live c && waits)
ends_waiting c waits = grind arith

ends_going : (c : Course) (waits : Bool) → is_going (course_at_end c waits) ≡ is_going c
ends_going c waits = grind arith

sent_waits : (a b : Option (List Call)) (between mid new : SessionState) → IsSent a b between mid
    → new ≡ record mid { standing = round_ended mid.standing }
    → has_waiting new ≡ has_waiting between
sent_waits a b between mid new p is = grind (arith, ends_waiting, stays_stalled, stalled_block)

sent_leaves : (mid new : SessionState) → new ≡ record mid { standing = round_ended mid.standing }
    → (has_kept new || has_dropped new) ≡ (has_kept mid || has_dropped mid)
sent_leaves mid new is = grind (arith, ends_going)

spoken_blocks : (a b : Option (List Call)) (old between : SessionState) → IsSpoken a b old between
    → is_blocked between ≡ is_blocked old
spoken_blocks a b old between w = grind arith

left_same : (p q r s : Bool) → p ≡ q → r ≡ s → (p || r) ≡ (q || s)
left_same p q r s e f = grind arith

pub speak_stalls : (a b c : Option (List Call)) (old between mid new : SessionState) (l m n : ℕ)
    → IsSpoken a b old between → IsSent b c between mid
    → new ≡ record mid { standing = round_ended mid.standing }
    → CountsWhere (has_waiting between && not (is_blocked old)) l m
    → CountsWhere (not (is_blocked between)
    && (not (has_waiting between) && (has_kept mid || has_dropped mid))) m n
    → CountsWhere (not (is_blocked old) && is_left new) l n
speak_stalls a b c old between mid new l m n w p is h k =
    subst (λ (left : Bool). CountsWhere (not (is_blocked old) && left) l n)
    (sym (left_same _ _ _ _ (sent_waits b c between mid new p is) (sent_leaves mid new is)))
    (behind_block (has_waiting between) (is_blocked old) (has_kept mid || has_dropped mid) l m n h
    (subst (λ (blocked : Bool). CountsWhere (not blocked
    && (not (has_waiting between) && (has_kept mid || has_dropped mid))) m n)
    (spoken_blocks a b old between w) k))

-- what listen came to stays over a speak
pub spoken_blocked : (a b c : Option (List Call)) (old between mid new : SessionState)
    → IsSpoken a b old between → IsSent b c between mid
    → new ≡ record mid { standing = round_ended mid.standing }
    → is_blocked new ≡ is_blocked old
spoken_blocked a b c old between mid new w p is = grind (arith, stays_stalled)

-- ---- many rounds

counted_once : (b : Bool) (m n : ℕ) → CountsWhere b m n → n ≤ m + 1
counted_once b m n h = grind (arith, min-le_left (m + 1) last_count)

pub stalls_on : (rounds k m n : ℕ) (stalled : Bool) → StallsAtMost rounds k m
    → CountsWhere stalled m n → StallsAtMost (rounds + 1) k n
stalls_on rounds k m n stalled h once = grind (arith, counted_once stalled m n once)

-- rounds so far, and a listen of one more
pub stalls_heard : (rounds all k m n : ℕ) (stalled : Bool) → rounds < all → StallsAtMost rounds k m
    → CountsWhere stalled m n → StallsAtMost all k n
stalls_heard rounds all k m n stalled more h once =
    grind (arith, counted_once stalled m n once)

-- ---- a spent session

spent_still : (c : Course) → course.is_spent c ≡ true → is_live c ≡ false
spent_still c h = grind arith

spent_faultless : (c : Course) → course.is_spent c ≡ true → is_fault (spoken_of c) ≡ false
spent_faultless c h = grind arith

-- a listen of it doesn't touch the link
pub spent_uncalled : (a b : Option (List Call)) (k m l n : ℕ) (old new : SessionState)
    → Rests a b old new → FailsBy (has_failed old) (has_failed new) k m
    → CountsWhere (is_blocked new) l n → has_waiting new ≡ is_blocked new → is_spent old ≡ true
    → Uncalled a b k m l n
spent_uncalled a b k m l n old new r f s w spent =
    let spent_now : is_spent new ≡ true = r.spent ∙ spent in
    let no_block : is_blocked new ≡ false =
    sym w ∙ ap (λ (x : Bool). x && has_block new.standing)
    (spent_still new.standing.course spent_now) in
    let no_fault : (not (has_failed old) && has_failed new) ≡ false = grind (
      arith,
      spent_faultless new.standing.course spent_now,
    ) in
    record {
      silent = r.silent (ap not (spent_still old.standing.course spent));
      no_fault = f.counts.kept no_fault;
      no_stall = s.kept no_block;
    }
