-- Whose a call is, and what a call that is nobody's is answered.
use Rattle.std.proofs.Common.{◌≡◌, ◌==◌, ℕ, Bool, true, false, ◌||◌, cond, if◌then◌else◌, List, []}
use Rattle.std.proofs.Common.{◌∷◌}
use Rattle.std.proofs.Common.{◌+◌, ◌++◌, filter, slice_get, zero, suc, Option, Some, None, refl}
use Rattle.std.proofs.Common.{sym, ap}
use Rattle.std.proofs.Common.{◌∙◌, arith, eq-eqb}
use Rattle.std.specs.List.{list_any}
use Rattle.turn_lock.specs.declared.view.Mark.{Mark}
use Rattle.turn_lock.specs.Own.{StandFrom}
use Rattle.station_book.specs.State.{State, Event, Call, publish, answer, quit, take, done}
use Rattle.station_book.specs.State.{interrupted, uplink, gone, accepted, foreign}
use Rattle.station_book.specs.History.{IsLegal, reply_to, event_at, then_after, may_publish}
use Rattle.station_book.specs.Doors.{is_by}
use Rattle.session_laws.specs.Losing.{loses}
use Rattle.run_laws.proofs.Among.{events}

-- a session's ask, and a publishing
abbrev pub is_answer : Call → Bool
is_answer (answer door reading ask want) = true
is_answer _ = false

abbrev pub is_publish : Call → Bool
is_publish (publish entries) = true
is_publish _ = false

-- the door that makes a call
abbrev pub owner : Call → Option ℕ
owner (answer door reading ask want) = Some door
owner (quit door) = Some door
owner _ = None

-- ---- events of one door

abbrev pub AreOf : ℕ → List Event → Type 0
AreOf door [] = Unit {0}
AreOf door (e ∷ es) = (owner e.call ≡ Some door) × AreOf door es

-- events of no door
abbrev pub AreFree : List Event → Type 0
AreFree [] = Unit {0}
AreFree (e ∷ es) = (owner e.call ≡ None) × AreFree es

pub of_both : (door : ℕ) (xs ys : List Event) → AreOf door xs → AreOf door ys
    → AreOf door (xs ++ ys)
of_both door [] ys first second = second
of_both door (x ∷ xs) ys first second = (first.0, of_both door xs ys first.1 second)

pub free_both : (xs ys : List Event) → AreFree xs → AreFree ys → AreFree (xs ++ ys)
free_both [] ys first second = second
free_both (x ∷ xs) ys first second = (first.0, free_both xs ys first.1 second)

by_owner : (c : Call) (door : ℕ) → owner c ≡ Some door → is_by door c ≡ true
by_owner (answer other reading ask want) door is = eq-eqb other door (cc is)
by_owner (quit other) door is = eq-eqb other door (cc is)
by_owner (publish entries) door is = absurd (cc is)
by_owner (take reading) door is = absurd (cc is)
by_owner (done run id reading) door is = absurd (cc is)
by_owner (interrupted run id reading) door is = absurd (cc is)
by_owner (uplink production status reading) door is = absurd (cc is)
by_owner (gone worker) door is = absurd (cc is)

same_number : (a b c : ℕ) → a ≡ b → (b == c) ≡ false → (a == c) ≡ false
same_number a b c is other = ap (λ (n : ℕ). n == c) is ∙ other

by_another : (c : Call) (door other : ℕ) → owner c ≡ Some door → (door == other) ≡ false
    → is_by other c ≡ false
by_another (answer at reading ask want) door other is apart =
    same_number at door other (cc is) apart
by_another (quit at) door other is apart = same_number at door other (cc is) apart
by_another (publish entries) door other is apart = refl
by_another (take reading) door other is apart = refl
by_another (done run id reading) door other is apart = refl
by_another (interrupted run id reading) door other is apart = refl
by_another (uplink production status reading) door other is apart = refl
by_another (gone worker) door other is apart = refl

by_nobody : (c : Call) (door : ℕ) → owner c ≡ None → is_by door c ≡ false
by_nobody (answer other reading ask want) door is = absurd (cc is)
by_nobody (quit other) door is = absurd (cc is)
by_nobody (publish entries) door is = refl
by_nobody (take reading) door is = refl
by_nobody (done run id reading) door is = refl
by_nobody (interrupted run id reading) door is = refl
by_nobody (uplink production status reading) door is = refl
by_nobody (gone worker) door is = refl

no_answer : (c : Call) → owner c ≡ None → is_answer c ≡ false
no_answer (answer other reading ask want) is = absurd (cc is)
no_answer (quit other) is = refl
no_answer (publish entries) is = refl
no_answer (take reading) is = refl
no_answer (done run id reading) is = refl
no_answer (interrupted run id reading) is = refl
no_answer (uplink production status reading) is = refl
no_answer (gone worker) is = refl

no_publish : (c : Call) (door : ℕ) → owner c ≡ Some door → is_publish c ≡ false
no_publish (answer other reading ask want) door is = refl
no_publish (quit other) door is = refl
no_publish (publish entries) door is = absurd (cc is)
no_publish (take reading) door is = refl
no_publish (done run id reading) door is = refl
no_publish (interrupted run id reading) door is = refl
no_publish (uplink production status reading) door is = refl
no_publish (gone worker) door is = refl

pub or_none : (b c : Bool) → b ≡ false → c ≡ false → (b || c) ≡ false
or_none b c e f = grind arith

-- a door's events are by it
pub all_by : (door : ℕ) (es : List Event) → AreOf door es
    → filter (λ e. is_by door e.call) es ≡ es
all_by door [] are = refl
all_by door (e ∷ es) are =
    let rest = filter (λ (x : Event). is_by door x.call) es in
    ap (λ (b : Bool). cond b (e ∷ rest) rest) (by_owner e.call door are.0)
    ∙ ap (λ (xs : List Event). e ∷ xs) (all_by door es are.1)

pub none_by_another : (door other : ℕ) (es : List Event) → (door == other) ≡ false
    → AreOf door es → list_any (λ e. is_by other e.call) es ≡ false
none_by_another door other [] apart are = refl
none_by_another door other (e ∷ es) apart are =
    or_none (is_by other e.call) _ (by_another e.call door other are.0 apart)
    (none_by_another door other es apart are.1)

pub none_by : (door : ℕ) (es : List Event) → AreFree es
    → list_any (λ e. is_by door e.call) es ≡ false
none_by door [] free = refl
none_by door (e ∷ es) free =
    or_none (is_by door e.call) _ (by_nobody e.call door free.0) (none_by door es free.1)

pub none_published : (door : ℕ) (es : List Event) → AreOf door es
    → list_any (λ e. is_publish e.call) es ≡ false
none_published door [] are = refl
none_published door (e ∷ es) are =
    or_none (is_publish e.call) _ (no_publish e.call door are.0) (none_published door es are.1)

pub none_asked : (es : List Event) → AreFree es → list_any (λ e. is_answer e.call) es ≡ false
none_asked [] free = refl
none_asked (e ∷ es) free =
    or_none (is_answer e.call) _ (no_answer e.call free.0) (none_asked es free.1)

-- a filter leaves nothing of what has none
pub filtered_none : (p : Event → Bool) (es : List Event) → list_any p es ≡ false
    → filter p es ≡ []
filtered_none p [] none = refl
filtered_none p (e ∷ es) none = by (p e) refl (filtered_none p es)
  where
    by : (b : Bool) → p e ≡ b → (list_any p es ≡ false → filter p es ≡ [])
        → filter p (e ∷ es) ≡ []
    by true is goes =
        absurd (cc (sym (ap (λ (b : Bool). b || list_any p es) is) ∙ none))
    by false is goes =
        ap (λ (b : Bool). cond b (e ∷ filter p es) (filter p es)) is
        ∙ goes (sym (ap (λ (b : Bool). b || list_any p es) is) ∙ none)

-- ---- what a book answers

-- an event that a book gives
pub record IsGiven (e : Event) : Type 0 where
  pub book : State
  pub event_is : e ≡ event_at book e.call

pub given_at : (s : State) (h : List Event) (k : ℕ) (e : Event) → IsLegal s h
    → slice_get h k ≡ Some e → IsGiven e
given_at s [] k e legal is = absurd (cc is)
given_at s (x ∷ h) zero e legal is =
    let same : x ≡ e = cc is in
    record {
      book = s;
      event_is = sym same ∙ (legal.0 ∙ ap (λ (y : Event). event_at s y.call) same);
    }
given_at s (x ∷ h) (suc k) e legal is = given_at (then_after s x) h k e legal.1 is

abbrev pub AreGiven : List Event → Type 0
AreGiven [] = Unit {0}
AreGiven (e ∷ es) = IsGiven e × AreGiven es

pub given_marks : (s : State) (h : List Event) (n : ℕ) (ms : List (Mark Event)) → IsLegal s h
    → StandFrom h n ms → AreGiven (events ms)
given_marks s h n [] legal stand = tt
given_marks s h n (m ∷ ms) legal stand =
    (given_at s h m.place m.event legal stand.1, given_marks s h (m.place + 1) ms legal stand.2)

pub given_first : (xs ys : List Event) → AreGiven (xs ++ ys) → AreGiven xs
given_first [] ys given = tt
given_first (x ∷ xs) ys given = (given.0, given_first xs ys given.1)

pub given_last : (xs ys : List Event) → AreGiven (xs ++ ys) → AreGiven ys
given_last [] ys given = given
given_last (x ∷ xs) ys given = given_last xs ys given.1

loses_none : (b : Bool) → loses (if b then accepted else foreign) ≡ false
loses_none true = refl
loses_none false = refl

keeps : (s : State) (c : Call) → is_answer c ≡ false → loses (reply_to s c) ≡ false
keeps s (publish entries) other = loses_none (may_publish s entries)
keeps s (answer door reading ask want) other = absurd (cc other)
keeps s (quit door) other = refl
keeps s (take reading) other = refl
keeps s (done run id reading) other = refl
keeps s (interrupted run id reading) other = refl
keeps s (uplink production status reading) other = refl
keeps s (gone worker) other = refl

-- who asks nothing loses nothing
pub kept : (e : Event) → IsGiven e → is_answer e.call ≡ false → loses e.reply ≡ false
kept e given other =
    ap (λ (x : Event). loses x.reply) given.event_is ∙ keeps given.book e.call other

pub all_kept : (es : List Event) → AreGiven es → list_any (λ e. is_answer e.call) es ≡ false
    → list_any (λ e. loses e.reply) es ≡ false
all_kept [] given none = refl
all_kept (e ∷ es) given none = by (is_answer e.call) refl (all_kept es given.1)
  where
    asked_rest : (b : Bool) → is_answer e.call ≡ b
        → (b || list_any (λ (x : Event). is_answer x.call) es) ≡ false
    asked_rest b is =
        sym (ap (λ (c : Bool). c || list_any (λ (x : Event). is_answer x.call) es) is) ∙ none

    by : (b : Bool) → is_answer e.call ≡ b
        → (list_any (λ e. is_answer e.call) es ≡ false → list_any (λ e. loses e.reply) es ≡ false)
        → list_any (λ e. loses e.reply) (e ∷ es) ≡ false
    by true is goes = absurd (cc (asked_rest true is))
    by false is goes =
        or_none (loses e.reply) _ (kept e given.0 is) (goes (asked_rest false is))
