-- A door has one instance at most, and a run is started only where a door has the forward
-- service's.
use Rattle.std.proofs.Common.{◌≡◌, ℕ, ◌+◌, ◌<◌, zero, suc, Bool, true, false, not, ◌||◌}
use Rattle.std.proofs.Common.{nat_lt, if◌then◌else◌, cond, Option, Some, None, is_some, List, []}
use Rattle.std.proofs.Common.{◌∷◌, ◌++◌, length, slice_get, slice_set, replicate, refl, ap}
use Rattle.std.proofs.Common.{sym, subst, ◌∙◌, arith, ◌⊎◌, inl, inr}
use Rattle.std.specs.List.{position, position_or_len}
use Rattle.std.specs.Option.{option_map_or}
use Rattle.std.proofs.lemmas.Bool.Decides.{nat_tests}
use Rattle.cltu_queue.specs.declared.ask.Ask.{Ask}
use Rattle.cltu_queue.specs.declared.ask.Ask.TheVariants as ask
use Rattle.station_book.specs.State.{State, Opening, opened, Event, Call, publish, answer, quit}
use Rattle.station_book.specs.State.{take, done, interrupted, uplink, gone}
use Rattle.station_book.specs.History.{is_of, instance_of, is_taken, freed, is_lost, doors_asked}
use Rattle.station_book.specs.History.{with_ask, may_publish, moment_at, after, then_after}
use Rattle.station_book.specs.History.{replay}
use Rattle.station_book.specs.Doors.{Has}

-- no door stands at two places
abbrev pub Once : List (Option ℕ) → Type 0
Once doors = (door i j : ℕ) → slice_get doors i ≡ Some (Some door)
    → slice_get doors j ≡ Some (Some door) → i ≡ j

set_tells : {X : Type 0} (xs : List X) (k : ℕ) (w : X) (i : ℕ) (x : X)
    → slice_get (slice_set xs k w) i ≡ Some x
    → ((i ≡ k) × (x ≡ w)) ⊎ (slice_get xs i ≡ Some x)
set_tells [] k w i x e = absurd (cc e)
set_tells (y ∷ xs) zero w zero x e = inl (refl, cc e)
set_tells (y ∷ xs) zero w (suc i) x e = inr e
set_tells (y ∷ xs) (suc k) w zero x e = inr e
set_tells (y ∷ xs) (suc k) w (suc i) x e =
    elim (set_tells xs k w i x e) [ inl at ↦ inl (ap suc at.0, at.1) | inr old ↦ inr old ]

-- a door that stands nowhere may be put at one place
set_once : (doors : List (Option ℕ)) (k other : ℕ) → Once doors
    → ((i : ℕ) → slice_get doors i ≡ Some (Some other) → ⊥) → Once (slice_set doors k (Some other))
set_once doors k other once nowhere door i j a b =
    elim (set_tells doors k (Some other) i (Some door) a) [
      | inl at ↦ elim (set_tells doors k (Some other) j (Some door) b) [
        | inl to ↦ at.0 ∙ sym to.0
        | inr old ↦ absurd (nowhere j (old ∙ ap (λ h. Some h) at.1))
      ]
      | inr old ↦ elim (set_tells doors k (Some other) j (Some door) b) [
        | inl to ↦ absurd (nowhere i (old ∙ ap (λ h. Some h) to.1))
        | inr was ↦ once door i j old was
      ]
    ]

clear_once : (doors : List (Option ℕ)) (k : ℕ) → Once doors → Once (slice_set doors k None)
clear_once doors k once door i j a b =
    elim (set_tells doors k None i (Some door) a) [
      | inl at ↦ absurd (cc (at.1))
      | inr old ↦ elim (set_tells doors k None j (Some door) b) [
        | inl to ↦ absurd (cc (to.1))
        | inr was ↦ once door i j old was
      ]
    ]

-- a door that has no instance stands nowhere
found_below : (p : Option ℕ → Bool) (xs : List (Option ℕ)) (i : ℕ) (x : Option ℕ)
    → slice_get xs i ≡ Some x → p x ≡ true → position_or_len p xs < length xs
found_below p [] i x e t = absurd (cc e)
found_below p (y ∷ xs) zero x e t =
    let same : p y ≡ true = ap p (cc e) ∙ t in
    subst (λ b. cond (not b) (1 + position_or_len p xs) 0 < length (y ∷ xs)) (sym same)
    (omega arith)
found_below p (y ∷ xs) (suc i) x e t =
    let more = found_below p xs i x e t in
    elim (p y) as (λ b. cond (not b) (1 + position_or_len p xs) 0 < length (y ∷ xs))
    [ true ↦ omega arith | false ↦ omega (arith, more) ]

is_of_self : (door : ℕ) → is_of door (Some door) ≡ true
is_of_self door = grind (arith, nat_tests)

stands_nowhere : (doors : List (Option ℕ)) (door : ℕ) → position (is_of door) doors ≡ None → (i : ℕ)
    → slice_get doors i ≡ Some (Some door) → ⊥
stands_nowhere doors door none i e =
    let below = found_below (is_of door) doors i (Some door) e (is_of_self door) in
    let test : nat_lt (position_or_len (is_of door) doors) (length doors) ≡ true =
    grind (arith, nat_tests) in
    let some : position (is_of door) doors ≡ Some (position_or_len (is_of door) doors) =
    ap (λ b. cond b (Some (position_or_len (is_of door) doors)) None) test in
    cc (some, none)

none_of : {X : Type 0} (o : Option X) → is_some o ≡ false → o ≡ None
none_of None e = refl
none_of (Some x) e = absurd (cc e)

or_left : (a b : Bool) → (a || b) ≡ false → a ≡ false
or_left true b e = absurd (cc e)
or_left false b e = refl

freed_once : (s : State) (door : ℕ) → Once s.doors → Once (freed s door)
freed_once s door once = at_place (instance_of s door)
  where
    at_place : (o : Option ℕ) → Once (option_map_or (λ place. slice_set s.doors place None) o
        s.doors)
    at_place None = once
    at_place (Some i) = clear_once s.doors i once

ask_once : (s : State) (door : ℕ) (a : Ask) → is_lost s door a ≡ false → Once s.doors
    → Once (doors_asked s door a)
ask_once s door ask.Nothing e once = once
ask_once s door ask.Quiet e once = once
ask_once s door (ask.Bind i) e once =
    let nowhere = stands_nowhere s.doors door (none_of (instance_of s door) (or_left _ _ e)) in
    elim (is_taken (slice_get s.doors i)) as (λ b.
    Once (if b then s.doors else slice_set s.doors i (Some door)))
    [ true ↦ once | false ↦ set_once s.doors i door once nowhere ]
ask_once s door ask.Unbind e once = freed_once s door once
ask_once s door (ask.CltuStart first) e once = once
ask_once s door (ask.CltuTransfer cltu) e once = once
ask_once s door ask.CltuStop e once = once

asked_once : (s : State) (door now : ℕ) (a : Ask) (lost : Bool) → is_lost s door a ≡ lost
    → Once s.doors → Once (if lost then s else with_ask s door now a).doors
asked_once s door now a true e once = once
asked_once s door now a false e once = ask_once s door a e once

call_once : (s : State) (call : Call) → Once s.doors → Once (after s call).doors
call_once s (publish entries) once =
    elim (may_publish s entries) as (λ b. Once
    (if b then record s { published = s.published ++ entries } else s).doors)
    [ true ↦ once | false ↦ once ]
call_once s (answer door reading a want) once =
    asked_once s door (moment_at s reading) a (is_lost s door a) refl once
call_once s (quit door) once = freed_once s door once
call_once s (take reading) once = once
call_once s (done run id reading) once = once
call_once s (interrupted run id reading) once = once
call_once s (uplink production status reading) once = once
call_once s (gone worker) once = once

replay_once : (s : State) (h : List Event) → Once s.doors → Once (replay s h).doors
replay_once s [] once = once
replay_once s (e ∷ h) once = replay_once (then_after s e) h (call_once s e.call once)

free_once : (n : ℕ) → Once (replicate n None)
free_once n door i j a b = absurd (nobody n i a)
  where
    nobody : (n i : ℕ) → slice_get (replicate n None) i ≡ Some (Some door) → ⊥
    nobody zero i e = cc e
    nobody (suc n) zero e = cc e
    nobody (suc n) (suc i) e = nobody n i e

pub one_instance : (o : Opening) (h : List Event) → Once (replay (opened o) h).doors
one_instance o h = replay_once (opened o) h (free_once (length o.services))

pub one_door : (s : State) (door other i : ℕ) → Has s door i → Has s other i → door ≡ other
one_door s door other i a b = let same : Some (Some door) ≡ Some (Some other) = sym a ∙ b in cc same
