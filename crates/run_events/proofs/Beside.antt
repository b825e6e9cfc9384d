-- Events of STARTs leave all but the STARTs as it is.
use Rattle.std.proofs.Common.{◌≡◌, ℕ, Bool, true, false, not, cond, Option, Some, None, List, []}
use Rattle.std.proofs.Common.{◌∷◌, ◌++◌, map, refl, sym, ap, subst, ◌∙◌}
use Rattle.std.specs.Option.{option_map, option_to_list}
use Rattle.std.proofs.lemmas.List.{map-append}
use Rattle.archive_terms.specs.Archive.{Entry}
use Rattle.station_book.specs.State.{Opening, Call, publish, answer, quit, take, done, interrupted}
use Rattle.station_book.specs.State.{uplink, gone}
use Rattle.cltu_queue.specs.Run.{Radiation}
use Rattle.station_world.specs.File.{File, found_by, without_power}
use Rattle.station_world.specs.Life.{Life, called, taken, changed, with_round, with_end}
use Rattle.station_world.specs.World.{World, Event, offers, begins_store, ends_store, reopens}
use Rattle.station_world.specs.World.{calls, starts, makes_round, ends_start, sends, reads}
use Rattle.station_world.specs.World.{loses_power, restarts, restarted, after_event, after_events}
use Rattle.station_world.specs.Comes.{Comes, AllCome, MayCall, Lives}
use Rattle.run_events.specs.Beside.{is_of_start, without_starts, StartsCome, bare_life, bare}
use Rattle.run_events.specs.Beside.{StartsStandBeside}

abbrev with_now : World → Option Life → World
with_now w o = record w { now = o }

-- ---- an event that is no START's

call_same : (call : Call) (f : File) (l : Life) → MayCall f (bare_life l) call → MayCall f l call
call_same (publish entries) f l may = may
call_same (answer door reading ask want) f l may = tt
call_same (quit door) f l may = tt
call_same (take reading) f l may = tt
call_same (done run id reading) f l may = tt
call_same (interrupted run id reading) f l may = tt
call_same (uplink production status reading) f l may = tt
call_same (gone worker) f l may = tt

call_bare : (call : Call) (f : File) (l : Life) → MayCall f l call → MayCall f (bare_life l) call
call_bare (publish entries) f l may = may
call_bare (answer door reading ask want) f l may = tt
call_bare (quit door) f l may = tt
call_bare (take reading) f l may = tt
call_bare (done run id reading) f l may = tt
call_bare (interrupted run id reading) f l may = tt
call_bare (uplink production status reading) f l may = tt
call_bare (gone worker) f l may = tt

-- it may come in both
record Both (w : World) (e : Event) : Type 0 where
  down : Comes w e → Comes (bare w) e
  up : Comes (bare w) e → Comes w e

up_same : (o : Option Life) → Lives (option_map bare_life o) (λ _. Unit {0})
    → Lives o (λ _. Unit {0})
up_same None up = up
up_same (Some l) up = tt

up_bare : (o : Option Life) → Lives o (λ _. Unit {0})
    → Lives (option_map bare_life o) (λ _. Unit {0})
up_bare None up = up
up_bare (Some l) up = tt

none_same : (o : Option Life) → option_map bare_life o ≡ None → o ≡ None
none_same None is = refl
none_same (Some l) is = absurd (cc is)

calls_both : (call : Call) (f : File) (o : Option Life)
    → (Lives o (λ l. MayCall f l call) → Lives (option_map bare_life o) (λ l. MayCall f l call))
    × (Lives (option_map bare_life o) (λ l. MayCall f l call) → Lives o (λ l. MayCall f l call))
calls_both call f None = (λ may. may, λ may. may)
calls_both call f (Some l) = (λ may. call_bare call f l may, λ may. call_same call f l may)

sends_both : (o : Option Life)
    → (Lives o (λ l. (r : Radiation) × (l.to_send ≡ Some r))
    → Lives (option_map bare_life o) (λ l. (r : Radiation) × (l.to_send ≡ Some r)))
    × (Lives (option_map bare_life o) (λ l. (r : Radiation) × (l.to_send ≡ Some r))
    → Lives o (λ l. (r : Radiation) × (l.to_send ≡ Some r)))
sends_both None = (λ c. c, λ c. c)
sends_both (Some l) = (λ c. c, λ c. c)

both : (w : World) (e : Event) → is_of_start e ≡ false → Both w e
both w (offers entry) other = record {
  down = λ c. (c.0, c.1, up_bare w.now c.2);
  up = λ c. (c.0, c.1, up_same w.now c.2);
}
both w begins_store other = record {
  down = λ c. (c.0, up_bare w.now c.1);
  up = λ c. (c.0, up_same w.now c.1);
}
both w (ends_store good) other = record {
  down = λ c. (c.0, up_bare w.now c.1);
  up = λ c. (c.0, up_same w.now c.1);
}
both w (reopens finding) other = record {
  down = λ c. (c.0, up_bare w.now c.1);
  up = λ c. (c.0, up_same w.now c.1);
}
both w (calls call) other =
    let same = calls_both call w.file w.now in record { down = same.0; up = same.1 }
both w (starts a) other = absurd (cc other)
both w (makes_round place r) other = absurd (cc other)
both w (ends_start place) other = absurd (cc other)
both w (sends good) other = let same = sends_both w.now in record { down = same.0; up = same.1 }
both w (reads moment) other = record { down = λ c. tt; up = λ c. tt }
both w loses_power other = record { down = λ c. tt; up = λ c. tt }
both w (restarts o finding) other = record {
  down = λ c. ap (option_map bare_life) c;
  up = λ c. none_same w.now c;
}

-- ---- what it leaves

changed_same : (change : Life → Life) → ((l : Life) → bare_life (change l) ≡ change (bare_life l))
    → (o : Option Life)
    → option_map bare_life (option_map change o) ≡ option_map change (option_map bare_life o)
changed_same change same None = refl
changed_same change same (Some l) = ap (λ (x : Life). Some x) (same l)

listed_same : (o : Option Life)
    → map bare_life (option_to_list o) ≡ option_to_list (option_map bare_life o)
listed_same None = refl
listed_same (Some l) = refl

-- a world, field by field
abbrev world : File → List Life → Option Life → ℕ → List (List ℕ) → World
world file past now clock antenna =
    record { file = file; past = past; now = now; clock = clock; antenna = antenna }

sent_same : (good : Bool) (file : File) (past : List Life) (clock : ℕ)
    (antenna : List (List ℕ)) (now : Option Life)
    → bare (after_event (world file past now clock antenna) (sends good))
    ≡ after_event (bare (world file past now clock antenna)) (sends good)
sent_same good file past clock antenna None = refl
sent_same good file past clock antenna (Some l) = refl

restarted_same : (o : Opening) (w : World) (found : Option (List Entry))
    → bare (restarted o w found) ≡ restarted o (bare w) found
restarted_same o w None = refl
restarted_same o w (Some entries) = refl

after_bare : (w : World) (e : Event) → is_of_start e ≡ false
    → bare (after_event w e) ≡ after_event (bare w) e
after_bare w (offers entry) other = refl
after_bare w begins_store other = refl
after_bare w (ends_store good) other = refl
after_bare w (reopens finding) other = refl
after_bare w (calls call) other =
    ap (with_now (bare w)) (changed_same (called call) (λ l. refl) w.now)
after_bare w (starts a) other = absurd (cc other)
after_bare w (makes_round place r) other = absurd (cc other)
after_bare w (ends_start place) other = absurd (cc other)
after_bare w (sends good) other = sent_same good w.file w.past w.clock w.antenna w.now
after_bare w (reads moment) other = refl
after_bare w loses_power other =
    ap (λ (past : List Life). world (without_power w.file) past None w.clock w.antenna)
    (map-append bare_life w.past (option_to_list w.now)
    ∙ ap (λ (ls : List Life). map bare_life w.past ++ ls) (listed_same w.now))
after_bare w (restarts o finding) other = restarted_same o w (found_by w.file finding)

-- ---- a START's event

gone_same : (change : Life → Life) → ((l : Life) → bare_life (change l) ≡ bare_life l)
    → (o : Option Life) → option_map bare_life (option_map change o) ≡ option_map bare_life o
gone_same change same None = refl
gone_same change same (Some l) = ap (λ (x : Life). Some x) (same l)

start_bare : (w : World) (e : Event) → is_of_start e ≡ true
    → bare (after_event w e) ≡ bare w
start_bare w (offers entry) own = absurd (cc own)
start_bare w begins_store own = absurd (cc own)
start_bare w (ends_store good) own = absurd (cc own)
start_bare w (reopens finding) own = absurd (cc own)
start_bare w (calls call) own = absurd (cc own)
start_bare w (starts a) own =
    ap (with_now (bare w)) (gone_same (taken a) (λ l. refl) w.now)
start_bare w (makes_round place r) own =
    ap (with_now (bare w)) (gone_same (changed place (with_round r)) (λ l. refl) w.now)
start_bare w (ends_start place) own =
    ap (with_now (bare w)) (gone_same (changed place with_end) (λ l. refl) w.now)
start_bare w (sends good) own = absurd (cc own)
start_bare w (reads moment) own = absurd (cc own)
start_bare w loses_power own = absurd (cc own)
start_bare w (restarts o finding) own = absurd (cc own)

-- ---- lists of events

abbrev Beside : World → World → List Event → List Event → Type 0
Beside w v events others = AllCome w events
    × (bare (after_events w events) ≡ bare (after_events v others))

abbrev Goes : List Event → Type 0
Goes events =
    (w v : World) → bare w ≡ bare v → AllCome v (without_starts events)
    → StartsCome w events → Beside w v events (without_starts events)

one_event : (e : Event) (events : List Event) → Goes events → Goes (e ∷ events)
one_event e events goes w v same come start = by (is_of_start e) refl
  where
    rest : List Event
    rest = without_starts events

    by : (b : Bool) → is_of_start e ≡ b → Beside w v (e ∷ events) (without_starts (e ∷ events))
    by true own =
        let kept : without_starts (e ∷ events) ≡ rest =
        ap (λ (b : Bool). cond (not b) (e ∷ rest) rest) own in
        let inner = goes (after_event w e) v (start_bare w e own ∙ same)
        (subst (AllCome v) kept come) start.1 in (
          (start.0 own, inner.0),
          inner.1 ∙ ap (λ (xs : List Event). bare (after_events v xs)) (sym kept),
        )
    by false other =
        let kept : without_starts (e ∷ events) ≡ e ∷ rest =
        ap (λ (b : Bool). cond (not b) (e ∷ rest) rest) other in
        let all : AllCome v (e ∷ rest) = subst (AllCome v) kept come in
        let here : Comes (bare w) e =
        subst (λ (x : World). Comes x e) (sym same) ((both v e other).down all.0) in
        let next : bare (after_event w e) ≡ bare (after_event v e) =
        after_bare w e other
        ∙ (ap (λ (x : World). after_event x e) same ∙ sym (after_bare v e other)) in
        let inner = goes (after_event w e) (after_event v e) next all.1 start.1 in (
          ((both w e other).up here, inner.0),
          inner.1 ∙ ap (λ (xs : List Event). bare (after_events v xs)) (sym kept),
        )

no_event : Goes []
no_event w v same come start = (tt, same)

go : (events : List Event) → Goes events
go [] = no_event
go (e ∷ events) = one_event e events (go events)

pub starts_stand_beside : StartsStandBeside
starts_stand_beside w events come start = go events w w refl come start
