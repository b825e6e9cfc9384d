-- Steps of an antenna's worker, one behind the other.
use Rattle.std.proofs.Common.{◌≡◌, ℕ, ◌+◌, ◌≤◌, ◌<◌, min, Bool, true, false, cond, Option, List, [], ◌∷◌, ◌++◌, length, map, Ok, Err}
use Rattle.std.proofs.Common.{refl, ap, sym, subst, ◌∙◌, append_assoc, append-nil, length-append, arith}
use Rattle.std.proofs.lemmas.List.{map-append}
use Rattle.std.proofs.lemmas.List.Elements.{All-append, All-cons, All-nil}
use Rattle.std.proofs.lemmas.List.Elements.{filter_map-append}
use Rattle.std.proofs.lemmas.List.Sums.{sum_by-append}
use Rattle.std.proofs.lemmas.Grind.{flat_map-append}
use Rattle.std.specs.List.{All, count_by}
use Rattle.cds_time.specs.declared.cds.Cds.{Cds}
use Rattle.octet_core.specs.Fault.{last_count, count_up}
use Rattle.octet_core.specs.Told.{Tells}
use Rattle.turn_lock.specs.PassState.{PassState, Lock}
use Rattle.turn_lock.specs.Own.{mark}
use Rattle.turn_lock.specs.declared.view.Mark.{Mark}
use Rattle.cltu_queue.specs.declared.taken.Taken.{Taken}
use Rattle.cltu_queue.specs.declared.taken.Taken.TheVariants as found_as
use Rattle.station_book.specs.State.{Opening, Event, take, took, done, interrupted}
use Rattle.station_book.specs.History.{reading_of}
use Rattle.station_turns.specs.Turned.{called, Makes, Takes, IsReady}
use Rattle.station_turns.specs.Gained.{Gains, events_of}
use Rattle.station_turns.specs.Reads.{Reads, readings_in}
use Rattle.antenna_turns.specs.Steps.{Step, looked, radiated, broke_off, marks_of, sent_of}
use Rattle.antenna_turns.specs.Steps.{is_radiated, is_broken_off, IsNone, IsTake, IsStep, marks_in}
use Rattle.antenna_turns.specs.Steps.{sent_in, Raised}
use Rattle.antenna_turns.specs.Radiating.{AntennaState, Works, WorksOnce, Rests, IsAnswered}
use Rattle.antenna_turns.specs.Radiating.{Radiates}
use Rattle.antenna_turns.specs.declared.stepping.AntennaStep.{AntennaStep}
use Rattle.antenna_turns.specs.declared.stepping.AntennaStep.TheVariants.{Idle, Waits, Expired}
use Rattle.antenna_turns.specs.declared.stepping.AntennaStep.TheVariants.{Sent, Failed}
use Rattle.antenna_turns.specs.declared.radiating.Radiated.{Radiated}

tells_none : {A : Type 0} (told : Option (List A)) → Tells told told []
tells_none told = grind (arith, append-nil)

tells_both : {A : Type 0} (a b c : Option (List A)) (xs ys : List A) → Tells a b xs
    → Tells b c ys → Tells a c (xs ++ ys)
tells_both a b c xs ys h k = grind (arith, append_assoc)

raised_both : (m n a b c : ℕ) → Raised m a b → Raised n b c → Raised (m + n) a c
raised_both m n a b c first second = record {
  never_falls = let x = first.never_falls in let y = second.never_falls in omega (arith, x, y);
  exact = λ few.
      let x = first.exact few in
      let y = second.exact (omega (arith, x)) in
      omega (arith, x, y);
}

raised_none : (n : ℕ) → Raised 0 n n
raised_none n = record { never_falls = omega arith; exact = λ few. omega (arith, few) }

All-one : (P : Step → Type 0) (s : Step) → P s → All P (s ∷ [])
All-one P s h = All-cons P s [] h (All-nil P)

-- the mark of a take behind the events of a list
abbrev pub take_mark : Lock Opening → ℕ → List Event → Mark Event
take_mark lock reading before = mark before (called lock.origin before (take reading))

take_is : (lock : Lock Opening) (reading : ℕ) (taken : Taken) (gone : Bool)
    (p q : PassState Event Opening) → (takes : Takes lock reading taken gone p q)
    → IsTake taken (called lock.origin takes.makes.before (take reading))
take_is lock reading taken gone p q takes =
    record { reading = reading; call = refl; reply = takes.replied }

readings_both : (xs ys : List (Mark Event)) → readings_in (events_of (xs ++ ys))
    ≡ readings_in (events_of xs) ++ readings_in (events_of ys)
readings_both xs ys =
    ap readings_in (map-append (λ (m : Mark Event). m.event) xs ys)
    ∙ filter_map-append (λ (e : Event). reading_of e.call) (events_of xs) (events_of ys)

idle_same : (a b : Bool) → Idle a ≡ Idle b → a ≡ b
idle_same a b e = grind (arith, e)

-- the counts behind one step more
abbrev pub added : Radiated → AntennaStep → Radiated
added c (Sent id) = record c { sent = c.sent + 1 }
added c (Failed id) = record c { failed = c.failed + 1 }
added c _ = c

some_marks : (s : Step) → 1 ≤ length (marks_in (s ∷ []))
some_marks (looked m) = omega arith
some_marks (radiated m octets n) = omega arith
some_marks (broke_off m octets n) = omega arith

abbrev Counted : Radiated → AntennaStep → Step → Type 0
Counted c answer s =
    ((added c answer).sent ≡ c.sent + count_by is_radiated (s ∷ []))
    × ((added c answer).failed ≡ c.failed + count_by is_broken_off (s ∷ []))
    × ((added c answer).sent + (added c answer).failed ≤ c.sent + c.failed + 1)

step_counts : (c : Radiated) (answer : AntennaStep) (s : Step) → IsAnswered answer s
    → Counted c answer s
step_counts c (Idle gone) (looked m) h = (omega arith, omega arith, omega arith)
step_counts c (Idle gone) (radiated m octets n) h = absurd h
step_counts c (Idle gone) (broke_off m octets n) h = absurd h
step_counts c (Waits until) (looked m) h = (omega arith, omega arith, omega arith)
step_counts c (Waits until) (radiated m octets n) h = absurd h
step_counts c (Waits until) (broke_off m octets n) h = absurd h
step_counts c (Expired id) (looked m) h = (omega arith, omega arith, omega arith)
step_counts c (Expired id) (radiated m octets n) h = absurd h
step_counts c (Expired id) (broke_off m octets n) h = absurd h
step_counts c (Sent id) (looked m) h = absurd h
step_counts c (Sent id) (radiated m octets n) h = (omega arith, omega arith, omega arith)
step_counts c (Sent id) (broke_off m octets n) h = absurd h
step_counts c (Failed id) (looked m) h = absurd h
step_counts c (Failed id) (radiated m octets n) h = absurd h
step_counts c (Failed id) (broke_off m octets n) h = (omega arith, omega arith, omega arith)

module _ {A C : Type 0} (sent : A → Option (List (List ℕ))) (faults : A → ℕ)
    (readings : C → Option (List Cds)) (lock : Lock Opening) where
  pub works_none : (w : AntennaState A C) → Gains lock 0 [] w.pass w.pass
      → Reads (readings w.clock) (readings w.clock) []
      → Works sent faults readings lock [] w w
  works_none w gains reads = record {
    right = All-nil IsStep;
    gains = gains;
    reads = reads;
    sends = tells_none (sent w.antenna);
    fails = record { never_falls = omega arith; exact = λ few. omega (arith, few) };
  }

  pub works_both : (xs ys : List Step) (p q r : AntennaState A C)
      → (first : Works sent faults readings lock xs p q)
      → (second : Works sent faults readings lock ys q r)
      → Gains lock (length (marks_in xs) + length (marks_in ys)) (marks_in xs ++ marks_in ys)
      p.pass r.pass
      → Reads (readings p.clock) (readings r.clock)
      (readings_in (events_of (marks_in xs)) ++ readings_in (events_of (marks_in ys)))
      → Works sent faults readings lock (xs ++ ys) p r
  works_both xs ys p q r first second gains reads =
      let marks : marks_in (xs ++ ys) ≡ marks_in xs ++ marks_in ys = flat_map-append marks_of xs ys in
      record {
        right = All-append IsStep xs ys first.right second.right;
        gains = subst (λ ms. Gains lock (length ms) ms p.pass r.pass) (sym marks)
            (subst (λ n. Gains lock n (marks_in xs ++ marks_in ys) p.pass r.pass)
            (sym (length-append (marks_in xs) (marks_in ys))) gains);
        reads = subst (λ rs. Reads (readings p.clock) (readings r.clock) rs)
            (sym (ap (λ ms. readings_in (events_of ms)) marks
            ∙ readings_both (marks_in xs) (marks_in ys))) reads;
        sends = subst (λ ss. Tells (sent p.antenna) (sent r.antenna) ss)
            (sym (flat_map-append sent_of xs ys))
            (tells_both (sent p.antenna) (sent q.antenna) (sent r.antenna) (sent_in xs)
            (sent_in ys) first.sends second.sends);
        fails = subst (λ n. Raised n (faults p.antenna) (faults r.antenna))
            (sym (sum_by-append (λ (s : Step). cond (is_broken_off s) 1 0) xs ys))
            (raised_both (count_by is_broken_off xs) (count_by is_broken_off ys)
            (faults p.antenna) (faults q.antenna) (faults r.antenna) first.fails second.fails);
      }

  -- a take that gave no CLTU
  pub looked_once : (reading : ℕ) (taken : Taken) (gone : Bool) (answer : AntennaStep)
      (p q : AntennaState A C) → q.antenna ≡ p.antenna
      → (takes : Takes lock reading taken gone p.pass q.pass)
      → IsNone taken
      → Gains lock 1 (take_mark lock reading takes.makes.before ∷ []) p.pass q.pass
      → Reads (readings p.clock) (readings q.clock) (reading ∷ [])
      → IsAnswered answer (looked (take_mark lock reading takes.makes.before))
      → (answer ≡ Idle true → (taken ≡ found_as.Idle) × (gone ≡ true))
      → WorksOnce sent faults readings lock answer p q
  looked_once reading taken gone answer p q same takes none gains reads answered is =
      let at = takes.makes.before in
      record {
        step = looked (take_mark lock reading at);
        works = record {
          right = All-one IsStep (looked (take_mark lock reading at))
              (taken, none, take_is lock reading taken gone p.pass q.pass takes);
          gains = gains;
          reads = reads;
          sends = subst (λ a. Tells (sent p.antenna) (sent a) []) (sym same)
              (tells_none (sent p.antenna));
          fails = subst (λ a. Raised 0 (faults p.antenna) (faults a)) (sym same)
              (raised_none (faults p.antenna));
        };
        answered = answered;
        gone = λ e. let h = is e in record {
          before = at;
          last = called lock.origin at (take reading);
          seen = ap (λ (x : PassState Event Opening). x.seen) takes.makes.pass;
          own = p.pass.own;
          own_last = ap (λ (x : PassState Event Opening). x.own) takes.makes.pass;
          idle = record {
            reading = reading;
            call = refl;
            reply = takes.replied ∙ ap took h.0;
          };
          gone = sym takes.gone ∙ h.1;
        };
      }

  pub idle_once : (reading : ℕ) (found : Taken) (gone : Bool) (p q : AntennaState A C)
      → q.antenna ≡ p.antenna → (takes : Takes lock reading found gone p.pass q.pass)
      → found ≡ found_as.Idle
      → Gains lock 1 (take_mark lock reading takes.makes.before ∷ []) p.pass q.pass
      → Reads (readings p.clock) (readings q.clock) (reading ∷ [])
      → WorksOnce sent faults readings lock (Idle gone) p q
  idle_once reading found gone p q same takes is gains reads =
      looked_once reading found gone (Idle gone) p q same takes (subst IsNone (sym is) tt) gains
      reads (subst (λ t. IsTake t (take_mark lock reading takes.makes.before).event) is
      (take_is lock reading found gone p.pass q.pass takes)) (λ e. (is, idle_same gone true e))

  pub waits_once : (reading until : ℕ) (found : Taken) (gone : Bool) (p q : AntennaState A C)
      → q.antenna ≡ p.antenna → (takes : Takes lock reading found gone p.pass q.pass)
      → found ≡ found_as.Waits until
      → Gains lock 1 (take_mark lock reading takes.makes.before ∷ []) p.pass q.pass
      → Reads (readings p.clock) (readings q.clock) (reading ∷ [])
      → WorksOnce sent faults readings lock (Waits until) p q
  waits_once reading until found gone p q same takes is gains reads =
      looked_once reading found gone (Waits until) p q same takes (subst IsNone (sym is) tt) gains
      reads (subst (λ t. IsTake t (take_mark lock reading takes.makes.before).event) is
      (take_is lock reading found gone p.pass q.pass takes)) (λ e. absurd (grind (arith, e)))

  pub expired_once : (reading id : ℕ) (found : Taken) (gone : Bool) (p q : AntennaState A C)
      → q.antenna ≡ p.antenna → (takes : Takes lock reading found gone p.pass q.pass)
      → found ≡ found_as.Expired id
      → Gains lock 1 (take_mark lock reading takes.makes.before ∷ []) p.pass q.pass
      → Reads (readings p.clock) (readings q.clock) (reading ∷ [])
      → WorksOnce sent faults readings lock (Expired id) p q
  expired_once reading id found gone p q same takes is gains reads =
      looked_once reading found gone (Expired id) p q same takes (subst IsNone (sym is) tt) gains
      reads (subst (λ t. IsTake t (take_mark lock reading takes.makes.before).event) is
      (take_is lock reading found gone p.pass q.pass takes)) (λ e. absurd (grind (arith, e)))

  pub idle_as : (gone now : Bool) (p q : AntennaState A C) → gone ≡ now
      → WorksOnce sent faults readings lock (Idle gone) p q
      → WorksOnce sent faults readings lock (Idle now) p q
  idle_as gone now p q is once =
      subst (λ b. WorksOnce sent faults readings lock (Idle b) p q) is once

  -- a step that found no CLTU
  pub rests_once : (reading : ℕ) (found : Taken) (gone : Bool) (answer : AntennaStep)
      (p q : AntennaState A C) → q.antenna ≡ p.antenna
      → (takes : Takes lock reading found gone p.pass q.pass) → Rests found gone answer
      → Gains lock 1 (take_mark lock reading takes.makes.before ∷ []) p.pass q.pass
      → Reads (readings p.clock) (readings q.clock) (reading ∷ [])
      → WorksOnce sent faults readings lock answer p q
  rests_once reading found gone (Idle all_gone) p q same takes rests gains reads =
      idle_as gone all_gone p q (sym rests.1)
      (idle_once reading found gone p q same takes rests.0 gains reads)
  rests_once reading found gone (Waits until) p q same takes rests gains reads =
      waits_once reading until found gone p q same takes rests gains reads
  rests_once reading found gone (Expired id) p q same takes rests gains reads =
      expired_once reading id found gone p q same takes rests gains reads
  rests_once reading found gone (Sent id) p q same takes rests gains reads = absurd rests
  rests_once reading found gone (Failed id) p q same takes rests gains reads = absurd rests

  -- a CLTU that was radiated
  pub radiated_once : (first second run id : ℕ) (octets : List ℕ) (found : Taken) (gone : Bool)
      (p q : AntennaState A C) (mid : PassState Event Opening)
      → (takes : Takes lock first found gone p.pass mid)
      → found ≡ found_as.Radiate run id octets
      → (ends : Makes lock (done run id second) mid q.pass)
      → Gains lock 2 (take_mark lock first takes.makes.before
      ∷ mark ends.before (called lock.origin ends.before (done run id second)) ∷ []) p.pass q.pass
      → Reads (readings p.clock) (readings q.clock) (first ∷ second ∷ [])
      → Tells (sent p.antenna) (sent q.antenna) (octets ∷ [])
      → faults q.antenna ≡ faults p.antenna
      → WorksOnce sent faults readings lock (Sent id) p q
  radiated_once first second run id octets found gone p q mid takes is ends gains reads tells
      same =
      let m = take_mark lock first takes.makes.before in
      let n : Mark Event = mark ends.before
      (called lock.origin ends.before (done run id second)) in
      let taking : IsTake (found_as.Radiate run id octets) m.event = subst (λ t. IsTake t m.event) is
      (take_is lock first found gone p.pass mid takes) in
      record {
        step = radiated m octets n;
        works = record {
          right = All-one IsStep (radiated m octets n)
              (run, id, taking, record { reading = second; call = refl });
          gains = gains;
          reads = reads;
          sends = tells;
          fails = subst (λ k. Raised 0 (faults p.antenna) k) (sym same)
              (raised_none (faults p.antenna));
        };
        answered = (run, taking);
        gone = λ e. absurd (grind (arith, e));
      }

  -- a CLTU whose radiation was interrupted
  pub broke_once : (first second run id : ℕ) (octets : List ℕ) (found : Taken) (gone : Bool)
      (p q : AntennaState A C) (mid : PassState Event Opening)
      → (takes : Takes lock first found gone p.pass mid)
      → found ≡ found_as.Radiate run id octets
      → (ends : Makes lock (interrupted run id second) mid q.pass)
      → Gains lock 2 (take_mark lock first takes.makes.before
      ∷ mark ends.before (called lock.origin ends.before (interrupted run id second)) ∷ [])
      p.pass q.pass
      → Reads (readings p.clock) (readings q.clock) (first ∷ second ∷ [])
      → Tells (sent p.antenna) (sent q.antenna) []
      → faults p.antenna ≤ faults q.antenna → faults q.antenna ≡ count_up (faults p.antenna)
      → WorksOnce sent faults readings lock (Failed id) p q
  broke_once first second run id octets found gone p q mid takes is ends gains reads tells more
      up =
      let m = take_mark lock first takes.makes.before in
      let n : Mark Event = mark ends.before
      (called lock.origin ends.before (interrupted run id second)) in
      let taking : IsTake (found_as.Radiate run id octets) m.event = subst (λ t. IsTake t m.event) is
      (take_is lock first found gone p.pass mid takes) in
      record {
        step = broke_off m octets n;
        works = record {
          right = All-one IsStep (broke_off m octets n)
              (run, id, taking, record { reading = second; call = refl });
          gains = gains;
          reads = reads;
          sends = tells;
          fails = record { never_falls = more; exact = λ few. omega (arith, up) };
        };
        answered = (run, taking);
        gone = λ e. absurd (grind (arith, e));
      }

  -- The worker goes on: so many steps were made, and counted.
  pub record Going (counts : Radiated) (old new : AntennaState A C) : Type 0 where
    pub steps : List Step
    pub works : Works sent faults readings lock steps old new
    pub sent_are : counts.sent ≡ count_by is_radiated steps
    pub failed_are : counts.failed ≡ count_by is_broken_off steps
    pub few : counts.sent + counts.failed + new.pass.left ≤ old.pass.left
    pub ready : IsReady lock new.pass

  -- Two runs gain and read what both did; a run of nothing gains and reads nothing.
  module _ (both_runs : (m n : ℕ) (xs ys : List (Mark Event)) (p q r : PassState Event Opening)
      → Gains lock m xs p q → Gains lock n ys q r → Gains lock (m + n) (xs ++ ys) p r)
      (both_read : (before mid after : Option (List Cds)) (xs ys : List ℕ) → Reads before mid xs
      → Reads mid after ys → Reads before after (xs ++ ys)) where
    pub works_on : (steps : List Step) (answer : AntennaStep) (p q r : AntennaState A C)
        → (so : Works sent faults readings lock steps p q)
        → (once : WorksOnce sent faults readings lock answer q r)
        → Works sent faults readings lock (steps ++ once.step ∷ []) p r
    works_on steps answer p q r so once =
        works_both steps (once.step ∷ []) p q r so once.works
        (both_runs (length (marks_in steps)) (length (marks_in (once.step ∷ [])))
        (marks_in steps) (marks_in (once.step ∷ [])) p.pass q.pass r.pass so.gains
        once.works.gains)
        (both_read (readings p.clock) (readings q.clock) (readings r.clock)
        (readings_in (events_of (marks_in steps)))
        (readings_in (events_of (marks_in (once.step ∷ [])))) so.reads once.works.reads)

    pub going_on : (before : Radiated) (answer : AntennaStep) (p q r : AntennaState A C)
        → (so : Going before p q)
        → (once : WorksOnce sent faults readings lock answer q r)
        → Going (added before answer) p r
    going_on before answer p q r so once =
        let more = step_counts before answer once.step once.answered in
        let sum = sum_by-append (λ (s : Step). cond (is_radiated s) 1 0) so.steps
        (once.step ∷ []) in
        let broken = sum_by-append (λ (s : Step). cond (is_broken_off s) 1 0) so.steps
        (once.step ∷ []) in
        let left = once.works.gains.left in
        let few = so.few in
        let marks = some_marks once.step in
        record {
          steps = so.steps ++ once.step ∷ [];
          works = works_on so.steps answer p q r so.works once;
          sent_are = more.0 ∙ (ap (λ n. n + count_by is_radiated (once.step ∷ [])) so.sent_are
              ∙ sym sum);
          failed_are = more.1
              ∙ (ap (λ n. n + count_by is_broken_off (once.step ∷ [])) so.failed_are ∙ sym broken);
          few = let most = more.2 in omega (arith, most, left, few, marks);
          ready = once.works.gains.ready;
        }

    pub less_by : (answer : AntennaStep) (q r : AntennaState A C)
        → (once : WorksOnce sent faults readings lock answer q r) → r.pass.left < q.pass.left
    less_by answer q r once =
        let left = once.works.gains.left in
        let marks = some_marks once.step in
        omega (arith, left, marks)

    pub radiates_all : (before : Radiated) (p q r : AntennaState A C) → (so : Going before p q)
        → (once : WorksOnce sent faults readings lock (Idle true) q r)
        → Radiates sent faults readings lock (Ok before) p r
    radiates_all before p q r so once =
        let on = going_on before (Idle true) p q r so once in
        record {
          steps = on.steps;
          works = on.works;
          ended = ((on.sent_are, on.failed_are), once.gone refl);
        }

  pub radiates_spent : (counts : Radiated) (p q : AntennaState A C) → (so : Going counts p q)
      → q.pass.left < 2
      → Radiates sent faults readings lock (Err (record { radiated = counts })) p q
  radiates_spent counts p q so few =
      record { steps = so.steps; works = so.works; ended = ((so.sent_are, so.failed_are), few) }

  pub going_none : (w : AntennaState A C) → Gains lock 0 [] w.pass w.pass
      → Reads (readings w.clock) (readings w.clock) []
      → Going (record { sent = 0; failed = 0 }) w w
  going_none w gains reads = record {
    steps = [];
    works = works_none w gains reads;
    sent_are = refl;
    failed_are = refl;
    few = omega arith;
    ready = gains.ready;
  }
