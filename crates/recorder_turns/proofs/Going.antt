-- Steps of a recorder's worker so far, one step more, and the end.
use Rattle.std.proofs.Common.{◌≡◌, ℕ, ◌+◌, ◌≤◌, ◌<◌, min, true, false, Option, List, [], ◌∷◌, ◌++◌}
use Rattle.std.proofs.Common.{length, map, Result, Ok, Err, refl, ap, sym, subst, ◌∙◌}
use Rattle.std.proofs.Common.{append_assoc, append-nil, length-append, arith}
use Rattle.std.proofs.lemmas.List.{map-append}
use Rattle.std.proofs.lemmas.List.Sums.{sum_by-append}
use Rattle.std.proofs.lemmas.Grind.{flat_map-append}
use Rattle.std.specs.List.{flat_map, sum_by}
use Rattle.archive_terms.specs.Archive.{Entry}
use Rattle.octet_core.specs.Fault.{last_count}
use Rattle.disk_model.specs.Images.{Pending}
use Rattle.disk_model.specs.declared.call.Call.{Call as DiskCall}
use Rattle.frame_archive.specs.State.{ArchiveState}
use Rattle.frame_archive.specs.Acknowledges.{Acknowledges}
use Rattle.frame_archive.specs.Run.{Adds}
use Rattle.recorder.specs.Feeds.{Answer}
use Rattle.recorder.specs.declared.recorded.Recorded.{Recorded}
use Rattle.turn_lock.specs.PassState.{PassState, Lock}
use Rattle.turn_lock.specs.Own.{mark}
use Rattle.turn_lock.specs.declared.view.Mark.{Mark}
use Rattle.station_book.specs.State.{Opening, Event, Call, Reply, publish, accepted}
use Rattle.station_book.specs.Publishing.{published_by, published_in}
use Rattle.station_turns.specs.Turned.{called, IsReady, Makes, Publishes}
use Rattle.station_turns.specs.Gained.{Gains, events_of, calls_of}
use Rattle.recorder_turns.specs.Steps.{RecorderState, publishings, stored_by, tally_of, Steps}
use Rattle.recorder_turns.specs.Steps.{Chain, none, more, Went, StepsOnce, counts_of}
use Rattle.recorder_turns.specs.Recording.{Records, Breaks, EndWithLast}
use Rattle.recorder_turns.specs.declared.step.StepCounts.{StepCounts}
use Rattle.recorder_turns.specs.declared.tally.Tally.{Tally}
use Rattle.recorder_turns.specs.declared.recording_fault.RecordingFault.{RecordingFault}
use Rattle.recorder_turns.specs.declared.recording_fault.RecordingFault.TheVariants.{TurnsSpent}

-- what is stored by one step more
stored_more : (steps : List Recorded) (recorded : Recorded)
    → stored_by (steps ++ recorded ∷ []) ≡ stored_by steps ++ recorded.entries
stored_more steps recorded =
    flat_map-append (λ (r : Recorded). r.entries) steps (recorded ∷ [])
    ∙ ap (λ x. stored_by steps ++ x) (append-nil recorded.entries)

abbrev of_counts : ℕ → ℕ → ℕ → Tally
of_counts stored refused full = record { stored = stored; refused = refused; full = full }

capped : (a b : ℕ) → min (a + b) last_count ≡ min (min a last_count + b) last_count
capped a b = omega arith

-- a capped sum of one step more
summed : (f : Recorded → ℕ) (steps : List Recorded) (recorded : Recorded)
    → min (sum_by f (steps ++ recorded ∷ [])) last_count
    ≡ min (min (sum_by f steps) last_count + f recorded) last_count
summed f steps recorded =
    let one : sum_by f (recorded ∷ []) ≡ f recorded = omega arith in
    ap (λ n. min n last_count) (sum_by-append f steps (recorded ∷ []))
    ∙ (ap (λ n. min (sum_by f steps + n) last_count) one
    ∙ capped (sum_by f steps) (f recorded))

same_tally : (a b c d e f : ℕ) → a ≡ b → c ≡ d → e ≡ f
    → of_counts a c e ≡ of_counts b d f
same_tally a b c d e f x y z =
    ap (λ n. of_counts n c e) x
    ∙ (ap (λ n. of_counts b n e) y ∙ ap (λ n. of_counts b d n) z)

-- the tally of one step more
pub tally_more : (steps : List Recorded) (recorded : Recorded) → tally_of (steps ++ recorded ∷ [])
    ≡ record {
      stored = min ((tally_of steps).stored + length recorded.entries) last_count;
      refused = min ((tally_of steps).refused + recorded.refused) last_count;
      full = min ((tally_of steps).full + recorded.full) last_count;
    }
tally_more steps recorded =
    let stored : min (length (stored_by (steps ++ recorded ∷ []))) last_count
    ≡ min (min (length (stored_by steps)) last_count + length recorded.entries) last_count =
    ap (λ xs. min (length xs) last_count) (stored_more steps recorded)
    ∙ (ap (λ n. min n last_count) (length-append (stored_by steps) recorded.entries)
    ∙ capped (length (stored_by steps)) (length recorded.entries)) in
    let refused = summed (λ (r : Recorded). r.refused) steps recorded in
    let full = summed (λ (r : Recorded). r.full) steps recorded in
    same_tally _ _ _ _ _ _ stored refused full

-- the tally to which a step's numbers were added
tally_now : (steps : List Recorded) (recorded : Recorded) (before now : Tally)
    (counts : StepCounts) → before ≡ tally_of steps → counts ≡ counts_of recorded
    → now ≡ record {
      stored = min (before.stored + counts.stored) last_count;
      refused = min (before.refused + counts.refused) last_count;
      full = min (before.full + counts.full) last_count;
    }
    → now ≡ tally_of (steps ++ recorded ∷ [])
tally_now steps recorded before now counts tally is added =
    let sum : Tally → StepCounts → Tally = λ t c. record {
      stored = min (t.stored + c.stored) last_count;
      refused = min (t.refused + c.refused) last_count;
      full = min (t.full + c.full) last_count;
    } in
    added ∙ (ap (λ t. sum t counts) tally ∙ (ap (λ c. sum (tally_of steps) c) is
    ∙ sym (tally_more steps recorded)))

adds_none : {D : Type 0} (pending : D → Option Pending) (archive : ArchiveState D)
    → Adds pending archive archive []
adds_none pending archive = λ entries h.
    subst (λ xs. Acknowledges pending archive xs) (sym (append-nil entries)) h

adds_both : {D : Type 0} (pending : D → Option Pending) (a b c : ArchiveState D)
    (xs ys zs : List Entry) → zs ≡ xs ++ ys → Adds pending a b xs → Adds pending b c ys
    → Adds pending a c zs
adds_both pending a b c xs ys zs is first second = λ entries h.
    subst (λ l. Acknowledges pending c l)
    (append_assoc entries xs ys ∙ ap (λ l. entries ++ l) (sym is))
    (second (entries ++ xs) (first entries h))

-- the entries that one accepted publishing published
published_one : (entries : List Entry) (reply : Reply) → reply ≡ accepted
    → published_by (publish entries) reply ++ [] ≡ entries
published_one entries reply is =
    ap (λ r. published_by (publish entries) r ++ []) is ∙ append-nil entries

module _ {D F : Type 0} (pending : D → Option Pending) (makes fails : D → DiskCall → D → Type 0)
    (answers : F → Option (List Answer)) (lock : Lock Opening) where
  pub went_none : (w : RecorderState D F) → Gains lock 0 [] w.pass w.pass
      → Went pending makes fails answers lock [] [] w w
  went_none w gains = record {
    chain = none w.archive w.frames;
    gains = gains;
    calls = refl;
    accepted = refl;
    acknowledged = adds_none pending w.archive;
  }

  pub went_more : (steps : List Recorded) (recorded : Recorded) (gained : List (Mark Event))
      (p q r : RecorderState D F) → Went pending makes fails answers lock steps gained p q
      → Steps pending makes fails answers recorded q.archive r.archive q.frames r.frames
      → (one : Publishes lock recorded.entries accepted q.pass r.pass)
      → Gains lock (length steps + 1)
      (gained ++ mark one.makes.before (called lock.origin one.makes.before
      (publish recorded.entries)) ∷ []) p.pass r.pass
      → Went pending makes fails answers lock (steps ++ recorded ∷ [])
      (gained ++ mark one.makes.before (called lock.origin one.makes.before
      (publish recorded.entries)) ∷ []) p r
  went_more steps recorded gained p q r so step one gains =
      let e = called lock.origin one.makes.before (publish recorded.entries) in
      let m : Mark Event = mark one.makes.before e in
      record {
        chain = more steps recorded p.archive q.archive r.archive p.frames q.frames r.frames
            so.chain step;
        gains = subst (λ n. Gains lock n (gained ++ m ∷ []) p.pass r.pass)
            (sym (length-append steps (recorded ∷ []))) gains;
        calls = map-append (λ (x : Mark Event). x.event.call) gained (m ∷ [])
            ∙ (ap (λ xs. xs ++ publish recorded.entries ∷ []) so.calls
            ∙ sym (map-append (λ (s : Recorded). publish s.entries) steps (recorded ∷ [])));
        accepted = ap published_in (map-append (λ (x : Mark Event). x.event) gained (m ∷ []))
            ∙ (flat_map-append (λ (x : Event). published_by x.call x.reply) (events_of gained)
            (e ∷ [])
            ∙ (ap (λ xs. xs ++ (published_by e.call e.reply ++ [])) so.accepted
            ∙ (ap (λ xs. stored_by steps ++ xs)
            (published_one recorded.entries e.reply one.replied)
            ∙ sym (stored_more steps recorded))));
        acknowledged = adds_both pending p.archive q.archive r.archive (stored_by steps)
            recorded.entries _ (stored_more steps recorded) so.acknowledged step.acknowledged;
      }

  -- the worker goes on: so many good steps were made, and it may make one more
  pub record Going (tally : Tally) (old new : RecorderState D F) : Type 0 where
    pub steps : List Recorded
    pub gained : List (Mark Event)
    pub went : Went pending makes fails answers lock steps gained old new
    pub tally_is : tally ≡ tally_of steps
    pub ready : IsReady lock new.pass
    pub left : 1 ≤ new.pass.left
    pub rests : new.archive.waiting ≡ []
    pub opened : new.archive.is_stale ≡ false

  -- A turn gains its event, and two runs gain what both did.
  module _ (one_turn : (call : Call) (p q : PassState Event Opening) → IsReady lock p
      → 0 < p.left → (makes : Makes lock call p q)
      → Gains lock 1 (mark makes.before (called lock.origin makes.before call) ∷ []) p q)
      (both_runs : (m n : ℕ) (xs ys : List (Mark Event)) (p q r : PassState Event Opening)
      → Gains lock m xs p q → Gains lock n ys q r → Gains lock (m + n) (xs ++ ys) p r) where
    pub went_on : (steps : List Recorded) (recorded : Recorded) (gained : List (Mark Event))
        (p q r : RecorderState D F) → Went pending makes fails answers lock steps gained p q
        → Steps pending makes fails answers recorded q.archive r.archive q.frames r.frames
        → (one : Publishes lock recorded.entries accepted q.pass r.pass)
        → IsReady lock q.pass → 0 < q.pass.left
        → Went pending makes fails answers lock (steps ++ recorded ∷ [])
        (gained ++ mark one.makes.before (called lock.origin one.makes.before
        (publish recorded.entries)) ∷ []) p r
    went_on steps recorded gained p q r so step one ready some =
        went_more steps recorded gained p q r so step one
        (both_runs (length steps) 1 gained _ p.pass q.pass r.pass so.gains
        (one_turn (publish recorded.entries) q.pass r.pass ready some one.makes))

    pub going_on : (before now : Tally) (counts : StepCounts) (p q r : RecorderState D F)
        → (so : Going before p q) → 1 < q.pass.left
        → (once : StepsOnce pending makes fails answers lock counts q r)
        → now ≡ record {
          stored = min (before.stored + counts.stored) last_count;
          refused = min (before.refused + counts.refused) last_count;
          full = min (before.full + counts.full) last_count;
        }
        → r.archive.waiting ≡ [] → r.archive.is_stale ≡ false
        → Going now p r
    going_on before now counts p q r so some once added rests opened =
        let went = went_on so.steps once.recorded so.gained p q r so.went once.steps
        once.publishes so.ready (omega (arith, some)) in
        let turn = one_turn (publish once.recorded.entries) q.pass r.pass so.ready
        (omega (arith, some)) once.publishes.makes in
        record {
          steps = so.steps ++ once.recorded ∷ [];
          gained = _;
          went = went;
          tally_is = tally_now so.steps once.recorded before now counts so.tally_is
              once.counts_are added;
          ready = turn.ready;
          left = let left = turn.left in omega (arith, left, some);
          rests = rests;
          opened = opened;
        }

    module _ (no_turn : (pass : PassState Event Opening) → IsReady lock pass
        → Gains lock 0 [] pass pass) (disk_faults : D → ℕ) (fails_to_read : D → D → Type 0)
        (source_faults : F → ℕ) where
      pub going_none : (w : RecorderState D F) → IsReady lock w.pass → 1 ≤ w.pass.left
          → w.archive.waiting ≡ [] → w.archive.is_stale ≡ false → Going (tally_of []) w w
      going_none w ready left rests opened = record {
        steps = [];
        gained = [];
        went = went_none w (no_turn w.pass ready);
        tally_is = refl;
        ready = ready;
        left = left;
        rests = rests;
        opened = opened;
      }

      -- the source's end came behind a step
      pub records_all : (before now : Tally) (counts : StepCounts) (p q r : RecorderState D F)
          → (so : Going before p q) → 1 < q.pass.left
          → (once : StepsOnce pending makes fails answers lock counts q r)
          → now ≡ record {
            stored = min (before.stored + counts.stored) last_count;
            refused = min (before.refused + counts.refused) last_count;
            full = min (before.full + counts.full) last_count;
          }
          → counts.last ≡ true
          → Records pending disk_faults makes fails fails_to_read answers source_faults lock
          (Ok now) p r
      records_all before now counts p q r so some once added last =
          let went = went_on so.steps once.recorded so.gained p q r so.went once.steps
          once.publishes so.ready (omega (arith, some)) in
          let turn = one_turn (publish once.recorded.entries) q.pass r.pass so.ready
          (omega (arith, some)) once.publishes.makes in
          record {
            steps = so.steps ++ once.recorded ∷ [];
            published = _;
            at = r;
            went = went;
            spent = 0;
            last = [];
            gains = both_runs _ 0 _ [] p.pass r.pass r.pass went.gains
                (no_turn r.pass turn.ready);
            ended = (
              refl,
              refl,
              refl,
              tally_now so.steps once.recorded before now counts so.tally_is once.counts_are added,
              (
                so.steps,
                once.recorded,
                refl,
                sym (ap (λ (c : StepCounts). c.last) once.counts_are) ∙ last,
              ),
            );
          }

      -- a step broke off
      pub records_broken : (fault : RecordingFault) (tally : Tally) (p q r : RecorderState D F)
          → (so : Going tally p q)
          → (breaks : Breaks pending disk_faults makes fails fails_to_read answers source_faults
          lock fault q r)
          → Records pending disk_faults makes fails fails_to_read answers source_faults lock
          (Err fault) p r
      records_broken fault tally p q r so breaks = record {
        steps = so.steps;
        published = so.gained;
        at = q;
        went = so.went;
        spent = breaks.spent;
        last = breaks.gained;
        gains = both_runs (length so.steps) breaks.spent so.gained breaks.gained p.pass q.pass
            r.pass so.went.gains breaks.gains;
        ended = breaks.why;
      }

      -- one turn is left
      pub records_spent : (tally : Tally) (p q : RecorderState D F) → (so : Going tally p q)
          → q.pass.left ≤ 1
          → Records pending disk_faults makes fails fails_to_read answers source_faults lock
          (Err TurnsSpent) p q
      records_spent tally p q so few = record {
        steps = so.steps;
        published = so.gained;
        at = q;
        went = so.went;
        spent = 0;
        last = [];
        gains = both_runs (length so.steps) 0 so.gained [] p.pass q.pass q.pass so.went.gains
            (no_turn q.pass so.ready);
        ended = (refl, refl, refl, let left = so.left in omega (arith, left, few));
      }
