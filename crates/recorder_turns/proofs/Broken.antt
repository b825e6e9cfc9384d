-- A step whose entries weren't published.
use Rattle.std.proofs.Common.{◌≡◌, ◌⊎◌, inl, inr, ℕ, Option, List, [], ◌∷◌, Result, Ok, Err, IfErr}
use Rattle.std.proofs.Common.{refl, ap, sym, subst}
use Rattle.std.specs.Prelude.{IsErrOf}
use Rattle.disk_model.specs.Images.{Pending}
use Rattle.disk_model.specs.declared.call.Call.{Call as DiskCall}
use Rattle.recorder.specs.Feeds.{Answer}
use Rattle.recorder.specs.declared.recorded.Recorded.{Recorded}
use Rattle.turn_lock.specs.PassState.{PassState, Lock}
use Rattle.turn_lock.specs.Own.{mark}
use Rattle.turn_lock.specs.declared.view.Mark.{Mark}
use Rattle.station_book.specs.State.{Opening, Event, Call, publish, foreign}
use Rattle.station_turns.specs.Turned.{called, Makes, Publishes, Leaves}
use Rattle.station_turns.specs.Gained.{Gains}
use Rattle.recorder_turns.specs.Steps.{RecorderState, Steps}
use Rattle.recorder_turns.specs.Recording.{Breaks}
use Rattle.recorder_turns.specs.declared.step.StepCounts.{StepCounts}
use Rattle.recorder_turns.specs.declared.recording_fault.RecordingFault.{RecordingFault}
use Rattle.recorder_turns.specs.declared.recording_fault.RecordingFault.TheVariants.{Foreign}
use Rattle.recorder_turns.specs.declared.recording_fault.RecordingFault.TheVariants.{Memory}

module _ {D F : Type 0} (pending : D → Option Pending) (disk_faults : D → ℕ)
    (makes fails : D → DiskCall → D → Type 0) (fails_to_read : D → D → Type 0)
    (answers : F → Option (List Answer)) (source_faults : F → ℕ) (lock : Lock Opening) where
  pub broke_published : (result : Result StepCounts RecordingFault) (recorded : Recorded)
      (p q : RecorderState D F)
      → Steps pending makes fails answers recorded p.archive q.archive p.frames q.frames
      → ((call : Call) → (made : Makes lock call p.pass q.pass)
      → Gains lock 1 (mark made.before (called lock.origin made.before call) ∷ []) p.pass q.pass)
      → (Leaves lock p.pass q.pass → Gains lock 1 [] p.pass q.pass)
      → (IsErrOf result Foreign → Publishes lock recorded.entries foreign p.pass q.pass)
      → (IsErrOf result Memory → Leaves lock p.pass q.pass)
      → IfErr result (λ fault. (fault ≡ Foreign) ⊎ (fault ≡ Memory))
      → IfErr result (λ fault. Breaks pending disk_faults makes fails fails_to_read answers
      source_faults lock fault p q)
  broke_published (Ok counts) recorded p q steps one left refused wanted faults = tt
  broke_published (Err fault) recorded p q steps one left refused wanted (inl is) =
      let published = refused (ap Err is) in
      subst (λ f. Breaks pending disk_faults makes fails fails_to_read answers source_faults lock f
      p q) (sym is) (record {
        spent = 1;
        gained = mark published.makes.before (called lock.origin published.makes.before
            (publish recorded.entries)) ∷ [];
        gains = one (publish recorded.entries) published.makes;
        why = record {
          recorded = recorded;
          steps = steps;
          refused = published;
          one_turn = (refl, refl);
        };
      })
  broke_published (Err fault) recorded p q steps one left refused wanted (inr is) =
      let leaves = wanted (ap Err is) in
      subst (λ f. Breaks pending disk_faults makes fails fails_to_read answers source_faults lock f
      p q) (sym is) (record {
        spent = 1;
        gained = [];
        gains = left leaves;
        why = inr (record {
          recorded = recorded;
          steps = steps;
          left_turn = leaves;
          one_turn = (refl, refl);
        });
      })
