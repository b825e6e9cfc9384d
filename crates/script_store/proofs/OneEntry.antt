-- What a step of the recorder does with a source of one entry.
use Rattle.std.proofs.Common.{◌≡◌, ◌⊎◌, inl, inr, ◌==◌, ◌+◌, ℕ, Bool, true, false, Option, Some}
use Rattle.std.proofs.Common.{None, List, [], ◌∷◌, ◌++◌, length, map, take, Result, Ok, Err, IfOk}
use Rattle.std.proofs.Common.{IfErr, IsErrOf, if◌then◌else◌, refl, sym, ap, subst, ◌∙◌, arith}
use Rattle.std.proofs.Math.Seq.{take-nil}
use Rattle.std.proofs.lemmas.List.{append-nil}
use Rattle.archive_terms.specs.Archive.{Entry}
use Rattle.disk_model.specs.MemoryDisk.{DiskState, IsImageSince, IsMadeCall, IsFailedCall}
use Rattle.disk_model.specs.Throughout.{weaker}
use Rattle.gate_journal.specs.File.{StandsFor}
use Rattle.gate_journal.specs.JournalState.{IsOldOrNew}
use Rattle.frame_archive.specs.State.{ArchiveState}
use Rattle.frame_archive.specs.Acknowledges.{Acknowledges}
use Rattle.recorder.specs.declared.recorded.Recorded.{Recorded}
use Rattle.recorder.specs.declared.record_fault.RecordFault.{RecordFault}
use Rattle.recorder.specs.declared.record_fault.RecordFault.TheVariants as faults
use Rattle.recorder.specs.Feeds.{Answer, gave, not_yet, at_end}
use Rattle.recorder.specs.Polling.{IsPolled, Gave}
use Rattle.recorder.specs.Offers.{offered_to, after_offers}
use Rattle.recorder.specs.Steps.{TellsOffered, IsStored}
use Rattle.octet_core.specs.Told.{Tells}
use Rattle.script_store.specs.IsHeld.{told_by, Throughout}
use Rattle.script_store.specs.OneEntry.{SourceState, answered, answers_of}
use Rattle.script_store.specs.Storing.{taken_of, StoresOne, IsLeftHere, HoldsThen}
use Rattle.script_store.specs.Storing.{LeavesOne}
use Rattle.script_store.specs.Unmoved.{unmoved}
use Rattle.script_store.proofs.Disks.{moment_of}

-- ---- what it answers

abbrev entry_in : Entry → Answer → Entry
entry_in other (gave entry) = entry
entry_in other _ = other

abbrev first_of : Answer → List Answer → Answer
first_of other [] = other
first_of other (answer ∷ answers) = answer

-- no entries but the one stand in front of what it answered
pub one_gave : (one : Entry) (given ended : Bool) (polled : List Entry) (behind : List Answer)
    → answered one given ended ≡ map gave polled ++ behind
    → (polled ≡ []) ⊎ (polled ≡ one ∷ [])
one_gave one given ended [] behind is = inl refl
one_gave one true ended (first ∷ []) behind is =
    inr (ap (λ (a : Answer). entry_in one a ∷ []) (sym (ap (first_of not_yet) is)))
one_gave one false ended (first ∷ others) behind is = absurd cc
one_gave one true false (first ∷ second ∷ others) behind is = absurd cc
one_gave one true true (first ∷ second ∷ others) behind is = absurd cc

-- a step that is Ok polled the one
one_polled : (one : Entry) (given ended last : Bool) (polled : List Entry)
    → IsPolled last polled (Some []) (Some (answered one given ended)) → polled ≡ one ∷ []
one_polled one given ended true [] is = absurd (let e = is.1 in grind (arith, e))
one_polled one given ended true (first ∷ others) is =
    elim (one_gave one given ended (first ∷ others) (at_end ∷ []) is.1) [
      | inl none ↦ absurd cc
      | inr same ↦ same
    ]
one_polled one given ended false [] (inl is) = absurd (let e = is.1 in grind (arith, e))
one_polled one given ended false (first ∷ others) (inl is) =
    elim (one_gave one given ended (first ∷ others) (not_yet ∷ []) is.1) [
      | inl none ↦ absurd cc
      | inr same ↦ same
    ]
one_polled one given ended false polled (inr is) =
    elim (one_gave one given ended polled [] (is.1 ∙ sym (append-nil (map gave polled)))) [
      | inl none ↦ absurd (omega (arith, is.0, ap length none))
      | inr same ↦ same
    ]

-- until it fails it tells all its answers
told_all : (one : Entry) (source : SourceState) → source.faults ≡ 0
    → answers_of one source ≡ Some (answered one source.is_given source.is_ended)
told_all one source sound =
    ap (λ (n : ℕ). if n == 0 then Some (answered one source.is_given source.is_ended) else None)
    sound

-- ---- what a step of it is

module _ (old new : ArchiveState DiskState) (one : Entry) (source : SourceState) where
  pub stored_one : (result : Result Recorded RecordFault)
      → IsErrOf result faults.SourceFault ⊎ (source.faults ≡ 0)
      → IfOk result (λ recorded. (polled : List Entry)
      × IsPolled recorded.last polled (Some []) (answers_of one source)
      × (length recorded.entries + recorded.refused + recorded.full ≡ length polled)
      × IsStored told_by IsMadeCall IsFailedCall recorded.reopened (offered_to old polled) new
      recorded
      × ((entries : List Entry) → Acknowledges told_by old entries
      → TellsOffered (offered_to old polled) recorded))
      → IfOk result (λ recorded. StoresOne old one new recorded)
  stored_one (Ok recorded) (inl fault) answer = absurd cc
  stored_one (Ok recorded) (inr sound) answer =
      let same : answer.0 ≡ one ∷ [] = one_polled one source.is_given source.is_ended recorded.last
      answer.0 (subst (λ (told : Option (List Answer)). IsPolled recorded.last answer.0 (Some [])
      told) (told_all one source sound) answer.1) in (
        subst (λ (polled : List Entry). IsStored told_by IsMadeCall IsFailedCall
            recorded.reopened (offered_to old polled) new recorded) same answer.3,
        subst (λ (polled : List Entry). (entries : List Entry) → Acknowledges told_by old entries
            → TellsOffered (offered_to old polled) recorded) same answer.4,
      )
  stored_one (Err fault) is answer = answer

  -- it was given one entry at most
  few : (polled : List Entry) → source.faults ≡ 0 → Gave polled (Some []) (answers_of one source)
      → (polled ≡ []) ⊎ (polled ≡ one ∷ [])
  few polled sound gave_is =
      one_gave one source.is_given source.is_ended polled gave_is.0
      (subst (λ (told : Option (List Answer)). Tells (Some []) told (map gave polled ++ gave_is.0))
      (told_all one source sound) gave_is.2)

  left_few : (fault : RecordFault) → source.faults ≡ 0
      → (polled : List Entry) × Gave polled (Some []) (answers_of one source)
      × IsLeftHere fault old polled new → LeavesOne fault old one new
  left_few fault sound left = record {
    polled = left.0;
    at_most_one = few left.0 sound left.1;
    left = left.2;
  }

  unless : (result : Result Recorded RecordFault) → (IsErrOf result faults.SourceFault → ⊥)
      → IsErrOf result faults.SourceFault ⊎ (source.faults ≡ 0) → source.faults ≡ 0
  unless result other (inr sound) = sound
  unless result other (inl of_source) = absurd (other of_source)

  pub left_one : (result : Result Recorded RecordFault)
      → IsErrOf result faults.SourceFault ⊎ (source.faults ≡ 0)
      → IfErr result (λ fault. (polled : List Entry) × Gave polled (Some []) (answers_of one source)
      × IsLeftHere fault old polled new)
      → IfErr result (λ fault. LeavesOne fault old one new)
  left_one (Ok recorded) is left = left
  left_one (Err faults.SourceFault) is left = record {
    polled = [];
    at_most_one = inl refl;
    left = left.2;
  }
  left_one (Err faults.DiskFault) is left =
      left_few faults.DiskFault (unless (Err faults.DiskFault) (λ e. absurd cc) is) left
  left_one (Err (faults.Refused why)) is left =
      left_few (faults.Refused why) (unless (Err (faults.Refused why)) (λ e. absurd cc) is) left
  left_one (Err faults.Memory) is left =
      left_few faults.Memory (unless (Err faults.Memory) (λ e. absurd cc) is) left

  -- where nothing waited, no batch may be there
  only_old : (entries batch : List Entry) (image : List ℕ) → old.waiting ≡ []
      → IsOldOrNew entries (take old.failed old.waiting) image → IsOldOrNew entries batch image
  only_old entries batch image none (inl is) = inl is
  only_old entries batch image none (inr is) =
      inl (subst (λ (es : List Entry). StandsFor es image)
      (ap (λ (es : List Entry). entries ++ take old.failed es) none
      ∙ ap (λ (es : List Entry). entries ++ es) (take-nil old.failed) ∙ append-nil entries) is)

  none_new : (entries batch : List Entry) (image : List ℕ) → old.waiting ≡ []
      → IsOldOrNew entries (offered_to old []).archive.waiting image
      → IsOldOrNew entries batch image
  unfolding after_offers
  none_new entries batch image none (inl is) = inl is
  none_new entries batch image none (inr is) =
      inl (subst (λ (es : List Entry). StandsFor es image)
      (ap (λ (es : List Entry). entries ++ es) none ∙ append-nil entries) is)

  pub images_one : (result : Result Recorded RecordFault) → old.waiting ≡ []
      → IsErrOf result faults.SourceFault ⊎ (source.faults ≡ 0)
      → (IsErrOf result faults.SourceFault → new ≡ old)
      → (polled : List Entry) × Gave polled (Some []) (answers_of one source)
      × HoldsThen old (offered_to old polled).archive.waiting new
      → HoldsThen old (taken_of old one) new
  images_one result none (inl fault) nothing any entries was =
      subst (λ (a : ArchiveState DiskState). Throughout old.disk a.disk
      (IsOldOrNew entries (taken_of old one))) (sym (nothing fault))
      (unmoved old.disk (IsOldOrNew entries (taken_of old one))
      (λ image is. only_old entries (taken_of old one) image none (was.images image is)))
  images_one result none (inr sound) nothing any entries was =
      elim (few any.0 sound any.1) [
        | inl nil ↦ weaker moment_of IsImageSince old.disk new.disk
            (IsOldOrNew entries (offered_to old []).archive.waiting)
            (IsOldOrNew entries (taken_of old one))
            (λ image is. none_new entries (taken_of old one) image none is)
            (subst (λ (polled : List Entry). Throughout old.disk new.disk
            (IsOldOrNew entries (offered_to old polled).archive.waiting)) nil (any.2 entries was))
        | inr same ↦ subst (λ (polled : List Entry). Throughout old.disk new.disk
            (IsOldOrNew entries (offered_to old polled).archive.waiting)) same (any.2 entries was)
      ]
