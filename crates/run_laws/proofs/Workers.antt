-- The recorder's and the antenna's own events: nobody's asks, and the recorder's publishings
-- are what its archive acknowledges.
use mathlib.Core.List.{map-append}
use Rattle.std.proofs.Common.{◌≡◌, ℕ, suc, Bool, true, false, ◌&&◌, ◌||◌, List, [], ◌∷◌}
use Rattle.std.proofs.Common.{◌++◌, Option, None, Result, Ok, Err, All, map, filter, cond, inl, inr}
use Rattle.std.proofs.Common.{refl}
use Rattle.std.proofs.Common.{sym, ap, subst, ◌∙◌, append_assoc, append-nil, arith, true≢false}
use Rattle.std.proofs.lemmas.List.Elements.{filter-append}
use Rattle.std.proofs.lemmas.List.Folds.{list_any-append}
use Rattle.std.specs.List.{list_any}
use Rattle.cds_time.specs.declared.cds.Cds.{Cds}
use Rattle.archive_terms.specs.Archive.{Entry, is_archive, IsArchive, may_follow}
use Rattle.disk_model.specs.Images.{Pending}
use Rattle.disk_model.specs.declared.call.Call.{Call as DiskCall}
use Rattle.frame_archive.specs.State.{ArchiveState}
use Rattle.frame_archive.specs.Acknowledges.{Acknowledges}
use Rattle.gate_journal.proofs.Again.{archive_front}
use Rattle.recorder.specs.Feeds.{Answer}
use Rattle.recorder.specs.declared.recorded.Recorded.{Recorded}
use Rattle.turn_lock.specs.PassState.{PassState, Lock}
use Rattle.turn_lock.specs.Own.{mark}
use Rattle.turn_lock.specs.declared.view.Mark.{Mark}
use Rattle.station_book.specs.State.{Opening, Event, Call, publish, gone, take, done, interrupted}
use Rattle.station_turns.specs.Turned.{called}
use Rattle.station_turns.specs.Gained.{calls_of}
use Rattle.recorder_turns.specs.Steps as recorder
use Rattle.recorder_turns.specs.Steps.{RecorderState, stored_by}
use Rattle.recorder_turns.specs.Recording.{Records, Ends, IsForeign}
use Rattle.recorder_turns.specs.declared.tally.Tally.{Tally}
use Rattle.recorder_turns.specs.declared.recording_fault.RecordingFault.{RecordingFault}
use Rattle.recorder_turns.specs.declared.recording_fault.RecordingFault.TheVariants as fault
use Rattle.antenna_turns.specs.Steps.{Step, looked, radiated, broke_off, IsStep, marks_of, marks_in}
use Rattle.antenna_turns.specs.Radiating as antenna
use Rattle.antenna_turns.specs.declared.radiating.Radiated.{Radiated}
use Rattle.antenna_turns.specs.declared.radiating.TurnsSpent.{TurnsSpent}
use Rattle.station_run.specs.Workers.{RecordsAt, RadiatesAt}
use Rattle.run_laws.specs.Lossless.{is_foreign}
use Rattle.run_laws.proofs.Among.{events}
use Rattle.run_laws.proofs.Calls.{owner, AreFree, free_both, is_publish, or_none}
use Rattle.run_laws.proofs.Publishing.{joined, publishing, calls}

-- ---- the antenna's

no_one : (c : Call) (d : Call) → c ≡ d → owner d ≡ None → owner c ≡ None
no_one c d same free = ap owner same ∙ free

step_free : (s : Step) → IsStep s → AreFree (events (marks_of s))
step_free (looked m) is = (no_one m.event.call (take is.2.reading) is.2.call refl, tt)
step_free (radiated m octets n) is = (
  no_one m.event.call (take is.2.reading) is.2.call refl,
  (no_one n.event.call (done is.0 is.1 is.3.reading) is.3.call refl, tt),
)
step_free (broke_off m octets n) is = (
  no_one m.event.call (take is.2.reading) is.2.call refl,
  (no_one n.event.call (interrupted is.0 is.1 is.3.reading) is.3.call refl, tt),
)

step_quiet : (s : Step) → IsStep s
    → list_any (λ e. is_publish e.call) (events (marks_of s)) ≡ false
step_quiet (looked m) is = ap (λ (c : Call). is_publish c || false) is.2.call
step_quiet (radiated m octets n) is =
    ap (λ (c : Call). is_publish c || (is_publish n.event.call || false)) is.2.call
    ∙ ap (λ (c : Call). is_publish c || false) is.3.call
step_quiet (broke_off m octets n) is =
    ap (λ (c : Call). is_publish c || (is_publish n.event.call || false)) is.2.call
    ∙ ap (λ (c : Call). is_publish c || false) is.3.call

none_both : (p : Event → Bool) (xs ys : List Event) → list_any p xs ≡ false
    → list_any p ys ≡ false → list_any p (xs ++ ys) ≡ false
none_both p xs ys first second =
    list_any-append p xs ys ∙ or_none (list_any p xs) (list_any p ys) first second

pub record IsAntennas (es : List Event) : Type 0 where
  pub free : AreFree es
  pub quiet : list_any (λ e. is_publish e.call) es ≡ false

steps_are : (steps : List Step) → All IsStep steps → IsAntennas (events (marks_in steps))
steps_are [] right = record { free = tt; quiet = refl }
steps_are (s ∷ steps) right =
    let here : IsStep s = right 0 s (omega arith) in
    let rest = steps_are steps (λ k d lt. right (suc k) d (omega (arith, lt))) in
    let whole : events (marks_in (s ∷ steps)) ≡ events (marks_of s) ++ events (marks_in steps) =
    map-append (λ (m : Mark Event). m.event) (marks_of s) (marks_in steps) in record {
      free = subst AreFree (sym whole)
          (free_both (events (marks_of s)) (events (marks_in steps)) (step_free s here) rest.free);
      quiet = ap (list_any (λ (e : Event). is_publish e.call)) whole
          ∙ none_both (λ (e : Event). is_publish e.call) (events (marks_of s))
          (events (marks_in steps)) (step_quiet s here) rest.quiet;
    }

module _ {A C : Type 0} (sent : A → Option (List (List ℕ))) (faults : A → ℕ)
    (readings : C → Option (List Cds)) (lock : Lock Opening) where
  pub antenna_is : (number : ℕ) (ended : Result Radiated TurnsSpent)
      (old new : antenna.AntennaState A C)
      → RadiatesAt sent faults readings lock number ended old new
      → IsAntennas (events new.pass.own)
  antenna_is number ended old new r =
      let steps = r.radiates.steps in
      let works = r.radiates.works in
      let last = r.says_gone.last in
      let are = steps_are steps works.right in
      let own : new.pass.own ≡ marks_in steps ++ last ∷ [] =
      r.says_gone.own
      ∙ (ap (λ (ms : List (Mark Event)). ms ++ last ∷ []) works.gains.own
      ∙ ap (λ (ms : List (Mark Event)). (ms ++ marks_in steps) ++ last ∷ []) r.no_events) in
      let whole : events new.pass.own ≡ events (marks_in steps) ++ last.event ∷ [] =
      ap events own ∙ map-append (λ (m : Mark Event). m.event) (marks_in steps) (last ∷ []) in
      record {
        free = subst AreFree (sym whole)
            (free_both (events (marks_in steps)) (last.event ∷ []) are.free
            (ap owner r.says_gone.is_gone, tt));
        quiet = ap (list_any (λ (e : Event). is_publish e.call)) whole
            ∙ none_both (λ (e : Event). is_publish e.call) (events (marks_in steps))
            (last.event ∷ []) are.quiet (ap (λ (c : Call). is_publish c || false)
            r.says_gone.is_gone);
      }

-- ---- the recorder's

-- A recorder's events: it published these, and said that it is gone. With the entries that its
-- archive had acknowledged these are an archive, and none was refused unless it ended so.
pub record IsRecorders {D : Type 0} (pending : D → Option Pending) (archive : ArchiveState D)
    (ended : Result Tally RecordingFault) (es : List Event) : Type 0 where
  pub lists : List (List Entry)
  pub published : List Event
  pub calls_are : calls published ≡ map publish lists
  pub last : Event
  pub is_gone : (number : ℕ) × (last.call ≡ gone number)
  pub own : es ≡ published ++ last ∷ []
  pub is_archive : (entries : List Entry) → Acknowledges pending archive entries
      → IsArchive (entries ++ joined lists)
  pub refused : ended ≡ Err fault.Foreign
      → list_any (λ e. is_foreign e.reply) published ≡ true

-- what steps stored, step by step
abbrev stored : List Recorded → List (List Entry)
stored steps = map (λ step. step.entries) steps

stored_joined : (steps : List Recorded) → joined (stored steps) ≡ stored_by steps
stored_joined [] = refl
stored_joined (step ∷ steps) =
    ap (λ (xs : List Entry). step.entries ++ xs) (stored_joined steps)

publishings_are : (steps : List Recorded)
    → recorder.publishings steps ≡ map publish (stored steps)
publishings_are [] = refl
publishings_are (step ∷ steps) =
    ap (λ (cs : List Call). publish step.entries ∷ cs) (publishings_are steps)

calls_are : (ms : List (Mark Event)) → calls_of ms ≡ calls (events ms)
calls_are [] = refl
calls_are (m ∷ ms) = ap (λ (cs : List Call). m.event.call ∷ cs) (calls_are ms)

joined_both : (xs ys : List (List Entry)) → joined (xs ++ ys) ≡ joined xs ++ joined ys
joined_both [] ys = refl
joined_both (x ∷ xs) ys =
    ap (λ (zs : List Entry). x ++ zs) (joined_both xs ys)
    ∙ sym (append_assoc x (joined xs) (joined ys))

refused_last : (xs : List Event) (e : Event) → is_foreign e.reply ≡ true
    → list_any (λ e. is_foreign e.reply) (xs ++ e ∷ []) ≡ true
refused_last [] e is = ap (λ (b : Bool). b || false) is
refused_last (x ∷ xs) e is = or_true (is_foreign x.reply) _ (refused_last xs e is)
  where
    or_true : (a b : Bool) → b ≡ true → (a || b) ≡ true
    or_true a b is = grind arith

module _ {D F : Type 0} (pending : D → Option Pending) (disk_faults : D → ℕ)
    (makes fails : D → DiskCall → D → Type 0) (fails_to_read : D → D → Type 0)
    (answers : F → Option (List Answer)) (source_faults : F → ℕ) (lock : Lock Opening)
    (grows : (a : List Entry) (e : Entry)
    → is_archive (a ++ e ∷ []) ≡ (is_archive a && may_follow a e)) where
  -- what a worker's pass has, before it says that it is gone
  record Came (ended : Result Tally RecordingFault) (old new : RecorderState D F) : Type 0 where
    lists : List (List Entry)
    calls_are : calls (events new.pass.own) ≡ map publish lists
    is_archive : (entries : List Entry) → Acknowledges pending old.archive entries
        → IsArchive (entries ++ joined lists)
    refused : ended ≡ Err fault.Foreign
        → list_any (λ e. is_foreign e.reply) (events new.pass.own) ≡ true

  abbrev Recorder : Result Tally RecordingFault → RecorderState D F → RecorderState D F → Type 0
  Recorder ended old new = Records pending disk_faults makes fails fails_to_read answers
      source_faults lock ended old new

  module _ (ended : Result Tally RecordingFault) (old new : RecorderState D F)
      (r : Recorder ended old new) (fresh : old.pass.own ≡ []) where
    abbrev steps_calls : calls (events r.published) ≡ map publish (stored r.steps)
    steps_calls =
        sym (calls_are r.published) ∙ (r.went.calls ∙ publishings_are r.steps)

    acknowledged : (entries : List Entry) → Acknowledges pending old.archive entries
        → IsArchive (entries ++ joined (stored r.steps))
    acknowledged entries before =
        subst (λ (xs : List Entry). IsArchive (entries ++ xs)) (sym (stored_joined r.steps))
        (archive_front grows (entries ++ stored_by r.steps) _
        (r.went.acknowledged entries before).agrees.archive)

    -- nothing behind the good steps
    came_so : r.last ≡ [] → (ended ≡ Err fault.Foreign → ⊥) → Came ended old new
    came_so none other = record {
      lists = stored r.steps;
      calls_are =
          ap (λ (ms : List (Mark Event)). calls (events ms))
          (r.gains.own
          ∙ (ap (λ (ms : List (Mark Event)). ms ++ (r.published ++ r.last)) fresh
          ∙ (ap (λ (ms : List (Mark Event)). r.published ++ ms) none
          ∙ append-nil r.published)))
          ∙ steps_calls;
      is_archive = acknowledged;
      refused = λ is. absurd (other is);
    }

    -- a publishing that was refused
    came_foreign : IsForeign pending disk_faults makes fails fails_to_read answers source_faults
        lock r.spent r.last r.at new → Came ended old new
    came_foreign f =
        let own_call = publish f.recorded.entries in
        let before = f.refused.makes.before in
        let e = called lock.origin before own_call in
        let own : new.pass.own ≡ r.published ++ mark before e ∷ [] =
        ap (λ (p : PassState Event Opening). p.own) f.refused.makes.pass
        ∙ (ap (λ (ms : List (Mark Event)). ms ++ mark before e ∷ []) r.went.gains.own
        ∙ ap (λ (ms : List (Mark Event)). (ms ++ r.published) ++ mark before e ∷ []) fresh) in
        let whole : events new.pass.own ≡ events r.published ++ e ∷ [] =
        ap events own ∙ map-append (λ (m : Mark Event). m.event) r.published (mark before e ∷ []) in
        record {
          lists = stored r.steps ++ f.recorded.entries ∷ [];
          calls_are =
              ap calls whole
              ∙ (map-append (λ (x : Event). x.call) (events r.published) (e ∷ [])
              ∙ (ap (λ (cs : List Call). cs ++ own_call ∷ []) steps_calls
              ∙ sym (map-append publish (stored r.steps) (f.recorded.entries ∷ []))));
          is_archive = λ entries acks.
              let first = r.went.acknowledged entries acks in
              let all = (f.steps.acknowledged (entries ++ stored_by r.steps) first).agrees.archive
              in let front = archive_front grows
              ((entries ++ stored_by r.steps) ++ f.recorded.entries) _ all in
              subst IsArchive
              (append_assoc entries (stored_by r.steps) f.recorded.entries
              ∙ ap (λ (xs : List Entry). entries ++ xs)
              (ap (λ (xs : List Entry). xs ++ f.recorded.entries) (sym (stored_joined r.steps))
              ∙ (ap (λ (xs : List Entry). joined (stored r.steps) ++ xs)
              (sym (append-nil f.recorded.entries))
              ∙ sym (joined_both (stored r.steps) (f.recorded.entries ∷ []))))) front;
          refused = λ is.
              ap (list_any (λ (x : Event). is_foreign x.reply)) whole
              ∙ refused_last (events r.published) e (ap is_foreign f.refused.replied);
        }

  came : (ended : Result Tally RecordingFault) (old new : RecorderState D F)
      → Recorder ended old new → old.pass.own ≡ [] → Came ended old new
  came (Ok tally) old new r fresh = came_so (Ok tally) old new r fresh r.ended.1 (λ e. cc e)
  came (Err fault.SourceFault) old new r fresh =
      came_so (Err fault.SourceFault) old new r fresh r.ended.0.no_turn.1 (λ e. cc e)
  came (Err fault.DiskFault) old new r fresh =
      came_so (Err fault.DiskFault) old new r fresh r.ended.no_turn.1 (λ e. cc e)
  came (Err (fault.Refused why)) old new r fresh =
      came_so (Err (fault.Refused why)) old new r fresh r.ended.0.no_turn.1 (λ e. cc e)
  came (Err fault.Foreign) old new r fresh =
      came_foreign (Err fault.Foreign) old new r fresh r.ended
  came (Err fault.TurnsSpent) old new r fresh =
      came_so (Err fault.TurnsSpent) old new r fresh r.ended.1 (λ e. cc e)
  came (Err fault.Memory) old new r fresh =
      came_so (Err fault.Memory) old new r fresh (none_last r.ended) (λ e. cc e)
    where
      none_last : Ends pending disk_faults makes fails fails_to_read answers source_faults lock
          (Err fault.Memory) r.steps r.spent r.last r.at new → r.last ≡ []
      none_last (inl nothing) = nothing.no_turn.1
      none_last (inr unpublished) = unpublished.one_turn.1

  pub recorder_is : (number : ℕ) (ended : Result Tally RecordingFault)
      (old new : RecorderState D F)
      → RecordsAt pending disk_faults makes fails fails_to_read answers source_faults lock number
      ended old new
      → old.pass.own ≡ [] → IsRecorders pending old.archive ended (events new.pass.own)
  recorder_is number ended old new r fresh =
      let at = recorder.worker new.archive new.frames r.at in
      let c = came ended old at r.records fresh in record {
        lists = c.lists;
        published = events r.at.own;
        calls_are = c.calls_are;
        last = r.says_gone.last.event;
        is_gone = (number, r.says_gone.is_gone);
        own =
            ap events r.says_gone.own
            ∙ map-append (λ (m : Mark Event). m.event) r.at.own (r.says_gone.last ∷ []);
        is_archive = c.is_archive;
        refused = c.refused;
      }

-- ---- what follows of a recorder's events

free_published : (es : List Event) (lists : List (List Entry)) → calls es ≡ map publish lists
    → AreFree es
free_published [] lists is = tt
free_published (e ∷ es) [] is = absurd (cc is)
free_published (e ∷ es) (xs ∷ lists) is =
    let call_is : e.call ≡ publish xs = cc is in
    (ap owner call_is, free_published es lists (cc is))

all_published : (es : List Event) (lists : List (List Entry)) → calls es ≡ map publish lists
    → filter publishing es ≡ es
all_published [] lists is = refl
all_published (e ∷ es) [] is = absurd (cc is)
all_published (e ∷ es) (xs ∷ lists) is =
    let call_is : e.call ≡ publish xs = cc is in
    ap (λ (c : Call). cond (is_publish c) (e ∷ filter publishing es) (filter publishing es)) call_is
    ∙ ap (λ (ys : List Event). e ∷ ys) (all_published es lists (cc is))

module _ {D : Type 0} (pending : D → Option Pending) (archive : ArchiveState D)
    (ended : Result Tally RecordingFault) (es : List Event)
    (r : IsRecorders pending archive ended es) where
  pub recorder_free : AreFree es
  recorder_free = subst AreFree (sym r.own)
      (free_both r.published (r.last ∷ []) (free_published r.published r.lists r.calls_are)
      (ap owner r.is_gone.1, tt))

  pub recorder_publishes : calls (filter publishing es) ≡ map publish r.lists
  recorder_publishes =
      ap (λ (xs : List Event). calls (filter publishing xs)) r.own
      ∙ (ap calls (filter-append publishing r.published (r.last ∷ [])
      ∙ (ap (λ (xs : List Event). xs ++ filter publishing (r.last ∷ []))
      (all_published r.published r.lists r.calls_are)
      ∙ (ap (λ (c : Call). r.published ++ cond (is_publish c) (r.last ∷ []) []) r.is_gone.1
      ∙ append-nil r.published)))
      ∙ r.calls_are)

  -- none refused of all is none of its own, and so it didn't end so
  pub recorder_goes : list_any (λ e. is_foreign e.reply) es ≡ false → ended ≡ Err fault.Foreign → ⊥
  recorder_goes none is =
      let here : list_any (λ (e : Event). is_foreign e.reply) r.published ≡ false =
      first_none r.published (r.last ∷ [])
      (ap (list_any (λ (e : Event). is_foreign e.reply)) (sym r.own) ∙ none) in
      true≢false (sym (r.refused is) ∙ here)
    where
      left_none : (a b : Bool) → (a || b) ≡ false → a ≡ false
      left_none true b e = absurd (cc e)
      left_none false b e = refl

      first_none : (xs ys : List Event)
          → list_any (λ (e : Event). is_foreign e.reply) (xs ++ ys) ≡ false
          → list_any (λ (e : Event). is_foreign e.reply) xs ≡ false
      first_none xs ys none =
          left_none _ (list_any (λ (e : Event). is_foreign e.reply) ys)
          (sym (list_any-append (λ (e : Event). is_foreign e.reply) xs ys) ∙ none)
