-- A run as a list of events of a world.
use mathlib.Core.List.{map-append}
use Rattle.std.proofs.Common.{◌≡◌, ℕ, ◌+◌, ◌≤◌, Option, Some, None, IfSome, Result, Ok, Err}
use Rattle.std.proofs.Common.{inl, inr, List, [], ◌∷◌, ◌++◌, length, refl, sym, ap, subst, ◌∙◌}
use Rattle.std.proofs.Common.{append-nil, arith}
use Rattle.cds_time.specs.declared.cds.Cds.{Cds}
use Rattle.archive_terms.specs.Archive.{Entry}
use Rattle.disk_model.specs.Images.{Pending}
use Rattle.disk_model.specs.declared.call.Call.{Call as DiskCall}
use Rattle.frame_archive.specs.State.{ArchiveState}
use Rattle.frame_archive.specs.Acknowledges.{Acknowledges, Uses}
use Rattle.recorder.specs.Feeds.{Answer}
use Rattle.recorder.specs.declared.recorded.Recorded.{Recorded}
use Rattle.link_model.specs.declared.call.Call.{Call as LinkCall}
use Rattle.door_model.specs.Shown.{Shown}
use Rattle.turn_lock.specs.PassState.{Lock}
use Rattle.turn_lock.specs.declared.view.Mark.{Mark}
use Rattle.station_config.specs.Validity.{IsSite}
use Rattle.station_config.specs.declared.site.Site.{Site}
use Rattle.station_book.specs.State.{Opening, opened, Event as Answered}
use Rattle.station_book.specs.Origin.{opening_of}
use Rattle.station_book.specs.History.{IsLegal}
use Rattle.station_seats.specs.Seats.{owns_of}
use Rattle.station_turns.specs.Gained.{calls_of}
use Rattle.recorder_turns.specs.Steps as recorder
use Rattle.recorder_turns.specs.Steps.{RecorderState, stored_by, publishings}
use Rattle.recorder_turns.specs.Recording.{Ends}
use Rattle.recorder_turns.specs.declared.tally.Tally.{Tally}
use Rattle.recorder_turns.specs.declared.recording_fault.RecordingFault.{RecordingFault}
use Rattle.recorder_turns.specs.declared.recording_fault.RecordingFault.TheVariants as fault
use Rattle.antenna_turns.specs.Steps.{Step, sent_in, marks_in}
use Rattle.station_run.specs.Ran.{Outside, RanOver}
use Rattle.station_run.specs.declared.report.RunReport.{RunReport}
use Rattle.station_world.specs.File.{File, Finding, found_by}
use Rattle.station_world.specs.Life.{born}
use Rattle.station_world.specs.World.{World, Event, restarts, restarted}
use Rattle.station_world.specs.World.{after_events}
use Rattle.station_world.specs.Comes.{AllCome}
use Rattle.station_world.specs.Calls.{Leads}
use Rattle.station_world.specs.Archives.{Holds, StandsForOne, ArchiveLaw}
use Rattle.run_laws.specs.Lossless.{RunsAreLossless}
use Rattle.run_laws.proofs.Among.{events}
use Rattle.run_laws.proofs.Doors.{AreDoors, doors_are}
use Rattle.run_events.specs.Stores.{Tail}
use Rattle.run_events.specs.Turns.{events_of, turns_with, is_recorders, RecordsIn}
use Rattle.run_events.specs.Runs.{station_of, events_of_run, LeadsTo, IsEvents, RunsAreEvents}
use Rattle.run_events.specs.Laws.{Laws}
use Rattle.run_events.proofs.Leading.{leads_on, at_rest}
use Rattle.run_events.proofs.Calling.{going}
use Rattle.run_events.proofs.Recording.{Rests, Ahead, ChainGoes, chain_goes, Ended, ended_so}
use Rattle.run_events.proofs.Walking.{records, calls_in, Walked, walk, end_file}
use Rattle.run_events.proofs.Owning.{IsRecorders, IsAntennas, each_right, as_many, AreTheirs, whose}

-- ---- the recorder's own events

calls_are : (ms : List (Mark Answered)) → calls_in (events ms) ≡ calls_of ms
calls_are [] = refl
calls_are (m ∷ ms) = ap (λ cs. m.event.call ∷ cs) (calls_are ms)

module _ {D F : Type 0} (pending : D → Option Pending) (disk_faults : D → ℕ)
    (makes fails : D → DiskCall → D → Type 0) (fails_to_read : D → D → Type 0)
    (answers : F → Option (List Answer)) (source_faults : F → ℕ) (lock : Lock Opening) where
  -- nothing was gained behind the good steps
  none_last : (ended : Result Tally RecordingFault) (steps : List Recorded) (spent : ℕ)
      (last : List (Mark Answered)) (at new : RecorderState D F)
      → (ended ≡ Err fault.Foreign → ⊥)
      → Ends pending disk_faults makes fails fails_to_read answers source_faults lock ended steps
      spent last at new
      → last ≡ []
  none_last (Ok tally) steps spent last at new own e = e.1
  none_last (Err fault.SourceFault) steps spent last at new own e = e.0.no_turn.1
  none_last (Err fault.DiskFault) steps spent last at new own e = e.no_turn.1
  none_last (Err (fault.Refused why)) steps spent last at new own e = e.0.no_turn.1
  none_last (Err fault.Foreign) steps spent last at new own e = absurd (own refl)
  none_last (Err fault.TurnsSpent) steps spent last at new own e = e.1
  none_last (Err fault.Memory) steps spent last at new own (inl e) = e.no_turn.1
  none_last (Err fault.Memory) steps spent last at new own (inr e) = e.one_turn.1

-- ---- runs

module _ {D F A G L C : Type 0} (pending : D → Option Pending) (disk_faults moment : D → ℕ)
    (images_since : D → ℕ → List ℕ → Type 0) (makes fails : D → DiskCall → D → Type 0)
    (fails_to_read : D → D → Type 0) (answers : F → Option (List Answer)) (source_faults : F → ℕ)
    (sent : A → Option (List (List ℕ))) (antenna_faults : A → ℕ) (shown : G → Option Shown)
    (door_faults : G → ℕ) (calls : L → Option (List LinkCall)) (link_faults : L → ℕ)
    (readings : C → Option (List Cds)) (laws : Laws) (archives : ArchiveLaw pending)
    (lossless : RunsAreLossless pending disk_faults moment images_since makes fails fails_to_read
    answers source_faults sent antenna_faults shown door_faults calls link_faults readings) where
  module _ (site : Site) (turns links draw : ℕ) (disk disk_now : D) (old new : Outside F A G C)
      (report : RunReport) (valid : IsSite site)
      (over : RanOver pending disk_faults moment images_since makes fails fails_to_read answers
      source_faults sent antenna_faults shown door_faults calls link_faults readings site turns
      links draw disk disk_now old new report) (told : Pending) (w : World)
      (is_told : pending disk ≡ Some told) (none_lives : w.now ≡ None)
      (stands : StandsForOne w.file told.content) where
    abbrev number : ℕ
    number = length old.doors

    abbrev o : Opening
    o = station_of site number

    abbrev origin : Opening
    origin = opening_of site over.entries (number + 1)

    abbrev h : List Answered
    h = report.pass.seen

    abbrev recorded : List Recorded
    recorded = over.ran.records.records.steps

    abbrev steps : List Step
    steps = over.ran.radiates.radiates.steps

    -- ---- the recorder and its archive

    -- what holds where the disk tells
    so_told : (P : Pending → Type 0) → IfSome (pending disk) P → P told
    so_told P holds = subst (λ (p : Option Pending). IfSome p P) is_told holds

    acknowledged : Acknowledges pending over.archive over.entries
    acknowledged =
        so_told (λ _. Acknowledges pending over.archive over.entries) over.acknowledged

    uses : Uses over.entries over.archive.used told.content
    uses =
        subst (λ n. Uses over.entries n told.content)
        (sym (ap (λ (a : ArchiveState D). a.used) over.opened))
        (so_told (λ t. Uses over.entries over.used t.content) over.stands)

    rests : Rests over.archive
    rests = record {
      empty = ap (λ (a : ArchiveState D). a.waiting) over.opened;
      good = ap (λ (a : ArchiveState D). a.failed) over.opened;
    }

    not_foreign : report.recording ≡ Err fault.Foreign → ⊥
    not_foreign =
        so_told (λ _. report.recording ≡ Err fault.Foreign → ⊥)
        (lossless site turns links draw disk disk_now old new report valid over).recording

    went : ChainGoes pending makes fails answers laws over.entries recorded
        over.ran.records.records.at.archive
    went = chain_goes pending makes fails answers laws over.entries recorded over.archive old.frames
        over.ran.records.records.at.archive over.ran.records.records.at.frames
        over.ran.records.records.went.chain acknowledged rests

    abbrev stored : List Entry
    stored = stored_by recorded

    ended : Ended pending disk_faults makes fails fails_to_read answers source_faults
        over.ran.lock laws (over.entries ++ stored) report.recording over.archive_now
    ended =
        let r = over.ran.records.records in
        ended_so pending disk_faults makes fails fails_to_read answers source_faults over.ran.lock
        laws (over.entries ++ stored) report.recording recorded r.spent r.last r.at
        (recorder.worker over.archive_now new.frames over.ran.records.at) went.acknowledges
        went.rests not_foreign r.ended

    ahead : Ahead over.entries recorded
    ahead = subst (Ahead over.entries) (append-nil recorded) (went.ahead [] tt)

    -- ---- the workers' own events

    recorder_told : IsRecorders number recorded (events over.ran.recorder_now.own)
    recorder_told =
        let at = over.ran.records in
        let r = at.records in
        let nothing = none_last pending disk_faults makes fails fails_to_read answers source_faults
        over.ran.lock report.recording recorded r.spent r.last r.at
        (recorder.worker over.archive_now new.frames at.at) not_foreign r.ended in record {
          published = events r.published;
          last = at.says_gone.last.event;
          own =
              ap events at.says_gone.own
              ∙ (ap (λ ms. events (ms ++ at.says_gone.last ∷ [])) r.gains.own
              ∙ (ap (λ ms. events ((ms ++ (r.published ++ r.last)) ++ at.says_gone.last ∷ []))
              over.ran.recorder_fresh.own
              ∙ (ap (λ ms. events ((r.published ++ ms) ++ at.says_gone.last ∷ [])) nothing
              ∙ (ap (λ ms. events (ms ++ at.says_gone.last ∷ [])) (append-nil r.published)
              ∙ map-append (λ (m : Mark Answered). m.event) r.published
              (at.says_gone.last ∷ [])))));
          calls_are = calls_are r.published ∙ r.went.calls;
          is_gone = at.says_gone.is_gone;
        }

    antenna_told : IsAntennas (number + 1) steps (events over.ran.antenna_now.own)
    antenna_told =
        let at = over.ran.radiates in
        let works = at.radiates.works in record {
          last = at.says_gone.last.event;
          own =
              ap events at.says_gone.own
              ∙ (ap (λ ms. events (ms ++ at.says_gone.last ∷ [])) works.gains.own
              ∙ (ap (λ ms. events ((ms ++ marks_in steps) ++ at.says_gone.last ∷ [])) at.no_events
              ∙ map-append (λ (m : Mark Answered). m.event) (marks_in steps)
              (at.says_gone.last ∷ [])));
          right = each_right steps works.right;
          is_gone = at.says_gone.is_gone;
        }

    doors_told : AreDoors site 0 (owns_of over.ran.seats_now)
    doors_told = doors_are shown door_faults calls link_faults readings over.ran.lock site draw
        links turns 0 over.ran.seats over.ran.seats_now old.doors new.doors old.clocks new.clocks
        over.ran.seats_fresh over.ran.works

    few : length (owns_of over.ran.seats_now) ≤ number
    few =
        let same = as_many shown door_faults calls link_faults readings over.ran.lock site draw
        links 0 over.ran.seats over.ran.seats_now old.doors new.doors old.clocks new.clocks
        over.ran.works in
        omega (arith, same)

    theirs : AreTheirs number h recorded steps
    theirs = whose site number h over.ran.recorder_now.own over.ran.antenna_now.own
        (owns_of over.ran.seats_now) laws.weighs over.ran.history.make_up recorded steps
        recorder_told antenna_told doors_told few

    -- ---- the events

    abbrev tail : Tail
    tail = ended.tail

    walked : Walked laws w.past w.clock number over.entries tail (records [] recorded) steps
        (born origin) w.antenna h
    walked =
        walk laws w.past w.clock number over.entries tail h (records [] recorded) steps
        (born origin) w.antenna
        (subst (λ (x : Opening). IsLegal (opened x) h) over.ran.origin over.ran.history.legal)
        theirs.of_recorder theirs.of_antenna antenna_told.right (
          sym (append-nil over.entries),
          subst (λ (xs : List Entry). Ahead xs recorded) (sym (append-nil over.entries)) ahead,
          ended.follows,
        )

    opening : (finding : Finding) × (found_by w.file finding ≡ Some over.entries)
        × AllCome w (restarts o finding ∷ [])
        × Holds pending over.archive (after_events w (restarts o finding ∷ [])).file
    opening = archives.opened over.archive over.entries told.content o w none_lives stands uses
        acknowledged rests.empty

    abbrev all : List Event
    all = events_of_run o opening.0 walked.turns

    abbrev last_file : File
    last_file = end_file laws w.past w.clock number over.entries tail (records [] recorded)

    abbrev last_world : World
    last_world = going w.past w.clock last_file walked.life (w.antenna ++ sent_in steps)

    leads : Leads w all last_world
    leads =
        let start : World =
        going w.past w.clock (at_rest over.entries []) (born origin) w.antenna in
        leads_on w (restarts o opening.0 ∷ []) start (events_of walked.turns) last_world
        (opening.2, ap (restarted o w) opening.1) walked.leads

    last_holds : Holds pending over.archive_now last_file
    last_holds = ended.holds over.entries stored refl

    leads_to : LeadsTo pending sent h over.archive_now old.antenna new.antenna w last_world
    leads_to = record {
      life = walked.life;
      goes_on = refl;
      history_is = walked.history;
      holds = last_holds;
      images = λ image is.
          archives.images_without_power last_file image
          (archives.images over.archive_now last_file image last_holds is);
      octets = sent_in steps;
      sent_on = refl;
      tells = over.ran.radiates.radiates.works.sends;
    }

    is_events : IsEvents pending sent o w over.entries number recorded report.recording steps h
        over.archive_now old.antenna new.antenna
    is_events = record {
      finding = opening.0;
      found = opening.1;
      tail = tail;
      ends = ended.ends;
      turns = walked.turns;
      answered = walked.answered;
      are = record {
        recorder = subst (λ (xs : List Entry). RecordsIn number xs recorded tail
            (turns_with (is_recorders number) walked.turns)) (append-nil over.entries)
            walked.recorder;
        antenna = walked.radiates;
        others = walked.others;
        beside = walked.beside;
      };
      come = leads.0;
      lead = subst (LeadsTo pending sent h over.archive_now old.antenna new.antenna w)
          (sym leads.1) leads_to;
      headline = laws.headline w all;
      stays = laws.stays w all;
    }

  pub runs_are_events : RunsAreEvents pending disk_faults moment images_since makes fails
      fails_to_read answers source_faults sent antenna_faults shown door_faults calls link_faults
      readings
  runs_are_events = is_events
