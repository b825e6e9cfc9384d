-- Nothing in a run is lost.
use Rattle.std.proofs.Common.{◌≡◌, ℕ, ◌+◌, Bool, true, false, ◌||◌, List, [], ◌∷◌, Option, Some}
use Rattle.std.proofs.Common.{None}
use Rattle.std.proofs.Common.{IfSome, Err, inl, inr, map, length, refl, ap, subst, ◌∙◌}
use Rattle.std.specs.List.{list_any}
use Rattle.cds_time.specs.declared.cds.Cds.{Cds}
use Rattle.disk_model.specs.Images.{Pending}
use Rattle.disk_model.specs.declared.call.Call.{Call as DiskCall}
use Rattle.frame_archive.specs.Acknowledges.{Acknowledges}
use Rattle.recorder.specs.Feeds.{Answer}
use Rattle.recorder_turns.specs.declared.recording_fault.RecordingFault.TheVariants.{Foreign}
use Rattle.link_model.specs.declared.call.Call.{Call as LinkCall}
use Rattle.door_model.specs.Shown.{Shown}
use Rattle.turn_lock.specs.Own.{MakeUp}
use Rattle.turn_lock.specs.declared.view.Mark.{Mark}
use Rattle.station_config.specs.Validity.{IsSite}
use Rattle.station_config.specs.declared.site.Site.{Site}
use Rattle.station_book.specs.State.{Event, opened, Opening}
use Rattle.station_book.specs.History.{IsLegal}
use Rattle.station_seats.specs.Seats.{owns_of}
use Rattle.session_laws.specs.Losing.{loses}
use Rattle.station_run.specs.Ran.{Outside, RanOver}
use Rattle.station_run.specs.declared.report.RunReport.{RunReport}
use Rattle.run_laws.specs.Laws.{Laws}
use Rattle.run_laws.specs.Lossless.{is_foreign, NoneIsLost, NoneIsForeign, IsLossless}
use Rattle.run_laws.specs.Lossless.{RunsAreLossless}
use Rattle.run_laws.proofs.Among.{events, only_there, none_in, stands_among, Among}
use Rattle.run_laws.proofs.Calls.{AreFree, none_by, none_asked, all_kept, given_marks}
use Rattle.run_laws.proofs.Sessions.{new_book}
use Rattle.run_laws.proofs.Doors.{AreDoors, doors_are, doors_keep, doors_publish_none}
use Rattle.run_laws.proofs.Publishing.{none_foreign, publishing}
use Rattle.run_laws.proofs.Workers.{IsAntennas, IsRecorders, antenna_is, recorder_is, recorder_free}
use Rattle.run_laws.proofs.Workers.{recorder_publishes, recorder_goes}

or_parts : (a b : Bool) → (a || b) ≡ false → (a ≡ false) × (b ≡ false)
or_parts true b e = absurd (cc e)
or_parts false b e = (refl, e)

-- a part of a list that has none of a kind has none
none_among : (p : Event → Bool) (h es : List Event) → Among es h → list_any p h ≡ false
    → list_any p es ≡ false
none_among p [] es a none = ap (list_any p) a
none_among p (x ∷ h) es (inl a) none =
    none_among p h es a (or_parts (p x) (list_any p h) none).1
none_among p (x ∷ h) es (inr a) none =
    let parts = or_parts (p x) (list_any p h) none in
    ap (list_any p) a.1
    ∙ (ap (λ (b : Bool). b || list_any p a.0) parts.0 ∙ none_among p h a.0 a.2 parts.1)

module _ {D F A G L C : Type 0} (pending : D → Option Pending) (disk_faults moment : D → ℕ)
    (images_since : D → ℕ → List ℕ → Type 0) (makes fails : D → DiskCall → D → Type 0)
    (fails_to_read : D → D → Type 0) (answers : F → Option (List Answer)) (source_faults : F → ℕ)
    (sent : A → Option (List (List ℕ))) (antenna_faults : A → ℕ) (shown : G → Option Shown)
    (door_faults : G → ℕ) (calls : L → Option (List LinkCall)) (link_faults : L → ℕ)
    (readings : C → Option (List Cds)) (laws : Laws) where
  module _ (site : Site) (turns links draw : ℕ) (disk disk_now : D) (old new : Outside F A G C)
      (report : RunReport) (valid : IsSite site)
      (over : RanOver pending disk_faults moment images_since makes fails fails_to_read answers
      source_faults sent antenna_faults shown door_faults calls link_faults readings site turns
      links draw disk disk_now old new report) where
    abbrev workers : ℕ
    workers = length old.doors + 1

    abbrev h : List Event
    h = report.pass.seen

    abbrev recorders : List (Mark Event)
    recorders = over.ran.recorder_now.own

    abbrev antennas : List (Mark Event)
    antennas = over.ran.antenna_now.own

    abbrev owns : List (List (Mark Event))
    owns = owns_of over.ran.seats_now

    legal : IsLegal (new_book laws site over.entries workers) h
    legal = subst (λ (o : Opening). IsLegal (opened o) h) over.ran.origin over.ran.history.legal

    recorder_told : IsRecorders pending over.archive report.recording (events recorders)
    recorder_told = recorder_is pending disk_faults makes fails fails_to_read answers source_faults
        over.ran.lock laws.grows (length old.doors) report.recording _ _ over.ran.records
        over.ran.recorder_fresh.own

    antenna_told : IsAntennas (events antennas)
    antenna_told = antenna_is sent antenna_faults readings over.ran.lock workers report.radiating _
        _ over.ran.radiates

    doors_told : AreDoors site 0 owns
    doors_told = doors_are shown door_faults calls link_faults readings over.ran.lock site draw
        links turns 0 over.ran.seats over.ran.seats_now old.doors new.doors old.clocks new.clocks
        over.ran.seats_fresh over.ran.works

    abbrev made : MakeUp h ([] ∷ recorders ∷ antennas ∷ [] ∷ owns)
    made = over.ran.history.make_up

    recorder_own : AreFree (events recorders)
    recorder_own = recorder_free pending over.archive report.recording (events recorders)
        recorder_told

    -- no session was answered Lost
    none_lost : NoneIsLost h
    none_lost =
        let book = new_book laws site over.entries workers in
        let front = [] ∷ recorders ∷ antennas ∷ [] ∷ [] in
        let recorders_keep =
        all_kept (events recorders) (given_marks book h 0 recorders legal made.stand.1.0)
        (none_asked (events recorders) recorder_own) in
        let antennas_keep =
        all_kept (events antennas) (given_marks book h 0 antennas legal made.stand.1.1.0)
        (none_asked (events antennas) antenna_told.free) in
        let doors =
        doors_keep laws site over.entries workers (laws.one site valid) h legal owns front 0 made
        (λ door le. (
          refl,
          (
            none_by door (events recorders) recorder_own,
            (none_by door (events antennas) antenna_told.free, (refl, tt)),
          ),
        ))
        doors_told in
        none_in (λ (e : Event). loses e.reply) h ([] ∷ recorders ∷ antennas ∷ [] ∷ owns) laws.weighs
        made (refl, (recorders_keep, (antennas_keep, (refl, doors))))

    -- over a disk that tells, no publishing was answered Foreign
    none_refused : Acknowledges pending over.archive over.entries → NoneIsForeign h
    none_refused acknowledged =
        let own = only_there publishing h ([] ∷ []) recorders (antennas ∷ [] ∷ owns) laws.weighs
        made (refl, tt)
        (antenna_told.quiet, (refl, doors_publish_none site 0 owns doors_told)) in
        none_foreign laws.grows h (new_book laws site over.entries workers) recorder_told.lists
        legal (ap (map (λ (e : Event). e.call)) own
        ∙ recorder_publishes pending over.archive report.recording (events recorders) recorder_told)
        (recorder_told.is_archive over.entries acknowledged)

    recorder_ended : Acknowledges pending over.archive over.entries → report.recording ≡ Err Foreign
        → ⊥
    recorder_ended acknowledged =
        recorder_goes pending over.archive report.recording (events recorders) recorder_told
        (none_among (λ (e : Event). is_foreign e.reply) h (events recorders)
        (stands_among h recorders made.stand.1.0) (none_refused acknowledged))

    over_disk : {P : Type 0} → (told : Option Pending)
        → IfSome told (λ _. Acknowledges pending over.archive over.entries)
        → (Acknowledges pending over.archive over.entries → P) → IfSome told (λ _. P)
    over_disk (Some told) is goes = goes is
    over_disk None is goes = tt

    lossless : IsLossless (pending disk) report
    lossless = record {
      lost = none_lost;
      publishings = over_disk (pending disk) over.acknowledged none_refused;
      recording = over_disk (pending disk) over.acknowledged recorder_ended;
    }

  pub runs_are_lossless : RunsAreLossless pending disk_faults moment images_since makes fails
      fails_to_read answers source_faults sent antenna_faults shown door_faults calls link_faults
      readings
  runs_are_lossless site turns links draw disk disk_now old new report valid over =
      lossless site turns links draw disk disk_now old new report valid over
