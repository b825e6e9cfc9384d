use Rattle.std.proofs.Common.{◌≡◌, ◌≤◌, ◌+◌, IsTrue, length, take}
use Rattle.std.specs.List.{list_all}
use Rattle.archive_terms.specs.Archive.{is_valid}
use Rattle.record_form.specs.Entry.{entries_of}
use Rattle.frame_archive.specs.Run.{Keeps}
use Rattle.recorder.specs.Offers.{offered, after_offers, how_many, dropped_of, with_dropped}
use Rattle.recorder.proofs.step.offer_each.Given as goal

abbrev pub invariant-loop-entry : goal.invariant-loop-entry
invariant-loop-entry g l =
    (offered l.archive (dropped_of l.recorded)
    ≡ after_offers (offered l.initial.archive (dropped_of l.initial.recorded))
    (entries_of (take l.entry-index l.entries)))
    × (length l.archive.waiting + how_many (dropped_of l.recorded)
    ≡ l.entry-index + how_many (dropped_of l.initial.recorded))
    × (how_many (dropped_of l.initial.recorded) ≤ how_many (dropped_of l.recorded))
    × (l.recorded ≡ with_dropped l.initial.recorded (dropped_of l.recorded))
    × (l.archive ≡ record l.initial.archive {
      times = l.archive.times;
      waiting = l.archive.waiting;
    })
    × IsTrue (list_all is_valid l.archive.waiting)
    × Keeps g.D.Disk.pending l.initial.archive l.archive
