use Rattle.std.proofs.Common.{◌≡◌, ◌≤◌, ◌++◌, Ok, max, List}
use Rattle.octet_core.specs.Written.{Writes}
use Rattle.archive_terms.specs.Archive.{Entry}
use Rattle.frame_archive.specs.Acknowledges.{Acknowledges}
use Rattle.kill_store.specs.Numbered.{numbered_between, counts}
use Rattle.kill_store.specs.Storing.{Rests}
use Rattle.kill_store.specs.declared.halt.Halt.TheVariants.{WriteFault}
use Rattle.kill_store.proofs.storing.store_up_to.Given as goal

-- what was told and acknowledged up to this number
abbrev pub invariant-loop-number : goal.invariant-loop-number
invariant-loop-number g l = record {
  rests : Rests l.archive;
  at : l.archive.count ≡ l.number;
  end : l.number ≤ max l.initial.archive.count l.most;
  told : Writes {T = Unit {0}} WriteFault (g.O.Sink.written l.initial.output)
      (g.O.Sink.written l.output) (g.O.Sink.faults l.initial.output) (g.O.Sink.faults l.output)
      (counts l.initial.archive.count l.number) (Ok tt);
  acknowledged : (entries : List Entry)
      → Acknowledges g.D.Disk.pending l.initial.archive entries
      → Acknowledges g.D.Disk.pending l.archive
      (entries ++ numbered_between l.initial.archive.count l.number);
}
