use Rattle.std.proofs.Common.{◌≡◌, take}
use Rattle.record_form.specs.Entry.{entries_of}
use Rattle.frame_archive.specs.State.{times_of}
use Rattle.frame_archive.proofs.times.times_of.Given as goal

abbrev pub invariant-loop-entry : goal.invariant-loop-entry
invariant-loop-entry l = l.times ≡ times_of (entries_of (take l.entry-index l.entries))
