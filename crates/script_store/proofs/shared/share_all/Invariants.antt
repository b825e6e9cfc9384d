use Rattle.std.proofs.Common.{◌≡◌, take}
use Rattle.record_form.specs.Entry.{entries_of}
use Rattle.script_store.proofs.shared.share_all.Given as goal

abbrev pub invariant-loop-entry : goal.invariant-loop-entry
invariant-loop-entry l = l.shared ≡ entries_of (take l.entry-index l.entries)
