use Rattle.record_form.specs.Entry.{entry_of}
use Rattle.script_store.proofs.storing.record_one.Given as goal

abbrev pub ghosts-record_given : goal.ghosts-record_given
ghosts-record_given a = record { entry = entry_of a.entry }
