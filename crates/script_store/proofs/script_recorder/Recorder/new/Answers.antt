use Rattle.script_store.proofs.Worlds.{held_new}
use Rattle.script_store.proofs.script_recorder.Recorder.new.Goals as goal

pub invariant_of-result : goal.invariant_of-result
invariant_of-result c =
    held_new c.a_recovery_finds_what_is_kept.ensures
    c.an_image_at_rest_stands_for_what_is_kept.ensures c.new.result c.in-Ok.journal.disk
    c.into_disk.result c.new.ensures c.in-Ok.ensures.calls c.into_disk.ensures
    c.in-Ok.ensures.keeps c.args.capacity c.in-Ok-open_archive.field-0-1
    c.in-Ok-open_archive.archive c.in-Ok-open_archive.ensures.at_rest
    c.in-Ok-open_archive.ensures.stands c.in-Ok-open_archive.ensures.acknowledged
    c.in-Ok-open_archive.ensures.calls c.new-2.result c.new-2.ensures
