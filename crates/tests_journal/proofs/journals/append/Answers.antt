use Rattle.std.proofs.Common.{◌≡◌, true, Some, rules, sym, ◌∙◌}
use Rattle.disk_model.specs.MemoryDisk.{pending_of}
use Rattle.tests_journal.proofs.journals.append.Goals as goal

-- the test that was passed says that the batch follows what is stored
pub append-requires-clause-archive : goal.append-requires-clause-archive
append-requires-clause-archive c κs entries keeps =
    let passed : c.follows.result ≡ true = search rules in
    c.a_batch_may_follow.ensures.archive (Some (pending_of c.args.journal.now.disk))
    c.args.before.now c.args.batch.now entries c.requires (sym c.follows.ensures ∙ passed) keeps
