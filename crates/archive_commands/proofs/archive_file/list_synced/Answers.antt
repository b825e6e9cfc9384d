use Rattle.std.proofs.Common.{inl, refl, inr, ap, Err}
use Rattle.command_ends.specs.declared.status.Status.TheVariants as ends
use Rattle.archive_commands.specs.Archives.{failed, unread}
use Rattle.archive_commands.proofs.ListOutcomes.{reads_hold, closes_unwritten}
use Rattle.archive_commands.proofs.archive_file.list_synced.Goals as goal

pub returns-in-Err-DiskFault-clause-list : goal.returns-in-Err-DiskFault-clause-list
returns-in-Err-DiskFault-clause-list g c = record {
  how = failed;
  leaves = c.in-Err-DiskFault.ensures.cause (ap (λ f. Err f) c.in-Err-DiskFault.field-0-is);
  complete = λ others is. inr (inr (inl refl));
  any_moment = reads_hold g.D.Disk.moment g.D.Disk.images_since g.D.Disk.pending c.args.disk
      c.check.new.disk (c.images_at_a_moment.ensures.only_now c.args.disk) c.check.ensures.reads;
  closes = c.tell.ensures;
}

pub returns-in-Err-Memory-clause-list : goal.returns-in-Err-Memory-clause-list
returns-in-Err-Memory-clause-list g c = record {
  how = unread;
  leaves = tt;
  complete = λ others is. inr (inl refl);
  any_moment = reads_hold g.D.Disk.moment g.D.Disk.images_since g.D.Disk.pending c.args.disk
      c.check.new.disk (c.images_at_a_moment.ensures.only_now c.args.disk) c.check.ensures.reads;
  closes = closes_unwritten _ _ ends.Memory c.code.result c.code.ensures;
}
