use Rattle.std.proofs.Common.{subst, inr}
use Rattle.archive_commands.specs.Archives.{listed, failed_behind, stopped_behind, changed_behind}
use Rattle.archive_commands.specs.Archives.{ReadTo}
use Rattle.command_ends.specs.declared.status.Status.TheVariants as ends
use Rattle.command_ends.proofs.Closing.{closes_by}
use Rattle.archive_commands.proofs.ListOutcomes.{all_listed, still_kept, none_other, reads_hold}
use Rattle.archive_commands.proofs.ListOutcomes.{closes_behind}
use Rattle.archive_commands.proofs.ListOutcomes.{closes_written, closes_stop}
use Rattle.archive_commands.proofs.archive_file.list_batches.Goals as goal

pub returns-in-Ok-Whole-clause-list : goal.returns-in-Ok-Whole-clause-list
returns-in-Ok-Whole-clause-list g c =
    let pending = g.D.Disk.pending c.args.disk.now in
    let new = g.D.Disk.pending c.put_file.new.disk in
    let puts = c.in-Ok-Whole.ensures.puts in
    let stands = subst (ReadTo pending puts.entries) c.in-Ok-Whole.field-0-is puts.read in
    record {
      how = listed puts.entries;
      leaves = all_listed pending new puts.entries stands
          (still_kept pending new puts.entries c.requires.synced c.put_file.ensures.reads.same
          stands);
      complete = λ others is. none_other c.a_file_stands_for_one_list.ensures.list pending
          puts.entries others stands is;
      any_moment = reads_hold g.D.Disk.moment g.D.Disk.images_since g.D.Disk.pending
          c.args.disk.now c.put_file.new.disk
          (c.images_at_a_moment.ensures.only_now c.args.disk.now) c.put_file.ensures.reads;
      closes = closes_written _ _ _ _ _ ends.Done _ c.in-Ok-Whole.field-0 c.code.ensures puts.wrote;
    }

pub returns-in-Ok-Changed-clause-list : goal.returns-in-Ok-Changed-clause-list
returns-in-Ok-Changed-clause-list g c =
    let pending = g.D.Disk.pending c.args.disk.now in
    let puts = c.in-Ok-Changed.ensures.puts in
    let none = subst (ReadTo pending puts.entries) c.in-Ok-Changed.field-0-is puts.read in
    record {
      how = changed_behind puts.entries c.in-Ok-Changed.place;
      leaves = none;
      complete = λ others is. absurd (rw none at is);
      any_moment = reads_hold g.D.Disk.moment g.D.Disk.images_since g.D.Disk.pending
          c.args.disk.now c.put_file.new.disk
          (c.images_at_a_moment.ensures.only_now c.args.disk.now) c.put_file.ensures.reads;
      closes = closes_behind _ _ _ _ _ _ _ _ ends.ArchiveRefused _ c.in-Ok-Changed.field-0
          puts.wrote
          (closes_by _ _ _ _ _ ends.ArchiveRefused _ c.put_refused.result c.close.ensures
          c.put_refused.ensures);
    }

pub returns-in-Ok-DiskFault-clause-list : goal.returns-in-Ok-DiskFault-clause-list
returns-in-Ok-DiskFault-clause-list g c =
    let pending = g.D.Disk.pending c.args.disk.now in
    let puts = c.in-Ok-DiskFault.ensures.puts in
    let front = subst (ReadTo pending puts.entries) c.in-Ok-DiskFault.field-0-is puts.read in
    record {
      how = failed_behind puts.entries;
      leaves = (c.in-Ok-DiskFault.ensures.cause c.in-Ok-DiskFault.field-0-is, front);
      complete = λ others is. inr (inr (inr tt));
      any_moment = reads_hold g.D.Disk.moment g.D.Disk.images_since g.D.Disk.pending
          c.args.disk.now c.put_file.new.disk
          (c.images_at_a_moment.ensures.only_now c.args.disk.now) c.put_file.ensures.reads;
      closes = closes_behind _ _ _ _ _ _ _ _ ends.DiskFault _ c.in-Ok-DiskFault.field-0 puts.wrote
          c.tell.ensures;
    }

pub returns-in-Err-clause-list : goal.returns-in-Err-clause-list
returns-in-Err-clause-list g c =
    let puts = c.in-Err.ensures.puts in
    record {
      how = stopped_behind puts.entries;
      leaves = puts.front;
      complete = λ others is. inr (inr (inr tt));
      any_moment = reads_hold g.D.Disk.moment g.D.Disk.images_since g.D.Disk.pending
          c.args.disk.now c.put_file.new.disk
          (c.images_at_a_moment.ensures.only_now c.args.disk.now) c.put_file.ensures.reads;
      closes = closes_stop _ _ _ _ _ ends.Memory _ c.in-Err.stop c.close-in-Err.ensures puts.wrote;
    }
