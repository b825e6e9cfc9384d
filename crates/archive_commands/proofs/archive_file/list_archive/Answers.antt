use Rattle.std.proofs.Common.{inl, inr, refl}
use Rattle.disk_model.specs.Moments.{IsImageOf}
use Rattle.disk_model.specs.Throughout.{started, goes_on, weaker, and_then}
use Rattle.archive_commands.specs.Archives.{failed}
use Rattle.archive_commands.proofs.ListOutcomes.{reads_hold, image_before, leaves_before}
use Rattle.archive_commands.proofs.ListOutcomes.{stands_after}
use Rattle.archive_commands.proofs.archive_file.list_archive.Goals as goal

pub returns-in-Ok-clause-list : goal.returns-in-Ok-clause-list
returns-in-Ok-clause-list g c =
    let old = c.args.disk in
    let mid = c.sync.new.self in
    let pending = g.D.Disk.pending in
    let list = c.list_synced.ensures.list in
    let before = image_before c.a_sync_leaves_one_image.ensures (pending old) (pending mid)
    (c.images_at_a_moment.ensures.read old) c.in-Ok.ensures.synced in
    record {
      how = list.how;
      leaves = leaves_before pending g.D.Disk.faults old mid _ list.how c.in-Ok.ensures.synced
          c.sync.ensures.cause.never_falls list.leaves;
      complete = λ entries stands. list.complete entries
          (stands_after (pending old) (pending mid) entries c.in-Ok.ensures.synced stands);
      any_moment = and_then g.D.Disk.moment g.D.Disk.images_since old mid _
          (IsImageOf (pending old))
          (goes_on g.D.Disk.moment g.D.Disk.images_since old old mid (IsImageOf (pending old))
          (pending mid) (started g.D.Disk.moment g.D.Disk.images_since old
          (IsImageOf (pending old)) (c.images_at_a_moment.ensures.only_now old))
          c.sync.ensures.time before)
          (weaker g.D.Disk.moment g.D.Disk.images_since mid _ (IsImageOf (pending mid))
          (IsImageOf (pending old)) before list.any_moment);
      closes = list.closes;
    }

pub returns-in-Err-clause-list : goal.returns-in-Err-clause-list
returns-in-Err-clause-list g c = record {
  how = failed;
  leaves = c.in-Err.ensures.cause.rose refl;
  complete = λ others is. inr (inr (inl refl));
  any_moment = reads_hold g.D.Disk.moment g.D.Disk.images_since g.D.Disk.pending c.args.disk
      c.sync.new.self (c.images_at_a_moment.ensures.only_now c.args.disk)
      (record { same = c.in-Err.ensures.unsynced; time = c.sync.ensures.time });
  closes = c.tell.ensures;
}
