use Rattle.std.proofs.Common.{[], ◌∷◌, length, option_map, refl, ◌∙◌}
use Rattle.disk_model.specs.declared.call.Call.TheVariants.{Write, Sync}
use Rattle.disk_model.specs.Images.{FailsToWrite, after_write, with_range}
use Rattle.disk_model.specs.Moments.{IsImageOf}
use Rattle.disk_model.specs.Throughout.{started, goes_on}
use Rattle.disk_model.specs.Calls.{runs_and, runs_one}
use Rattle.disk_model.proofs.Writes.{before_write, during_write, during_sync}
use Rattle.disk_model.specs.Telling.{still_tells, mapped_tells, synced_tells}
use Rattle.disk_model.proofs.synced.write_synced.Goals as goal

pub returns-in_err-write_at-clause-any_moment : goal.returns-in_err-write_at-clause-any_moment
returns-in_err-write_at-clause-any_moment g c =
    let old = c.args.disk.now in
    let mid = c.write_at.new.self in
    let P = IsImageOf (option_map (with_range c.args.place (length c.args.octets.now) [])
    (g.D.Disk.pending old)) in
    let keeps = c.a_write_frees_its_range.ensures.old in
    let at_start = started g.D.Disk.moment g.D.Disk.images_since old P
    (λ image was. before_write keeps (g.D.Disk.pending old) c.args.place (length c.args.octets.now)
    image (c.images_at_a_moment.ensures.only_now old image was)) in
    goes_on g.D.Disk.moment g.D.Disk.images_since old old mid P (g.D.Disk.pending mid) at_start
    c.write_at.ensures.time
    (during_write keeps c.write_at.result (g.D.Disk.pending old) (g.D.Disk.pending mid) c.args.place
    c.args.octets.now c.write_at.ensures.written c.write_at.ensures.torn)

pub returns-clause-any_moment : goal.returns-clause-any_moment
returns-clause-any_moment g c =
    let old = c.args.disk.now in
    let mid = c.write_at.new.self in
    let new = c.sync.new.self in
    let P = IsImageOf (option_map (with_range c.args.place (length c.args.octets.now) [])
    (g.D.Disk.pending old)) in
    let keeps = c.a_write_frees_its_range.ensures.old in
    let at_start = started g.D.Disk.moment g.D.Disk.images_since old P
    (λ image was. before_write keeps (g.D.Disk.pending old) c.args.place (length c.args.octets.now)
    image (c.images_at_a_moment.ensures.only_now old image was)) in
    let in_range = during_write keeps c.write_at.result (g.D.Disk.pending old)
    (g.D.Disk.pending mid) c.args.place c.args.octets.now c.write_at.ensures.written
    c.write_at.ensures.torn in
    let written = goes_on g.D.Disk.moment g.D.Disk.images_since old old mid P (g.D.Disk.pending mid)
    at_start c.write_at.ensures.time in_range in
    goes_on g.D.Disk.moment g.D.Disk.images_since old mid new P (g.D.Disk.pending new) written
    c.sync.ensures.time
    (λ image is. in_range image
    (during_sync c.a_sync_leaves_one_image.ensures c.sync.result (g.D.Disk.pending mid)
    (g.D.Disk.pending new) (c.images_at_a_moment.ensures.read mid) c.sync.ensures.synced
    c.sync.ensures.unsynced image is))

pub returns-clause-calls : goal.returns-clause-calls
returns-clause-calls g c =
    runs_and g.D.Disk.makes g.D.Disk.fails c.sync.result (Write c.args.place c.args.octets.now ∷ [])
    (Sync ∷ []) c.args.disk.now c.write_at.new.self c.sync.new.self
    (c.write_at.new.self, c.in_ok-write_at.ensures.made, refl)
    (runs_one g.D.Disk.makes g.D.Disk.fails c.sync.result Sync c.write_at.new.self c.sync.new.self
    c.sync.ensures.made c.sync.ensures.failed)

pub returns-in_err-write_at-clause-tells : goal.returns-in_err-write_at-clause-tells
returns-in_err-write_at-clause-tells g c =
    still_tells (FailsToWrite c.args.place (length c.args.octets.now))
    (g.D.Disk.pending c.args.disk.now) (g.D.Disk.pending c.write_at.new.self)
    c.in_err-write_at.ensures.torn

pub returns-clause-tells : goal.returns-clause-tells
returns-clause-tells g c =
    synced_tells c.sync.result (g.D.Disk.pending c.write_at.new.self)
    (g.D.Disk.pending c.sync.new.self) c.sync.ensures.synced c.sync.ensures.unsynced
    ∙ mapped_tells (after_write c.args.place c.args.octets.now) (g.D.Disk.pending c.args.disk.now)
    (g.D.Disk.pending c.write_at.new.self) c.in_ok-write_at.ensures.written
