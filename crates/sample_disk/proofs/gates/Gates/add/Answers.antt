use Rattle.std.proofs.Common.{inl}
use Rattle.disk_model.specs.Throughout.{started}
use Rattle.sample_disk.proofs.Adding.{kept_image}
use Rattle.sample_disk.specs.Gated.{IsOldOrNew}
use Rattle.sample_disk.proofs.gates.Gates.add.Goals as goal

pub returns-then-self-clause-any_moment : goal.returns-then-self-clause-any_moment
returns-then-self-clause-any_moment g c octets keeps =
    let disk = c.args.self.now.disk in
    started g.D.Disk.moment g.D.Disk.images_since disk (IsOldOrNew octets c.args.octet)
    (λ image was. inl (kept_image (g.D.Disk.pending disk) octets image keeps
    (c.images_at_a_moment.ensures.only_now disk image was)))

pub returns-then-capacity-lt3-clause-any_moment : goal.returns-then-capacity-lt3-clause-any_moment
returns-then-capacity-lt3-clause-any_moment g c octets keeps =
    let disk = c.args.self.now.disk in
    started g.D.Disk.moment g.D.Disk.images_since disk (IsOldOrNew octets c.args.octet)
    (λ image was. inl (kept_image (g.D.Disk.pending disk) octets image keeps
    (c.images_at_a_moment.ensures.only_now disk image was)))

pub returns-in_err-put-clause-failed : goal.returns-in_err-put-clause-failed
returns-in_err-put-clause-failed g c is = rw (← c.self.view_is) c.in_err-put.ensures.calls
