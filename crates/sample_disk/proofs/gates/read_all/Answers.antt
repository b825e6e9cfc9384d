use Rattle.std.proofs.Common.{◌+◌, ◌*◌, IfSome, drop, arith, rules, ◌∙◌, subst}
use Rattle.sample_disk.specs.Gated.{IsCut, IsBehind}
use Rattle.sample_disk.proofs.Recovery.{so_far_cut, so_far_next, ended, if_good, one_longer}
use Rattle.sample_disk.proofs.gates.read_all.Goals as goal

pub returns-in_err-octet-clause-no_gate : goal.returns-in_err-octet-clause-no_gate
returns-in_err-octet-clause-no_gate g c is =
    so_far_cut (g.D.Disk.pending c.args.disk.now) c.loop-count.octets (2 * c.loop-count.count)
    c.loop-count.invariant.2
    (subst (λ (disk : g.row.D.Denot). IfSome (g.D.Disk.pending disk)
    (λ told. IsCut (drop (2 * c.loop-count.count) told.content))) c.loop-count.invariant.0
    (c.in_err-octet.ensures.no_gate (search rules)))

pub loop-count-preserved : goal.loop-count-preserved
loop-count-preserved g c =
    let more = if_good c.append.result (search rules) c.append.ensures.ok in (
      c.in_ok-octet.ensures.same ∙ c.loop-count.invariant.0,
      one_longer c.loop-count.octets c.append.new.self c.in-Some.octet c.loop-count.count more
          c.loop-count.invariant.1,
      so_far_next (g.D.Disk.pending c.args.disk.now) c.loop-count.octets c.append.new.self
          c.in-Some.octet c.loop-count.count c.in_ok-octet.field-0 c.loop-count.invariant.2
          c.in-Some.is
          (subst (λ (disk : g.row.D.Denot). IfSome (g.D.Disk.pending disk)
          (λ told. IsBehind (drop (2 * c.loop-count.count) told.content) c.in_ok-octet.field-0
          (drop (2 * c.loop-count.count + 2) told.content))) c.loop-count.invariant.0
          c.in_ok-octet.ensures.found)
          more,
    )

pub returns-clause-no_gate : goal.returns-clause-no_gate
returns-clause-no_gate g c is =
    so_far_cut (g.D.Disk.pending c.args.disk.now) c.loop-count.octets (2 * c.loop-count.count)
    c.loop-count.invariant.2
    (ended (g.D.Disk.pending c.args.disk.now) (g.D.Disk.extent c.args.disk.now)
    (2 * c.loop-count.count) (c.images_at_a_moment.ensures.size c.args.disk.now)
    (omega (arith, c.size.ensures, c.loop-count-test.false)))
