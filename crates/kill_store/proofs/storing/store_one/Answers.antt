use Rattle.std.proofs.Common.{◌∙◌, arith}
use Rattle.record_form.specs.Entry.{entry_of}
use Rattle.frame_archive.specs.Acknowledges.{Acknowledges}
use Rattle.kill_store.proofs.Kept.{kept_none, kept_one}
use Rattle.kill_store.proofs.CountLines.{told_one}
use Rattle.kill_store.proofs.storing.store_one.Goals as goal

pub returns-in_err-count-clause-acknowledged : goal.returns-in_err-count-clause-acknowledged
returns-in_err-count-clause-acknowledged g c =
    λ entries acknowledged. kept_none
    (λ all. Acknowledges g.D.Disk.pending c.keep.new.archive all) entries c.args.number
    c.keep.new.archive.count (c.in_err-count.ensures.none ∙ c.requires.next)
    (c.in_err-count.ensures.still entries acknowledged)

pub returns-clause-told : goal.returns-clause-told
returns-clause-told g c =
    told_one {T = Unit {0}} _ _ _ _ c.args.number c.in_ok-count.count c.keep.new.archive.count
    c.put_count.result (omega (arith, c.in_ok-count.ensures.one, c.requires.next))
    (omega (arith, c.in_ok-count.ensures.count, c.in_ok-count.ensures.one, c.requires.next))
    c.put_count.ensures

pub returns-clause-acknowledged : goal.returns-clause-acknowledged
returns-clause-acknowledged g c =
    λ entries acknowledged. kept_one
    (λ all. Acknowledges g.D.Disk.pending c.keep.new.archive all) entries c.args.number
    c.keep.new.archive.count (entry_of c.in_ok-entry.entry)
    (omega (arith, c.in_ok-count.ensures.count, c.in_ok-count.ensures.one, c.requires.next))
    c.in_ok-entry.ensures.entry (c.in_ok-count.ensures.acknowledged entries acknowledged)
