use Rattle.std.proofs.Common.{◌∙◌, arith}
use Rattle.sle_common.specs.InstanceRef.{part_of}
use Rattle.sle_common.proofs.Naming.{parts_read, reads_onward, spelled_parts}
use Rattle.sle_common.proofs.instance_ref.PartsMembers.read.Goals as goal

pub since-spelled-requires : goal.since-spelled-requires
since-spelled-requires c =
    let lent = c.in_ok-lend_list.ensures.exact in
    let read = parts_read c.args.reader.now c.read.new.reader c.lend_list.new.reader
    (part_of c.in_ok-read.field-0) lent.0 c.in_ok-read.ensures.exact lent.1 in
    omega (
      arith,
      c.place-start.ensures.exact,
      reads_onward c.args.reader.now c.lend_list.new.reader _ c.octets.ensures.slice
          c.place-start.ensures.shallow read,
    )

pub returns-clause-exact : goal.returns-clause-exact
returns-clause-exact c =
    let lent = c.in_ok-lend_list.ensures.exact in
    let read = parts_read c.args.reader.now c.read.new.reader c.lend_list.new.reader
    (part_of c.in_ok-read.field-0) lent.0 c.in_ok-read.ensures.exact lent.1 in
    spelled_parts c.args.reader.now c.lend_list.new.reader c.place-start.result
    c.since-spelled.result.now _ c.place-start.ensures.exact (c.lend_list.ensures.octets
    ∙ c.read.ensures.octets) c.since-spelled.ensures
    c.slice.ensures c.octets.ensures.slice c.place-start.ensures.shallow read
