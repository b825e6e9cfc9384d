use Rattle.std.proofs.Common.{◌-◌, ◌%◌, take, sym}
use Rattle.std.proofs.lemmas.List.{take-append-drop}
use Rattle.archive_commands.proofs.listing.put_full.Goals as goal

pub returns-clause-written : goal.returns-clause-written
returns-clause-written g c =
    let full = c.len.result - c.len-2.result % 131072 in
    let held = c.args.block.now.items in
    record {
      text = take full held;
      splits = rw c.cut_front.ensures (sym (take-append-drop full held));
      wrote = rw c.deref.ensures.value at c.put_line-written.ensures.written;
    }
