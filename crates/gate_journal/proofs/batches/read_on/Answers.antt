use Rattle.std.proofs.Common.{◌≡◌, ◌+◌, ◌-◌, length, take, drop, sym, subst, rules}
use Rattle.disk_model.specs.Moments.{Reads}
use Rattle.gate_journal.proofs.Parts.{reads_joined, end_written}
use Rattle.gate_journal.proofs.batches.read_on.Goals as goal

pub returns-clause-octets : goal.returns-clause-octets
returns-clause-octets g c read =
    let pending = g.D.Disk.pending c.args.disk.now in
    let room = c.deref_mut.result.now in
    let kept = c.len.result - c.args.from in
    let more = c.read_at.new.into in
    let front : take kept room ≡ drop c.args.from c.args.room.now.items = search rules in
    let long : kept + length more ≡ c.keep_from.new.room.len = search rules in
    subst (Reads pending c.args.place) (sym (end_written kept c.keep_from.new.room.len room more
    _ _ (search rules) (sym long)))
    (reads_joined pending (take kept room) more c.args.place (c.args.place + kept) (search rules)
    (subst (Reads pending c.args.place) (sym front) read) (search rules))
