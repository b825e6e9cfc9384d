use Rattle.std.proofs.Common.{refl}
use Rattle.drill_text.proofs.Entries.{storable_fits}
use Rattle.drill_text.proofs.entry_line.append_entry.Goals as goal

pub write_line-requires : goal.write_line-requires
write_line-requires c κs =
    let fits = storable_fits c.args.entry.now c.requires.storable c.requires.octets in
    ((refl, tt), (tt, rw c.in-Frame.is at fits))
