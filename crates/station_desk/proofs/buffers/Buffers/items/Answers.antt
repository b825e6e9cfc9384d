use Rattle.std.proofs.Common.{rules}
use Rattle.std.proofs.lemmas.List.{length-map}
use Rattle.station_desk.proofs.Saying.{current_readable}
use Rattle.station_desk.proofs.buffers.Buffers.items.Goals as goal

pub returns-clause-few : goal.returns-clause-few
returns-clause-few g c =
    let few = (current_readable c.self.invariant (search rules)).few in
    search (rules, length-map)
