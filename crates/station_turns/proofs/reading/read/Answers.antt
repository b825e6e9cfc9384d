use Rattle.std.proofs.Common.{◌≡◌, [], ◌∷◌, ap, sym, rules}
use Rattle.station_turns.specs.Reads.{moment_shown}
use Rattle.station_turns.proofs.reading.read.Goals as goal

pub returns-clause-told : goal.returns-clause-told
returns-clause-told g c =
    let is : moment_shown c.now.result ≡ c.unwrap_or.result = search rules in
    record {
      shown = c.now.result ∷ [];
      told = c.now.ensures;
      moments_are = ap (λ m. m ∷ []) is;
    }
