use Rattle.std.proofs.Common.{◌≡◌, [], ◌∷◌, ap, rules}
use Rattle.user_talk.specs.Readings.{moment_shown}
use Rattle.user_talk.proofs.rounds.read.Goals as goal

pub returns-clause-told : goal.returns-clause-told
returns-clause-told g c =
    let is : moment_shown c.now.result ≡ c.unwrap_or-now.result = search rules in
    record {
      shown = c.now.result ∷ [];
      told = c.now.ensures;
      moments_are = ap (λ m. m ∷ []) is;
      asked = c.is_asked-asked.ensures;
    }
