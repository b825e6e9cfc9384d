use Rattle.std.proofs.Common.{◌≡◌, [], drop, arith}
use Rattle.std.proofs.lemmas.Grind.{common_steps}
use Rattle.std.proofs.lemmas.List.{drop_all}
use Rattle.cds_time.proofs.cds.Cds.put.Goals as goal

-- nothing of the ten octets lies behind the tenth
pub returns-in-Picos-clause-octets : goal.returns-in-Picos-clause-octets
returns-in-Picos-clause-octets c =
    let none_behind : drop 10 c.args.into.now ≡ [] = drop_all 10 c.args.into.now (omega arith) in
    rw (none_behind, c.in-Picos.is) (grind (arith, common_steps))
