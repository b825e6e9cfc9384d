use Rattle.std.proofs.Common.{◌≡◌, [], ◌∷◌, ◌++◌, ◌∙◌, rules}
use Rattle.sample_book.proofs.Seated.{did_of, joined_two}
use Rattle.sample_book.proofs.work.run_two.Goals as goal

pub returns-clause-workers : goal.returns-clause-workers
returns-clause-workers g c =
    let lock = c.in_ok-station.station in
    let one = c.in_ok-one.one in
    let two = c.in_ok-two.two in
    let first = c.serve_both.new.first in
    let second = c.serve_both.new.second in
    let start : c.in_ok-station.pass.joined ≡ [] = search rules in
    let alone : first.pass.joined ≡ [] = c.serve_both.ensures.first.worked.joined
    ∙ c.in_ok-one.ensures.seated.0.joined in
    let apart : second.pass.joined ≡ [] = c.serve_both.ensures.second.worked.joined
    ∙ c.in_ok-two.ensures.seated.0.joined in
    let before : c.seat-2.new.pass.joined ≡ [] = search rules in
    let joined : c.in-Ok.pass.joined
    ≡ (c.seat-2.new.pass.joined ++ first.pass.own ∷ first.pass.joined) ++ second.pass.own
    ∷ second.pass.joined = search rules in
    record {
      firsts = first.pass.own;
      seconds = second.pass.own;
      joined_are = joined ∙ joined_two c.seat-2.new.pass.joined first.pass.own second.pass.own
          first.pass.joined second.pass.joined before alone apart;
      first_did = did_of lock one first c.args.first c.in_ok-one.ensures.seated.0
          c.in_ok-one.ensures.seated.1 c.serve_both.ensures.first;
      second_did = did_of lock two second c.args.second c.in_ok-two.ensures.seated.0
          c.in_ok-two.ensures.seated.1 c.serve_both.ensures.second;
    }
