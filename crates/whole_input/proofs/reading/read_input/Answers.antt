use Rattle.std.proofs.Common.{◌≡◌, ◌∙◌, ◌+◌, ◌++◌, vec_len, length, take, refl, rules}
use Rattle.whole_input.proofs.Read.{whole_read, more_read}
use Rattle.whole_input.proofs.reading.read_input.Goals as goal

pub returns-then-count-eq0-clause-octets : goal.returns-then-count-eq0-clause-octets
returns-then-count-eq0-clause-octets g c =
    whole_read _ _ _ _ _ _ c.in_ok-count.count _ c.loop-piece.invariant.left
    c.loop-piece.invariant.octets c.in_ok-count.ensures.taken (search rules) (search rules)

pub loop-piece-preserved : goal.loop-piece-preserved
loop-piece-preserved g c =
    let piece = take c.in_ok-count.count c.take_piece.new.piece in
    let full : length piece ≡ c.in_ok-count.count = search rules in
    let joined : c.extend_from_slice.new.self.items ≡ c.loop-piece.octets.items ++ piece =
    search rules in
    let counted : vec_len c.extend_from_slice.new.self
    ≡ vec_len c.loop-piece.octets + c.in_ok-count.count = search rules in
    let more = more_read _ _ _ _ c.take_piece.new.piece _ piece _ c.in_ok-count.count _ _
    c.loop-piece.invariant.left c.loop-piece.invariant.octets c.in_ok-count.ensures.taken refl full
    joined counted in
    record {
      left = more.0;
      octets = more.1;
      faults = c.in_ok-count.ensures.kept
          ∙ c.loop-piece.invariant.faults;
    }
