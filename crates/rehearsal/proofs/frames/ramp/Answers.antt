use Rattle.std.proofs.Common.{◌≡◌, ◌∙◌, ◌++◌, ◌∷◌, ◌%◌, [], rules, arith}
use Rattle.rehearsal.proofs.Octets.{ramp_more, ramp_whole}
use Rattle.rehearsal.proofs.frames.ramp.Goals as goal

pub loop-place-preserved : goal.loop-place-preserved
loop-place-preserved c =
    let put : c.push.new.self.items ≡ c.loop-place.ramp.items ++ c.loop-place.place % 256 ∷ [] =
    search rules in
    put ∙ ramp_more c.loop-place.ramp.items c.loop-place.place c.loop-place.invariant

pub returns : goal.returns
returns c = ramp_whole c.loop-place.ramp.items c.loop-place.place (omega arith)
    c.loop-place.invariant
