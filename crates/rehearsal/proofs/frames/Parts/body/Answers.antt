use Rattle.std.proofs.Common.{◌≡◌, ◌∙◌, ◌+◌, ◌-◌, ◌%◌, length, take, drop, refl, ap, rules, arith}
use Rattle.rehearsal.specs.Frames.{body_octets, body_octets-is}
use Rattle.rehearsal.proofs.Octets.{length-ramp_octets, stretch}
use Rattle.rehearsal.proofs.frames.Parts.body.Goals as goal

pub slice_bounds-result-end : goal.slice_bounds-result-end
slice_bounds-result-end c =
    let long : length c.deref.result.now ≡ 1369 =
    ap length (c.deref.ensures.value ∙ c.args.self.now.made.0) ∙ length-ramp_octets in
    search rules

pub returns : goal.returns
returns c =
    let start = (c.args.i + 2) % 256 in
    let count : start + 1113 - start ≡ body_octets = omega (arith, body_octets-is) in
    ap (λ n. take n (drop start c.deref.result.now)) count
    ∙ ap (λ ramp. take body_octets (drop start ramp))
    (c.deref.ensures.value ∙ c.args.self.now.made.0)
    ∙ stretch c.args.i start refl
