use Rattle.std.proofs.Common.{arith, ◌∙◌, ◌+◌, sym, subst, ℕ}
use Rattle.disk_model.specs.Moments.{Becomes}
use Rattle.disk_model.specs.RawFile.{FailsToGoOn, IsSizeOf}
use Rattle.disk_model.proofs.Piecewise.{one_more, has_size, stands_torn, fails_torn, elapses_on}
use Rattle.disk_model.proofs.Piecewise.{images_more, slice_length, none_more}
use Rattle.disk_model.proofs.pieces.write_whole.Goals as goal

pub loop-done-preserved : goal.loop-done-preserved
loop-done-preserved g c =
    let before = g.F.RawFile.pending c.args.file.now in
    let mid = g.F.RawFile.pending c.loop-done.file in
    let new = g.F.RawFile.pending c.go_on.new.file in
    let more = one_more before mid new c.args.octets.now c.args.size.now c.args.place
    c.loop-done.done c.in-Ok-go_on.further c.requires.size c.requires.place
    c.loop-done.invariant.4 c.loop-done.invariant.0 c.in-Ok-go_on.ensures.written in (
      more,
      elapses_on _ _ _ _ _ _ mid new c.loop-done.invariant.1 c.go_on.ensures.time
          (images_more before mid new c.args.octets.now c.args.place c.loop-done.done _
          c.loop-done.invariant.0 more),
      c.go_on.ensures.asked ∙ c.loop-done.invariant.2,
      omega (arith, c.max-in-Ok-go_on.ensures, c.loop-done.invariant.3),
      omega (
        arith,
        c.in-Ok-go_on.ensures.bound,
        slice_length c.args.octets.now c.loop-done.done,
        c.loop-done.invariant.4,
      ),
    )

pub returns-in-Ok-eq0-clause-torn : goal.returns-in-Ok-eq0-clause-torn
returns-in-Ok-eq0-clause-torn g c =
    let before = g.F.RawFile.pending c.args.file.now in
    let mid = g.F.RawFile.pending c.loop-done.file in
    let new = g.F.RawFile.pending c.go_on.new.file in
    stands_torn before new c.args.octets.now c.args.size.now c.args.place c.loop-done.done
    c.requires.size c.requires.place c.loop-done.invariant.4
    (none_more before mid new c.args.octets.now c.args.size.now c.args.place c.loop-done.done _
    c.in-Ok-eq0.field-0-test c.requires.size c.requires.place c.loop-done.invariant.4
    c.loop-done.invariant.0 c.in-Ok-eq0.ensures.written)

pub returns-in-Ok-eq0-clause-size : goal.returns-in-Ok-eq0-clause-size
returns-in-Ok-eq0-clause-size g c =
    let before = g.F.RawFile.pending c.args.file.now in
    let mid = g.F.RawFile.pending c.loop-done.file in
    let new = g.F.RawFile.pending c.go_on.new.file in
    subst (λ (n : ℕ). IsSizeOf new n) (sym c.loop-done.invariant.3)
    (has_size before new c.args.octets.now c.args.size.now c.args.place c.loop-done.done
    c.requires.size c.requires.place c.loop-done.invariant.4
    (none_more before mid new c.args.octets.now c.args.size.now c.args.place c.loop-done.done _
    c.in-Ok-eq0.field-0-test c.requires.size c.requires.place c.loop-done.invariant.4
    c.loop-done.invariant.0 c.in-Ok-eq0.ensures.written))

pub returns-in-Err-go_on-clause-torn : goal.returns-in-Err-go_on-clause-torn
returns-in-Err-go_on-clause-torn g c =
    let mid = g.F.RawFile.pending c.loop-done.file in
    let new = g.F.RawFile.pending c.go_on.new.file in
    fails_torn (g.F.RawFile.pending c.args.file.now) mid new
    c.args.octets.now c.args.size.now c.args.place c.loop-done.done c.requires.size c.requires.place
    c.loop-done.invariant.4 c.loop-done.invariant.0
    (subst (λ (n : ℕ). Becomes (FailsToGoOn (c.args.place + c.loop-done.done) n) mid new)
    (slice_length c.args.octets.now c.loop-done.done) c.in-Err-go_on.ensures.torn)
