use Rattle.std.proofs.Common.{◌∷◌, [], map, arith}
use Rattle.std.proofs.lemmas.Result.{err_from_is_err_and}
use Rattle.record_form.specs.Entry.{entry_of}
use Rattle.recorder.specs.Feeds.{gave, failed, wants_memory}
use Rattle.recorder.proofs.step.poll.Goals as goal

pub returns-in_err-push-in-Entry-clause-gave : goal.returns-in_err-push-in-Entry-clause-gave
returns-in_err-push-in-Entry-clause-gave g c =
    let p = err_from_is_err_and c.from_residual.result c.from_residual.ensures.1 in
    let more = gave (entry_of c.in-Entry.entry) ∷ [] in
    rw p.1 (
      c.polls.entries,
      (
        more,
        omega arith,
        c.answers_of_two_runs_join.ensures.joined (g.F.FrameSource.answers c.args.frames.now)
            (g.F.FrameSource.answers c.polls.frames) (g.F.FrameSource.answers c.next.new.self)
            (map gave c.polls.entries) more c.polls.invariant.3 c.in-Entry.ensures.told,
      ),
    )

pub returns-in-Failed-clause-gave : goal.returns-in-Failed-clause-gave
returns-in-Failed-clause-gave g c = (
  c.polls.entries,
  (
    failed ∷ [],
    omega arith,
    c.answers_of_two_runs_join.ensures.joined (g.F.FrameSource.answers c.args.frames.now)
        (g.F.FrameSource.answers c.polls.frames) (g.F.FrameSource.answers c.next.new.self)
        (map gave c.polls.entries) (failed ∷ []) c.polls.invariant.3 c.in-Failed.ensures.told,
  ),
)

pub returns-in-Memory-clause-gave : goal.returns-in-Memory-clause-gave
returns-in-Memory-clause-gave g c = (
  c.polls.entries,
  (
    wants_memory ∷ [],
    omega arith,
    c.answers_of_two_runs_join.ensures.joined (g.F.FrameSource.answers c.args.frames.now)
        (g.F.FrameSource.answers c.polls.frames) (g.F.FrameSource.answers c.next.new.self)
        (map gave c.polls.entries) (wants_memory ∷ []) c.polls.invariant.3
        c.in-Memory.ensures.told,
  ),
)
