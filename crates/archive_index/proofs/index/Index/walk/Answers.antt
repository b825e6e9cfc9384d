use Rattle.std.proofs.Common.{arith, refl}
use Rattle.frame_select.specs.Selection.{selection_of}
use Rattle.archive_index.specs.Rows.{rows_of, passes}
use Rattle.archive_index.proofs.Short.{short_frames}
use Rattle.archive_index.proofs.Walks.{wanted_rest}
use Rattle.archive_index.proofs.index.Index.walk.Goals as goal
use Rattle.archive_index.proofs.index.Index.walk.Goals.{in-Some, in-None}

pub returns-clause-walk : goal.returns-clause-walk
returns-clause-walk g c = λ entries indexes archive.
    let s = selection_of c.args.selection.now in
    let found = c.first_passing-frame.ensures.first entries indexes archive in
    let first = rw (c.max-first.ensures, c.unwrap_or.ensures) at found in
    record {
      same_filter = refl;
      stop = refl;
      frames = wanted_rest s c.args.place c.first_passing-frame.result
          (rows_of (passes s.filter) entries) first;
      notices = c.told-told.ensures.told entries c.args.place indexes archive c.max-first.ensures;
      lost = elim c.match-since.branch [
        | in-Some w ↦ rw (w.lost-is, w.in-Some.is, w.lost_through.ensures.exact entries indexes archive) refl
        | in-None w ↦ rw (w.lost-is, w.in-None.is) refl
      ];
    }

pub returns-clause-steps : goal.returns-clause-steps
returns-clause-steps g c = λ entries b indexes few.
    let frames = short_frames _ entries indexes in
    let one = c.first_passing-frame.ensures.steps entries b indexes few in
    let told = c.told-told.ensures.steps entries b indexes few in
    elim c.match-since.branch [
      | in-Some w ↦ let two = w.lost_through.ensures.steps b (omega arith) in omega arith
      | in-None w ↦ omega arith
    ]
