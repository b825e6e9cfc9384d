use Rattle.std.proofs.Common.{sym, subst, arith}
use Rattle.archive_terms.specs.Selection.{by_quality, by_channel}
use Rattle.frame_select.specs.Selection.{id_of}
use Rattle.archive_index.specs.Rows.{IsRising, rows_of, passes}
use Rattle.archive_index.proofs.RowsOf.{passing_rise}
use Rattle.archive_index.proofs.Short.{short_frames, short_named, channel_through, channel_none}
use Rattle.archive_index.proofs.Short.{first_of_none}
use Rattle.archive_index.proofs.index.Index.first_passing.Goals as goal

pub returns-in-GoodFramesOnly-clause-first : goal.returns-in-GoodFramesOnly-clause-first
returns-in-GoodFramesOnly-clause-first g c = λ entries indexes archive.
    rw (c.in-Quality.is, c.in-GoodFramesOnly.is) (c.first_named.ensures.first
    (rows_of (passes (by_quality 0)) entries) indexes.sorts.good
    (passing_rise (by_quality 0) entries archive))

pub returns-in-ErredFrameOnly-clause-first : goal.returns-in-ErredFrameOnly-clause-first
returns-in-ErredFrameOnly-clause-first g c = λ entries indexes archive.
    rw (c.in-Quality.is, c.in-ErredFrameOnly.is) (c.first_named-in-ErredFrameOnly.ensures.first
    (rows_of (passes (by_quality 1)) entries) indexes.sorts.erred
    (passing_rise (by_quality 1) entries archive))

pub returns-in-AllFrames-clause-first : goal.returns-in-AllFrames-clause-first
returns-in-AllFrames-clause-first g c = λ entries indexes archive.
    let rows = indexes.sorts.frames in
    let rising = passing_rise (by_quality 2) entries archive in
    rw (c.in-Quality.is, c.in-AllFrames.is)
    (rw rows at (c.first_from.ensures.first (subst IsRising (sym rows) rising)))

pub returns-in-Some-clause-first : goal.returns-in-Some-clause-first
returns-in-Some-clause-first g c = λ entries indexes archive. rw c.in-Channel.is
    (c.first_named-in-Some.ensures.first (rows_of (passes (by_channel (id_of c.in-Channel.id))) entries)
    (channel_through c.args.self.now entries c.of.result (id_of c.in-Channel.id)
    c.in-Some.numbers.now indexes c.of.ensures (sym c.in-Some.ensures.value))
    (passing_rise (by_channel (id_of c.in-Channel.id)) entries archive))

pub returns-in-None-clause-first : goal.returns-in-None-clause-first
returns-in-None-clause-first g c = λ entries indexes archive. rw c.in-Channel.is
    (first_of_none c.args.place c.args.moment _ (channel_none c.args.self.now entries c.of.result
    (id_of c.in-Channel.id) indexes c.of.ensures (sym c.in-None.ensures.value)))

pub returns-in-GoodFramesOnly-clause-steps : goal.returns-in-GoodFramesOnly-clause-steps
returns-in-GoodFramesOnly-clause-steps g c = λ entries b indexes few.
    let short = short_named (passes (by_quality 0)) _ _ entries indexes.sorts.good in
    c.first_named.ensures.steps b (omega (arith, short))

pub returns-in-ErredFrameOnly-clause-steps : goal.returns-in-ErredFrameOnly-clause-steps
returns-in-ErredFrameOnly-clause-steps g c = λ entries b indexes few.
    let short = short_named (passes (by_quality 1)) _ _ entries indexes.sorts.erred in
    c.first_named-in-ErredFrameOnly.ensures.steps b (omega (arith, short))

pub returns-in-AllFrames-clause-steps : goal.returns-in-AllFrames-clause-steps
returns-in-AllFrames-clause-steps g c = λ entries b indexes few.
    let short = short_frames c.args.self.now entries indexes in
    let one = c.first_from.ensures.steps b (omega (arith, short)) in
    omega (arith, one)

pub returns-in-Some-clause-steps : goal.returns-in-Some-clause-steps
returns-in-Some-clause-steps g c = λ entries b indexes few.
    let through = channel_through c.args.self.now entries c.of.result (id_of c.in-Channel.id)
    c.in-Some.numbers.now indexes c.of.ensures (sym c.in-Some.ensures.value) in
    let short = short_named (passes (by_channel (id_of c.in-Channel.id))) _ _ entries through in
    c.first_named-in-Some.ensures.steps b (omega (arith, short))
