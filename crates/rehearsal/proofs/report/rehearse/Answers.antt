use Rattle.std.proofs.Common.{◌∙◌, ◌-◌, ◌∷◌, [], List, length, ap, length-append, subst}
use Rattle.std.proofs.Common.{arith}
use Rattle.std.proofs.lemmas.List.FromFn.{length-map-range_with_len}
use Rattle.archive_terms.specs.Archive.{Entry, seal}
use Rattle.sha1.specs.Sha1.{sha1}
use Rattle.station_desk.specs.Start.{told_desk}
use Rattle.rehearsal.specs.Counts.{Counts, frames_sent, buffers_sent, ends_sent, octets_sent}
use Rattle.rehearsal.specs.Frames.{time_at, entry_at, frames, frames_stored}
use Rattle.rehearsal.specs.Rehearsal.{told, lines}
use Rattle.rehearsal.proofs.Archives.{archive_is}
use Rattle.rehearsal.proofs.report.rehearse.Goals as goal

pub count_good-requires-clause-archive : goal.count_good-requires-clause-archive
count_good-requires-clause-archive c =
    rw c.in_ok-archive.ensures (archive_is c.archive_grows.ensures.archive c.args.n
    c.requires.some c.requires.few)

pub count_good-requires-clause-few : goal.count_good-requires-clause-few
count_good-requires-clause-few c =
    let few = c.requires.few in
    omega (
      arith,
      ap length c.in_ok-archive.ensures,
      length-append (frames c.args.n) (seal (time_at (c.args.n - 1)) ∷ []),
      length-map-range_with_len entry_at 0 c.args.n,
    )

pub returns : goal.returns
returns c =
    let n = c.args.n in
    let counts : Counts c.in_ok-tally.tally (told n) =
    subst (λ (entries : List Entry). Counts c.in_ok-tally.tally
    (told_desk entries (time_at 0) (time_at (n - 1)) 0)) c.in_ok-archive.ensures
    c.in_ok-tally.ensures in
    c.in_ok-report.ensures (told n) counts
    ∙ ap (λ stored. lines stored (frames_sent (told n)) (buffers_sent (told n))
    (ends_sent (told n)) (sha1 (octets_sent (told n))))
    (c.frames.ensures ∙ ap frames_stored c.in_ok-archive.ensures)
