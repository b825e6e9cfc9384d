use Rattle.std.proofs.Common.{◌≡◌, ◌+◌, ◌++◌, ◌∷◌, take, drop, false, subst}
use Rattle.archive_terms.specs.Archive.{is_archive, may_follow}
use Rattle.record_form.specs.Entry.{entry_of, entries_of}
use Rattle.station_book.proofs.Extending.{foreign_entry, taken_apart}
use Rattle.station_book.proofs.extend.put_all.Goals as goal

pub returns-then-not-may_follow-clause-foreign : goal.returns-then-not-may_follow-clause-foreign
returns-then-not-may_follow-clause-foreign c = λ _.
    let xs = c.args.entries.now in
    let old = c.args.archive.now in
    let i = c.loop-count.count in
    let e = c.index-entries-count.result in
    let held = c.loop-count.archive in
    let judged = c.may_follow.ensures (entries_of held) c.loop-count.invariant.indexed in
    let follows : may_follow (entries_of held) (entry_of e) ≡ false =
    cc (judged, c.if-not-may_follow.true) in
    let none : is_archive (entries_of old ++ entries_of (take i xs ++ e ∷ drop (i + 1) xs))
    ≡ false =
    foreign_entry c.archive_grows.ensures.archive old (take i xs) (drop (i + 1) xs) e
    c.loop-count.index held c.loop-count.invariant follows in
    let whole : take i xs ++ e ∷ drop (i + 1) xs ≡ xs =
    taken_apart xs i e c.loop-count-test.true c.index-entries-count.is in
    subst (λ ys. is_archive (entries_of old ++ entries_of ys) ≡ false) whole none
