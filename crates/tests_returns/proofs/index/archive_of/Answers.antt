use Rattle.std.proofs.Common.{◌≡◌, true}
use Rattle.archive_terms.specs.Archive.{may_follow}
use Rattle.record_form.specs.Entry.{entry_of, entries_of}
use Rattle.tests_returns.proofs.Growing.{goes_on}
use Rattle.tests_returns.proofs.index.archive_of.Goals as goal

pub loop-entry-preserved : goal.loop-entry-preserved
loop-entry-preserved c =
    let held = c.loop-entry.shelf in
    let e = c.entry-item.result in
    let judged = c.may_follow.ensures (entries_of held) c.loop-entry.invariant.0 in
    let follows : may_follow (entries_of held) (entry_of e) ≡ true =
    cc (judged, c.if-not-may_follow.false) in
    goes_on c.archive_grows.ensures.archive held e c.push.new.index c.push.new.shelf
    c.loop-entry.invariant.1 follows c.in_ok-push.ensures.held c.in_ok-push.ensures.indexed
