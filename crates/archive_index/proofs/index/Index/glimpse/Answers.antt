use Rattle.std.proofs.Common.{sym}
use Rattle.std.proofs.lemmas.List.{length-map}
use Rattle.record_form.specs.Entry.{entry_of, entries_of}
use Rattle.archive_index.specs.IndexState.{totals_seen}
use Rattle.archive_index.proofs.Ends.{statuses}
use Rattle.archive_index.proofs.Giving.{glimpse_told}
use Rattle.archive_index.proofs.index.Index.glimpse.Goals as goal

pub returns-clause-glimpse : goal.returns-clause-glimpse
returns-clause-glimpse g c =
    let entries = entries_of c.args.entries.now in
    let totals = totals_seen c.args.self.now.totals in
    rw (
      c.has_closed.ensures,
      c.length-front.ensures,
      c.locks-2.ensures,
      c.production-2.ensures,
      c.in-Items.is,
    ) (glimpse_told entries _ _ totals _ (sym (length-map c.args.entries.now entry_of))
    c.requires.indexes.totals c.in_ok-given.ensures.gives)

pub locks-requires : goal.locks-requires
locks-requires g c =
    (statuses c.args.self.now.totals (entries_of c.args.entries.now) c.requires.indexes.totals
    c.requires.archive).locks

pub production-requires : goal.production-requires
production-requires g c =
    (statuses c.args.self.now.totals (entries_of c.args.entries.now) c.requires.indexes.totals
    c.requires.archive).production

pub locks-requires-2-clause-frame_sync : goal.locks-requires-2-clause-frame_sync
locks-requires-2-clause-frame_sync g c =
    (statuses c.args.self.now.totals (entries_of c.args.entries.now) c.requires.indexes.totals
    c.requires.archive).locks.frame_sync

pub locks-requires-2-clause-symbol : goal.locks-requires-2-clause-symbol
locks-requires-2-clause-symbol g c =
    (statuses c.args.self.now.totals (entries_of c.args.entries.now) c.requires.indexes.totals
    c.requires.archive).locks.symbol

pub locks-requires-2-clause-subcarrier : goal.locks-requires-2-clause-subcarrier
locks-requires-2-clause-subcarrier g c =
    (statuses c.args.self.now.totals (entries_of c.args.entries.now) c.requires.indexes.totals
    c.requires.archive).locks.subcarrier

pub locks-requires-2-clause-carrier : goal.locks-requires-2-clause-carrier
locks-requires-2-clause-carrier g c =
    (statuses c.args.self.now.totals (entries_of c.args.entries.now) c.requires.indexes.totals
    c.requires.archive).locks.carrier

pub production-requires-2 : goal.production-requires-2
production-requires-2 g c =
    (statuses c.args.self.now.totals (entries_of c.args.entries.now) c.requires.indexes.totals
    c.requires.archive).production
