use Rattle.std.proofs.Common.{List, subst}
use Rattle.std.proofs.lemmas.Result.{IfOk-weaker}
use Rattle.archive_terms.specs.Archive.{Entry}
use Rattle.gate_journal.specs.JournalState.{IsOldOrNew}
use Rattle.station_world.specs.File.{in_a_store, acknowledged}
use Rattle.station_world.specs.Archives.{StandsForOne}
use Rattle.station_world.proofs.Results.{both_ok, fresh_ok, fresh_err, at_err}
use Rattle.station_world.proofs.Archives.{throughout}
use Rattle.station_world.proofs.archive.store.Goals as goal

pub returns-clause-stored : goal.returns-clause-stored
returns-clause-stored g c =
    fresh_ok _ c.store.result c.args.archive.now.is_stale _ c.store.ensures.stale
    (λ fresh. both_ok c.store.result (λ adds is.
    c.archive_calls_are_events.ensures.stored c.args.archive.now c.store.new.self fresh adds is)
    c.store.ensures.acknowledged
    (IfOk-weaker c.store.result _ _ (λ stored is. is.0) c.store.ensures.stored))

pub returns-clause-failed : goal.returns-clause-failed
returns-clause-failed g c failed =
    c.archive_calls_are_events.ensures.failed c.args.archive.now c.store.new.self
    (fresh_err c.store.result c.args.archive.now.is_stale _ _ c.store.ensures.stale failed
    (λ same. absurd cc))
    (at_err c.store.result _ failed c.store.ensures.still) (c.store.ensures.failed failed)

pub returns-clause-any_moment : goal.returns-clause-any_moment
returns-clause-any_moment g c fresh f holds =
    throughout g.D.Disk.moment g.D.Disk.images_since c.args.archive.now.disk c.store.new.self.disk
    _ (StandsForOne (in_a_store f))
    (λ image is. c.archive_calls_are_events.ensures.images_in_a_store f image
    (subst (λ (xs : List Entry). IsOldOrNew (acknowledged f) xs image) holds.waits is))
    (c.store.ensures.any_moment fresh (acknowledged f) holds.acknowledges)
