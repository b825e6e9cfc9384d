use Rattle.std.proofs.Common.{◌+◌, [], ◌∷◌}
use Rattle.disk_model.specs.Calls.{runs_and, follows_if_ok}
use Rattle.disk_model.specs.declared.call.Call.TheVariants.{Write, Sync}
use Rattle.gate_journal.specs.JournalState.{IsOldOrNew}
use Rattle.disk_model.specs.Throughout.{weaker, and_then}
use Rattle.gate_journal.proofs.Adding.{first_holds, second_holds, added, rests_again, old_or_new}
use Rattle.gate_journal.proofs.journal.put.Goals as goal

pub returns-in_err-write_synced-clause-any_moment
    : goal.returns-in_err-write_synced-clause-any_moment
returns-in_err-write_synced-clause-any_moment g c batch ready entries keeps =
    weaker g.D.Disk.moment g.D.Disk.images_since _ _ _ _ (λ image is.
    old_or_new entries batch c.args.gate image (first_holds c.read_back.ensures _ _
    c.args.octets.now c.requires.at_rest batch entries keeps image is))
    c.write_synced.ensures.any_moment

pub returns-clause-added : goal.returns-clause-added
returns-clause-added g c =
    follows_if_ok c.open_gate.result c.open_gate.ensures.written
    (added c.read_back.ensures _ _ _ _ c.args.octets.now c.requires.at_rest
    c.in_ok-write_synced.ensures.written)

pub returns-clause-at_rest : goal.returns-clause-at_rest
returns-clause-at_rest g c =
    follows_if_ok c.open_gate.result c.open_gate.ensures.written
    (rests_again c.read_back.ensures _ _ _ _ c.args.octets.now c.requires.at_rest
    c.in_ok-write_synced.ensures.written)

pub returns-clause-any_moment : goal.returns-clause-any_moment
returns-clause-any_moment g c batch ready entries keeps =
    and_then g.D.Disk.moment g.D.Disk.images_since _ _ _ (IsOldOrNew entries batch)
    (weaker g.D.Disk.moment g.D.Disk.images_since _ _ _ _ (λ image is.
    old_or_new entries batch c.args.gate image (first_holds c.read_back.ensures _ _
    c.args.octets.now c.requires.at_rest batch entries keeps image is))
    c.write_synced.ensures.any_moment)
    (weaker g.D.Disk.moment g.D.Disk.images_since _ _ _ _ (λ image is.
    old_or_new entries batch c.args.gate image (second_holds c.read_back.ensures _ _ _
    c.args.octets.now c.requires.at_rest c.in_ok-write_synced.ensures.written batch ready entries
    keeps image is)) c.open_gate.ensures.any_moment)

pub returns-clause-calls : goal.returns-clause-calls
returns-clause-calls g c =
    runs_and g.D.Disk.makes g.D.Disk.fails c.open_gate.result
    (Write (c.args.gate + 1) c.args.octets.now ∷ Sync ∷ [])
    (Write c.args.gate (165 ∷ []) ∷ Sync ∷ []) _ _ _
    c.in_ok-write_synced.ensures.calls c.open_gate.ensures.calls

pub returns-in_err-write_synced-clause-in_place : goal.returns-in_err-write_synced-clause-in_place
returns-in_err-write_synced-clause-in_place g c batch ready entries keeps image is =
    let during = c.write_synced.ensures.any_moment in
    first_holds c.read_back.ensures _ _ c.args.octets.now c.requires.at_rest batch entries keeps
    image (during.each image (c.images_at_a_moment.ensures.counts_now c.write_synced.new.disk _
    image during.later is))

pub returns-clause-in_place : goal.returns-clause-in_place
returns-clause-in_place g c batch ready entries keeps image is =
    let during = c.open_gate.ensures.any_moment in
    second_holds c.read_back.ensures _ _ _ c.args.octets.now c.requires.at_rest
    c.in_ok-write_synced.ensures.written batch ready entries keeps image
    (during.each image (c.images_at_a_moment.ensures.counts_now c.open_gate.new.disk _ image
    during.later is))
