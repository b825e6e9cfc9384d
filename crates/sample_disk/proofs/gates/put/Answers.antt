use Rattle.std.proofs.Common.{◌+◌, [], ◌∷◌}
use Rattle.disk_model.specs.Calls.{runs_and, follows_if_ok}
use Rattle.disk_model.specs.declared.call.Call.TheVariants.{Write, Sync}
use Rattle.sample_disk.specs.Gated.{IsOldOrNew}
use Rattle.disk_model.specs.Throughout.{weaker, and_then}
use Rattle.sample_disk.proofs.Adding.{first_holds, second_holds, added, rests_again}
use Rattle.sample_disk.proofs.gates.put.Goals as goal

pub returns-in_err-write_octet-clause-any_moment
    : goal.returns-in_err-write_octet-clause-any_moment
returns-in_err-write_octet-clause-any_moment g c octets keeps =
    weaker g.D.Disk.moment g.D.Disk.images_since c.args.disk.now c.write_octet.new.disk _ _
    (first_holds (g.D.Disk.pending c.args.disk.now) c.args.gate c.args.octet c.requires.at_rest
    octets keeps) c.write_octet.ensures.any_moment

pub returns-clause-added : goal.returns-clause-added
returns-clause-added g c =
    follows_if_ok c.open_gate.result c.open_gate.ensures.written
    (added (g.D.Disk.pending c.args.disk.now) (g.D.Disk.pending c.write_octet.new.disk)
    (g.D.Disk.pending c.open_gate.new.disk)
    c.args.gate c.args.octet c.requires.at_rest c.in_ok-write_octet.ensures.written)

pub returns-clause-at_rest : goal.returns-clause-at_rest
returns-clause-at_rest g c =
    follows_if_ok c.open_gate.result c.open_gate.ensures.written
    (rests_again (g.D.Disk.pending c.args.disk.now) (g.D.Disk.pending c.write_octet.new.disk)
    (g.D.Disk.pending c.open_gate.new.disk)
    c.args.gate c.args.octet c.requires.at_rest c.in_ok-write_octet.ensures.written)

pub returns-clause-any_moment : goal.returns-clause-any_moment
returns-clause-any_moment g c octets keeps =
    let old = c.args.disk.now in
    let mid = c.write_octet.new.disk in
    let new = c.open_gate.new.disk in
    let P = IsOldOrNew octets c.args.octet in
    and_then g.D.Disk.moment g.D.Disk.images_since old mid new P
    (weaker g.D.Disk.moment g.D.Disk.images_since old mid _ P
    (first_holds (g.D.Disk.pending old) c.args.gate c.args.octet c.requires.at_rest octets
    keeps) c.write_octet.ensures.any_moment)
    (weaker g.D.Disk.moment g.D.Disk.images_since mid new _ P
    (second_holds (g.D.Disk.pending old) (g.D.Disk.pending mid) c.args.gate c.args.octet
    c.requires.at_rest c.in_ok-write_octet.ensures.written octets keeps)
    c.open_gate.ensures.any_moment)

pub returns-clause-calls : goal.returns-clause-calls
returns-clause-calls g c =
    runs_and g.D.Disk.makes g.D.Disk.fails c.open_gate.result
    (Write (c.args.gate + 1) (c.args.octet ∷ 0 ∷ []) ∷ Sync ∷ [])
    (Write c.args.gate (165 ∷ []) ∷ Sync ∷ [])
    c.args.disk.now c.write_octet.new.disk c.open_gate.new.disk
    c.in_ok-write_octet.ensures.calls c.open_gate.ensures.calls
