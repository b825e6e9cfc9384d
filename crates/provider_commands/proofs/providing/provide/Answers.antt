use Rattle.provider_commands.proofs.Unprovided.{first_pass, given_up, never_started, unprovided}
use Rattle.provider_commands.proofs.providing.provide.Goals as goal

-- memory was refused to the words
pub returns-clause-provided : goal.returns-clause-provided
returns-clause-provided g c =
    unprovided g.D.Disk.pending g.D.Disk.extent g.D.Disk.moment g.D.Disk.images_since
    g.D.Disk.faults
    c.images_at_a_moment.ensures.only_now c.every_script_is_lawful.ensures _ c.args.kit.now.disk _
    c.code.result c.code.ensures c.in-Err.ensures.memory

pub returns-clause-started : goal.returns-clause-started
returns-clause-started g c = λ run is.
    never_started c.args.kit.now.disk c.args.kit.now.passes _
    (first_pass _ c.args.kit.now.doors.items c.args.kit.now.clocks.items c.args.kit.now.passes run
    is c.requires.ready)

pub returns-clause-not_started : goal.returns-clause-not_started
returns-clause-not_started g c = λ run is.
    given_up g.D.Disk.pending g.D.Disk.faults g.D.Disk.moment g.D.Disk.images_since g.D.Disk.makes
    g.D.Disk.fails g.D.Disk.fails_to_read c.args.kit.now.disk _ c.args.kit.now.passes _
    c.code.result c.code.ensures
