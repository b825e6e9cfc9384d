use Rattle.std.specs.Option.{option_map}
use Rattle.frame_select.specs.Glimpse.{glimpse_of}
use Rattle.frame_select.specs.Selection.{selection_of}
use Rattle.return_core.specs.Mode.{mode_of}
use Rattle.return_core.proofs.Stepping.{filled_course, sound_filled}
use Rattle.return_core.proofs.delivery.Delivery.fill.Goals as goal

pub invariant_of-self : goal.invariant_of-self
invariant_of-self c =
    let d = c.self.inside in
    sound_filled (mode_of d.mode) d.latency d.held c.fill-is_last.new.self d.last d.owed
    (glimpse_of c.args.glimpse) c.args.now
    c.self.invariant c.fill-is_last.ensures.after

pub returns : goal.returns
returns c =
    let d = c.self.inside in
    filled_course (mode_of d.mode) d.latency (option_map selection_of d.selection)
    (glimpse_of c.args.glimpse) c.args.now
    d.held d.last d.owed d.fixed d.ended c.args.self.now c.fill-is_last.new.self
    c.limit-limit.result c.fill-is_last.result
    c.due-self-inside.result c.self.view_is c.requires.filling c.fill-is_last.ensures.after
    c.limit-limit.ensures
    c.fill-is_last.ensures.last c.due-self-inside.ensures
