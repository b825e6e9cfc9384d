use Rattle.std.proofs.Common.{◌∙◌, ap, sym, None}
use Rattle.std.specs.Option.{option_map}
use Rattle.frame_select.specs.Selection.{selection_of}
use Rattle.archive_index.specs.declared.walk.Found.{Found}
use Rattle.archive_index.proofs.index.Index.after.Goals as goal

pub returns-in-Some-clause-exact : goal.returns-in-Some-clause-exact
returns-in-Some-clause-exact g c = λ entries indexes archive.
    ap (option_map (λ (f : Found). f.place)) (sym c.in-Some.is)
    ∙ c.onward.ensures.next entries (selection_of c.args.selection.now) c.args.place None indexes
    archive (c.walk-walk.ensures.walk entries indexes archive)

pub returns-in-None-clause-exact : goal.returns-in-None-clause-exact
returns-in-None-clause-exact g c = λ entries indexes archive.
    ap (option_map (λ (f : Found). f.place)) (sym c.in-None.is)
    ∙ c.onward.ensures.next entries (selection_of c.args.selection.now) c.args.place None indexes
    archive (c.walk-walk.ensures.walk entries indexes archive)
