use Rattle.std.proofs.Common.{map}
use Rattle.picture_page.specs.Attributes.{said}
use Rattle.picture_page.specs.Content.{start}
use Rattle.picture_page.specs.Escape.{escaped}
use Rattle.picture_page.specs.Sheet.{element_gains}
use Rattle.picture_page.proofs.page.Page.element.Goals as goal

pub returns : goal.returns
returns c = element_gains c.args.self.now c.begin.new.self c.text.new.self c.end.new.self
    c.args.tag (start c.args.tag (map said c.args.attributes.now)) (escaped c.args.octets.now)
    c.begin.ensures c.text.ensures c.end.ensures
