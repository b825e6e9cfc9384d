use Rattle.std.proofs.Common.{ap, ◌∙◌}
use Rattle.ber_core.specs.Tree.{first_identifier}
use Rattle.ber_core.specs.View.{left}
use Rattle.user_lines.specs.Tag.{tag_told}
use Rattle.user_lines.proofs.Frames.{left_before}
use Rattle.user_lines.proofs.tag.Tag.of.Goals as goal

pub returns-in-Some : goal.returns-in-Some
returns-in-Some c =
    c.with_identifier.ensures
    ∙ ap tag_told
    (c.in-Some.ensures
    ∙ ap (λ view. first_identifier (left view)) c.new.ensures
    ∙ ap first_identifier (left_before c.args.octets.now))
