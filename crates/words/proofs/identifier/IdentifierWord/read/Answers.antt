use Rattle.words.specs.Parts.{parts}
use Rattle.words.proofs.Identifiers.{read_is_identifier}
use Rattle.words.proofs.identifier.IdentifierWord.read.Goals as goal

pub from_parts-requires : goal.from_parts-requires
from_parts-requires c =
    read_is_identifier (parts 46 c.args.word.now) c.in_ok-parts.parts.items
    c.in_ok-parts.ensures.exact
