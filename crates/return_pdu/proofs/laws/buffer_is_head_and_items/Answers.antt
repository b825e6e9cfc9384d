use Rattle.std.proofs.Common.{◌++◌, length, append_assoc, sym, ◌∙◌, ap}
use Rattle.std.specs.List.{flat_map}
use Rattle.ber_core.specs.Length.{shortest_length}
use Rattle.ber_core.specs.Tree.{trees}
use Rattle.ber_core.specs.Spelling.{canonical}
use Rattle.ber_core.specs.Parts.{spelled-constructed, spelled-trees}
use Rattle.return_pdu.specs.Items.{buffer_tag}
use Rattle.return_pdu.proofs.laws.buffer_is_head_and_items.Goals as goal

pub returns : goal.returns
returns c = λ items.
    spelled-constructed buffer_tag (trees items)
    ∙ ap (λ spelled. buffer_tag ++ (shortest_length (length spelled) ++ spelled))
    (spelled-trees items)
    ∙ sym (append_assoc buffer_tag (shortest_length (length (flat_map canonical items)))
    (flat_map canonical items))
