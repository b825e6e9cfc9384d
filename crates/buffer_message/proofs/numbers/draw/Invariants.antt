use Rattle.std.proofs.Common.{◌≡◌, drop}
use Rattle.frame_select.specs.Item.{items_of}
use Rattle.buffer_message.specs.Signing.{number_after}
use Rattle.buffer_message.proofs.numbers.draw.Given as goal

-- what is drawn, and what is left to draw, are the whole
abbrev pub invariant-loop : goal.invariant-loop
invariant-loop l =
    number_after l.numbers (items_of (drop l.index l.others))
    ≡ number_after l.first (items_of l.others)
