use Rattle.std.proofs.Common.{arith}
use Rattle.buffer_message.proofs.Contents.{measured_with}
use Rattle.buffer_message.proofs.item.signed_length.Goals as goal

pub returns-clause-exact : goal.returns-clause-exact
returns-clause-exact c =
    measured_with _ _ _ _ _ _ _ c.length.ensures c.transfer_item.ensures.content
    c.transfer_item.ensures.time c.requires
    (record {
      least_so = c.blank_octets-blank.ensures.least;
      greatest_so = omega (arith, c.blank_octets-blank.ensures.most);
    }) c.blank_octets-blank.ensures.many
