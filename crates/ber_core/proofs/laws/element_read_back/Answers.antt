use Rattle.std.proofs.Common.{◌+◌, length, refl, arith}
use Rattle.ber_core.specs.Length.{shortest_length}
use Rattle.ber_core.specs.Spelling.{element}
use Rattle.ber_core.specs.Parts.{length-element}
use Rattle.ber_core.specs.Facts.Lengths.{shortest_length-IsLength}
use Rattle.ber_core.specs.Facts.Found.{Stands-next_content}
use Rattle.ber_core.proofs.laws.element_read_back.Goals as goal

pub returns : goal.returns
unfolding element
returns c = λ view tag content more fits shallow front.
    Stands-next_content view tag content (view.place + length tag + length
    (shortest_length (length content))) (record {
      spelled = element tag content;
      rest = more;
      is_element = (
        shortest_length (length content),
        shortest_length-IsLength (length content) fits,
        refl,
      );
      before_end = front;
      begins = omega (arith, length-element tag content);
      shallow = shallow;
    })
