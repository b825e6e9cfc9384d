use Rattle.std.proofs.Common.{◌++◌, ap, append_assoc, ◌∙◌}
use Rattle.isp1_tml.specs.Message.{spellings}
use Rattle.isp1_tml.specs.Reading.{Reading, reading}
use Rattle.isp1_tml.proofs.Readings.{reading_over}
use Rattle.isp1_tml.proofs.laws.goes_on.Goals as goal

pub returns : goal.returns
returns c place octets more messages rest s =
    let is = ap (reading place)
    (ap (λ x. x ++ more) s.whole ∙ append_assoc (spellings messages) rest more)
    ∙ reading_over place messages (rest ++ more) s.each in
    record {
      all = ap (λ (r : Reading). r.messages) is;
      rest = ap (λ (r : Reading). r.rest) is;
      fault = ap (λ (r : Reading). r.fault) is;
    }
