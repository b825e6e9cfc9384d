-- A CLTU whose word was read has 1 to 65536 octets.
use Rattle.std.proofs.Common.{◌≡◌, ◌&&◌, true, length, ap₂}
use Rattle.std.proofs.lemmas.Bool.{le-leb}
use Rattle.std.specs.Prelude.{IsTrue}
use Rattle.user_task.specs.declared.cltus.CltuLine.{CltuLine}
use Rattle.user_task.specs.Fitting.{fits_line}
use Rattle.words.specs.HexOctets.{AreOctets}

pub line_fits : (line : CltuLine) → AreOctets 1 65536 line.octets → IsTrue (fits_line line)
line_fits line are =
    let fits : fits_line line ≡ true =
    ap₂ (λ a b. a && b) (le-leb 1 (length line.octets) are.some)
    (le-leb (length line.octets) 65536 are.few) in
    search fits
