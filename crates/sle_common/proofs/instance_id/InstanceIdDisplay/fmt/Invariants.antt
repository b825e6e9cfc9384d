use Rattle.std.proofs.Common.{◌≡◌, ℕ, List, ◌++◌, length}
use Rattle.std.specs.Prelude.{IsTrue}
use Rattle.std.specs.Fmt.{HasWritten, IsPlainFormatter}
use Rattle.std.specs.List.{AllByRecursion}
use Rattle.sle_common.specs.Identifier.{is_value}
use Rattle.sle_common.specs.IdentifierText.{text_of}
use Rattle.sle_common.proofs.Texts.{dotted}
use Rattle.sle_common.proofs.instance_id.InstanceIdDisplay.fmt.Given as goal

-- what is written, with what is left behind it, is the text
abbrev pub invariant-loop-part : goal.invariant-loop-part
invariant-loop-part g l = record {
  values : AllByRecursion (λ part. IsTrue (is_value part.value)) l.rest;
  written : IsPlainFormatter l.fn.f → (done : List ℕ)
      × HasWritten g.W.Write.write_str_gives l.fn.f done l.f
      × (done ++ dotted l.rest ≡ text_of l.self);
}

abbrev pub decreases-loop-part : goal.decreases-loop-part
decreases-loop-part g l = length l.rest
