use Rattle.std.proofs.Common.{refl, sym, ◌∙◌, ap, subst}
use Rattle.ber_core.specs.Spelling.{Spells}
use Rattle.ber_shape.specs.Results.{ok_is}
use Rattle.ber_shape.specs.Exact.{element_is, element_again}
use Rattle.sle_common.specs.IdentifierText.{text_of}
use Rattle.sle_common.specs.IdentifierOctets.{identifier}
use Rattle.sle_common.proofs.Texts.{same_text}
use Rattle.sle_common.proofs.laws.text_and_octets_agree.Goals as goal

pub returns : goal.returns
returns c octets of_text of_octets slice are read =
    let (fits, spells) = element_is identifier octets of_octets slice read in (
      λ texts. subst (λ list. Spells (identifier.tree list) octets)
          (sym (same_text of_text of_octets are fits texts)) spells,
      λ spelled. ap text_of (ok_is of_text of_octets
          (sym (element_again identifier refl octets of_text are spelled) ∙ read)),
    )
