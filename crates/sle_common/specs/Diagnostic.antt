-- Diagnostics (CCSDS 911.1-B, annex A).
use Rattle.std.proofs.Common.{◌≡◌, ℤ, [], ◌∷◌, ◌⊎◌, inl, inr, refl}
use Rattle.ber_shape.specs.Content.{any_integer}
use Rattle.ber_shape.specs.Element.{Element, simple}
use Rattle.ber_shape.specs.Same.{element_as}
use Rattle.ber_shape.specs.Choice.{either}
use Rattle.sle_common.specs.declared.diagnostic.Diagnostic.{Diagnostic}
use Rattle.sle_common.specs.declared.diagnostic.Diagnostic.TheVariants.{Common, Specific}

abbrev pub diagnostic_of : ℤ ⊎ ℤ → Diagnostic
diagnostic_of (inl z) = Specific z
diagnostic_of (inr z) = Common z

abbrev pub of_diagnostic : Diagnostic → ℤ ⊎ ℤ
of_diagnostic (Specific z) = inl z
of_diagnostic (Common z) = inr z

pub diagnostic_there : (d : Diagnostic) → diagnostic_of (of_diagnostic d) ≡ d
diagnostic_there (Specific z) = refl
diagnostic_there (Common z) = refl

pub diagnostic_back : (z : ℤ ⊎ ℤ) → of_diagnostic (diagnostic_of z) ≡ z
diagnostic_back (inl z) = refl
diagnostic_back (inr z) = refl

-- [0] INTEGER common, [1] INTEGER specific
abbrev pub diagnostic : Element Diagnostic
diagnostic = element_as (either (0x81 ∷ []) (simple (0x81 ∷ []) any_integer refl)
    (simple (0x80 ∷ []) any_integer refl) refl refl)
    (record {
      to = diagnostic_of;
      from = of_diagnostic;
      there = diagnostic_there;
      back = diagnostic_back;
    })
