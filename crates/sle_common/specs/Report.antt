-- What a SCHEDULE-STATUS-REPORT asks for (CCSDS 911.1-B, annex A).
use Rattle.std.proofs.Common.{◌≡◌, ℕ, [], ◌∷◌, ◌⊎◌, inl, inr, refl}
use Rattle.ber_shape.specs.Content.{null}
use Rattle.ber_shape.specs.Element.{Element, simple}
use Rattle.ber_shape.specs.Same.{element_as}
use Rattle.ber_shape.specs.Choice.{either}
use Rattle.sle_common.specs.declared.report_kind.ReportKind.{ReportKind}
use Rattle.sle_common.specs.declared.report_kind.ReportKind.TheVariants.{Now, Cycle, Stop}
use Rattle.sle_common.specs.Natural.{natural}

abbrev pub kind_from : ℕ ⊎ (Unit {0} ⊎ Unit {0}) → ReportKind
kind_from (inl n) = Cycle n
kind_from (inr (inl stop)) = Stop
kind_from (inr (inr now)) = Now

abbrev pub of_kind : ReportKind → ℕ ⊎ (Unit {0} ⊎ Unit {0})
of_kind (Cycle n) = inl n
of_kind Stop = inr (inl tt)
of_kind Now = inr (inr tt)

pub kind_there : (k : ReportKind) → kind_from (of_kind k) ≡ k
kind_there (Cycle n) = refl
kind_there Stop = refl
kind_there Now = refl

pub kind_back : (z : ℕ ⊎ (Unit {0} ⊎ Unit {0})) → of_kind (kind_from z) ≡ z
kind_back (inl n) = refl
kind_back (inr (inl stop)) = refl
kind_back (inr (inr now)) = refl

-- [0] NULL now, [1] INTEGER 0 to 65535 seconds, [2] NULL stop
abbrev pub report_kind : Element ReportKind
report_kind = element_as
    (either (0x81 ∷ []) (natural (0x81 ∷ []) 0 65535 refl refl)
    (either (0x82 ∷ []) (simple (0x82 ∷ []) null refl) (simple (0x80 ∷ []) null refl) refl refl)
    refl refl)
    (record { to = kind_from; from = of_kind; there = kind_there; back = kind_back })
