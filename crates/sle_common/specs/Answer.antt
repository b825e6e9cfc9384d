-- What a return answers (CCSDS 911.1-B, annex A): under [0] that the operation was done, under [1]
-- why not.
use Rattle.std.proofs.Common.{◌≡◌, true, [], ◌∷◌, Result, Ok, Err, ◌⊎◌, inl, inr, refl}
use Rattle.ber_shape.specs.Identifier.{is_apart}
use Rattle.ber_shape.specs.Content.{null}
use Rattle.ber_shape.specs.Element.{Element, simple}
use Rattle.ber_shape.specs.Members.{structured, last}
use Rattle.ber_shape.specs.Same.{element_as}
use Rattle.ber_shape.specs.Choice.{either}
use Rattle.sle_common.specs.declared.diagnostic.Diagnostic.{Diagnostic}
use Rattle.sle_common.specs.Diagnostic.{diagnostic}

abbrev pub answer_of : {X : Type 0} → Diagnostic ⊎ X → Result X Diagnostic
answer_of (inl why) = Err why
answer_of (inr done) = Ok done

abbrev pub of_answer : {X : Type 0} → Result X Diagnostic → Diagnostic ⊎ X
of_answer (Err why) = inl why
of_answer (Ok done) = inr done

pub answer_there : {X : Type 0} (r : Result X Diagnostic) → answer_of (of_answer r) ≡ r
answer_there (Err why) = refl
answer_there (Ok done) = refl

pub answer_back : {X : Type 0} (z : Diagnostic ⊎ X) → of_answer (answer_of z) ≡ z
answer_back (inl why) = refl
answer_back (inr done) = refl

-- this element, or [1] around a diagnostic
abbrev pub answered : {X : Type 0} (f : Element X) → is_apart (0xa1 ∷ []) f.starts ≡ true
    → Element (Result X Diagnostic)
answered f apart = element_as
    (either (0xa1 ∷ []) (structured (0xa1 ∷ []) (last diagnostic) refl) f refl apart)
    (record { to = answer_of; from = of_answer; there = answer_there; back = answer_back })

-- [0] NULL
abbrev pub confirmation : Element (Result (Unit {0}) Diagnostic)
confirmation = answered (simple (0x80 ∷ []) null refl) refl
