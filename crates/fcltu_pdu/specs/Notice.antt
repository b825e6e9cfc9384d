-- The kinds of notices (CCSDS 912.1-B, annex A): each has a context tag of its own.
use Rattle.std.proofs.Common.{◌≡◌, ℕ, pos, ◌+◌, Option, Some, None, List, [], ◌∷◌}
use Rattle.std.proofs.Common.{◌⊎◌, inl, inr, refl, Bool, true, false, IsTrue, IsFalse}
use Rattle.ber_core.specs.Integer.{integer_octets}
use Rattle.ber_core.specs.Tree.{primitive}
use Rattle.ber_shape.specs.Content.{null}
use Rattle.ber_shape.specs.Element.{Element, simple}
use Rattle.ber_shape.specs.Same.{element_where}
use Rattle.ber_shape.specs.Choice.{either}
use Rattle.sle_common.specs.Natural.{natural, IsBetween}
use Rattle.fcltu_numbers.specs.CltuNotificationType.{number_of}
use Rattle.fcltu_numbers.specs.declared.cltu_notification_type.CltuNotificationType.{CltuNotificationType}
use Rattle.fcltu_numbers.specs.declared.cltu_notification_type.CltuNotificationType.TheVariants as kind
use Rattle.fcltu_pdu.specs.declared.notice_kind.NoticeKind.{NoticeKind}

-- what is told of an event
abbrev pub is_of_event : CltuNotificationType → Bool
is_of_event kind.ActionListCompleted = true
is_of_event kind.ActionListNotCompleted = true
is_of_event kind.EventConditionEvFalse = true
is_of_event _ = false

-- a kind of an event carries the number of its invocation, another one nothing
abbrev pub HasNumber : CltuNotificationType → Option ℕ → Type 0
HasNumber kind None = IsFalse (is_of_event kind)
HasNumber kind (Some number) = IsTrue (is_of_event kind) × IsBetween 0 4294967295 number

-- the content of the element
abbrev pub content : Option ℕ → List ℕ
content None = []
content (Some number) = integer_octets (pos number)

abbrev pub Events : Type 0
Events = ℕ ⊎ (ℕ ⊎ (ℕ ⊎ Unit {0}))

abbrev pub Kinds : Type 0
Kinds = Unit {0} ⊎ (Unit {0} ⊎ (Unit {0} ⊎ (Unit {0} ⊎ (Unit {0} ⊎ Events))))

-- [8] eventConditionEvFalse with the number; [0] cltuRadiated stands behind all others
abbrev pub from_8 : Element (ℕ ⊎ Unit {0})
from_8 =
    either (0x88 ∷ []) (natural (0x88 ∷ []) 0 4294967295 refl refl)
    (simple (0x80 ∷ []) null refl) refl refl

-- [7] actionListNotCompleted with the number, or a later one
abbrev pub from_7 : Element (ℕ ⊎ (ℕ ⊎ Unit {0}))
from_7 = either (0x87 ∷ []) (natural (0x87 ∷ []) 0 4294967295 refl refl) from_8 refl refl

-- [6] actionListCompleted with the number, or a later one
abbrev pub from_6 : Element Events
from_6 = either (0x86 ∷ []) (natural (0x86 ∷ []) 0 4294967295 refl refl) from_7 refl refl

-- [5] bufferEmpty, or a later one
abbrev pub from_5 : Element (Unit {0} ⊎ Events)
from_5 = either (0x85 ∷ []) (simple (0x85 ∷ []) null refl) from_6 refl refl

-- [4] productionOperational, or a later one
abbrev pub from_4 : Element (Unit {0} ⊎ (Unit {0} ⊎ Events))
from_4 = either (0x84 ∷ []) (simple (0x84 ∷ []) null refl) from_5 refl refl

-- [3] productionHalted, or a later one
abbrev pub from_3 : Element (Unit {0} ⊎ (Unit {0} ⊎ (Unit {0} ⊎ Events)))
from_3 = either (0x83 ∷ []) (simple (0x83 ∷ []) null refl) from_4 refl refl

-- [2] productionInterrupted, or a later one
abbrev pub from_2 : Element (Unit {0} ⊎ (Unit {0} ⊎ (Unit {0} ⊎ (Unit {0} ⊎ Events))))
from_2 = either (0x82 ∷ []) (simple (0x82 ∷ []) null refl) from_3 refl refl

-- [1] slduExpired, or a later one
abbrev pub kinds : Element Kinds
kinds = either (0x81 ∷ []) (simple (0x81 ∷ []) null refl) from_2 refl refl

abbrev pub plain : CltuNotificationType → NoticeKind
plain kind = record { kind = kind; number = None }

abbrev pub numbered : CltuNotificationType → ℕ → NoticeKind
numbered kind number = record { kind = kind; number = Some number }

abbrev pub kind_of : Kinds → NoticeKind
kind_of (inl expired) = plain kind.SlduExpired
kind_of (inr (inl interrupted)) = plain kind.ProductionInterrupted
kind_of (inr (inr (inl halted))) = plain kind.ProductionHalted
kind_of (inr (inr (inr (inl operational)))) = plain kind.ProductionOperational
kind_of (inr (inr (inr (inr (inl empty))))) = plain kind.BufferEmpty
kind_of (inr (inr (inr (inr (inr (inl number)))))) = numbered kind.ActionListCompleted number
kind_of (inr (inr (inr (inr (inr (inr (inl number))))))) =
    numbered kind.ActionListNotCompleted number
kind_of (inr (inr (inr (inr (inr (inr (inr (inl number)))))))) =
    numbered kind.EventConditionEvFalse number
kind_of (inr (inr (inr (inr (inr (inr (inr (inr radiated)))))))) = plain kind.CltuRadiated

abbrev pub of_plain : CltuNotificationType → Kinds
of_plain kind.SlduExpired = inl tt
of_plain kind.ProductionInterrupted = inr (inl tt)
of_plain kind.ProductionHalted = inr (inr (inl tt))
of_plain kind.ProductionOperational = inr (inr (inr (inl tt)))
of_plain kind.BufferEmpty = inr (inr (inr (inr (inl tt))))
of_plain _ = inr (inr (inr (inr (inr (inr (inr (inr tt)))))))

abbrev pub of_numbered : CltuNotificationType → ℕ → Kinds
of_numbered kind.ActionListCompleted number = inr (inr (inr (inr (inr (inl number)))))
of_numbered kind.ActionListNotCompleted number = inr (inr (inr (inr (inr (inr (inl number))))))
of_numbered _ number = inr (inr (inr (inr (inr (inr (inr (inl number)))))))

abbrev pub of_parts : CltuNotificationType → Option ℕ → Kinds
of_parts kind None = of_plain kind
of_parts kind (Some number) = of_numbered kind number

-- what holds of a kind with the number that it carries
pub record IsKind (kind : CltuNotificationType) (number : Option ℕ) : Type 0 where
  pub fits : kinds.Fits (of_parts kind number)
  pub again : kind_of (of_parts kind number) ≡ record { kind = kind; number = number }
  -- the identifier is of that context tag
  pub tree : kinds.tree (of_parts kind number)
      ≡ primitive ((0x80 + number_of kind) ∷ []) (content number)

is_kind : (kind : CltuNotificationType) (number : Option ℕ) → HasNumber kind number
    → IsKind kind number
is_kind kind.CltuRadiated None has = record { fits = tt; again = refl; tree = refl }
is_kind kind.SlduExpired None has = record { fits = tt; again = refl; tree = refl }
is_kind kind.ProductionInterrupted None has = record { fits = tt; again = refl; tree = refl }
is_kind kind.ProductionHalted None has = record { fits = tt; again = refl; tree = refl }
is_kind kind.ProductionOperational None has = record { fits = tt; again = refl; tree = refl }
is_kind kind.BufferEmpty None has = record { fits = tt; again = refl; tree = refl }
is_kind kind.ActionListCompleted (Some number) has =
    record { fits = has.1; again = refl; tree = refl }
is_kind kind.ActionListNotCompleted (Some number) has =
    record { fits = has.1; again = refl; tree = refl }
is_kind kind.EventConditionEvFalse (Some number) has =
    record { fits = has.1; again = refl; tree = refl }
is_kind _ _ has = cc

pub kind_there : (k : NoticeKind) → HasNumber k.kind k.number
    → kinds.Fits (of_parts k.kind k.number) × (kind_of (of_parts k.kind k.number) ≡ k)
kind_there k has = let is = is_kind k.kind k.number has in (is.fits, is.again)

pub kind_back : (z : Kinds) → kinds.Fits z
    → HasNumber (kind_of z).kind (kind_of z).number
    × (of_parts (kind_of z).kind (kind_of z).number ≡ z)
kind_back (inl expired) fits = (refl, refl)
kind_back (inr (inl interrupted)) fits = (refl, refl)
kind_back (inr (inr (inl halted))) fits = (refl, refl)
kind_back (inr (inr (inr (inl operational)))) fits = (refl, refl)
kind_back (inr (inr (inr (inr (inl empty))))) fits = (refl, refl)
kind_back (inr (inr (inr (inr (inr (inl number)))))) fits =
    ((refl, fits), refl)
kind_back (inr (inr (inr (inr (inr (inr (inl number))))))) fits =
    ((refl, fits), refl)
kind_back (inr (inr (inr (inr (inr (inr (inr (inl number)))))))) fits =
    ((refl, fits), refl)
kind_back (inr (inr (inr (inr (inr (inr (inr (inr radiated)))))))) fits = (refl, refl)

abbrev pub notice_kind : Element NoticeKind
notice_kind = element_where kinds (record {
  to = kind_of;
  from = λ k. of_parts k.kind k.number;
  Holds = λ k. HasNumber k.kind k.number;
  there = kind_there;
  back = kind_back;
})

-- the element of a kind: its identifier is of the kind's context tag
pub tree_of_kind : (kind : NoticeKind) → notice_kind.Fits kind
    → notice_kind.tree kind ≡ primitive ((0x80 + number_of kind.kind) ∷ []) (content kind.number)
tree_of_kind kind has = (is_kind kind.kind kind.number has).tree
