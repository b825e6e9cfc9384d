-- What a forward service tells unasked (CCSDS 912.1-B, annex A, CltuNotification).
use Rattle.std.specs.Prelude.{ℕ, List, [], ◌∷◌, codes, refl}
use Rattle.sle_numbers.specs.Numbered.{AreNumbered}
use Rattle.fcltu_numbers.specs.declared.cltu_notification_type.CltuNotificationType.{CltuNotificationType}
use Rattle.fcltu_numbers.specs.declared.cltu_notification_type.CltuNotificationType.TheVariants as value

abbrev pub number_of : CltuNotificationType → ℕ
number_of value.CltuRadiated = 0
number_of value.SlduExpired = 1
number_of value.ProductionInterrupted = 2
number_of value.ProductionHalted = 3
number_of value.ProductionOperational = 4
number_of value.BufferEmpty = 5
number_of value.ActionListCompleted = 6
number_of value.ActionListNotCompleted = 7
number_of value.EventConditionEvFalse = 8

abbrev pub word_of : CltuNotificationType → List ℕ
word_of value.CltuRadiated = codes "cltuRadiated"
word_of value.SlduExpired = codes "slduExpired"
word_of value.ProductionInterrupted = codes "productionInterrupted"
word_of value.ProductionHalted = codes "productionHalted"
word_of value.ProductionOperational = codes "productionOperational"
word_of value.BufferEmpty = codes "bufferEmpty"
word_of value.ActionListCompleted = codes "actionListCompleted"
word_of value.ActionListNotCompleted = codes "actionListNotCompleted"
word_of value.EventConditionEvFalse = codes "eventConditionEvFalse"

-- in the table's order
abbrev pub all : List CltuNotificationType
all = value.CltuRadiated ∷ value.SlduExpired ∷ value.ProductionInterrupted
    ∷ value.ProductionHalted ∷ value.ProductionOperational ∷ value.BufferEmpty
    ∷ value.ActionListCompleted ∷ value.ActionListNotCompleted ∷ value.EventConditionEvFalse ∷ []

pub each : AreNumbered number_of all
each value.CltuRadiated = record { found = refl; small = refl }
each value.SlduExpired = record { found = refl; small = refl }
each value.ProductionInterrupted = record { found = refl; small = refl }
each value.ProductionHalted = record { found = refl; small = refl }
each value.ProductionOperational = record { found = refl; small = refl }
each value.BufferEmpty = record { found = refl; small = refl }
each value.ActionListCompleted = record { found = refl; small = refl }
each value.ActionListNotCompleted = record { found = refl; small = refl }
each value.EventConditionEvFalse = record { found = refl; small = refl }
