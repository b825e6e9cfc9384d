-- What objects of the outside tell of what they gave and took. This product's own.
use Rattle.std.specs.Prelude.{ℕ, List, [], ◌∷◌, Option, Some, None}
use Rattle.octet_core.specs.Told.{Tells}
use Rattle.sample_lock.specs.declared.order.Order.{Order}
use Rattle.sample_lock.specs.declared.order.Reply.{Reply}

-- what a desk tells of its answers to who asks for an order, of its clock's readings, and of the
-- replies that it took
pub record DeskReport : Type 0 where
  pub answers : Option (List (Option Order))
  pub readings : Option (List ℕ)
  pub replies : Option (List Reply)

abbrev pub told_of : Option (List (Option Order)) → Option (List ℕ) → Option (List Reply)
    → DeskReport
told_of answers readings replies = record {
  answers = answers;
  readings = readings;
  replies = replies;
}

-- the desk gave these answers and readings since, and took these replies
pub record Adds (before after : DeskReport) (answers : List (Option Order)) (readings : List ℕ)
    (replies : List Reply) : Type 0 where
  pub gave : Tells before.answers after.answers answers
  pub read : Tells before.readings after.readings readings
  pub took : Tells before.replies after.replies replies

abbrev pub order_of : Option (ℕ × Order) → Option Order
order_of (Some x) = Some x.1
order_of None = None

abbrev pub reading_of : Option (ℕ × Order) → List ℕ
reading_of (Some x) = x.0 ∷ []
reading_of None = []
