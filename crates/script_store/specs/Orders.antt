-- Orders for the disk: which store they hit, and what its file holds then. This product's own.
use Rattle.std.specs.Prelude.{ℕ, ◌-◌, Bool, nat_le, if◌then◌else◌, Option, Some, None, List, []}
use Rattle.std.specs.Prelude.{◌∷◌}
use Rattle.std.specs.Prelude.{◌++◌}
use Rattle.archive_terms.specs.Archive.{Entry}
use Rattle.disk_model.specs.declared.orders.Pick.{Pick}
use Rattle.disk_model.specs.declared.orders.Pick.TheVariants as picks
use Rattle.gate_journal.specs.JournalState.{leaves_batch, holds_batch}
use Rattle.drill_text.specs.declared.pick.Pick as words
use Rattle.drill_text.specs.declared.pick.Pick.TheVariants.{Old, New, Torn}
use Rattle.script_store.specs.declared.order.Order.{Order}
use Rattle.script_store.specs.declared.order.Strike.{Strike}
use Rattle.script_store.specs.declared.order.Strike.TheVariants.{Stop, Fail}

-- the pick of a line
abbrev pub pick_of : words.Pick → Pick
pick_of Old = picks.Old
pick_of New = picks.New
pick_of Torn = picks.Torn

-- An order hits a store where its call is one of the store's four.
abbrev pub is_hit : Order → Bool
is_hit order = nat_le order.calls 4

-- the order behind a store
abbrev pub behind_store : Order → Option Order
behind_store order =
    if is_hit order then None else Some (record order { calls = order.calls - 4 })

-- what stands behind a store, where this stood before it
abbrev pub order_behind : Option Order → Option Order
order_behind None = None
order_behind (Some order) = behind_store order

-- Whether the file of a store that is hit holds its entry: of a stop where it comes at the gate's
-- write or at the sync behind it, and the pick is new; of a failing call where it is that sync.
abbrev pub leaves_entry : Strike → ℕ → Bool
leaves_entry (Stop pick) calls = leaves_batch calls pick
leaves_entry Fail calls = holds_batch calls

-- what the archive holds once it is opened again behind a store that was hit
abbrev pub found : Order → List Entry → Entry → List Entry
found order published entry =
    if leaves_entry order.strike order.calls then published ++ entry ∷ [] else published
