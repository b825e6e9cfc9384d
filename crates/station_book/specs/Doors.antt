-- Which door has which instance, and what the calls of other doors leave.
use Rattle.std.specs.Prelude.{◌≡◌, ℕ, Bool, false, ◌==◌, Some, List, slice_get, IsTrue}
use Rattle.station_book.specs.declared.service_kind.ServiceKind.{ServiceKind}
use Rattle.station_book.specs.State.{State, Call, answer, quit}
use Rattle.station_book.specs.History.{is_forward}

-- a door has an instance
abbrev pub Has : State → ℕ → ℕ → Type 0
Has s door instance = slice_get s.doors instance ≡ Some (Some door)

-- whether a call is a door's
abbrev pub is_by : ℕ → Call → Bool
is_by door (answer other _ _ _) = other == door
is_by door (quit other) = other == door
is_by door _ = false

-- at most one instance is the forward service's
abbrev pub HasOneForward : List ServiceKind → Type 0
HasOneForward services = (i j : ℕ) → IsTrue (is_forward (slice_get services i))
    → IsTrue (is_forward (slice_get services j)) → i ≡ j
