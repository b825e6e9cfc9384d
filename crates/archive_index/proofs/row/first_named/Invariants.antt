use Rattle.std.proofs.Common.{◌≡◌, ℕ, List, ◌+◌, ◌-◌, ◌*◌, ◌^◌, ◌<◌, ◌≤◌, length, slice_get, Some}
use Rattle.std.proofs.Common.{true, false}
use Rattle.archive_index.specs.Rows.{IsRising, IsThrough, reaches}
use Rattle.archive_index.specs.declared.row.Row.{Row}
use Rattle.archive_index.proofs.row.first_named.Given as goal

-- named rows before `low` aren't reached, those from `high` on are; what lies between has so many
-- digits
abbrev pub invariant-loop-low : goal.invariant-loop-low
invariant-loop-low g l = record {
  low_high : l.low ≤ l.high;
  within : l.high ≤ length l.numbers;
  missed : (named : List Row) → IsThrough l.rows l.numbers named → IsRising named
      → (k : ℕ) (r : Row) → k < l.low → slice_get named k ≡ Some r
      → reaches l.place l.moment r ≡ false;
  reached : (named : List Row) → IsThrough l.rows l.numbers named → IsRising named
      → (k : ℕ) (r : Row) → l.high ≤ k → slice_get named k ≡ Some r
      → reaches l.place l.moment r ≡ true;
  counted : (b : ℕ) → length l.numbers < 2 ^ b
      → (d : ℕ) × (l.high - l.low < 2 ^ d) × (l.steps + 2 * d ≤ l.initial.steps + 2 * b);
}

abbrev pub decreases-loop-low : goal.decreases-loop-low
decreases-loop-low g l = l.high - l.low
