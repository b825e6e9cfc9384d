use Rattle.std.proofs.Common.{◌≡◌, ℕ, ◌+◌, ◌-◌, ◌^◌, ◌<◌, ◌≤◌, length, slice_get, Some, true, false}
use Rattle.archive_index.specs.Rows.{IsRising, reaches, row_before}
use Rattle.archive_index.specs.declared.row.Row.{Row}
use Rattle.archive_index.proofs.row.first_from.Given as goal

-- rows before `low` aren't reached, those from `high` on are; what lies between has so many digits
abbrev pub invariant-loop-low : goal.invariant-loop-low
invariant-loop-low g l = record {
  low_high : l.low ≤ l.high;
  within : l.high ≤ length l.rows;
  missed : IsRising l.rows → (k : ℕ) (r : Row) → k < l.low → slice_get l.rows k ≡ Some r
      → reaches l.place l.moment r ≡ false;
  reached : IsRising l.rows → (k : ℕ) (r : Row) → l.high ≤ k → slice_get l.rows k ≡ Some r
      → reaches l.place l.moment r ≡ true;
  last : l.before ≡ row_before l.rows l.low;
  next : l.behind ≡ slice_get l.rows l.high;
  counted : (b : ℕ) → length l.rows < 2 ^ b
      → (d : ℕ) × (l.high - l.low < 2 ^ d) × (l.steps + d ≤ l.initial.steps + b);
}

abbrev pub decreases-loop-low : goal.decreases-loop-low
decreases-loop-low g l = l.high - l.low
