use Rattle.std.proofs.Common.{◌≡◌, ℕ, ◌*◌, ◌-◌, ◌<◌, ◌≤◌, length, take}
use Rattle.std.specs.List.{sum}
use Rattle.plain_archive.proofs.look.given.Given as goal

-- the entries so far have this many octets, and behind none of them had the look ended
abbrev pub invariant-loop-count : goal.invariant-loop-count
invariant-loop-count l = record {
  within : l.count ≤ length l.lengths;
  so_far : l.sum ≡ sum (take l.count l.lengths);
  small : l.sum ≤ 4294967295 * l.count;
  open_before : (j : ℕ) → j < l.count → (j < l.room) × (sum (take j l.lengths) < l.octets);
}

abbrev pub decreases-loop-count : goal.decreases-loop-count
decreases-loop-count l = length l.lengths - l.count
