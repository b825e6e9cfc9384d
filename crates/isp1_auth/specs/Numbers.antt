-- The numbers of a session's credentials, this product's own.
use Rattle.std.specs.Prelude.{ℕ, ◌+◌, ◌*◌, ◌%◌, ◌^◌}

-- before the first one
abbrev pub first_number : ℕ → ℕ → ℕ
first_number draw door = (draw + door) % 2 ^ 31

-- the one after x
abbrev pub next_number : ℕ → ℕ
next_number x = (1103515245 * x + 12345) % 2 ^ 31
