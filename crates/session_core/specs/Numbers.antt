-- The numbers of a session.
use Rattle.std.specs.Prelude.{ℕ}

-- how many octets a poll takes at most (this product's own)
abbrev pub longest_piece : ℕ
longest_piece = 65536
