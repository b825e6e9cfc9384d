-- The numbers that digits write.
use Rattle.std.proofs.Common.{ℕ, ◌+◌, ◌*◌, ◌≤◌, ◌<◌, List, [], ◌∷◌, drop, length, get_or, suc}
use Rattle.std.proofs.Common.{drop-cons, arith}
use Rattle.std.specs.Str.Parse.{digits_value_after}
use Rattle.std.specs.Char.{digit_value}

-- further digits make no number less
pub value_grows : (digits : List ℕ) (n : ℕ) → n ≤ digits_value_after 10 n digits
value_grows [] n = omega arith
value_grows (c ∷ cs) n = omega (arith, value_grows cs (n * 10 + digit_value c))

-- what is written up to the digit at i is no more than the whole number
pub value_grows_past : (digits : List ℕ) (i n : ℕ) → i < length digits
    → n * 10 + digit_value (get_or digits i 0) ≤ digits_value_after 10 n (drop i digits)
value_grows_past digits i n h =
    rw (drop-cons digits i 0 h) (value_grows (drop (suc i) digits)
    (n * 10 + digit_value (get_or digits i 0)))
