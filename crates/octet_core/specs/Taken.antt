-- What a source that tells gives.
use Rattle.std.specs.Prelude.{ℕ, ◌≡◌, ◌<◌, ◌≤◌, Option, IfSome, option_map, List, length, take}
use Rattle.std.specs.Prelude.{drop}

-- A source that had `before` left gave the first n octets of it into the front of `into`, which is
-- now `filled`, and has `after` left. It gives none only where none is left, or none fits. What is
-- behind them is free.
pub record Gives (before after : Option (List ℕ)) (into filled : List ℕ) (n : ℕ) : Type 0 where
  pub bound : n ≤ length into
  pub left : after ≡ option_map (drop n) before
  pub octets : IfSome before (λ octets. take n filled ≡ take n octets)
  pub some : IfSome before (λ octets. 0 < length octets → 0 < length into → 0 < n)
