-- The first place of an octet in a text.
use Rattle.std.proofs.Common.{◌≡◌, ℕ, ◌==◌, sym, List, length, Option, Some, None, arith}
use Rattle.std.proofs.lemmas.Bool.Decides.{nat_tests}
use Rattle.std.proofs.lemmas.List.Sums.{position_or_len_is}
use Rattle.std.specs.Option.{unwrap_or}
use Rattle.std.specs.List.{position_or_len}
use Rattle.memchr.specs.Find.{IsFirstByte, is_byte}

-- the first place of an octet, where it stands at all, else the length
pub first_place : (octet : ℕ) (text : List ℕ) (found : Option ℕ)
    → IsFirstByte (is_byte octet) text found → unwrap_or found (length text)
    ≡ position_or_len (λ x. x == octet) text
first_place octet text None none =
    sym (position_or_len_is (λ x. x == octet) text (length text) 0 (omega arith)
    (λ k h. grind (arith, nat_tests, none k (omega arith) h)) (λ h. absurd (omega arith)))
first_place octet text (Some place) found =
    sym (position_or_len_is (λ x. x == octet) text place 0 (omega (arith, found.0.high))
    (λ k h. grind (arith, nat_tests, found.0.before k (omega arith) h)) (λ h. found.1))
