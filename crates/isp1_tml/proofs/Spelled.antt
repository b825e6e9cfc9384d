-- What is found whole is spelled so, octet by octet.
use Rattle.std.proofs.Common.{◌≡◌, ℕ, zero, suc, ◌+◌, ◌<◌, ◌≤◌, true, cond, not, eqb, List, []}
use Rattle.std.proofs.Common.{◌∷◌, ◌++◌, length, get_or, take, drop, Option, Some, None, refl}
use Rattle.std.proofs.Common.{ap₂, subst, arith}
use Rattle.std.specs.Option.{option_or, option_map}
use Rattle.std.specs.List.{position_from, zip}
use Rattle.std.specs.Int.{w32, from_be_bytes, is_in_range}
use Rattle.std.proofs.lemmas.Bool.{leb-true, eqb-true}
use Rattle.std.proofs.lemmas.List.{length-take, length-take-le, length-drop, get_or-drop}
use Rattle.std.proofs.lemmas.List.{get_or-take, get_or_past}
use Rattle.std.proofs.lemmas.Nat.{be_bytes_2, be_bytes_4}
use Rattle.std.proofs.Math.Seq.{take-append-add, take-add}
use Rattle.isp1_tml.specs.declared.message.TheConstants.{LONGEST_PDU}
use Rattle.isp1_tml.specs.declared.tml_fault.TmlFault.{TmlFault}
use Rattle.isp1_tml.specs.Message.{header, protocol}
use Rattle.isp1_tml.specs.Fault.{fault_of, bad_type, not_zero, bad_length, bad_context, is_allowed}
use Rattle.isp1_tml.specs.Fault.{first_difference}
use Rattle.isp1_tml.specs.Stream.{whole_size, size_among}
use Rattle.isp1_tml.specs.Reading.{IsSpelled}

abbrev pub IsOctets : List ℕ → Type 0
IsOctets x = (i : ℕ) → get_or x i 0 < 256

pub IsOctets-drop : (n : ℕ) (x : List ℕ) → IsOctets x → IsOctets (drop n x)
IsOctets-drop n x h i = rw get_or-drop (h (n + i))

pub IsOctets-take : (n : ℕ) (x : List ℕ) → IsOctets x → IsOctets (take n x)
IsOctets-take n x h i = grind (arith, get_or-take, get_or_past, length-take, h i)

none_of_four : {T : Type 0} (a b c d : Option T)
    → option_or a (option_or b (option_or c d)) ≡ None
    → (a ≡ None) × (b ≡ None) × (c ≡ None) × (d ≡ None)
none_of_four a b c d e = grind arith

pub no_fault : (p : ℕ) (x : List ℕ) → fault_of p x ≡ None → (bad_type p x ≡ None)
    × (not_zero p x ≡ None) × (bad_length p x ≡ None) × (bad_context p x ≡ None)
no_fault p x = none_of_four (bad_type p x) (not_zero p x) (bad_length p x) (bad_context p x)

pub none_map : {T U : Type 0} (f : T → U) (o : Option T) → option_map f o ≡ None → o ≡ None
none_map f o e = grind arith

pub kinds : {T : Type 0} (k : ℕ) (x : T) → cond (is_in_range 1 3 k) None (Some x) ≡ None
    → (1 ≤ k) × (k ≤ 3)
kinds k x e = grind arith

-- where nothing differs, and enough came, what was wanted came
pub no_difference : (i : ℕ) (x w : List ℕ) → length w ≤ length x
    → position_from (λ p. not (eqb p.0 p.1)) i (zip x w) ≡ None → take (length w) x ≡ w
no_difference i [] [] h e = refl
no_difference i [] (b ∷ w) h e = absurd (omega arith)
no_difference i (a ∷ x) [] h e = refl
no_difference i (a ∷ x) (b ∷ w) h e = grind (arith, no_difference (i + 1) x w)

pub sized : (came s n : ℕ) → size_among came (Some s) ≡ Some n → (8 + s ≤ came) × (8 + s ≡ n)
sized came s n e = grind arith

context_spelled : (t : List ℕ) → IsOctets t → length t ≡ 4
    → IsSpelled (header 2 12 ++ (protocol ++ t))
context_spelled (u ∷ v ∷ w ∷ q ∷ []) o e =
    let t = u ∷ v ∷ w ∷ q ∷ [] in
    let interval = be_bytes_2 (u ∷ v ∷ []) _ refl (IsOctets-take 2 t o) refl in
    let factor = be_bytes_2 (w ∷ q ∷ []) _ refl (IsOctets-drop 2 t o) refl in
    let all : List ℕ → List ℕ → List ℕ = λ x y. header 2 12 ++ (protocol ++ (x ++ y)) in
    ((omega (arith, o 0, o 1), omega (arith, o 2, o 3)), ap₂ all interval factor)
context_spelled t o e = absurd (omega arith)

by_kind : (f : ℕ → TmlFault) (k n : ℕ) (y : List ℕ) → IsOctets y → n ≤ length y → 1 ≤ k → k ≤ 3
    → is_allowed k n ≡ true
    → cond (eqb k 2) (option_map f (first_difference y protocol)) None ≡ None
    → IsSpelled (header k n ++ take n y)
by_kind f (suc zero) n y o long l h ok fine =
    rw (length-take-le n y long) (leb-true n LONGEST_PDU ok, refl)
by_kind f (suc (suc zero)) n y o long l h ok fine =
    let twelve = eqb-true n 12 ok in
    let same = no_difference 0 y protocol (omega arith) (none_map f _ fine) in
    rw (twelve, take-add 8 4 y, same) (context_spelled (take 4 (drop 8 y))
    (IsOctets-take 4 (drop 8 y) (IsOctets-drop 8 y o))
    (omega (arith, length-take 4 (drop 8 y), length-drop 8 y)))
by_kind f (suc (suc (suc zero))) n y o long l h ok fine = rw (eqb-true n 0 ok) (tt, refl)
by_kind f k n y o long l h ok fine = absurd (omega arith)

-- octets with no fault, among them a whole message, spell it
pub spelled : (p n : ℕ) (x : List ℕ) → IsOctets x → fault_of p x ≡ None → whole_size x ≡ Some n
    → (n ≤ length x) × IsSpelled (take n x)
spelled p n (k ∷ z1 ∷ z2 ∷ z3 ∷ a ∷ b ∷ c ∷ d ∷ y) o f s =
    let size = from_be_bytes w32 (a ∷ b ∷ c ∷ d ∷ []) in
    let x = k ∷ z1 ∷ z2 ∷ z3 ∷ a ∷ b ∷ c ∷ d ∷ y in
    let len = sized (length x) size n s in
    let free = no_fault p x f in
    let kind = kinds k _ free.0 in
    let zeros = no_difference 0 (z1 ∷ z2 ∷ z3 ∷ a ∷ b ∷ c ∷ d ∷ y) (0 ∷ 0 ∷ 0 ∷ []) (omega arith)
    (none_map _ _ free.1) in
    let octets = IsOctets-take 4 (a ∷ b ∷ c ∷ d ∷ y) (IsOctets-drop 4 x o) in
    let back = be_bytes_4 (a ∷ b ∷ c ∷ d ∷ []) size refl octets refl in
    let front = take-append-add (k ∷ z1 ∷ z2 ∷ z3 ∷ a ∷ b ∷ c ∷ d ∷ []) y size in
    let found = by_kind _ k size y (IsOctets-drop 8 x o) (omega arith) kind.0 kind.1 (grind arith)
    free.3 in
    (omega arith, subst IsSpelled (cc) found)
spelled p n x o f s = absurd cc
