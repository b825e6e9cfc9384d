-- A value of a table as an INTEGER (X.690 8.3).
use Rattle.std.proofs.Common.{◌≡◌, ◌-◌, true, nat_lt, ℕ, ℤ, pos, negsuc, List, [], ◌∷◌, length}
use Rattle.std.proofs.Common.{Option, Some, None, Result, Ok, Err, refl, ap, arith}
use Rattle.std.proofs.lemmas.Int.{ints}
use Rattle.ber_core.specs.declared.fault.BerFault.{BerFault}
use Rattle.ber_core.specs.declared.fault.BerFault.TheVariants.{BadContent}
use Rattle.ber_core.specs.Length.{IsSlice}
use Rattle.ber_core.specs.Integer.{integer_octets}
use Rattle.ber_core.specs.View.{View}
use Rattle.ber_core.specs.Reading.{◌>>=◌, integer_of, next_content, primitive_at, behind}
use Rattle.ber_shape.specs.Content.{Meaning, InRange, integer, with_meaning, meant}
use Rattle.ber_shape.specs.Element.{Element, simple}
use Rattle.ber_shape.specs.Steps.{content_found}
use Rattle.sle_numbers.specs.Numbered.{AreNumbered, of_number, has_number}

-- the value of a table that has a number; none has a negative one
abbrev pub value_at : {X : Type 0} → (X → ℕ) → List X → ℤ → Option X
value_at number all (pos n) = of_number number all n
value_at number all (negsuc n) = None

pub in_range : (n : ℕ) → nat_lt n 128 ≡ true → InRange (pos 0) (pos 127) (pos n)
in_range n small = record {
  bits = record { least = omega (arith, ints); greatest = grind (arith, ints) };
  least_so = omega (arith, ints);
  greatest_so = grind (arith, ints);
}

pub at_sound : {X : Type 0} (number : X → ℕ) (all : List X) (z : ℤ) (x : X)
    → value_at number all z ≡ Some x → pos (number x) ≡ z
at_sound number all (pos n) x e = ap pos (has_number number all n x e)
at_sound number all (negsuc n) x e = absurd cc

abbrev pub meaning : {X : Type 0} (number : X → ℕ) (all : List X) → AreNumbered number all
    → Meaning (integer (pos 0) (pos 127)) X
meaning number all each = record {
  to = value_at number all;
  from = λ x. pos (number x);
  Holds = λ x. Unit {0};
  sound = λ z x fits slice e. (tt, at_sound number all z x e);
  complete = λ x holds. (in_range (number x) (each x).small, (each x).found);
}

-- the INTEGER by itself
abbrev small_number : Element ℤ
small_number = simple (0x02 ∷ []) (integer (pos 0) (pos 127)) refl

-- the number of a value of a table, 0 to 127
abbrev pub in_table : {X : Type 0} (number : X → ℕ) (all : List X) → AreNumbered number all
    → Element X
in_table number all each =
    simple (0x02 ∷ []) (with_meaning (integer (pos 0) (pos 127)) (meaning number all each)) refl

module _ {X : Type 0} (number : X → ℕ) (all : List X) (each : AreNumbered number all)
    (view new : View) (n : ℕ) (slice : IsSlice view.octets)
    (e : primitive_at (integer_of (pos 0) (pos 127)) view (0x02 ∷ []) ≡ Ok (pos n, new)) where
  -- a number that a value has is read as the value
  pub read_inside : (x : X) → of_number number all n ≡ Some x
      → (in_table number all each).read view ≡ Ok (x, new)
  read_inside x some =
      let was = small_number.sound view new (pos n) slice e in
      let (start, found, moved) =
      content_found view new (0x02 ∷ []) (integer_octets (pos n)) was.stands in
      let judged = (integer (pos 0) (pos 127)).complete start (pos n) was.fits in
      rw (found, judged, some) (ap (λ place. Ok (x, place)) moved)

  -- any other one is refused where its content begins
  pub read_outside : (place behind size : ℕ) → of_number number all n ≡ None
      → behind ≡ new.place → size ≡ length (integer_octets (pos n)) → place ≡ behind - size
      → (in_table number all each).read view ≡ Err (BadContent place)
  read_outside place behind size none reached sized is =
      let was = small_number.sound view new (pos n) slice e in
      let (start, found, moved) =
      content_found view new (0x02 ∷ []) (integer_octets (pos n)) was.stands in
      let judged = (integer (pos 0) (pos 127)).complete start (pos n) was.fits in
      let begins : start ≡ place =
      omega (arith, ap (λ view. view.place) moved, reached, sized, is) in
      rw (found, judged, none) (ap (λ place. Err (BadContent place)) begins)

judged_fault : {X : Type 0} (f : ℤ → Result X BerFault) (new : View) (r : Result ℤ BerFault)
    (fault : BerFault)
    → ◌>>=◌ {A = ℤ} {B = ℤ × View} r (λ value. Ok (value, new)) ≡ Err fault
    → ◌>>=◌ {A = X} {B = X × View} (◌>>=◌ {A = ℤ} {B = X} r f) (λ value. Ok (value, new))
    ≡ Err fault
judged_fault f new (Err other) fault e = cc
judged_fault f new (Ok z) fault e = absurd cc

found_fault : {X : Type 0} (f : ℕ → ℤ → Result X BerFault) (view : View)
    (r : Result (ℕ × List ℕ) BerFault) (fault : BerFault)
    → ◌>>=◌ {A = ℕ × List ℕ} {B = ℤ × View} r (λ found. ◌>>=◌ {A = ℤ} {B = ℤ × View}
    (integer_of (pos 0) (pos 127) found.0 found.1)
    (λ value. Ok (value, behind view found.0 found.1))) ≡ Err fault
    → ◌>>=◌ {A = ℕ × List ℕ} {B = X × View} r (λ found. ◌>>=◌ {A = X} {B = X × View}
    (◌>>=◌ {A = ℤ} {B = X} (integer_of (pos 0) (pos 127) found.0 found.1) (f found.0))
    (λ value. Ok (value, behind view found.0 found.1))) ≡ Err fault
found_fault f view (Err other) fault e = cc
found_fault f view (Ok found) fault e = judged_fault (f found.0) (behind view found.0 found.1)
    (integer_of (pos 0) (pos 127) found.0 found.1) fault e

-- what is no INTEGER in the range is refused as such
pub read_fault : {X : Type 0} (number : X → ℕ) (all : List X) (each : AreNumbered number all)
    (view : View) (fault : BerFault)
    → primitive_at (integer_of (pos 0) (pos 127)) view (0x02 ∷ []) ≡ Err fault
    → (in_table number all each).read view ≡ Err fault
read_fault number all each view fault e =
    found_fault (λ place z. meant place (value_at number all z)) view
    (next_content view (0x02 ∷ [])) fault e
