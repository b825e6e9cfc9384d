-- A rest that isn't refused goes on as a message, and a message's beginning is such a rest.
use Rattle.std.proofs.Common.{◌≡◌, ℕ, zero, suc, ◌+◌, ◌<◌, ◌≤◌, Bool, cond, not, eqb, List, [], ◌∷◌}
use Rattle.std.proofs.Common.{◌++◌, length, drop, Option, Some, None, refl, sym, ap, arith}
use Rattle.std.specs.Option.{option_map}
use Rattle.std.specs.List.{position_from, zip}
use Rattle.std.specs.Int.{w32, from_be_bytes, to_be_bytes}
use Rattle.std.proofs.lemmas.Bool.{eq-eqb}
use Rattle.std.proofs.lemmas.List.{append-nil, length-append, length-drop, take-append-drop}
use Rattle.std.proofs.lemmas.List.{take_all}
use Rattle.std.proofs.lemmas.Nat.{be_bytes_4}
use Rattle.isp1_tml.specs.Message.{header, protocol, spelling}
use Rattle.isp1_tml.specs.Fault.{fault_of, bad_context}
use Rattle.isp1_tml.specs.Stream.{whole_size, size_among, BeginsHeader, BeginsMessage}
use Rattle.isp1_tml.specs.Reading.{content}
use Rattle.isp1_tml.proofs.Fronts.{fault_of-spelling, whole_size-spelling, size_is}
use Rattle.isp1_tml.proofs.Spelled.{IsOctets, IsOctets-drop, no_fault, none_map, kinds}
use Rattle.isp1_tml.proofs.Spelled.{no_difference, spelled}
use Rattle.isp1_tml.proofs.Readings.{whole_bound}
use Rattle.isp1_tml.proofs.Longer.{fault_of-append}

IsOctets-append : (x y : List ℕ) → IsOctets x → IsOctets y → IsOctets (x ++ y)
IsOctets-append [] y a b i = b i
IsOctets-append (n ∷ x) y a b zero = a 0
IsOctets-append (n ∷ x) y a b (suc i) = IsOctets-append x y (λ j. a (suc j)) b i

IsOctets-cons : (n : ℕ) (x : List ℕ) → n < 256 → IsOctets x → IsOctets (n ∷ x)
IsOctets-cons n x h o zero = h
IsOctets-cons n x h o (suc i) = o i

IsOctets-protocol : IsOctets protocol
IsOctets-protocol i = grind arith

-- where these octets first differ from those that are wanted
abbrev differs : ℕ → List ℕ → List ℕ → Option ℕ
differs i x w = position_from (λ p. not (eqb p.0 p.1)) i (zip x w)

differs_on : (i a b : ℕ) (x y w : List ℕ)
    → (differs (i + 1) x w ≡ None → differs (i + 1) y w ≡ None)
    → differs i (a ∷ x) (b ∷ w) ≡ None → differs i (a ∷ y) (b ∷ w) ≡ None
differs_on i a b x y w h e = grind arith

-- fewer octets than n go on to be n, and as those that are wanted, if they began so
completed : (i n : ℕ) (y w : List ℕ) → IsOctets w → length y ≤ n → (more : List ℕ)
    × (IsOctets more × (length y + length more ≡ n)
    × (differs i y w ≡ None → differs i (y ++ more) w ≡ None))
completed i zero [] w o h = ([], (λ j. omega arith, refl, λ e. refl))
completed i (suc n) [] [] o h =
    let r = completed (i + 1) n [] [] o (omega arith) in
    (0 ∷ r.0, (IsOctets-cons 0 r.0 (omega arith) r.1.0, omega (arith, r.1.1), λ e. refl))
completed i (suc n) [] (b ∷ w) o h =
    let r = completed (i + 1) n [] w (λ j. o (suc j)) (omega arith) in
    let same = differs_on i b b [] r.0 w r.1.2 (rw (eq-eqb b b refl) refl) in
    (b ∷ r.0, (IsOctets-cons b r.0 (o 0) r.1.0, omega (arith, r.1.1), λ e. same))
completed i (suc n) (a ∷ y) [] o h =
    let r = completed (i + 1) n y [] o (omega arith) in
    (r.0, (r.1.0, omega (arith, r.1.1), λ e. refl))
completed i (suc n) (a ∷ y) (b ∷ w) o h =
    let r = completed (i + 1) n y w (λ j. o (suc j)) (omega arith) in
    (r.0, (r.1.0, omega (arith, r.1.1), differs_on i a b y (y ++ r.0) w r.1.2))
completed i zero (a ∷ y) w o h = absurd (omega arith)

still_none : {T : Type 0} (b : Bool) (f : ℕ → T) (o o' : Option ℕ) → (o ≡ None → o' ≡ None)
    → cond b (option_map f o) None ≡ None → cond b (option_map f o') None ≡ None
still_none b f o o' h e = grind arith

unsized : (came n : ℕ) → size_among came (Some n) ≡ None → came < 8 + n
unsized came n e = grind arith

-- ---- a header that came

pub begins_message : (p : ℕ) (x : List ℕ) → IsOctets x → fault_of p x ≡ None → whole_size x ≡ None
    → 8 ≤ length x → BeginsMessage x
begins_message p (k ∷ z1 ∷ z2 ∷ z3 ∷ a ∷ b ∷ c ∷ d ∷ y) o f s h =
    let size = from_be_bytes w32 (a ∷ b ∷ c ∷ d ∷ []) in
    let x = k ∷ z1 ∷ z2 ∷ z3 ∷ a ∷ b ∷ c ∷ d ∷ y in
    let short = unsized (length x) size s in
    let r = completed 0 size y protocol IsOctets-protocol (omega arith) in
    let len : length (y ++ r.0) ≡ size = omega (arith, length-append y r.0, r.1.1) in
    let free = no_fault p x f in
    let fine : bad_context p (x ++ r.0) ≡ None = still_none (eqb k 2) _ _ _ r.1.2 free.3 in
    let clean : fault_of p (x ++ r.0) ≡ None = cc in
    let found = rw (take_all (8 + size) (x ++ r.0) (omega (arith, len))) at
    (spelled p (8 + size) (x ++ r.0) (IsOctets-append x r.0 o r.1.0) clean
    (size_is (length (x ++ r.0)) size (omega (arith, len)))).1 in
    (content (x ++ r.0), (r.0, (found.0, omega (arith, short, r.1.1), sym found.1)))
begins_message p x o f s h = absurd (omega arith)

-- ---- less than a header

pub begins_header : (p : ℕ) (x : List ℕ) → IsOctets x → fault_of p x ≡ None → length x < 8
    → BeginsHeader x
begins_header p [] o f h = (1, (0, (header 1 0, (omega arith, omega arith, omega arith, refl))))
begins_header p (k ∷ y) o f h =
    let free = no_fault p (k ∷ y) f in
    let kind = kinds k _ free.0 in
    let zeros : List ℕ = 0 ∷ 0 ∷ 0 ∷ [] in
    let r = completed 0 7 y zeros (λ i. grind arith) (omega arith) in
    let len : length (y ++ r.0) ≡ 7 = omega (arith, length-append y r.0, r.1.1) in
    let same = no_difference 0 (y ++ r.0) zeros (omega (arith, len))
    (r.1.2 (none_map _ _ free.1)) in
    let octets = IsOctets-append y r.0 (λ i. o (suc i)) r.1.0 in
    let back = be_bytes_4 (drop 3 (y ++ r.0)) _ (omega (arith, length-drop 3 (y ++ r.0), len))
    (IsOctets-drop 3 (y ++ r.0) octets) refl in
    let size = from_be_bytes w32 (drop 3 (y ++ r.0)) in
    let parts : y ++ r.0 ≡ zeros ++ to_be_bytes w32 size =
    cc (take-append-drop 3 (y ++ r.0), same, back) in
    (k, (size, (r.0, (kind.0, kind.1, omega (arith, r.1.1, h), cc))))

-- ---- a message's beginning

whole_size-append : (x y : List ℕ) (s : ℕ) → whole_size x ≡ Some s → whole_size (x ++ y) ≡ Some s
whole_size-append (k ∷ z1 ∷ z2 ∷ z3 ∷ a ∷ b ∷ c ∷ d ∷ z) y s e = grind (arith, length-append z y)
whole_size-append x y s e = absurd cc

not_some : {T : Type 0} (o : Option T) → ((t : T) → o ≡ Some t → ⊥) → o ≡ None
not_some None h = refl
not_some (Some t) h = absurd (h t refl)

pub begun : (p : ℕ) (x : List ℕ) → BeginsMessage x → (fault_of p x ≡ None) × (whole_size x ≡ None)
begun p x (m, (more, (ok, some, e))) = (
  not_some (fault_of p x) (λ f h.
      cc (append-nil (spelling m), fault_of-append p x more f h, fault_of-spelling p m [] ok)),
  not_some (whole_size x) (λ s h. let same : s ≡ length (spelling m) =
      cc (append-nil (spelling m), whole_size-append x more s h, whole_size-spelling m [] ok) in
      omega (arith, same, (whole_bound x s h).1, ap length e, length-append x more, some)),
)
