-- What more octets leave as it was.
use Rattle.std.proofs.Common.{◌≡◌, ℕ, ◌+◌, Bool, true, cond, not, eqb, List, [], ◌∷◌, ◌++◌, Option}
use Rattle.std.proofs.Common.{Some, None, sym, ap, ◌∙◌, append_assoc, arith}
use Rattle.std.specs.Option.{option_or, option_map}
use Rattle.std.specs.List.{position_from, zip}
use Rattle.isp1_tml.specs.declared.tml_fault.TmlFault.{TmlFault}
use Rattle.isp1_tml.specs.Message.{Content, spellings, protocol}
use Rattle.isp1_tml.specs.Fault.{fault_of, bad_type, not_zero, bad_length}
use Rattle.isp1_tml.specs.Stream.{IsStream}
use Rattle.isp1_tml.specs.Reading.{Reading, reading}
use Rattle.isp1_tml.proofs.Readings.{reading_over, reading_is}

-- the first difference stays
difference-append : (i k : ℕ) (x w y : List ℕ)
    → position_from (λ p. not (eqb p.0 p.1)) i (zip x w) ≡ Some k
    → position_from (λ p. not (eqb p.0 p.1)) i (zip (x ++ y) w) ≡ Some k
difference-append i k [] w y e = absurd cc
difference-append i k (a ∷ x) [] y e = absurd cc
difference-append i k (a ∷ x) (b ∷ w) y e = grind (arith, difference-append (i + 1) k x w y)

-- a part that has the fault keeps it, and so do parts that stand behind one that stays as it was
kept : {T : Type 0} (b : Bool) (g : ℕ → T) (o o' : Option ℕ) (f : T)
    → ((k : ℕ) → o ≡ Some k → o' ≡ Some k) → cond b (option_map g o) None ≡ Some f
    → cond b (option_map g o') None ≡ Some f
kept b g o o' f h e = grind arith

or_kept : {T : Type 0} (a b b' : Option T) (f : T) → (b ≡ Some f → b' ≡ Some f)
    → option_or a b ≡ Some f → option_or a b' ≡ Some f
or_kept a b b' f h e = grind arith

or_last : {T : Type 0} (a a' d : Option T) (t : Bool) (f : T) → (a ≡ Some f → a' ≡ Some f)
    → option_or a (cond t None None) ≡ Some f → option_or a' d ≡ Some f
or_last a a' d t f h e = grind arith

-- a fault that shows is the fault, whatever comes after it
pub fault_of-append : (p : ℕ) (x y : List ℕ) (f : TmlFault) → fault_of p x ≡ Some f
    → fault_of p (x ++ y) ≡ Some f
fault_of-append p [] y f e = absurd cc
fault_of-append p (k ∷ z1 ∷ z2 ∷ z3 ∷ a ∷ b ∷ c ∷ d ∷ z) y f e =
    let x = k ∷ z1 ∷ z2 ∷ z3 ∷ a ∷ b ∷ c ∷ d ∷ z in
    or_kept (bad_type p x) _ _ f (or_kept (not_zero p x) _ _ f (or_kept (bad_length p x) _ _ f
    (kept (eqb k 2) _ _ _ f (λ j. difference-append 0 j z protocol y)))) e
fault_of-append p (k ∷ x) y f e =
    or_kept (bad_type p (k ∷ x)) _ _ f (or_last _ _ _ (eqb k 2) f
    (kept true _ _ _ f (λ j. difference-append 0 j x (0 ∷ 0 ∷ 0 ∷ []) y))) e

-- a refused stream stays refused
pub refused-append : (p : ℕ) (x y : List ℕ) (ms : List Content) (r : List ℕ) (f : TmlFault)
    → IsStream p x ms r (Some f) → IsStream p (x ++ y) ms (r ++ y) (Some f)
refused-append p x y ms r f s = record {
  whole = rw s.whole (append_assoc (spellings ms) r y);
  each = s.each;
  refused = fault_of-append _ r y f s.refused;
  partial = λ none. absurd cc;
}

-- a longer stream has the same messages before
pub longer : (p : ℕ) (x y : List ℕ) (ms ns : List Content) (r r' : List ℕ) (f f' : Option TmlFault)
    → IsStream p x ms r f → IsStream p (x ++ y) ns r' f' → (more : List Content) × (ns ≡ ms ++ more)
longer p x y ms ns r r' f f' s t =
    let all : x ++ y ≡ spellings ms ++ (r ++ y) = rw s.whole (append_assoc (spellings ms) r y) in
    let is = sym (reading_is t) ∙ ap (reading p) all ∙ reading_over p ms (r ++ y) s.each in
    (_, ap (λ (R : Reading). R.messages) is)
