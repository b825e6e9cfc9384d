-- SEQUENCEs that are structs of fields, under an identifier of one octet.
use Rattle.std.proofs.Common.{◌≡◌, ℕ, ◌+◌, ◌^◌, max, Bool, true, ◌&&◌, nat_le, nat_lt, List, []}
use Rattle.std.proofs.Common.{◌∷◌, Result, Ok, Err, arith}
use Rattle.ber_core.specs.declared.fault.BerFault.{BerFault}
use Rattle.ber_core.specs.Length.{IsSlice}
use Rattle.ber_core.specs.Tree.{Tree, constructed}
use Rattle.ber_core.specs.Spelling.{Spells}
use Rattle.ber_core.specs.View.{View}
use Rattle.ber_core.specs.Reading.{Gives}
use Rattle.ber_shape.specs.Steps.{within_at}
use Rattle.ber_shape.specs.Identifier.{is_identifier, both}
use Rattle.ber_shape.specs.Members.{Members, structured}
use Rattle.ber_shape.specs.Exact.{whole, decoded, one_deeper, IsExact, structured_exact}

pub both_shallow : (first others : ℕ) → nat_le first 15 ≡ true → nat_le others 15 ≡ true
    → nat_le (max first others) 15 ≡ true
both_shallow first others first_so others_so = grind arith

module _ {X : Type 0} (identifier : ℕ) (m : Members X) where
  -- It is the identifier of a constructed element, and the element has less than 2^64 octets.
  abbrev pub encodable : Bool
  encodable = is_identifier true (identifier ∷ []) && nat_lt (10 + m.most) (2 ^ 64)

  -- the whole SEQUENCE that stands next, or the first fault
  abbrev pub sequence_read : View → Result (X × View) BerFault
  sequence_read = within_at (identifier ∷ []) m.read

  abbrev pub sequence_tree : X → Tree
  sequence_tree x = constructed (identifier ∷ []) (m.trees x)

  -- The answer of decoding, seen by seen: a value that fits, and the octets are a spelling of its
  -- tree; or the first fault, and they are a spelling of no value that fits.
  abbrev pub IsSequence : {A : Type 0} → (A → X) → List ℕ → Result A BerFault → Type 0
  IsSequence seen octets (Ok a) = m.Fits (seen a) × Spells (sequence_tree (seen a)) octets
  IsSequence seen octets (Err fault) = (whole sequence_read octets ≡ Err fault)
      × ((x : X) → m.Fits x → Spells (sequence_tree x) octets → ⊥)

  pub sequence_decoded : {A : Type 0} (seen : A → X) (octets : List ℕ) (result : Result A BerFault)
      → encodable ≡ true → nat_le m.levels 15 ≡ true → IsSlice octets
      → Gives seen result (whole sequence_read octets) → IsSequence seen octets result
  sequence_decoded seen octets (Ok a) is_so levels slice e =
      let so = both (is_identifier true (identifier ∷ [])) (nat_lt (10 + m.most) (2 ^ 64)) is_so in
      decoded (structured (identifier ∷ []) m so.0) seen octets (Ok a) (one_deeper m.levels levels)
      slice e
  sequence_decoded seen octets (Err fault) is_so levels slice e =
      let so = both (is_identifier true (identifier ∷ [])) (nat_lt (10 + m.most) (2 ^ 64)) is_so in
      decoded (structured (identifier ∷ []) m so.0) seen octets (Err fault)
      (one_deeper m.levels levels) slice e

  pub sequence_exact : encodable ≡ true → nat_le m.levels 15 ≡ true
      → (is_tag : is_identifier true (identifier ∷ []) ≡ true)
      → IsExact (structured (identifier ∷ []) m is_tag)
  sequence_exact is_so levels is_tag =
      let so = both (is_identifier true (identifier ∷ [])) (nat_lt (10 + m.most) (2 ^ 64)) is_so in
      structured_exact (identifier ∷ []) m is_tag levels so.1
