-- A time in an element (CCSDS 911.1-B, annex A): [0] in 8 octets with microseconds, [1] in 10 with
-- picoseconds.
use Rattle.std.proofs.Common.{◌≡◌, ℕ, true, false, Bool, not, Option, Some, List, [], ◌∷◌, refl, ap}
use Rattle.std.proofs.Common.{subst, arith}
use Rattle.ber_core.specs.Length.{IsSlice}
use Rattle.ber_shape.specs.Content.{Content, HasLength, octet_string, with_meaning}
use Rattle.ber_shape.specs.Element.{Element, simple}
use Rattle.ber_shape.specs.Members.{last, structured}
use Rattle.ber_shape.specs.Choice.{two_forms, optional}
use Rattle.cds_time.specs.Moment.{octets_of, of_micro_octets, of_pico_octets, is_micros}
use Rattle.cds_time.specs.Octets.{FieldsFit, of_octets}
use Rattle.cds_time.specs.Facts.Octets.{given_by_micro, given_by_pico, given_again}
use Rattle.cds_time.specs.declared.cds.Cds.{Cds}
use Rattle.cds_time.specs.declared.cds.Rest.{Rest}
use Rattle.cds_time.specs.declared.cds.Rest.TheVariants.{Micros, Picos}

-- a time of one form
pub record HasForm (micros : Bool) (time : Cds) : Type 0 where
  pub fields : FieldsFit time
  pub form : is_micros time.rest ≡ micros

abbrev made : ℕ → ℕ → Rest → Cds
made days millis rest = record { days = days; millis = millis; rest = rest }

some_is : {A : Type 0} (x y : A) → Some x ≡ Some y → x ≡ y
some_is x y e = cc

pub micro_sound : (octets : List ℕ) (t : Cds) → HasLength 8 8 octets → IsSlice octets
    → Some (of_micro_octets octets) ≡ Some t → HasForm true t × (octets_of t ≡ octets)
micro_sound octets t fits slice e =
    let has = given_by_micro octets slice.each (omega (arith, fits.least_so, fits.greatest_so)) in
    subst (λ t. HasForm true t × (octets_of t ≡ octets)) (some_is (of_micro_octets octets) t e)
    (record { fields = has.fit; form = refl }, has.are)

pub pico_sound : (octets : List ℕ) (t : Cds) → HasLength 10 10 octets → IsSlice octets
    → Some (of_pico_octets octets) ≡ Some t → HasForm false t × (octets_of t ≡ octets)
pico_sound octets t fits slice e =
    let has = given_by_pico octets slice.each (omega (arith, fits.least_so, fits.greatest_so)) in
    subst (λ t. HasForm false t × (octets_of t ≡ octets)) (some_is (of_pico_octets octets) t e)
    (record { fields = has.fit; form = refl }, has.are)

micro_back : (days millis : ℕ) (rest : Rest) → is_micros rest ≡ true
    → of_octets rest (octets_of (made days millis rest)) ≡ made days millis rest
    → HasLength 8 8 (octets_of (made days millis rest))
    × (Some (of_micro_octets (octets_of (made days millis rest))) ≡ Some (made days millis rest))
micro_back days millis (Micros n) form again =
    (record { least_so = omega arith; greatest_so = omega arith }, ap Some again)
micro_back days millis (Picos n) form again = cc

pico_back : (days millis : ℕ) (rest : Rest) → is_micros rest ≡ false
    → of_octets rest (octets_of (made days millis rest)) ≡ made days millis rest
    → HasLength 10 10 (octets_of (made days millis rest))
    × (Some (of_pico_octets (octets_of (made days millis rest))) ≡ Some (made days millis rest))
pico_back days millis (Micros n) form again = cc
pico_back days millis (Picos n) form again =
    (record { least_so = omega arith; greatest_so = omega arith }, ap Some again)

pub micro_complete : (t : Cds) → HasForm true t
    → HasLength 8 8 (octets_of t) × (Some (of_micro_octets (octets_of t)) ≡ Some t)
micro_complete t fits = micro_back t.days t.millis t.rest fits.form (given_again t fits.fields)

pub pico_complete : (t : Cds) → HasForm false t
    → HasLength 10 10 (octets_of t) × (Some (of_pico_octets (octets_of t)) ≡ Some t)
pico_complete t fits = pico_back t.days t.millis t.rest fits.form (given_again t fits.fields)

abbrev pub micro : Content Cds
micro = with_meaning (octet_string 8 8) (record {
  to = λ octets. Some (of_micro_octets octets);
  from = octets_of;
  Holds = HasForm true;
  sound = micro_sound;
  complete = micro_complete;
})

abbrev pub pico : Content Cds
pico = with_meaning (octet_string 10 10) (record {
  to = λ octets. Some (of_pico_octets octets);
  from = octets_of;
  Holds = HasForm false;
  sound = pico_sound;
  complete = pico_complete;
})

abbrev pub is_pico : Cds → Bool
is_pico t = not (is_micros t.rest)

pub so_pico : (t : Cds) → HasForm false t → is_pico t ≡ true
so_pico t fits = rw fits.form refl

pub not_pico : (t : Cds) → HasForm true t → is_pico t ≡ false
not_pico t fits = rw fits.form refl

abbrev pub time : Element Cds
time = two_forms (0x81 ∷ []) (simple (0x81 ∷ []) pico refl) (simple (0x80 ∷ []) micro refl) is_pico
    refl refl so_pico not_pico

-- [0] NULL where it is undefined, [1] around the time
abbrev pub conditional_time : Element (Option Cds)
conditional_time = optional (0xa1 ∷ []) (structured (0xa1 ∷ []) (last time) refl) refl refl

-- the identifier of its form
abbrev pub form_tag : Rest → List ℕ
form_tag (Micros n) = 0x80 ∷ []
form_tag (Picos n) = 0x81 ∷ []
