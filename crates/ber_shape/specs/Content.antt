-- The content octets of primitive elements: what they say, judged by the rules of their type.
use Rattle.std.proofs.Common.{◌≡◌, ℕ, ℤ, pos, negsuc, ◌-◌, ◌<◌, ◌≤◌, ◌≤ℤ◌, ◌^◌, Bool, true, not}
use Rattle.std.proofs.Common.{◌&&◌, List, [], ◌∷◌, length, Option, Some, None, Result, Ok, Err}
use Rattle.std.proofs.Common.{refl, sym, ◌∙◌, ap, subst, arith}
use Rattle.std.specs.List.{list_all}
use Rattle.ber_core.specs.declared.fault.BerFault.{BerFault}
use Rattle.ber_core.specs.declared.fault.BerFault.TheVariants.{BadContent}
use Rattle.ber_core.specs.Length.{IsSlice}
use Rattle.ber_core.specs.Integer.{integer_octets, Has64Bits}
use Rattle.ber_core.specs.Parts.{few-integer_octets}
use Rattle.ber_core.specs.Reading.{◌>>=◌, has_length, is_visible, is_empty, are_subidentifiers}
use Rattle.ber_core.specs.Reading.{integer_of, string_of, visible_of, object_id_of, null_of}
use Rattle.ber_core.specs.Facts.Read.{integer_of-spelled, integer_of-integer_octets}
use Rattle.ber_shape.specs.Results.{bind_ok, ok_is, err_ok, tested}
use Rattle.ber_shape.specs.Identifier.{both}

-- A type of primitive elements: what content at a place says or which fault it has, the content
-- octets of a value, and which values fit.
pub record Content (X : Type 0) : Type 1 where
  pub judge : ℕ → List ℕ → Result X BerFault
  pub octets : X → List ℕ
  pub Fits : X → Type 0
  -- the octets that are judged to say a value are that value's, and it fits
  pub sound : (place : ℕ) (content : List ℕ) (x : X) → IsSlice content → judge place content ≡ Ok x
      → Fits x × (content ≡ octets x)
  -- the octets of a value that fits are judged to say it
  pub complete : (place : ℕ) (x : X) → Fits x → judge place (octets x) ≡ Ok x
  -- at most so many octets
  pub most : ℕ
  pub few : (x : X) → Fits x → length (octets x) ≤ most

-- ---- INTEGER (X.690 8.3) from least to greatest, of at most 64 bits

pub record InRange (least greatest z : ℤ) : Type 0 where
  pub bits : Has64Bits z
  pub least_so : least ≤ℤ z
  pub greatest_so : z ≤ℤ greatest

pub integer_sound : (least greatest : ℤ) (place : ℕ) (content : List ℕ) (z : ℤ) → IsSlice content
    → integer_of least greatest place content ≡ Ok z
    → InRange least greatest z × (content ≡ integer_octets z)
integer_sound least greatest place content z slice e =
    let (same, bits, low, high) = integer_of-spelled least greatest z place content slice.each e in
    (record { bits = bits; least_so = low; greatest_so = high }, same)

abbrev pub integer : ℤ → ℤ → Content ℤ
integer least greatest = record {
  judge = integer_of least greatest;
  octets = integer_octets;
  Fits = InRange least greatest;
  sound = integer_sound least greatest;
  complete = λ place z fits. integer_of-integer_octets least greatest z place fits.bits
      fits.least_so fits.greatest_so;
  most = 16;
  few = λ z fits. few-integer_octets z;
}

-- of any value
abbrev pub any_integer : Content ℤ
any_integer = integer (negsuc (2 ^ 63 - 1)) (pos (2 ^ 64 - 1))

-- ---- OCTET STRING (8.7) of least to greatest octets

pub record HasLength (least greatest : ℕ) (octets : List ℕ) : Type 0 where
  pub least_so : least ≤ length octets
  pub greatest_so : length octets ≤ greatest

lengths_so : (least greatest : ℕ) (octets : List ℕ) → has_length least greatest octets ≡ true
    → HasLength least greatest octets
lengths_so least greatest octets e = record { least_so = grind arith; greatest_so = grind arith }

so_lengths : (least greatest : ℕ) (octets : List ℕ) → HasLength least greatest octets
    → has_length least greatest octets ≡ true
so_lengths least greatest octets fits = let low = fits.least_so in let high = fits.greatest_so in
    grind arith

pub string_sound : (least greatest place : ℕ) (content x : List ℕ) → IsSlice content
    → string_of least greatest place content ≡ Ok x → HasLength least greatest x × (content ≡ x)
string_sound least greatest place content x slice e =
    let (fits, same) = tested (has_length least greatest content) content x (BadContent place) e in
    (subst (HasLength least greatest) same (lengths_so least greatest content fits), same)

pub string_complete : (least greatest place : ℕ) (x : List ℕ) → HasLength least greatest x
    → string_of least greatest place x ≡ Ok x
string_complete least greatest place x fits = rw (so_lengths least greatest x fits) refl

abbrev pub octet_string : ℕ → ℕ → Content (List ℕ)
octet_string least greatest = record {
  judge = string_of least greatest;
  octets = λ x. x;
  Fits = HasLength least greatest;
  sound = string_sound least greatest;
  complete = string_complete least greatest;
  most = greatest;
  few = λ x fits. fits.greatest_so;
}

-- ---- VisibleString (8.23) of least to greatest characters

pub record IsVisible (least greatest : ℕ) (octets : List ℕ) : Type 0 where
  pub lengths : HasLength least greatest octets
  pub visible_all : list_all is_visible octets ≡ true

pub visible_sound : (least greatest place : ℕ) (content x : List ℕ) → IsSlice content
    → visible_of least greatest place content ≡ Ok x → IsVisible least greatest x × (content ≡ x)
visible_sound least greatest place content x slice e =
    let (fits, same) = tested (has_length least greatest content && list_all is_visible content)
    content x (BadContent place) e in
    let h = both (has_length least greatest content) (list_all is_visible content) fits in (
      subst (IsVisible least greatest) same (record {
        lengths =
            lengths_so least greatest content h.0;
        visible_all = h.1;
      }),
      same,
    )

pub visible_complete : (least greatest place : ℕ) (x : List ℕ) → IsVisible least greatest x
    → visible_of least greatest place x ≡ Ok x
visible_complete least greatest place x fits =
    rw (so_lengths least greatest x fits.lengths, fits.visible_all) refl

abbrev pub visible_string : ℕ → ℕ → Content (List ℕ)
visible_string least greatest = record {
  judge = visible_of least greatest;
  octets = λ x. x;
  Fits = IsVisible least greatest;
  sound = visible_sound least greatest;
  complete = visible_complete least greatest;
  most = greatest;
  few = λ x fits. fits.lengths.greatest_so;
}

-- ---- OBJECT IDENTIFIER (8.19), as its content octets: as many as a slice has

abbrev pub is_object_id : List ℕ → Bool
is_object_id content = not (is_empty content) && are_subidentifiers true content

pub record IsObjectId (octets : List ℕ) : Type 0 where
  pub so : is_object_id octets ≡ true
  pub short : length octets < 2 ^ 63

pub object_id_sound : (place : ℕ) (content x : List ℕ) → IsSlice content
    → object_id_of place content ≡ Ok x → IsObjectId x × (content ≡ x)
object_id_sound place content x slice e =
    let (fits, same) = tested (is_object_id content) content x (BadContent place) e in
    (subst IsObjectId same (record { so = fits; short = slice.short }), same)

pub object_id_complete : (place : ℕ) (x : List ℕ) → IsObjectId x → object_id_of place x ≡ Ok x
object_id_complete place x fits = rw fits.so refl

pub object_id_few : (x : List ℕ) → IsObjectId x → length x ≤ 2 ^ 63
object_id_few x fits = omega (arith, fits.short)

abbrev pub object_id : Content (List ℕ)
object_id = record {
  judge = object_id_of;
  octets = λ x. x;
  Fits = IsObjectId;
  sound = object_id_sound;
  complete = object_id_complete;
  most = 2 ^ 63;
  few = object_id_few;
}

-- ---- NULL (8.8)

pub null_sound : (place : ℕ) (content : List ℕ) (x : Unit {0}) → IsSlice content
    → null_of place content ≡ Ok x → Unit {0} × (content ≡ [])
null_sound place [] x slice e = (tt, refl)
null_sound place (octet ∷ content) x slice e = absurd (err_ok _ x e)

pub null_complete : (place : ℕ) (x : Unit {0}) → Unit {0} → null_of place [] ≡ Ok x
null_complete place x fits = refl

pub null_few : (x : Unit {0}) → Unit {0} → 0 ≤ 0
null_few x fits = omega arith

abbrev pub null : Content (Unit {0})
null = record {
  judge = null_of;
  octets = λ x. [];
  Fits = λ x. Unit {0};
  sound = null_sound;
  complete = null_complete;
  most = 0;
  few = null_few;
}

-- ---- a narrower type: BadContent where a value of the wider one has no meaning

pub record Meaning {X : Type 0} (c : Content X) (Y : Type 0) : Type 1 where
  pub to : X → Option Y
  pub from : Y → X
  pub Holds : Y → Type 0
  pub sound : (x : X) (y : Y) → c.Fits x → IsSlice (c.octets x) → to x ≡ Some y
      → Holds y × (from y ≡ x)
  pub complete : (y : Y) → Holds y → c.Fits (from y) × (to (from y) ≡ Some y)

abbrev pub meant : {Y : Type 0} → ℕ → Option Y → Result Y BerFault
meant place None = Err (BadContent place)
meant place (Some y) = Ok y

meant_ok : {Y : Type 0} (place : ℕ) (o : Option Y) (y : Y) → meant place o ≡ Ok y → o ≡ Some y
meant_ok place None y e = absurd (err_ok _ y e)
meant_ok place (Some x) y e = ap Some (ok_is x y e)

module _ {X Y : Type 0} (c : Content X) (m : Meaning c Y) where
  abbrev pub meaning_of : ℕ → List ℕ → Result Y BerFault
  meaning_of place content = c.judge place content >>= λ x. meant place (m.to x)

  pub meaning_sound : (place : ℕ) (content : List ℕ) (y : Y) → IsSlice content
      → meaning_of place content ≡ Ok y → m.Holds y × (content ≡ c.octets (m.from y))
  meaning_sound place content y slice e =
      let (x, judged, means) = bind_ok (c.judge place content) (λ x. meant place (m.to x)) y e in
      let (fits, is) = c.sound place content x slice judged in
      let (holds, same) = m.sound x y fits (subst IsSlice is slice)
      (meant_ok place (m.to x) y means) in
      (holds, is ∙ ap c.octets (sym same))

  pub meaning_complete : (place : ℕ) (y : Y) → m.Holds y
      → meaning_of place (c.octets (m.from y)) ≡ Ok y
  meaning_complete place y holds = let (fits, means) = m.complete y holds in
      rw (c.complete place (m.from y) fits, means) refl

  pub meaning_few : (y : Y) → m.Holds y → length (c.octets (m.from y)) ≤ c.most
  meaning_few y holds = c.few (m.from y) (m.complete y holds).0

  abbrev pub with_meaning : Content Y
  with_meaning = record {
    judge = meaning_of;
    octets = λ y. c.octets (m.from y);
    Fits = m.Holds;
    sound = meaning_sound;
    complete = meaning_complete;
    most = c.most;
    few = meaning_few;
  }
