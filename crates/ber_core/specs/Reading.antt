-- Reading the next element: its content, or the first fault in reading order. Which faults there
-- are and where they stand is this product's own rule; what is accepted is X.690's definite form.
use Rattle.std.specs.Prelude.{◌^◌, ◌≤ℤ◌, ◌<◌, ◌++◌, ◌↔◌, ◌≡◌, ℕ, ℤ, ◌+◌, ◌-◌, Bool, true, false}
use Rattle.std.specs.Prelude.{◌==◌, ◌&&◌, ◌||◌, not, List, [], ◌∷◌, length, take, drop, slice_index}
use Rattle.std.specs.Prelude.{nat_eq, nat_lt, nat_le, int_lt, if◌then◌else◌, Result, Ok, Err}
use Rattle.std.specs.List.{starts_with, list_all}
use Rattle.ber_core.specs.declared.fault.BerFault.{BerFault}
use Rattle.ber_core.specs.declared.fault.BerFault.TheVariants.{Cut, WrongTag, BadLength, BadContent}
use Rattle.ber_core.specs.declared.fault.BerFault.TheVariants.{Wide}
use Rattle.ber_core.specs.Length.{IsOctets, number_of, shortest_length}
use Rattle.ber_core.specs.Integer.{is_redundant, is_wide, signed_of, integer_octets, Has64Bits}
use Rattle.ber_core.specs.Spelling.{IsElement, element}
use Rattle.ber_core.specs.View.{View, end_of, left}

infixl 10 ◌>>=◌
abbrev pub ◌>>=◌ : {A B : Type 0} → Result A BerFault → (A → Result B BerFault) → Result B BerFault
(Ok x) >>= f = f x
(Err e) >>= f = Err e

abbrev pub is_empty : {A : Type 0} → List A → Bool
is_empty [] = true
is_empty (x ∷ xs) = false

-- an octet is missing that belongs at this place: the input is cut, or the element around ends too
-- early
abbrev pub missing : View → ℕ → BerFault
missing view at = if length view.ends == 0 then Cut view.place else BadLength at

-- this product's limit on elements inside one another
abbrev pub is_full : View → Bool
is_full view = nat_le 16 (length view.ends)

-- the content of n octets at the front of the rest, which begins at start; its length stands at the
-- place at
abbrev pub content_from : View → ℕ → ℕ → ℕ → List ℕ → Result (ℕ × List ℕ) BerFault
content_from view at start n rest = if nat_lt (length rest) n then Err (missing view at)
    else Ok (start, take n rest)

-- the long form with so many octets behind the first one
abbrev pub content_behind : View → ℕ → ℕ → List ℕ → Result (ℕ × List ℕ) BerFault
content_behind view at count rest =
    if nat_lt (length rest) count
    then Err (missing view at)
    else content_from view at (at + 1 + count) (number_of (take count rest)) (drop count rest)

-- the content behind the length at this place, and where it begins
abbrev pub content_at : View → ℕ → List ℕ → Result (ℕ × List ℕ) BerFault
content_at view at [] = Err (missing view at)
content_at view at (first ∷ rest) =
    if is_full view then Err (BadLength at)
    else if nat_lt first 128 then content_from view at (at + 1) first rest
    else if first == 128 || nat_lt 136 first then Err (BadLength at)
    else content_behind view at (first - 128) rest

-- the content of the next element, and where it begins
unfoldable pub next_content : View → List ℕ → Result (ℕ × List ℕ) BerFault
next_content view tag =
    if starts_with nat_eq (left view) tag then content_at view (view.place + length tag)
    (drop (length tag) (left view))
    else if starts_with nat_eq tag (left view) then Err (missing view (end_of view))
    else Err (WrongTag view.place (slice_index (left view) 0))

-- the next element has this identifier, as far as an identifier's octets tell
abbrev pub is_next : List ℕ → View → Bool
is_next tag view = starts_with nat_eq (left view) tag

-- An element with this tag and content stands at the place, before the end of the element around it
-- and within the limit on nesting, and its content begins at start.
pub record Stands (view : View) (tag content : List ℕ) (start : ℕ) : Type 0 where
  pub spelled : List ℕ
  pub rest : List ℕ
  pub is_element : IsElement tag content spelled
  pub before_end : left view ≡ spelled ++ rest
  pub begins : start + length content ≡ view.place + length spelled
  pub shallow : length view.ends < 16

-- reading on behind content that begins at start
abbrev pub behind : View → ℕ → List ℕ → View
behind view start content = record view { place = start + length content }

-- reading a primitive element whose content is judged by the rules of its type
abbrev pub primitive_at : {X : Type 0} → (ℕ → List ℕ → Result X BerFault) → View → List ℕ
    → Result (X × View) BerFault
primitive_at judge view tag = do
  found ← next_content view tag
  value ← judge found.0 found.1
  Ok (value, behind view found.0 found.1)

-- INTEGER (8.3): the redundant first octet comes before the width, and the width before the range
abbrev pub integer_of : ℤ → ℤ → ℕ → List ℕ → Result ℤ BerFault
integer_of least greatest place content =
    if is_empty content || is_redundant content then Err (BadContent place)
    else if is_wide content then Err (Wide place)
    else if int_lt (signed_of content) least || int_lt greatest (signed_of content) then Err
    (BadContent place)
    else Ok (signed_of content)

abbrev pub has_length : ℕ → ℕ → List ℕ → Bool
has_length least greatest content = nat_le least (length content)
    && nat_le (length content) greatest

-- OCTET STRING (8.7)
abbrev pub string_of : ℕ → ℕ → ℕ → List ℕ → Result (List ℕ) BerFault
string_of least greatest place content = if has_length least greatest content then Ok content
    else Err (BadContent place)

-- a character of VisibleString (8.23.5, ISO 646)
abbrev pub is_visible : ℕ → Bool
is_visible octet = nat_le 0x20 octet && nat_le octet 0x7e

abbrev pub visible_of : ℕ → ℕ → ℕ → List ℕ → Result (List ℕ) BerFault
visible_of least greatest place content =
    if has_length least greatest content && list_all is_visible content then Ok content
    else Err (BadContent place)

-- Subidentifiers of an OBJECT IDENTIFIER (8.19.2): the last octet of each has bit 8 clear, and none
-- begins with 80.
abbrev pub are_subidentifiers : Bool → List ℕ → Bool
are_subidentifiers begins [] = begins
are_subidentifiers begins (octet ∷ octets) = not (begins && octet == 128)
    && are_subidentifiers (nat_lt octet 128) octets

abbrev pub object_id_of : ℕ → List ℕ → Result (List ℕ) BerFault
object_id_of place content =
    if not (is_empty content) && are_subidentifiers true content then Ok content
    else Err (BadContent place)

-- NULL (8.8)
abbrev pub null_of : ℕ → List ℕ → Result (Unit {0}) BerFault
null_of place content = if is_empty content then Ok tt else Err (BadContent place)

-- inside an element whose content begins at start
abbrev pub inside : View → ℕ → List ℕ → View
inside view start content = record view {
  place = start;
  ends = (start + length content) ∷ view.ends;
}

-- entering an element, whose content ends where the innermost end then is
abbrev pub enter : View → List ℕ → Result (Unit {0} × View) BerFault
enter view tag = do
  found ← next_content view tag
  Ok (tt, inside view found.0 found.1)

-- leaving the innermost entered element, or where none is entered, ending the octets
abbrev pub leave : View → Result (Unit {0} × View) BerFault
leave view = if view.place == end_of view then Ok (tt, record view { ends = drop 1 view.ends })
    else Err (BadLength view.place)

-- What a call returned, seen by seen, is what reading gives, with the reader behind it; a fault
-- leaves the reader.
abbrev pub Reads : {X Y : Type 0} → (X → Y) → View → View → Result X BerFault
    → Result (Y × View) BerFault → Type 0
Reads seen old new (Ok x) reading = reading ≡ Ok (seen x, new)
Reads seen old new (Err fault) reading = (reading ≡ Err fault) × (new ≡ old)

-- the same for a call that only looks
abbrev pub Gives : {X Y : Type 0} → (X → Y) → Result X BerFault → Result Y BerFault → Type 0
Gives seen (Ok x) reading = reading ≡ Ok (seen x)
Gives seen (Err fault) reading = reading ≡ Err fault

-- Content is found exactly where its element is spelled.
abbrev pub FoundWhereSpelled : Type 0
FoundWhereSpelled =
    (view : View) (tag content : List ℕ) (start : ℕ) → IsOctets view.octets
    → (next_content view tag ≡ Ok (start, content)) ↔ Stands view tag content start

-- An INTEGER is read exactly from its octets, where it is in the range and has at most 64 bits.
abbrev pub IntegerWhereSpelled : Type 0
IntegerWhereSpelled =
    (least greatest z : ℤ) (place : ℕ) (content : List ℕ) → IsOctets content
    → (integer_of least greatest place content ≡ Ok z) ↔ ((content ≡ integer_octets z) × Has64Bits z
    × (least ≤ℤ z) × (z ≤ℤ greatest))

-- The canonical octets of an INTEGER in the range are read back.
abbrev pub IntegerReadBack : Type 0
IntegerReadBack =
    (least greatest z : ℤ) (place : ℕ) → Has64Bits z → least ≤ℤ z → z ≤ℤ greatest
    → IsOctets (integer_octets z) × (integer_of least greatest place (integer_octets z) ≡ Ok z)

-- A canonical primitive element at the place is found, whatever follows it, before the end of the
-- element around it.
abbrev pub ElementReadBack : Type 0
ElementReadBack =
    (view : View) (tag content more : List ℕ) → length content < 2 ^ 64 → length view.ends < 16
    → left view ≡ element tag content ++ more
    → next_content view tag ≡ Ok (
      view.place + length tag + length
          (shortest_length (length content)),
      content,
    )

-- Inside an element its content is left to read.
abbrev pub ContentIsInside : Type 0
ContentIsInside = (view : View) (tag content : List ℕ) (start : ℕ) → Stands view tag content start
    → left (inside view start content) ≡ content

-- The content of an element in octets is octets.
abbrev pub ContentIsOctets : Type 0
ContentIsOctets = (view : View) (tag content : List ℕ) (start : ℕ) → IsOctets view.octets
    → Stands view tag content start → IsOctets content

-- Behind an element what follows its spelling is left to read.
abbrev pub RestIsBehind : Type 0
RestIsBehind = (view : View) (tag content : List ℕ) (start : ℕ)
    (found : Stands view tag content start) → left (behind view start content) ≡ found.rest
