-- The next content is found exactly where an element is spelled.
use Rattle.std.proofs.Common.{◌≡◌, ℕ, zero, suc, ◌+◌, ◌-◌, ◌<◌, ◌≤◌, inl, inr, Bool, true, false}
use Rattle.std.proofs.Common.{◌==◌, ◌||◌, if◌then◌else◌, List, [], ◌∷◌, ◌++◌, length, take, drop}
use Rattle.std.proofs.Common.{get_or, nat_eq, nat_lt, slice_index, Result, Ok, Err, refl, sym, ◌∙◌}
use Rattle.std.proofs.Common.{ap, arith}
use Rattle.std.specs.List.{starts_with}
use Rattle.std.specs.Cmp.Lexicographic.{same_text}
use Rattle.std.proofs.lemmas.Cmp.{nat_list_eq_equiv}
use Rattle.std.proofs.lemmas.List.{append_assoc, take_at, drop_at, take-append-drop, length-take}
use Rattle.std.proofs.lemmas.List.{length-append}
use Rattle.std.proofs.lemmas.Bool.{ltb-true, ltb-false, lt-ltb, le-ltb}
use Rattle.std.proofs.lemmas.Bool.Decides.{nat_tests}
use Rattle.ber_core.specs.declared.fault.BerFault.{BerFault}
use Rattle.ber_core.specs.declared.fault.BerFault.TheVariants.{BadLength, WrongTag}
use Rattle.ber_core.specs.Length.{IsOctets, IsLength, IsLong, number_of}
use Rattle.ber_core.specs.Parts.{length-parts}
use Rattle.ber_core.specs.View.{View, end_of, left}
use Rattle.ber_core.specs.Reading.{missing, is_full, content_from, content_behind, content_at}
use Rattle.ber_core.specs.Reading.{next_content, Stands}

pub front_of : (octets tag : List ℕ) → starts_with nat_eq octets tag ≡ true
    → octets ≡ tag ++ drop (length tag) octets
front_of octets tag e = sym (take-append-drop (length tag) octets)
    ∙ ap (λ front. front ++ drop (length tag) octets)
    (sym (same_text tag (take (length tag) octets) (sym e)))

pub front_starts : (octets tag rest : List ℕ) → octets ≡ tag ++ rest
    → starts_with nat_eq octets tag ≡ true
front_starts octets tag rest e = rw (e, take_at tag rest (length tag) refl)
    (nat_list_eq_equiv.refl tag)

pub if_ok : {A : Type 0} (test : Bool) (fault : BerFault) (r : Result A BerFault) (x : A)
    → (if test then Err fault else r) ≡ Ok x → (test ≡ false) × (r ≡ Ok x)
if_ok true fault r x e = cc
if_ok false fault r x e = (refl, e)

pub content_from-ok : (view : View) (at start n : ℕ) (rest : List ℕ) (begin : ℕ) (content : List ℕ)
    → content_from view at start n rest ≡ Ok (begin, content)
    → (n ≤ length rest) × (start ≡ begin) × (take n rest ≡ content)
content_from-ok view at start n rest begin content e =
    let found = if_ok (nat_lt (length rest) n) (missing view at) (Ok (start, take n rest)) (
      begin,
      content,
    ) e in
    let same : ◌≡◌ {A = ℕ × List ℕ} (start, take n rest) (begin, content) = cc in
    (ltb-false (length rest) n found.0, ap (λ p. p.0) same, ap (λ p. p.1) same)

-- the length and the content that content_at found
pub record At (view : View) (at : ℕ) (rest content : List ℕ) (start : ℕ) : Type 0 where
  pub size : List ℕ
  pub behind : List ℕ
  pub is_length : IsLength size (length content)
  pub is : rest ≡ size ++ (content ++ behind)
  pub begins : start ≡ at + length size
  pub shallow : length view.ends < 16

two_faults : {A : Type 0} (test : Bool) (fault other : BerFault) (x : A)
    → ◌≡◌ {A = Result A BerFault} (if test then Err fault else Err other) (Ok x) → ⊥
two_faults true fault other x e = cc
two_faults false fault other x e = cc

-- what content_at gives where the first octet of a length stands and there is room
behind_first : View → ℕ → ℕ → List ℕ → Result (ℕ × List ℕ) BerFault
behind_first view at first rest =
    if nat_lt first 128 then content_from view at (at + 1) first rest
    else if first == 128 || nat_lt 136 first then Err (BadLength at)
    else content_behind view at (first - 128) rest

pub long_counts : (first : ℕ) → nat_lt first 128 ≡ false
    → (first == 128 || nat_lt 136 first) ≡ false → (128 < first) × (first ≤ 136)
long_counts first high fine = grind (arith, nat_tests)

long_fine : (first : ℕ) → 128 < first → first ≤ 136 → (first == 128 || nat_lt 136 first) ≡ false
long_fine first high fine = grind (arith, nat_tests)

shallow_view : (view : View) → is_full view ≡ false → length view.ends < 16
shallow_view view e = grind (arith, nat_tests)

not_full : (view : View) → length view.ends < 16 → is_full view ≡ false
not_full view shallow = grind (arith, nat_tests)

pub from_each : (octets : List ℕ) → ((i : ℕ) → get_or octets i 0 < 256) → IsOctets octets
from_each [] each = tt
from_each (octet ∷ octets) each = (each 0, from_each octets (λ i. each (suc i)))

pub IsOctets-take : (n : ℕ) (octets : List ℕ) → IsOctets octets → IsOctets (take n octets)
IsOctets-take zero octets h = tt
IsOctets-take (suc n) [] h = tt
IsOctets-take (suc n) (octet ∷ octets) h = (h.0, IsOctets-take n octets h.1)

short_found : (view : View) (at first : ℕ) (rest : List ℕ) (start : ℕ) (content : List ℕ)
    → length view.ends < 16 → first < 128
    → content_from view at (at + 1) first rest ≡ Ok (start, content)
    → At view at (first ∷ rest) content start
short_found view at first rest start content shallow small e =
    let found = content_from-ok view at (at + 1) first rest start content e in
    let counted : length content ≡ first = omega (
      arith,
      ap length (sym found.2),
      length-take first rest,
      found.0,
    ) in
    record {
      size = first ∷ [];
      behind = drop first rest;
      is_length = inl (omega arith, ap (λ n. n ∷ []) (sym counted));
      is = ap (λ octets. first ∷ octets) (sym (take-append-drop first rest)
          ∙ ap (λ front. front ++ drop first rest) found.2);
      begins = sym found.1;
      shallow = shallow;
    }

long_found : (view : View) (at first : ℕ) (rest : List ℕ) (start : ℕ) (content : List ℕ)
    → length view.ends < 16 → 128 < first → first ≤ 136 → IsOctets rest
    → content_behind view at (first - 128) rest ≡ Ok (start, content)
    → At view at (first ∷ rest) content start
long_found view at first rest start content shallow long few octets e =
    let enough = if_ok (nat_lt (length rest) (first - 128)) (missing view at)
    (content_from view at (at + 1 + (first - 128)) (number_of (take (first - 128) rest))
    (drop (first - 128) rest)) (start, content) e in
    let found = content_from-ok view at (at + 1 + (first - 128))
    (number_of (take (first - 128) rest)) (drop (first - 128) rest) start content enough.1 in
    let digits : List ℕ = take (first - 128) rest in
    let count : length digits ≡ first - 128 =
    omega (
      arith,
      length-take (first - 128) rest,
      ltb-false (length rest) (first - 128) enough.0,
    ) in
    let counted : length content ≡ number_of digits =
    omega (
      arith,
      ap length (sym found.2),
      length-take (number_of digits) (drop (first - 128) rest),
      found.0,
    ) in
    let spelled : 128 + length digits ≡ first = omega arith in
    record {
      size = first ∷ digits;
      behind = drop (number_of digits) (drop (first - 128) rest);
      is_length = inr (
        digits,
        record {
          some = omega arith;
          at_most_eight = omega arith;
          octets_all = IsOctets-take (first - 128) rest octets;
        },
        counted,
        ap (λ n. n ∷ digits) (sym spelled),
      );
      is = ap (λ octets. first ∷ octets) (sym (take-append-drop (first - 128) rest)
          ∙ ap (λ others. digits ++ others) (sym
          (take-append-drop (number_of digits) (drop (first - 128) rest))
          ∙ ap (λ front. front ++ drop (number_of digits) (drop (first - 128) rest)) found.2));
      begins = omega (arith, found.1);
      shallow = shallow;
    }

pub content_at-ok : (view : View) (at : ℕ) (rest : List ℕ) (start : ℕ) (content : List ℕ)
    → IsOctets rest → content_at view at rest ≡ Ok (start, content) → At view at rest content start
unfolding behind_first
content_at-ok view at [] start content octets e = cc
content_at-ok view at (first ∷ rest) start content octets e =
    let roomy = if_ok (is_full view) (BadLength at) (behind_first view at first rest) (
      start,
      content,
    ) e in
    let shallow : length view.ends < 16 = shallow_view view roomy.0 in
    elim (nat_lt first 128) as (λ short. nat_lt first 128 ≡ short
    → (if short then content_from view at (at + 1) first rest else if first == 128
    || nat_lt 136 first then Err (BadLength at) else content_behind view at (first - 128) rest)
    ≡ Ok (start, content)
    → At view at (first ∷ rest) content start) [
      | true ↦ λ low. short_found view at first rest start content shallow (ltb-true first 128 low)
      | false ↦ λ high h.
          let fine = if_ok (first == 128 || nat_lt 136 first) (BadLength at)
          (content_behind view at (first - 128) rest) (start, content) h in
          let counts = long_counts first high fine.0 in
          long_found view at first rest start content shallow counts.0 counts.1 octets.1 fine.1
    ] refl roomy.1

content_from-at : (view : View) (at start n : ℕ) (content behind : List ℕ) → n ≡ length content
    → content_from view at start n (content ++ behind) ≡ Ok (start, content)
content_from-at view at start n content behind e =
    let enough : n ≤ length (content ++ behind) = omega (arith, length-append content behind) in
    rw (le-ltb (length (content ++ behind)) n enough, take_at content behind n (sym e)) refl

short_at : (view : View) (at n : ℕ) (content behind : List ℕ) → length view.ends < 16 → n < 128
    → n ≡ length content → content_at view at (n ∷ (content ++ behind)) ≡ Ok (at + 1, content)
short_at view at n content behind shallow small e =
    rw (not_full view shallow, lt-ltb n 128 small)
    (content_from-at view at (at + 1) n content behind e)

long_at : (view : View) (at : ℕ) (digits content behind : List ℕ) → length view.ends < 16
    → IsLong digits → length content ≡ number_of digits
    → content_at view at ((128 + length digits) ∷ (digits ++ (content ++ behind)))
    ≡ Ok (at + 1 + length digits, content)
long_at view at digits content behind shallow long counted =
    let high : 128 ≤ 128 + length digits = omega arith in
    let fine = long_fine (128 + length digits) (omega arith) (omega arith) in
    let count : 128 + length digits - 128 ≡ length digits = omega arith in
    let enough : length digits ≤ length (digits ++ (content ++ behind)) =
    omega (arith, length-append digits (content ++ behind)) in
    rw (
      not_full view shallow,
      le-ltb (128 + length digits) 128 high,
      fine,
      count,
      le-ltb (length (digits ++ (content ++ behind))) (length digits) enough,
      take_at digits (content ++ behind) (length digits) refl,
      drop_at digits (content ++ behind) (length digits) refl,
    )
    (content_from-at view at (at + 1 + length digits) (number_of digits) content behind
    (sym counted))

length_at : (view : View) (at : ℕ) (size content behind : List ℕ) → length view.ends < 16
    → IsLength size (length content) → content_at view at (size ++ (content ++ behind))
    ≡ Ok (at + length size, content)
length_at view at size content behind shallow (inl (small, short)) =
    rw short (short_at view at (length content) content behind shallow small refl)
length_at view at size content behind shallow (inr (digits, long, value, spelled)) =
    rw (spelled) (long_at view at digits content behind shallow long value
    ∙ ap (λ start. Ok (start, content)) (omega arith))

pub IsOctets-drop : (n : ℕ) (octets : List ℕ) → IsOctets octets → IsOctets (drop n octets)
IsOctets-drop zero octets h = h
IsOctets-drop (suc n) [] h = tt
IsOctets-drop (suc n) (octet ∷ octets) h = IsOctets-drop n octets h.1

stands : (view : View) (tag content : List ℕ) (start : ℕ)
    → left view ≡ tag ++ drop (length tag) (left view)
    → At view (view.place + length tag) (drop (length tag) (left view)) content start
    → Stands view tag content start
stands view tag content start front found = record {
  spelled = tag ++ (found.size ++ content);
  rest = found.behind;
  is_element = (found.size, found.is_length, refl);
  before_end = front ∙ ap (λ others. tag ++ others) found.is ∙ simp append_assoc;
  begins = omega (arith, found.begins, length-parts tag found.size content);
  shallow = found.shallow;
}

pub next_content-Stands : (view : View) (tag content : List ℕ) (start : ℕ) → IsOctets view.octets
    → next_content view tag ≡ Ok (start, content) → Stands view tag content start
unfolding next_content
next_content-Stands view tag content start octets e =
    let left_octets : IsOctets (left view) = IsOctets-take (end_of view - view.place)
    (drop view.place view.octets) (IsOctets-drop view.place view.octets octets) in
    elim (starts_with nat_eq (left view) tag) as
    (λ starts. starts_with nat_eq (left view) tag ≡ starts
    → (if starts then content_at view (view.place + length tag) (drop (length tag) (left view))
    else if starts_with nat_eq tag (left view) then Err (missing view (end_of view))
    else Err (WrongTag view.place (slice_index (left view) 0))) ≡ Ok (start, content)
    → Stands view tag content start) [
      | true ↦ λ yes h. stands view tag content start (front_of (left view) tag yes)
          (content_at-ok view (view.place + length tag) (drop (length tag) (left view)) start
          content (IsOctets-drop (length tag) (left view) left_octets) h)
      | false ↦ λ no h. absurd (two_faults (starts_with nat_eq tag (left view))
          (missing view (end_of view)) (WrongTag view.place (slice_index (left view) 0)) (
            start,
            content,
          ) h)
    ] refl e

pub Stands-next_content : (view : View) (tag content : List ℕ) (start : ℕ)
    → Stands view tag content start → next_content view tag ≡ Ok (start, content)
unfolding next_content
Stands-next_content view tag content start found =
    let size : List ℕ = found.is_element.0 in
    let front : left view ≡ tag ++ (size ++ (content ++ found.rest)) = found.before_end
    ∙ ap (λ spelled. spelled ++ found.rest) found.is_element.2 ∙ simp append_assoc in
    let starts : starts_with nat_eq (left view) tag ≡ true =
    front_starts (left view) tag (size ++ (content ++ found.rest)) front in
    let behind : drop (length tag) (left view) ≡ size ++ (content ++ found.rest) =
    ap (drop (length tag)) front ∙ drop_at tag (size ++ (content ++ found.rest)) (length tag)
    refl in
    let begins : view.place + length tag + length size ≡ start
    = omega (arith, found.begins, ap length found.is_element.2, length-parts tag size content) in
    rw (starts, behind) (length_at view (view.place + length tag) size content found.rest
    found.shallow found.is_element.1 ∙ ap (λ place. Ok (place, content)) begins)
