-- An element is cut exactly where it is the outermost one and ends behind the input.
use Rattle.std.proofs.Common.{◌≡◌, ◌⊎◌, ◌↔◌, ℕ, zero, suc, ◌+◌, ◌-◌, ◌<◌, ◌≤◌, inl, inr, Bool, true}
use Rattle.std.proofs.Common.{false, ◌==◌, ◌||◌, List, [], ◌∷◌, ◌++◌, length, take, drop, replicate}
use Rattle.std.proofs.Common.{nat_eq, nat_lt, slice_index, if◌then◌else◌, Result, Ok, Err, refl}
use Rattle.std.proofs.Common.{sym, ap, subst, ◌∙◌, arith, append-nil}
use Rattle.std.specs.List.{starts_with}
use Rattle.std.specs.Cmp.Lexicographic.{pointwise}
use Rattle.std.proofs.lemmas.Bool.{ltb-true, ltb-false, eqb-true}
use Rattle.std.proofs.lemmas.List.{append_assoc, drop-append-le, take_rest, take-append-drop}
use Rattle.std.proofs.lemmas.List.{length-append, length-replicate, length-take}
use Rattle.ber_core.specs.declared.fault.BerFault.{BerFault}
use Rattle.ber_core.specs.declared.fault.BerFault.TheVariants.{Cut, WrongTag, BadLength, BadContent}
use Rattle.ber_core.specs.declared.fault.BerFault.TheVariants.{Wide}
use Rattle.ber_core.specs.Length.{IsOctets, IsLength, number_of}
use Rattle.ber_core.specs.Tree.{Tree, Trees, primitive, constructed, no_trees, tree_and}
use Rattle.ber_core.specs.View.{View, view_before, end_of, left, IsInside}
use Rattle.ber_core.specs.Reading.{is_full, missing, content_from, content_behind, content_at}
use Rattle.ber_core.specs.Reading.{next_content, ◌>>=◌, leave, inside}
use Rattle.ber_core.specs.Whole.{exactly, read_tree, read_trees}
use Rattle.ber_core.specs.Longer.{longer, IsUncut, IsWithin, EndsBehind, tag_of}
use Rattle.ber_core.specs.Facts.Found.{front_of, long_counts, IsOctets-take, IsOctets-drop}
use Rattle.ber_core.specs.Facts.Found.{next_content-Stands, Stands-next_content}
use Rattle.ber_core.specs.Facts.Whole.{standing, read_tree-ok}
use Rattle.ber_core.proofs.Longer.{outer, from, found_stays}
use Rattle.ber_core.proofs.Trees.{judged, left_behind, within, primitive_is, constructed_is}

-- ---- not with an element around

if_uncut : {A : Type 0} (test : Bool) (r s : Result A BerFault) → IsUncut r → IsUncut s
    → IsUncut (if test then r else s)
if_uncut true r s first other = first
if_uncut false r s first other = other

missing_uncut : (octets : List ℕ) (place end : ℕ) (ends : List ℕ) (at : ℕ)
    → IsUncut {A = ℕ × List ℕ} (Err (missing (record {
      octets = octets;
      place = place;
      ends = end ∷ ends;
    }) at))
missing_uncut octets place end ends at =
    elim (length (end ∷ ends) == 0) as (λ b. (length (end ∷ ends) == 0) ≡ b
    → IsUncut {A = ℕ × List ℕ} (Err (if b then Cut place else BadLength at)))
    [ true ↦ λ e. absurd (omega (arith, eqb-true _ 0 e)) | false ↦ λ e. tt ] refl

from_uncut : (octets : List ℕ) (place end : ℕ) (ends : List ℕ) (at start n : ℕ) (rest : List ℕ)
    → IsUncut (content_from (record { octets = octets; place = place; ends = end ∷ ends }) at start
    n rest)
from_uncut octets place end ends at start n rest =
    if_uncut (nat_lt (length rest) n) _ _ (missing_uncut octets place end ends at) tt

at_uncut : (octets : List ℕ) (place end : ℕ) (ends : List ℕ) (at : ℕ) (rest : List ℕ)
    → IsUncut (content_at (record { octets = octets; place = place; ends = end ∷ ends }) at rest)
at_uncut octets place end ends at [] = missing_uncut octets place end ends at
at_uncut octets place end ends at (first ∷ rest) =
    if_uncut (is_full (record { octets = octets; place = place; ends = end ∷ ends })) _ _ tt
    (if_uncut (nat_lt first 128) _ _ (from_uncut octets place end ends at (at + 1) first rest)
    (if_uncut (first == 128 || nat_lt 136 first) _ _ tt
    (if_uncut (nat_lt (length rest) (first - 128)) _ _ (missing_uncut octets place end ends at)
    (from_uncut octets place end ends at (at + 1 + (first - 128))
    (number_of (take (first - 128) rest)) (drop (first - 128) rest)))))

pub entered_uncut : (octets : List ℕ) (place end : ℕ) (ends tag : List ℕ)
    → IsUncut (next_content (record { octets = octets; place = place; ends = end ∷ ends }) tag)
unfolding next_content
entered_uncut octets place end ends tag =
    let x : List ℕ = take (end - place) (drop place octets) in
    if_uncut (starts_with nat_eq x tag) _ _
    (at_uncut octets place end ends (place + length tag) (drop (length tag) x))
    (if_uncut (starts_with nat_eq tag x) _ _ (missing_uncut octets place end ends end) tt)

-- ---- octets that begin a length and its content, filled up

abbrev zeros : ℕ → List ℕ
zeros n = replicate n 0

IsOctets-zeros : (n : ℕ) → IsOctets (zeros n)
IsOctets-zeros zero = tt
IsOctets-zeros (suc n) = (omega arith, IsOctets-zeros n)

IsOctets-append : (x y : List ℕ) → IsOctets x → IsOctets y → IsOctets (x ++ y)
IsOctets-append [] y h k = k
IsOctets-append (a ∷ x) y h k = (h.0, IsOctets-append x y h.1 k)

record EndsIn (rest : List ℕ) : Type 0 where
  size : List ℕ
  content : List ℕ
  missing : List ℕ
  some : 0 < length missing
  is_length : IsLength size (length content)
  is : rest ++ missing ≡ size ++ content

short_ends : (first : ℕ) (rest : List ℕ) → first < 128 → length rest < first → EndsIn (first ∷ rest)
short_ends first rest small short =
    let filled : first ≡ length (rest ++ zeros (first - length rest)) =
    omega (
      arith,
      length-append rest (zeros (first - length rest)),
      length-replicate {A = ℕ} (first - length rest) 0,
    ) in
    record {
      size = first ∷ [];
      content = rest ++ zeros (first - length rest);
      missing = zeros (first - length rest);
      some = omega (arith, length-replicate {A = ℕ} (first - length rest) 0);
      is_length = inl (omega arith, ap (λ n. n ∷ []) filled);
      is = refl;
    }

long_is : (first : ℕ) (digits content : List ℕ) → 128 < first → first ≤ 136
    → length digits ≡ first - 128 → IsOctets digits → length content ≡ number_of digits
    → IsLength (first ∷ digits) (length content)
long_is first digits content long few count octets counted =
    inr (
      digits,
      record { some = omega arith; at_most_eight = omega arith; octets_all = octets },
      counted,
      ap (λ n. n ∷ digits) (omega arith),
    )

digits_end : (first : ℕ) (rest : List ℕ) → 128 < first → first ≤ 136 → IsOctets rest
    → length rest < first - 128 → EndsIn (first ∷ rest)
digits_end first rest long few octets short =
    let more : List ℕ = zeros (first - 128 - length rest) in
    let digits : List ℕ = rest ++ more in
    let content : List ℕ = zeros (number_of digits) in
    let count : length more ≡ first - 128 - length rest =
    length-replicate {A = ℕ} (first - 128 - length rest) 0 in
    record {
      size = first ∷ digits;
      content = content;
      missing = more ++ content;
      some = omega (arith, count, length-append more content);
      is_length = long_is first digits content long few
          (omega (arith, count, length-append rest more))
          (IsOctets-append rest more octets (IsOctets-zeros (first - 128 - length rest)))
          (length-replicate {A = ℕ} (number_of digits) 0);
      is = ap (λ others. first ∷ others) (sym (append_assoc rest more content));
    }

content_ends : (first : ℕ) (rest : List ℕ) → 128 < first → first ≤ 136 → IsOctets rest
    → first - 128 ≤ length rest
    → length (drop (first - 128) rest) < number_of (take (first - 128) rest)
    → EndsIn (first ∷ rest)
content_ends first rest long few octets enough short =
    let digits : List ℕ = take (first - 128) rest in
    let body : List ℕ = drop (first - 128) rest in
    let more : List ℕ = zeros (number_of digits - length body) in
    let count : length more ≡ number_of digits - length body =
    length-replicate {A = ℕ} (number_of digits - length body) 0 in
    record {
      size = first ∷ digits;
      content = body ++ more;
      missing = more;
      some = omega (arith, count, short);
      is_length = long_is first digits (body ++ more) long few
          (omega (arith, length-take (first - 128) rest))
          (IsOctets-take (first - 128) rest octets)
          (omega (arith, count, short, length-append body more));
      is = ap (λ others. first ∷ others)
          (ap (λ others. others ++ more) (sym (take-append-drop (first - 128) rest))
          ∙ append_assoc digits body more);
    }

-- ---- where a reader with no element around says Cut

same_cut : {A : Type 0} (p q : ℕ) → ◌≡◌ {A = Result A BerFault} (Err (Cut q)) (Err (Cut p)) → p ≡ q
same_cut p q e = cc

ok_cut : {A : Type 0} (x : A) (p : ℕ) → ◌≡◌ {A = Result A BerFault} (Ok x) (Err (Cut p)) → ⊥
ok_cut x p e = cc

length_cut : {A : Type 0} (at p : ℕ)
    → ◌≡◌ {A = Result A BerFault} (Err (BadLength at)) (Err (Cut p)) → ⊥
length_cut at p e = cc

tag_cut : {A : Type 0} (at found p : ℕ)
    → ◌≡◌ {A = Result A BerFault} (Err (WrongTag at found)) (Err (Cut p)) → ⊥
tag_cut at found p e = cc

module _ (octets : List ℕ) (place p : ℕ) where
  -- a test that says Cut, or another answer
  if_cut : {A : Type 0} (test : Bool) (r : Result A BerFault)
      → (if test then Err (Cut place) else r) ≡ Err (Cut p)
      → ((p ≡ place) × (test ≡ true)) ⊎ ((test ≡ false) × (r ≡ Err (Cut p)))
  if_cut true r e = inl (same_cut p place e, refl)
  if_cut false r e = inr (refl, e)

  from_short : (at start n : ℕ) (rest : List ℕ)
      → content_from (outer octets place) at start n rest ≡ Err (Cut p)
      → (p ≡ place) × (length rest < n)
  from_short at start n rest e =
      elim (if_cut (nat_lt (length rest) n) (Ok (start, take n rest)) e) [
        | inl here ↦ (here.0, ltb-true (length rest) n here.1)
        | inr other ↦ absurd (ok_cut _ p other.1)
      ]

  long_cut : (at first : ℕ) (rest : List ℕ) → 128 < first → first ≤ 136 → IsOctets rest
      → content_behind (outer octets place) at (first - 128) rest ≡ Err (Cut p)
      → (p ≡ place) × EndsIn (first ∷ rest)
  long_cut at first rest long few all e =
      let body : List ℕ = drop (first - 128) rest in
      let n : ℕ = number_of (take (first - 128) rest) in
      let start : ℕ = at + 1 + (first - 128) in
      elim (if_cut (nat_lt (length rest) (first - 128))
      (content_from (outer octets place) at start n body) e) [
        | inl here ↦ (
          here.0,
          digits_end first rest long few all (ltb-true (length rest) (first - 128) here.1),
        )
        | inr other ↦
            let short = from_short at start n body other.1 in (
              short.0,
              content_ends first rest long few all
                  (ltb-false (length rest) (first - 128) other.0) short.1,
            )
      ]

  at_cut : (at : ℕ) (rest : List ℕ) → IsOctets rest
      → content_at (outer octets place) at rest ≡ Err (Cut p) → (p ≡ place) × EndsIn rest
  at_cut at [] all e = (
    same_cut p place e,
    record {
      size = 0 ∷ [];
      content = [];
      missing = 0 ∷ [];
      some = omega arith;
      is_length = inl (omega arith, refl);
      is = refl;
    },
  )
  at_cut at (first ∷ rest) all e =
      elim (nat_lt first 128) as (λ b. nat_lt first 128 ≡ b
      → (if b then content_from (outer octets place) at (at + 1) first rest
      else if first == 128 || nat_lt 136 first then Err (BadLength at)
      else content_behind (outer octets place) at (first - 128) rest) ≡ Err (Cut p)
      → (p ≡ place) × EndsIn (first ∷ rest)) [
        | true ↦ λ small h.
            let short = from_short at (at + 1) first rest h in
            (short.0, short_ends first rest (ltb-true first 128 small) short.1)
        | false ↦ λ high. elim (first == 128 || nat_lt 136 first) as (λ b.
            (first == 128 || nat_lt 136 first) ≡ b
            → (if b then Err (BadLength at)
            else content_behind (outer octets place) at (first - 128) rest) ≡ Err (Cut p)
            → (p ≡ place) × EndsIn (first ∷ rest)) [
              | true ↦ λ bad h. absurd (length_cut at p h)
              | false ↦ λ fine h.
                  let counts = long_counts first high fine in
                  long_cut at first rest counts.0 counts.1 all.1 h
            ] refl
      ] refl e

  ends_behind : (tag x rest : List ℕ) → x ≡ tag ++ rest → EndsIn rest → EndsBehind tag x
  ends_behind tag x rest front ends = record {
    content = ends.content;
    missing = ends.missing;
    some = ends.some;
    is_element = (
      ends.size,
      ends.is_length,
      ap (λ y. y ++ ends.missing) front ∙ append_assoc tag rest ends.missing
          ∙ ap (λ others. tag ++ others) ends.is,
    );
  }

  -- the identifier itself ends behind the octets
  tag_ends : (tag x rest : List ℕ) → tag ≡ x ++ rest → EndsBehind tag x
  tag_ends tag x rest front = record {
    content = [];
    missing = rest ++ 0 ∷ [];
    some = omega (arith, length-append rest (0 ∷ []));
    is_element = (
      0 ∷ [],
      inl (omega arith, refl),
      sym (append_assoc x rest (0 ∷ [])) ∙ ap (λ y. y ++ 0 ∷ []) (sym front),
    );
  }

  from_cut : (tag x : List ℕ) → IsOctets x → from octets place tag x ≡ Err (Cut p)
      → (p ≡ place) × EndsBehind tag x
  from_cut tag x all e =
      elim (starts_with nat_eq x tag) as (λ b. starts_with nat_eq x tag ≡ b
      → (if b then content_at (outer octets place) (place + length tag) (drop (length tag) x)
      else if starts_with nat_eq tag x then Err (Cut place)
      else Err (WrongTag place (slice_index x 0))) ≡ Err (Cut p)
      → (p ≡ place) × EndsBehind tag x) [
        | true ↦ λ yes h.
            let cut = at_cut (place + length tag) (drop (length tag) x)
            (IsOctets-drop (length tag) x all) h in
            (cut.0, ends_behind tag x (drop (length tag) x) (front_of x tag yes) cut.1)
        | false ↦ λ one h. elim (if_cut (starts_with nat_eq tag x)
            (Err (WrongTag place (slice_index x 0))) h) [
              | inl here ↦ (
                here.0,
                tag_ends tag x (drop (length x) tag) (front_of tag x here.1),
              )
              | inr other ↦ absurd (tag_cut place (slice_index x 0) p other.1)
            ]
      ] refl e

  outer_cut : (tag : List ℕ) → IsOctets octets
      → next_content (outer octets place) tag ≡ Err (Cut p)
      → (p ≡ place) × EndsBehind tag (left (outer octets place))
  unfolding next_content
  outer_cut tag all e =
      from_cut tag (left (outer octets place))
      (IsOctets-take (length octets - place) (drop place octets) (IsOctets-drop place octets all)) e

-- ---- exactly there

found_there : (octets : List ℕ) (place : ℕ) (ends tag : List ℕ) (p : ℕ) → IsOctets octets
    → next_content (record { octets = octets; place = place; ends = ends }) tag ≡ Err (Cut p)
    → (ends ≡ []) × (p ≡ place)
    × EndsBehind tag (left (record { octets = octets; place = place; ends = ends }))
found_there octets place [] tag p all e =
    let cut = outer_cut octets place p tag all e in (refl, cut.0, cut.1)
found_there octets place (end ∷ ends) tag p all e =
    absurd (subst IsUncut e (entered_uncut octets place end ends tag))

cut_or_not : {A : Type 0} (r : Result A BerFault) → (IsUncut r → ⊥) → (p : ℕ) × (r ≡ Err (Cut p))
cut_or_not (Ok x) h = absurd (h tt)
cut_or_not (Err (Cut p)) h = (p, refl)
cut_or_not (Err (WrongTag place found)) h = absurd (h tt)
cut_or_not (Err (BadLength place)) h = absurd (h tt)
cut_or_not (Err (BadContent place)) h = absurd (h tt)
cut_or_not (Err (Wide place)) h = absurd (h tt)

-- an element that ends behind the input isn't found in it: with the missing octets it is, and ends
-- behind the input
not_found : (octets : List ℕ) (place : ℕ) (tag : List ℕ) → IsOctets octets → place ≤ length octets
    → EndsBehind tag (left (outer octets place))
    → IsUncut (next_content (outer octets place) tag) → ⊥
not_found octets place tag all within ends uncut =
    let x : List ℕ = left (outer octets place) in
    let view : View = longer ends.missing (outer octets place) in
    let left_is : left view ≡ x ++ ends.missing =
    take_rest (octets ++ ends.missing) place ∙ drop-append-le place octets ends.missing within
    ∙ ap (λ y. y ++ ends.missing) (sym (take_rest octets place)) in
    let stands = standing view tag ends.content (x ++ ends.missing) [] ends.is_element
    (left_is ∙ sym (append-nil (x ++ ends.missing))) (omega arith) in
    let start : ℕ = place + length (x ++ ends.missing) - length ends.content in
    let read = sym (found_stays (outer octets place) tag ends.missing within uncut)
    ∙ Stands-next_content view tag ends.content start stands in
    let found = next_content-Stands (outer octets place) tag ends.content start all read in
    omega (
      arith,
      ends.some,
      found.begins,
      stands.begins,
      length-append x ends.missing,
      ap length found.before_end,
      length-append found.spelled found.rest,
    )

here_cut : (octets : List ℕ) (place : ℕ) (ends tag : List ℕ) (p : ℕ) → IsOctets octets
    → IsInside place ends (length octets)
    → (ends ≡ []) × (p ≡ place)
    × EndsBehind tag (left (record { octets = octets; place = place; ends = ends }))
    → next_content (record { octets = octets; place = place; ends = ends }) tag ≡ Err (Cut p)
here_cut octets place [] tag p all within (none, here, ends) =
    let cut = cut_or_not (next_content (outer octets place) tag)
    (not_found octets place tag all within ends) in
    cut.1 ∙ ap (λ p. Err (Cut p))
    ((outer_cut octets place cut.0 tag all cut.1).0 ∙ sym here)
here_cut octets place (end ∷ ends) tag p all within (none, here, behind) = absurd cc

pub found_cut : (view : View) (tag : List ℕ) (place : ℕ) → IsOctets view.octets → IsWithin view
    → (next_content view tag ≡ Err (Cut place))
    ↔ ((view.ends ≡ []) × (place ≡ view.place) × EndsBehind tag (left view))
found_cut view tag place all within = (
  found_there view.octets view.place view.ends tag place all,
  here_cut view.octets view.place view.ends tag place all within,
)

-- ---- of a tree

and_uncut : {A B : Type 0} (r : Result A BerFault) (f : A → Result B BerFault) → IsUncut r
    → ((x : A) → r ≡ Ok x → IsUncut (f x)) → IsUncut (r >>= f)
and_uncut (Ok x) f h k = k x refl
and_uncut (Err fault) f h k = h

judged_uncut : (content : List ℕ) (view : View) (found : ℕ × List ℕ)
    → IsUncut (judged content view found)
judged_uncut content view found =
    and_uncut (exactly content found.0 found.1) _
    (if_uncut (pointwise nat_eq content found.1) _ _ tt tt) (λ x is. tt)

leave_uncut : (view : View) → IsUncut (left_behind view)
leave_uncut view =
    and_uncut (leave view) _ (if_uncut (view.place == end_of view) _ _ tt tt) (λ x is. tt)

mutual
  unfolding read_tree

  tree_uncut : (t : Tree) (octets : List ℕ) (place end : ℕ) (ends : List ℕ) → IsOctets octets
      → IsUncut (read_tree t (record { octets = octets; place = place; ends = end ∷ ends }))
  tree_uncut (primitive tag content) octets place end ends all =
      let view : View = record { octets = octets; place = place; ends = end ∷ ends } in
      rw (primitive_is tag content view)
      (and_uncut (next_content view tag) (judged content view)
      (entered_uncut octets place end ends tag) (λ found is. judged_uncut content view found))
  tree_uncut (constructed tag members) octets place end ends all =
      let view : View = record { octets = octets; place = place; ends = end ∷ ends } in
      rw (constructed_is tag members view)
      (and_uncut (next_content view tag)
      (λ found. within members (inside view found.0 found.1))
      (entered_uncut octets place end ends tag)
      (λ found is. and_uncut (read_trees members (inside view found.0 found.1)) left_behind
      (trees_uncut members octets found.0 (found.0 + length found.1) view.ends all)
      (λ after passed. leave_uncut after)))

  trees_uncut : (ts : Trees) (octets : List ℕ) (place end : ℕ) (ends : List ℕ) → IsOctets octets
      → IsUncut (read_trees ts (record { octets = octets; place = place; ends = end ∷ ends }))
  trees_uncut no_trees octets place end ends all = tt
  trees_uncut (tree_and t ts) octets place end ends all =
      let view : View = record { octets = octets; place = place; ends = end ∷ ends } in
      and_uncut (read_tree t view) (read_trees ts) (tree_uncut t octets place end ends all)
      (λ after is.
      let passed = read_tree-ok t view after all is in
      subst (λ after. IsUncut (read_trees ts after)) (sym passed.moved)
      (trees_uncut ts octets (place + length passed.spelled) end ends all))

within_uncut : (members : Trees) (view : View) (found : ℕ × List ℕ) → IsOctets view.octets
    → IsUncut (within members (inside view found.0 found.1))
within_uncut members view found all =
    and_uncut (read_trees members (inside view found.0 found.1)) left_behind
    (trees_uncut members view.octets found.0 (found.0 + length found.1) view.ends all)
    (λ after is. leave_uncut after)

first_cut : {A B : Type 0} (r : Result A BerFault) (f : A → Result B BerFault) (p : ℕ)
    → ((x : A) → r ≡ Ok x → IsUncut (f x)) → (r >>= f) ≡ Err (Cut p) → r ≡ Err (Cut p)
first_cut (Ok x) f p h e = absurd (subst IsUncut e (h x refl))
first_cut (Err fault) f p h e = cc

-- a tree is cut where its outermost element is
outermost : (t : Tree) (view : View) (p : ℕ) → IsOctets view.octets
    → (read_tree t view ≡ Err (Cut p)) ↔ (next_content view (tag_of t) ≡ Err (Cut p))
outermost (primitive tag content) view p all =
    rw (primitive_is tag content view) (
      first_cut (next_content view tag) (judged content view) p
          (λ found is. judged_uncut content view found),
      λ e. rw e refl,
    )
outermost (constructed tag members) view p all =
    rw (constructed_is tag members view) (
      first_cut (next_content view tag)
          (λ found. within members (inside view found.0 found.1)) p
          (λ found is. within_uncut members view found all),
      λ e. rw e refl,
    )

pub tree_cut : (t : Tree) (octets : List ℕ) (place : ℕ) → IsOctets octets
    → (read_tree t (view_before octets) ≡ Err (Cut place))
    ↔ ((place ≡ 0) × EndsBehind (tag_of t) octets)
tree_cut t octets place all =
    let view : View = view_before octets in
    let element = outermost t view place all in
    let found = found_cut view (tag_of t) place all (omega arith) in
    let whole : left view ≡ octets = take_rest octets 0 in (
      λ e. let is = found.0 (element.0 e) in
          (is.1, subst (EndsBehind (tag_of t)) whole is.2),
      λ is. element.1
          (found.1 (refl, is.0, subst (EndsBehind (tag_of t)) (sym whole) is.1)),
    )
