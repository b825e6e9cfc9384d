-- A file stands for one list at most.
use Rattle.std.proofs.Common.{◌≡◌, ◌≢◌, ℕ, ◌+◌, true}
use Rattle.std.proofs.Common.{List, [], ◌∷◌, ◌++◌, length, take, drop, slice_index, IsTrue}
use Rattle.std.proofs.Common.{refl, sym, ap, ◌∙◌, arith, append_assoc}
use Rattle.std.specs.List.{AllByRecursion, list_all}
use Rattle.std.specs.Int.{w16, w32, to_be_bytes, from_be_bytes}
use Rattle.std.proofs.lemmas.Bool.{and_parts}
use Rattle.std.proofs.lemmas.List.{append-nil, length-append}
use Rattle.std.proofs.lemmas.List.Concat.{flat_map-cons}
use Rattle.std.proofs.lemmas.Nat.{from_be_bytes-to_be_bytes_2}
use Rattle.archive_terms.specs.Archive.{Entry, is_storable}
use Rattle.record_form.specs.Spelling.{entry_octets}
use Rattle.record_form.specs.Reading.{ReadBack}
use Rattle.gate_journal.specs.File.{header, entries_octets, batch_octets, IsBatch, gated}
use Rattle.gate_journal.specs.File.{StandsAt}

pub head_of : {x y : ℕ} {xs ys : List ℕ} → x ∷ xs ≡ y ∷ ys → x ≡ y
head_of same = ap (λ (l : List ℕ). slice_index l 0) same

pub tail_of : {x y : ℕ} {xs ys : List ℕ} → x ∷ xs ≡ y ∷ ys → xs ≡ ys
tail_of same = ap (λ (l : List ℕ). drop 1 l) same

same_entry : ReadBack → (e f : Entry) (x y : List ℕ) → IsTrue (is_storable e)
    → IsTrue (is_storable f) → entry_octets e ++ x ≡ entry_octets f ++ y → e ≡ f
same_entry law e f x y first second same =
    let pairs : ◌≡◌ {A = Entry × ℕ} (e, length (entry_octets e)) (f, length (entry_octets f)) =
    cc (law e x first, law f y second, same) in
    ap (λ (p : Entry × ℕ). p.0) pairs

pub same_rest : (front x y : List ℕ) → front ++ x ≡ front ++ y → x ≡ y
same_rest [] x y same = same
same_rest (_ ∷ front) x y same = same_rest front x y (tail_of same)

pub regroup : (e : Entry) (es : List Entry) (x : List ℕ)
    → entries_octets (e ∷ es) ++ x ≡ entry_octets e ++ (entries_octets es ++ x)
regroup e es x = simp (flat_map-cons, append_assoc)

pub entries_longer : (e : Entry) (es : List Entry)
    → length (entries_octets (e ∷ es)) ≡ length (entry_octets e) + length (entries_octets es)
entries_longer e es = simp (flat_map-cons, length-append)

same_entries : ReadBack → (a b : List Entry) (x y : List ℕ) → length a ≡ length b
    → list_all is_storable a ≡ true → list_all is_storable b ≡ true
    → entries_octets a ++ x ≡ entries_octets b ++ y → (a ≡ b) × (x ≡ y)
same_entries law [] [] x y size first second same = (refl, same)
same_entries law [] (f ∷ b) x y size first second same = absurd (omega (arith, size))
same_entries law (e ∷ a) [] x y size first second same = absurd (omega (arith, size))
same_entries law (e ∷ a) (f ∷ b) x y size first second same =
    let one = and_parts _ _ first in
    let other = and_parts _ _ second in
    let split = sym (regroup e a x) ∙ same ∙ regroup f b y in
    let head = same_entry law e f _ _ one.0 other.0 split in
    let rest = same_entries law a b x y (omega (arith, size)) one.1 other.1
    (same_rest (entry_octets f) _ _ (rw head at split)) in
    (cc (rest.0, head), rest.1)

pub in_front : (batch : List Entry) (x : List ℕ)
    → batch_octets batch ++ x ≡ to_be_bytes w32 (length (entries_octets batch))
    ++ (to_be_bytes w16 (length batch) ++ (entries_octets batch ++ x))
in_front batch x = simp append_assoc

pub same_batch : ReadBack → (a b : List Entry) (x y : List ℕ) → IsBatch a → IsBatch b
    → batch_octets a ++ x ≡ batch_octets b ++ y → (a ≡ b) × (x ≡ y)
same_batch law a b x y first second same =
    let behind = ap (drop 4) (sym (in_front a x) ∙ same ∙ in_front b y) in
    let count : length a ≡ length b =
    sym (from_be_bytes-to_be_bytes_2 (length a) (omega (arith, first.most)))
    ∙ ap (λ (l : List ℕ). from_be_bytes w16 (take 2 l)) behind
    ∙ from_be_bytes-to_be_bytes_2 (length b) (omega (arith, second.most)) in
    same_entries law a b x y count first.storable second.storable (ap (drop 2) behind)

-- these batches follow others, and these octets the others' octets
pub record Follows (led whole : List (List Entry)) (rest behind : List ℕ) : Type 0 where
  pub more : List (List Entry)
  pub batches : whole ≡ led ++ more
  pub octets : rest ≡ gated more ++ behind
  pub each : AllByRecursion IsBatch more

-- batches at the front of octets begin all batches up to a gate that isn't open
pub follows_led : ReadBack → (led whole : List (List Entry)) (rest past : List ℕ) (shut : ℕ)
    → AllByRecursion IsBatch led → AllByRecursion IsBatch whole → shut ≢ 165
    → gated led ++ rest ≡ gated whole ++ shut ∷ past → Follows led whole rest (shut ∷ past)
follows_led law [] whole rest past shut first second closed same =
    record { more = whole; batches = refl; octets = same; each = second }
follows_led law (x ∷ xs) [] rest past shut first second closed same =
    absurd (closed (sym (head_of same)))
follows_led law (x ∷ xs) (y ∷ ys) rest past shut first second closed same =
    let found = same_batch law x y _ _ first.0 second.0 (simp append_assoc at (tail_of same)) in
    let later = follows_led law xs ys rest past shut first.1 second.1 closed found.1 in record {
      more = later.more;
      batches = cc (later.batches, found.0);
      octets = later.octets;
      each = later.each;
    }

nothing_more : (more : List (List Entry)) (gate : ℕ) (rest behind : List ℕ) → gate ≢ 165
    → gate ∷ rest ≡ gated more ++ behind → more ≡ []
nothing_more [] gate rest behind closed same = refl
nothing_more (b ∷ bs) gate rest behind closed same = absurd (closed (head_of same))

-- the list, and the place of the gate behind it
pub stands_for_one : ReadBack → (one other : List Entry) (place there : ℕ) (file : List ℕ)
    → StandsAt one place file → StandsAt other there file → (one ≡ other) × (place ≡ there)
stands_for_one law one other place there file first second =
    let follows = follows_led law _ _ _ _ _ first.leads.each second.leads.each second.shut
    (same_rest header _ _ (sym first.is ∙ second.is)) in
    let none = nothing_more follows.more _ _ _ first.shut follows.octets in
    let same : first.batches ≡ second.batches =
    cc (follows.batches, none, append-nil first.batches) in (
      cc (first.leads.entries_are, same, second.leads.entries_are),
      cc (first.leads.there, same, second.leads.there),
    )
