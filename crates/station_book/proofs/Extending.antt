-- Entries that are put behind others one by one.
use Rattle.std.proofs.Common.{◌≡◌, ℕ, ◌+◌, ◌<◌, get_or, drop, add-one, true, false, ◌&&◌, List, []}
use Rattle.std.proofs.Common.{◌∷◌, ◌++◌, take, length, refl, ap, sym, subst, ◌∙◌, append_assoc}
use Rattle.std.proofs.Common.{append-nil}
use Rattle.std.specs.Prelude.{Result, Ok, Err, OnOk, OnErr}
use Rattle.std.specs.Result.{is_err}
use Rattle.std.proofs.lemmas.List.{map-append, take-append-drop}
use Rattle.std.proofs.Math.Seq.{drop-cons, take-append_seam}
use Rattle.archive_terms.specs.Archive.{is_archive, IsArchive, may_follow}
use Rattle.archive_terms.specs.Archive as terms
use Rattle.archive_index.specs.IndexState.{IndexState, Indexes}
use Rattle.record_form.specs.Entry.{entry_of, entries_of}
use Rattle.record_form.specs.declared.entry.Entry.{Entry}

-- so far these of the entries stand behind the old ones
pub record Extending (old : List Entry) (done : List Entry) (index : IndexState)
    (held : List Entry) : Type 0 where
  pub held_is : held ≡ old ++ done
  pub indexed : Indexes index (entries_of held)
  pub archive : IsArchive (entries_of held)

pub extending_none : (old : List Entry) (index : IndexState) → Indexes index (entries_of old)
    → IsArchive (entries_of old) → Extending old [] index old
extending_none old index indexed archive = record {
  held_is = sym (append-nil old);
  indexed = indexed;
  archive = archive;
}

-- an archive goes on with an entry that may follow it, and with no other
abbrev pub Grows : Type 0
Grows = (a : List terms.Entry) (e : terms.Entry)
    → is_archive (a ++ e ∷ []) ≡ (is_archive a && may_follow a e)

pub extending_more : Grows → (old done : List Entry) (e : Entry) (index more : IndexState)
    (held longer : List Entry)
    → Extending old done index held → may_follow (entries_of held) (entry_of e) ≡ true
    → longer ≡ held ++ e ∷ [] → Indexes more (entries_of held ++ entry_of e ∷ [])
    → Extending old (done ++ e ∷ []) more longer
extending_more grows old done e index more held longer so follows is indexed =
    let whole : entries_of longer ≡ entries_of held ++ entry_of e ∷ [] = ap entries_of is
    ∙ map-append entry_of held (e ∷ []) in
    let both : is_archive (entries_of held ++ entry_of e ∷ []) ≡ true =
    grows (entries_of held) (entry_of e) ∙ cc (so.archive, follows, and_true) in
    record {
      held_is = is ∙ ap (λ xs. xs ++ e ∷ []) so.held_is ∙ append_assoc old done (e ∷ []);
      indexed = subst (λ xs. Indexes more xs) (sym whole) indexed;
      archive = subst (λ xs. IsArchive xs) (sym whole) both;
    }
  where
    and_true : (true && true) ≡ true
    and_true = refl

-- what is no archive is none with anything behind it
none_stays : Grows → (xs ys : List terms.Entry) → is_archive xs ≡ false
    → is_archive (xs ++ ys) ≡ false
none_stays grows xs [] none = ap is_archive (append-nil xs) ∙ none
none_stays grows xs (y ∷ ys) none =
    let next : is_archive (xs ++ y ∷ []) ≡ false = grows xs y
    ∙ ap (λ b. b && may_follow xs y) none in
    ap is_archive (sym (append_assoc xs (y ∷ []) ys)) ∙ none_stays grows (xs ++ y ∷ []) ys next

-- an entry that may not follow makes no archive, whatever stands behind it
pub foreign_entry : Grows → (old done rest : List Entry) (e : Entry) (index : IndexState)
    (held : List Entry)
    → Extending old done index held → may_follow (entries_of held) (entry_of e) ≡ false
    → is_archive (entries_of old ++ entries_of (done ++ e ∷ rest)) ≡ false
foreign_entry grows old done rest e index held so refused =
    let here : is_archive (entries_of held ++ entry_of e ∷ []) ≡ false =
    grows (entries_of held) (entry_of e) ∙ cc (so.archive, refused, and_false) in
    let all : entries_of old ++ entries_of (done ++ e ∷ rest)
    ≡ (entries_of held ++ entry_of e ∷ []) ++ entries_of rest =
    ap (λ xs. entries_of old ++ xs) (map-append entry_of done (e ∷ rest))
    ∙ sym (append_assoc (entries_of old) (entries_of done) (entries_of (e ∷ rest)))
    ∙ ap (λ xs. xs ++ entries_of (e ∷ rest)) (sym (map-append entry_of old done)
    ∙ ap entries_of (sym so.held_is))
    ∙ sym (append_assoc (entries_of held) (entry_of e ∷ []) (entries_of rest)) in
    ap is_archive all ∙ none_stays grows (entries_of held ++ entry_of e ∷ []) (entries_of rest) here
  where
    and_false : (true && false) ≡ false
    and_false = refl

-- a list around one of its items
pub taken_apart : {A : Type 0} (xs : List A) (i : ℕ) (x : A) → i < length xs → x ≡ get_or xs i x
    → take i xs ++ x ∷ drop (i + 1) xs ≡ xs
taken_apart xs i x below is =
    let item : get_or xs i x ∷ drop (i + 1) xs ≡ drop i xs =
    rw (add-one) (sym (drop-cons xs i x below)) in
    ap (λ y. take i xs ++ y ∷ drop (i + 1) xs) is ∙ ap (λ ys. take i xs ++ ys) item
    ∙ take-append-drop i xs

-- what holds of each answer of a kind holds of this one
pub failed : {T E : Type 0} (r : Result T E) (P : Type 0) → is_err r ≡ true → OnErr r P → P
failed (Ok x) P is fact = cc
failed (Err e) P is fact = fact

pub passed : {T E : Type 0} (r : Result T E) (P : Type 0) → is_err r ≡ false → OnOk r P → P
passed (Ok x) P is fact = fact
passed (Err e) P is fact = cc

-- the entries before those that were put behind them
pub taken_back : (old put longer shorter : List Entry) (count : ℕ) → longer ≡ old ++ put
    → count ≡ length old → shorter ≡ take count longer → shorter ≡ old
taken_back old put longer shorter count is counted cut =
    cut ∙ ap (λ n. take n longer) counted ∙ ap (λ xs. take (length old) xs) is
    ∙ take-append_seam old put

-- the index of both is that of their values
pub index_of_both : (old put longer : List Entry) (index : IndexState) → longer ≡ old ++ put
    → Indexes index (entries_of longer) → Indexes index (entries_of old ++ entries_of put)
index_of_both old put longer index is indexed =
    subst (λ xs. Indexes index xs) (ap entries_of is ∙ map-append entry_of old put) indexed
