-- Lists with one entry more, and with one entry less.
use Rattle.std.proofs.Common.{◌≡◌, ◌∙◌, ℕ, ◌+◌, ◌-◌, ◌<◌, Bool, true, false, cond, List, [], ◌∷◌}
use Rattle.std.proofs.Common.{◌++◌, length, take, ◌==◌, ◌&&◌, refl, arith, sym, ap}
use Rattle.std.proofs.Common.{append-nil, append_assoc, Option, Some, None, subst, map, get_or, suc}
use Rattle.std.proofs.Common.{zero}
use Rattle.std.specs.Prelude.{Result, Ok, Err, OnOk, OnErr}
use Rattle.std.specs.Option.{option_or, unwrap_or}
use Rattle.cds_time.specs.Moment.{moment_of}
use Rattle.cds_time.specs.declared.cds.Cds.{Cds}
use Rattle.record_form.specs.declared.entry.Entry as forms
use Rattle.record_form.specs.Entry.{entry_of, entries_of}
use Rattle.std.specs.List.{sum_by}
use Rattle.archive_terms.specs.Archive.{Entry, Frame, frame, seal}
use Rattle.archive_terms.specs.Selection.{Filter, by_quality, by_channel, channel_of, is_notice}
use Rattle.archive_terms.specs.Continuity.{lost_of}
use Rattle.archive_index.specs.Rows.{rows_of, passes, is_seal, row_at, IsThrough, moment_in}
use Rattle.archive_index.specs.Keys.{id_of_key, list_of}
use Rattle.archive_index.specs.IndexState.{Lists, Sorts, AreSame, AddsFrame, TakesFrame, is_for}
use Rattle.archive_index.specs.declared.row.Row.{Row}
use Rattle.archive_index.proofs.RowsOf.{rows-push, row_below}
use Rattle.archive_index.proofs.Through.{through_if, through_less, take_last}

pub sorts_same : (old new : Lists) (entries : List Entry) → AreSame old new → Sorts old entries
    → Sorts new entries
sorts_same old new entries same sorts = record {
  frames = same.frames ∙ sorts.frames;
  good = rw (same.frames, same.good) sorts.good;
  erred = rw (same.frames, same.erred) sorts.erred;
  channels = λ k. rw (same.frames, same.channels k) (sorts.channels k);
  seals = same.seals ∙ sorts.seals;
  notices = same.notices ∙ sorts.notices;
}

-- the row of an entry behind others
abbrev pub last_row : List Entry → Entry → Row
last_row entries e = row_at (length entries) (sum_by lost_of entries + lost_of e) e

-- the rows with one entry more
pub one_more : (fits : Entry → Bool) (entries : List Entry) (e : Entry)
    → rows_of fits (entries ++ e ∷ [])
    ≡ rows_of fits entries ++ cond (fits e) (last_row entries e ∷ []) []
one_more fits entries e =
    let place : 0 + length entries ≡ length entries = omega arith in
    let through : 0 + sum_by lost_of entries + lost_of e ≡ sum_by lost_of entries + lost_of e =
    omega arith in
    rows-push fits 0 0 entries e ∙ rw (place, through) refl

unchanged : (fits : Entry → Bool) (entries : List Entry) (e : Entry) → fits e ≡ false
    → rows_of fits (entries ++ e ∷ []) ≡ rows_of fits entries
unchanged fits entries e misses = one_more fits entries e ∙ rw misses (append-nil (rows_of fits entries))

appended : (fits : Entry → Bool) (entries : List Entry) (e : Entry) → fits e ≡ true
    → rows_of fits (entries ++ e ∷ []) ≡ rows_of fits entries ++ last_row entries e ∷ []
appended fits entries e is_so = one_more fits entries e ∙ rw is_so refl

named_more : (fits : Entry → Bool) (frames : List Row) (numbers : List ℕ) (entries : List Entry)
    (e : Entry) (more : List ℕ) (longer : List Row) (test : Bool)
    → IsThrough frames numbers (rows_of fits entries)
    → longer ≡ frames ++ last_row entries e ∷ [] → fits e ≡ test
    → more ≡ cond test (numbers ++ length frames ∷ []) numbers
    → IsThrough longer more (rows_of fits (entries ++ e ∷ []))
named_more fits frames numbers entries e more longer test through is same is_more =
    rw (is, is_more, one_more fits entries e, same)
    (through_if test frames numbers (rows_of fits entries) (last_row entries e) through)

pub sorts_frame : (old new : Lists) (entries : List Entry) (f : Frame) (row : Row)
    → AddsFrame old new row f.quality (channel_of f.octets) → row ≡ last_row entries (frame f)
    → Sorts old entries → Sorts new (entries ++ frame f ∷ [])
sorts_frame old new entries f row adds is sorts =
    let longer : new.frames ≡ old.frames ++ last_row entries (frame f) ∷ [] = adds.frames ∙ rw is refl in
    record {
      frames = longer ∙ rw sorts.frames (sym (appended (passes (by_quality 2)) entries (frame f) refl));
      good = named_more (passes (by_quality 0)) old.frames old.good entries (frame f) new.good new.frames
          (f.quality == 0) sorts.good longer refl adds.numbers.good;
      erred = named_more (passes (by_quality 1)) old.frames old.erred entries (frame f) new.erred
          new.frames (f.quality == 1) sorts.erred longer refl adds.numbers.erred;
      channels = λ k. named_more (passes (by_channel (id_of_key k))) old.frames
          (list_of old.channels k) entries (frame f) (list_of new.channels k) new.frames
          (f.quality == 0 && is_for k (channel_of f.octets)) (sorts.channels k) longer refl
          (adds.numbers.channels k);
      seals = adds.seals ∙ sorts.seals ∙ sym (unchanged is_seal entries (frame f) refl);
      notices = adds.notices ∙ sorts.notices ∙ sym (unchanged is_notice entries (frame f) refl);
    }

-- an entry that is no frame
pub sorts_other : (old new : Lists) (entries : List Entry) (e : Entry)
    → ((f : Filter) → passes f e ≡ false)
    → new ≡ record old {
      seals = old.seals ++ cond (is_seal e) (last_row entries e ∷ []) [];
      notices = old.notices ++ cond (is_notice e) (last_row entries e ∷ []) [];
    } → Sorts old entries → Sorts new (entries ++ e ∷ [])
sorts_other old new entries e none is sorts = rw is (record {
  frames = sorts.frames ∙ sym (unchanged (passes (by_quality 2)) entries e (none (by_quality 2)));
  good = rw (unchanged (passes (by_quality 0)) entries e (none (by_quality 0))) sorts.good;
  erred = rw (unchanged (passes (by_quality 1)) entries e (none (by_quality 1))) sorts.erred;
  channels = λ k. rw (unchanged (passes (by_channel (id_of_key k))) entries e
      (none (by_channel (id_of_key k)))) (sorts.channels k);
  seals = ap (λ xs. xs ++ cond (is_seal e) (last_row entries e ∷ []) []) sorts.seals
      ∙ sym (one_more is_seal entries e);
  notices = ap (λ xs. xs ++ cond (is_notice e) (last_row entries e ∷ []) []) sorts.notices
      ∙ sym (one_more is_notice entries e);
})

-- ---- one entry less

named_less : (fits : Entry → Bool) (rows : List Row) (numbers : List ℕ) (entries : List Entry)
    (e : Entry) (fewer : List ℕ) (frames shorter : List Row) (test : Bool)
    → IsThrough frames numbers (rows_of fits (entries ++ e ∷ []))
    → frames ≡ rows ++ last_row entries e ∷ [] → shorter ≡ rows → fits e ≡ test
    → fewer ≡ cond test (take (length numbers - 1) numbers) numbers
    → IsThrough shorter fewer (rows_of fits entries)
named_less fits rows numbers entries e fewer frames shorter test through is short same is_fewer =
    rw (short, is_fewer) (through_less test rows (last_row entries e) numbers (rows_of fits entries)
    (λ k r at. row_below fits entries k r at) (rw (is, one_more fits entries e, same) at through))

pub sorts_back : (old new : Lists) (entries : List Entry) (f : Frame)
    → TakesFrame old new f.quality (channel_of f.octets)
    → Sorts old (entries ++ frame f ∷ []) → Sorts new entries
sorts_back old new entries f takes sorts =
    let rows = rows_of (passes (by_quality 2)) entries in
    let all : old.frames ≡ rows ++ last_row entries (frame f) ∷ [] =
    sorts.frames ∙ appended (passes (by_quality 2)) entries (frame f) refl in
    let short : new.frames ≡ rows = takes.frames
    ∙ rw all (take_last rows (last_row entries (frame f))) in
    record {
      frames = short;
      good = named_less (passes (by_quality 0)) rows old.good entries (frame f) new.good old.frames
          new.frames (f.quality == 0) sorts.good all short refl takes.good;
      erred = named_less (passes (by_quality 1)) rows old.erred entries (frame f) new.erred old.frames
          new.frames (f.quality == 1) sorts.erred all short refl takes.erred;
      channels = λ k. named_less (passes (by_channel (id_of_key k))) rows (list_of old.channels k)
          entries (frame f) (list_of new.channels k) old.frames new.frames
          (f.quality == 0 && is_for k (channel_of f.octets)) (sorts.channels k) all short refl
          (takes.channels k);
      seals = takes.seals ∙ sorts.seals ∙ unchanged is_seal entries (frame f) refl;
      notices = takes.notices ∙ sorts.notices ∙ unchanged is_notice entries (frame f) refl;
    }

pub sorts_back_other : (old new : Lists) (entries : List Entry) (e : Entry)
    → ((f : Filter) → passes f e ≡ false)
    → new ≡ record old {
      seals = cond (is_seal e) (take (length old.seals - 1) old.seals) old.seals;
      notices = cond (is_notice e) (take (length old.notices - 1) old.notices) old.notices;
    } → Sorts old (entries ++ e ∷ []) → Sorts new entries
sorts_back_other old new entries e none is sorts = rw is (record {
  frames = sorts.frames ∙ unchanged (passes (by_quality 2)) entries e (none (by_quality 2));
  good = rw (unchanged (passes (by_quality 0)) entries e (none (by_quality 0))) at sorts.good;
  erred = rw (unchanged (passes (by_quality 1)) entries e (none (by_quality 1))) at sorts.erred;
  channels = λ k. rw (unchanged (passes (by_channel (id_of_key k))) entries e
      (none (by_channel (id_of_key k)))) at (sorts.channels k);
  seals = back (is_seal e) old.seals (rows_of is_seal entries) (last_row entries e)
      (sorts.seals ∙ one_more is_seal entries e);
  notices = back (is_notice e) old.notices (rows_of is_notice entries) (last_row entries e)
      (sorts.notices ∙ one_more is_notice entries e);
})
  where
    back : (test : Bool) (all rows : List Row) (row : Row) → all ≡ rows ++ cond test (row ∷ []) []
        → cond test (take (length all - 1) all) all ≡ rows
    back true all rows row is = rw is (take_last rows row)
    back false all rows row is = is ∙ append-nil rows

-- ---- by what a call answered

alone : (time : Option ℕ) → option_or time None ≡ time
alone None = refl
alone (Some t) = refl

abbrev pub Grows : {T E : Type 0} → Result T E → Lists → Lists → Entry → ℕ → ℕ → Type 0
Grows r old new e place lost = OnOk r ((entries : List Entry) → Sorts old entries
    → place ≡ length entries → lost ≡ sum_by lost_of entries + lost_of e
    → Sorts new (entries ++ e ∷ []))

pub on_frame : {T E : Type 0} → (r : Result T E) (old new : Lists) (f : Frame) (row : Row)
    (place lost : ℕ)
    → OnOk r (AddsFrame old new row f.quality (channel_of f.octets))
    → row ≡ record { place = place; moment = unwrap_or (moment_of f.ert) 0; lost = lost }
    → Grows r old new (frame f) place lost
on_frame (Ok x) old new f row place lost adds is = λ entries sorts at through.
    sorts_frame old new entries f row adds
    (is ∙ rw (at, through, alone (moment_of f.ert)) refl) sorts
on_frame (Err x) old new f row place lost adds is = tt

pub on_notice : {T E : Type 0} → (r : Result T E) (old : Lists) (list : List Row) (e : Entry)
    (row : Row) (place lost : ℕ)
    → OnOk r (list ≡ old.notices ++ row ∷ [])
    → row ≡ record { place = place; moment = moment_in e; lost = lost }
    → ((f : Filter) → passes f e ≡ false) → is_seal e ≡ false → is_notice e ≡ true
    → Grows r old (record old { notices = list }) e place lost
on_notice (Ok x) old list e row place lost puts is none unsealed told = λ entries sorts at through.
    let same : row ≡ last_row entries e = is ∙ rw (at, through) refl in
    sorts_other old (record old { notices = list }) entries e none
    (rw (puts, same, unsealed, told, append-nil) refl) sorts
on_notice (Err x) old list e row place lost puts is none unsealed told = tt

pub on_seal : {T E : Type 0} → (r : Result T E) (old : Lists) (list : List Row) (at : Cds)
    (row : Row) (place lost : ℕ)
    → OnOk r (list ≡ old.seals ++ row ∷ [])
    → row ≡ record { place = place; moment = unwrap_or (moment_of at) 0; lost = lost }
    → Grows r old (record old { seals = list }) (seal at) place lost
on_seal (Ok x) old list time row place lost puts is = λ entries sorts at through.
    let same : row ≡ last_row entries (seal time) = is ∙ rw (at, through) refl in
    sorts_other old (record old { seals = list }) entries (seal time) (λ f. refl)
    (rw (puts, same, append-nil) refl) sorts
on_seal (Err x) old list time row place lost puts is = tt

-- a list with one element more, seen through a function
pub taken_one : {X Y : Type 0} → (f : X → Y) (xs : List X) (n : ℕ) (x : X) → n < length xs
    → x ≡ get_or xs n x → map f (take (suc n) xs) ≡ map f (take n xs) ++ f x ∷ []
taken_one f [] n x below is = absurd (omega arith)
taken_one f (y ∷ xs) zero x below is = let same : x ≡ y = is in rw same refl
taken_one f (y ∷ xs) (suc n) x below is =
    ap (λ ys. f y ∷ ys) (taken_one f xs n x (omega arith) is)

pub one_back : (old new : Lists) (entries : List Entry) (added : List forms.Entry) (left n : ℕ)
    (x : forms.Entry)
    → ((entries : List Entry) → Sorts old (entries ++ entry_of x ∷ []) → Sorts new entries)
    → left ≡ suc n → n < length added → x ≡ get_or added n x
    → Sorts old (entries ++ entries_of (take left added))
    → Sorts new (entries ++ entries_of (take n added))
one_back old new entries added left n x back is below at sorts =
    let one = taken_one entry_of added n x below at in
    let whole : entries ++ entries_of (take left added)
    ≡ (entries ++ entries_of (take n added)) ++ entry_of x ∷ [] =
    rw (is, one) (sym (append_assoc entries (entries_of (take n added)) (entry_of x ∷ []))) in
    back (entries ++ entries_of (take n added)) (subst (Sorts old) whole sorts)

pub on_err : {T E : Type 0} → {P : Type 0} → (r : Result T E) → P → OnErr r P
on_err (Ok x) holds = tt
on_err (Err x) holds = holds
