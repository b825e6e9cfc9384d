-- No list of an index is longer than the entries.
use Rattle.std.proofs.Common.{◌≡◌, ℕ, ◌≤◌, Bool, List, [], ◌∷◌, length, arith, ap, subst, refl, Some}
use Rattle.std.proofs.Common.{None}
use Rattle.std.specs.Option.{unwrap_or}
use Rattle.std.specs.BTreeMap.{get}
use Rattle.archive_index.specs.Keys.{key_cmp, id_of_key, list_of}
use Rattle.archive_index.specs.declared.channels.Key.{Key}
use Rattle.archive_terms.specs.Archive.{Entry}
use Rattle.archive_terms.specs.Selection.{by_quality, by_channel, is_notice, ChannelId}
use Rattle.archive_index.specs.Rows.{rows_of, passes, is_seal, IsThrough, IsFirstFrom}
use Rattle.archive_index.specs.IndexState.{IndexState, Indexes}
use Rattle.archive_index.specs.declared.row.Row.{Row}
use Rattle.archive_index.proofs.RowsOf.{rows_short}
use Rattle.archive_index.proofs.Through.{through_long}

pub short_frames : (index : IndexState) (entries : List Entry) → Indexes index entries
    → length index.frames ≤ length entries
short_frames index entries is =
    rw is.sorts.frames (rows_short (passes (by_quality 2)) 0 0 entries)

pub short_seals : (index : IndexState) (entries : List Entry) → Indexes index entries
    → length index.seals ≤ length entries
short_seals index entries is = rw is.sorts.seals (rows_short is_seal 0 0 entries)

pub short_notices : (index : IndexState) (entries : List Entry) → Indexes index entries
    → length index.notices ≤ length entries
short_notices index entries is = rw is.sorts.notices (rows_short is_notice 0 0 entries)

pub short_named : (fits : Entry → Bool) (frames : List Row) (numbers : List ℕ)
    (entries : List Entry) → IsThrough frames numbers (rows_of fits entries)
    → length numbers ≤ length entries
short_named fits frames numbers entries through =
    let long = through_long frames numbers (rows_of fits entries) through in
    let short = rows_short fits 0 0 entries in
    omega (arith, long, short)

-- ---- the list of a channel

pub channel_through : (index : IndexState) (entries : List Entry) (k : Key) (id : ChannelId)
    (numbers : List ℕ) → Indexes index entries → id_of_key k ≡ id
    → get key_cmp index.channels k ≡ Some numbers
    → IsThrough index.frames numbers (rows_of (passes (by_channel id)) entries)
channel_through index entries k id numbers is same there =
    let found : list_of index.channels k ≡ numbers = ap (λ o. unwrap_or o []) there in
    subst (λ i. IsThrough index.frames numbers (rows_of (passes (by_channel i)) entries)) same
    (subst (λ xs. IsThrough index.frames xs (rows_of (passes (by_channel (id_of_key k))) entries)) found
    (is.sorts.channels k))

none_named : (rows named : List Row) → IsThrough rows [] named → named ≡ []
none_named rows [] through = refl
none_named rows (r ∷ named) through = cc

pub channel_none : (index : IndexState) (entries : List Entry) (k : Key) (id : ChannelId)
    → Indexes index entries → id_of_key k ≡ id → get key_cmp index.channels k ≡ None
    → rows_of (passes (by_channel id)) entries ≡ []
channel_none index entries k id is same there =
    let found : list_of index.channels k ≡ [] = ap (λ o. unwrap_or o []) there in
    let through = subst
    (λ xs. IsThrough index.frames xs (rows_of (passes (by_channel (id_of_key k))) entries)) found
    (is.sorts.channels k) in
    subst (λ i. rows_of (passes (by_channel i)) entries ≡ []) same
    (none_named index.frames (rows_of (passes (by_channel (id_of_key k))) entries) through)

pub first_of_none : (place moment : ℕ) (rows : List Row) → rows ≡ []
    → IsFirstFrom place moment rows 0
first_of_none place moment rows none = rw none (record {
  before = λ k r below at. cc;
  behind = λ k r above at. cc;
})
