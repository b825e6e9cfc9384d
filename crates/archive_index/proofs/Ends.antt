-- What totals decide of a stop and of the order of times, and that statuses are small.
use Rattle.std.proofs.Common.{◌≡◌, ℕ, ◌-◌, ◌≤◌, Bool, true, false, ◌&&◌, ◌||◌, nat_lt, nat_le}
use Rattle.std.proofs.Common.{List, [], ◌∷◌, ◌++◌, arith, refl, ap}
use Rattle.std.specs.List.{fold, list_any, list_all}
use Rattle.std.proofs.lemmas.Bool.{and_parts}
use Rattle.std.proofs.lemmas.Bool.Decides.{nat_tests}
use Rattle.std.proofs.lemmas.List.Sums.{fold-append, sum_by-append}
use Rattle.archive_terms.specs.Archive.{Entry, frame_time, seal_time, closes, keeps_order, frame}
use Rattle.archive_terms.specs.Archive.{loss_of_sync, production, seal, is_storable, is_ordered}
use Rattle.archive_terms.specs.Archive.{IsArchive, is_moment}
use Rattle.archive_terms.specs.Selection.{Selection, is_stop_closed}
use Rattle.archive_terms.specs.Glimpse.{Locks, locks, locks_after, all_locks, production_after}
use Rattle.archive_terms.specs.Glimpse.{production_status}
use Rattle.archive_index.specs.IndexState.{end_with, totals_of, has_closed, Totals, is_in_order}
use Rattle.archive_index.specs.IndexState.{totals_with, totals_seen}
use Rattle.archive_index.specs.declared.totals.Totals as code

-- ---- behind entries with these first moments above their times

closed_behind : (stop frames seals : ℕ) (entries : List Entry)
    → (nat_lt stop (fold (end_with frame_time) frames entries - 1)
    || nat_lt stop (fold (end_with seal_time) seals entries))
    ≡ ((nat_lt stop (frames - 1) || nat_lt stop seals) || list_any (closes stop) entries)
closed_behind stop frames seals [] = grind arith
closed_behind stop frames seals (e ∷ entries) = grind (
  arith,
  nat_tests,
  closed_behind stop (end_with frame_time frames e) (end_with seal_time seals e) entries,
)

ordered_behind : (t : Totals) (entries : List Entry) (e : Entry)
    → is_in_order (record t {
      frames_end = fold (end_with frame_time) t.frames_end entries;
      seals_end = fold (end_with seal_time) t.seals_end entries;
    }) e ≡ (is_in_order t e && keeps_order entries e)
ordered_behind t [] e = grind arith
ordered_behind t (x ∷ entries) e = grind (
  arith,
  nat_tests,
  ordered_behind (record t {
    frames_end = end_with frame_time t.frames_end x;
    seals_end = end_with seal_time t.seals_end x;
  }) entries e,
)

-- ---- behind none

pub closed : (s : Selection) (entries : List Entry)
    → is_stop_closed s entries ≡ has_closed (totals_of entries) s.stop
closed s entries = grind (arith, nat_tests, closed_behind)

pub in_order : (entries : List Entry) (e : Entry)
    → is_in_order (totals_of entries) e ≡ keeps_order entries e
in_order entries e = grind (arith, nat_tests, ordered_behind (totals_of []) entries e)

-- the totals with one entry more
pub totals-push : (entries : List Entry) (e : Entry)
    → totals_of (entries ++ e ∷ []) ≡ totals_with (totals_of entries) e
totals-push entries e = simp (fold-append, sum_by-append)

-- ---- the statuses of valid entries

pub record AreSmall (l : Locks) : Type 0 where
  pub frame_sync : l.frame_sync ≤ 3
  pub symbol : l.symbol ≤ 3
  pub subcarrier : l.subcarrier ≤ 3
  pub carrier : l.carrier ≤ 3

last_three : (a b c d e : Bool) → ((a && b && c && d) && e) ≡ true
    → (b ≡ true) × (c ≡ true) × (d ≡ true)
last_three true true true true e is = (refl, refl, refl)
last_three true true true false e is = cc
last_three true true false d e is = cc
last_three true false c d e is = cc
last_three false b c d e is = cc

small_after : (l : Locks) (e : Entry) → is_storable e ≡ true → AreSmall l
    → AreSmall (locks_after l e)
small_after l (frame f) storable small = record {
  frame_sync = omega arith;
  symbol = omega arith;
  subcarrier = omega arith;
  carrier = omega arith;
}
small_after l (loss_of_sync x) storable small =
    let parts = last_three (is_moment x.at) (nat_le x.carrier 3) (nat_le x.subcarrier 3)
    (nat_le x.symbol 3) true storable in record {
      frame_sync = omega arith;
      symbol = grind (arith, nat_tests, parts.2);
      subcarrier = grind (arith, nat_tests, parts.1);
      carrier = grind (arith, nat_tests, parts.0);
    }
small_after l (production x) storable small = small
small_after l (seal x) storable small = small

small_behind : (l : Locks) (entries : List Entry) → list_all is_storable entries ≡ true
    → AreSmall l → AreSmall (fold locks_after l entries)
small_behind l [] storable small = small
small_behind l (e ∷ entries) storable small =
    let s = and_parts (is_storable e) (list_all is_storable entries) storable in
    small_behind (locks_after l e) entries s.1 (small_after l e s.0 small)

status_after : (n : ℕ) (e : Entry) → is_storable e ≡ true → n ≤ 2 → production_after n e ≤ 2
status_after n (production x) storable small =
    let valid = and_parts (nat_le x 2) true storable in grind (arith, nat_tests, valid.0)
status_after n (frame x) storable small = small
status_after n (loss_of_sync x) storable small = small
status_after n (seal x) storable small = small

status_behind : (n : ℕ) (entries : List Entry) → list_all is_storable entries ≡ true → n ≤ 2
    → fold production_after n entries ≤ 2
status_behind n [] storable small = small
status_behind n (e ∷ entries) storable small =
    let s = and_parts (is_storable e) (list_all is_storable entries) storable in
    status_behind (production_after n e) entries s.1 (status_after n e s.0 small)

pub locks_small : (entries : List Entry) → IsArchive entries → AreSmall (locks entries)
locks_small entries archive =
    small_behind (all_locks 3) entries
    (and_parts (list_all is_storable entries) (is_ordered entries) archive).0 (record {
      frame_sync = omega arith;
      symbol = omega arith;
      subcarrier = omega arith;
      carrier = omega arith;
    })

pub production_small : (entries : List Entry) → IsArchive entries → production_status entries ≤ 2
production_small entries archive =
    status_behind 0 entries
    (and_parts (list_all is_storable entries) (is_ordered entries) archive).0 (omega arith)

-- an archive's totals hold a report's statuses
pub record AreStatuses (t : code.Totals) : Type 0 where
  pub locks : record {
    frame_sync : t.frame_sync ≤ 3;
    symbol : t.symbol ≤ 3;
    subcarrier : t.subcarrier ≤ 3;
    carrier : t.carrier ≤ 3;
  }
  pub production : t.production ≤ 2

pub statuses : (t : code.Totals) (entries : List Entry) → totals_seen t ≡ totals_of entries
    → IsArchive entries → AreStatuses t
statuses t entries is archive =
    let small = locks_small entries archive in
    let one = ap (λ (x : Totals). x.locks.frame_sync) is in
    let two = ap (λ (x : Totals). x.locks.symbol) is in
    let three = ap (λ (x : Totals). x.locks.subcarrier) is in
    let four = ap (λ (x : Totals). x.locks.carrier) is in
    let five = ap (λ (x : Totals). x.production) is in record {
      locks = record {
        frame_sync = rw one small.frame_sync;
        symbol = rw two small.symbol;
        subcarrier = rw three small.subcarrier;
        carrier = rw four small.carrier;
      };
      production = rw five (production_small entries archive);
    }
