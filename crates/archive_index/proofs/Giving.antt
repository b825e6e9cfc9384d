-- A look gives its items one by one.
use Rattle.std.proofs.Common.{◌≡◌, ℕ, suc, ◌+◌, ◌-◌, Bool, true, false, cond, ◌&&◌, ◌||◌, ◌==◌}
use Rattle.std.proofs.Common.{nat_lt, List, [], ◌∷◌, ◌++◌, length, take, map, Option, option_map}
use Rattle.std.proofs.Common.{slice_get, is_none, is_some, refl, ap, sym, arith, add-one}
use Rattle.std.specs.List.{sum, prefix_len, enumerate_from}
use Rattle.std.proofs.lemmas.List.{append_assoc, append-nil}
use Rattle.std.proofs.lemmas.List.Sums.{sum_by-cons}
use Rattle.std.proofs.lemmas.Bool.Decides.{nat_tests}
use Rattle.archive_terms.specs.Archive.{Entry}
use Rattle.archive_terms.specs.Selection.{Selection}
use Rattle.archive_terms.specs.Delivery.{archived, archived_items, frame_octets}
use Rattle.archive_terms.specs.Continuity.{continuity_of, told_items}
use Rattle.archive_terms.specs.Placed.{ToldItem}
use Rattle.archive_terms.specs.Glimpse.{Wanted, given, lengths_of, picked_from, given_of}
use Rattle.archive_terms.specs.Glimpse.{place_behind, Glimpse, glimpse, wants_items}
use Rattle.frame_select.specs.Glimpse.{as_said}
use Rattle.frame_select.specs.Item.{said_of}
use Rattle.archive_index.specs.declared.cursor.Cursor.{Cursor}
use Rattle.archive_index.specs.declared.look.Given.{Given}
use Rattle.archive_index.specs.Next.{next_picked}
use Rattle.archive_index.specs.IndexState.{Totals, totals_of, has_closed}
use Rattle.archive_index.specs.Look.{wanted_of, is_full, behind, Gives}
use Rattle.archive_index.proofs.Ends.{closed}

-- ---- how many are given, one by one

abbrev pub test_of : ℕ → ℕ → List ℕ → ℕ × ℕ → Bool
test_of room octets lengths x = nat_lt x.0 room && nat_lt (sum (take x.0 lengths)) octets

-- the test behind one more, whose length is taken from what is wanted
passes : (room octets l k x : ℕ) (lengths : List ℕ)
    → test_of room octets (l ∷ lengths) (k + 1, x) ≡ test_of (room - 1) (octets - l) lengths (k, x)
passes room octets l k x lengths =
    rw (add-one, sum_by-cons (λ x. x) l (take k lengths)) (grind (arith, nat_tests))

shifted : (room octets l k : ℕ) (lengths xs : List ℕ)
    → prefix_len (test_of room octets (l ∷ lengths)) (enumerate_from (k + 1) xs)
    ≡ prefix_len (test_of (room - 1) (octets - l) lengths) (enumerate_from k xs)
shifted room octets l k lengths [] = refl
shifted room octets l k lengths (x ∷ xs) =
    cc (passes room octets l k x lengths, shifted room octets l (k + 1) lengths xs)

one_given : (room octets l : ℕ) (lengths : List ℕ)
    → given room octets (l ∷ lengths)
    ≡ cond (room == 0 || octets == 0) 0 (suc (given (room - 1) (octets - l) lengths))
one_given room octets l lengths =
    rw (shifted room octets l 0 lengths lengths) (grind (arith, nat_tests))

-- ---- what is given

-- what a look gives of what is wanted
abbrev pub gives : List Entry → Wanted → Given
gives entries w = record {
  items = map said_of (told_items entries w.since (archived_items (given_of entries w)));
  next = place_behind w.place (given_of entries w);
  more = nat_lt (length (given_of entries w)) (length (picked_from entries w.selection w.place));
}

abbrev pub behind_items : List ToldItem → Given → Given
behind_items items g = record g { items = items ++ g.items }

-- the next one is given, unless nothing more is wanted
step : (entries : List Entry) (s : Selection) (now : Cursor) (place : ℕ) (e : Entry)
    → picked_from entries s now.place ≡ (place, e) ∷ picked_from entries s (place + 1)
    → given_of entries (wanted_of s now)
    ≡ cond (is_full now) [] ((place, e) ∷ given_of entries (wanted_of s (behind now place e)))
step entries s now place e first = rw (
  first,
  one_given now.room now.octets (frame_octets (archived place e))
      (lengths_of (picked_from entries s (place + 1))),
) (grind arith)

less_one : (a b : ℕ) → nat_lt (suc a) (suc b) ≡ nat_lt a b
less_one a b = grind (arith, nat_tests)

pub gives_next : (entries : List Entry) (s : Selection) (whole now : Cursor) (items : List ToldItem)
    (place : ℕ) (e : Entry) (item : ToldItem)
    → gives entries (wanted_of s whole) ≡ behind_items items (gives entries (wanted_of s now))
    → is_full now ≡ false
    → picked_from entries s now.place ≡ (place, e) ∷ picked_from entries s (place + 1)
    → item ≡ said_of (archived place e, continuity_of entries (now.since, archived place e))
    → gives entries (wanted_of s whole)
    ≡ behind_items (items ++ item ∷ []) (gives entries (wanted_of s (behind now place e)))
gives_next entries s whole now items place e item all room first is =
    rw (all, step entries s now place e first, room, first, is, append_assoc, less_one) refl

-- nothing more is given where nothing is picked any more, or nothing more wanted
ended : (room octets : ℕ) (xs : List (ℕ × Entry)) (found : Option ℕ)
    → found ≡ option_map (λ x. x.0) (slice_get xs 0)
    → (is_none found || (room == 0 || octets == 0)) ≡ true
    → (take (given room octets (lengths_of xs)) xs ≡ []) × (nat_lt 0 (length xs) ≡ is_some found)
ended room octets [] found is stop = (refl, rw is refl)
ended room octets (x ∷ xs) found is stop =
    let full = rw is at stop in (grind (arith, nat_tests), rw is (grind (arith, nat_tests)))

pub gives_all : (entries : List Entry) (s : Selection) (whole now : Cursor) (items : List ToldItem)
    (found : Option ℕ)
    → gives entries (wanted_of s whole) ≡ behind_items items (gives entries (wanted_of s now))
    → found ≡ next_picked entries s now.place → (is_none found || is_full now) ≡ true
    → Gives entries (wanted_of s whole)
    (record { items = items; next = now.place; more = is_some found })
gives_all entries s whole now items found all next stop =
    let end = ended now.room now.octets (picked_from entries s now.place) found next stop in
    let whole = rw (end.0, end.1, append-nil) at all in record {
      items = sym (ap (λ (g : Given). g.items) whole);
      next = sym (ap (λ (g : Given). g.next) whole);
      more = sym (ap (λ (g : Given). g.more) whole);
    }

-- a look told by what is given and by the totals of all entries
pub glimpse_told : (entries : List Entry) (w : Wanted) (g : Given) (t : Totals) (front : ℕ)
    → front ≡ length entries → t ≡ totals_of entries → Gives entries w g
    → ◌≡◌ {A = Glimpse} (record {
      front = front;
      items = g.items;
      next = g.next;
      more = g.more;
      closed = has_closed t w.selection.stop;
      locks = t.locks;
      production = t.production;
    }) (as_said (glimpse entries (wants_items w)))
glimpse_told entries w g t front all told given = rw (
  all,
  told,
  given.items,
  given.next,
  given.more,
  ← closed w.selection entries,
) refl
