-- The places of a book: how many there are, and where a door is found.
use Rattle.std.proofs.Common.{◌≡◌, ℕ, ◌<◌, Bool, true, false, if◌then◌else◌, cond, Option, Some, None}
use Rattle.std.proofs.Common.{is_some, List, [], ◌∷◌, zero, suc, length, slice_get, slice_set}
use Rattle.std.proofs.Common.{replicate, refl, sym, ap, ◌∙◌, nat_lt, arith}
use Rattle.std.specs.List.{position, position_or_len}
use Rattle.std.specs.Option.{option_map_or}
use Rattle.std.proofs.lemmas.List.{length-set, length-replicate}
use Rattle.cltu_queue.specs.declared.ask.Ask.{Ask}
use Rattle.cltu_queue.specs.declared.ask.Ask.TheVariants as ask
use Rattle.station_book.specs.State.{State, Opening, Event, Call, publish, answer, quit, take, done}
use Rattle.station_book.specs.State.{interrupted, uplink, gone}
use Rattle.station_book.specs.History.{moment_at, is_of, instance_of, is_taken, is_lost}
use Rattle.station_book.specs.History.{doors_asked, with_ask, asked, may_publish, after, then_after}
use Rattle.station_book.specs.History.{replay}

-- ---- how many there are

if_long : (b : Bool) (x y : List (Option ℕ)) (n : ℕ) → length x ≡ n → length y ≡ n
    → length (if b then x else y) ≡ n
if_long true x y n h k = h
if_long false x y n h k = k

freed_long : (doors : List (Option ℕ)) (o : Option ℕ)
    → length (option_map_or (λ place. slice_set doors place None) o doors) ≡ length doors
freed_long doors None = refl
freed_long doors (Some i) = length-set doors i None

asked_long : (s : State) (door : ℕ) (ask : Ask) → length (doors_asked s door ask) ≡ length s.doors
asked_long s door (ask.Bind i) =
    if_long (is_taken (slice_get s.doors i)) s.doors (slice_set s.doors i (Some door))
    (length s.doors) refl (length-set s.doors i (Some door))
asked_long s door ask.Unbind = freed_long s.doors (instance_of s door)
asked_long s door ask.Nothing = refl
asked_long s door ask.Quiet = refl
asked_long s door (ask.CltuStart first) = refl
asked_long s door (ask.CltuTransfer cltu) = refl
asked_long s door ask.CltuStop = refl

if_places : (b : Bool) (x y : State) (n : ℕ) → length x.doors ≡ n → length y.doors ≡ n
    → length (if b then x else y).doors ≡ n
if_places true x y n h k = h
if_places false x y n h k = k

pub places_stay : (s : State) (call : Call) → length (after s call).doors ≡ length s.doors
places_stay s (publish entries) = if_places (may_publish s entries) _ s (length s.doors) refl refl
places_stay s (answer door reading ask want) =
    if_places (is_lost s door ask) s (with_ask s door (moment_at s reading) ask) (length s.doors)
    refl (asked_long s door ask)
places_stay s (quit door) = freed_long s.doors (instance_of s door)
places_stay s (take reading) = refl
places_stay s (done run id reading) = refl
places_stay s (interrupted run id reading) = refl
places_stay s (uplink production status reading) = refl
places_stay s (gone worker) = refl

if_opening : (b : Bool) (x y : State) (o : Opening) → x.opening ≡ o → y.opening ≡ o
    → (if b then x else y).opening ≡ o
if_opening true x y o h k = h
if_opening false x y o h k = k

pub opening_stays : (s : State) (call : Call) → (after s call).opening ≡ s.opening
opening_stays s (publish entries) = if_opening (may_publish s entries) _ s s.opening refl refl
opening_stays s (answer door reading ask want) =
    if_opening (is_lost s door ask) s (with_ask s door (moment_at s reading) ask) s.opening refl refl
opening_stays s (quit door) = refl
opening_stays s (take reading) = refl
opening_stays s (done run id reading) = refl
opening_stays s (interrupted run id reading) = refl
opening_stays s (uplink production status reading) = refl
opening_stays s (gone worker) = refl

pub places_replayed : (s : State) (h : List Event) → length (replay s h).doors ≡ length s.doors
places_replayed s [] = refl
places_replayed s (e ∷ h) = places_replayed (then_after s e) h ∙ places_stay s e.call

pub opening_replayed : (s : State) (h : List Event) → (replay s h).opening ≡ s.opening
opening_replayed s [] = refl
opening_replayed s (e ∷ h) = opening_replayed (then_after s e) h ∙ opening_stays s e.call

-- ---- where a door is found

abbrev found : ℕ → List (Option ℕ) → Bool
found door doors = is_some (position (is_of door) doors)

found_by : (n len : ℕ) → is_some (cond (nat_lt n len) (Some n) None) ≡ nat_lt n len
found_by n len = by (nat_lt n len)
  where
    by : (b : Bool) → is_some (cond b (Some n) None) ≡ b
    by true = refl
    by false = refl

-- in a place that it was put into
put_before : (door : ℕ) (doors : List (Option ℕ)) (i : ℕ) → i < length doors
    → position_or_len (is_of door) (slice_set doors i (Some door)) < length doors
put_before door [] i below = omega arith
put_before door (x ∷ doors) zero below = grind arith
put_before door (x ∷ doors) (suc i) below = grind (arith, put_before door doors i)

pub put_found : (door : ℕ) (doors : List (Option ℕ)) (i : ℕ) → i < length doors
    → is_some (position (is_of door) (slice_set doors i (Some door))) ≡ true
put_found door doors i below =
    found_by (position_or_len (is_of door) (slice_set doors i (Some door)))
    (length (slice_set doors i (Some door)))
    ∙ grind (arith, put_before door doors i below, length-set doors i (Some door))

-- a place below both lengths
pub is_below : (place m n : ℕ) → m ≡ n → place < m → nat_lt place n ≡ true
is_below place m n same below = grind arith

-- in no place of a new book
none_before : (door n : ℕ) → position_or_len (is_of door) (replicate n None) ≡ n
none_before door zero = refl
none_before door (suc n) = grind (arith, none_before door n)

not_below : (m n : ℕ) → m ≡ n → nat_lt m n ≡ false
not_below m n same = grind arith

pub new_free : (door n : ℕ) → position (is_of door) (replicate n None) ≡ None
new_free door n =
    let at = position_or_len (is_of door) (replicate n None) in
    ap (λ (b : Bool). cond b (Some at) None)
    (not_below at (length (replicate n None))
    (none_before door n ∙ sym (length-replicate n None)))

-- ---- what an answer does to them

pub answered_doors : (s : State) (door reading : ℕ) (ask : Ask) → is_lost s door ask ≡ false
    → (asked s door (moment_at s reading) ask).doors ≡ doors_asked s door ask
answered_doors s door reading ask e =
    by (is_lost s door ask) e
  where
    by : (b : Bool) → b ≡ false
        → (if b then s else with_ask s door (moment_at s reading) ask).doors ≡ doors_asked s door ask
    by true e = absurd (cc)
    by false e = refl
