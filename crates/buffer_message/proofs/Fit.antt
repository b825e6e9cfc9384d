-- Which items go into one message.
use Rattle.std.proofs.Common.{◌≡◌, ◌||◌, ℕ, zero, suc, ◌+◌, ◌-◌, ◌<◌, ◌≤◌, Bool, true, false, ◌&&◌}
use Rattle.std.proofs.Common.{nat_le, nat_lt}
use Rattle.std.proofs.Common.{Option, Some, None, List, [], ◌∷◌, map, length, take, refl, ap, arith}
use Rattle.std.proofs.Common.{◌∙◌, get_or}
use Rattle.std.proofs.lemmas.Bool.{and_parts}
use Rattle.std.proofs.lemmas.Bool.Decides.{nat_tests}
use Rattle.std.proofs.lemmas.List.Sums.{sum_by-cons, sum_by_more, AllPass-from_list_all}
use Rattle.std.proofs.lemmas.List.{take_all, length-map}
use Rattle.std.proofs.lemmas.List.Folds.{list_all-map}
use Rattle.std.specs.List.{list_all, sum_by}
use Rattle.isp1_auth.specs.Numbers.{next_number}
use Rattle.archive_terms.specs.Archive.{Entry, frame}
use Rattle.archive_terms.specs.Archive.{is_moment}
use Rattle.archive_terms.specs.Delivery.{Item, archived, frame_octets, IsBuffer}
use Rattle.archive_terms.specs.Continuity.{continuity, gap}
use Rattle.archive_terms.specs.Placed.{ToldItem, items_of}
use Rattle.archive_terms.specs.declared.limits.TheConstants.{FULL_BUFFER, GREATEST_LOST}
use Rattle.archive_terms.specs.declared.limits.TheConstants.{LONGEST_FRAME}
use Rattle.frame_select.specs.declared.item.Item.{Item as Held}
use Rattle.frame_select.specs.Item.{item_of, said_of}
use Rattle.frame_select.specs.Item as held
use Rattle.return_pdu.specs.declared.return_kind.ReturnKind.{ReturnKind}
use Rattle.buffer_message.specs.declared.limits.TheConstants.{MOST_ITEMS}
use Rattle.buffer_message.specs.Signing.{Signing, credentials_by}
use Rattle.buffer_message.specs.Content.{content_of, contents}
use Rattle.buffer_message.specs.Fitting.{is_continuity, is_in_range, fits_message}
use Rattle.buffer_message.specs.Laws.{BuffersFit, StoredInRange, SaidTheSame}
use Rattle.buffer_message.proofs.Contents.{parts}

-- an item in its ranges has a frame that is short enough, or none
short_frame : (x : ToldItem) → is_in_range x ≡ true → frame_octets x.0 ≤ LONGEST_FRAME
short_frame (archived place (frame f), Some z) is =
    (parts (length f.antenna) f.quality (length f.octets) (is_continuity z) is).5
short_frame (archived place (frame f), None) is = absurd cc
short_frame _ is = omega arith

not_full : (full noticed : Bool) (octets : ℕ)
    → (full || nat_le FULL_BUFFER octets || noticed) ≡ false → octets < FULL_BUFFER
not_full full noticed octets is = grind (arith, nat_tests)

-- the octets of frames without the last item, which doesn't fill the buffer
pub frames_few : (size : ℕ) (items : List Item) → IsBuffer size items
    → ((k : ℕ) (d : Item) → k < length items → frame_octets (get_or items k d) ≤ LONGEST_FRAME)
    → sum_by frame_octets items < FULL_BUFFER + LONGEST_FRAME
frames_few size [] is short = omega arith
frames_few size (x ∷ items) is short =
    let all = x ∷ items in
    let n = length items in
    let few : sum_by frame_octets (take n all) < FULL_BUFFER =
    not_full _ _ _ (is.open_before n (omega arith)) in
    omega (
      arith,
      few,
      short n x (omega arith),
      sum_by_more frame_octets all n x (omega arith),
      ap (sum_by frame_octets) (take_all (n + 1) all (omega arith)),
    )

short_frames : (items : List ToldItem) → list_all is_in_range items ≡ true
    → (k : ℕ) (d : Item) → k < length (items_of items)
    → frame_octets (get_or (items_of items) k d) ≤ LONGEST_FRAME
short_frames [] all k d below = absurd (omega arith)
short_frames (x ∷ items) all zero d below =
    short_frame x (and_parts (is_in_range x) (list_all is_in_range items) all).0
short_frames (x ∷ items) all (suc k) d below =
    short_frames items (and_parts (is_in_range x) (list_all is_in_range items) all).1 k d
    (omega arith)

all_three : (count : ℕ) (each : Bool) (octets : ℕ) → count ≤ MOST_ITEMS → each ≡ true
    → octets < FULL_BUFFER + LONGEST_FRAME
    → (nat_le count MOST_ITEMS && each && nat_lt octets (FULL_BUFFER + LONGEST_FRAME)) ≡ true
all_three count each octets few all short = grind (arith, nat_tests)

-- the other way
pub record Fits (items : List ToldItem) : Type 0 where
  pub few : length items ≤ MOST_ITEMS
  pub in_range : list_all is_in_range items ≡ true
  pub short : sum_by frame_octets (items_of items) < FULL_BUFFER + LONGEST_FRAME

parts_three : (count : ℕ) (each : Bool) (octets : ℕ)
    → (nat_le count MOST_ITEMS && each && nat_lt octets (FULL_BUFFER + LONGEST_FRAME)) ≡ true
    → (count ≤ MOST_ITEMS) × (each ≡ true) × (octets < FULL_BUFFER + LONGEST_FRAME)
parts_three count each octets all = grind (arith, nat_tests)

pub fits_parts : (items : List ToldItem) → fits_message items ≡ true → Fits items
fits_parts items fits =
    let parts = parts_three (length items) (list_all is_in_range items)
    (sum_by frame_octets (items_of items)) fits in
    record { few = parts.0; in_range = parts.1; short = parts.2 }

pub buffers_fit : BuffersFit
buffers_fit size items limit is all =
    let few : length items ≤ MOST_ITEMS =
    omega (arith, is.few, limit, length-map items (λ (x : ToldItem). x.0)) in
    let short : sum_by frame_octets (items_of items) < FULL_BUFFER + LONGEST_FRAME =
    frames_few size (items_of items) is (short_frames items all) in
    all_three (length items) (list_all is_in_range items) (sum_by frame_octets (items_of items))
    few all short

stored_frame : (time : Bool) (quality antenna lost octets : ℕ) (z : Bool) → z ≡ true
    → (time && nat_le quality 2 && nat_le 1 antenna && nat_le antenna 16 && nat_le lost 16777215
    && nat_le 1 octets && nat_le octets 65536) ≡ true
    → (nat_le 1 antenna && nat_le antenna 16 && z && nat_le quality 2 && nat_le 1 octets
    && nat_le octets 65536) ≡ true
stored_frame time quality antenna lost octets z told all = grind (arith, nat_tests)

stored_loss : (time : Bool) (a b c : ℕ)
    → (time && nat_le a 3 && nat_le b 3 && nat_le c 3 && true) ≡ true
    → (nat_le a 3 && nat_le b 3 && nat_le c 3) ≡ true
stored_loss time a b c all = grind (arith, nat_tests)

at_most : (n m : ℕ) → n ≤ m → nat_le n m ≡ true
at_most n m small = grind (arith, nat_tests)

gap_told : (entries : List Entry) (before : Option ℕ) (place : ℕ)
    → is_continuity (continuity entries before place) ≡ true
gap_told entries None place = refl
gap_told entries (Some before) place =
    at_most (gap entries before place) GREATEST_LOST (omega arith)

pub stored_in_range : StoredInRange
stored_in_range = record {
  frames = λ entries before place f is.
      stored_frame (is_moment f.ert) f.quality (length f.antenna) f.lost (length f.octets)
      (is_continuity (continuity entries before place)) (gap_told entries before place) is;
  losses = λ place l is. stored_loss (is_moment l.at) l.carrier l.subcarrier l.symbol is;
  productions = λ place status is. (and_parts (nat_le status 2) true is).0;
}

content_said : (s : ReturnKind) (c : Option (List ℕ)) (x : ToldItem)
    → content_of s c (said_of x) ≡ content_of s c x
content_said s c (archived place (frame f), Some z) = refl
content_said s c _ = refl

range_said : (x : ToldItem) → is_in_range (said_of x) ≡ is_in_range x
range_said (archived place (frame f), Some z) = refl
range_said _ = refl

octets_said : (x : ToldItem) → frame_octets (said_of x).0 ≡ frame_octets x.0
octets_said (archived place (frame f), z) = refl
octets_said _ = refl

contents_said : (s : ReturnKind) (by : Option Signing) (number : ℕ) (items : List ToldItem)
    → contents s by number (map said_of items) ≡ contents s by number items
contents_said s by number [] = refl
contents_said s by number (x ∷ items) = cc (
  content_said s (credentials_by by number) x,
  contents_said s by (next_number number) items,
)

ranges_said : (items : List ToldItem)
    → list_all is_in_range (map said_of items) ≡ list_all is_in_range items
ranges_said [] = refl
ranges_said (x ∷ items) = cc (range_said x, ranges_said items)

sum_said : (items : List ToldItem) → sum_by frame_octets (items_of (map said_of items))
    ≡ sum_by frame_octets (items_of items)
sum_said [] = refl
sum_said (x ∷ items) = omega (
  arith,
  sum_by-cons frame_octets (said_of x).0 (items_of (map said_of items)),
  sum_by-cons frame_octets x.0 (items_of items),
  octets_said x,
  sum_said items,
)

fit_said : (items : List ToldItem) → fits_message (map said_of items) ≡ fits_message items
fit_said items = rw (length-map items said_of, ranges_said items, sum_said items) refl

pub said_the_same : SaidTheSame
said_the_same = record { contents_same = contents_said; fit_same = fit_said }

-- ---- items as they are held

abbrev pub octets_in : Held → ℕ
octets_in item = frame_octets (item_of item).0

abbrev pub is_in : Held → Bool
is_in item = is_in_range (item_of item)

pub short_here : (items : List Held) (i : ℕ) (item : Held) → list_all is_in items ≡ true
    → i < length items → item ≡ get_or items i item → octets_in item ≤ LONGEST_FRAME
short_here items i item all below is =
    short_frame (item_of item) (rw (← is) at
    (AllPass-from_list_all is_in items all i item below))

octets_held : (items : List Held) → sum_by octets_in items
    ≡ sum_by frame_octets (items_of (held.items_of items))
octets_held [] = refl
octets_held (x ∷ items) = omega (
  arith,
  sum_by-cons octets_in x items,
  sum_by-cons frame_octets (item_of x).0 (items_of (held.items_of items)),
  octets_held items,
)

-- the test, item by item as they are held
fits_held : (items : List Held)
    → (nat_le (length items) MOST_ITEMS && list_all is_in items
    && nat_lt (sum_by octets_in items) (FULL_BUFFER + LONGEST_FRAME))
    ≡ fits_message (held.items_of items)
fits_held items = rw (
  length-map items item_of,
  list_all-map is_in_range item_of items,
  octets_held items,
) refl

pub fits_by : (items : List Held) (r : Bool)
    → r ≡ (nat_le (length items) MOST_ITEMS && list_all is_in items
    && nat_lt (sum_by octets_in items) (FULL_BUFFER + LONGEST_FRAME))
    → r ≡ fits_message (held.items_of items)
fits_by items r is = is ∙ fits_held items
