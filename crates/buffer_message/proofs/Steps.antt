-- The items of a loop one by one: what is done, and what is left to do, are the whole.
use Rattle.std.proofs.Common.{◌≡◌, ℕ, ◌+◌, ◌*◌, ◌^◌, ◌<◌, ◌≤◌, true, Option, List, [], ◌∷◌, ◌++◌}
use Rattle.std.proofs.Common.{length}
use Rattle.std.proofs.Common.{get_or, take, drop, ◌-◌, append_assoc, length-append}
use Rattle.std.proofs.Common.{sym}
use Rattle.std.proofs.Common.{◌∙◌, ap, arith}
use Rattle.std.proofs.lemmas.Bool.{and_parts}
use Rattle.std.proofs.lemmas.List.{drop_more, drop_all, take_all}
use Rattle.std.proofs.lemmas.List.Sums.{sum_by-cons}
use Rattle.std.specs.List.{AllByRecursion, list_all, sum_by}
use Rattle.ber_core.specs.Spelling.{canonical}
use Rattle.ber_core.specs.Written.{Written, Appends}
use Rattle.isp1_auth.specs.Numbers.{next_number}
use Rattle.isp1_auth.specs.declared.random_numbers.TheConstants.{GREATEST_NUMBER}
use Rattle.archive_terms.specs.Delivery.{frame_octets}
use Rattle.archive_terms.specs.Placed.{ToldItem, items_of}
use Rattle.archive_terms.specs.declared.limits.TheConstants.{FULL_BUFFER, LONGEST_FRAME}
use Rattle.frame_select.specs.declared.item.Item.{Item as Held}
use Rattle.frame_select.specs.Item.{item_of}
use Rattle.frame_select.specs.Item as select
use Rattle.return_pdu.specs.declared.return_kind.ReturnKind.{ReturnKind}
use Rattle.return_pdu.specs.TransferItem.{item_shape, item_tree, spelled_items}
use Rattle.buffer_message.specs.declared.limits.TheConstants.{BESIDE_FRAME, MOST_ITEMS}
use Rattle.buffer_message.specs.Signing.{Signing, credentials_by, number_after}
use Rattle.buffer_message.specs.Content.{content_of, contents, TimeFits}
use Rattle.buffer_message.specs.Fitting.{is_in_range}
use Rattle.buffer_message.proofs.Contents.{shaped, credentials_fit}

pub here : (items : List Held) (i : ℕ) (item : Held) → i < length items
    → item ≡ get_or items i item
    → select.items_of (drop i items) ≡ item_of item ∷ select.items_of (drop (i + 1) items)
here items i item below is = ap select.items_of (drop_more items i item below)
    ∙ ap (λ x. item_of x ∷ select.items_of (drop (i + 1) items)) (sym is)

pub none_left : (items : List Held) (i : ℕ) → length items ≤ i → select.items_of (drop i items) ≡ []
none_left items i all = ap select.items_of (drop_all i items all)

-- the octets of an item, and of items
abbrev pub octets_of : ReturnKind → Option Signing → ℕ → ToldItem → List ℕ
octets_of s by number x = canonical (item_tree (content_of s (credentials_by by number) x))

abbrev pub spelled : ReturnKind → Option Signing → ℕ → List ToldItem → List ℕ
spelled s by number items = spelled_items (contents s by number items)

abbrev pub frames : List ToldItem → ℕ
frames items = sum_by frame_octets (items_of items)

pub in_range_here : (x : ToldItem) (rest : List ToldItem) → list_all is_in_range (x ∷ rest) ≡ true
    → is_in_range x ≡ true
in_range_here x rest all = (and_parts (is_in_range x) (list_all is_in_range rest) all).0

-- ---- measuring: so many items are done, which have so many octets; the rest is left, its first
-- item with this number
pub record Measures (s : ReturnKind) (by : Option Signing) (first : ℕ) (items : List ToldItem)
    (done number : ℕ) (rest : List ToldItem) (content : ℕ) : Type 0 where
  pub in_range : list_all is_in_range rest ≡ true
  pub number_small : number ≤ GREATEST_NUMBER
  pub content_so : content + length (spelled s by number rest) ≡ length (spelled s by first items)
  pub fit : AllByRecursion (item_shape s).Fits (contents s by number rest)
      → AllByRecursion (item_shape s).Fits (contents s by first items)
  pub small : content + frames rest ≤ frames items + BESIDE_FRAME * done

pub measures_more : (s : ReturnKind) (by : Option Signing) (first : ℕ) (items : List ToldItem)
    (done number : ℕ) (x : ToldItem) (rest : List ToldItem) (content : ℕ)
    → Measures s by first items done number (x ∷ rest) content
    → (next size : ℕ) → next ≡ next_number number → next ≤ GREATEST_NUMBER
    → size ≡ length (octets_of s by number x)
    → TimeFits x → size ≤ frame_octets x.0 + BESIDE_FRAME
    → Measures s by first items (done + 1) next rest (content + size)
measures_more s by first items done number x rest content m next size is small sized time few =
    let here = in_range_here x rest m.in_range in
    record {
      in_range = (and_parts (is_in_range x) (list_all is_in_range rest) m.in_range).1;
      number_small = small;
      content_so = rw is (omega (
        arith,
        m.content_so,
        sized,
        length-append (octets_of s by number x) (spelled s by (next_number number) rest),
      ));
      fit = λ all. m.fit (
        shaped (credentials_by by number) (credentials_fit by number) s x time here,
        rw is at all,
      );
      small = omega (arith, m.small, few, sum_by-cons frame_octets x.0 (items_of rest));
    }

pub measures_fit : (s : ReturnKind) (by : Option Signing) (first : ℕ) (items : List ToldItem)
    (done number : ℕ) (x : ToldItem) (rest : List ToldItem) (content : ℕ)
    → Measures s by first items done number (x ∷ rest) content
    → (size : ℕ) → size ≤ frame_octets x.0 + BESIDE_FRAME → done < MOST_ITEMS
    → frames items < FULL_BUFFER + LONGEST_FRAME
    → content + size < 2 ^ 64
measures_fit s by first items done number x rest content m size few below short =
    omega (arith, m.small, few, sum_by-cons frame_octets x.0 (items_of rest))

-- ---- drawing
pub drawn_more : (items : List Held) (i number next end : ℕ) → i < length items
    → number_after number (select.items_of (drop i items)) ≡ end → next ≡ next_number number
    → number_after next (select.items_of (drop (i + 1) items)) ≡ end
drawn_more [] i number next end below so is = absurd (omega (arith, below))
drawn_more (x ∷ items) i number next end below so is =
    rw is (sym (ap (λ xs. number_after number (select.items_of xs))
    (drop_more (x ∷ items) i x below)) ∙ so)

pub all_drawn : (items : List Held) (i number end : ℕ) → length items ≤ i
    → number_after number (select.items_of (drop i items)) ≡ end → number ≡ end
all_drawn items i number end all so =
    sym (ap (number_after number) (none_left items i all)) ∙ so

-- the first number drawn is the first item's
pub first_drawn : (items : List Held) (first before : ℕ) → 1 ≤ length items
    → first ≡ next_number before
    → number_after first (select.items_of (take (length items - 1) (drop 1 items)))
    ≡ number_after before (select.items_of items)
first_drawn [] first before some is = absurd (omega (arith, some))
first_drawn (x ∷ items) first before some is =
    ap (λ xs. number_after first (select.items_of xs))
    (take_all (length (x ∷ items) - 1) items (omega arith))
    ∙ ap (λ n. number_after n (select.items_of items)) is

-- ---- writing
pub record Puts (s : ReturnKind) (by : Option Signing) (first : ℕ) (items : List ToldItem)
    (number : ℕ) (rest : List ToldItem) (start now : Written) : Type 0 where
  pub in_range : list_all is_in_range rest ≡ true
  pub number_small : number ≤ GREATEST_NUMBER
  pub octets : now.octets ++ spelled s by number rest ≡ start.octets ++ spelled s by first items
  pub room : now.room + length (spelled s by first items)
      ≡ start.room + length (spelled s by number rest)

pub puts_more : (s : ReturnKind) (by : Option Signing) (first : ℕ) (items : List ToldItem)
    (number : ℕ) (x : ToldItem) (rest : List ToldItem) (start now : Written)
    → Puts s by first items number (x ∷ rest) start now
    → (next : ℕ) (after : Written) → next ≡ next_number number → next ≤ GREATEST_NUMBER
    → Appends now after (octets_of s by number x)
    → Puts s by first items next rest start after
puts_more s by first items number x rest start now p next after is small appends =
    let others = spelled s by (next_number number) rest in
    record {
      in_range = (and_parts (is_in_range x) (list_all is_in_range rest) p.in_range).1;
      number_small = small;
      octets = rw is (ap (λ octets. octets ++ others) appends.0
          ∙ append_assoc now.octets (octets_of s by number x) others ∙ p.octets);
      room = rw is (omega (
        arith,
        p.room,
        appends.1,
        length-append (octets_of s by number x) others,
      ));
    }

pub room_here : (s : ReturnKind) (by : Option Signing) (first : ℕ) (items : List ToldItem)
    (number : ℕ) (x : ToldItem) (rest : List ToldItem) (start now : Written)
    → Puts s by first items number (x ∷ rest) start now
    → length (spelled s by first items) ≤ start.room
    → length (octets_of s by number x) ≤ now.room
room_here s by first items number x rest start now p room =
    omega (
      arith,
      p.room,
      length-append (octets_of s by number x) (spelled s by (next_number number) rest),
    )
