-- What an item says of a picked entry leaves out nothing that a delivery looks at.
use Rattle.std.proofs.Common.{◌≡◌, ℕ, ◌+◌, Bool, cond, ◌||◌, List, [], ◌∷◌, map, Option, refl}
use Rattle.std.proofs.Common.{arith}
use Rattle.std.specs.List.{list_any, sum_by, prefix_len, enumerate_from}
use Rattle.std.proofs.lemmas.List.Folds.{fold-map}
use Rattle.std.specs.Option.{option_or}
use Rattle.std.proofs.lemmas.List.{take-map, length-map, map-append}
use Rattle.archive_terms.specs.Delivery.{Item, archived, backlog, end_of_data, entries_of}
use Rattle.archive_terms.specs.Delivery.{is_archived, is_backlog, is_end_of_data, is_notice_item}
use Rattle.archive_terms.specs.Delivery.{is_notification, frame_octets, is_complete, buffer_length}
use Rattle.archive_terms.specs.Delivery.{Terms}
use Rattle.archive_terms.specs.Continuity.{frame_place, last_frame}
use Rattle.archive_terms.specs.Rounds.{Answer, whole, stall, fail}
use Rattle.archive_terms.specs.Glimpse.{place_behind, Glimpse}
use Rattle.archive_terms.specs.Placed.{ToldItem, items_of, Placed, with_head, want_of, taken_of}
use Rattle.archive_terms.specs.Placed.{placed_step, placed_answered}
use Rattle.frame_select.specs.Item.{said_of}
use Rattle.frame_select.specs.Glimpse.{as_said}
use Rattle.return_core.specs.Standing.{said_item, said_placed}

-- ---- one item

octets_said : (item : Item) → frame_octets (said_item item) ≡ frame_octets item
octets_said item = grind arith

notice_said : (item : Item) → is_notice_item (said_item item) ≡ is_notice_item item
notice_said item = grind arith

notification_said : (item : Item) → is_notification (said_item item) ≡ is_notification item
notification_said item = grind arith

place_said : (item : Item) → frame_place (said_item item) ≡ frame_place item
place_said item = grind arith

pub archived_said : (item : Item) → is_archived (said_item item) ≡ is_archived item
archived_said item = grind arith

pub backlog_said : (item : Item) → is_backlog (said_item item) ≡ is_backlog item
backlog_said item = grind arith

end_said : (item : Item) → is_end_of_data (said_item item) ≡ is_end_of_data item
end_said item = grind arith

told_said : (x : ToldItem) → (said_of x).0 ≡ said_item x.0
told_said x = grind arith

-- ---- items

pub items_said : (told : List ToldItem)
    → items_of (map said_of told) ≡ map said_item (items_of told)
items_said [] = refl
items_said (x ∷ told) = cc (items_said told, told_said x)

pub any_said : (p : Item → Bool) → ((item : Item) → p (said_item item) ≡ p item)
    → (items : List Item)
    → list_any p (map said_item items) ≡ list_any p items
any_said p same [] = refl
any_said p same (item ∷ items) = cc (same item, any_said p same items)

sum_said : (items : List Item)
    → sum_by frame_octets (map said_item items) ≡ sum_by frame_octets items
sum_said items = simp (fold-map, octets_said)

complete_said : (size : ℕ) (items : List Item)
    → is_complete size (map said_item items) ≡ is_complete size items
complete_said size items = simp (length-map, sum_said, any_said is_notice_item notice_said)

-- how many places pass depends on the places alone
passing_same : {X Y : Type 0} (f g : ℕ → Bool) → ((k : ℕ) → f k ≡ g k)
    → (n : ℕ) (xs : List X) (h : X → Y)
    → prefix_len (λ x. f x.0) (enumerate_from n (map h xs))
    ≡ prefix_len (λ x. g x.0) (enumerate_from n xs)
passing_same f g same n [] h = refl
passing_same f g same n (x ∷ xs) h = cc (same n, passing_same f g same (n + 1) xs h)

length_said : (size : ℕ) (items : List Item)
    → buffer_length size (map said_item items) ≡ buffer_length size items
length_said size items = passing_same _ _ (λ k. simp (take-map, complete_said)) 0 items said_item

frame_said : (before : Option ℕ) (items : List Item)
    → last_frame before (map said_item items) ≡ last_frame before items
frame_said before [] = refl
frame_said before (item ∷ items) = cc (
  place_said item,
  frame_said (option_or (frame_place item) before) items,
)

behind_said : (place : ℕ) (items : List Item)
    → place_behind place (entries_of (map said_item items)) ≡ place_behind place (entries_of items)
behind_said place [] = refl
behind_said place (archived at entry ∷ items) = behind_said (at + 1) items
behind_said place (backlog ∷ items) = behind_said place items
behind_said place (end_of_data ∷ items) = behind_said place items

-- what is read of items is the same of what they say
ruleset said = (items_said, frame_said, behind_said, sum_said, length-map)

-- ---- a delivery

-- notices say all that they are
held_said : (b : Bool) (notices held : List ToldItem) → map said_of notices ≡ notices
    → cond b notices (map said_of held) ≡ map said_of (cond b notices held)
held_said b notices held is = grind arith

pub placed_said : (b : Bool) (p q : Placed)
    → cond b (said_placed p) (said_placed q) ≡ said_placed (cond b p q)
placed_said b p q = grind arith

head_said : (p : Placed) → with_head (said_placed p) ≡ map said_of (with_head p)
head_said p = simp (said, held_said)

taken_said : (t : Terms) (g : Glimpse) (p : Placed)
    → taken_of t (as_said g) (said_placed p) ≡ taken_of t g p
taken_said t g p =
    rw head_said (simp (items_said, ← map-append said_item, length_said, length-map))

-- it wants the same
pub want_said : (t : Terms) (p : Placed) → want_of t (said_placed p) ≡ want_of t p
want_said t p = simp (said, held_said)

-- the same step
pub step_said : (t : Terms) (g : Glimpse) (now : ℕ) (p : Placed)
    → placed_step t (as_said g) now (said_placed p) ≡ said_placed (placed_step t g now p)
step_said t g now p =
    rw (taken_said t g p, head_said p) (simp (
      said,
      take-map,
      ← map-append,
      held_said,
      any_said is_notification notification_said,
    ) (placed_said (p.fixed || p.ended) p _))

-- the same answer
pub answer_said : (t : Terms) (answer : Answer) (p : Placed)
    → placed_answered t answer (said_placed p) ≡ said_placed (placed_answered t answer p)
answer_said t whole p =
    simp (said, any_said is_backlog backlog_said, any_said is_end_of_data end_said)
answer_said t stall p = simp (said, any_said is_archived archived_said) (grind arith)
answer_said t fail p = refl
