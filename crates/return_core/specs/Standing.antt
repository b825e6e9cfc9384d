-- A delivery stands for the rounds that were made with it.
use Rattle.std.specs.Prelude.{◌≡◌, ℕ, ◌<◌, ◌≤◌, Bool, true, false, if◌then◌else◌, Some, None, List}
use Rattle.std.specs.Prelude.{[], ◌∷◌, ◌++◌, length, map, take}
use Rattle.std.specs.List.{list_all, flat_map}
use Rattle.std.specs.Option.{option_map, option_to_list}
use Rattle.archive_terms.specs.Archive.{Entry, IsArchive}
use Rattle.archive_terms.specs.Delivery.{Item, buffer, Delivery, Terms, started}
use Rattle.archive_terms.specs.Rounds.{Answer, fail, Link, broken, blocked, free, waiting, Round}
use Rattle.archive_terms.specs.Rounds.{Outcome, nothing, picked_at, at_round, after_rounds}
use Rattle.archive_terms.specs.Rounds.{outcomes, handed_buffers, FrontsRise, last_front}
use Rattle.archive_terms.specs.Continuity.{last_frame, told_items, told_buffers}
use Rattle.archive_terms.specs.Glimpse.{Glimpse, glimpse}
use Rattle.archive_terms.specs.Placed.{ToldItem, items_of, Placed, placed_at_start}
use Rattle.archive_terms.specs.Placed.{placed_after_round}
use Rattle.archive_terms.specs.Placed.{placed_fate, told_where}
use Rattle.frame_select.specs.Item.{said_of}
use Rattle.frame_select.specs.Glimpse.{as_said}
use Rattle.return_core.specs.Course.{Course, want_of_course, is_offering, held_of}

-- ---- as its items say it

abbrev pub said_item : Item → Item
said_item item = (said_of (item, None)).0

abbrev pub said_items : List Item → List Item
said_items items = map said_item items

abbrev pub said_outcome : Outcome → Outcome
said_outcome o = record {
  offer = option_map (λ (x : List Item × Answer). (said_items x.0, x.1)) o.offer;
  dropped = option_map said_items o.dropped;
}

abbrev pub said_outcomes : List Outcome → List Outcome
said_outcomes done = map said_outcome done

abbrev pub said_placed : Placed → Placed
said_placed p = record p { held = map said_of p.held }

-- ---- rounds

-- after a link that failed no round follows
abbrev pub goes_on : Link → Bool
goes_on broken = false
goes_on (free fail) = false
goes_on _ = true

abbrev pub all_go_on : List Round → Bool
all_go_on rounds = list_all (λ (r : Round). goes_on r.link) rounds

-- a round in which a block of its own waits, so that nothing is offered; one in which a block of an
-- earlier round waits still; and one in which a buffer that is offered gets an answer
abbrev pub waiting_round : ℕ → ℕ → Round
waiting_round front now = record { front = front; now = now; link = waiting }

abbrev pub blocked_round : ℕ → ℕ → Round
blocked_round front now = record { front = front; now = now; link = blocked }

abbrev pub answered_round : ℕ → ℕ → Answer → Round
answered_round front now answer = record { front = front; now = now; link = free answer }

abbrev pub placed_after : Terms → List Entry → List Round → Placed → Placed
placed_after t entries [] p = p
placed_after t entries (r ∷ rounds) p = placed_after t entries rounds
    (placed_after_round t entries r p)

-- a delivery stands for the rounds that were made with it since the START of these terms, over each
-- archive of which its looks saw fronts: they don't fall, from the first position on, which is a
-- place of it, and the link failed in none of the rounds
pub record StandsFor (c : Course) (t : Terms) (entries : List Entry) (rounds : List Round) : Type
    0 where
  pub some : 0 < t.size
  pub archive : IsArchive entries
  pub first : t.selection.first ≤ length entries
  pub rise : FrontsRise t.selection.first rounds
  pub going : all_go_on rounds ≡ true
  pub run : c.run ≡ Some (record {
    terms = t;
    placed = said_placed (placed_after t entries rounds (placed_at_start t));
  })

-- a glimpse is what a look gives of the archive's next front
pub record IsNextLook (g : Glimpse) (c : Course) (t : Terms) (entries : List Entry)
    (rounds : List Round) : Type 0 where
  pub shown : g ≡ as_said (glimpse (take g.front entries) (want_of_course c))
  pub later : last_front t.selection.first rounds ≤ g.front

-- ---- in the counts of picked entries

-- the delivery after the step of the round behind these
abbrev pub at_front : Terms → List Entry → List Round → ℕ → ℕ → Delivery
at_front t entries rounds front now =
    at_round t entries (waiting_round front now) (after_rounds t entries rounds started)

-- what was handed over in rounds, buffer by buffer
abbrev pub handed_over : Terms → List Entry → List Round → List (List Item)
handed_over t entries rounds = handed_buffers (outcomes t entries rounds started)

-- the same as it is told, each frame with its continuity
abbrev pub handed_told : Terms → List Entry → List Round → List (List ToldItem)
handed_told t entries rounds = told_buffers entries None (handed_over t entries rounds)

abbrev pub said_told : List (List ToldItem) → List (List ToldItem)
said_told told = map (λ (buffer : List ToldItem). map said_of buffer) told

-- the buffer that is due in a round behind these, as it is told
abbrev pub due_told : Terms → List Entry → List Round → ℕ → ℕ → List ToldItem
due_told t entries rounds front now =
    told_items entries (last_frame None (flat_map (λ b. b) (handed_over t entries rounds)))
    (buffer (picked_at t entries front) (at_front t entries rounds front now))

-- a step was taken behind these rounds: the delivery stands for one more, in which a buffer that is
-- due waits for an answer; a buffer is to be offered exactly where the delivery by counts has one
-- fixed, and it is the same
pub record Steps (c : Course) (t : Terms) (entries : List Entry) (rounds : List Round)
    (front now : ℕ) : Type 0 where
  pub stands : StandsFor c t entries (rounds ++ waiting_round front now ∷ [])
  pub offers : is_offering c ≡ (at_front t entries rounds front now).fixed
  pub items : is_offering c ≡ true → held_of c ≡ map said_of (due_told t entries rounds front now)

-- what an answer did to a delivery: what became of the buffer that is offered, and what was handed
-- over
abbrev pub fate_of : Course → Terms → Answer → Outcome
fate_of c t answer = if is_offering c then placed_fate t answer (items_of (held_of c)) else nothing

abbrev pub handed_by : Course → Answer → List (List ToldItem)
handed_by c answer = if is_offering c then option_to_list (told_where answer (held_of c)) else []

-- an answer was taken to the round behind these: unless the link failed, the delivery stands for
-- them and this round; and what the delivery by counts does in this round is what was done, handed
-- over and told
pub record Settles (old new : Course) (t : Terms) (entries : List Entry) (rounds : List Round)
    (front now : ℕ) (answer : Answer) : Type 0 where
  pub stands : goes_on (free answer) ≡ true
      → StandsFor new t entries (rounds ++ answered_round front now answer ∷ [])
  pub done : said_outcomes (outcomes t entries (rounds ++ answered_round front now answer ∷ [])
      started)
      ≡ said_outcomes (outcomes t entries rounds started) ++ fate_of old t answer ∷ []
  pub told : said_told (handed_told t entries (rounds ++ answered_round front now answer ∷ []))
      ≡ said_told (handed_told t entries rounds) ++ handed_by old answer
