-- What the rounds of a session do with a delivery, as the session has it: a step on a look, and the
-- link's answer to the buffer that is offered then. A session needs no archive and no list to say
-- this; the rounds of the delivery are a function of it.
use Rattle.std.specs.Prelude.{◌≡◌, ℕ, ◌≤◌, not, if◌then◌else◌, Option, Some, None, List, [], ◌∷◌}
use Rattle.std.specs.Prelude.{◌++◌, map, take}
use Rattle.std.specs.List.{count_by, filter_map}
use Rattle.std.specs.Option.{option_map, option_map_or}
use Rattle.archive_terms.specs.Archive.{Entry}
use Rattle.archive_terms.specs.Delivery.{Item, is_backlog, Terms, started}
use Rattle.archive_terms.specs.Rounds.{Answer, Outcome, nothing, Round, outcomes}
use Rattle.archive_terms.specs.Glimpse.{Glimpse, glimpse}
use Rattle.archive_terms.specs.Placed.{ToldItem, items_of, placed_fate}
use Rattle.frame_select.specs.Glimpse.{as_said}
use Rattle.return_core.specs.Course.{Run, Course, with_step, with_answer, want_of_course}
use Rattle.return_core.specs.Standing.{StandsFor, blocked_round, waiting_round, answered_round}
use Rattle.return_core.specs.Standing.{handed_by, handed_told, said_told, said_outcomes}

-- ---- visits

-- a round in which a block of an earlier round waits, with the front and the moment; a step on a
-- look at a moment, and the answer to the buffer, where an offer was made
pub data Visit : Type 0 where
  passed : ℕ → ℕ → Visit
  stepped : Glimpse → ℕ → Option Answer → Visit

abbrev pub round_of : Visit → Round
round_of (passed front now) = blocked_round front now
round_of (stepped g now None) = waiting_round g.front now
round_of (stepped g now (Some answer)) = answered_round g.front now answer

abbrev pub rounds_of : List Visit → List Round
rounds_of visits = map round_of visits

abbrev pub front_of : Visit → ℕ
front_of (passed front now) = front
front_of (stepped g now answer) = g.front

-- the delivery after an answer, if there was one, after a visit, and after visits
abbrev pub answered_by : Option Answer → Course → Course
answered_by None c = c
answered_by (Some answer) c = with_answer c answer

abbrev pub visited : Visit → Course → Course
visited (passed front now) c = c
visited (stepped g now answer) c = answered_by answer (with_step c g now)

abbrev pub after_visits : List Visit → Course → Course
after_visits [] c = c
after_visits (v ∷ visits) c = after_visits visits (visited v c)

-- ---- what they did

-- the buffers that were handed over, each item as it is told
abbrev pub handed_where : Option Answer → Course → List (List ToldItem)
handed_where None c = []
handed_where (Some answer) c = handed_by c answer

abbrev pub handed_in : Visit → Course → List (List ToldItem)
handed_in (passed front now) c = []
handed_in (stepped g now answer) c = handed_where answer (with_step c g now)

abbrev pub visits_handed : List Visit → Course → List (List ToldItem)
visits_handed [] c = []
visits_handed (v ∷ visits) c = handed_in v c ++ visits_handed visits (visited v c)

-- what became of the buffer that is offered, by the terms of the START that runs
abbrev pub run_fate : Answer → Run → Outcome
run_fate answer r =
    if r.placed.fixed then placed_fate r.terms answer (items_of r.placed.held) else nothing

abbrev pub fate_by : Course → Answer → Outcome
fate_by c answer = option_map_or (run_fate answer) c.run nothing

abbrev pub done_where : Option Answer → Course → Outcome
done_where None c = nothing
done_where (Some answer) c = fate_by c answer

abbrev pub done_in : Visit → Course → Outcome
done_in (passed front now) c = nothing
done_in (stepped g now answer) c = done_where answer (with_step c g now)

abbrev pub visits_done : List Visit → Course → List Outcome
visits_done [] c = []
visits_done (v ∷ visits) c = done_in v c ∷ visits_done visits (visited v c)

-- what a discard tells: how many items the discarded buffer had, a backlog not counted
abbrev pub items_told : List Item → ℕ
items_told items = count_by (λ item. not (is_backlog item)) items

abbrev pub discard_told : Outcome → Option ℕ
discard_told o = option_map items_told o.dropped

abbrev pub discards_told : List Outcome → List ℕ
discards_told done = filter_map discard_told done

-- ---- looks

-- each look is the wanted one at the archive's front, and fronts don't fall
abbrev pub IsLook : List Entry → Course → Visit → Type 0
IsLook entries c (passed front now) = Unit {0}
IsLook entries c (stepped g now answer) =
    g ≡ as_said (glimpse (take g.front entries) (want_of_course c))

abbrev pub AreLooks : List Entry → ℕ → Course → List Visit → Type 0
AreLooks entries from c [] = Unit {0}
AreLooks entries from c (v ∷ visits) =
    (from ≤ front_of v) × (IsLook entries c v × AreLooks entries (front_of v) (visited v c) visits)

-- ---- their rounds

-- a delivery that stood for rounds stands for these and those of its visits; and what these did,
-- handed over and told of discards is what the delivery by counts does in their rounds
pub record VisitsStand (c : Course) (t : Terms) (entries : List Entry) (rounds : List Round)
    (visits : List Visit) : Type 0 where
  pub stands : StandsFor (after_visits visits c) t entries (rounds ++ rounds_of visits)
  pub done : said_outcomes (outcomes t entries (rounds ++ rounds_of visits) started)
      ≡ said_outcomes (outcomes t entries rounds started) ++ visits_done visits c
  pub told : said_told (handed_told t entries (rounds ++ rounds_of visits))
      ≡ said_told (handed_told t entries rounds) ++ visits_handed visits c
  pub discards : discards_told (outcomes t entries (rounds ++ rounds_of visits) started)
      ≡ discards_told (outcomes t entries rounds started) ++ discards_told (visits_done visits c)
