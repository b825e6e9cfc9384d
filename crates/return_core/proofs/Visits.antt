-- A delivery stands for the rounds of its visits.
use Rattle.std.proofs.Common.{◌≡◌, ℕ, ◌≤◌, Bool, true, ◌&&◌, List, [], ◌∷◌, ◌++◌}
use Rattle.std.proofs.Common.{Some, None, refl, sym, ap, ◌∙◌, append_assoc, arith}
use Rattle.std.proofs.lemmas.List.{append-nil, map-append}
use Rattle.std.proofs.lemmas.List.Elements.{filter_map-append}
use Rattle.std.proofs.lemmas.List.Folds.{fold-map}
use Rattle.archive_terms.specs.Archive.{Entry}
use Rattle.archive_terms.specs.Delivery.{Item, Terms, started}
use Rattle.archive_terms.specs.Rounds.{Answer, Round, Outcome, nothing, last_front, outcomes}
use Rattle.archive_terms.specs.Rounds.{handed_buffers}
use Rattle.archive_terms.specs.Continuity.{told_buffers}
use Rattle.return_core.specs.Course.{Course, with_step}
use Rattle.return_core.specs.Standing.{StandsFor, goes_on, handed_told, said_told}
use Rattle.return_core.specs.Standing.{said_items, said_outcome, said_outcomes, fate_of}
use Rattle.return_core.specs.Standing.{all_go_on, waiting_round}
use Rattle.return_core.specs.Visits.{Visit, passed, stepped, round_of, front_of, visited}
use Rattle.return_core.specs.Visits.{after_visits, handed_in, visits_handed, fate_by, done_in}
use Rattle.return_core.specs.Visits.{visits_done, items_told, discard_told, discards_told, IsLook}
use Rattle.return_core.specs.Visits.{AreLooks, rounds_of, VisitsStand}
use Rattle.return_core.proofs.ItemsSaid.{backlog_said}
use Rattle.return_core.proofs.Behind.{PlacesAreCounts}
use Rattle.return_core.proofs.Stands.{steps, settles, blocked_stands, nothing_done}

abbrev pub Law : Type 0
Law =
    (c : Course) (t : Terms) (entries : List Entry) (rounds : List Round)
    → StandsFor c t entries rounds → PlacesAreCounts t entries

pub last_behind : (from : ℕ) (rounds : List Round) (r : Round)
    → last_front from (rounds ++ r ∷ []) ≡ r.front
last_behind from [] r = refl
last_behind from (q ∷ rounds) r = last_behind q.front rounds r

-- ---- what is told of discards is what its items say

count_said : (items : List Item) → items_told (said_items items) ≡ items_told items
count_said items = simp (fold-map, backlog_said)

discard_said : (o : Outcome) → discard_told (said_outcome o) ≡ discard_told o
discard_said o = grind (arith, count_said)

discards_said : (done : List Outcome) → discards_told (said_outcomes done) ≡ discards_told done
discards_said [] = refl
discards_said (o ∷ done) = cc (discard_said o, discards_said done)

discards_behind : (before after more : List Outcome)
    → said_outcomes after ≡ said_outcomes before ++ more
    → discards_told after ≡ discards_told before ++ discards_told more
discards_behind before after more e =
    sym (discards_said after) ∙ ap discards_told e
    ∙ filter_map-append discard_told (said_outcomes before) more
    ∙ ap (λ xs. xs ++ discards_told more) (discards_said before)

-- ---- one visit

-- a round in which nothing is done hands nothing over
told_none : (t : Terms) (entries : List Entry) (before after : List Outcome)
    → after ≡ before ++ nothing ∷ []
    → said_told (told_buffers entries None (handed_buffers after))
    ≡ said_told (told_buffers entries None (handed_buffers before)) ++ []
told_none t entries before after e = rw (e, filter_map-append, append-nil, append-nil) refl

done_none : (before after : List Outcome) → after ≡ before ++ nothing ∷ []
    → said_outcomes after ≡ said_outcomes before ++ nothing ∷ []
done_none before after e = ap said_outcomes e ∙ map-append said_outcome before (nothing ∷ [])

-- a visit's round stands, and what it did and handed over is what the delivery by counts does
pub record OneStands (c : Course) (t : Terms) (entries : List Entry) (rounds : List Round)
    (v : Visit) : Type 0 where
  pub stands : StandsFor (visited v c) t entries (rounds ++ round_of v ∷ [])
  pub done : said_outcomes (outcomes t entries (rounds ++ round_of v ∷ []) started)
      ≡ said_outcomes (outcomes t entries rounds started) ++ done_in v c ∷ []
  pub told : said_told (handed_told t entries (rounds ++ round_of v ∷ []))
      ≡ said_told (handed_told t entries rounds) ++ handed_in v c

-- the terms of a delivery that stands for rounds are those of its START
fate_same : (c : Course) (t : Terms) (entries : List Entry) (rounds : List Round) (answer : Answer)
    → StandsFor c t entries rounds → fate_of c t answer ≡ fate_by c answer
fate_same c t entries rounds answer s = rw s.run refl

pub one_stands : Law → (c : Course) (t : Terms) (entries : List Entry) (rounds : List Round)
    (v : Visit) → StandsFor c t entries rounds → last_front t.selection.first rounds ≤ front_of v
    → IsLook entries c v → goes_on (round_of v).link ≡ true → OneStands c t entries rounds v
one_stands law c t entries rounds (passed front now) s later look goes = record {
  stands = blocked_stands c t entries rounds front now s later;
  done = done_none _ _ (nothing_done t entries rounds _ s.going refl);
  told = told_none t entries _ _ (nothing_done t entries rounds _ s.going refl);
}
one_stands law c t entries rounds (stepped g now None) s later look goes =
    let step = steps c t entries rounds g now (law c t entries rounds s) s
    (record { shown = look; later = later }) in
    record {
      stands = step.stands;
      done = done_none _ _ (nothing_done t entries rounds _ s.going refl);
      told = told_none t entries _ _ (nothing_done t entries rounds _ s.going refl);
    }
one_stands law c t entries rounds (stepped g now (Some answer)) s later look goes =
    let step = steps c t entries rounds g now (law c t entries rounds s) s
    (record { shown = look; later = later }) in
    let settled = settles (with_step c g now) t entries rounds g.front now answer
    (law c t entries rounds s) step.stands in
    record {
      stands = settled.stands goes;
      done = settled.done
          ∙ ap (λ o. said_outcomes (outcomes t entries rounds started) ++ o ∷ [])
          (fate_same (with_step c g now) t entries (rounds ++ waiting_round g.front now ∷ []) answer
          step.stands);
      told = settled.told;
    }

pub front_same : (v : Visit) → (round_of v).front ≡ front_of v
front_same (passed front now) = refl
front_same (stepped g now None) = refl
front_same (stepped g now (Some answer)) = refl

pub both : (a b : Bool) → (a && b) ≡ true → (a ≡ true) × (b ≡ true)
both a b e = grind arith

-- ---- all of them

joined : {X : Type 0} → (a b c d e : List X) → a ≡ b ++ c → b ≡ d ++ e → a ≡ d ++ (e ++ c)
joined a b c d e p q = p ∙ ap (λ xs. xs ++ c) q ∙ append_assoc d e c

-- the parts of what the law says that are proved over the list
pub record AllStand (c : Course) (t : Terms) (entries : List Entry) (rounds : List Round)
    (visits : List Visit) : Type 0 where
  pub stands : StandsFor (after_visits visits c) t entries (rounds ++ rounds_of visits)
  pub done : said_outcomes (outcomes t entries (rounds ++ rounds_of visits) started)
      ≡ said_outcomes (outcomes t entries rounds started) ++ visits_done visits c
  pub told : said_told (handed_told t entries (rounds ++ rounds_of visits))
      ≡ said_told (handed_told t entries rounds) ++ visits_handed visits c

all_stand : Law → (c : Course) (t : Terms) (entries : List Entry) (rounds : List Round)
    (visits : List Visit) → StandsFor c t entries rounds
    → AreLooks entries (last_front t.selection.first rounds) c visits
    → all_go_on (rounds_of visits) ≡ true → AllStand c t entries rounds visits
all_stand law c t entries rounds [] s looks goes = record {
  stands = rw append-nil s;
  done = rw (append-nil, append-nil) refl;
  told = rw (append-nil, append-nil) refl;
}
all_stand law c t entries rounds (v ∷ visits) s looks goes =
    let go = both _ _ goes in
    let one = one_stands law c t entries rounds v s looks.0 looks.1.0 go.0 in
    let rest = all_stand law (visited v c) t entries (rounds ++ round_of v ∷ []) visits
    one.stands (rw (last_behind t.selection.first rounds (round_of v), front_same v) looks.1.1) go.1
    in
    let whole : (rounds ++ round_of v ∷ []) ++ rounds_of visits
    ≡ rounds ++ round_of v ∷ rounds_of visits =
    append_assoc rounds (round_of v ∷ []) (rounds_of visits) in
    record {
      stands = rw whole at rest.stands;
      done = joined _ _ _ _ _
          (ap (λ rs. said_outcomes (outcomes t entries rs started)) (sym whole) ∙ rest.done)
          one.done;
      told = joined _ _ _ _ _
          (ap (λ rs. said_told (handed_told t entries rs)) (sym whole) ∙ rest.told)
          one.told;
    }

pub visits_stand : Law → (c : Course) (t : Terms) (entries : List Entry) (rounds : List Round)
    (visits : List Visit) → StandsFor c t entries rounds
    → AreLooks entries (last_front t.selection.first rounds) c visits
    → all_go_on (rounds_of visits) ≡ true → VisitsStand c t entries rounds visits
visits_stand law c t entries rounds visits s looks goes =
    let all = all_stand law c t entries rounds visits s looks goes in
    record {
      stands = all.stands;
      done = all.done;
      told = all.told;
      discards = discards_behind (outcomes t entries rounds started) _ (visits_done visits c)
          all.done;
    }
