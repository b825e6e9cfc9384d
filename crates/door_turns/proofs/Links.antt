-- The links that a worker serves, one after another.
use Rattle.std.proofs.Common.{◌≡◌, ℕ, ◌+◌, ◌<◌, ◌≤◌, List, [], ◌++◌, Option, true, false, refl, ap}
use Rattle.std.proofs.Common.{subst, sym, ◌∙◌, arith}
use Rattle.cds_time.specs.declared.cds.Cds.{Cds}
use Rattle.link_model.specs.declared.call.Call.{Call as LinkCall}
use Rattle.door_model.specs.Shown.{Shown}
use Rattle.turn_lock.specs.PassState.{PassState, Lock}
use Rattle.turn_lock.specs.declared.view.Mark.{Mark}
use Rattle.station_config.specs.declared.site.Site.{Site}
use Rattle.station_book.specs.State.{Opening, Event}
use Rattle.station_turns.specs.Turned.{IsReady}
use Rattle.station_turns.specs.Gained.{Gains}
use Rattle.station_seats.specs.declared.report.DoorReport.{DoorReport}
use Rattle.door_turns.specs.Visits.{WorkerState, ServesLink, Came}
use Rattle.door_turns.specs.Working.{report, turns_of_link, events_of_link, Visits, none, more}
use Rattle.door_turns.specs.Working.{Ends, Served}
use Rattle.door_turns.specs.Working as working
use Rattle.door_turns.specs.declared.visit.Visit.{Visit}
use Rattle.door_turns.specs.declared.visit.Visit.TheVariants as visit

module _ {G L C : Type 0} (shown : G → Option Shown) (faults : G → ℕ)
    (calls : L → Option (List LinkCall)) (link_faults : L → ℕ) (readings : C → Option (List Cds))
    (lock : Lock Opening) (site : Site) (door draw links : ℕ) where
  abbrev Links : ℕ → ℕ → List (Mark Event) → WorkerState G C → WorkerState G C → Type 0
  Links count spent gained a b = Visits shown faults calls link_faults readings lock site door draw
      count spent gained a b

  -- so far these links were served
  pub record Going (said : DoorReport) (start now : WorkerState G C) : Type 0 where
    pub said_is : said ≡ report said.links false false false
    pub few : said.links ≤ links
    pub spent : ℕ
    pub gained : List (Mark Event)
    pub visits : Links said.links spent gained start now
    pub gains : Gains lock spent gained start.pass now.pass
    pub left : 1 ≤ now.pass.left

module _ {G L C : Type 0} (shown : G → Option Shown) (faults : G → ℕ)
    (calls : L → Option (List LinkCall)) (link_faults : L → ℕ) (readings : C → Option (List Cds))
    (lock : Lock Opening) (site : Site) (door draw links : ℕ)
    (none_gained : (pass : PassState Event Opening) → IsReady lock pass → Gains lock 0 [] pass pass)
    (both_gained : (m n : ℕ) (xs ys : List (Mark Event)) (p q r : PassState Event Opening)
    → Gains lock m xs p q → Gains lock n ys q r → Gains lock (m + n) (xs ++ ys) p r) where
  abbrev So : DoorReport → WorkerState G C → WorkerState G C → Type 0
  So said start now = Going shown faults calls link_faults readings lock site door draw links said start now

  abbrev Link : Visit → WorkerState G C → WorkerState G C → Type 0
  Link said a b = ServesLink shown faults calls link_faults readings lock site door draw said a b

  abbrev turns : (said : Visit) (a b : WorkerState G C) → Link said a b → ℕ
  turns said a b s =
      turns_of_link shown faults calls link_faults readings lock site door draw said a b s

  abbrev events : (said : Visit) (a b : WorkerState G C) → Link said a b → List (Mark Event)
  events said a b s =
      events_of_link shown faults calls link_faults readings lock site door draw said a b s

  pub going_none : (start : WorkerState G C) → IsReady lock start.pass → 1 ≤ start.pass.left
      → So (report 0 false false false) start start
  going_none start ready left = record {
    said_is = refl;
    few = omega arith;
    spent = 0;
    gained = [];
    visits = none start;
    gains = none_gained start.pass ready;
    left = left;
  }

  -- what a link's serving gained
  link_gains : (said : Visit) (a b : WorkerState G C) → (s : Link said a b) → Gains lock
      (turns_of_link shown faults calls link_faults readings lock site door draw said a b s)
      (events_of_link shown faults calls link_faults readings lock site door draw said a b s)
      a.pass b.pass
  link_gains said a b s = s.given.serves.gains

  pub going_on : (said said_now : DoorReport) (start now next : WorkerState G C)
      → So said start now → said.links < links → Link visit.Served now next
      → 1 ≤ next.pass.left → said_now ≡ record said { links = said.links + 1 }
      → So said_now start next
  going_on said said_now start now next going lt s left is =
      subst (λ r. So r start next)
      (sym (is ∙ ap {A = DoorReport} (λ r. record r { links = said.links + 1 }) going.said_is)) (record {
        said_is = refl;
        few = omega (arith, lt);
        spent = going.spent
            + turns_of_link shown faults calls link_faults readings lock site door draw visit.Served
            now next s;
        gained = going.gained
            ++ events_of_link shown faults calls link_faults readings lock site door draw
            visit.Served now next s;
        visits = more said.links going.spent going.gained start now next going.visits s;
        gains = both_gained _ _ _ _ _ _ _ going.gains (link_gains visit.Served now next s);
        left = left;
      })

  -- how a worker ended whose links so far are those of `going`, with these turns and events behind
  ended_with : (said said_now : DoorReport) (start now at : WorkerState G C) (spent : ℕ)
      (last : List (Mark Event)) → (going : So said start now)
      → Ends shown faults calls link_faults readings lock site door draw links said_now said.links
      spent last now at
      → Gains lock spent last now.pass at.pass
      → Served shown faults calls link_faults readings lock site door draw links said_now start at
  ended_with said said_now start now at spent last going ends gains = record {
    count = said.links;
    spent = going.spent;
    gained = going.gained;
    met = now;
    visits = going.visits;
    last_spent = spent;
    last = last;
    ends = ends;
    gains = both_gained _ _ _ _ _ _ _ going.gains gains;
  }

  abbrev ServedTo : DoorReport → WorkerState G C → WorkerState G C → Type 0
  ServedTo said start at = Served shown faults calls link_faults readings lock site door draw links
      said start at

  abbrev EndsTo : DoorReport → ℕ → ℕ → List (Mark Event) → WorkerState G C → WorkerState G C → Type 0
  EndsTo said count spent last met at = Ends shown faults calls link_faults readings lock site door
      draw links said count spent last met at

  -- all links that it may serve were served
  pub served_all : (said : DoorReport) (start now : WorkerState G C) → So said start now
      → ¬ (said.links < links) → ServedTo said start now
  served_all said start now going not_less =
      let all : said.links ≡ links = omega (arith, going.few, not_less) in
      let is : said ≡ report links false false false =
      going.said_is ∙ ap (λ n. report n false false false) all in
      let ends : EndsTo said said.links 0 [] now now =
      subst (λ r. EndsTo r said.links 0 [] now now) (sym is)
      (subst (λ n. EndsTo (report links false false false) n 0 [] now now) (sym all)
      (working.all_links now)) in
      ended_with said said start now now 0 [] going ends (none_gained now.pass going.gains.ready)

  -- the door gave none, or failed; or too few turns were left
  pub served_none : (said : DoorReport) (start now at : WorkerState G C) → So said start now
      → said.links < links
      → Came shown faults calls link_faults readings lock site door draw visit.NoMore now at
      → ServedTo said start at
  served_none said start now at going lt came =
      let ends : EndsTo said said.links 0 [] now at =
      subst (λ r. EndsTo r said.links 0 [] now at) (sym going.said_is)
      (working.no_more said.links now at lt came) in
      ended_with said said start now at 0 [] going ends
      (subst (λ p. Gains lock 0 [] now.pass p) (sym came.0.pass)
      (none_gained now.pass going.gains.ready))

  pub served_failed : (said said_now : DoorReport) (start now at : WorkerState G C)
      → So said start now → said.links < links
      → Came shown faults calls link_faults readings lock site door draw visit.Failed now at
      → said_now ≡ record said { failed = true } → ServedTo said_now start at
  served_failed said said_now start now at going lt came is =
      let ends : EndsTo said_now said.links 0 [] now at =
      subst (λ r. EndsTo r said.links 0 [] now at)
      (sym (is ∙ ap {A = DoorReport} (λ r. record r { failed = true }) going.said_is))
      (working.failed said.links now at lt came) in
      ended_with said said_now start now at 0 [] going ends
      (subst (λ p. Gains lock 0 [] now.pass p) (sym came.0.pass)
      (none_gained now.pass going.gains.ready))

  pub served_few : (said said_now : DoorReport) (start now : WorkerState G C)
      → So said start now → said.links < links → now.pass.left < 3
      → said_now ≡ record said { spent = true } → ServedTo said_now start now
  served_few said said_now start now going lt few is =
      let ends : EndsTo said_now said.links 0 [] now now =
      subst (λ r. EndsTo r said.links 0 [] now now)
      (sym (is ∙ ap {A = DoorReport} (λ r. record r { spent = true }) going.said_is))
      (working.too_few said.links now lt few) in
      ended_with said said_now start now now 0 [] going ends
      (none_gained now.pass going.gains.ready)

  -- turns or memory ran out in a link
  pub served_spent : (said said_now : DoorReport) (start now at : WorkerState G C)
      → So said start now → said.links < links → Link visit.Spent now at
      → said_now ≡ record said { links = said.links + 1; spent = true }
      → ServedTo said_now start at
  served_spent said said_now start now at going lt s is =
      ended_with said said_now start now at (turns visit.Spent now at s) (events visit.Spent now at s) going
      (subst (λ r. EndsTo r said.links (turns visit.Spent now at s) (events visit.Spent now at s) now at)
      (sym (is
      ∙ ap {A = DoorReport} (λ r. record r { links = said.links + 1; spent = true })
      going.said_is)) (working.spent said.links now at lt s))
      (link_gains visit.Spent now at s)

  pub served_memory : (said said_now : DoorReport) (start now at : WorkerState G C)
      → So said start now → said.links < links → Link visit.Memory now at
      → said_now ≡ record said { links = said.links + 1; memory = true }
      → ServedTo said_now start at
  served_memory said said_now start now at going lt s is =
      ended_with said said_now start now at (turns visit.Memory now at s) (events visit.Memory now at s) going
      (subst (λ r. EndsTo r said.links (turns visit.Memory now at s) (events visit.Memory now at s) now at)
      (sym (is
      ∙ ap {A = DoorReport} (λ r. record r { links = said.links + 1; memory = true })
      going.said_is)) (working.memory said.links now at lt s))
      (link_gains visit.Memory now at s)
