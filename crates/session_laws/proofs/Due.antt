-- A buffer that a START is due is offered.
use Rattle.std.proofs.Common.{◌≡◌, ℕ, ◌≤◌, Bool, true, false, not, ◌&&◌, List, [], ◌∷◌, ◌++◌}
use Rattle.std.proofs.Common.{Option, Some, None, is_some, sym, ◌∙◌, arith, subst}
use Rattle.archive_terms.specs.Archive.{Entry}
use Rattle.archive_terms.specs.Delivery.{Terms}
use Rattle.archive_terms.specs.Glimpse.{Glimpse}
use Rattle.archive_terms.specs.Rounds.{Round as DeliveryRound, last_front}
use Rattle.return_core.specs.Course.{Course, with_step, is_offering, held_of}
use Rattle.return_core.specs.Standing.{StandsFor, Steps, waiting_round, at_front}
use Rattle.return_core.specs.Visits.{stepped as visit_stepped, IsLook}
use Rattle.buffer_message.specs.Fitting.{fits_message}
use Rattle.buffer_message.specs.declared.limits.TheConstants.{MOST_ITEMS}
use Rattle.station_config.specs.declared.site.Site.{Site}
use Rattle.session_core.specs.Course.{is_blocked}
use Rattle.session_core.specs.Steps.{has_block}
use Rattle.session_core.specs.Session.{State, Round, BookAnswer, IsRound, before_step, before_speak}
use Rattle.session_core.specs.Session.{after_round, standing_spoke}
use Rattle.session_core.specs.Laws.{ServiceLeaves}
use Rattle.session_laws.specs.Deliveries.{Delivers, is_serving, IsLookAt, DueIsOffered}
use Rattle.session_laws.specs.Fitting.{HeldFits}
use Rattle.session_laws.proofs.Deliveries.{delivers_as, delivers_same, same_listened, going_back}
use Rattle.session_laws.proofs.Deliveries.{listened_serving, told_due, visits}

-- the law of a delivery's step, as its crate has it
abbrev pub StepOffers : Type 0
StepOffers =
    (c : Course) (t : Terms) (entries : List Entry) (rounds : List DeliveryRound) (g : Glimpse)
    (now : ℕ)
    → StandsFor c t entries rounds → last_front t.selection.first rounds ≤ g.front
    → IsLook entries c (visit_stepped g now None) → Steps (with_step c g now) t entries rounds g.front now

fits_so : (block offers fits due : Bool) → fits ≡ true → offers ≡ due
    → (not block && (offers && fits)) ≡ (not block && due)
fits_so block offers fits due fit same = grind arith

module _ (leaves : ServiceLeaves) (fits : HeldFits) (step : StepOffers) (entries : List Entry)
    (site : Site) (s : State) (c : Course) (t : Terms) (earlier : List DeliveryRound)
    (stood : StandsFor c t entries earlier) (few : t.size ≤ MOST_ITEMS) (d : Delivers s.standing c)
    (before : is_serving s.standing ≡ true) where
  -- a round in which the book told this
  abbrev told_so : Round → Option BookAnswer → Round
  told_so r told = record r { told = told }

  due_so : (r : Round) (told : BookAnswer) → IsRound site s (told_so r (Some told))
      → is_serving (after_round site s (told_so r (Some told))).standing ≡ true
      → IsLookAt entries (last_front t.selection.first earlier) site (before_step s r) (Some told)
      → is_blocked (before_step s r).standing.arrival ≡ false
      → is_some r.sent
      ≡ (not (has_block (standing_spoke (before_speak site s (told_so r (Some told))).standing r.spoke))
      && (at_front t entries earlier told.answer.glimpse.front told.moment).fixed)
  due_so r told is serving look clear =
      let u : State = before_step s r in
      let g : Glimpse = told.answer.glimpse in
      let z = standing_spoke (before_speak site s (told_so r (Some told))).standing r.spoke in
      let same = same_listened s r.waited r.heard in
      let going = going_back d.kind leaves entries site u (told_so r (Some told)) serving in
      let serves = listened_serving s.standing u.standing same going before in
      let own = delivers_same d.kind s.standing u.standing c same (delivers_as s.standing c d) in
      let one =
      visits d.kind leaves entries site (last_front t.selection.first earlier) u told r.spoke r.sent c
      serves own look is.speaks.sends serving false clear in
      let next : Course = with_step c g told.moment in
      let steps = step c t entries earlier g told.moment stood look.0 one.look in
      let fit : fits_message (held_of next) ≡ true =
      fits next t entries (earlier ++ waiting_round g.front told.moment ∷ []) steps.stands few in
      told_due d.kind leaves site u told r.spoke r.sent c serves own is.speaks.sends serving clear
      ∙ fits_so (has_block z) (is_offering next) (fits_message (held_of next))
      (at_front t entries earlier g.front told.moment).fixed fit steps.offers

pub due_buffers : ServiceLeaves → HeldFits → StepOffers → DueIsOffered
due_buffers leaves fits step entries site s r c t earlier told is stood few d before serving asked look
    clear =
    subst
    (λ (o : Option BookAnswer).
    IsRound site s (record r { told = o })
    → is_serving (after_round site s (record r { told = o })).standing ≡ true
    → is_some r.sent
    ≡ (not (has_block (standing_spoke (before_speak site s (record r { told = o })).standing r.spoke))
    && (at_front t entries earlier told.answer.glimpse.front told.moment).fixed))
    (sym asked)
    (λ round served.
    due_so leaves fits step entries site s c t earlier stood few d before r told round served look clear)
    is serving
