-- In rounds whose link takes each offer whole, each buffer that is due is taken.
use Rattle.std.proofs.Common.{◌≡◌, ℕ, ◌≤◌, Bool, true, false, cond, not, ◌&&◌, List, [], ◌∷◌, ◌++◌}
use Rattle.std.proofs.Common.{length, map, Option, Some, None, is_some, refl, ap, sym, ◌∙◌, arith, subst}
use Rattle.std.specs.List.{filter, list_all}
use Rattle.std.specs.Option.{option_map, option_to_list}
use Rattle.std.proofs.lemmas.Bool.{and_parts}
use Rattle.octet_core.specs.declared.offer.Offer.{Offer}
use Rattle.octet_core.specs.declared.offer.Offer.TheVariants.{Whole, Stalled, Failed as Refused}
use Rattle.archive_terms.specs.Archive.{Entry}
use Rattle.archive_terms.specs.Delivery.{Terms}
use Rattle.archive_terms.specs.Rounds as link
use Rattle.archive_terms.specs.Rounds.{Answer, whole, Link, Round as DeliveryRound, last_front}
use Rattle.link_model.specs.declared.call.Heard.{Heard}
use Rattle.link_model.specs.declared.call.Heard.TheVariants as heard
use Rattle.return_core.specs.Course.{Course, with_step, is_offering, held_of}
use Rattle.return_core.specs.Mode.{answer_of}
use Rattle.return_core.specs.Standing.{StandsFor, goes_on}
use Rattle.return_core.specs.Visits.{Visit, passed, stepped as visit_stepped, visited, front_of}
use Rattle.return_core.specs.Visits.{round_of, rounds_of, IsLook, AreLooks}
use Rattle.return_core.specs.Coming.{IsTaken, AreTaken, AreTakenOrKept, flagged}
use Rattle.return_pdu.specs.declared.return_kind.ReturnKind.{ReturnKind}
use Rattle.buffer_message.specs.Fitting.{fits_message}
use Rattle.buffer_message.specs.declared.limits.TheConstants.{MOST_ITEMS}
use Rattle.station_config.specs.declared.site.Site.{Site}
use Rattle.session_core.specs.declared.standing.Standing.{Standing}
use Rattle.session_core.specs.declared.course.Course.{Course as Going}
use Rattle.session_core.specs.Course.{is_going, is_live, is_blocked}
use Rattle.session_core.specs.Steps.{has_block, may_speak, round_begun}
use Rattle.session_core.specs.Session.{State, Round, BookAnswer, before_step}
use Rattle.session_core.specs.Session.{after_round, standing_waited, standing_heard, standing_spoke}
use Rattle.session_core.specs.Session.{AreRounds}
use Rattle.session_laws.specs.Deliveries.{ServesOn, SeeEntries, visits_of}
use Rattle.session_laws.specs.Deliveries.{visit_by, is_serving}
use Rattle.session_laws.specs.Owing.{is_whole, takes_each, all_take_each}
use Rattle.session_laws.specs.Fitting.{HeldFits}
use Rattle.session_laws.specs.Owing.{RoundsAreTaken, OwedComes, ReadyComes}
use Rattle.std.specs.Bool.{IsTrue, IsFalse}
use Rattle.std.proofs.Common.{take}
use Rattle.archive_terms.specs.Delivery.{Mode, started, is_timely}
use Rattle.archive_terms.specs.Rounds.{outcomes, handed_items, settled_items, without_backlog}
use Rattle.archive_terms.specs.Rounds.{to_hand_over, after_rounds}
use Rattle.archive_terms.specs.Progress.{keeps, is_to_tell, are_enough_at, ready_at}
use Rattle.archive_terms.specs.Progress.{unready_buffers}
use Rattle.archive_terms.specs.Progress.{after_fixed, is_last_late}
use Rattle.archive_terms.specs.Archive.{IsArchive}
use Rattle.archive_terms.specs.Selection.{is_stop_closed}
use Rattle.archive_terms.specs.Delivery.{Delivery, Item}
use Rattle.archive_terms.specs.Rounds.{FrontsRise, picked_at}
use Rattle.return_core.specs.Coming.{moment_of}
use Rattle.std.proofs.Common.{nat_le, nat_eq, ◌||◌, ◌+◌, ◌<◌}
use Rattle.std.proofs.lemmas.List.{length-map}
use Rattle.return_core.specs.Coming.{moments_of, all_find, HandsStill, HandsReady}
use Rattle.session_laws.proofs.Deliveries.{DeliversAs, delivers_as, a_sessions_rounds}
use Rattle.std.proofs.Common.{suc}
use Rattle.archive_terms.specs.Glimpse.{Glimpse, Want, glimpse}
use Rattle.frame_select.specs.Glimpse.{as_said}
use Rattle.session_services.specs.Inquiry.{reply_in}
use Rattle.session_core.specs.Steps.{may_send}
use Rattle.session_core.specs.Session.{next_of, stepped, spoken_state, standing_sent}
use Rattle.session_laws.specs.Deliveries.{IsLookAt, front_behind}
use Rattle.session_core.specs.Laws.{ServiceLeaves}
use Rattle.session_laws.proofs.Deliveries.{VisitStands, visits}
use Rattle.session_laws.proofs.Deliveries.{step_delivers, listened_serving, serves_now, going_back}
use Rattle.session_laws.proofs.Deliveries.{going_asks, delivers_same, same_listened, same_spoke}
use Rattle.session_laws.proofs.Deliveries.{same_serving, sent_serving, ended_serving, serving_going}
use Rattle.session_laws.proofs.Deliveries.{told_due}

-- a round whose block that waited was taken, if there was one, isn't blocked
never_blocked : (s : Standing) (waited : Option Offer) (heard : Option Heard)
    → is_whole waited ≡ true
    → is_blocked (standing_heard (standing_waited (round_begun s) waited) heard).arrival ≡ false
never_blocked s None None w = refl
never_blocked s None (Some (heard.Arrived octets)) w = refl
never_blocked s None (Some heard.Nothing) w = refl
never_blocked s None (Some heard.Closed) w = refl
never_blocked s None (Some heard.Failed) w = refl
never_blocked s (Some Whole) None w = refl
never_blocked s (Some Whole) (Some (heard.Arrived octets)) w = refl
never_blocked s (Some Whole) (Some heard.Nothing) w = refl
never_blocked s (Some Whole) (Some heard.Closed) w = refl
never_blocked s (Some Whole) (Some heard.Failed) w = refl
never_blocked s (Some Stalled) heard w = absurd (cc)
never_blocked s (Some Refused) heard w = absurd (cc)

going_live : (course : Going) → is_going course ≡ true → is_live course ≡ true
going_live course going = grind arith

nothing_there : (live block blocked : Bool) → false ≡ (live && block && not blocked)
    → live ≡ true → blocked ≡ false → block ≡ false
nothing_there live block blocked offers is clear = grind arith

-- after the round's own block was taken, if there was one, none waits
no_block : (y : Standing) (spoke : Option Offer) → is_some spoke ≡ may_speak y
    → is_going y.course ≡ true → is_blocked y.arrival ≡ false → is_whole spoke ≡ true
    → has_block (standing_spoke y spoke) ≡ false
no_block y None offers going clear w =
    nothing_there (is_live y.course) (has_block y) (is_blocked y.arrival) offers
    (going_live y.course going) clear
no_block y (Some Whole) offers going clear w = refl
no_block y (Some Stalled) offers going clear w = absurd (cc)
no_block y (Some Refused) offers going clear w = absurd (cc)

taken_is : (sent : Option Offer) (due : Bool) → is_whole sent ≡ true → is_some sent ≡ due
    → option_map answer_of sent ≡ cond due (Some whole) None
taken_is None due w is = ap (λ b. cond b (Some whole) None) is
taken_is (Some Whole) due w is = ap (λ b. cond b (Some whole) None) is
taken_is (Some Stalled) due w is = absurd (cc)
taken_is (Some Refused) due w is = absurd (cc)

all_due : (block offering fits sent : Bool) → sent ≡ (not block && (offering && fits))
    → block ≡ false → fits ≡ true → sent ≡ offering
all_due block offering fits sent is none fit = grind arith

last_is : (from : ℕ) (earlier : List DeliveryRound) (r : DeliveryRound)
    → last_front from (earlier ++ r ∷ []) ≡ r.front
last_is from [] r = refl
last_is from (q ∷ earlier) r = last_is q.front earlier r

front_same : (v : Visit) → (round_of v).front ≡ front_of v
front_same (passed front now) = refl
front_same (visit_stepped g now None) = refl
front_same (visit_stepped g now (Some answer)) = refl

-- a link that doesn't fail loses nothing, where no buffer is discarded
keeps_of : (mode : Mode) (l : Link) → is_timely mode ≡ false → goes_on l ≡ true
    → keeps mode l ≡ true
keeps_of mode link.blocked not_it goes = refl
keeps_of mode link.waiting not_it goes = refl
keeps_of mode (link.free whole) not_it goes = refl
keeps_of mode (link.free link.stall) not_it goes = ap not not_it
keeps_of mode (link.free link.fail) not_it goes = absurd (cc)
keeps_of mode link.broken not_it goes = absurd (cc)

both_go : (goes : Bool) → goes ≡ true → (goes && true) ≡ true
both_go goes e = grind arith

module _ (leaves : ServiceLeaves) (stands : VisitStands) (held_fit : HeldFits)
    (service : ReturnKind) (entries : List Entry) (site : Site) (terms : Terms)
    (few : terms.size ≤ MOST_ITEMS) where
  abbrev from_of : List DeliveryRound → ℕ
  from_of earlier = last_front terms.selection.first earlier

  -- a round is a visit, which is taken where the link takes each offer, and loses nothing
  record OneIs (t : State) (told : BookAnswer) (spoke sent : Option Offer) (c : Course)
      (earlier : List DeliveryRound) (v : Visit) : Type 0 where
    taken : is_blocked t.standing.arrival ≡ false → is_whole spoke ≡ true → is_whole sent ≡ true
        → IsTaken c v
    keeps : is_timely terms.mode ≡ false → keeps terms.mode (round_of v).link ≡ true
    stood : StandsFor (visited v c) terms entries (earlier ++ rounds_of (v ∷ []))
    now : DeliversAs service (spoken_state (stepped site t (Some told)) spoke sent).standing
        (visited v c)
    last : told.answer.glimpse.front ≡ from_of (earlier ++ rounds_of (v ∷ []))

  one_is : (t : State) (told : BookAnswer) (spoke sent : Option Offer) (c : Course)
      (earlier : List DeliveryRound) → StandsFor c terms entries earlier
      → is_serving t.standing ≡ true → DeliversAs service t.standing c
      → IsLookAt entries (from_of earlier) site t (Some told)
      → is_some spoke ≡ may_speak (stepped site t (Some told)).standing
      → is_some sent ≡ may_send (standing_spoke (stepped site t (Some told)).standing spoke)
      → is_serving (spoken_state (stepped site t (Some told)) spoke sent).standing ≡ true
      → OneIs t told spoke sent c earlier (visit_by (is_blocked t.standing.arrival) told sent)
  one_is t told spoke sent c earlier stood before d look offers sends serving =
      let g : Glimpse = told.answer.glimpse in
      let y : Standing = (stepped site t (Some told)).standing in
      let z : Standing = standing_spoke y spoke in
      let serving_y : is_serving y ≡ true =
      same_serving y z (same_spoke y spoke)
      (sent_serving z sent (ended_serving (standing_sent z sent) serving)) in
      let step =
      step_delivers service leaves site t.standing (next_of t) told.moment (reply_in told.answer) c
      before d serving_y in
      let blocked : Bool = is_blocked t.standing.arrival in
      let v : Visit = visit_by blocked told sent in
      let one =
      visits service leaves entries site (from_of earlier) t told spoke sent c before d look sends
      serving blocked refl in
      let looks : AreLooks entries (from_of earlier) c (v ∷ []) =
      (subst (λ n. from_of earlier ≤ n) one.front look.0, (one.look, tt)) in
      let none : blocked ≡ false → is_whole spoke ≡ true → has_block z ≡ false =
      λ clear whole_spoke.
      no_block y spoke offers (serving_going y serving_y) (ap is_blocked step.arrival ∙ clear)
      whole_spoke in
      let v_step : Visit = visit_stepped g told.moment None in
      let due : blocked ≡ false → is_whole spoke ≡ true
      → is_some sent ≡ is_offering (with_step c g told.moment) =
      λ clear whole_spoke.
      let look_step : IsLook entries c v_step =
      look.1 ∙ ap (λ (w : Want). as_said (glimpse (take g.front entries) w)) (step.wanted clear) in
      let stood_step = (stands c terms entries earlier (v_step ∷ []) stood
      (look.0, (look_step, tt)) refl).stands in
      let fit : fits_message (held_of (with_step c g told.moment)) ≡ true =
      held_fit (with_step c g told.moment) terms entries (earlier ++ rounds_of (v_step ∷ []))
      stood_step few in
      all_due (has_block z) (is_offering (with_step c g told.moment))
      (fits_message (held_of (with_step c g told.moment))) (is_some sent)
      (told_due service leaves site t told spoke sent c before d sends serving clear)
      (none clear whole_spoke) fit in
      record {
        taken = λ clear whole_spoke whole_sent.
            subst (λ b. IsTaken c (visit_by b told sent)) (sym clear)
            (taken_is sent (is_offering (with_step c g told.moment)) whole_sent
            (due clear whole_spoke));
        keeps = λ mode. keeps_of terms.mode (round_of v).link mode one.goes;
        stood = (stands c terms entries earlier (v ∷ []) stood looks
            (both_go (goes_on (round_of v).link) one.goes)).stands;
        now = one.now;
        last = one.front ∙ sym (front_same v)
            ∙ sym (last_is terms.selection.first earlier (round_of v));
      }

  -- so are rounds: where each takes each offer, and where no buffer is discarded
  pub record EachIs (c : Course) (flags : List Bool) (visits : List Visit) : Type 0 where
    pub taken : list_all (λ (flag : Bool). flag) flags ≡ true → AreTaken c visits
    pub kept : is_timely terms.mode ≡ false → AreTakenOrKept terms.mode c flags visits
    pub each : length visits ≡ length flags

  abbrev Visited : List Round → Type 0
  Visited rounds =
      (s : State) (c : Course) (earlier : List DeliveryRound) → StandsFor c terms entries earlier
      → DeliversAs service s.standing c → ServesOn site s rounds → AreRounds site s rounds
      → SeeEntries entries (from_of earlier) site s rounds
      → EachIs c (map takes_each rounds) (visits_of site s rounds)

  -- a visit and those after it
  each_and : (c : Course) (v : Visit) (visits : List Visit) (flags : List Bool) (flag : Bool)
      → (flag ≡ true → IsTaken c v)
      → (is_timely terms.mode ≡ false → keeps terms.mode (round_of v).link ≡ true)
      → EachIs (visited v c) flags visits → EachIs c (flag ∷ flags) (v ∷ visits)
  each_and c v visits flags true taken keep rest = record {
    taken = λ all. (taken refl, rest.taken all);
    kept = λ mode. (taken refl, rest.kept mode);
    each = ap suc rest.each;
  }
  each_and c v visits flags false taken keep rest = record {
    taken = λ all. absurd (cc);
    kept = λ mode. (keep mode, rest.kept mode);
    each = ap suc rest.each;
  }

  part : (rounds : List Round) → Visited rounds → (t : State) (told : Option BookAnswer)
      (spoke sent : Option Offer) (flag : Bool) (c : Course) (earlier : List DeliveryRound)
      → StandsFor c terms entries earlier → is_serving t.standing ≡ true
      → DeliversAs service t.standing c → is_some told ≡ true
      → IsLookAt entries (from_of earlier) site t told
      → is_some spoke ≡ may_speak (stepped site t told).standing
      → is_some sent ≡ may_send (standing_spoke (stepped site t told).standing spoke)
      → ServesOn site (spoken_state (stepped site t told) spoke sent) rounds
      → AreRounds site (spoken_state (stepped site t told) spoke sent) rounds
      → SeeEntries entries (front_behind (from_of earlier) told) site
      (spoken_state (stepped site t told) spoke sent) rounds
      → (flag ≡ true → (is_blocked t.standing.arrival ≡ false)
      × ((is_whole spoke ≡ true) × (is_whole sent ≡ true)))
      → EachIs c (flag ∷ map takes_each rounds)
      (option_to_list (option_map (λ x. visit_by (is_blocked t.standing.arrival) x sent) told)
      ++ visits_of site (spoken_state (stepped site t told) spoke sent) rounds)
  part rounds more t None spoke sent flag c earlier stood before d some look offers sends serves are
      sees wholes = absurd (cc)
  part rounds more t (Some told) spoke sent flag c earlier stood before d some look offers sends
      serves are sees wholes =
      let next : State = spoken_state (stepped site t (Some told)) spoke sent in
      let v : Visit = visit_by (is_blocked t.standing.arrival) told sent in
      let one = one_is t told spoke sent c earlier stood before d look offers sends
      (serves_now service leaves entries site next rounds serves) in
      let rest = more next (visited v c) (earlier ++ rounds_of (v ∷ [])) one.stood one.now serves are
      (subst (λ n. SeeEntries entries n site next rounds) one.last sees) in
      each_and c v (visits_of site next rounds) (map takes_each rounds) flag
      (λ is. one.taken (wholes is).0 (wholes is).1.0 (wholes is).1.1) one.keeps rest

  pub each_visited : (rounds : List Round) → Visited rounds
  each_visited [] s c earlier stood d serves are sees =
      record { taken = λ all. tt; kept = λ mode. tt; each = refl }
  each_visited (r ∷ rounds) s c earlier stood d serves are sees =
      let t : State = before_step s r in
      let same = same_listened s r.waited r.heard in
      let going = going_back service leaves entries site t r
      (serves_now service leaves entries site (after_round site s r) rounds serves.1) in
      let before = listened_serving s.standing t.standing same going serves.0 in
      part rounds (each_visited rounds) t r.told r.spoke r.sent (takes_each r) c earlier stood before
      (delivers_same service s.standing t.standing c same d)
      (going_asks t.standing.course r.told are.0.asks going) sees.0 are.0.speaks.offers
      are.0.speaks.sends serves.1 are.1 sees.1
      (λ is.
      let own = and_parts (is_whole r.waited) (is_whole r.spoke && is_whole r.sent) is in
      let said = and_parts (is_whole r.spoke) (is_whole r.sent) own.1 in
      (never_blocked s.standing r.waited r.heard own.0, (said.0, said.1)))

all_flags : (rounds : List Round)
    → list_all (λ (flag : Bool). flag) (map takes_each rounds) ≡ all_take_each rounds
all_flags [] = refl
all_flags (r ∷ rounds) = ap (λ b. takes_each r && b) (all_flags rounds)

pub rounds_are_taken : ServiceLeaves → VisitStands → HeldFits → RoundsAreTaken
rounds_are_taken leaves stands held_fit entries site rounds s c t earlier stood few d serves
    are sees every =
    let each =
    each_visited leaves stands held_fit d.kind entries site t few rounds s c earlier stood
    (delivers_as s.standing c d) serves are sees in
    record {
      taken = each.taken (all_flags rounds ∙ every);
      each = each.each ∙ length-map rounds takes_each;
    }

-- ---- what is owed

-- the laws of a delivery's visits, as its crate has them
pub record VisitLaws : Type 0 where
  pub still : (c : Course) (t : Terms) (entries : List Entry) (earlier : List DeliveryRound)
      (visits : List Visit) (front : ℕ)
      → StandsFor c t entries earlier
      → AreLooks entries (last_front t.selection.first earlier) c visits
      → last_front t.selection.first earlier ≤ front → IsTrue (all_find front visits)
      → AreTaken c visits → HandsStill t entries earlier visits front
  pub complete : (c : Course) (t : Terms) (entries : List Entry) (earlier : List DeliveryRound)
      (visits : List Visit) (front : ℕ)
      → StandsFor c t entries earlier
      → AreLooks entries (last_front t.selection.first earlier) c visits
      → last_front t.selection.first earlier ≤ front → IsTrue (all_find front visits)
      → AreTaken c visits → IsFalse (is_timely t.mode)
      → IsTrue (are_enough_at t entries front (after_rounds t entries earlier started)
      (moments_of visits))
      → handed_items (outcomes t entries (earlier ++ rounds_of visits) started)
      ≡ to_hand_over t (take front entries)
  pub timely : (c : Course) (t : Terms) (entries : List Entry) (earlier : List DeliveryRound)
      (visits : List Visit) (front : ℕ)
      → StandsFor c t entries earlier
      → AreLooks entries (last_front t.selection.first earlier) c visits
      → last_front t.selection.first earlier ≤ front → IsTrue (all_find front visits)
      → AreTaken c visits
      → IsTrue (are_enough_at t entries front (after_rounds t entries earlier started)
      (moments_of visits))
      → without_backlog (settled_items (outcomes t entries (earlier ++ rounds_of visits) started))
      ≡ to_hand_over t (take front entries)
  pub each : (c : Course) (t : Terms) (entries : List Entry) (earlier : List DeliveryRound)
      (visits : List Visit) (front : ℕ)
      → StandsFor c t entries earlier → last_front t.selection.first earlier ≤ front
      → AreLooks entries front c visits → AreTaken c visits
      → IsFalse (is_timely t.mode && is_to_tell (after_rounds t entries earlier started))
      → HandsReady t entries earlier visits front (length visits)
  pub some : (c : Course) (t : Terms) (entries : List Entry) (earlier : List DeliveryRound)
      (flags : List Bool) (visits : List Visit) (front : ℕ)
      → StandsFor c t entries earlier → last_front t.selection.first earlier ≤ front
      → AreLooks entries front c visits → AreTakenOrKept t.mode c flags visits
      → IsFalse (is_timely t.mode && is_to_tell (after_rounds t entries earlier started))
      → HandsReady t entries earlier visits front (flagged flags)
  pub few : (t : Terms) (entries : List Entry) (earlier : List DeliveryRound) (front : ℕ)
      → 0 < t.size → IsArchive entries → FrontsRise 0 earlier → last_front 0 earlier ≤ front
      → length (ready_at t entries front (after_rounds t entries earlier started))
      ≤ length (picked_at t entries front) + 2

-- ---- two more rounds than picked entries are enough

rise_from_none : (from : ℕ) (rounds : List DeliveryRound) → FrontsRise from rounds
    → FrontsRise 0 rounds
rise_from_none from [] rise = tt
rise_from_none from (r ∷ rounds) rise = (omega arith, rise.1)

last_from_none : (from : ℕ) (rounds : List DeliveryRound) (front : ℕ)
    → last_front from rounds ≤ front
    → last_front 0 rounds ≤ front
last_from_none from [] front behind = omega arith
last_from_none from (r ∷ rounds) front behind = behind

-- where the stop is closed no buffer waits
none_waits : (t : Terms) (entries : List (ℕ × Entry)) (d : Delivery)
    → unready_buffers t entries true d ≡ []
none_waits t entries d = on (after_fixed d).ended
  where
    on : (b : Bool) → cond b (let none : List (List Item) = [] in none) [] ≡ []
    on true = refl
    on false = refl

enough_of : (ready rounds unready : ℕ) (late : Bool) → ready ≤ rounds → unready ≡ 0
    → (nat_le ready rounds && (nat_eq unready 0 || late)) ≡ true
enough_of ready rounds unready late some none = grind arith

enough_where_closed : VisitLaws → (c : Course) (t : Terms) (entries : List Entry)
    (earlier : List DeliveryRound) (front : ℕ) (moments : List ℕ)
    → StandsFor c t entries earlier → last_front t.selection.first earlier ≤ front
    → is_stop_closed t.selection (take front entries) ≡ true
    → length (picked_at t entries front) + 2 ≤ length moments
    → are_enough_at t entries front (after_rounds t entries earlier started) moments ≡ true
enough_where_closed laws c t entries earlier front moments stood behind shut many =
    let d : Delivery = after_rounds t entries earlier started in
    let closed : Bool = is_stop_closed t.selection (take front entries) in
    let few : length (ready_at t entries front d) ≤ length (picked_at t entries front) + 2 =
    laws.few t entries earlier front stood.some stood.archive
    (rise_from_none t.selection.first earlier stood.rise)
    (last_from_none t.selection.first earlier front behind) in
    let none : length (unready_buffers t (picked_at t entries front) closed d) ≡ 0 =
    ap (λ b. length (unready_buffers t (picked_at t entries front) b d)) shut
    ∙ ap length (none_waits t (picked_at t entries front) d) in
    enough_of (length (ready_at t entries front d)) (length moments)
    (length (unready_buffers t (picked_at t entries front) closed d))
    (is_last_late t (picked_at t entries front) closed d moments) (omega (arith, few, many)) none

-- rounds that see fronts from one on see them from an earlier one on
sees_from : (entries : List Entry) (from front : ℕ) (site : Site) (s : State) (rounds : List Round)
    → from ≤ front → SeeEntries entries front site s rounds → SeeEntries entries from site s rounds
sees_from entries from front site s [] before sees = tt
sees_from entries from front site s (r ∷ rounds) before sees =
    by r.told sees (sees_from entries from front site (after_round site s r) rounds before)
  where
    by : (told : Option BookAnswer)
        → IsLookAt entries front site (before_step s r) told
        × SeeEntries entries (front_behind front told) site (after_round site s r) rounds
        → (SeeEntries entries front site (after_round site s r) rounds
        → SeeEntries entries from site (after_round site s r) rounds)
        → IsLookAt entries from site (before_step s r) told
        × SeeEntries entries (front_behind from told) site (after_round site s r) rounds
    by None both rest = (tt, rest both.1)
    by (Some told) both rest = ((omega (arith, both.0.0), both.0.1), both.1)

pub owed_comes : ServiceLeaves → VisitStands → VisitLaws → HeldFits → OwedComes
owed_comes leaves stands laws held_fit entries site rounds s c t earlier front stood few d
    serves are behind sees every =
    let from : ℕ = last_front t.selection.first earlier in
    let visits : List Visit = visits_of site s rounds in
    let early : SeeEntries entries from site s rounds =
    sees_from entries from front site s rounds behind sees in
    let is = rounds_are_taken leaves stands held_fit entries site rounds s c t earlier stood few
    d serves are early every in
    let looks = (a_sessions_rounds leaves entries site rounds s c from d serves are early).looks in
    let later = (a_sessions_rounds leaves entries site rounds s c front d serves are sees).looks in
    record {
      ready = λ told. subst (λ n. HandsReady t entries earlier visits front n) is.each
          (laws.each c t entries earlier visits front stood behind later is.taken told);
      still = λ all. laws.still c t entries earlier visits front stood looks behind all is.taken;
      complete = λ all mode enough. laws.complete c t entries earlier visits front stood looks behind
          all is.taken mode enough;
      soon = λ all mode shut many. laws.complete c t entries earlier visits front stood looks behind
          all is.taken mode
          (enough_where_closed laws c t entries earlier front (moments_of visits) stood behind shut
          (omega (arith, many, is.each, length-map visits moment_of)));
      timely = λ all enough. laws.timely c t entries earlier visits front stood looks behind all
          is.taken enough;
    }

-- ---- a link that stalls

flags_are : (rounds : List Round)
    → flagged (map takes_each rounds) ≡ length (filter takes_each rounds)
flags_are [] = refl
flags_are (r ∷ rounds) = by (takes_each r) (flags_are rounds)
  where
    by : (flag : Bool)
        → length (filter (λ (b : Bool). b) (map takes_each rounds)) ≡ length (filter takes_each rounds)
        → length (cond flag (flag ∷ filter (λ (b : Bool). b) (map takes_each rounds))
        (filter (λ (b : Bool). b) (map takes_each rounds)))
        ≡ length (cond flag (r ∷ filter takes_each rounds) (filter takes_each rounds))
    by true rest = ap suc rest
    by false rest = rest

none_told : (timely told : Bool) → timely ≡ false → (timely && told) ≡ false
none_told timely told e = grind arith

pub ready_comes : ServiceLeaves → VisitStands → VisitLaws → HeldFits → ReadyComes
ready_comes leaves stands laws held_fit entries site rounds s c t earlier front stood few d
    serves are behind sees mode =
    let from : ℕ = last_front t.selection.first earlier in
    let early : SeeEntries entries from site s rounds =
    sees_from entries from front site s rounds behind sees in
    let each =
    each_visited leaves stands held_fit d.kind entries site t few rounds s c earlier stood
    (delivers_as s.standing c d) serves are early in
    let later = (a_sessions_rounds leaves entries site rounds s c front d serves are sees).looks in
    subst (λ n. HandsReady t entries earlier (visits_of site s rounds) front n) (flags_are rounds)
    (laws.some c t entries earlier (map takes_each rounds) (visits_of site s rounds) front stood
    behind later (each.kept mode)
    (none_told (is_timely t.mode) (is_to_tell (after_rounds t entries earlier started)) mode))
