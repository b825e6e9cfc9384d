-- In quiet rounds a session that serves goes on serving.
use Rattle.std.proofs.Common.{◌≡◌, ℕ, Bool, true, false, cond, not, ◌&&◌, List, [], ◌∷◌, Option, Some}
use Rattle.std.proofs.Common.{None, refl, ap, sym, ◌∙◌, arith, subst, Ok, Err}
use Rattle.std.proofs.lemmas.Bool.{and_parts, not-true, and_from}
use Rattle.octet_core.specs.declared.offer.Offer.{Offer}
use Rattle.octet_core.specs.declared.offer.Offer.TheVariants.{Whole, Stalled, Failed as Refused}
use Rattle.isp1_tml.specs.Message.{context, heartbeat as beat, pdu}
use Rattle.link_model.specs.declared.call.Heard.{Heard}
use Rattle.link_model.specs.declared.call.Heard.TheVariants as heard
use Rattle.station_config.specs.declared.site.Site.{Site}
use Rattle.assoc_core.specs.declared.state.State.{State as Association}
use Rattle.assoc_core.specs.declared.state.State.TheVariants as state
use Rattle.assoc_core.specs.declared.step.Step.TheVariants.{Pass}
use Rattle.session_core.specs.declared.course.Course.{Course as Going}
use Rattle.session_core.specs.declared.standing.Standing.{Standing}
use Rattle.session_core.specs.Course.{is_going, is_live, is_blocked, has_closed}
use Rattle.session_core.specs.Handling.{is_lost, aborted, ended_by, after_judged, invoked}
use Rattle.sle_numbers.specs.declared.peer_abort_diagnostic.PeerAbortDiagnostic.TheVariants.{CommunicationsFailure, OtherReason}
use Rattle.session_core.specs.declared.ended.Ended.TheVariants.{PeerClosed}
use Rattle.session_services.specs.Inquiry.{Replied, reply_in}
use Rattle.session_core.specs.Laws.{ServiceLeaves}
use Rattle.session_core.specs.Message.{heartbeat, judged}
use Rattle.session_core.specs.Steps.{Next, at_moment, pulse_of, is_dead, is_idle, acted, with_next, timed}
use Rattle.session_core.specs.Steps.{after_step, round_begun, round_ended, course_at_end}
use Rattle.session_core.specs.Steps.{has_block}
use Rattle.session_core.specs.ServiceSteps.{is_active}
use Rattle.session_core.specs.Session.{State, Round, BookAnswer, next_of, before_step, before_speak}
use Rattle.session_core.specs.Session.{after_round, stepped, standing_waited, standing_heard}
use Rattle.session_core.specs.Session.{standing_spoke, standing_sent}
use Rattle.session_laws.specs.Deliveries.{is_serving}
use Rattle.session_laws.specs.Owing.{is_whole, takes_each, all_take_each}
use Rattle.session_laws.specs.Quiet.{is_open, is_quiet_next, is_well_told, is_quiet, AreQuiet}
use Rattle.session_laws.specs.Quiet.{ServesOnQuietly, QuietServesOn}
use Rattle.session_laws.proofs.Deliveries.{both_serving, serving_going, serving_active}

-- ---- listen

pub record Listens (s t : Standing) : Type 0 where
  pub serving : is_serving s ≡ true → is_serving t ≡ true
  pub clear : is_blocked t.arrival ≡ false
  pub opened : has_closed t.arrival ≡ false

listens : (s : Standing) (waited : Option Offer) (heard : Option Heard) → is_whole waited ≡ true
    → is_open heard ≡ true
    → Listens s (standing_heard (standing_waited (round_begun s) waited) heard)
listens s None None w o = record { serving = λ e. e; clear = refl; opened = refl }
listens s None (Some (heard.Arrived octets)) w o =
    record { serving = λ e. e; clear = refl; opened = refl }
listens s None (Some heard.Nothing) w o =
    record { serving = λ e. e; clear = refl; opened = refl }
listens s None (Some heard.Closed) w o = absurd (cc)
listens s None (Some heard.Failed) w o = absurd (cc)
listens s (Some Whole) None w o = record { serving = λ e. e; clear = refl; opened = refl }
listens s (Some Whole) (Some (heard.Arrived octets)) w o =
    record { serving = λ e. e; clear = refl; opened = refl }
listens s (Some Whole) (Some heard.Nothing) w o =
    record { serving = λ e. e; clear = refl; opened = refl }
listens s (Some Whole) (Some heard.Closed) w o = absurd (cc)
listens s (Some Whole) (Some heard.Failed) w o = absurd (cc)
listens s (Some Stalled) heard w o = absurd (cc)
listens s (Some Refused) heard w o = absurd (cc)

-- ---- step

-- what a quiet message leaves
pub record Stands (u v : Standing) : Type 0 where
  pub serving : is_serving v ≡ true
  pub pulse : pulse_of v ≡ pulse_of u
  pub moment : v.moment ≡ u.moment

heartbeat_passes : (site : Site) (a : Association) (now : ℕ) → is_active a ≡ true
    → judged site a heartbeat now ≡ Pass
heartbeat_passes site (state.Active binding) now e = refl
heartbeat_passes site state.Opening now e = absurd (cc)
heartbeat_passes site state.Unbound now e = absurd (cc)
heartbeat_passes site (state.Ready binding) now e = absurd (cc)
heartbeat_passes site state.Closing now e = absurd (cc)

heartbeat_stands : (site : Site) (u : Standing) (r : Replied) → is_serving u ≡ true
    → is_lost r.reply ≡ false
    → Stands u (after_judged site (invoked u heartbeat Pass) heartbeat Pass r)
heartbeat_stands site u r serving kept =
    subst (λ b. Stands u (cond b (aborted (invoked u heartbeat Pass) OtherReason) u)) (sym kept)
    (record { serving = serving; pulse = refl; moment = refl })

next_stands : (site : Site) (u : Standing) (next : Next) (r : Replied) → is_serving u ≡ true
    → has_closed u.arrival ≡ false → is_quiet_next next ≡ true → is_lost r.reply ≡ false
    → Stands u (with_next site u next r)
next_stands site u (Err fault) r serving opened quiet kept = absurd (cc)
next_stands site u (Ok None) r serving opened quiet kept =
    subst (λ b. Stands u (cond b (ended_by u PeerClosed) u)) (sym opened)
    (record { serving = serving; pulse = refl; moment = refl })
next_stands site u (Ok (Some beat)) r serving opened quiet kept =
    subst (λ st. Stands u (after_judged site (invoked u heartbeat st) heartbeat st r))
    (sym (heartbeat_passes site u.association u.moment (serving_active u serving)))
    (heartbeat_stands site u r serving kept)
next_stands site u (Ok (Some (context interval factor))) r serving opened quiet kept = absurd (cc)
next_stands site u (Ok (Some (pdu octets))) r serving opened quiet kept = absurd (cc)

busy_is : (u : Standing) → is_serving u ≡ true → is_blocked u.arrival ≡ false → is_idle u ≡ false
busy_is u serving clear = let going : is_going u.course ≡ true = serving_going u serving in
    rw (clear, going) refl

acted_stands : (site : Site) (u : Standing) (next : Next) (r : Replied) → is_serving u ≡ true
    → is_blocked u.arrival ≡ false → has_closed u.arrival ≡ false → is_quiet_next next ≡ true
    → is_lost r.reply ≡ false → Stands u (acted site u next r)
acted_stands site u next r serving clear opened quiet kept =
    subst (λ b. Stands u (cond b u (with_next site u next r))) (sym (busy_is u serving clear))
    (next_stands site u next r serving opened quiet kept)

timed_serves : (v : Standing) → is_serving v ≡ true → is_dead (pulse_of v) v.moment ≡ false
    → is_serving (timed v) ≡ true
timed_serves v serving alive =
    subst (λ b. is_serving (cond (is_live v.course && b) (aborted v CommunicationsFailure) v) ≡ true)
    (sym alive) (on (is_live v.course))
  where
    on : (b : Bool)
        → is_serving (cond (b && false) (aborted v CommunicationsFailure) v) ≡ true
    on true = serving
    on false = serving

step_serves : ServiceLeaves → (site : Site) (s : Standing) (next : Next) (now : ℕ) (r : Replied)
    → is_serving s ≡ true → is_blocked s.arrival ≡ false → has_closed s.arrival ≡ false
    → is_quiet_next next ≡ true → is_dead (pulse_of (at_moment s now)) now ≡ false
    → is_lost r.reply ≡ false
    → is_serving (after_step site s next now r) ≡ true
step_serves leaves site s next now r serving clear opened quiet alive kept =
    let u : Standing = at_moment s now in
    let v = acted_stands site u next r serving clear opened quiet kept in
    let w : Standing = timed (acted site u next r) in
    let on : is_serving w ≡ true =
    timed_serves (acted site u next r) v.serving
    (ap (λ p. is_dead p (acted site u next r).moment) v.pulse
    ∙ ap (λ n. is_dead (pulse_of u) n) v.moment ∙ alive) in
    let stays = leaves site (is_active s.association) r.glimpse r w in
    both_serving (after_step site s next now r) w (sym stays.course) (sym stays.association) on

-- ---- speak

spoke_serves : (y : Standing) (spoke : Option Offer) → is_whole spoke ≡ true
    → is_serving y ≡ true → is_serving (standing_spoke y spoke) ≡ true
spoke_serves y None w e = e
spoke_serves y (Some Whole) w e = e
spoke_serves y (Some Stalled) w e = absurd (cc)
spoke_serves y (Some Refused) w e = absurd (cc)

sent_serves : (y : Standing) (sent : Option Offer) → is_whole sent ≡ true
    → is_serving y ≡ true → is_serving (standing_sent y sent) ≡ true
sent_serves y None w e = e
sent_serves y (Some Whole) w e = e
sent_serves y (Some Stalled) w e = absurd (cc)
sent_serves y (Some Refused) w e = absurd (cc)

end_serves : (y : Standing) → is_serving y ≡ true → is_serving (round_ended y) ≡ true
end_serves y e = on y.course (has_block y) e
  where
    on : (course : Going) (waits : Bool) → (is_going course && is_active y.association) ≡ true
        → (is_going (course_at_end course waits) && is_active y.association) ≡ true
    on course waits e = grind arith

-- ---- a round

told_serves : ServiceLeaves → (site : Site) (t : State) (told : Option BookAnswer)
    → is_serving t.standing ≡ true → is_blocked t.standing.arrival ≡ false
    → has_closed t.standing.arrival ≡ false → is_quiet_next (next_of t) ≡ true
    → is_well_told t.standing told ≡ true
    → is_serving (stepped site t told).standing ≡ true
told_serves leaves site t None serving clear opened quiet well = serving
told_serves leaves site t (Some told) serving clear opened quiet well =
    let parts = and_parts (not (is_dead (pulse_of (at_moment t.standing told.moment)) told.moment))
    (not (is_lost (reply_in told.answer).reply)) well in
    step_serves leaves site t.standing (next_of t) told.moment (reply_in told.answer) serving clear
    opened quiet
    (not-true (is_dead (pulse_of (at_moment t.standing told.moment)) told.moment) parts.0)
    (not-true (is_lost (reply_in told.answer).reply) parts.1)

module _ (leaves : ServiceLeaves) (site : Site) where
  round_serves : (s : State) (r : Round) → is_serving s.standing ≡ true → is_quiet s r ≡ true
      → (is_serving (after_round site s r).standing ≡ true) × (takes_each r ≡ true)
  round_serves s r serving quiet =
      let t : State = before_step s r in
      let one = and_parts (is_open r.heard)
      (takes_each r && (is_quiet_next (next_of t) && is_well_told t.standing r.told)) quiet in
      let two = and_parts (takes_each r)
      (is_quiet_next (next_of t) && is_well_told t.standing r.told) one.1 in
      let three = and_parts (is_quiet_next (next_of t)) (is_well_told t.standing r.told) two.1 in
      let own = and_parts (is_whole r.waited) (is_whole r.spoke && is_whole r.sent) two.0 in
      let said = and_parts (is_whole r.spoke) (is_whole r.sent) own.1 in
      let heard = listens s.standing r.waited r.heard own.0 one.0 in
      let y : Standing = (before_speak site s r).standing in
      let on_y : is_serving y ≡ true =
      told_serves leaves site t r.told (heard.serving serving) heard.clear heard.opened three.0
      three.1 in
      let z : Standing = standing_spoke y r.spoke in (
        end_serves (standing_sent z r.sent)
            (sent_serves z r.sent said.1 (spoke_serves y r.spoke said.0 on_y)),
        two.0,
      )

  quiet_serves : (rounds : List Round) (s : State) → is_serving s.standing ≡ true
      → AreQuiet site s rounds → ServesOnQuietly site s rounds
  quiet_serves [] s serving quiet = record { serves = serving; takes = refl }
  quiet_serves (r ∷ rounds) s serving quiet =
      let one = round_serves s r serving quiet.0 in
      let rest = quiet_serves rounds (after_round site s r) one.0 quiet.1 in
      record {
        serves = (serving, rest.serves);
        takes = and_from (takes_each r) (all_take_each rounds) one.1 rest.takes;
      }

pub quiet_serves_on : ServiceLeaves → QuietServesOn
quiet_serves_on leaves site s rounds serving quiet = quiet_serves leaves site rounds s serving quiet
