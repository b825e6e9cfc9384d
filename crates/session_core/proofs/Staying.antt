-- What a service's part of a step leaves of a session: whether it goes on, what listen came to, and
-- its association.
use Rattle.std.proofs.Common.{◌≡◌, ℕ, Bool, true, false, not, ◌&&◌, ◌||◌, Option, Some, None}
use Rattle.std.proofs.Common.{refl, sym, ap, ◌∙◌, if◌then◌else◌, arith}
use Rattle.archive_terms.specs.Glimpse.{Glimpse}
use Rattle.isp1_tml.specs.Message.{heartbeat, spelling}
use Rattle.station_config.specs.declared.site.Site.{Site}
use Rattle.assoc_core.specs.Kind.{Kind}
use Rattle.cltu_queue.specs.declared.notice.Notice.{Notice}
use Rattle.session_core.specs.declared.standing.Standing.{Standing}
use Rattle.session_core.specs.Course.{is_going, is_live, is_blocked}
use Rattle.session_services.specs.Inquiry.{Replied}
use Rattle.session_services.specs.Served.{Message, Reported, reported_by, told_by_service, Fixed}
use Rattle.session_services.specs.Served.{fixed_by}
use Rattle.session_core.specs.Returns.{bound_peer}
use Rattle.session_core.specs.ServiceSteps.{answered_with, told_more, may_tell, reported, with_report}
use Rattle.session_core.specs.ServiceSteps.{noticed, with_notice, has_outgoing, with_fixed, fixed}
use Rattle.session_core.specs.ServiceSteps.{stepped_by, may_serve, with_service, after_stall}
use Rattle.session_core.specs.ServiceSteps.{is_active, Stays}
use Rattle.session_core.specs.Steps.{Next, at_moment, is_idle, with_next, acted, timed}
use Rattle.session_core.specs.Steps.{with_heartbeat, unasked, after_step, has_block, is_due}
use Rattle.session_core.specs.Steps.{pulse_of}

stays : (s : Standing) → Stays s s
stays s = record { course = refl; arrival = refl; moment = refl; association = refl }

pub stays_on : (s t u : Standing) → Stays s t → Stays t u → Stays s u
stays_on s t u h k =
    record {
      course = k.course ∙ h.course;
      arrival = k.arrival ∙ h.arrival;
      moment = k.moment ∙ h.moment;
      association = k.association ∙ h.association;
    }

stays_if : (b : Bool) (s t : Standing) → Stays s t → Stays s (if b then t else s)
stays_if true s t h = h
stays_if false s t h = stays s

stays_else : (b : Bool) (s t : Standing) → Stays s t → Stays s (if b then s else t)
stays_else true s t h = stays s
stays_else false s t h = h

pub stays_answered : (site : Site) (s : Standing) (k : Kind) (answer : Option Message)
    → Stays s (answered_with site s k answer)
stays_answered site s k None = stays s
stays_answered site s k (Some message) = record { course = refl; arrival = refl; moment = refl; association = refl }

-- ---- what is told unasked

stays_more : (site : Site) (s : Standing) (more : Option Message)
    → Stays s (told_more site s more)
stays_more site s None = stays s
stays_more site s (Some message) = record { course = refl; arrival = refl; moment = refl; association = refl }

stays_reported : (site : Site) (s : Standing) (r : Reported) → Stays s (reported site s r)
stays_reported site s r =
    let t : Standing = record s { service = r.served } in
    let more = stays_more site t r.report in
    record {
      course = more.course;
      arrival = more.arrival;
      moment = more.moment;
      association = more.association;
    }

stays_report : (site : Site) (s : Standing) (r : Replied) → Stays s (with_report site s r)
stays_report site s r =
    stays_if (may_tell s) s _ (stays_reported site s (reported_by s.service r s.moment))

stays_noticed : (site : Site) (s : Standing) (notice : Option Notice)
    → Stays s (noticed site s notice)
stays_noticed site s None = stays s
stays_noticed site s (Some notice) = stays_more site s (told_by_service s.service notice)

stays_notice : (site : Site) (s : Standing) (notice : Option Notice)
    → Stays s (with_notice site s notice)
stays_notice site s notice = stays_if (may_tell s) s _ (stays_noticed site s notice)

stays_beat : (s : Standing) → Stays s (with_heartbeat s)
stays_beat s =
    let t : Standing = record s { block = spelling heartbeat } in
    stays_if (is_live s.course && not (has_block s) && is_due (pulse_of s) s.moment) s t
    (record { course = refl; arrival = refl; moment = refl; association = refl })

pub stays_unasked : (site : Site) (r : Replied) (s : Standing) → Stays s (unasked site r s)
stays_unasked site r s =
    let t = with_report site s r in
    let u = with_notice site t r.notice in
    stays_on s t (with_heartbeat u) (stays_report site s r)
    (stays_on t u (with_heartbeat u) (stays_notice site t r.notice) (stays_beat u))

-- ---- the service's own step

stays_fixed : (site : Site) (s : Standing) → Stays s (fixed site s)
stays_fixed site s =
    stays_else (has_outgoing s) s
    (with_fixed s (fixed_by s.service site (bound_peer site s) s.numbers s.moment))
    (record { course = refl; arrival = refl; moment = refl; association = refl })

pub stays_service : (site : Site) (was : Bool) (g : Glimpse) (s : Standing)
    → Stays s (with_service site was g s)
stays_service site was g s =
    let step = stays_fixed site (stepped_by g s) in
    stays_if (may_serve was s) s _
    (record {
      course = step.course;
      arrival = step.arrival;
      moment = step.moment;
      association = step.association;
    })

-- ---- a message that stalls

pub stays_stalled : (s : Standing) (items : Option ℕ) → Stays s (after_stall s items)
stays_stalled s None = record { course = refl; arrival = refl; moment = refl; association = refl }
stays_stalled s (Some items) = record { course = refl; arrival = refl; moment = refl; association = refl }

pub stalled_block : (s : Standing) (items : Option ℕ) → (after_stall s items).block ≡ s.block
stalled_block s None = refl
stalled_block s (Some items) = refl

-- ---- a step of a session without a link, and of a round that is blocked

abbrev behind : Site → Standing → Next → Replied → Standing
behind site s next r = unasked site r (timed (acted site s next r))

-- the whole of a service's part
pub service_leaves : (site : Site) (was : Bool) (g : Glimpse) (r : Replied) (s : Standing)
    → Stays s (with_service site was g (unasked site r s))
service_leaves site was g r s =
    stays_on s (unasked site r s) _ (stays_unasked site r s)
    (stays_service site was g (unasked site r s))

pub stays_behind : (site : Site) (was : Bool) (s : Standing) (next : Next) (r : Replied)
    → Stays (timed (acted site s next r))
    (with_service site was r.glimpse (behind site s next r))
stays_behind site was s next r =
    service_leaves site was r.glimpse r (timed (acted site s next r))

not_going : (s : Standing) → is_live s.course ≡ false → is_going s.course ≡ false
not_going s still = grind arith

if_true : (b : Bool) (s t : Standing) → b ≡ true → (if b then s else t) ≡ s
if_true b s t e = rw e refl

idle_acted : (site : Site) (s : Standing) (next : Next) (r : Replied) → is_idle s ≡ true
    → acted site s next r ≡ s
idle_acted site s next r e = if_true (is_idle s) s (with_next site s next r) e

still_idle : (s : Standing) → is_live s.course ≡ false → is_idle s ≡ true
still_idle s still = grind (arith, not_going s still)

still_timed : (s : Standing) → is_live s.course ≡ false → timed s ≡ s
still_timed s still = grind arith

pub still_step : (site : Site) (s : Standing) (next : Next) (now : ℕ) (r : Replied)
    → is_live s.course ≡ false → (after_step site s next now r).course ≡ s.course
still_step site s next now r still =
    let u = at_moment s now in
    (stays_behind site (is_active s.association) u next r).course
    ∙ ap (λ (t : Standing). (timed t).course)
    (idle_acted site u next r (still_idle u still))
    ∙ ap (λ (t : Standing). t.course) (still_timed u still)

-- ---- a round that is blocked

blocked_idle : (s : Standing) → is_blocked s.arrival ≡ true → is_idle s ≡ true
blocked_idle s e = grind arith

-- nothing is told in it, and the service takes no step
and_not : (a b c : Bool) → b ≡ true → (a && not b && c) ≡ false
and_not a b c e = grind arith

both_not : (a b : Bool) → b ≡ true → (a && not b) ≡ false
both_not a b e = grind arith

if_false : {A : Type 0} (b : Bool) (x y : A) → b ≡ false → (if b then x else y) ≡ y
if_false b x y e = rw e refl

blocked_report : (site : Site) (s : Standing) (r : Replied) → is_blocked s.arrival ≡ true
    → with_report site s r ≡ s
blocked_report site s r e =
    if_false (may_tell s) (reported site s (reported_by s.service r s.moment)) s
    (both_not (is_going s.course) (is_blocked s.arrival) e)

blocked_notice : (site : Site) (s : Standing) (notice : Option Notice)
    → is_blocked s.arrival ≡ true → with_notice site s notice ≡ s
blocked_notice site s notice e =
    if_false (may_tell s) (noticed site s notice) s
    (both_not (is_going s.course) (is_blocked s.arrival) e)

serves_not : (a b c : Bool) → c ≡ true → (a && (b && not c)) ≡ false
serves_not a b c e = grind arith

blocked_service : (site : Site) (was : Bool) (g : Glimpse) (s : Standing)
    → is_blocked s.arrival ≡ true → with_service site was g s ≡ s
blocked_service site was g s e =
    if_false (may_serve was s) (fixed site (stepped_by g s)) s
    (serves_not (was && is_active s.association) (is_going s.course) (is_blocked s.arrival) e)

-- with a block there is no heartbeat
full_beat : (s : Standing) → has_block s ≡ true → with_heartbeat s ≡ s
full_beat s e =
    if_false (is_live s.course && not (has_block s) && is_due (pulse_of s) s.moment)
    (record s { block = spelling heartbeat }) s
    (and_not (is_live s.course) (has_block s) (is_due (pulse_of s) s.moment) e)

blocked_unasked : (site : Site) (s : Standing) (r : Replied) → is_blocked s.arrival ≡ true
    → has_block s ≡ true → unasked site r s ≡ s
blocked_unasked site s r e has =
    let one = blocked_report site s r e in
    ap (λ (t : Standing). with_heartbeat (with_notice site t r.notice)) one
    ∙ ap with_heartbeat (blocked_notice site s r.notice e) ∙ full_beat s has

-- what the dead timer leaves of a session that goes on
timed_live : (s : Standing) → is_live (timed s).course ≡ true → timed s ≡ s
timed_live s e = grind arith

pub blocked_step : (site : Site) (s : Standing) (next : Next) (now : ℕ) (r : Replied)
    → is_blocked s.arrival ≡ true → has_block s ≡ true
    → is_live (after_step site s next now r).course ≡ true
    → (after_step site s next now r).block ≡ s.block
blocked_step site s next now r stuck has live =
    let u = at_moment s now in
    let was = is_active s.association in
    let idle : acted site u next r ≡ u =
    idle_acted site u next r (blocked_idle u stuck) in
    let same : timed (acted site u next r) ≡ u =
    timed_live (acted site u next r)
    (sym (ap is_live (stays_behind site was u next r).course) ∙ live) ∙ idle in
    ap (λ (t : Standing). (with_service site was r.glimpse (unasked site r t)).block) same
    ∙ ap (λ (t : Standing). (with_service site was r.glimpse t).block)
    (blocked_unasked site u r stuck has)
    ∙ ap (λ (t : Standing). t.block) (blocked_service site was r.glimpse u stuck)
