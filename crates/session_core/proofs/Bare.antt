-- The step of a session with no service that holds no message is the definition's.
use Rattle.std.proofs.Common.{◌≡◌, ℕ, Bool, true, false, Option, Some, None, Ok, Err}
use Rattle.std.proofs.Common.{refl, sym, ap, ◌∙◌, if◌then◌else◌, arith}
use Rattle.isp1_tml.specs.Feeding.{Feeding, next_of as next_held, after_next as after_given}
use Rattle.station_config.specs.declared.site.Site.{Site}
use Rattle.cltu_queue.specs.declared.notice.Notice.{Notice}
use Rattle.station_book.specs.State as book
use Rattle.station_book.specs.History.{moment_at}
use Rattle.session_core.specs.declared.standing.Standing.{Standing}
use Rattle.session_services.specs.Inquiry.{answer_of, Replied, reply_in}
use Rattle.session_services.specs.Served.{Served, unserved, reported_by, told_by_service}
use Rattle.session_core.specs.ServiceSteps.{may_tell, told_more, reported, noticed, with_notice}
use Rattle.session_core.specs.ServiceSteps.{is_active, with_service}
use Rattle.session_core.specs.Steps.{Next, has_message, at_moment, is_idle, with_next, acted}
use Rattle.session_core.specs.Steps.{timed, with_none, with_heartbeat, unasked, after_step, bare_step}
use Rattle.session_core.specs.SessionState.{SessionState, asked, told_now, feeder_after, kept_after}

-- a choice of two of which one is out
if_not : {A : Type 0} (b : Bool) (x y : A) → b ≡ false → (if b then x else y) ≡ y
if_not b x y is = ap (λ (c : Bool). if c then x else y) is

-- a choice of two that are the same
if_same : {A : Type 0} (b : Bool) (x y : A) → x ≡ y → (if b then x else y) ≡ y
if_same true x y e = e
if_same false x y e = refl

-- ---- no service reports or tells anything

report_none : (site : Site) (s : Standing) (r : Replied) → s.service ≡ unserved
    → reported site s (reported_by s.service r s.moment) ≡ s
unfolding reported_by
report_none site s r is =
    ap (λ (x : Served). reported site s (reported_by x r s.moment)) is
    ∙ ap (λ (x : Served). record s { service = x }) (sym is)

tell_none : (served : Served) (notice : Notice) → served ≡ unserved
    → told_by_service served notice ≡ None
unfolding told_by_service
tell_none served notice is = ap (λ (x : Served). told_by_service x notice) is

notice_none : (site : Site) (s : Standing) (notice : Option Notice) → s.service ≡ unserved
    → noticed site s notice ≡ s
notice_none site s None is = refl
notice_none site s (Some notice) is = ap (told_more site s) (tell_none s.service notice is)

unasked_none : (site : Site) (s : Standing) (r : Replied) → s.service ≡ unserved
    → unasked site r s ≡ with_heartbeat s
unasked_none site s r is =
    ap (λ (t : Standing). with_heartbeat (with_notice site t r.notice))
    (if_same (may_tell s) (reported site s (reported_by s.service r s.moment)) s
    (report_none site s r is))
    ∙ ap with_heartbeat
    (if_same (may_tell s) (noticed site s r.notice) s (notice_none site s r.notice is))

-- ---- what it comes to

taken_none : (site : Site) (s : Standing) (next : Next) (r : Replied)
    → has_message next ≡ false → with_next site s next r ≡ with_none s next
taken_none site s (Ok (Some message)) r none = grind (arith, none)
taken_none site s (Ok None) r none = refl
taken_none site s (Err fault) r none = refl

ended_none : (s : Standing) (next : Next) → s.service ≡ unserved
    → (timed (with_none s next)).service ≡ unserved
ended_none s next is = grind arith

stepped_none : (site : Site) (s : Standing) (next : Next) (now : ℕ) (r : Replied)
    → s.service ≡ unserved → is_active s.association ≡ false → is_idle s ≡ false
    → has_message next ≡ false → after_step site s next now r ≡ bare_step s next now
stepped_none site s next now r is active idle none =
    let e = at_moment s now in
    let led : acted site e next r ≡ with_none e next =
    if_not (is_idle e) e (with_next site e next r) idle ∙ taken_none site e next r none in
    ap (λ (was : Bool). with_service site was r.glimpse (unasked site r (timed (acted site e next r))))
    active
    ∙ ap (λ (t : Standing). unasked site r (timed t)) led
    ∙ unasked_none site (timed (with_none e next)) r (ended_none e next is)

pub keeps_none : (site : Site) (v w : SessionState) (b : book.State) (reading : ℕ)
    → v.standing.service ≡ unserved → is_active v.standing.association ≡ false
    → is_idle v.standing ≡ false → has_message (next_held v.feeder) ≡ false
    → w ≡ record v {
      feeder = after_given v.feeder;
      standing = bare_step v.standing (next_held v.feeder) (moment_at b reading);
    }
    → w ≡ kept_after site v (Some (told_now site v b reading))
keeps_none site v w b reading is active idle none w_so =
    let s = v.standing in
    let next = next_held v.feeder in
    let m = moment_at b reading in
    let r : Replied = reply_in (answer_of b v.door m (asked site v b reading)) in
    w_so
    ∙ ap (λ (f : Feeding). record v { feeder = f; standing = bare_step s next m })
    (sym (if_not (is_idle s) v.feeder (after_given v.feeder) idle))
    ∙ ap (λ (t : Standing). record v { feeder = feeder_after s v.feeder; standing = t })
    (sym (stepped_none site s next m r is active idle none))
