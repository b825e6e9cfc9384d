-- What a session of the forward service asks fits the run of its door.
use Rattle.std.proofs.Common.{◌≡◌, ℕ, zero, suc, ◌<◌, ◌==◌, nat_lt, Bool, true, false, not, ◌&&◌}
use Rattle.std.proofs.Common.{◌||◌, if◌then◌else◌, cond, Option, Some, None, is_some, Ok, Err, Result}
use Rattle.std.proofs.Common.{List, [], ◌∷◌, length, slice_get, slice_set, refl, sym, ap}
use Rattle.std.proofs.Common.{◌∙◌, arith}
use Rattle.std.proofs.lemmas.Bool.Decides.{nat_tests}
use Rattle.std.proofs.lemmas.List.{length-set}
use Rattle.std.specs.List.{position, position_or_len}
use Rattle.std.specs.Option.{option_map_or}
use Rattle.octet_core.specs.declared.offer.Offer.{Offer}
use Rattle.archive_terms.specs.Glimpse.{Glimpse}
use Rattle.isp1_tml.specs.Message.{heartbeat, spelling}
use Rattle.sle_common.specs.declared.gvcid.Gvcid.{Gvcid}
use Rattle.sle_numbers.specs.declared.peer_abort_diagnostic.PeerAbortDiagnostic.TheVariants as why
use Rattle.fcltu_numbers.specs.declared.cltu_start_diagnostic.CltuStartDiagnostic.{CltuStartDiagnostic}
use Rattle.fcltu_numbers.specs.declared.cltu_start_diagnostic.CltuStartDiagnostic.TheVariants.{OutOfService, UnableToComply}
use Rattle.fcltu_numbers.specs.declared.cltu_transfer_data_diagnostic.CltuTransferDataDiagnostic.{CltuTransferDataDiagnostic}
use Rattle.station_config.specs.declared.instance.Instance.{Instance}
use Rattle.station_config.specs.declared.service.Service.{Service}
use Rattle.station_config.specs.declared.service.Service.TheVariants as service
use Rattle.station_config.specs.declared.site.Site.{Site}
use Rattle.assoc_core.specs.declared.outcome.Outcome.{Outcome}
use Rattle.assoc_core.specs.declared.outcome.Outcome.TheVariants as outcome
use Rattle.assoc_core.specs.declared.state.Binding.{Binding}
use Rattle.assoc_core.specs.declared.state.State.{State as Association}
use Rattle.assoc_core.specs.declared.state.State.TheVariants as state
use Rattle.assoc_core.specs.declared.step.Step.TheVariants.{Pass, Abort}
use Rattle.assoc_core.specs.State.{moved}
use Rattle.cltu_queue.specs.Machine.{Machine, on_start, on_transfer, queued_unless, refusal}
use Rattle.cltu_queue.specs.Machine.{is_halted, is_interrupted, new_run}
use Rattle.cltu_queue.specs.Limits.{last_run}
use Rattle.cltu_queue.specs.declared.ask.Ask.{Ask}
use Rattle.cltu_queue.specs.declared.ask.Ask.TheVariants as ask
use Rattle.cltu_queue.specs.declared.book_reply.BookReply.{BookReply}
use Rattle.cltu_queue.specs.declared.book_reply.BookReply.TheVariants as reply
use Rattle.cltu_queue.specs.declared.cltu.Cltu.{Cltu}
use Rattle.cltu_queue.specs.declared.notice.Notice.{Notice}
use Rattle.fcltu_service.specs.Service.{Service as Fcltu, answer_of as fcltu_answer, ask_of}
use Rattle.fcltu_service.specs.Service.{start_answer, stop_answer, transfer_answer}
use Rattle.station_book.specs.Origin.{kind_of, kinds_of}
use Rattle.station_book.specs.State.{State as Book}
use Rattle.station_book.specs.History.{is_of, is_forward, has_forward, start_reply}
use Rattle.station_book.specs.History.{transfer_reply, is_lost as is_lost_ask, reply_of}
use Rattle.station_book.specs.History.{doors_asked, with_ask}
use Rattle.session_services.specs.declared.service_state.ServiceState.TheVariants as serves
use Rattle.session_core.specs.declared.standing.Standing.{Standing}
use Rattle.session_core.specs.Course.{is_live}
use Rattle.session_services.specs.Inquiry.{Replied}
use Rattle.session_core.specs.Message.{invocation, judged}
use Rattle.session_services.specs.Service.{Invocation, return_starts, cltu_starts, transfers}
use Rattle.session_services.specs.Service.{throws, stops, schedules, gets, undecoded}
use Rattle.session_services.specs.FcltuServed.{fcltu_asked, fcltu_outcome}
use Rattle.session_services.specs.Served.{Served, Message, unserved, served_at, prepared}
use Rattle.session_services.specs.Served.{concluded_by, reported_by, told_by_service, served_step}
use Rattle.session_services.specs.Served.{fixed_by, served_settled}
use Rattle.session_core.specs.Returns.{bound_peer}
use Rattle.session_core.specs.ServiceSteps.{is_active, told_more, reported, noticed, with_report}
use Rattle.session_core.specs.ServiceSteps.{with_notice, may_tell, may_serve, with_service, fixed}
use Rattle.session_core.specs.ServiceSteps.{stepped_by, has_outgoing, with_fixed}
use Rattle.session_core.specs.Handling.{is_lost}
use Rattle.session_core.specs.Steps.{unasked, has_block, is_due, pulse_of}
use Rattle.session_laws.proofs.Runs.{started_transfer}

-- ---- which service it is

abbrev pub is_cltu : Served → Bool
is_cltu (serves.Fcltu f) = true
is_cltu _ = false

reported_kind : (served : Served) (r : Replied) (now : ℕ)
    → is_cltu (reported_by served r now).served ≡ is_cltu served
unfolding reported_by
reported_kind serves.Nothing r now = refl
reported_kind (serves.Return s) r now = refl
reported_kind (serves.Fcltu f) r now = refl

stepped_kind : (g : Glimpse) (now : ℕ) (served : Served)
    → is_cltu (served_step g now served) ≡ is_cltu served
unfolding served_step
stepped_kind g now serves.Nothing = refl
stepped_kind g now (serves.Return s) = refl
stepped_kind g now (serves.Fcltu f) = refl

pub settled_kind : (answer : Offer) (served : Served)
    → is_cltu (served_settled answer served) ≡ is_cltu served
unfolding served_settled
settled_kind answer serves.Nothing = refl
settled_kind answer (serves.Return s) = refl
settled_kind answer (serves.Fcltu f) = refl

-- ---- what a step makes of it besides a message

kind_if : (b : Bool) (s t : Standing) (v : Bool) → is_cltu t.service ≡ v → is_cltu s.service ≡ v
    → is_cltu (if b then t else s).service ≡ v
kind_if true s t v e f = e
kind_if false s t v e f = f

more_kind : (site : Site) (s : Standing) (more : Option Message)
    → is_cltu (told_more site s more).service ≡ is_cltu s.service
more_kind site s None = refl
more_kind site s (Some message) = refl

report_kind : (site : Site) (s : Standing) (r : Replied)
    → is_cltu (with_report site s r).service ≡ is_cltu s.service
report_kind site s r =
    let due = reported_by s.service r s.moment in
    kind_if (may_tell s) s (reported site s due) (is_cltu s.service)
    (more_kind site (record s { service = due.served }) due.report
    ∙ reported_kind s.service r s.moment) refl

unasked_kind : (site : Site) (r : Replied) (s : Standing)
    → is_cltu (unasked site r s).service ≡ is_cltu s.service
unasked_kind site r s =
    let t = with_report site s r in
    let u = with_notice site t r.notice in
    kind_if (is_live u.course && not (has_block u) && is_due (pulse_of u) u.moment) u
    (record u { block = spelling heartbeat }) (is_cltu u.service) refl refl
    ∙ kind_if (may_tell t) t (noticed site t r.notice) (is_cltu t.service) (of_notice t r.notice) refl
    ∙ report_kind site s r
  where
    of_notice : (t : Standing) (notice : Option Notice)
        → is_cltu (noticed site t notice).service ≡ is_cltu t.service
    of_notice t None = refl
    of_notice t (Some notice) = more_kind site t (told_by_service t.service notice)

fixed_kind : (site : Site) (s : Standing) → is_cltu (fixed site s).service ≡ is_cltu s.service
fixed_kind site s =
    kind_if (has_outgoing s)
    (with_fixed s (fixed_by s.service site (bound_peer site s) s.numbers s.moment)) s
    (is_cltu s.service) refl refl

pub told_kind : (site : Site) (was : Bool) (g : Glimpse) (r : Replied) (s : Standing)
    → is_cltu (with_service site was g (unasked site r s)).service ≡ is_cltu s.service
told_kind site was g r s =
    let t = unasked site r s in
    kind_if (may_serve was t) t (fixed site (stepped_by g t)) (is_cltu t.service)
    (fixed_kind site (stepped_by g t) ∙ stepped_kind g t.moment t.service) refl
    ∙ unasked_kind site r s

-- ---- the run of a door

-- a door has the forward service's instance, and its run is started where its session is
pub record HasRun (book : Book) (door : ℕ) (a : Association) : Type 0 where
  pub has : has_forward book door ≡ true
  pub runs : book.queue.started ≡ is_active a

-- what an invocation asks fits, and isn't answered Lost; no instance changes its door; and behind it
-- the run of the forward service's door is started where the session is
pub record Serves (book : Book) (door now : ℕ) (ask : Ask) (a : Association) (served : Served)
    : Type 0 where
  pub fits : is_lost_ask book door ask ≡ false
  pub answers : is_lost (reply_of book door now ask) ≡ false
  pub held : doors_asked book door ask ≡ book.doors
  pub runs : is_cltu served ≡ true → HasRun (with_ask book door now ask) door a

or_false : (a b : Bool) → a ≡ true → b ≡ false → (not a || b) ≡ false
or_false a b e f = grind arith

not_both : (a b : Bool) → a ≡ true → b ≡ true → not (a && b) ≡ false
not_both a b e f = grind arith

kept_active : (a : Association) → is_active (moved a outcome.Kept) ≡ is_active a
kept_active a = grind arith

module _ (book : Book) (door now at : ℕ) (f : Fcltu) (r : BookReply) where
  abbrev Answered : Ask → Association → Outcome → Type 0
  Answered x a o = Serves book door now x (moved a o) (serves.Fcltu f)

  -- one that asks nothing
  none_serves : (a : Association) (o : Outcome) → HasRun book door a → o ≡ outcome.Kept
      → Answered ask.Nothing a o
  none_serves a o h kept = record {
    fits = refl;
    answers = refl;
    held = refl;
    runs = λ e. record {
      has = h.has;
      runs =
          h.runs ∙ sym (kept_active a)
          ∙ ap (λ (x : Outcome). is_active (moved a x)) (sym kept);
    };
  }

  -- ---- START

  abbrev Begins : Binding → Machine × Result (Unit {0}) CltuStartDiagnostic → Type 0
  Begins b p =
      (p.0.started ≡ is_active (moved (state.Ready b) (fcltu_outcome (start_answer at (start_reply now p.1)))))
      × (is_lost (start_reply now p.1) ≡ false)

  begins_if : (c : Bool) (b : Binding) (p q : Machine × Result (Unit {0}) CltuStartDiagnostic)
      → Begins b p → Begins b q → Begins b (if c then p else q)
  begins_if true b p q h k = h
  begins_if false b p q h k = k

  abbrev Started : Type 0
  Started = Machine × Result (Unit {0}) CltuStartDiagnostic

  begins : (b : Binding) (m : Machine) (first : ℕ) → m.started ≡ false → Begins b (on_start m first)
  begins b m first still =
      let halted : Started = (m, Err OutOfService) in
      let none : Started = (m, Err UnableToComply) in
      let run : Started = (new_run first m, Ok tt) in
      let refused = is_interrupted m.production || m.run == last_run in
      begins_if (is_halted m.production) b halted (if refused then none else run) (still, refl)
      (begins_if refused b none run (still, refl) (refl, refl))

  start_serves : (b : Binding) (first : ℕ) → HasRun book door (state.Ready b)
      → r ≡ reply_of book door now (ask.CltuStart first)
      → Answered (ask.CltuStart first) (state.Ready b) (fcltu_outcome (start_answer at r))
  start_serves b first h is =
      let fits = or_false (has_forward book door) book.queue.started h.has h.runs in
      let so : reply_of book door now (ask.CltuStart first)
      ≡ start_reply now (on_start book.queue first).1 =
      ap (λ (b : Bool). if b then reply.Lost else start_reply now (on_start book.queue first).1) fits
      in
      let done = begins b book.queue first h.runs in
      record {
        fits = fits;
        answers = ap is_lost so ∙ done.1;
        held = refl;
        runs = λ e. record {
          has = h.has;
          runs =
              done.0
              ∙ ap (λ (x : BookReply). is_active
              (moved (state.Ready b) (fcltu_outcome (start_answer at x)))) (sym (is ∙ so));
        };
      }

  -- ---- TRANSFER-DATA

  not_lost_by : (o : Option CltuTransferDataDiagnostic) (m : Machine) (cltu : Cltu)
      → is_lost (transfer_reply (queued_unless o m cltu).1) ≡ false
  not_lost_by None m cltu = refl
  not_lost_by (Some why) m cltu = refl

  transfer_keeps : (x : BookReply) → fcltu_outcome (transfer_answer x) ≡ outcome.Kept
  transfer_keeps reply.Nothing = refl
  transfer_keeps reply.Bound = refl
  transfer_keeps reply.AlreadyBound = refl
  transfer_keeps reply.Unbound = refl
  transfer_keeps (reply.Started n) = refl
  transfer_keeps (reply.StartRefused why) = refl
  transfer_keeps (reply.Taken room) = refl
  transfer_keeps (reply.Rejected why room) = refl
  transfer_keeps reply.Stopped = refl
  transfer_keeps reply.Lost = refl

  transfer_serves : (b : Binding) (cltu : Cltu) → HasRun book door (state.Active b)
      → Answered (ask.CltuTransfer cltu) (state.Active b) (fcltu_outcome (transfer_answer r))
  transfer_serves b cltu h =
      let fits = not_both (has_forward book door) book.queue.started h.has h.runs in
      let so : reply_of book door now (ask.CltuTransfer cltu)
      ≡ transfer_reply (on_transfer book.queue cltu now).1 =
      ap (λ (b : Bool). if b then reply.Lost else transfer_reply (on_transfer book.queue cltu now).1)
      fits in
      record {
        fits = fits;
        answers = ap is_lost so ∙ not_lost_by (refusal book.queue cltu now) book.queue cltu;
        held = refl;
        runs = λ e. record {
          has = h.has;
          runs =
              started_transfer book.queue cltu now
              ∙ h.runs
              ∙ ap (λ (x : Outcome). is_active (moved (state.Active b) x)) (sym (transfer_keeps r));
        };
      }

  -- ---- STOP

  stop_serves : (b : Binding) → HasRun book door (state.Active b)
      → r ≡ reply_of book door now ask.CltuStop
      → Answered ask.CltuStop (state.Active b) (fcltu_outcome (stop_answer r))
  stop_serves b h is =
      let fits = not_both (has_forward book door) book.queue.started h.has h.runs in
      let so : reply_of book door now ask.CltuStop ≡ reply.Stopped =
      ap (λ (b : Bool). if b then reply.Lost else reply.Stopped) fits in
      record {
        fits = fits;
        answers = ap is_lost so;
        held = refl;
        runs = λ e. record {
          has = h.has;
          runs =
              ap (λ (x : BookReply). is_active (moved (state.Active b) (fcltu_outcome (stop_answer x))))
              (sym (is ∙ so));
        };
      }

  -- ---- any invocation

  not_there : (decodes : Bool)
      → (if not decodes then Abort why.EncodingError else Abort why.ProtocolError) ≡ Pass → ⊥
  not_there true e = absurd (cc)
  not_there false e = absurd (cc)

  pub forwards : (site : Site) (a : Association) (i : Invocation)
      → judged site a (invocation i) at ≡ Pass → HasRun book door a
      → r ≡ reply_of book door now (ask_of (fcltu_asked i))
      → Answered (ask_of (fcltu_asked i)) a (fcltu_outcome (fcltu_answer f (fcltu_asked i) r at))
  forwards site (state.Ready b) (cltu_starts s) pass h is = start_serves b s.first h is
  forwards site state.Opening (cltu_starts s) pass h is = absurd (cc)
  forwards site state.Unbound (cltu_starts s) pass h is = absurd (cc)
  forwards site (state.Active b) (cltu_starts s) pass h is = absurd (cc)
  forwards site state.Closing (cltu_starts s) pass h is = absurd (cc)
  forwards site (state.Active b) (transfers t) pass h is = transfer_serves b _ h
  forwards site state.Opening (transfers t) pass h is = absurd (cc)
  forwards site state.Unbound (transfers t) pass h is = absurd (cc)
  forwards site (state.Ready b) (transfers t) pass h is = absurd (not_there b.forward pass)
  forwards site state.Closing (transfers t) pass h is = absurd (cc)
  forwards site (state.Active b) (stops s) pass h is = stop_serves b h is
  forwards site state.Opening (stops s) pass h is = absurd (cc)
  forwards site state.Unbound (stops s) pass h is = absurd (cc)
  forwards site (state.Ready b) (stops s) pass h is = absurd (cc)
  forwards site state.Closing (stops s) pass h is = absurd (cc)
  forwards site a (throws t) pass h is = none_serves a _ h refl
  forwards site a (schedules s) pass h is = none_serves a _ h refl
  forwards site a (gets g) pass h is = none_serves a _ h refl
  forwards site a (return_starts s) pass h is = none_serves a _ h refl
  forwards site a undecoded pass h is = none_serves a _ h refl

-- whatever service is bound
pub serves_by : (site : Site) (book : Book) (door now at : ℕ) (a : Association) (served : Served)
    (channels : List Gvcid) (i : Invocation) (r : Replied)
    → judged site a (invocation i) at ≡ Pass → (is_cltu served ≡ true → HasRun book door a)
    → r.reply ≡ reply_of book door now (prepared served i).ask
    → Serves book door now (prepared served i).ask
    (moved a (concluded_by served channels i r at).outcome)
    (concluded_by served channels i r at).served
unfolding prepared concluded_by
serves_by site book door now at a serves.Nothing channels i r pass h is =
    record { fits = refl; answers = refl; held = refl; runs = λ e. absurd (cc) }
serves_by site book door now at a (serves.Return s) channels i r pass h is =
    record { fits = refl; answers = refl; held = refl; runs = λ e. absurd (cc) }
serves_by site book door now at a (serves.Fcltu f) channels i r pass h is =
    let done = forwards book door now at f r.reply site a i pass (h refl) is in
    record {
      fits = done.fits;
      answers = done.answers;
      held = done.held;
      runs = λ e. done.runs refl;
    }

-- ---- a BIND

forward_service : (s : Service) (timeout : ℕ) → is_cltu (served_at s timeout) ≡ true
    → is_forward (Some (kind_of s)) ≡ true
unfolding served_at
forward_service (service.Raf mode size latency) timeout e = absurd (cc)
forward_service (service.Rcf mode size latency channels) timeout e = absurd (cc)
forward_service (service.Cltu room longest) timeout e = refl

-- the instance for which the forward service was made is one of the book's forward service
pub made_forward : (xs : List Instance) (place : ℕ)
    → is_cltu (option_map_or (λ (x : Instance). served_at x.service x.timeout) (slice_get xs place)
    unserved) ≡ true
    → is_forward (slice_get (kinds_of xs) place) ≡ true
made_forward [] place e = absurd (cc)
made_forward (x ∷ xs) zero e = forward_service x.service x.timeout e
made_forward (x ∷ xs) (suc place) e = made_forward xs place e

-- a door that was nowhere is found where it was put
none_or : (a : Bool) (n : ℕ) → is_some (cond a (Some n) None) ≡ false → a ≡ false
none_or true n e = absurd (cc)
none_or false n e = refl

put_first : (door : ℕ) (doors : List (Option ℕ)) (i : ℕ)
    → nat_lt (position_or_len (is_of door) doors) (length doors) ≡ false → i < length doors
    → position_or_len (is_of door) (slice_set doors i (Some door)) ≡ i
put_first door [] i none below = omega (arith, below)
put_first door (x ∷ doors) zero none below = grind (arith, nat_tests)
put_first door (x ∷ doors) (suc i) none below =
    grind (arith, nat_tests, put_first door doors i)

found_at : (b : Bool) (n i : ℕ) → b ≡ true → n ≡ i → cond b (Some n) None ≡ Some i
found_at b n i e same = rw (e, same) refl

below_is : (n i len other : ℕ) → n ≡ i → i < len → other ≡ len → nat_lt n other ≡ true
below_is n i len other same below long = grind arith

pub put_there : (door : ℕ) (doors : List (Option ℕ)) (i : ℕ)
    → is_some (position (is_of door) doors) ≡ false → i < length doors
    → position (is_of door) (slice_set doors i (Some door)) ≡ Some i
put_there door doors i none below =
    let at =
    put_first door doors i
    (none_or (nat_lt (position_or_len (is_of door) doors) (length doors)) _ none) below in
    found_at
    (nat_lt (position_or_len (is_of door) (slice_set doors i (Some door)))
    (length (slice_set doors i (Some door)))) _ i
    (below_is _ i (length doors) _ at below (length-set doors i (Some door))) at
