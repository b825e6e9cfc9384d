-- Nothing that a session asks is lost.
use Rattle.std.proofs.Common.{◌≡◌, ℕ, ◌<◌, Bool, true, false, not, ◌&&◌, ◌||◌, if◌then◌else◌, Option}
use Rattle.std.proofs.Common.{Some, None, is_some, Ok, Err, Result, List, [], ◌∷◌, ◌++◌, length}
use Rattle.std.proofs.Common.{slice_get, slice_set, nat_lt, zero, suc, refl, sym, ap, subst}
use Rattle.std.proofs.Common.{◌∙◌, arith}
use Rattle.std.proofs.lemmas.List.{length-replicate}
use Rattle.std.specs.Prelude.{IsFalse, IsSomeAnd}
use Rattle.std.specs.List.{position, list_any}
use Rattle.std.specs.Option.{option_map_or}
use Rattle.archive_terms.specs.Glimpse.{Want}
use Rattle.octet_core.specs.declared.offer.Offer.{Offer}
use Rattle.octet_core.specs.declared.offer.Offer.TheVariants.{Whole, Stalled, Failed as Refused}
use Rattle.link_model.specs.declared.call.Heard.{Heard}
use Rattle.link_model.specs.declared.call.Heard.TheVariants.{Arrived, Nothing as HeardNothing}
use Rattle.link_model.specs.declared.call.Heard.TheVariants.{Closed, Failed}
use Rattle.bind_pdu.specs.Binding.{BindContent}
use Rattle.bind_pdu.specs.Unbinding.{UnbindContent}
use Rattle.sle_numbers.specs.declared.bind_diagnostic.BindDiagnostic.{BindDiagnostic}
use Rattle.sle_numbers.specs.declared.peer_abort_diagnostic.PeerAbortDiagnostic.{PeerAbortDiagnostic}
use Rattle.sle_numbers.specs.declared.peer_abort_diagnostic.PeerAbortDiagnostic.TheVariants as why
use Rattle.return_pdu.specs.declared.return_answer.ReturnAnswer.{ReturnAnswer}
use Rattle.return_pdu.specs.declared.return_answer.ReturnAnswer.TheVariants as given
use Rattle.sle_common.specs.declared.gvcid.Gvcid.{Gvcid}
use Rattle.return_service.specs.Instance.{return_answer}
use Rattle.fcltu_service.specs.declared.answer.CltuAnswer.{CltuAnswer}
use Rattle.fcltu_service.specs.declared.answer.CltuAnswer.TheVariants as told
use Rattle.fcltu_service.specs.Service.{answer_of as fcltu_answer}
use Rattle.station_config.specs.declared.instance.Instance.{Instance}
use Rattle.station_config.specs.declared.site.Site.{Site}
use Rattle.station_config.specs.Drafts.{place_of}
use Rattle.assoc_core.specs.declared.outcome.Outcome.{Outcome}
use Rattle.assoc_core.specs.declared.outcome.Outcome.TheVariants as outcome
use Rattle.assoc_core.specs.declared.state.State.{State as Association}
use Rattle.assoc_core.specs.declared.state.State.TheVariants as state
use Rattle.assoc_core.specs.declared.step.Step.{Step}
use Rattle.assoc_core.specs.declared.step.Step.TheVariants.{Pass, Denied, Abort}
use Rattle.assoc_core.specs.Kind as kind
use Rattle.assoc_core.specs.State.{binding_of, moved}
use Rattle.assoc_core.specs.Association.{refusal, is_decoded, is_in_place}
use Rattle.assoc_core.specs.Association.{after_step as after_judgement}
use Rattle.assoc_core.specs.Access.{is_admitted}
use Rattle.assoc_core.specs.Laws.{BindsItsOwn}
use Rattle.cltu_queue.specs.declared.ask.Ask.{Ask}
use Rattle.cltu_queue.specs.declared.ask.Ask.TheVariants as ask
use Rattle.cltu_queue.specs.declared.book_reply.BookReply.{BookReply}
use Rattle.cltu_queue.specs.declared.book_reply.BookReply.TheVariants.{Bound, AlreadyBound, Nothing, Lost}
use Rattle.station_book.specs.declared.service_kind.ServiceKind.{ServiceKind}
use Rattle.station_book.specs.Origin.{kinds_of, opening_of}
use Rattle.station_book.specs.State.{State as Book, Opening, opened, Event, Reply, answer, answered}
use Rattle.station_book.specs.History.{IsLegal, replay, then_after, instance_of, is_of}
use Rattle.station_book.specs.History.{is_lost as is_lost_ask, reply_of, reply_asked, doors_asked}
use Rattle.station_book.specs.History.{with_ask, has_forward, is_running, is_forward, after}
use Rattle.station_book.specs.History.{is_taken, event_at, moment_at}
use Rattle.station_book.specs.Doors.{is_by, HasOneForward}
use Rattle.session_core.specs.declared.course.Course.{Course}
use Rattle.session_core.specs.declared.course.Course.TheVariants as course
use Rattle.session_core.specs.declared.ended.Ended.{Ended}
use Rattle.session_core.specs.declared.ended.Ended.TheVariants as ended
use Rattle.session_core.specs.declared.spoken.Spoken.TheVariants as spoken
use Rattle.session_core.specs.declared.standing.Standing.{Standing}
use Rattle.session_core.specs.Course.{is_going, is_blocked, has_closed}
use Rattle.session_services.specs.Inquiry.{Inquiry, only_asks, Replied, reply_in}
use Rattle.session_core.specs.Message.{UserContent, context, heartbeat, bind, unbind, peer_abort}
use Rattle.session_core.specs.Message.{invocation, undecoded, out_of_place, judged, kind_of}
use Rattle.session_core.specs.Message.{message_of}
use Rattle.session_services.specs.Service.{Invocation, invocation_kind}
use Rattle.session_services.specs.ReturnServed.{outcome_of, return_asked}
use Rattle.session_services.specs.FcltuServed.{fcltu_asked, fcltu_outcome}
use Rattle.session_services.specs.declared.service_state.ServiceState.TheVariants as serves
use Rattle.session_services.specs.Served.{Served, Message, prepared, concluded_by, dropped_by}
use Rattle.session_core.specs.ServiceSteps.{answered_with, after_stall, is_active, permitted}
use Rattle.session_core.specs.ServiceSteps.{service_bound, settled}
use Rattle.session_core.specs.Handling.{bind_judged, bind_ask, bind_outcome, said_ask, is_agreed}
use Rattle.session_core.specs.Handling.{is_lost, invoked, after_judged, after_passing}
use Rattle.session_core.specs.Steps.{Next, at_moment, is_idle, idle_ask, next_ask, inquiry_entered}
use Rattle.session_core.specs.Steps.{with_next, acted, timed, with_want, said_to, stays_running}
use Rattle.session_core.specs.Steps.{round_begun, course_at_end, has_block, round_ended}
use Rattle.session_core.specs.Session.{State, Round, BookAnswer, next_of, stepped, spoken_of}
use Rattle.session_core.specs.Session.{standing_waited, standing_heard, standing_spoke, standing_sent}
use Rattle.session_core.specs.Session.{spoken_state, before_step, event_of, step_events}
use Rattle.session_core.specs.Session.{session_events, after_rounds}
use Rattle.session_core.specs.Lists.{start_of}
use Rattle.session_core.specs.Laws.{ServiceLeaves}
use Rattle.session_laws.specs.Losing.{own_in, loses, RunHasDoor, NothingIsLost, BeginsFree}
use Rattle.session_laws.proofs.Runs.{OthersLeave, runs_replayed, forward_by, forward_replayed}
use Rattle.session_laws.proofs.Runs.{started_told, free_is_still}
use Rattle.session_laws.proofs.Forwarding.{is_cltu, HasRun, settled_kind, told_kind, serves_by}
use Rattle.session_laws.proofs.Forwarding.{made_forward, put_there}
use Rattle.session_laws.proofs.Places.{places_replayed, places_stay, opening_replayed}
use Rattle.session_laws.proofs.Histories.{split, legal_behind, or_none}
use Rattle.session_laws.proofs.Places.{opening_stays, put_found, is_below, answered_doors, new_free}

-- ---- what is needed of the layers below

-- calls of others leave whether a door's run is started
abbrev pub OthersLeaveRuns : Type 0
OthersLeaveRuns =
    (s : Book) (h : List Event) (door : ℕ) → HasOneForward s.opening.services
    → IsFalse (list_any (λ e. is_by door e.call) h)
    → is_running (replay s h) door ≡ is_running s door

-- no answer of a service binds or unbinds
abbrev is_of_service : Outcome → Bool
is_of_service outcome.Started = true
is_of_service outcome.Stopped = true
is_of_service outcome.Kept = true
is_of_service _ = false

answer_leads : (a : ReturnAnswer) → is_of_service (outcome_of a) ≡ true
answer_leads given.Nothing = refl
answer_leads (given.Start (Ok done)) = refl
answer_leads (given.Start (Err why)) = refl
answer_leads given.Stop = refl
answer_leads (given.Report done) = refl
answer_leads (given.Get found) = refl

forward_leads : (a : CltuAnswer) → is_of_service (fcltu_outcome a) ≡ true
forward_leads told.Nothing = refl
forward_leads (told.Start (Ok times)) = refl
forward_leads (told.Start (Err why)) = refl
forward_leads told.Stop = refl
forward_leads (told.Transfer room result) = refl
forward_leads (told.Throw number result) = refl
forward_leads (told.Report result) = refl
forward_leads (told.Get found) = refl

leads_on : (served : Served) (channels : List Gvcid) (i : Invocation) (r : Replied) (now : ℕ)
    → is_of_service (concluded_by served channels i r now).outcome ≡ true
unfolding concluded_by
leads_on serves.Nothing channels i r now = refl
leads_on (serves.Fcltu f) channels i r now =
    forward_leads (fcltu_answer f (fcltu_asked i) r.reply now)
leads_on (serves.Return s) channels i r now =
    answer_leads (return_answer channels (return_asked i) r.glimpse s)

-- ---- the association

abbrev is_bound : Association → Bool
is_bound a = is_some (binding_of a)

context_binds_none : (a : Association) → is_bound (moved a outcome.Context) ≡ is_bound a
context_binds_none a = grind arith

context_stays : (a : Association) → is_active (moved a outcome.Context) ≡ is_active a
context_stays a = grind arith

kept_binds_none : (a : Association) → is_bound (moved a outcome.Kept) ≡ is_bound a
kept_binds_none a = grind arith

service_binds_none : (a : Association) (o : Outcome) → is_of_service o ≡ true
    → is_bound (moved a o) ≡ is_bound a
service_binds_none a outcome.Started e = grind arith
service_binds_none a outcome.Stopped e = grind arith
service_binds_none a outcome.Kept e = kept_binds_none a
service_binds_none a _ e = absurd (cc)

-- a BIND passes where nobody is bound, and an UNBIND where somebody is
bind_unbound : (site : Site) (a : Association) (b : BindContent) (now : ℕ)
    → judged site a (bind b) now ≡ Pass → a ≡ state.Unbound
bind_unbound site state.Unbound b now e = refl
bind_unbound site state.Opening b now e = absurd (cc)
bind_unbound site (state.Ready binding) b now e = absurd (cc)
bind_unbound site (state.Active binding) b now e = absurd (cc)
bind_unbound site state.Closing b now e = absurd (cc)

-- ---- an end that a lost reply alone leads to

abbrev is_other : PeerAbortDiagnostic → Bool
is_other why.OtherReason = true
is_other _ = false

abbrev is_lost_end : Ended → Bool
is_lost_end (ended.Aborted diagnostic) = is_other diagnostic
is_lost_end _ = false

abbrev is_losing : Course → Bool
is_losing (course.Closing end) = is_lost_end end
is_losing (course.Over end) = is_lost_end end
is_losing _ = false

ends_lost : (c : Course) → is_losing c ≡ false
    → spoken_of c ≡ spoken.Ended (ended.Aborted why.OtherReason) → ⊥
ends_lost (course.Over end) e is = absurd (grind arith)
ends_lost course.Going e is = absurd (cc)
ends_lost (course.Closing end) e is = absurd (cc)
ends_lost course.LinkFailing e is = absurd (cc)
ends_lost course.LinkFailed e is = absurd (cc)
ends_lost course.Spent e is = absurd (cc)

refusal_other : (k : kind.Kind) (d : PeerAbortDiagnostic) → refusal k ≡ Abort d
    → is_other d ≡ false
refusal_other k d e = grind arith

step_other : (x y z : Bool) (k : kind.Kind) (d : PeerAbortDiagnostic)
    → (if not x then Abort why.EncodingError
    else if not y then Abort why.ProtocolError else if not z then refusal k else Pass) ≡ Abort d
    → is_other d ≡ false
step_other false y z k d e = grind arith
step_other true false z k d e = grind arith
step_other true true false k d e = refusal_other k d e
step_other true true true k d e = absurd (cc)

-- ---- a message

-- What a step asks at a moment fits what the door has, and isn't answered Lost. Behind it a session
-- that goes on is bound exactly where the door has an instance, has the run of its door where it is of
-- the forward service, and isn't ended by a lost reply.
record Fits (book : Book) (door now : ℕ) (ask : Ask) (t : Standing) : Type 0 where
  fits : is_lost_ask book door ask ≡ false
  answers : is_lost (reply_of book door now ask) ≡ false
  held : is_going t.course ≡ true
      → is_some (position (is_of door) (doors_asked book door ask)) ≡ is_bound t.association
  runs : is_going t.course ≡ true → is_cltu t.service ≡ true
      → HasRun (with_ask book door now ask) door t.association
  kept : is_losing t.course ≡ false

-- of a session whose door has an instance exactly where it is bound, and its run where it is of the
-- forward service
record Holds (book : Book) (door : ℕ) (s : Standing) : Type 0 where
  held : is_going s.course ≡ true → is_some (instance_of book door) ≡ is_bound s.association
  runs : is_going s.course ≡ true → is_cltu s.service ≡ true → HasRun book door s.association
  kept : is_losing s.course ≡ false

-- what asks nothing, and binds and unbinds nobody
same_fits : (book : Book) (door now : ℕ) (s t : Standing) → Holds book door s
    → (is_going t.course ≡ true → is_going s.course ≡ true)
    → is_bound t.association ≡ is_bound s.association
    → is_active t.association ≡ is_active s.association → t.service ≡ s.service
    → is_losing t.course ≡ false → Fits book door now ask.Nothing t
same_fits book door now s t h going bound active service kept = record {
  fits = refl;
  answers = refl;
  held = λ g. h.held (going g) ∙ sym bound;
  runs = λ g e.
      let run = h.runs (going g) (ap is_cltu (sym service) ∙ e) in
      record { has = run.has; runs = run.runs ∙ sym active };
  kept = kept;
}

-- what ends the session, or is its last
last_fits : (book : Book) (door now : ℕ) (a : Ask) (t : Standing)
    → is_lost_ask book door a ≡ false → is_lost (reply_of book door now a) ≡ false
    → is_going t.course ≡ false → is_losing t.course ≡ false → Fits book door now a t
last_fits book door now a t fits answers still kept = record {
  fits = fits;
  answers = answers;
  held = λ g. absurd (cc);
  runs = λ g. absurd (cc);
  kept = kept;
}

by_ask : (book : Book) (door now : ℕ) (a b : Ask) (t : Standing) → a ≡ b
    → Fits book door now b t → Fits book door now a t
by_ask book door now a b t e h = subst (λ (x : Ask). Fits book door now x t) (sym e) h

-- ---- a BIND, by how it was judged

record Binds (book : Book) (door now : ℕ) (ask : Ask) (a : Association) (served : Served) : Type 0 where
  fits : is_lost_ask book door ask ≡ false
  answers : is_lost (reply_of book door now ask) ≡ false
  held : is_some (position (is_of door) (doors_asked book door ask)) ≡ is_bound a
  runs : is_cltu served ≡ true → HasRun (with_ask book door now ask) door a

binds_free : (site : Site) (book : Book) (door place : ℕ) (peer : Option ℕ) (reply : BookReply)
    (taken : Bool) → is_some (instance_of book door) ≡ false → place < length book.doors
    → reply ≡ (if taken then AlreadyBound else Bound)
    → is_some (position (is_of door)
    (if taken then book.doors else slice_set book.doors place (Some door)))
    ≡ is_bound (moved state.Unbound (bind_outcome site peer (Ok place) reply))
binds_free site book door place peer reply true free below is =
    subst
    (λ (r : BookReply).
    is_some (instance_of book door)
    ≡ is_bound (moved state.Unbound (bind_outcome site peer (Ok place) r))) (sym is) free
binds_free site book door place peer reply false free below is =
    subst
    (λ (r : BookReply).
    is_some (position (is_of door) (slice_set book.doors place (Some door)))
    ≡ is_bound (moved state.Unbound (bind_outcome site peer (Ok place) r))) (sym is)
    (put_found door book.doors place below)

free_fits : (some below : Bool) → some ≡ false → below ≡ true → (some || not below) ≡ false
free_fits some below e f = grind arith

bound_or_not : (taken : Bool) → is_lost (if taken then AlreadyBound else Bound) ≡ false
bound_or_not true = refl
bound_or_not false = refl

-- the run of a door that has just been bound isn't started
bound_runs : (site : Site) (book : Book) (door now place : ℕ) (peer : Option ℕ)
    (reply : BookReply) (taken : Bool) → is_some (instance_of book door) ≡ false
    → place < length book.doors → book.opening.services ≡ kinds_of site.instances
    → HasOneForward book.opening.services → RunHasDoor book
    → is_taken (slice_get book.doors place) ≡ taken → reply ≡ (if taken then AlreadyBound else Bound)
    → is_cltu (service_bound site (Ok place) reply) ≡ true
    → HasRun (with_ask book door now (ask.Bind place)) door
    (moved state.Unbound (bind_outcome site peer (Ok place) reply))
bound_runs site book door now place peer reply true free below services one started held is e =
    absurd
    (cc (sym (ap (λ (r : BookReply). is_cltu (service_bound site (Ok place) r)) is) ∙ e))
bound_runs site book door now place peer reply false free below services one started held is e =
    let made = sym (ap (λ (r : BookReply). is_cltu (service_bound site (Ok place) r)) is) ∙ e in
    let forward : is_forward (slice_get book.opening.services place) ≡ true =
    ap (λ (xs : List ServiceKind). is_forward (slice_get xs place)) services
    ∙ made_forward site.instances place made in
    let put : (with_ask book door now (ask.Bind place)).doors
    ≡ slice_set book.doors place (Some door) =
    ap (λ (b : Bool). if b then book.doors else slice_set book.doors place (Some door)) held in
    let at : instance_of (with_ask book door now (ask.Bind place)) door ≡ Some place =
    ap (λ (doors : List (Option ℕ)). position (is_of door) doors) put
    ∙ put_there door book.doors place free below in
    record {
      has =
          ap (λ (o : Option ℕ). option_map_or
          (λ place. is_forward (slice_get book.opening.services place)) o false) at
          ∙ forward;
      runs =
          free_is_still book place one started forward held
          ∙ ap (λ (r : BookReply). is_active (moved state.Unbound (bind_outcome site peer (Ok place) r)))
          (sym is);
    }

binds_by : (site : Site) (book : Book) (door now : ℕ) (peer : Option ℕ) (reply : BookReply)
    (j : Result ℕ BindDiagnostic) → is_some (instance_of book door) ≡ false
    → length book.doors ≡ length book.opening.services
    → ((place : ℕ) → j ≡ Ok place → place < length book.doors)
    → book.opening.services ≡ kinds_of site.instances → HasOneForward book.opening.services
    → RunHasDoor book → reply ≡ reply_of book door now (bind_ask j)
    → Binds book door now (bind_ask j) (moved state.Unbound (bind_outcome site peer j reply))
    (service_bound site j reply)
binds_by site book door now peer reply (Err fault) free long there services one started is =
    record {
      fits = refl;
      answers = refl;
      held = free;
      runs = λ e.
          absurd
          (cc (sym (ap (λ (r : BookReply). is_cltu (service_bound site (Err fault) r)) is) ∙ e));
    }
binds_by site book door now peer reply (Ok place) free long there services one started is =
    let below = there place refl in
    let fits : is_lost_ask book door (ask.Bind place) ≡ false =
    free_fits (is_some (instance_of book door)) (nat_lt place (length book.opening.services)) free
    (is_below place (length book.doors) (length book.opening.services) long below) in
    let so : reply_of book door now (ask.Bind place)
    ≡ reply_asked book door now (ask.Bind place) =
    ap (λ (b : Bool). if b then Lost else reply_asked book door now (ask.Bind place)) fits in
    record {
      fits = fits;
      answers = ap is_lost so ∙ bound_or_not (is_taken (slice_get book.doors place));
      held =
          binds_free site book door place peer reply (is_taken (slice_get book.doors place)) free
          below (is ∙ so);
      runs =
          bound_runs site book door now place peer reply (is_taken (slice_get book.doors place)) free
          below services one started refl (is ∙ so);
    }

-- ---- an UNBIND

unbind_bound : (site : Site) (a : Association) (u : UnbindContent) (now : ℕ)
    → judged site a (unbind u) now ≡ Pass → is_bound a ≡ true
unbind_bound site state.Unbound u now e = absurd (cc)
unbind_bound site state.Opening u now e = absurd (cc)
unbind_bound site (state.Ready binding) u now e = refl
unbind_bound site (state.Active binding) u now e = refl
unbind_bound site state.Closing u now e = absurd (cc)

unbind_fits : (book : Book) (door now : ℕ) (t : Standing)
    → is_some (instance_of book door) ≡ true → is_going t.course ≡ false
    → is_losing t.course ≡ false → Fits book door now ask.Unbind t
unbind_fits book door now t some still kept =
    let fits : is_lost_ask book door ask.Unbind ≡ false = ap not some in
    last_fits book door now ask.Unbind t fits
    (ap
    (λ (b : Bool). is_lost (if b then Lost else reply_asked book door now ask.Unbind)) fits)
    still kept

-- ---- an invocation

invoked_same : (a : Association) (i : Invocation) → after_judgement a (invocation_kind i) Pass ≡ a
invoked_same a i = grind arith

answered_same : (site : Site) (s : Standing) (k : kind.Kind) (message : Option Message)
    → (answered_with site s k message).association ≡ s.association
answered_same site s k None = refl
answered_same site s k (Some message) = refl

answered_course : (site : Site) (s : Standing) (k : kind.Kind) (message : Option Message)
    → (answered_with site s k message).course ≡ s.course
answered_course site s k None = refl
answered_course site s k (Some message) = refl

-- ---- the step of a session at a book

if_fits : (b : Bool) (book : Book) (door now : ℕ) (a : Ask) (t u : Standing)
    → Fits book door now a t → Fits book door now a u → Fits book door now a (if b then t else u)
if_fits true book door now a t u h k = h
if_fits false book door now a t u h k = k

not_lost : (b : Bool) (book : Book) (door now : ℕ) (a : Ask) (t u : Standing) → b ≡ false
    → Fits book door now a u → Fits book door now a (if b then t else u)
not_lost true book door now a t u e k = absurd (cc)
not_lost false book door now a t u e k = k

want_ask : (b : Bool) (s : Standing) (now : ℕ) (i : Inquiry) → (with_want b s now i).ask ≡ i.ask
want_ask true s now i = refl
want_ask false s now i = refl

idle_fits : (b : Bool) (book : Book) (door now : ℕ) (s : Standing) → Holds book door s
    → Fits book door now (if b then ask.Quiet else ask.Nothing) s
idle_fits true book door now s h = record {
  fits = refl;
  answers = refl;
  held = h.held;
  runs = λ g e. let run = h.runs g e in record { has = run.has; runs = run.runs };
  kept = h.kept;
}
idle_fits false book door now s h = record {
  fits = refl;
  answers = refl;
  held = h.held;
  runs = λ g e. let run = h.runs g e in record { has = run.has; runs = run.runs };
  kept = h.kept;
}

busy_going : (s : Standing) → is_idle s ≡ false → is_going s.course ≡ true
busy_going s e = grind arith

-- an instance that may be bound is one of the site's
place_below : {X : Type 0} (xs : List X) (i : ℕ) (P : X → Type 0) → IsSomeAnd (slice_get xs i) P
    → i < length xs
place_below [] i P h = absurd h
place_below (x ∷ xs) zero P h = omega arith
place_below (x ∷ xs) (suc i) P h = omega (arith, place_below xs i P h)

instances_long : (xs : List Instance) → length (kinds_of xs) ≡ length xs
instances_long [] = refl
instances_long (x ∷ xs) = ap suc (instances_long xs)

module _ (binds : BindsItsOwn) (site : Site) (book : Book) (door : ℕ)
    (services : book.opening.services ≡ kinds_of site.instances)
    (places : length book.doors ≡ length book.opening.services)
    (one : HasOneForward book.opening.services) (started : RunHasDoor book) where
  place_there : (b : BindContent) (place : ℕ) → bind_judged site b ≡ Ok place
      → place < length book.doors
  place_there b place e =
      let below : place < length site.instances =
      place_below site.instances place _ (binds site (record {
        peer = place_of b.initiator site.peers;
        service = b.service;
        version = b.version;
        id = b.instance;
      }) place e) in
      let long : length book.doors ≡ length site.instances =
      places ∙ ap length services ∙ instances_long site.instances in
      subst (λ (n : ℕ). place < n) (sym long) below

  invocation_fits : (s : Standing) (i : Invocation) (now : ℕ) (r : Replied)
      → is_going s.course ≡ true → Holds book door s
      → judged site s.association (invocation i) s.moment ≡ Pass
      → r.reply ≡ reply_of book door now (prepared s.service i).ask
      → Fits book door now (prepared s.service i).ask
      (after_passing site (invoked s (invocation i) Pass) (invocation i) r)
  invocation_fits s i now r going h pass is =
      let t = invoked s (invocation i) Pass in
      let channels = permitted site s in
      let done = concluded_by s.service channels i r s.moment in
      let k = invocation_kind i in
      let course = answered_course site t k done.answer in
      let same : (answered_with site t k done.answer).association ≡ s.association =
      answered_same site t k done.answer ∙ invoked_same s.association i in
      let part =
      serves_by site book door now s.moment s.association s.service channels i r pass (h.runs going) is
      in
      record {
        fits = part.fits;
        answers = part.answers;
        held = λ g.
            ap (λ (doors : List (Option ℕ)). is_some (position (is_of door) doors)) part.held
            ∙ h.held going
            ∙ sym
            (service_binds_none _ done.outcome (leads_on s.service channels i r s.moment)
            ∙ ap is_bound same);
        runs = λ g e.
            subst
            (λ (a : Association).
            HasRun (with_ask book door now (prepared s.service i).ask) door (moved a done.outcome))
            (sym same) (part.runs e);
        kept = ap is_losing course ∙ h.kept;
      }

  -- a message that passed
  passes : (s : Standing) (said : UserContent) (now : ℕ) (r : Replied) → is_going s.course ≡ true
      → Holds book door s → judged site s.association said s.moment ≡ Pass
      → r.reply ≡ reply_of book door now (said_ask site s.service said Pass).ask
      → Fits book door now (said_ask site s.service said Pass).ask
      (after_passing site (invoked s said Pass) said r)
  passes s (context interval factor) now r going h pass is =
      if_fits (is_agreed site interval factor) book door now ask.Nothing _ _
      (same_fits book door now s _ h (λ g. g) (context_binds_none s.association)
      (context_stays s.association) refl h.kept)
      (last_fits book door now ask.Nothing _ refl refl refl refl)
  passes s heartbeat now r going h pass is =
      same_fits book door now s _ h (λ g. g) refl refl refl h.kept
  passes s (bind b) now r going h pass is =
      let free : s.association ≡ state.Unbound = bind_unbound site s.association b s.moment pass in
      let none : is_some (instance_of book door) ≡ false = h.held going ∙ ap is_bound free in
      let peer = place_of b.initiator site.peers in
      let j = bind_judged site b in
      let done =
      binds_by site book door now peer r.reply j none places (place_there b) services one started is in
      record {
        fits = done.fits;
        answers = done.answers;
        held = λ g.
            done.held
            ∙ ap (λ (a : Association). is_bound (moved a (bind_outcome site peer j r.reply)))
            (sym free);
        runs = λ g e.
            subst
            (λ (a : Association).
            HasRun (with_ask book door now (bind_ask j)) door
            (moved a (bind_outcome site peer j r.reply))) (sym free) (done.runs e);
        kept = h.kept;
      }
  passes s (unbind u) now r going h pass is =
      unbind_fits book door now _
      (h.held going ∙ unbind_bound site s.association u s.moment pass) refl refl
  passes s (peer_abort diagnostic) now r going h pass is =
      last_fits book door now ask.Nothing _ refl refl refl refl
  passes s (invocation i) now r going h pass is = invocation_fits s i now r going h pass is
  passes s undecoded now r going h pass is =
      same_fits book door now s _ h (λ g. g) refl refl refl h.kept
  passes s out_of_place now r going h pass is =
      same_fits book door now s _ h (λ g. g) refl refl refl h.kept

  -- any message
  concludes : (s : Standing) (said : UserContent) (st : Step) (now : ℕ) (r : Replied)
      → is_going s.course ≡ true → Holds book door s
      → judged site s.association said s.moment ≡ st
      → r.reply ≡ reply_of book door now (said_ask site s.service said st).ask
      → Fits book door now (said_ask site s.service said st).ask
      (after_judged site (invoked s said st) said st r)
  concludes s said Pass now r going h so is =
      let done = passes s said now r going h so is in
      not_lost (is_lost r.reply) book door now _ _ _ (ap is_lost is ∙ done.answers) done
  concludes s said Denied now r going h so is =
      not_lost (is_lost r.reply) book door now _ _ _ (ap is_lost is)
      (last_fits book door now ask.Nothing _ refl refl refl refl)
  concludes s said (Abort d) now r going h so is =
      not_lost (is_lost r.reply) book door now _ _ _ (ap is_lost is)
      (last_fits book door now ask.Nothing _ refl refl refl
      (step_other (is_decoded s.association (kind_of said)) (is_in_place s.association (kind_of said))
      (is_admitted site s.association (message_of said s.moment)) (kind_of said) d so))

  nexts : (s : Standing) (next : Next) (now : ℕ) (r : Replied) → is_going s.course ≡ true
      → Holds book door s → r.reply ≡ reply_of book door now (next_ask site s next s.moment).ask
      → Fits book door now (next_ask site s next s.moment).ask (with_next site s next r)
  nexts s (Err fault) now r going h is =
      last_fits book door now ask.Nothing _ refl refl refl refl
  nexts s (Ok None) now r going h is =
      by_ask book door now _ ask.Nothing _
      (want_ask (not (has_closed s.arrival)) s s.moment (only_asks ask.Nothing))
      (if_fits (has_closed s.arrival) book door now ask.Nothing _ s
      (last_fits book door now ask.Nothing _ refl refl refl refl)
      (same_fits book door now s s h (λ g. g) refl refl refl h.kept))
  nexts s (Ok (Some message)) now r going h is =
      let said = said_to site s message in
      let st = judged site s.association said s.moment in
      let same = want_ask (stays_running said st) s s.moment (said_ask site s.service said st) in
      by_ask book door now _ _ _ same
      (concludes s said st now r going h refl (is ∙ ap (reply_of book door now) same))

  acts : (s : Standing) (next : Next) (now : ℕ) (r : Replied) → Holds book door s
      → r.reply ≡ reply_of book door now (inquiry_entered site s next).ask
      → Fits book door now (inquiry_entered site s next).ask (acted site s next r)
  acts s next now r h is = by (is_idle s) refl is
    where
      by : (b : Bool) → is_idle s ≡ b
          → r.reply
          ≡ reply_of book door now (if b then idle_ask s else next_ask site s next s.moment).ask
          → Fits book door now (if b then idle_ask s else next_ask site s next s.moment).ask
          (if b then s else with_next site s next r)
      by true e same = idle_fits (is_blocked s.arrival) book door now s h
      by false e same = nexts s next now r (busy_going s e) h same

-- ---- the rest of a step

timed_going : (s : Standing) → is_going (timed s).course ≡ true → is_going s.course ≡ true
timed_going s e = grind arith

timed_same : (s : Standing) → (timed s).association ≡ s.association
timed_same s = grind arith

timed_service : (s : Standing) → is_going (timed s).course ≡ true → (timed s).service ≡ s.service
timed_service s e = grind arith

-- the run of a door behind its answer
run_asked : (book : Book) (door reading : ℕ) (x : Ask) (want : Want) (a b : Association)
    → is_lost_ask book door x ≡ false → is_active b ≡ is_active a
    → HasRun (with_ask book door (moment_at book reading) x) door a
    → HasRun (after book (answer door reading x want)) door b
run_asked book door reading x want a b fits active run =
    let now = moment_at book reading in
    record {
      has =
          forward_by (with_ask book door now x) (after book (answer door reading x want)) door
          (opening_stays book (answer door reading x want))
          (ap (λ (doors : List (Option ℕ)). position (is_of door) doors)
          (answered_doors book door reading x fits))
          ∙ run.has;
      runs =
          started_told book door now x
          ∙ ap (λ (b : Bool). (if b then book else with_ask book door now x).queue.started) fits
          ∙ run.runs
          ∙ sym active;
    }

timed_kept : (s : Standing) → is_losing s.course ≡ false → is_losing (timed s).course ≡ false
timed_kept s e = grind arith

-- ---- a session and its book

-- the book is of the session's site, and the door has an instance exactly where it is bound
record Kept (site : Site) (door : ℕ) (book : Book) (s : Standing) : Type 0 where
  services : book.opening.services ≡ kinds_of site.instances
  places : length book.doors ≡ length book.opening.services
  runs : RunHasDoor book
  holds : Holds book door s

abbrev replied : Reply → BookReply
replied (answered a) = a.reply
replied _ = Nothing

-- a session that doesn't go on
gone_holds : (book : Book) (door : ℕ) (s : Standing) → is_going s.course ≡ false
    → is_losing s.course ≡ false → Holds book door s
gone_holds book door s gone kept =
    record { held = λ g. absurd (cc); runs = λ g. absurd (cc); kept = kept }

-- a call of its listen or speak
waited_holds : (book : Book) (door : ℕ) (s : Standing) (o : Option Offer) → Holds book door s
    → Holds book door (standing_waited s o)
waited_holds book door s None h = h
waited_holds book door s (Some Whole) h = record { held = h.held; runs = h.runs; kept = h.kept }
waited_holds book door s (Some Stalled) h = record { held = h.held; runs = h.runs; kept = h.kept }
waited_holds book door s (Some Refused) h = gone_holds book door _ refl refl

heard_holds : (book : Book) (door : ℕ) (s : Standing) (o : Option Heard) → Holds book door s
    → Holds book door (standing_heard s o)
heard_holds book door s None h = h
heard_holds book door s (Some (Arrived octets)) h =
    record { held = h.held; runs = h.runs; kept = h.kept }
heard_holds book door s (Some HeardNothing) h =
    record { held = h.held; runs = h.runs; kept = h.kept }
heard_holds book door s (Some Closed) h = record { held = h.held; runs = h.runs; kept = h.kept }
heard_holds book door s (Some Failed) h = gone_holds book door _ refl refl

spoke_holds : (book : Book) (door : ℕ) (s : Standing) (o : Option Offer) → Holds book door s
    → Holds book door (standing_spoke s o)
spoke_holds book door s None h = h
spoke_holds book door s (Some Whole) h = record { held = h.held; runs = h.runs; kept = h.kept }
spoke_holds book door s (Some Stalled) h = record { held = h.held; runs = h.runs; kept = h.kept }
spoke_holds book door s (Some Refused) h = gone_holds book door _ refl refl

stall_holds : (book : Book) (door : ℕ) (s : Standing) (items : Option ℕ) → Holds book door s
    → Holds book door (after_stall s items)
stall_holds book door s None h = record { held = h.held; runs = h.runs; kept = h.kept }
stall_holds book door s (Some items) h = record { held = h.held; runs = h.runs; kept = h.kept }

-- the answer to its service's message
settled_holds : (book : Book) (door : ℕ) (s : Standing) (said : Offer) → Holds book door s
    → Holds book door (settled said s)
settled_holds book door s said h = record {
  held = h.held;
  runs = λ g e. h.runs g (sym (settled_kind said s.service) ∙ e);
  kept = h.kept;
}

sent_holds : (book : Book) (door : ℕ) (s : Standing) (o : Option Offer) → Holds book door s
    → Holds book door (standing_sent s o)
sent_holds book door s None h = record { held = h.held; runs = h.runs; kept = h.kept }
sent_holds book door s (Some Whole) h =
    let t : Standing = record s { outgoing = []; sent = s.moment; dropped = None } in
    settled_holds book door t Whole (record { held = h.held; runs = h.runs; kept = h.kept })
sent_holds book door s (Some Stalled) h =
    settled_holds book door (after_stall s (dropped_by s.service)) Stalled
    (stall_holds book door s (dropped_by s.service) h)
sent_holds book door s (Some Refused) h = gone_holds book door _ refl refl

ended_going : (c : Course) (waits : Bool) → is_going (course_at_end c waits) ≡ true
    → is_going c ≡ true
ended_going c waits e = grind arith

ended_kept : (c : Course) (waits : Bool) → is_losing c ≡ false
    → is_losing (course_at_end c waits) ≡ false
ended_kept c waits e = grind arith

ended_holds : (book : Book) (door : ℕ) (s : Standing) → Holds book door s
    → Holds book door (round_ended s)
ended_holds book door s h = record {
  held = λ g. h.held (ended_going s.course (has_block s) g);
  runs = λ g e. h.runs (ended_going s.course (has_block s) g) e;
  kept = ended_kept s.course (has_block s) h.kept;
}

both_runs : (a b c d : Bool) → a ≡ true → c ≡ true → (a && b) ≡ (c && d) → b ≡ d
both_runs a b c d e f same = grind arith

module _ (binds : BindsItsOwn) (others : OthersLeave) (others_run : OthersLeaveRuns)
    (leaves : ServiceLeaves) (site : Site) (single : HasOneForward (kinds_of site.instances))
    (door : ℕ) where
  one_in : (book : Book) → book.opening.services ≡ kinds_of site.instances
      → HasOneForward book.opening.services
  one_in book services = subst HasOneForward (sym services) single

  run_kept : (book : Book) (h : List Event) (a : Association)
      → list_any (λ e. is_by door e.call) h ≡ false
      → book.opening.services ≡ kinds_of site.instances → HasRun book door a
      → HasRun (replay book h) door a
  run_kept book h a none services run =
      let has = forward_replayed others book h door (opening_replayed book h) none ∙ run.has in
      record {
        has = has;
        runs =
            both_runs (has_forward (replay book h) door) (replay book h).queue.started
            (has_forward book door) book.queue.started has run.has
            (others_run book h door (one_in book services) none)
            ∙ run.runs;
      }

  others_keep : (book : Book) (h : List Event) (s : Standing)
      → list_any (λ e. is_by door e.call) h ≡ false → Kept site door book s
      → Kept site door (replay book h) s
  others_keep book h s none k = record {
    services = ap (λ (o : Opening). o.services) (opening_replayed book h) ∙ k.services;
    places =
        places_replayed book h
        ∙ k.places
        ∙ sym (ap (λ (o : Opening). length o.services) (opening_replayed book h));
    runs = runs_replayed others book h k.runs;
    holds = record {
      held = λ g. ap is_some (others book h door none) ∙ k.holds.held g;
      runs = λ g e. run_kept book h s.association none k.services (k.holds.runs g e);
      kept = k.holds.kept;
    };
  }

  -- the step of a round, at the book that answered it
  told_keeps : (s : State) (told : BookAnswer) (book : Book) → Kept site door book s.standing
      → event_of site door s told ≡ event_at book (event_of site door s told).call
      → (loses (event_of site door s told).reply ≡ false)
      × Kept site door (then_after book (event_of site door s told))
      (stepped site s (Some told)).standing
  told_keeps s told book k e =
      let u = at_moment s.standing told.moment in
      let next = next_of s in
      let r = reply_in told.answer in
      let i = inquiry_entered site u next in
      let now = moment_at book told.reading in
      let is : r.reply ≡ reply_of book door now i.ask =
      ap (λ (x : Event). replied x.reply) e in
      let h : Holds book door u =
      record { held = k.holds.held; runs = k.holds.runs; kept = k.holds.kept } in
      let done =
      acts binds site book door k.services k.places (one_in book k.services) k.runs u next now r h is in
      let v = acted site u next r in
      let same = leaves site (is_active s.standing.association) r.glimpse r (timed v) in
      let call = answer door told.reading i.ask i.want in (
        ap is_lost is ∙ done.answers,
        record {
          services = ap (λ (o : Opening). o.services) (opening_stays book call) ∙ k.services;
          places =
              places_stay book call
              ∙ k.places
              ∙ sym (ap (λ (o : Opening). length o.services) (opening_stays book call));
          runs = runs_replayed others book (event_of site door s told ∷ []) k.runs;
          holds = record {
            runs = λ g e.
                let on = sym (ap is_going same.course) ∙ g in
                let before =
                ap is_cltu (sym (timed_service v on))
                ∙ sym (told_kind site (is_active s.standing.association) r.glimpse r (timed v))
                ∙ e in
                run_asked book door told.reading i.ask i.want v.association _ done.fits
                (ap is_active (same.association ∙ timed_same v)) (done.runs (timed_going v on) before);
            held = λ g.
                ap (λ (doors : List (Option ℕ)). is_some (position (is_of door) doors))
                (answered_doors book door told.reading i.ask done.fits)
                ∙ done.held (timed_going v (sym (ap is_going same.course) ∙ g))
                ∙ sym (ap is_bound (same.association ∙ timed_same v));
            kept = ap is_losing same.course ∙ timed_kept v done.kept;
          };
        },
      )

  heard_keeps : (book : Book) (s : Standing) (waited : Option Offer) (heard : Option Heard)
      → Kept site door book s
      → Kept site door book (standing_heard (standing_waited (round_begun s) waited) heard)
  heard_keeps book s waited heard k = record {
    services = k.services;
    places = k.places;
    runs = k.runs;
    holds =
        heard_holds book door _ heard
        (waited_holds book door (round_begun s) waited
        (record { held = k.holds.held; runs = k.holds.runs; kept = k.holds.kept }));
  }

  spoken_keeps : (book : Book) (s : Standing) (spoke sent : Option Offer) → Kept site door book s
      → Kept site door book (round_ended (standing_sent (standing_spoke s spoke) sent))
  spoken_keeps book s spoke sent k = record {
    services = k.services;
    places = k.places;
    runs = k.runs;
    holds =
        ended_holds book door _
        (sent_holds book door _ sent (spoke_holds book door s spoke k.holds));
  }

  -- ---- rounds

  -- what is to be shown of rounds behind a state
  abbrev Walks : List Round → Type 0
  Walks rounds =
      (s : State) (book : Book) (h last : List Event) → Kept site door book s.standing
      → IsLegal book h → own_in door h ≡ session_events site door s rounds ++ last
      → (list_any (λ e. loses e.reply) (session_events site door s rounds) ≡ false)
      × (is_losing (after_rounds site s rounds).standing.course ≡ false)

  told_walks : (t : State) (told : Option BookAnswer) (spoke sent : Option Offer)
      (rounds : List Round) → Walks rounds → (book : Book) (h last : List Event)
      → Kept site door book t.standing → IsLegal book h
      → own_in door h
      ≡ (step_events site door t told
      ++ session_events site door (spoken_state (stepped site t told) spoke sent) rounds) ++ last
      → (list_any (λ e. loses e.reply)
      (step_events site door t told
      ++ session_events site door (spoken_state (stepped site t told) spoke sent) rounds) ≡ false)
      × (is_losing
      (after_rounds site (spoken_state (stepped site t told) spoke sent) rounds).standing.course
      ≡ false)
  told_walks t None spoke sent rounds more book h last k legal own =
      more (spoken_state t spoke sent) book h last
      (spoken_keeps book t.standing spoke sent k) legal own
  told_walks t (Some told) spoke sent rounds more book h last k legal own =
      let e = event_of site door t told in
      let now = spoken_state (stepped site t (Some told)) spoke sent in
      let cut = split door h e (session_events site door now rounds ++ last) own in
      let at = replay book cut.others in
      let on = legal_behind book cut.others (e ∷ cut.later) (subst (IsLegal book) cut.so legal) in
      let one =
      told_keeps t told at (others_keep book cut.others t.standing cut.none k) on.0 in
      let rest =
      more now (then_after at e) cut.later last
      (spoken_keeps (then_after at e) (stepped site t (Some told)).standing spoke sent one.1) on.1
      cut.own in
      (or_none (loses e.reply) _ one.0 rest.0, rest.1)

  walk : (rounds : List Round) → Walks rounds
  walk [] s book h last k legal own = (refl, k.holds.kept)
  walk (r ∷ rounds) s book h last k legal own =
      told_walks (before_step s r) r.told r.spoke r.sent rounds (walk rounds) book h last
      (heard_keeps book s.standing r.waited r.heard k) legal own

pub nothing_is_lost : BindsItsOwn → OthersLeave → OthersLeaveRuns → ServiceLeaves → NothingIsLost
nothing_is_lost binds others others_run leaves b book h last rounds single free legal are own =
    let all =
    walk binds others others_run leaves b.site single b.door rounds (start_of b) book h
    last
    (record {
      services = free.services;
      places = free.places;
      runs = free.runs;
      holds = record {
        held = λ g. ap is_some free.free;
        runs = λ g e. absurd (cc);
        kept = refl;
      };
    }) legal own in
    record { replies = all.0; ends = λ e. ends_lost (after_rounds b.site (start_of b) rounds).standing.course all.1 e }

pub begins_free : OthersLeave → BeginsFree
begins_free others site entries workers door h none =
    let o = opening_of site entries workers in
    record {
      services = ap (λ (x : Opening). x.services) (opening_replayed (opened o) h);
      places =
          places_replayed (opened o) h
          ∙ length-replicate (length o.services) None
          ∙ sym (ap (λ (x : Opening). length x.services) (opening_replayed (opened o) h));
      runs = runs_replayed others (opened o) h (λ e. absurd (cc));
      free = others (opened o) h door none ∙ new_free door (length o.services);
    }
