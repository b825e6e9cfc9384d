-- When a session tells a status report, and what the report says (CCSDS 911.1-B, RAF-STATUS-REPORT;
-- CCSDS 911.2-B; CCSDS 912.1-B). That it is told in the round in which it is due is this product's
-- own.
use Rattle.std.specs.Prelude.{◌≡◌, ℕ, ◌+◌, ◌*◌, nat_le, Bool, true, false, not, ◌&&◌}
use Rattle.std.specs.Prelude.{if◌then◌else◌, Option, Some, None, is_some, option_and_then, List, []}
use Rattle.std.specs.Prelude.{◌∷◌, ◌++◌}
use Rattle.std.specs.List.{list_any}
use Rattle.std.specs.Option.{option_map_or}
use Rattle.octet_core.specs.declared.offer.Offer.{Offer}
use Rattle.octet_core.specs.declared.offer.Offer.TheVariants.{Whole}
use Rattle.isp1_tml.specs.Message.{Content, spelling}
use Rattle.archive_terms.specs.Placed.{ToldItem}
use Rattle.report_cycle.specs.declared.schedule.Schedule.{Schedule}
use Rattle.report_cycle.specs.declared.schedule.TheConstants.{PICOS_A_SECOND}
use Rattle.report_cycle.specs.Schedule.{is_stop, refusal}
use Rattle.archive_terms.specs.Rounds.{whole}
use Rattle.return_pdu.specs.Scheduling.{ScheduleContent}
use Rattle.return_service.specs.Counts.{no_frames, with_frames_of}
use Rattle.return_service.specs.Serving.{Serving, handed_over, is_offline, numbers_of}
use Rattle.station_config.specs.declared.site.Site.{Site}
use Rattle.cltu_queue.specs.declared.notice.Notice.{Notice}
use Rattle.session_services.specs.declared.service_state.ServiceState.TheVariants.{Nothing, Return, Fcltu}
use Rattle.session_services.specs.Inquiry.{reply_in}
use Rattle.session_services.specs.FcltuServed.{fcltu_told, fcltu_notified}
use Rattle.session_services.specs.ReturnServed.{return_told}
use Rattle.session_services.specs.Served.{Served, Message, reported_by}
use Rattle.session_services.specs.Service.{schedules}
use Rattle.session_core.specs.declared.standing.Standing.{Standing}
use Rattle.session_core.specs.Laws.{round_messages}
use Rattle.session_core.specs.Message.{UserContent, bind, invocation}
use Rattle.session_core.specs.ServiceSteps.{may_tell}
use Rattle.session_core.specs.Session.{State, Round, BookAnswer, next_of, before_step, before_speak}
use Rattle.session_core.specs.Session.{after_round, after_rounds}
use Rattle.session_core.specs.Steps.{acted, at_moment, said_to, timed}
use Rattle.session_laws.specs.Deliveries.{return_of, delivery_of}

-- ---- what a round tells

-- how a session stands in a round once its message was handled and its dead timer was read
abbrev pub acted_on : Site → State → BookAnswer → Standing
acted_on site t told =
    timed (acted site (at_moment t.standing told.moment) (next_of t) (reply_in told.answer))

-- whether a round may tell a report or a notice: it isn't blocked, and its session goes on after the
-- round's message, as it doesn't after UNBIND, an abort or its end
abbrev pub may_report : Site → State → Round → Bool
may_report site s r =
    option_map_or (λ told. may_tell (acted_on site (before_step s r) told)) r.told false

-- the status report that a round tells, if it tells one
abbrev pub report_at : Standing → BookAnswer → Option Message
report_at s told =
    if may_tell s then (reported_by s.service (reply_in told.answer) s.moment).report else None

abbrev pub report_in : Site → State → Round → Option Message
report_in site s r =
    option_and_then (λ told. report_at (acted_on site (before_step s r) told) told) r.told

abbrev pub reports : Site → State → Round → Bool
reports site s r = is_some (report_in site s r)

-- none of these rounds tells one
abbrev pub none_reports : Site → State → List Round → Bool
none_reports site s [] = true
none_reports site s (r ∷ rounds) =
    not (reports site s r) && none_reports site (after_round site s r) rounds

-- a message is in a block, with some credentials
pub record IsIn (message : Message) (block : List ℕ) : Type 0 where
  pub credentials : Option (List ℕ)
  pub before : List ℕ
  pub after : List ℕ
  pub is : block ≡ before ++ (spelling (message credentials) ++ after)

-- an FCLTU instance is bound
unfoldable pub is_forward_in : Served → Bool
is_forward_in (Fcltu f) = true
is_forward_in _ = false

-- The report of a round is in the block that the round offers; and so is the notice that the book
-- gave in it, where an FCLTU instance is bound and the round may tell it.
pub record TellsInBlock : Type 0 where
  pub report : (site : Site) (s : State) (r : Round) (message : Message)
      → report_in site s r ≡ Some message → IsIn message (before_speak site s r).standing.block
  pub notice : (site : Site) (s : State) (r : Round) (told : BookAnswer) (notice : Notice)
      → r.told ≡ Some told → told.answer.notice ≡ Some notice → may_report site s r ≡ true
      → is_forward_in (acted_on site (before_step s r) told).service ≡ true
      → IsIn (fcltu_notified notice) (before_speak site s r).standing.block

-- ---- when

-- when status reports of the bound service are due, and the seconds of its running cycle
unfoldable pub schedule_of : Served → Option Schedule
schedule_of Nothing = None
schedule_of (Return r) = Some r.schedule
schedule_of (Fcltu f) = Some f.reports

abbrev pub cycle_of : Served → Option ℕ
cycle_of served = option_and_then (λ (x : Schedule). x.cycle) (schedule_of served)

-- a user's SCHEDULE-STATUS-REPORT
abbrev pub is_schedule : UserContent → Bool
is_schedule (invocation (schedules s)) = true
is_schedule _ = false

abbrev pub asks_report : Site → State → Round → Bool
asks_report site s r =
    list_any (λ m. is_schedule (said_to site (before_step s r).standing m)) (round_messages s r)

-- whether so many seconds have passed from one moment to another
abbrev pub has_passed : ℕ → ℕ → ℕ → Bool
has_passed since now seconds = nat_le (since + seconds * PICOS_A_SECOND) now

-- After a round that tells a report, whatever it told it for, and any rounds that tell none, a round
-- that handles no SCHEDULE-STATUS-REPORT tells the next one exactly where it may and a cycle runs
-- whose seconds have passed since that report. Before the first report no such round tells one.
pub record ReportsComeInTime : Type 0 where
  pub next : (site : Site) (s : State) (r q : Round) (rounds : List Round) (told now : BookAnswer)
      → r.told ≡ Some told → reports site s r ≡ true
      → none_reports site (after_round site s r) rounds ≡ true →
      let t = after_rounds site (after_round site s r) rounds in
      q.told ≡ Some now → asks_report site t q ≡ false
      → reports site t q
      ≡ (may_report site t q
      && option_map_or (has_passed told.moment now.moment)
      (cycle_of (acted_on site (before_step t q) now).service) false)
  pub first : (site : Site) (s : State) (rounds : List Round) (q : Round)
      → schedule_of s.standing.service ≡ None → none_reports site s rounds ≡ true →
      let t = after_rounds site s rounds in
      asks_report site t q ≡ false → reports site t q ≡ false

-- offline delivery has no reports
unfoldable pub is_offline_in : Served → Bool
is_offline_in (Return r) = is_offline r.course
is_offline_in _ = false

-- A SCHEDULE-STATUS-REPORT for a report at once or for a cycle, which isn't refused, is followed by a
-- report in its own round.
abbrev pub RequestsAreTold : Type 0
RequestsAreTold =
    (site : Site) (s : State) (r : Round) (told : BookAnswer) (message : Content)
    (i : ScheduleContent) (own : Schedule) → r.told ≡ Some told
    → round_messages s r ≡ message ∷ []
    → said_to site (before_step s r).standing message ≡ invocation (schedules i)
    → is_stop i.report ≡ false → schedule_of s.standing.service ≡ Some own
    → refusal (is_offline_in s.standing.service) own i.report ≡ None
    → may_report site s r ≡ true → reports site s r ≡ true

-- ---- what

-- a user's BIND
abbrev pub is_bind : UserContent → Bool
is_bind (bind b) = true
is_bind _ = false

abbrev pub asks_bind : Site → State → Round → Bool
asks_bind site s r =
    list_any (λ m. is_bind (said_to site (before_step s r).standing m)) (round_messages s r)

-- none of these rounds handles one
abbrev pub none_binds : Site → State → List Round → Bool
none_binds site s [] = true
none_binds site s (r ∷ rounds) =
    not (asks_bind site s r) && none_binds site (after_round site s r) rounds

-- the items of the buffer that a round handed over, where the link took it whole, and those of rounds
abbrev pub was_taken : Option Offer → Bool
was_taken (Some Whole) = true
was_taken _ = false

abbrev pub items_in : Site → State → Round → List ToldItem
items_in site s r =
    if was_taken r.sent
    then option_map_or (λ c. handed_over c whole)
    (delivery_of (before_speak site s r).standing.service) []
    else []

abbrev pub items_of : Site → State → List Round → List ToldItem
items_of site s [] = []
items_of site s (r ∷ rounds) = items_in site s r ++ items_of site (after_round site s r) rounds

-- From the round on that binds an instance of a return service, its counts are those of the frames in
-- the buffers that were handed over since, up to the counts' end.
abbrev pub FramesAreCounted : Type 0
FramesAreCounted =
    (site : Site) (s : State) (r : Round) (rounds : List Round) (own : Serving)
    → return_of s.standing.service ≡ None
    → none_binds site (after_round site s r) rounds ≡ true
    → return_of (after_rounds site (after_round site s r) rounds).standing.service ≡ Some own
    → own.counts ≡ with_frames_of (items_of site s (r ∷ rounds)) no_frames

-- A report of a return service says these counts, and the locks and the production status of the
-- round's look; one of FCLTU says what the book told of its queue in the round.
pub record ReportsSay : Type 0 where
  pub of_return : (site : Site) (s : State) (r : Round) (told : BookAnswer) (own : Serving)
      (message : Message) → r.told ≡ Some told → return_of s.standing.service ≡ Some own
      → report_in site s r ≡ Some message
      → message ≡ return_told own.kind (numbers_of own.counts told.answer.glimpse)
  pub of_forward : (site : Site) (s : State) (r : Round) (told : BookAnswer) (message : Message)
      → r.told ≡ Some told → is_forward_in s.standing.service ≡ true
      → report_in site s r ≡ Some message → message ≡ fcltu_told told.answer.view
