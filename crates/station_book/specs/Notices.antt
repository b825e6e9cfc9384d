-- What the user of the forward service is told of its run without having asked (CCSDS 912.1-B,
-- CLTU-ASYNC-NOTIFY): which notices the calls of a history make, and which of them a door is told.
-- Which notices are made, and when one replaces another, is this product's own.
use Rattle.std.specs.Prelude.{◌≡◌, ℕ, ◌-◌, Bool, true, false, not, ◌&&◌, ◌==◌, if◌then◌else◌}
use Rattle.std.specs.Prelude.{Option, None, List, [], ◌∷◌, ◌++◌, length, map, take as front}
use Rattle.std.specs.List.{filter_map, list_any}
use Rattle.std.specs.Option.{option_map_or}
use Rattle.fcltu_numbers.specs.declared.cltu_notification_type.CltuNotificationType.{CltuNotificationType}
use Rattle.fcltu_numbers.specs.declared.cltu_notification_type.CltuNotificationType.TheVariants as kind
use Rattle.fcltu_numbers.specs.declared.cltu_production_status.CltuProductionStatus.{CltuProductionStatus}
use Rattle.fcltu_numbers.specs.declared.cltu_production_status.CltuProductionStatus.TheVariants.{Operational, Configured, Interrupted, Halted}
use Rattle.cltu_queue.specs.Machine.{Machine, notice_of, ends_with_production, is_this, is_of_run}
use Rattle.cltu_queue.specs.Machine.{is_same, on_take}
use Rattle.cltu_queue.specs.declared.ask.Ask.TheVariants as ask
use Rattle.cltu_queue.specs.declared.book_reply.BookReply.{BookReply}
use Rattle.cltu_queue.specs.declared.book_reply.BookReply.TheVariants.{Unbound, Stopped}
use Rattle.cltu_queue.specs.declared.in_air.InAir.{InAir}
use Rattle.cltu_queue.specs.declared.notice.Notice.{Notice}
use Rattle.cltu_queue.specs.declared.taken.Taken.{Taken}
use Rattle.cltu_queue.specs.declared.taken.Taken.TheVariants.{Expired}
use Rattle.station_book.specs.State.{State, Call, answer, quit, take, done, interrupted, uplink}
use Rattle.station_book.specs.State.{Reply, answered, Event}
use Rattle.station_book.specs.History.{moment_of, after, then_after, replay}
use Rattle.station_book.specs.Radiation.{where_started}

-- a run at its door -------------------------------------------------------------------------------

-- the door whose START began a run
abbrev pub door_of_run_by : Call → Reply → Option ℕ
door_of_run_by (answer door _ (ask.CltuStart _) _) (answered a) = where_started door a.reply
door_of_run_by _ _ = None

abbrev pub door_of_run : Event → Option ℕ
door_of_run e = door_of_run_by e.call e.reply

-- whether a reply tells that what its door had has ended: a STOP that was done, or an UNBIND
abbrev pub is_stop : BookReply → Bool
is_stop Stopped = true
is_stop Unbound = true
is_stop _ = false

-- whether a call of this door ends its run: a STOP, an UNBIND or the door's quit
abbrev pub stops_by : ℕ → Call → Reply → Bool
stops_by door (answer other _ _ _) (answered a) = other == door && is_stop a.reply
stops_by door (quit other) _ = other == door
stops_by door _ _ = false

-- whether no event of a list ends the run of this door
abbrev pub are_before_stop : ℕ → List Event → Bool
are_before_stop door events = not (list_any (λ e. stops_by door e.call e.reply) events)

-- what is told ------------------------------------------------------------------------------------

abbrev pub notice_in : Reply → Option Notice
notice_in (answered a) = a.notice
notice_in _ = None

-- the notices that are told, at whatever door, in order
abbrev pub notices_told : List Event → List Notice
notices_told events = filter_map (λ e. notice_in e.reply) events

abbrev pub notice_at : ℕ → Call → Reply → Option Notice
notice_at door (answer other _ _ _) reply = if other == door then notice_in reply else None
notice_at door _ _ = None

-- the notices that a door is told, in order
abbrev pub told_at : ℕ → List Event → List Notice
told_at door events = filter_map (λ e. notice_at door e.call e.reply) events

-- what is made ------------------------------------------------------------------------------------

abbrev pub kinds_of_take : Taken → List CltuNotificationType
kinds_of_take (Expired _) = kind.SlduExpired ∷ []
kinds_of_take _ = []

-- the end of a radiation of the run is told where that is wanted, and then that nothing waits
abbrev pub kinds_of_end : Bool → Bool → List CltuNotificationType
kinds_of_end wanted empty =
    (if wanted then kind.CltuRadiated ∷ [] else [])
    ++ (if empty then kind.BufferEmpty ∷ [] else [])

-- production that changed
abbrev pub kinds_of_production : CltuProductionStatus → List CltuNotificationType
kinds_of_production Operational = kind.ProductionOperational ∷ []
kinds_of_production Configured = []
kinds_of_production Interrupted = kind.ProductionInterrupted ∷ []
kinds_of_production Halted = kind.ProductionHalted ∷ []

-- what is made where it is this CLTU of the started run that is in the air
abbrev pub where_in_air : Machine → ℕ → ℕ → (InAir → List CltuNotificationType)
    → List CltuNotificationType
where_in_air m run id kinds = option_map_or (λ a. if is_this run id a && is_of_run m a then kinds a
    else []) m.in_air []

-- the kinds of the notices that a call makes, by the queue before it
abbrev pub kinds_made : Machine → ℕ → Call → List CltuNotificationType
kinds_made m now (take _) = kinds_of_take (on_take m now).1
kinds_made m now (done run id _) = where_in_air m run id
    (λ a. kinds_of_end a.wanted (length m.waiting == 0))
kinds_made m now (interrupted run id _) = where_in_air m run id
    (λ _. kind.ProductionInterrupted ∷ [])
kinds_made m now (uplink production _ _) =
    if m.started && not (is_same m.production production) then kinds_of_production production
    else []
kinds_made m now _ = []

-- the notices that a call makes: each tells the last CLTUs, production and uplink as they stand
-- behind it
abbrev pub notices_made : State → Call → List Notice
notices_made s call =
    map (λ kind. notice_of kind (after s call).queue) (kinds_made s.queue (moment_of s call) call)

-- what is replaced --------------------------------------------------------------------------------

abbrev pub is_uplink : Call → Bool
is_uplink (uplink _ _ _) = true
is_uplink _ = false

-- whether a call's notice replaces the last one made: only that of an `uplink` does, where the last
-- one is of production too and waits still
abbrev pub replaces : State → Call → Bool
replaces s call =
    is_uplink call && (not (length (notices_made s call) == 0)
    && ends_with_production s.queue.notices)

abbrev pub without_last : List Notice → List Notice
without_last notices = front (length notices - 1) notices

abbrev pub unreplaced : Bool → List Notice → List Notice
unreplaced b made = if b then without_last made else made

-- these notices and those that the events of a list make, in order, but for those that a later one
-- replaced
abbrev pub kept_behind : List Notice → State → List Event → List Notice
kept_behind made s [] = made
kept_behind made s (e ∷ events) = kept_behind
    (unreplaced (replaces s e.call) made ++ notices_made s e.call) (then_after s e) events

-- Told in turn: of the notices that a run's events made, but for those replaced, the first are
-- told, in order and each once, at the run's door alone, and the others wait.
pub record IsToldInTurn (s : State) (door : ℕ) (events : List Event) : Type 0 where
  pub in_turn : kept_behind [] s events ≡ told_at door events ++ (replay s events).queue.notices
  pub nowhere_else : notices_told events ≡ told_at door events
