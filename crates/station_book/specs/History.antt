-- What one thread gets that makes the calls of a list one after the other: the published entries by
-- what is picked of them, and the forward service's queue by the forward machine (CCSDS 912.1-B).
-- The book itself is this product's own.
use Rattle.std.specs.Prelude.{◌≡◌, ℕ, Bool, true, false, not, ◌&&◌, ◌||◌, ◌==◌, nat_lt, max}
use Rattle.std.specs.Prelude.{if◌then◌else◌, Option, Some, None, is_some, Result, Ok, Err, List, []}
use Rattle.std.specs.Prelude.{◌∷◌, ◌++◌, length, take as front, slice_get, slice_set}
use Rattle.std.specs.List.{fold, position, list_all}
use Rattle.std.specs.Option.{option_map_or}
use Rattle.archive_terms.specs.Archive.{Entry, is_archive}
use Rattle.archive_terms.specs.Glimpse.{Want, glimpse}
use Rattle.frame_select.specs.Glimpse.{as_said}
use Rattle.fcltu_numbers.specs.declared.cltu_start_diagnostic.CltuStartDiagnostic.{CltuStartDiagnostic}
use Rattle.cltu_queue.specs.Machine.{Machine, on_start, on_stop, on_transfer}
use Rattle.cltu_queue.specs.Machine.{on_take, on_done, on_interrupted, on_uplink}
use Rattle.cltu_queue.specs.Machine.{on_notice, view_of}
use Rattle.cltu_queue.specs.declared.ask.Ask.{Ask}
use Rattle.cltu_queue.specs.declared.ask.Ask.TheVariants as ask
use Rattle.cltu_queue.specs.declared.book_reply.BookReply.{BookReply}
use Rattle.cltu_queue.specs.declared.book_reply.BookReply.TheVariants.{Nothing, Bound, AlreadyBound}
use Rattle.cltu_queue.specs.declared.book_reply.BookReply.TheVariants.{Unbound, Started}
use Rattle.cltu_queue.specs.declared.book_reply.BookReply.TheVariants.{StartRefused, Taken}
use Rattle.cltu_queue.specs.declared.book_reply.BookReply.TheVariants.{Rejected, Stopped, Lost}
use Rattle.cltu_queue.specs.declared.cltu_fault.CltuFault.{CltuFault}
use Rattle.cltu_queue.specs.declared.cltu_fault.CltuFault.TheVariants.{Refused, Memory}
use Rattle.cltu_queue.specs.declared.room.Room.{Room}
use Rattle.cltu_queue.specs.declared.notice.Notice.{Notice}
use Rattle.station_book.specs.declared.service_kind.ServiceKind.{ServiceKind}
use Rattle.station_book.specs.declared.service_kind.ServiceKind.TheVariants.{Cltu as Forward}
use Rattle.station_book.specs.State.{State, opened, Call, publish, answer, quit, take}
use Rattle.station_book.specs.State.{done, interrupted, uplink, gone, Answer, Reply, nothing}
use Rattle.station_book.specs.State.{accepted, foreign, answered, took, Event}

-- moments -----------------------------------------------------------------------------------------

-- the moment of a reading: no earlier than the latest
abbrev pub moment_at : State → ℕ → ℕ
moment_at s reading = max reading s.moment

abbrev pub reading_of : Call → Option ℕ
reading_of (answer _ reading _ _) = Some reading
reading_of (take reading) = Some reading
reading_of (done _ _ reading) = Some reading
reading_of (interrupted _ _ reading) = Some reading
reading_of (uplink _ _ reading) = Some reading
reading_of _ = None

-- the moment of a call: the greatest of its reading, if it has one, and the earlier moments
abbrev pub moment_of : State → Call → ℕ
moment_of s call = option_map_or (moment_at s) (reading_of call) s.moment

-- doors and their instances -----------------------------------------------------------------------

-- whether it is this door that has an instance
abbrev pub is_of : ℕ → Option ℕ → Bool
is_of door None = false
is_of door (Some other) = other == door

-- the number of the instance that a door has
abbrev pub instance_of : State → ℕ → Option ℕ
instance_of s door = position (is_of door) s.doors

abbrev pub is_forward : Option ServiceKind → Bool
is_forward (Some Forward) = true
is_forward _ = false

-- whether a door has the forward service's instance
abbrev pub has_forward : State → ℕ → Bool
has_forward s door =
    option_map_or (λ place. is_forward (slice_get s.opening.services place)) (instance_of s door)
    false

-- whether a door has the forward service's instance, and its run is started
abbrev pub is_running : State → ℕ → Bool
is_running s door = has_forward s door && s.queue.started

-- whether some door has the instance of this number
abbrev pub is_taken : Option (Option ℕ) → Bool
is_taken (Some (Some _)) = true
is_taken _ = false

-- the instances and their doors once the one that this door has is free
abbrev pub freed : State → ℕ → List (Option ℕ)
freed s door = option_map_or (λ place. slice_set s.doors place None) (instance_of s door) s.doors

-- the queue once a door's run is stopped, if it has one
abbrev pub without_run : State → ℕ → Machine
without_run s door = if is_running s door then on_stop s.queue else s.queue

-- what a door asks --------------------------------------------------------------------------------

-- an ask is lost where it doesn't fit what the door has bound
abbrev pub is_lost : State → ℕ → Ask → Bool
is_lost s door (ask.Bind instance) =
    is_some (instance_of s door) || not (nat_lt instance (length s.opening.services))
is_lost s door ask.Unbind = not (is_some (instance_of s door))
is_lost s door (ask.CltuStart _) = not (has_forward s door) || s.queue.started
is_lost s door (ask.CltuTransfer _) = not (is_running s door)
is_lost s door ask.CltuStop = not (is_running s door)
is_lost s door ask.Nothing = false
is_lost s door ask.Quiet = false

abbrev pub start_reply : ℕ → Result (Unit {0}) CltuStartDiagnostic → BookReply
start_reply now (Ok _) = Started now
start_reply now (Err diagnostic) = StartRefused diagnostic

-- no machine answers a want of memory
abbrev pub transfer_reply : Result Room CltuFault → BookReply
transfer_reply (Ok room) = Taken room
transfer_reply (Err (Refused diagnostic room)) = Rejected diagnostic room
transfer_reply (Err Memory) = Lost

-- what an ask that fits does to the doors and to the queue, and what it is answered
abbrev pub doors_asked : State → ℕ → Ask → List (Option ℕ)
doors_asked s door (ask.Bind instance) =
    if is_taken (slice_get s.doors instance) then s.doors
    else slice_set s.doors instance (Some door)
doors_asked s door ask.Unbind = freed s door
doors_asked s door _ = s.doors

abbrev pub queue_asked : State → ℕ → ℕ → Ask → Machine
queue_asked s door now ask.Unbind = without_run s door
queue_asked s door now (ask.CltuStart first) = (on_start s.queue first).0
queue_asked s door now (ask.CltuTransfer cltu) = (on_transfer s.queue cltu now).0
queue_asked s door now ask.CltuStop = on_stop s.queue
queue_asked s door now _ = s.queue

abbrev pub reply_asked : State → ℕ → ℕ → Ask → BookReply
reply_asked s door now (ask.Bind instance) =
    if is_taken (slice_get s.doors instance) then AlreadyBound else Bound
reply_asked s door now ask.Unbind = Unbound
reply_asked s door now (ask.CltuStart first) = start_reply now (on_start s.queue first).1
reply_asked s door now (ask.CltuTransfer cltu) =
    transfer_reply (on_transfer s.queue cltu now).1
reply_asked s door now ask.CltuStop = Stopped
reply_asked s door now _ = Nothing

abbrev pub with_ask : State → ℕ → ℕ → Ask → State
with_ask s door now ask =
    record s { doors = doors_asked s door ask; queue = queue_asked s door now ask }

-- an ask that is lost changes nothing
abbrev pub asked : State → ℕ → ℕ → Ask → State
asked s door now ask = if is_lost s door ask then s else with_ask s door now ask

abbrev pub reply_of : State → ℕ → ℕ → Ask → BookReply
reply_of s door now ask = if is_lost s door ask then Lost else reply_asked s door now ask

-- what a door is told -----------------------------------------------------------------------------

abbrev pub is_quiet : Ask → Bool
is_quiet ask.Quiet = true
is_quiet _ = false

-- a notice is told where the ask isn't lost and not quiet, and after it the door has the forward
-- service's instance with a run started
abbrev pub is_told : State → ℕ → ℕ → Ask → Bool
is_told s door now ask =
    not (is_lost s door ask) && not (is_quiet ask) && is_running (asked s door now ask) door

abbrev pub notice_of : State → ℕ → ℕ → Ask → Option Notice
notice_of s door now ask =
    if is_told s door now ask then (on_notice (asked s door now ask).queue).1 else None

abbrev pub queue_answered : State → ℕ → ℕ → Ask → Machine
queue_answered s door now ask =
    if is_told s door now ask
    then (on_notice (asked s door now ask).queue).0
    else (asked s door now ask).queue

abbrev pub state_answered : State → ℕ → ℕ → Ask → State
state_answered s door now ask =
    record (asked s door now ask) { queue = queue_answered s door now ask; moment = now }

-- calls -------------------------------------------------------------------------------------------

-- whether entries may be published: they and those before them are an archive
abbrev pub may_publish : State → List Entry → Bool
may_publish s entries = is_archive (s.published ++ entries)

-- the book after a call
abbrev pub after : State → Call → State
after s (publish entries) =
    if may_publish s entries then record s { published = s.published ++ entries } else s
after s (answer door reading ask want) = state_answered s door (moment_at s reading) ask
after s (quit door) = record s { doors = freed s door; queue = without_run s door }
after s (take reading) =
    record s { queue = (on_take s.queue (moment_at s reading)).0; moment = moment_at s reading }
after s (done run id reading) =
    record s { queue = on_done s.queue run id (moment_at s reading); moment = moment_at s reading }
after s (interrupted run id reading) =
    record s { queue = on_interrupted s.queue run id; moment = moment_at s reading }
after s (uplink production status reading) =
    record s { queue = on_uplink s.queue production status; moment = moment_at s reading }
after s (gone worker) = record s { gone = slice_set s.gone worker true }

-- what a door is answered
abbrev pub answer_to : State → ℕ → ℕ → Ask → Want → Answer
answer_to s door now ask want = record {
  reply = reply_of s door now ask;
  glimpse = as_said (glimpse s.published want);
  notice = notice_of s door now ask;
  view = view_of (queue_answered s door now ask);
}

-- the reply to a call
abbrev pub reply_to : State → Call → Reply
reply_to s (publish entries) = if may_publish s entries then accepted else foreign
reply_to s (answer door reading ask want) = answered
    (answer_to s door (moment_at s reading) ask want)
reply_to s (take reading) = took (on_take s.queue (moment_at s reading)).1
reply_to s _ = nothing

-- whether every worker but the antenna's, whose number is the last, is gone
abbrev pub all_gone : State → Bool
all_gone s = list_all (λ is_gone. is_gone) (front s.opening.workers s.gone)

-- histories ---------------------------------------------------------------------------------------

-- the event of a call that is made now
abbrev pub event_at : State → Call → Event
event_at s call = record { call = call; moment = moment_of s call; reply = reply_to s call }

abbrev pub then_after : State → Event → State
then_after s e = after s e.call

-- the book after the events of a list
abbrev pub replay : State → List Event → State
replay s h = fold then_after s h

-- each event is the one that the replay of those before it gives
abbrev pub IsLegal : State → List Event → Type 0
IsLegal s [] = Unit {0}
IsLegal s (e ∷ h) = (e ≡ event_at s e.call) × IsLegal (then_after s e) h

-- the list is legal from the book's origin, and the book is its replay
pub record StandsAs (book : State) (h : List Event) : Type 0 where
  pub legal : IsLegal (opened book.opening) h
  pub replayed : book ≡ replay (opened book.opening) h
