-- What a START and a TRANSFER-DATA are answered by the queue's state (CCSDS 912.1-B): the reasons of
-- a refusal, each with the condition in which it holds, in the order in which they are tried. The
-- conditions and their order are this product's own.
use Rattle.std.specs.Prelude.{ℕ, ◌+◌, ◌-◌, Bool, not, ◌&&◌, ◌==◌, nat_lt, if◌then◌else◌, Option}
use Rattle.std.specs.Prelude.{Some, None, Result, Ok, Err, List, [], ◌∷◌, length}
use Rattle.cds_time.specs.Moment.{in_micros}
use Rattle.fcltu_numbers.specs.declared.cltu_start_diagnostic.CltuStartDiagnostic.{CltuStartDiagnostic}
use Rattle.fcltu_numbers.specs.declared.cltu_start_diagnostic.CltuStartDiagnostic.TheVariants.{OutOfService, UnableToComply}
use Rattle.fcltu_numbers.specs.declared.cltu_transfer_data_diagnostic.CltuTransferDataDiagnostic.{CltuTransferDataDiagnostic}
use Rattle.fcltu_numbers.specs.declared.cltu_transfer_data_diagnostic.CltuTransferDataDiagnostic.TheVariants as refused
use Rattle.cltu_queue.specs.declared.ask.Ask.{Ask}
use Rattle.cltu_queue.specs.declared.ask.Ask.TheVariants as ask
use Rattle.cltu_queue.specs.declared.book_reply.BookReply.{BookReply}
use Rattle.cltu_queue.specs.declared.book_reply.BookReply.TheVariants.{Nothing, Started}
use Rattle.cltu_queue.specs.declared.book_reply.BookReply.TheVariants.{StartRefused, Taken}
use Rattle.cltu_queue.specs.declared.book_reply.BookReply.TheVariants.{Rejected, Stopped, Lost}
use Rattle.cltu_queue.specs.declared.cltu.Cltu.{Cltu}
use Rattle.cltu_queue.specs.declared.cltu_fault.CltuFault.{CltuFault}
use Rattle.cltu_queue.specs.declared.cltu_fault.CltuFault.TheVariants.{Refused, Memory}
use Rattle.cltu_queue.specs.declared.room.Room.{Room}
use Rattle.cltu_queue.specs.declared.notice.Notice.{Notice}
use Rattle.cltu_queue.specs.Limits.{last_id, last_run, longest_delay}
use Rattle.cltu_queue.specs.Machine.{Machine, free_octets, is_halted, is_interrupted, is_next}
use Rattle.cltu_queue.specs.Machine.{on_start, on_transfer, room_of}
use Rattle.cltu_queue.specs.Times.{earliest_of, latest_of, has_moment, is_above}
use Rattle.fcltu_pdu.specs.Notice.{is_of_event}
use Rattle.fcltu_service.specs.declared.answer.CltuAnswer.{CltuAnswer}
use Rattle.fcltu_service.specs.declared.answer.CltuAnswer.TheVariants as answer

-- ---- the book's replies

-- what a book replies to an ask of the session that has the forward instance, where its queue
-- stands so
abbrev pub start_reply : ℕ → Result (Unit {0}) CltuStartDiagnostic → BookReply
start_reply now (Ok _) = Started now
start_reply now (Err diagnostic) = StartRefused diagnostic

abbrev pub transfer_reply : Result Room CltuFault → BookReply
transfer_reply (Ok room) = Taken room
transfer_reply (Err (Refused diagnostic room)) = Rejected diagnostic room
transfer_reply (Err Memory) = Lost

abbrev pub reply_of : Machine → ℕ → Ask → BookReply
reply_of m now (ask.CltuStart first) = start_reply now (on_start m first).1
reply_of m now (ask.CltuTransfer cltu) = transfer_reply (on_transfer m cltu now).1
reply_of m now ask.CltuStop = Stopped
reply_of m now _ = Nothing

-- ---- diagnostics in their order

-- a reason, and whether its condition holds
pub record Cause (D : Type 0) : Type 0 where
  pub why : D
  pub holds : Bool

-- the reason of the first cause that holds
abbrev pub first_cause : {D : Type 0} → List (Cause D) → Option D
first_cause [] = None
first_cause (cause ∷ others) = if cause.holds then Some cause.why else first_cause others

abbrev pub cause : {D : Type 0} → D → Bool → Cause D
cause why holds = record { why = why; holds = holds }

abbrev pub start_causes : Machine → List (Cause CltuStartDiagnostic)
start_causes m =
    cause OutOfService (is_halted m.production)
    ∷ cause UnableToComply (is_interrupted m.production)
    ∷ cause UnableToComply (m.run == last_run)
    ∷ []

abbrev pub transfer_causes : Machine → Cltu → ℕ → List (Cause CltuTransferDataDiagnostic)
transfer_causes m cltu now =
    cause refused.UnableToProcess m.blocked
    ∷ cause refused.OutOfSequence (not (is_next m.next cltu.id))
    ∷ cause refused.InvalidTime (not (has_moment cltu.earliest && has_moment cltu.latest))
    ∷ cause refused.InconsistentTimeRange (is_above (earliest_of cltu) (latest_of cltu))
    ∷ cause refused.LateSldu (is_above (Some now) (latest_of cltu))
    ∷ cause refused.InvalidDelayTime (nat_lt longest_delay cltu.radiation_delay)
    ∷ cause refused.CltuError (nat_lt m.longest (length cltu.octets))
    ∷ cause refused.UnableToStore (nat_lt (free_octets m) (length cltu.octets))
    ∷ []

-- ---- what is answered by them

-- radiation may start at the START's moment
abbrev pub start_answered : ℕ → Option CltuStartDiagnostic → CltuAnswer
start_answered now None = answer.Start (Ok (in_micros now, None))
start_answered now (Some why) = answer.Start (Err why)

-- Where the CLTU is queued, the next identification is the one behind it, if there is one, and its
-- octets aren't free any more. Where it isn't, the queue is as it was.
abbrev pub room_behind : Machine → Cltu → Room
room_behind m cltu = record {
  next = if cltu.id == last_id then last_id else cltu.id + 1;
  free = free_octets m - length cltu.octets;
}

abbrev pub transfer_answered : Machine → Cltu → Option CltuTransferDataDiagnostic → CltuAnswer
transfer_answered m cltu None = answer.Transfer (room_behind m cltu) (Ok tt)
transfer_answered m cltu (Some why) = answer.Transfer (room_of m) (Err why)

-- ---- notices

-- a notice that tells nothing of an event
abbrev pub is_of_queue : Notice → Bool
is_of_queue notice = not (is_of_event notice.kind)
