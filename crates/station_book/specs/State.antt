-- The book as contracts see it, and its calls with their replies.
use Rattle.std.specs.Prelude.{ℕ, Bool, false, Option, None, List, length, replicate}
use Rattle.archive_terms.specs.Archive.{Entry}
use Rattle.archive_terms.specs.Glimpse.{Want, Glimpse}
use Rattle.fcltu_numbers.specs.declared.cltu_production_status.CltuProductionStatus.{CltuProductionStatus}
use Rattle.fcltu_numbers.specs.declared.uplink_status.UplinkStatus.{UplinkStatus}
use Rattle.cltu_queue.specs.Machine.{Machine, new_machine}
use Rattle.cltu_queue.specs.declared.ask.Ask.{Ask}
use Rattle.cltu_queue.specs.declared.book_reply.BookReply.{BookReply}
use Rattle.cltu_queue.specs.declared.notice.Notice.{Notice}
use Rattle.cltu_queue.specs.declared.taken.Taken.{Taken}
use Rattle.cltu_queue.specs.declared.uplink_view.UplinkView.{UplinkView}
use Rattle.station_book.specs.declared.service_kind.ServiceKind.{ServiceKind}

-- a book's origin: the services of the site's instances, by number; the octets that may wait in the
-- queue, and those that one CLTU may have; the entries of the archive; and how many workers there
-- are beside the antenna's
pub record Opening : Type 0 where
  pub services : List ServiceKind
  pub room : ℕ
  pub longest : ℕ
  pub entries : List Entry
  pub workers : ℕ

-- the book: its origin; the published entries, of which the opening ones are the first; the forward
-- service's queue; for each instance the door that has it; which of 32 workers are gone; and the
-- latest moment
pub record State : Type 0 where
  pub opening : Opening
  pub published : List Entry
  pub queue : Machine
  pub doors : List (Option ℕ)
  pub gone : List Bool
  pub moment : ℕ

-- no instance is bound, and every worker is at work
abbrev pub opened : Opening → State
opened o = record {
  opening = o;
  published = o.entries;
  queue = new_machine o.room o.longest;
  doors = replicate (length o.services) None;
  gone = replicate 32 false;
  moment = 0;
}

-- a publishing of entries; an answer to a door, at a reading, of what its session asks and wants of
-- a look; the quit of a door; a take, the end of the radiation of a run's CLTU with this
-- identification, its failure, and a change of production and uplink, each at a reading; the end of
-- a worker
pub data Call : Type 0 where
  publish : List Entry → Call
  answer : ℕ → ℕ → Ask → Want → Call
  quit : ℕ → Call
  take : ℕ → Call
  done : ℕ → ℕ → ℕ → Call
  interrupted : ℕ → ℕ → ℕ → Call
  uplink : CltuProductionStatus → UplinkStatus → ℕ → Call
  gone : ℕ → Call

-- what a door is answered: the reply to its ask, the look, the notice that is told, and the numbers
-- of a status report after it
pub record Answer : Type 0 where
  pub reply : BookReply
  pub glimpse : Glimpse
  pub notice : Option Notice
  pub view : UplinkView

pub data Reply : Type 0 where
  nothing : Reply
  accepted : Reply
  foreign : Reply
  answered : Answer → Reply
  took : Taken → Reply

-- one call, at its moment, with its whole reply
pub record Event : Type 0 where
  pub call : Call
  pub moment : ℕ
  pub reply : Reply
