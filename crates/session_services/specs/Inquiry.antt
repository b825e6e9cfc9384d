-- What a step asks the book and wants of a look, and what of the answer a message is concluded by.
use Rattle.std.specs.Prelude.{ℕ, Option}
use Rattle.archive_terms.specs.Glimpse.{Want, wants_nothing, Glimpse}
use Rattle.frame_select.specs.Glimpse.{glimpse_of}
use Rattle.frame_select.specs.Want.{want_of}
use Rattle.cltu_queue.specs.declared.ask.Ask.{Ask}
use Rattle.cltu_queue.specs.declared.book_reply.BookReply.{BookReply}
use Rattle.cltu_queue.specs.declared.notice.Notice.{Notice}
use Rattle.cltu_queue.specs.declared.uplink_view.UplinkView.{UplinkView}
use Rattle.station_book.specs.State.{State, Call, answer, Answer}
use Rattle.station_book.specs.History.{answer_to}
use Rattle.session_services.specs.declared.inquiry.Inquiry.{Inquiry as InquiryMade}
use Rattle.session_services.specs.declared.replied.Replied.{Replied as RepliedMade}

pub record Inquiry : Type 0 where
  pub ask : Ask
  pub want : Want

-- one that wants nothing of a look
abbrev pub only_asks : Ask → Inquiry
only_asks ask = record { ask = ask; want = wants_nothing }

-- the call of the book that a door makes of it at a reading, and its answer at a moment
abbrev pub call_of : ℕ → ℕ → Inquiry → Call
call_of door reading i = answer door reading i.ask i.want

abbrev pub answer_of : State → ℕ → ℕ → Inquiry → Answer
answer_of b door now i = answer_to b door now i.ask i.want

-- the reply to what was asked, the look, the notice that is to be told, and the forward service's
-- numbers
pub record Replied : Type 0 where
  pub reply : BookReply
  pub glimpse : Glimpse
  pub notice : Option Notice
  pub view : UplinkView

abbrev pub reply_in : Answer → Replied
reply_in a =
    record { reply = a.reply; glimpse = a.glimpse; notice = a.notice; view = a.view }

-- what contracts see of both
abbrev pub inquiry_of : InquiryMade → Inquiry
inquiry_of i = record { ask = i.ask; want = want_of i.want }

abbrev pub replied_of : RepliedMade → Replied
replied_of r =
    record {
      reply = r.reply;
      glimpse = glimpse_of r.glimpse;
      notice = r.notice;
      view = r.view;
    }
