-- The turns of a talk: what its user hears, what is printed and which calls the link gets, by what
-- the outside answered. This product's own.
use Rattle.std.specs.Prelude.{ℕ, Option, Some, None, List, [], ◌∷◌, ◌++◌, map}
use Rattle.link_model.specs.declared.call.Call.{Call}
use Rattle.link_model.specs.declared.call.Call.TheVariants.{Polled}
use Rattle.link_model.specs.declared.call.Heard.{Heard}
use Rattle.link_model.specs.declared.call.Heard.TheVariants as heard
use Rattle.user_core.specs.Hearing.{Hearing, nothing, came, ended}
use Rattle.user_core.specs.Laws.{Turn, after_turn, answer_in}
use Rattle.user_core.specs.Turn.{Standing, Answer, new_user}
use Rattle.user_task.specs.declared.task.Task.{Task}
use Rattle.user_talk.specs.Outbox.{OutboxState, no_block, waits, put_in, offered, left_by}
use Rattle.user_talk.specs.declared.outbox.Answers.{Answers}
use Rattle.user_talk.specs.declared.reading.Reading.{Reading}
use Rattle.user_talk.specs.declared.rounds.TheConstants.{PIECE_OCTETS}

-- between two turns: the user, and what it has to offer
pub record TalkState : Type 0 where
  pub user : Standing
  pub outbox : OutboxState

abbrev pub begun : Task → TalkState
begun task = record { user = new_user task; outbox = no_block }

-- ---- a turn at a reading, by what is heard

-- a block that waits is offered again in this turn
abbrev pub turn_at : TalkState → Reading → Hearing → Turn
turn_at s read hearing = record {
  waits = waits s.outbox;
  asked = read.asked;
  now = read.now;
  hearing = hearing;
}

-- what the user offers, prints and comes to
abbrev pub answer_at : TalkState → Reading → Hearing → Answer
answer_at s read hearing = answer_in s.user (turn_at s read hearing)

-- what it offers stands behind what waits
abbrev pub queued_at : TalkState → Reading → Hearing → OutboxState
queued_at s read hearing = put_in s.outbox (answer_at s read hearing).offer

abbrev pub after_turn_at : TalkState → Reading → Hearing → Answers → TalkState
after_turn_at s read hearing answers = record {
  user = after_turn s.user (turn_at s read hearing);
  outbox = left_by (queued_at s read hearing) answers;
}

-- ---- turns, by what the outside answered

-- what the outside answered in a turn: the poll, where one was made and didn't fail, the clock,
-- whether the end is asked, and the offers
pub record Round : Type 0 where
  pub heard : Option Heard
  pub read : Reading
  pub answers : Answers

-- what a poll heard is to a user; one that failed is nothing to it
abbrev pub hearing_by : Heard → Option Hearing
hearing_by (heard.Arrived octets) = Some (came octets)
hearing_by heard.Nothing = Some nothing
hearing_by heard.Closed = Some ended
hearing_by heard.Failed = None

abbrev pub or_nothing : Option Hearing → Hearing
or_nothing (Some h) = h
or_nothing None = nothing

-- where no poll was made, nothing is heard
abbrev pub hearing_in : Option Heard → Hearing
hearing_in None = nothing
hearing_in (Some h) = or_nothing (hearing_by h)

-- a poll asks for so many octets at most
abbrev pub poll_calls : Option Heard → List Call
poll_calls None = []
poll_calls (Some h) = Polled PIECE_OCTETS h ∷ []

abbrev pub turn_of : TalkState → Round → Turn
turn_of s r = turn_at s r.read (hearing_in r.heard)

abbrev pub after_round : TalkState → Round → TalkState
after_round s r = after_turn_at s r.read (hearing_in r.heard) r.answers

-- the poll, and then the offers
abbrev pub calls_of : TalkState → Round → List Call
calls_of s r =
    poll_calls r.heard ++ offered (queued_at s r.read (hearing_in r.heard)) r.answers

abbrev pub lines_of : TalkState → Round → List ℕ
lines_of s r = (answer_at s r.read (hearing_in r.heard)).lines

-- ---- rounds, one after the other

abbrev pub after_rounds : TalkState → List Round → TalkState
after_rounds s [] = s
after_rounds s (r ∷ rounds) = after_rounds (after_round s r) rounds

abbrev pub turns_of : TalkState → List Round → List Turn
turns_of s [] = []
turns_of s (r ∷ rounds) = turn_of s r ∷ turns_of (after_round s r) rounds

abbrev pub calls_in : TalkState → List Round → List Call
calls_in s [] = []
calls_in s (r ∷ rounds) = calls_of s r ++ calls_in (after_round s r) rounds

abbrev pub lines_in : TalkState → List Round → List ℕ
lines_in s [] = []
lines_in s (r ∷ rounds) = lines_of s r ++ lines_in (after_round s r) rounds

abbrev pub readings_in : List Round → List Reading
readings_in rounds = map (λ (r : Round). r.read) rounds
