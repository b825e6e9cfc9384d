-- What holds of every user, over every list of turns.
use Rattle.std.specs.Prelude.{◌≡◌, ◌⊎◌, ℕ, ◌+◌, ◌<◌, Bool, true, false, not, ◌&&◌, Option, Some}
use Rattle.std.specs.Prelude.{None, List, [], ◌∷◌, ◌++◌, slice_index}
use Rattle.std.specs.List.{list_any}
use Rattle.isp1_auth.specs.Numbers.{first_number, next_number}
use Rattle.isp1_tml.specs.Message.{Content, spelling, heartbeat}
use Rattle.isp1_tml.specs.Unread.{Unread}
use Rattle.sle_numbers.specs.declared.service_type.ServiceType.{ServiceType}
use Rattle.user_task.specs.declared.task.Task.{Task}
use Rattle.user_task.specs.Invocation.{Said, schedule, invocation_at}
use Rattle.user_task.specs.Work.{service_of, is_show}
use Rattle.user_lines.specs.Lines.{bad_line}
use Rattle.user_lines.specs.Shown.{Shown, shown, shown_of}
use Rattle.user_core.specs.Course.{is_over, rests, receives}
use Rattle.user_core.specs.Dialogue.{Talk, front_of, message_said, heard}
use Rattle.user_core.specs.Hearing.{Kept, Hearing, nothing, came, ended, unread_in, heard_all}
use Rattle.user_core.specs.Turn.{Standing, Answer, new_user, turned, answered}

-- ---- what is said

-- the next invocation of the task, said at a moment, or a heartbeat
pub data Utterance : Type 0 where
  invoked : ℕ → Utterance
  beaten : Utterance

-- the invocation at a place of the task, behind credentials with this number, said at a moment; the
-- context goes before BIND
abbrev pub octets_by : Task → ℕ → ℕ → ℕ → Option Said → List ℕ
octets_by task place latest now None = []
octets_by task place latest now (Some s) = front_of s ++ message_said task s place latest now

-- what is said one after the other, from a place of the task on
abbrev pub octets_said : Task → ℕ → ℕ → List Utterance → List ℕ
octets_said task place latest [] = []
octets_said task place latest (beaten ∷ us) =
    spelling heartbeat ++ octets_said task place latest us
octets_said task place latest (invoked now ∷ us) =
    octets_by task place latest now (invocation_at task.work place)
    ++ octets_said task (place + 1) (next_number latest) us

-- the place behind it
abbrev pub place_after : ℕ → List Utterance → ℕ
place_after place [] = place
place_after place (beaten ∷ us) = place_after place us
place_after place (invoked now ∷ us) = place_after (place + 1) us

abbrev pub latest_after : ℕ → List Utterance → ℕ
latest_after latest [] = latest
latest_after latest (beaten ∷ us) = latest_after latest us
latest_after latest (invoked now ∷ us) = latest_after (next_number latest) us

-- these octets are said from one place to another: the task's invocations in their order, each
-- once, and heartbeats between them
pub record Says (task : Task) (place latest to latest_to : ℕ) (octets : List ℕ) : Type 0 where
  pub said : List Utterance
  pub octets_are : octets ≡ octets_said task place latest said
  pub place_is : to ≡ place_after place said
  pub latest_is : latest_to ≡ latest_after latest said

-- ---- turns

pub record Turn : Type 0 where
  pub waits : Bool
  pub asked : Bool
  pub now : ℕ
  pub hearing : Hearing

abbrev pub after_turn : Standing → Turn → Standing
after_turn s t = turned s t.waits t.asked t.now t.hearing

abbrev pub answer_in : Standing → Turn → Answer
answer_in s t = answered s t.waits t.asked t.now t.hearing

abbrev pub after_turns : Standing → List Turn → Standing
after_turns s [] = s
after_turns s (t ∷ turns) = after_turns (after_turn s t) turns

-- all that is offered in turns
abbrev pub offers : Standing → List Turn → List ℕ
offers s [] = []
offers s (t ∷ turns) = (answer_in s t).offer ++ offers (after_turn s t) turns

-- ---- the laws

-- Over every list of turns, what is offered is the task's invocations in their order.
abbrev pub OffersInOrder : Type 0
OffersInOrder =
    (task : Task) (turns : List Turn)
    → Says task 0 (first_number task.draw 0)
    (after_turns (new_user task) turns).course.said
    (after_turns (new_user task) turns).latest
    (offers (new_user task) turns)

-- nothing was said
pub record SaysNothing (d e : Talk) : Type 0 where
  pub said : e.course.said ≡ d.course.said
  pub latest : e.latest ≡ d.latest
  pub offer : e.offer ≡ d.offer

-- this was said, which is the next invocation of the task
pub record SaysNext (task : Task) (now : ℕ) (s : Said) (d e : Talk) : Type 0 where
  pub next : invocation_at task.work d.course.said ≡ Some s
  pub said : e.course.said ≡ d.course.said + 1
  pub latest : e.latest ≡ next_number d.latest
  pub offer : e.offer
      ≡ (d.offer ++ front_of s) ++ message_said task s d.course.said d.latest now

-- a message is answered by nothing, or by the next invocation; what asks for reports may come before
-- that
pub record AnswersOnce (task : Task) (now : ℕ) (d e : Talk) : Type 0 where
  pub reported : Talk
  pub report : SaysNothing d reported ⊎ (cycle : ℕ) × SaysNext task now (schedule cycle) d reported
  pub answer : SaysNothing reported e ⊎ (s : Said) × SaysNext task now s reported e

abbrev pub OneAnswer : Type 0
OneAnswer =
    (task : Task) (now place : ℕ) (d : Talk) (m : Content)
    → AnswersOnce task now d (heard task now place d m)

-- One who receives frames and was asked to end awaits a return behind each turn from then on, until
-- it is over: it says what comes next as soon as a return came, STOP behind START's and UNBIND behind
-- STOP's.
abbrev pub EndsWhenAsked : Type 0
EndsWhenAsked =
    (task : Task) (turns : List Turn) → receives task.work ≡ true
    → list_any (λ (t : Turn). t.asked) turns ≡ true
    → rests (after_turns (new_user task) turns).course ≡ true

-- A user that is over offers and prints nothing, and stays so.
pub record StaysOver (s : Standing) (t : Turn) : Type 0 where
  pub standing : after_turn s t ≡ s
  pub offer : (answer_in s t).offer ≡ []
  pub lines : (answer_in s t).lines ≡ []
  pub status : (answer_in s t).status ≡ s.course.status

abbrev pub EndsForGood : Type 0
EndsForGood = (s : Standing) (t : Turn) → is_over s.course ≡ true → StaysOver s t

-- These lines begin those of messages, and are all of them where the user goes on, and then none of
-- the messages is bad.
pub record Prints (s : Shown) (d e : Talk) : Type 0 where
  pub front : List ℕ
  pub rest : List ℕ
  pub lines : e.lines ≡ d.lines ++ front
  pub whole : s.text ≡ front ++ rest
  pub all : is_over e.course ≡ false → rest ≡ []
  pub good : is_over e.course ≡ false → s.bad ≡ false

-- Each message that comes whole is printed once, in order, up to the one that ends the user.
abbrev pub PrintsInOrder : Type 0
PrintsInOrder =
    (task : Task) (now place : ℕ) (refused : Bool) (messages : List Content) (d : Talk)
    → Prints (shown (service_of task.work) place refused messages) d
    (heard_all task now place refused messages d)

-- ---- what is printed over turns

-- the octets that came in turns, until the stream's end
abbrev pub came_before : Hearing → List ℕ → List ℕ
came_before nothing later = later
came_before (came octets) later = octets ++ later
came_before ended later = []

abbrev pub octets_in : List Turn → List ℕ
octets_in [] = []
octets_in (t ∷ turns) = came_before t.hearing (octets_in turns)

-- whether the stream's end was heard
abbrev pub ends_before : Hearing → Bool → Bool
ends_before nothing later = later
ends_before (came octets) later = later
ends_before ended later = true

abbrev pub ends_in : List Turn → Bool
ends_in [] = false
ends_in (t ∷ turns) = ends_before t.hearing (ends_in turns)

-- all that is printed in turns
abbrev pub printed : Standing → List Turn → List ℕ
printed s [] = []
printed s (t ∷ turns) = (answer_in s t).lines ++ printed (after_turn s t) turns

-- octets that are left over at the stream's end
abbrev pub left_line : Bool → ℕ → List ℕ → List ℕ
left_line true place (octet ∷ rest) = bad_line place
left_line _ place rest = []

-- the lines of a stream, and where it is closed and none of its messages is bad, of what is left
abbrev pub text_by : Bool → Shown → List ℕ → List ℕ
text_by closed s rest = s.text ++ left_line (closed && not s.bad) s.place rest

abbrev pub stream_text : ServiceType → Bool → Unread → List ℕ
stream_text service closed u = text_by closed (shown_of service u) u.rest

-- the lines of the stream that came in turns behind what was kept; one who only reads is told of a
-- message that is cut at the stream's end
abbrev pub text_from : Task → Kept → List Turn → List ℕ
text_from task k turns =
    stream_text (service_of task.work) (is_show task.work && ends_in turns)
    (unread_in k (octets_in turns))

abbrev pub AreOctets : List ℕ → Type 0
AreOctets octets = (i : ℕ) → slice_index octets i < 256

-- What was printed in turns begins the lines of the stream that came in them, and is all of them
-- where the user goes on.
pub record PrintsStream (s : Standing) (turns : List Turn) : Type 0 where
  pub rest : List ℕ
  pub whole : text_from s.task s.stream turns ≡ printed s turns ++ rest
  pub all : is_over (after_turns s turns).course ≡ false → rest ≡ []

-- Over every list of turns, whatever the pieces in which the stream comes.
abbrev pub LinesInOrder : Type 0
LinesInOrder =
    (task : Task) (turns : List Turn) → AreOctets (octets_in turns)
    → PrintsStream (new_user task) turns
