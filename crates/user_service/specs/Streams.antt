-- A talk in the words of its streams: how often it polled, what the link was handed, and what was
-- printed. This product's own.
use Rattle.std.specs.Prelude.{◌≡◌, ◌⊎◌, ℕ, ◌≤◌, Bool, true, false, Option, None, List, [], ◌∷◌}
use Rattle.std.specs.Prelude.{◌++◌, length, map}
use Rattle.isp1_auth.specs.Numbers.{first_number}
use Rattle.link_model.specs.declared.call.Call.{Call}
use Rattle.link_model.specs.declared.call.Call.TheVariants.{Polled, Offered}
use Rattle.link_model.specs.Calls.{Tells, octets_heard, octets_handed, polls_in}
use Rattle.octet_core.specs.Written.{Gains, GainsFront}
use Rattle.octet_core.specs.declared.offer.Offer.{Offer}
use Rattle.octet_core.specs.declared.offer.Offer.TheVariants as offer
use Rattle.sle_numbers.specs.declared.service_type.ServiceType.{ServiceType}
use Rattle.user_core.specs.declared.course.Course.{Course}
use Rattle.user_core.specs.Laws.{Turn, after_turns, offers, printed, octets_in, Says}
use Rattle.user_core.specs.Turn.{new_user}
use Rattle.user_lines.specs.Shown.{lines}
use Rattle.user_show.specs.declared.ending.Ending.{Ending}
use Rattle.user_show.specs.declared.ending.Ending.TheVariants as ending
use Rattle.user_talk.specs.Running.{World}
use Rattle.user_task.specs.declared.task.Task.{Task}
use Rattle.user_task.specs.declared.work.Work.{Work}
use Rattle.user_task.specs.Invocation.{invocation_at}
use Rattle.user_task.specs.Work.{service_of}
use Rattle.user_service.specs.Causes.{IsCaused}

-- Lines begin those of a stream. Where the talk ended behind no message of it, they are all of them.
pub record Prints (service : ServiceType) (octets : List ℕ) (ended : Ending) (printed : List ℕ)
    : Type 0 where
  pub rest : List ℕ
  pub whole : (lines service octets).text ≡ printed ++ rest
  pub all : (ended ≡ ending.TurnsSpent) ⊎ (ended ≡ ending.LinkFault) → rest ≡ []

-- the last invocation was said, and its return came
abbrev pub IsAnswered : Work → Course → Type 0
IsAnswered work c = (invocation_at work c.said ≡ None) × (c.awaited ≡ None)

-- the endings behind which a part of the last lines may be missing
abbrev pub BreaksOff : Ending → Type 0
BreaksOff ending.WriteFault = Unit {0}
BreaksOff ending.Memory = Unit {0}
BreaksOff _ = ⊥

abbrev pub is_left : Offer → Bool
is_left offer.Whole = false
is_left offer.Stalled = true
is_left offer.Failed = true

abbrev pub untaken_by : Bool → List Call → Bool
untaken_by b [] = b
untaken_by b (Polled space heard ∷ calls) = untaken_by b calls
untaken_by b (Offered octets answer ∷ calls) = untaken_by (is_left answer) calls

-- the last offer among the calls, if there is one, wasn't taken
abbrev pub ends_untaken : List Call → Bool
ends_untaken calls = untaken_by false calls

module _ {L C E O : Type 0} (calls : L → Option (List Call)) (asks : E → Option (List Bool))
    (written : O → Option (List ℕ)) where
  -- There is a list of turns, one of them may be broken off before its offers, which have heard
  -- what the polls gave, and in each of which it was asked whether the user is to end. What was
  -- handed over begins what is said in them, which is the task's invocations in order, and what was
  -- printed is their lines with the last line.
  pub record Streams (task : Task) (most : ℕ) (ended : Ending) (old new : World L C E O)
      : Type 0 where
    pub own : List Call
    pub told : Tells (calls old.link) (calls new.link) own
    pub polls : length (polls_in own) ≤ most
    pub spent : ended ≡ ending.TurnsSpent → length (polls_in own) ≡ most
    pub turns : List Turn
    pub broken : List Turn
    pub came : octets_in (turns ++ broken) ≡ octets_heard own
    pub asked : Tells (asks old.request) (asks new.request)
        (map (λ (t : Turn). t.asked) (turns ++ broken))
    pub waiting : List ℕ
    pub handed : octets_handed own ++ waiting ≡ offers (new_user task) turns
    pub taken : ends_untaken own ≡ false → waiting ≡ []
    pub says : Says task 0 (first_number task.draw 0)
        (after_turns (new_user task) turns).course.said
        (after_turns (new_user task) turns).latest (offers (new_user task) turns)
    pub last : List ℕ
    pub front : GainsFront (written old.output) (written new.output)
        (printed (new_user task) (turns ++ broken) ++ last)
    pub text : (BreaksOff ended → ⊥) → Gains (written old.output) (written new.output)
        (printed (new_user task) (turns ++ broken) ++ last)
    pub prints : Prints (service_of task.work) (octets_heard own) ended
        (printed (new_user task) (turns ++ broken))
    pub caused : IsCaused ended (service_of task.work) (new_user task) turns
    pub done : ended ≡ ending.Done
        → IsAnswered task.work (after_turns (new_user task) turns).course
