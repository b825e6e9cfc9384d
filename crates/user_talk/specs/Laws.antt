-- What turns of a talk come to. This product's own.
use Rattle.std.specs.Prelude.{◌≡◌, List, ◌++◌}
use Rattle.std.specs.List.{filter_map}
use Rattle.link_model.specs.Calls.{octets_handed, polls_in}
use Rattle.user_core.specs.Laws.{after_turns, offers, printed}
use Rattle.user_talk.specs.Outbox.{left_in}
use Rattle.user_talk.specs.Rounds.{TalkState, Round, after_rounds, calls_in, lines_in, turns_of}

-- What the link was handed whole, with what it didn't take yet, is in order what was left before and
-- what the user offered in its turns.
abbrev pub HandsOverInOrder : Type 0
HandsOverInOrder =
    (s : TalkState) (rounds : List Round)
    → octets_handed (calls_in s rounds) ++ left_in (after_rounds s rounds).outbox
    ≡ left_in s.outbox ++ offers s.user (turns_of s rounds)

-- The user is the one behind its turns, and what is printed is what it prints in them.
pub record AreItsTurns (s : TalkState) (rounds : List Round) : Type 0 where
  pub user : (after_rounds s rounds).user ≡ after_turns s.user (turns_of s rounds)
  pub printed : lines_in s rounds ≡ printed s.user (turns_of s rounds)

abbrev pub TurnsAreTheUsers : Type 0
TurnsAreTheUsers = (s : TalkState) (rounds : List Round) → AreItsTurns s rounds

-- The polls of the calls are those of the turns, in order.
abbrev pub PollsOnceATurn : Type 0
PollsOnceATurn =
    (s : TalkState) (rounds : List Round)
    → polls_in (calls_in s rounds) ≡ filter_map (λ (r : Round). r.heard) rounds
