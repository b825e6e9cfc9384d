-- The messages that are heard, one after the other.
use Rattle.std.proofs.Common.{◌≡◌, ℕ, ◌<◌, List, [], ◌∷◌, length, Option, Some, None, Ok, refl, arith}
use Rattle.std.specs.Prelude.{is_some}
use Rattle.isp1_tml.specs.declared.tml_fault.TmlFault.{TmlFault}
use Rattle.isp1_tml.specs.Message.{Content}
use Rattle.isp1_tml.specs.Unread.{Unread, first_by, first_of, behind_by, behind_first}
use Rattle.user_task.specs.declared.task.Task.{Task}
use Rattle.user_core.specs.Dialogue.{Talk, heard}
use Rattle.user_core.specs.Hearing.{heard_all, heard_unread, all_given}

step_by : (task : Task) (now place : ℕ) (rest : List ℕ) (fault : Option TmlFault)
    (messages : List Content) (m : Content) (d : Talk) → Ok (Some m) ≡ first_by messages fault
    → heard_all task now place (is_some fault) messages d
    ≡ heard_unread task now
    (behind_by (record { place = place; messages = messages; rest = rest; fault = fault })
    messages)
    (heard task now place d m)
step_by task now place rest fault (n ∷ messages) m d e =
    let same : m ≡ n = cc in rw same refl
step_by task now place rest None [] m d e = absurd cc
step_by task now place rest (Some f) [] m d e = absurd cc

-- the next message, and what is left behind it
pub step : (task : Task) (now : ℕ) (u v : Unread) (m : Content) (d : Talk)
    → Ok (Some m) ≡ first_of u → v ≡ behind_first u
    → heard_unread task now u d ≡ heard_unread task now v (heard task now u.place d m)
step task now u v m d e is = rw is (step_by task now u.place u.rest u.fault u.messages m d e)

given_by : (place : ℕ) (rest : List ℕ) (fault : Option TmlFault) (messages : List Content)
    (m : Content) → Ok (Some m) ≡ first_by messages fault
    → all_given (record { place = place; messages = messages; rest = rest; fault = fault })
    ≡ all_given
    (behind_by (record { place = place; messages = messages; rest = rest; fault = fault })
    messages)
given_by place rest fault (n ∷ messages) m e = refl
given_by place rest None [] m e = absurd cc
given_by place rest (Some f) [] m e = absurd cc

-- a message that was given changes nothing of what is left once all are
pub given : (u v : Unread) (m : Content) → Ok (Some m) ≡ first_of u → v ≡ behind_first u
    → all_given u ≡ all_given v
given u v m e is = rw is (given_by u.place u.rest u.fault u.messages m e)

smaller_by : (u : Unread) (messages : List Content) (fault : Option TmlFault) (m : Content)
    → Ok (Some m) ≡ first_by messages fault
    → length (behind_by u messages).messages < length messages
smaller_by u (n ∷ messages) fault m e = omega arith
smaller_by u [] None m e = absurd cc
smaller_by u [] (Some f) m e = absurd cc

-- a message less is left
pub smaller : (u v : Unread) (m : Content) → Ok (Some m) ≡ first_of u → v ≡ behind_first u
    → length v.messages < length u.messages
smaller u v m e is = rw is (smaller_by u u.messages u.fault m e)
