-- What a user hears of a stream that comes in pieces.
use Rattle.std.specs.Prelude.{ℕ, ◌+◌, Bool, is_some, List, [], ◌∷◌, ◌++◌, length}
use Rattle.isp1_tml.specs.Fault.{capped}
use Rattle.isp1_tml.specs.Message.{Content, spelling}
use Rattle.isp1_tml.specs.Unread.{Unread, unread_of}
use Rattle.user_task.specs.declared.task.Task.{Task}
use Rattle.user_core.specs.declared.hearing.Heard.{Heard}
use Rattle.user_core.specs.declared.hearing.Heard.TheVariants as heard_variant
use Rattle.user_core.specs.Dialogue.{Talk, heard, refused_at, closed_at}

-- the octets that make no message yet, and how many came before them
pub record Kept : Type 0 where
  pub rest : List ℕ
  pub place : ℕ

abbrev pub no_stream : Kept
no_stream = record { rest = []; place = 0 }

-- with those that came
abbrev pub unread_in : Kept → List ℕ → Unread
unread_in k octets = unread_of k.place (k.rest ++ octets)

-- the place behind messages
abbrev pub place_behind : ℕ → List Content → ℕ
place_behind place [] = place
place_behind place (m ∷ messages) =
    place_behind (capped (place + length (spelling m))) messages

-- once all messages were given
abbrev pub all_given : Unread → Unread
all_given u = record u { place = place_behind u.place u.messages; messages = [] }

abbrev pub kept_of : Unread → Kept
kept_of u = record { rest = u.rest; place = place_behind u.place u.messages }

-- one message after the other, and then whether octets behind them are refused
abbrev pub heard_all : Task → ℕ → ℕ → Bool → List Content → Talk → Talk
heard_all task now place refused [] d = refused_at refused place d
heard_all task now place refused (m ∷ messages) d =
    heard_all task now (capped (place + length (spelling m))) refused messages
    (heard task now place d m)

abbrev pub heard_unread : Task → ℕ → Unread → Talk → Talk
heard_unread task now u d = heard_all task now u.place (is_some u.fault) u.messages d

-- what is heard in a turn
pub data Hearing : Type 0 where
  nothing : Hearing
  came : List ℕ → Hearing
  ended : Hearing

abbrev pub hearing_of : Heard → Hearing
hearing_of heard_variant.Nothing = nothing
hearing_of (heard_variant.Octets octets) = came octets.now
hearing_of heard_variant.Closed = ended

abbrev pub heard_in : Task → ℕ → Kept → Hearing → Talk → Talk
heard_in task now k nothing d = d
heard_in task now k (came octets) d = heard_unread task now (unread_in k octets) d
heard_in task now k ended d = closed_at task k.place k.rest d

abbrev pub stream_in : Kept → Hearing → Kept
stream_in k (came octets) = kept_of (unread_in k octets)
stream_in k nothing = k
stream_in k ended = k
