-- What a feeder holds, what it gives next, and what it refuses.
use Rattle.std.specs.Prelude.{◌≡◌, ℕ, ◌+◌, ◌-◌, ◌≤◌, List, [], ◌∷◌, ◌++◌, length, take, drop}
use Rattle.std.specs.Prelude.{Option, Some, None, Result, Ok, Err}
use Rattle.isp1_tml.specs.declared.octet_queue.TheConstants.{CAPACITY}
use Rattle.isp1_tml.specs.declared.tml_fault.TmlFault.{TmlFault}
use Rattle.isp1_tml.specs.Message.{Content, spelling, spellings}
use Rattle.isp1_tml.specs.Fault.{capped}
use Rattle.isp1_tml.specs.Stream.{IsStream}
use Rattle.isp1_tml.specs.Reading.{reading}

-- the whole messages that were not given yet, the octets after them, how many octets were given,
-- and the refusal
pub record Feeding : Type 0 where
  pub messages : List Content
  pub rest : List ℕ
  pub place : ℕ
  pub fault : Option TmlFault

abbrev pub fresh : Feeding
fresh = record { messages = []; rest = []; place = 0; fault = None }

-- the octets taken that stand in no message given
abbrev pub held : Feeding → List ℕ
held f = spellings f.messages ++ f.rest

abbrev pub room_of : Feeding → ℕ
room_of f = CAPACITY - length (held f)

-- those, and as much of a piece as there is room for
abbrev pub held_with : Feeding → List ℕ → List ℕ
held_with f piece = held f ++ take (room_of f) piece

-- with this many octets before them, the octets have this fault
abbrev pub HasFault : ℕ → List ℕ → TmlFault → Type 0
HasFault place octets fault = (messages : List Content)
    × ((rest : List ℕ) × IsStream place octets messages rest (Some fault))

-- the rest of the stream, where these messages were given and this refusal came, if any
abbrev pub GoesOn : Feeding → Option TmlFault → List ℕ → List Content → Type 0
GoesOn f None taken given = IsStream 0 taken (given ++ f.messages) f.rest None
GoesOn f (Some fault) taken given = (messages : List Content)
    × ((rest : List ℕ) × IsStream 0 taken (given ++ messages) rest (Some fault))

-- Since the connection's start these octets came to the feeder, in whatever pieces, and it gave
-- these messages: they and those that it holds are the messages of the octets.
pub record StandsFor (f : Feeding) (taken : List ℕ) (given : List Content) : Type 0 where
  pub place : f.place ≡ capped (length (spellings given))
  pub stream : GoesOn f f.fault taken given

-- what is given next
abbrev pub next_by : Option TmlFault → List Content → Result (Option Content) TmlFault
next_by (Some fault) messages = Err fault
next_by None [] = Ok None
next_by None (m ∷ messages) = Ok (Some m)

abbrev pub next_of : Feeding → Result (Option Content) TmlFault
next_of f = next_by f.fault f.messages

-- the feeder once that was given
abbrev pub after_by : Feeding → Option TmlFault → List Content → Feeding
after_by f (Some fault) messages = f
after_by f None [] = f
after_by f None (m ∷ messages) = record f {
  messages = messages;
  place = capped (f.place + length (spelling m));
}

abbrev pub after_next : Feeding → Feeding
after_next f = after_by f f.fault f.messages

-- a feeder by its parts: what it holds, how much of that stands in whole messages, the octets
-- given, the refusal
abbrev pub feeding_of : List ℕ → ℕ → ℕ → Option TmlFault → Feeding
feeding_of octets whole place fault = record {
  messages = (reading place octets).messages;
  rest = drop whole octets;
  place = place;
  fault = fault;
}

-- the parts fit together
pub record IsSplit (octets : List ℕ) (whole place : ℕ) : Type 0 where
  pub within : whole ≤ length octets
  pub size : length octets ≤ CAPACITY
  pub stream : IsStream place octets (reading place octets).messages (drop whole octets) None
