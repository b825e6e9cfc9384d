-- Octets that came whole: the messages that weren't given yet, the octets after them, how many
-- octets were given, and what the octets after the messages are refused for, if they are.
use Rattle.std.specs.Prelude.{ℕ, ◌+◌, List, [], ◌∷◌, length, Option, Some, None, Result, Ok, Err}
use Rattle.isp1_tml.specs.declared.tml_fault.TmlFault.{TmlFault}
use Rattle.isp1_tml.specs.Message.{Content, spelling}
use Rattle.isp1_tml.specs.Fault.{capped}
use Rattle.isp1_tml.specs.Reading.{Reading, reading}

pub record Unread : Type 0 where
  pub place : ℕ
  pub messages : List Content
  pub rest : List ℕ
  pub fault : Option TmlFault

abbrev pub unread_by : ℕ → Reading → Unread
unread_by place r =
    record { place = place; messages = r.messages; rest = r.rest; fault = r.fault }

-- octets with this many before them
abbrev pub unread_of : ℕ → List ℕ → Unread
unread_of place octets = unread_by place (reading place octets)

-- the next message; behind the last one the fault, if there is one
abbrev pub first_by : List Content → Option TmlFault → Result (Option Content) TmlFault
first_by (m ∷ messages) fault = Ok (Some m)
first_by [] None = Ok None
first_by [] (Some fault) = Err fault

abbrev pub first_of : Unread → Result (Option Content) TmlFault
first_of u = first_by u.messages u.fault

-- what is left once it was given
abbrev pub behind_by : Unread → List Content → Unread
behind_by u [] = u
behind_by u (m ∷ messages) = record u {
  place = capped (u.place + length (spelling m));
  messages = messages;
}

abbrev pub behind_first : Unread → Unread
behind_first u = behind_by u u.messages
