-- A connection's octets are its messages, one after the other (CCSDS 913.1-B).
use Rattle.std.specs.Prelude.{◌≡◌, ℕ, ◌+◌, ◌<◌, ◌≤◌, List, ◌++◌, length, Option, Some, None, nat_lt}
use Rattle.std.specs.Prelude.{if◌then◌else◌}
use Rattle.std.specs.List.{AllByRecursion}
use Rattle.isp1_tml.specs.declared.tml_fault.TmlFault.{TmlFault}
use Rattle.isp1_tml.specs.Message.{Content, IsMessage, header, spelling, spellings}
use Rattle.isp1_tml.specs.Fault.{declared_length, fault_of}

-- how many octets the message in front has, or none where fewer came than a header, or than its
-- length says
abbrev pub size_among : ℕ → Option ℕ → Option ℕ
size_among came None = None
size_among came (Some size) = if nat_lt came (8 + size) then None else Some (8 + size)

abbrev pub whole_size : List ℕ → Option ℕ
whole_size octets = size_among (length octets) (declared_length octets)

-- With this many octets before them, the octets are these messages, and then a rest. The rest has
-- this fault, or it has none and is less than a whole message.
pub record IsStream (place : ℕ) (octets : List ℕ) (messages : List Content) (rest : List ℕ)
    (fault : Option TmlFault) : Type 0 where
  pub whole : octets ≡ spellings messages ++ rest
  pub each : AllByRecursion IsMessage messages
  pub refused : fault_of (place + length (spellings messages)) rest ≡ fault
  pub partial : fault ≡ None → whole_size rest ≡ None

-- the octets are less than a header, and can go on as one
abbrev pub BeginsHeader : List ℕ → Type 0
BeginsHeader octets = (kind : ℕ) × ((size : ℕ)
    × ((more : List ℕ) × ((1 ≤ kind) × (kind ≤ 3) × (0 < length more)
    × (octets ++ more ≡ header kind size))))

-- the octets are less than a message, and can go on as one
abbrev pub BeginsMessage : List ℕ → Type 0
BeginsMessage octets = (message : Content) × ((more : List ℕ)
    × (IsMessage message × (0 < length more) × (octets ++ more ≡ spelling message)))
