-- The messages of a list of octets, worked out from left to right.
use Rattle.std.specs.Prelude.{◌≡◌, ℕ, zero, suc, ◌+◌, List, [], ◌∷◌, ◌++◌, length, take, drop}
use Rattle.std.specs.Prelude.{Option, Some, None, ◌==◌, if◌then◌else◌}
use Rattle.std.specs.Int.{w16, from_be_bytes}
use Rattle.isp1_tml.specs.declared.tml_fault.TmlFault.{TmlFault}
use Rattle.isp1_tml.specs.Message.{Content, pdu, context, heartbeat, spelling, IsMessage}
use Rattle.isp1_tml.specs.Fault.{kind_of, fault_of}
use Rattle.isp1_tml.specs.Stream.{whole_size, IsStream}

-- the message that is spelled by these octets
abbrev pub content_by : ℕ → List ℕ → Content
content_by kind body =
    if kind == 1 then pdu body
    else if kind == 2 then context (from_be_bytes w16 (drop 8 body))
    (from_be_bytes w16 (drop 10 body))
    else heartbeat

abbrev pub content : List ℕ → Content
content octets = content_by (kind_of octets) (drop 8 octets)

-- the octets are one message, whole
abbrev pub IsSpelled : List ℕ → Type 0
IsSpelled octets = IsMessage (content octets) × (spelling (content octets) ≡ octets)

pub record Reading : Type 0 where
  pub messages : List Content
  pub rest : List ℕ
  pub fault : Option TmlFault

abbrev pub at_end : List ℕ → Option TmlFault → Reading
at_end rest fault = record { messages = []; rest = rest; fault = fault }

abbrev pub behind : Content → Reading → Reading
behind message r = record { messages = message ∷ r.messages; rest = r.rest; fault = r.fault }

abbrev pub reading_by : (ℕ → Reading) → List ℕ → Option TmlFault → Option ℕ → Reading
reading_by later octets (Some fault) size = at_end octets (Some fault)
reading_by later octets None None = at_end octets None
reading_by later octets None (Some size) = behind (content (take size octets)) (later size)

-- the reading, with at most so many messages
unfoldable pub reading_within : ℕ → ℕ → List ℕ → Reading
reading_within zero place octets = at_end octets (fault_of place octets)
reading_within (suc n) place octets =
    reading_by (λ size. reading_within n (place + size) (drop size octets)) octets
    (fault_of place octets) (whole_size octets)

abbrev pub reading : ℕ → List ℕ → Reading
reading place octets = reading_within (length octets) place octets

-- the octets are a stream, which is read so
abbrev pub IsRead : ℕ → List ℕ → Reading → Type 0
IsRead place octets r = IsStream place octets r.messages r.rest r.fault

-- messages, and then those of another reading, which ends as that one does
pub record GoesOnFrom (messages : List Content) (later whole : Reading) : Type 0 where
  pub all : whole.messages ≡ messages ++ later.messages
  pub rest : whole.rest ≡ later.rest
  pub fault : whole.fault ≡ later.fault
