-- The messages of a connection (CCSDS 913.1-B, transport mapping layer), and how each is spelled.
use Rattle.std.specs.Prelude.{ℕ, ◌≤◌, ◌<◌, ◌^◌, List, [], ◌∷◌, ◌++◌, length}
use Rattle.std.specs.List.{flat_map}
use Rattle.std.specs.Int.{w16, w32, to_be_bytes}
use Rattle.isp1_tml.specs.declared.message.TheConstants.{CONTEXT_BODY, LONGEST_PDU}

-- a PDU with its octets, a context with its interval in seconds and its dead factor, or a heartbeat
pub data Content : Type 0 where
  pdu : List ℕ → Content
  context : ℕ → ℕ → Content
  heartbeat : Content

-- the eight octets before a body: the kind, three zeros, and the body's length
abbrev pub header : ℕ → ℕ → List ℕ
header kind size = kind ∷ 0 ∷ 0 ∷ 0 ∷ to_be_bytes w32 size

-- what a context's body begins with: ISP1, three zeros, and the version 1
abbrev pub protocol : List ℕ
protocol = 0x49 ∷ 0x53 ∷ 0x50 ∷ 0x31 ∷ 0 ∷ 0 ∷ 0 ∷ 1 ∷ []

-- the one spelling of a message
abbrev pub spelling : Content → List ℕ
spelling (pdu body) = header 1 (length body) ++ body
spelling (context interval factor) = header 2 CONTEXT_BODY ++ protocol ++ to_be_bytes w16 interval
    ++ to_be_bytes w16 factor
spelling heartbeat = header 3 0

abbrev pub spellings : List Content → List ℕ
spellings messages = flat_map spelling messages

-- what can be a message: a body no longer than the longest, and numbers of two octets
abbrev pub IsMessage : Content → Type 0
IsMessage (pdu body) = length body ≤ LONGEST_PDU
IsMessage (context interval factor) = (interval < 2 ^ 16) × (factor < 2 ^ 16)
IsMessage heartbeat = Unit {0}
