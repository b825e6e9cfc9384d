-- What the code's answers say, in the definitions' terms.
use Rattle.std.specs.Prelude.{ℕ, List, Option, Some, None, Result, Ok, Err}
use Rattle.isp1_tml.specs.declared.tml_fault.TmlFault.{TmlFault}
use Rattle.isp1_tml.specs.declared.message.Message.{Message}
use Rattle.isp1_tml.specs.declared.message.Message.TheVariants.{Pdu, Context, Heartbeat}
use Rattle.isp1_tml.specs.Message.{Content, pdu, context, heartbeat}
use Rattle.isp1_tml.specs.Fault.{fault_of}
use Rattle.isp1_tml.specs.Stream.{whole_size}

-- a message without where its body lies in memory
abbrev pub content_of : Message → Content
content_of (Pdu body) = pdu body.now
content_of (Context interval factor) = context interval factor
content_of Heartbeat = heartbeat

-- what the octets in a message's place are: refused, a message of so many octets, or less than one
abbrev pub front_by : Option TmlFault → Option ℕ → Result (Option ℕ) TmlFault
front_by (Some fault) size = Err fault
front_by None size = Ok size

abbrev pub front_of : ℕ → List ℕ → Result (Option ℕ) TmlFault
front_of place octets = front_by (fault_of place octets) (whole_size octets)

-- what `next_message` answered, without where its body lies in memory
abbrev pub given : Result (Option Message) TmlFault → Result (Option Content) TmlFault
given (Ok None) = Ok None
given (Ok (Some message)) = Ok (Some (content_of message))
given (Err fault) = Err fault
