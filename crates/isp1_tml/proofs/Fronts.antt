-- What octets in a message's place are: a spelled message is found whole, and what is found whole
-- is spelled.
use Rattle.std.proofs.Common.{◌≡◌, ℕ, ◌+◌, ◌≤◌, List, ◌++◌, length, Some, None, refl, ap}
use Rattle.std.proofs.Common.{◌∙◌, arith}
use Rattle.std.specs.Int.{w32, from_be_bytes, to_be_bytes}
use Rattle.std.proofs.lemmas.Bool.{le-ltb, le-leb}
use Rattle.std.proofs.lemmas.List.{length-append}
use Rattle.std.proofs.lemmas.Nat.{from_be_bytes-to_be_bytes_2, from_be_bytes-to_be_bytes_4}
use Rattle.isp1_tml.specs.declared.message.TheConstants.{LONGEST_PDU}
use Rattle.isp1_tml.specs.Message.{Content, pdu, context, heartbeat, spelling, IsMessage}
use Rattle.isp1_tml.specs.Fault.{fault_of}
use Rattle.isp1_tml.specs.Stream.{whole_size, size_among}
use Rattle.isp1_tml.specs.Reading.{content}

-- ---- what is spelled is found

declared_is : (n : ℕ) → n ≤ LONGEST_PDU → from_be_bytes w32 (to_be_bytes w32 n) ≡ n
declared_is n h = from_be_bytes-to_be_bytes_4 n (omega arith)

pub fault_of-spelling : (p : ℕ) (m : Content) (y : List ℕ) → IsMessage m
    → fault_of p (spelling m ++ y) ≡ None
fault_of-spelling p (pdu body) y h = rw (declared_is (length body) h, le-leb _ LONGEST_PDU h) refl
fault_of-spelling p (context interval factor) y h = refl
fault_of-spelling p heartbeat y h = refl

pub size_is : (came n : ℕ) → 8 + n ≤ came → size_among came (Some n) ≡ Some (8 + n)
size_is came n h = rw (le-ltb came (8 + n) h) refl

pub whole_size-spelling : (m : Content) (y : List ℕ) → IsMessage m
    → whole_size (spelling m ++ y) ≡ Some (length (spelling m))
whole_size-spelling (pdu body) y h =
    rw (declared_is (length body) h) (size_is _ _ (omega (arith, length-append body y))
    ∙ ap Some (omega arith))
whole_size-spelling (context interval factor) y h = size_is _ 12 (omega arith)
whole_size-spelling heartbeat y h = size_is _ 0 (omega arith)

pub content-spelling : (m : Content) → IsMessage m → content (spelling m) ≡ m
content-spelling (pdu body) h = refl
content-spelling (context interval factor) h =
    cc (from_be_bytes-to_be_bytes_2 interval h.0, from_be_bytes-to_be_bytes_2 factor h.1)
content-spelling heartbeat h = refl
