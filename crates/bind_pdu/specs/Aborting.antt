-- PEER-ABORT (CCSDS 911.1-B, annex A).
use Rattle.std.proofs.Common.{ℕ, List, [], ◌∷◌, refl}
use Rattle.ber_core.specs.Spelling.{canonical}
use Rattle.ber_shape.specs.Element.{Element}
use Rattle.sle_common.specs.Natural.{natural}
use Rattle.bind_pdu.specs.declared.peer_abort.PeerAbort.{PeerAbort}

-- [104] INTEGER the diagnostic
abbrev pub peer_abort : Element ℕ
peer_abort = natural (0x9f ∷ 0x68 ∷ []) 0 127 refl refl

-- its canonical spelling
abbrev pub abort_octets : PeerAbort → List ℕ
abort_octets abort = canonical (peer_abort.tree abort.diagnostic)
