-- The place of a peer.
use Rattle.std.proofs.Common.{◌≡◌, ℕ, ◌<◌, List, [], ◌∷◌, length, Some}
use Rattle.std.proofs.lemmas.List.Quantifiers.{position-Some}
use Rattle.std.specs.Str.{bytes_eq}
use Rattle.station_config.specs.Drafts.{place_of}
use Rattle.station_config.specs.declared.peer.Peer.{Peer}

pub place_within : (name : List ℕ) (peers : List Peer) (place : ℕ)
    → place_of name peers ≡ Some place → place < length peers
place_within name [] place e = absurd cc
place_within name (peer ∷ peers) place e =
    (position-Some (λ peer. bytes_eq peer.name name) (peer ∷ peers) place peer e).0
