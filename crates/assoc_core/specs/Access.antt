-- Whose credentials are asked for, and of what (CCSDS 913.1-B; the levels are own).
use Rattle.std.specs.Prelude.{◌≡◌, ℕ, Bool, true, false, not, ◌||◌, List, Option, Some, None}
use Rattle.std.specs.Prelude.{option_and_then, option_map, slice_get, is_ok, if◌then◌else◌}
use Rattle.std.specs.Borrow.{Bor}
use Rattle.isp1_auth.specs.declared.hash.Hash.TheVariants.{Sha1, Sha256}
use Rattle.isp1_auth.specs.declared.secret.Secret.{Secret}
use Rattle.isp1_auth.specs.Auth.{auth}
use Rattle.station_config.specs.Drafts.{place_of}
use Rattle.station_config.specs.declared.level.Level.{Level}
use Rattle.station_config.specs.declared.level.Level.TheVariants.{Nothing, Bind, All}
use Rattle.station_config.specs.declared.peer.Peer.{Peer}
use Rattle.station_config.specs.declared.site.Site.{Site}
use Rattle.assoc_core.specs.declared.state.State.{State}
use Rattle.assoc_core.specs.Kind.{Kind, context, heartbeat, bind, peer_abort, Message}
use Rattle.assoc_core.specs.State.{binding_of}

-- the place of the peer that sends a message: a BIND names it, else it is the bound one
abbrev pub sender_place : List Peer → State → Kind → List ℕ → Option ℕ
sender_place peers state bind initiator = place_of initiator peers
sender_place peers state _ initiator = option_map (λ binding. binding.peer) (binding_of state)

abbrev pub sender : List Peer → State → Kind → List ℕ → Option Peer
sender peers state kind initiator =
    option_and_then
    (λ place. slice_get peers place)
    (sender_place peers state kind initiator)

-- whether a message has credentials
abbrev pub has_credentials : Kind → Bool
has_credentials context = false
has_credentials heartbeat = false
has_credentials peer_abort = false
has_credentials _ = true

-- whether a level asks for them: of nothing, of the BIND, or of all that has any
abbrev pub is_asked : Level → Kind → Bool
is_asked Nothing _ = false
is_asked Bind bind = true
is_asked Bind _ = false
is_asked All kind = has_credentials kind

abbrev pub lent : {X : Type 0} → X → Bor X
lent x = record { ref_ptr = (0, 0); now = x }

-- what a peer's credentials are made of
abbrev pub secret_of : Peer → Secret
secret_of peer =
    record {
      name = lent peer.name;
      pass = lent peer.pass;
      hash = if peer.sha256 then Sha256 else Sha1;
      credential_age = peer.credential_age;
    }

-- a secret with just these octets, wherever they stand
pub record IsSecretOf (peer : Peer) (secret : Secret) : Type 0 where
  pub name : secret.name.now ≡ peer.name
  pub pass : secret.pass.now ≡ peer.pass
  pub hash : secret.hash ≡ (secret_of peer).hash
  pub credential_age : secret.credential_age ≡ peer.credential_age

-- whether credentials are a peer's at this moment
abbrev pub is_authentic : Peer → Option (List ℕ) → ℕ → Bool
is_authentic peer credentials now = is_ok (auth (secret_of peer) credentials now)

-- whether a peer may send a message
abbrev pub may_send : Option Peer → Message → Bool
may_send None m = false
may_send (Some peer) m =
    not (is_asked peer.level m.kind) || is_authentic peer m.credentials m.now

-- whether a message is admitted: it has no credentials, or its sender may send it
abbrev pub is_admitted : Site → State → Message → Bool
is_admitted site state m =
    not (has_credentials m.kind) || may_send (sender site.peers state m.kind m.initiator) m
