-- The returns, as messages of the transport, with this provider's credentials (CCSDS 911.1-B, annex
-- A; CCSDS 913.1-B). Which of them carry credentials is this product's own.
use Rattle.std.specs.Prelude.{◌≡◌, ℕ, Bool, nat_le, List, Option, Some, None, if◌then◌else◌}
use Rattle.ber_core.specs.Spelling.{canonical}
use Rattle.cds_time.specs.Moment.{octets_of, in_micros}
use Rattle.ber_shape.specs.Element.{Element}
use Rattle.isp1_tml.specs.Message.{Content, pdu, spelling}
use Rattle.isp1_auth.specs.declared.secret.Secret.{Secret}
use Rattle.isp1_auth.specs.Numbers.{next_number}
use Rattle.isp1_auth.specs.Signed.{signed}
use Rattle.station_config.specs.declared.peer.Peer.{Peer}
use Rattle.station_config.specs.declared.site.Site.{Site}
use Rattle.assoc_core.specs.Access.{is_asked, lent, secret_of}
use Rattle.assoc_core.specs.Kind.{Kind}

-- what this provider's credentials to a peer are made of: its own name and password, and the
-- peer's hash function
abbrev pub own_secret : Site → Peer → Secret
own_secret site peer =
    record (secret_of peer) { name = lent site.provider; pass = lent site.password }

-- A return carries credentials where the peer's level asks for those of its invocation. They are
-- made at the round's moment with the number after the session's latest one, which is then used.
abbrev pub own_credentials : Site → Option Peer → Kind → ℕ → ℕ → Option (List ℕ)
own_credentials site None k number now = None
own_credentials site (Some peer) k number now =
    if is_asked peer.level k
    then Some (signed (own_secret site peer) (octets_of (in_micros now)) (next_number number))
    else None

abbrev pub number_after : Option Peer → Kind → ℕ → ℕ
number_after None k number = number
number_after (Some peer) k number =
    if is_asked peer.level k then next_number number else number

-- ---- messages

-- a return as a message, and its octets
abbrev pub return_content : {X : Type 0} → Element X → X → Content
return_content element content = pdu (canonical (element.tree content))

abbrev pub return_message : {X : Type 0} → Element X → X → List ℕ
return_message element content = spelling (return_content element content)

-- whether a block has room for a return, a report and a notice of them (this product's own)
abbrev pub is_short : {X : Type 0} → Element X → Bool
is_short element = nat_le element.most 1024

-- a secret with just these octets, wherever they stand
pub record IsOwnSecret (site : Site) (peer : Peer) (secret : Secret) : Type 0 where
  pub name : secret.name.now ≡ site.provider
  pub pass : secret.pass.now ≡ site.password
  pub hash : secret.hash ≡ (own_secret site peer).hash
  pub credential_age : secret.credential_age ≡ peer.credential_age
