-- The credentials of a buffer's items (CCSDS 913.1-B). That each has a number of its own, drawn in
-- the items' order, is this product's own.
use Rattle.std.specs.Prelude.{ℕ, Option, Some, None, List, [], ◌∷◌}
use Rattle.cds_time.specs.Moment.{octets_of, in_micros}
use Rattle.archive_terms.specs.Placed.{ToldItem}
use Rattle.isp1_auth.specs.declared.hash.Hash.{Hash}
use Rattle.isp1_auth.specs.declared.secret.Secret.{Secret}
use Rattle.isp1_auth.specs.Numbers.{next_number}
use Rattle.isp1_auth.specs.Signed.{signed}
use Rattle.buffer_message.specs.declared.signer.Signer.{Signer}

-- who signs and when: its name and password, the peer's hash function, and the moment
pub record Signing : Type 0 where
  pub name : List ℕ
  pub pass : List ℕ
  pub hash : Hash
  pub moment : ℕ

abbrev pub signing_of : Signer → Signing
signing_of s = record {
  name = s.secret.name.now;
  pass = s.secret.pass.now;
  hash = s.secret.hash;
  moment = s.moment;
}

-- a secret with these octets, wherever they stand
abbrev pub secret_by : Signing → Secret
secret_by s = record {
  name = record { ref_ptr = (0, 0); now = s.name };
  pass = record { ref_ptr = (0, 0); now = s.pass };
  hash = s.hash;
  credential_age = 0;
}

-- the credentials with a number, where somebody signs
abbrev pub credentials_by : Option Signing → ℕ → Option (List ℕ)
credentials_by None number = None
credentials_by (Some s) number =
    Some (signed (secret_by s) (octets_of (in_micros s.moment)) number)

-- a session's latest number once each of the items has the next one
abbrev pub number_after : ℕ → List ToldItem → ℕ
number_after number [] = number
number_after number (item ∷ items) = number_after (next_number number) items
