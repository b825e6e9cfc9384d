-- What credentials hold where they are used (CCSDS 913.1-B).
use Rattle.std.proofs.Common.{ℕ, ◌^◌, ◌-◌, List, [], ◌∷◌, refl}
use Rattle.ber_core.specs.Spelling.{canonical}
use Rattle.ber_shape.specs.Content.{octet_string}
use Rattle.ber_shape.specs.Element.{Element, simple}
use Rattle.ber_shape.specs.Members.{Members, structured, last, ◌▸◌}
use Rattle.ber_shape.specs.Same.{members_as}
use Rattle.sle_common.specs.Natural.{natural}
use Rattle.isp1_auth.specs.declared.random_numbers.TheConstants.{GREATEST_NUMBER}
use Rattle.isp1_auth.specs.declared.secret.Secret.{Secret}
use Rattle.isp1_auth.specs.declared.signature.Signature.{Signature}
use Rattle.isp1_auth.specs.Digest.{digest}

-- a time in its octets, a number, and the digest that protects both
pub record Claim : Type 0 where
  pub time : List ℕ
  pub number : ℕ
  pub protected : List ℕ

-- time OCTET STRING of 8, number INTEGER 0 to 2147483647, protected OCTET STRING: of as many octets
-- as a slice has
abbrev pub fields : Members Claim
fields = members_as (simple (0x04 ∷ []) (octet_string 8 8) refl ▸ natural (0x02 ∷ []) 0
    GREATEST_NUMBER refl refl ▸ last (simple (0x04 ∷ []) (octet_string 0 (2 ^ 63 - 1)) refl))
    (record {
      to = λ p. record { time = p.0; number = p.1.0; protected = p.1.1 };
      from = λ c. (c.time, (c.number, c.protected));
      there = λ c. refl;
      back = λ p. refl;
    })

-- the SEQUENCE of these
abbrev pub sequence : Element Claim
sequence = structured (0x30 ∷ []) fields refl

-- a time and a number, protected by the secret's digest
abbrev pub claim : Secret → List ℕ → ℕ → Claim
claim secret time number = record {
  time = time;
  number = number;
  protected = digest secret time number;
}

-- the credentials that say so, in the canonical spelling
abbrev pub signed : Secret → List ℕ → ℕ → List ℕ
signed secret time number = canonical (sequence.tree (claim secret time number))

-- what contracts see of a claim that is lent
abbrev pub claim_of : Signature → Claim
claim_of s = record { time = s.time.now; number = s.number; protected = s.protected.now }
