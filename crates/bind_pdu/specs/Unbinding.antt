-- UNBIND and its return (CCSDS 911.1-B, annex A).
use Rattle.std.proofs.Common.{ℕ, Option, List, [], ◌∷◌, refl}
use Rattle.ber_shape.specs.Content.{null}
use Rattle.ber_shape.specs.Element.{Element, simple}
use Rattle.ber_shape.specs.Members.{Members, structured, last, ◌▸◌}
use Rattle.ber_shape.specs.Same.{members_as}
use Rattle.sle_common.specs.Natural.{natural}
use Rattle.sle_common.specs.Credentials.{credentials}

abbrev pub unbind_reason : Element ℕ
unbind_reason = natural (0x02 ∷ []) 0 127 refl refl

pub record UnbindContent : Type 0 where
  pub credentials : Option (List ℕ)
  pub reason : ℕ

abbrev pub unbind_fields : Members UnbindContent
unbind_fields = members_as (credentials ▸ last unbind_reason) (record {
  to = λ p. record { credentials = p.0; reason = p.1 };
  from = λ u. (u.credentials, u.reason);
  there = λ u. refl;
  back = λ p. refl;
})

-- [102] SEQUENCE
abbrev pub unbind : Element UnbindContent
unbind = structured (0xbf ∷ 0x66 ∷ []) unbind_fields refl

-- ---- the return

-- [0] NULL, the one result
abbrev pub positive : Element (Unit {0})
positive = simple (0x80 ∷ []) null refl

pub record UnbindReturnContent : Type 0 where
  pub credentials : Option (List ℕ)

abbrev pub unbind_return_fields : Members UnbindReturnContent
unbind_return_fields = members_as (credentials ▸ last positive) (record {
  to = λ p. record { credentials = p.0 };
  from = λ r. (r.credentials, tt);
  there = λ r. refl;
  back = λ p. refl;
})

-- [103] SEQUENCE
abbrev pub unbind_return : Element UnbindReturnContent
unbind_return = structured (0xbf ∷ 0x67 ∷ []) unbind_return_fields refl
