-- What a service tells.
use Rattle.std.specs.Prelude.{ℕ, Option, Some, None, List, []}
use Rattle.isp1_tml.specs.Message.{Content, spelling}

-- a message of this provider's, by its credentials
abbrev pub Message : Type 0
Message = Option (List ℕ) → Content

-- the message that is to be offered behind the block, if one is; with the session's latest number
-- behind those that its credentials took
pub record Fixed : Type 0 where
  pub message : Option Content
  pub numbers : ℕ

-- its octets, none where there is no message
abbrev pub spelled : Option Content → List ℕ
spelled None = []
spelled (Some message) = spelling message
