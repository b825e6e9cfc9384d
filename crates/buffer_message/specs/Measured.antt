-- A message that was measured.
use Rattle.std.specs.Prelude.{◌≡◌, ℕ, ◌<◌, ◌≤◌, true, Option, Some, None, List, length}
use Rattle.std.specs.List.{list_all}
use Rattle.cds_time.specs.declared.cds.TheConstants.{MOMENT_END}
use Rattle.isp1_auth.specs.declared.random_numbers.TheConstants.{GREATEST_NUMBER}
use Rattle.archive_terms.specs.Placed.{ToldItem}
use Rattle.return_pdu.specs.declared.return_kind.ReturnKind.{ReturnKind}
use Rattle.return_pdu.specs.TransferItem.{spelled_items}
use Rattle.buffer_message.specs.Signing.{Signing}
use Rattle.buffer_message.specs.Content.{contents}
use Rattle.buffer_message.specs.Fitting.{is_in_range}
use Rattle.buffer_message.specs.Message.{IsRead}

-- who signs does so at a moment that a time has
abbrev pub HasMoment : Option Signing → Type 0
HasMoment None = Unit {0}
HasMoment (Some s) = s.moment < MOMENT_END

-- the items have so many octets
pub record IsMeasured (service : ReturnKind) (by : Option Signing) (first : ℕ) (items : List ToldItem)
    (content : ℕ) : Type 0 where
  pub in_range : list_all is_in_range items ≡ true
  pub moment : HasMoment by
  pub number : first ≤ GREATEST_NUMBER
  pub content_is : content ≡ length (spelled_items (contents service by first items))
  pub read : IsRead service by first items
