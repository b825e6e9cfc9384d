-- What an item is to a transfer buffer.
use Rattle.std.specs.Prelude.{◌-◌, ◌^◌, Bool, true, ◌&&◌, nat_lt, nat_le, List}
use Rattle.std.specs.List.{list_all}
use Rattle.archive_terms.specs.Delivery.{Item, archived, frame_octets}
use Rattle.archive_terms.specs.Placed.{ToldItem}
use Rattle.archive_terms.specs.declared.limits.TheConstants.{LONGEST_FRAME}

-- whether an item's place has one behind it that a number of 64 bits tells, and its frame has at
-- most 65,536 octets, as in an archive
abbrev pub is_of_archive : Item → Bool
is_of_archive (archived place entry) =
    nat_lt place (2 ^ 64 - 1) && nat_le (frame_octets (archived place entry)) LONGEST_FRAME
is_of_archive _ = true

abbrev pub are_of_archive : List ToldItem → Bool
are_of_archive items = list_all (λ (told : ToldItem). is_of_archive told.0) items
