-- What is wanted of a look, as the archive's definitions have it.
use Rattle.archive_terms.specs.Glimpse.{wants_nothing, wants_front, wants_items}
use Rattle.archive_terms.specs.Glimpse as terms
use Rattle.frame_select.specs.Selection.{selection_of}
use Rattle.frame_select.specs.declared.want.Want.{Want}
use Rattle.frame_select.specs.declared.want.Want.TheVariants.{Nothing, Front, Items}

abbrev pub want_of : Want → terms.Want
want_of Nothing = wants_nothing
want_of Front = wants_front
want_of (Items selection place since room octets) = wants_items
    (record {
      selection = selection_of selection;
      place = place;
      since = since;
      room = room;
      octets = octets;
    })
