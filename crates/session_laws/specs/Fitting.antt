-- What a delivery holds goes into one message, so that a buffer that is due is always offered.
use Rattle.std.specs.Prelude.{◌≡◌, ◌≤◌, true, List}
use Rattle.archive_terms.specs.Archive.{Entry}
use Rattle.archive_terms.specs.Delivery.{Terms}
use Rattle.archive_terms.specs.Rounds.{Round}
use Rattle.buffer_message.specs.Fitting.{fits_message}
use Rattle.buffer_message.specs.declared.limits.TheConstants.{MOST_ITEMS}
use Rattle.return_core.specs.Course.{Course, held_of}
use Rattle.return_core.specs.Standing.{StandsFor}

-- Of a delivery that stands for rounds over an archive, with buffers of at most 1,000 items, as each
-- instance of a valid site has them.
abbrev pub HeldFits : Type 0
HeldFits =
    (c : Course) (t : Terms) (entries : List Entry) (rounds : List Round)
    → StandsFor c t entries rounds → t.size ≤ MOST_ITEMS → fits_message (held_of c) ≡ true
