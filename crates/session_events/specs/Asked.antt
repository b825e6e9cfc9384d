-- What the START of a session's round asks for, of the instance that is bound. This product's own.
use Rattle.std.specs.Prelude.{ℕ, nat_lt, if◌then◌else◌, Option, Some, None, option_and_then, List}
use Rattle.std.specs.Prelude.{[], ◌∷◌}
use Rattle.cds_time.specs.Moment.{moment_of}
use Rattle.isp1_tml.specs.Message.{Content}
use Rattle.station_config.specs.declared.site.Site.{Site}
use Rattle.session_core.specs.Laws.{round_messages}
use Rattle.session_core.specs.Session.{State, Round, BookAnswer, before_step}
use Rattle.session_core.specs.Steps.{said_to}
use Rattle.session_laws.specs.Instances.{Shape, shape_at}
use Rattle.session_laws.specs.Starts.{Wanted, wanted_in}
use Rattle.station_world.specs.Life.{Asked}

-- what a START among these messages, of which a round handles one at most, asks for
abbrev pub wanted_of : Site → State → List Content → Option Wanted
wanted_of site s [] = None
wanted_of site s (message ∷ others) = wanted_in (said_to site s.standing message)

abbrev pub wanted_at : Site → State → Round → Option Wanted
wanted_at site s r = wanted_of site (before_step s r) (round_messages s r)

-- a START at a door, of an instance of this shape
abbrev pub asked_so : ℕ → Shape → Wanted → Asked
asked_so door shape wanted = record {
  door = door;
  mode = shape.mode;
  size = shape.size;
  latency = shape.latency;
  filter = wanted.filter;
  start = option_and_then moment_of wanted.start;
  stop = option_and_then moment_of wanted.stop;
}

-- a buffer has room for an item, as that of each instance of a valid site
abbrev pub with_room : Asked → Option Asked
with_room a = if nat_lt 0 a.size then Some a else None

abbrev pub asked_of : ℕ → Option Shape → Option Wanted → Option Asked
asked_of door None wanted = None
asked_of door (Some shape) None = None
asked_of door (Some shape) (Some wanted) = with_room (asked_so door shape wanted)

-- what a round's START asks of the instance that is bound, in a round that asked the book
abbrev pub asked_where : Option BookAnswer → Option Asked → Option Asked
asked_where None asked = None
asked_where (Some told) asked = asked

abbrev pub asked_in : ℕ → Site → State → Round → Option Asked
asked_in door site s r =
    asked_where r.told (asked_of door (shape_at site s.standing) (wanted_at site s r))
