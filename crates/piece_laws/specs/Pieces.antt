-- What the lines of a script bring to its connections.
use Rattle.std.specs.Prelude.{ℕ, List}
use Rattle.std.specs.List.{AllByRecursion}
use Rattle.drill_text.specs.Reading.{reading}
use Rattle.station_links.specs.Run.{BringsPieces}
use Rattle.station_law.specs.Connections.{life}
use Rattle.station_law.specs.State.{State}

-- each piece that any lines, in order or not, bring to any connection is octets
abbrev pub AreOfOctets : Type 0
AreOfOctets = (c : ℕ) (lines : List (List ℕ)) (state : State)
    → AllByRecursion BringsPieces (life reading c state lines).deeds
