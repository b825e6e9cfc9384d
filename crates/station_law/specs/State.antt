-- The world behind a script. This product's own.
use Rattle.std.specs.Prelude.{ℕ, []}
use Rattle.station_config.specs.declared.site.Site.{Site}
use Rattle.script_store.specs.Store.{Store, blank}
use Rattle.station_uplink.specs.Turns.{Uplink, silent}
use Rattle.station_law.specs.Doors.{Doors, anew}

-- what is stored; the moment that the clock reads; the doors, at which users are connected; and what
-- the antenna was sent, with what is in the air
pub record State : Type 0 where
  pub store : Store
  pub clock : ℕ
  pub doors : Doors
  pub uplink : Uplink

-- nothing has happened at a site, and the clock stands at its origin
abbrev pub start : Site → State
start site = record {
  store = blank site.capacity;
  clock = 0;
  doors = anew site [];
  uplink = silent;
}
