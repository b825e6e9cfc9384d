-- Events one after the other lead on.
use Rattle.std.proofs.Common.{◌++◌, List, sym, subst}
use Rattle.station_world.specs.World.{World, Event, after_events}
use Rattle.station_world.proofs.Moments.{after_both, come_both}
use Rattle.line_events.specs.Shows.{View, Shows}
use Rattle.line_events.specs.Forms.{LeadTo}

pub lead_both : (w : World) (h k : List Event) (v u : View) → LeadTo w h v
    → LeadTo (after_events w h) k u → LeadTo w (h ++ k) u
lead_both w h k v u first second = (
  come_both w h k first.0 second.0,
  subst (Shows u) (sym (after_both w h k)) second.1,
)
