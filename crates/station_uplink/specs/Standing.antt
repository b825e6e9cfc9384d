-- Which uplink a value of the code stands for, and what a turn's call does.
use Rattle.std.specs.Prelude.{◌≡◌, ℕ, Bool, true, false, Option, Some, None, IfSome, List, [], ◌∷◌}
use Rattle.station_book.specs.State as books
use Rattle.station_book.specs.History.{replay}
use Rattle.station_uplink.specs.declared.aloft.Aloft.{Aloft}
use Rattle.station_uplink.specs.declared.turned.Turned.{Turned}
use Rattle.station_uplink.specs.declared.turned.Turned.TheVariants.{Wrong, Quiet, Says}
use Rattle.station_uplink.specs.declared.uplink_line.UplinkLine.{UplinkLine}
use Rattle.station_uplink.specs.Turns.{Uplink}
use Rattle.station_uplink.specs.Turns as turns

-- an uplink as contracts see it: what its antenna tells as sent, if it tells, and what is in the air
pub record Seen : Type 0 where
  pub told : Option (List (List ℕ))
  pub in_air : Option Aloft

-- an antenna that tells has sent exactly this
pub record IsUplink (seen : Seen) (u : Uplink) : Type 0 where
  pub told : IfSome seen.told (λ sent. sent ≡ u.sent)
  pub in_air : seen.in_air ≡ u.in_air

-- what a turn said, and whether it was done
abbrev pub said_by : Turned → List UplinkLine
said_by Wrong = []
said_by Quiet = []
said_by (Says line) = line ∷ []

abbrev pub is_done : Turned → Bool
is_done Wrong = false
is_done _ = true

-- a turn said exactly this, and left the book and the uplink exactly so
pub record HasDone (how : Turned) (t : turns.Turned) (before after : books.State) (new : Seen)
    : Type 0 where
  pub done : is_done how ≡ true
  pub says : said_by how ≡ t.said
  pub book_is : after ≡ replay before t.events
  pub leaves : IsUplink new t.next

-- or it did nothing, in a wrong state
abbrev pub HasTurned : Turned → Option turns.Turned → books.State → books.State → Seen → Uplink
    → Type 0
HasTurned how None before after new u =
    (how ≡ Wrong) × (after ≡ before) × IsUplink new u
HasTurned how (Some t) before after new u = HasDone how t before after new
