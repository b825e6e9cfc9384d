-- How a connection of a script stands: how its link in memory is steered, and all that its session
-- is over whole lists. This product's own rule.
use Rattle.std.specs.Prelude.{◌≡◌, ℕ, Option, IfSome, List, [], ◌∷◌}
use Rattle.std.specs.List.{fold}
use Rattle.link_model.specs.declared.call.Call.{Call}
use Rattle.link_model.specs.declared.call.Call.TheVariants.{Polled, Offered}
use Rattle.link_model.specs.Steering.{Steering, unsteered, heard_by, after_poll}
use Rattle.link_model.specs.Steering.{answer_to_offer, after_offer}
use Rattle.station_config.specs.declared.site.Site.{Site}
use Rattle.session_core.specs.Session.{State, at_first}
use Rattle.session_core.specs.Lists.{Began}

pub record Connected : Type 0 where
  pub steering : Steering
  pub state : State

-- the program's draw in a script
abbrev pub draw : ℕ
draw = 1

-- a connection's session: the door is the connection's number
abbrev pub began : Site → ℕ → ℕ → Began
began site c entered = record { site = site; door = c; draw = draw; entered = entered }

-- a connection is opened, at a moment
abbrev pub opened : ℕ → ℕ → Connected
opened c entered = record { steering = unsteered []; state = at_first c draw entered }

-- the link is steered otherwise, from one round to the next
abbrev pub steered_by : (Steering → Steering) → Connected → Connected
steered_by f l = record l { steering = f l.steering }

-- ---- what calls leave of the steering

abbrev pub after_call : Steering → Call → Steering
after_call s (Polled space heard) = after_poll s space
after_call s (Offered octets answer) = after_offer s

abbrev pub after_calls : Steering → List Call → Steering
after_calls s calls = fold after_call s calls

-- ---- what the steering fixes

-- the answer of a call is the one that the steering gives
abbrev pub IsLed : Steering → Call → Type 0
IsLed s (Polled space heard) = heard ≡ heard_by s space
IsLed s (Offered octets answer) = answer ≡ answer_to_offer s

abbrev pub AreLed : Steering → List Call → Type 0
AreLed s [] = Unit {0}
AreLed s (call ∷ calls) = IsLed s call × AreLed (after_call s call) calls

-- from one steering, the calls that a link tells are answered so, and lead to another
abbrev pub Leads : Steering → Option (List Call) → Steering → Type 0
Leads s told now = IfSome told (λ calls. AreLed s calls × (now ≡ after_calls s calls))
