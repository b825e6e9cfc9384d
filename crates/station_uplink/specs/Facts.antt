-- What holds of the events of every turn: they are made one after another, each of the antenna's
-- worker's calls alone.
use Rattle.std.proofs.Common.{ℕ, Bool, true, false, IsTrue, Option, Some, None, List, [], ◌∷◌, ◌++◌}
use Rattle.std.proofs.Common.{refl}
use Rattle.cltu_queue.specs.declared.taken.Taken.{Taken}
use Rattle.cltu_queue.specs.declared.taken.Taken.TheVariants.{Idle, Waits, Expired, Radiate}
use Rattle.station_book.specs.State.{Event, Call, take, done, interrupted, uplink}
use Rattle.station_book.specs.State as books
use Rattle.station_book.specs.History.{event_at, after, replay}
use Rattle.station_uplink.specs.declared.aloft.Aloft.{Aloft}
use Rattle.station_uplink.specs.declared.turn.Turn.{Turn}
use Rattle.station_uplink.specs.declared.turn.Turn.TheVariants as turns
use Rattle.station_uplink.specs.Turns.{Uplink, taken_by, found, sends, done_by, turned, events_of}

-- a call of the antenna's worker
abbrev pub is_of_antenna : Call → Bool
is_of_antenna (take reading) = true
is_of_antenna (done run id reading) = true
is_of_antenna (interrupted run id reading) = true
is_of_antenna (uplink production status reading) = true
is_of_antenna _ = false

-- What holds of no events, of those behind others, and of each call of the antenna's worker, holds of
-- those of a turn.
module _ (P : books.State → List Event → Type 0) (none : (b : books.State) → P b [])
    (both : (b : books.State) (h k : List Event) → P b h → P (replay b h) k → P b (h ++ k))
    (one : (b : books.State) (call : Call) → IsTrue (is_of_antenna call)
    → P b (event_at b call ∷ [])) where
  by_send : (fail : Bool) (b : books.State) (reading : ℕ) (u : Uplink) (a : Aloft)
      (octets : List ℕ) → P b (sends fail b reading u a octets).events
  by_send false b reading u a octets = one b (take reading) refl
  by_send true b reading u a octets =
      both b (event_at b (take reading) ∷ [])
      (event_at (after b (take reading)) (interrupted a.run a.id reading) ∷ [])
      (one b (take reading) refl)
      (one (after b (take reading)) (interrupted a.run a.id reading) refl)

  by_found : (b : books.State) (reading : ℕ) (fail : Bool) (u : Uplink) (taken : Taken)
      → P b (taken_by b reading fail u taken).events
  by_found b reading fail u Idle = one b (take reading) refl
  by_found b reading fail u (Waits until) = one b (take reading) refl
  by_found b reading fail u (Expired id) = one b (take reading) refl
  by_found b reading fail u (Radiate run id octets) =
      by_send fail b reading u (record { run = run; id = id }) octets

  by_air : (b : books.State) (reading : ℕ) (u : Uplink) (air : Option Aloft)
      → P b (events_of (done_by b reading u air))
  by_air b reading u None = none b
  by_air b reading u (Some a) = one b (done a.run a.id reading) refl

  pub turn_holds : (b : books.State) (reading : ℕ) (u : Uplink) (turn : Turn)
      → P b (events_of (turned b reading u turn))
  turn_holds b reading u (turns.Take fail) = by_found b reading fail u (found b reading)
  turn_holds b reading u turns.Done = by_air b reading u u.in_air
  turn_holds b reading u (turns.Uplink production status) =
      one b (uplink production status reading) refl
