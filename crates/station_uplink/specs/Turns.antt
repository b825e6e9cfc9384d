-- The turns of a station's uplink in a script: what each says, its events of the book, and what it
-- leaves. This product's own.
use Rattle.std.specs.Prelude.{ℕ, Bool, true, false, Option, Some, None, List, [], ◌∷◌, ◌++◌}
use Rattle.cltu_queue.specs.Machine.{on_take}
use Rattle.cltu_queue.specs.declared.taken.Taken.{Taken}
use Rattle.cltu_queue.specs.declared.taken.Taken.TheVariants as takes
use Rattle.station_book.specs.State.{Event, take, done, interrupted, uplink}
use Rattle.station_book.specs.State as books
use Rattle.station_book.specs.History.{moment_at, event_at, after}
use Rattle.words.specs.Table.{Says}
use Rattle.drill_text.specs.Transcript.{transcript}
use Rattle.drill_text.specs.Transcript as forms
use Rattle.drill_text.specs.declared.script_line.ScriptLine.{ScriptLine}
use Rattle.drill_text.specs.declared.script_line.ScriptLine.TheVariants as lines
use Rattle.station_uplink.specs.declared.aloft.Aloft.{Aloft}
use Rattle.station_uplink.specs.declared.turn.Turn.{Turn}
use Rattle.station_uplink.specs.declared.turn.Turn.TheVariants as turns
use Rattle.station_uplink.specs.declared.uplink_line.UplinkLine.{UplinkLine}
use Rattle.station_uplink.specs.declared.uplink_line.UplinkLine.TheVariants.{Radiated, Failed}
use Rattle.station_uplink.specs.declared.uplink_line.UplinkLine.TheVariants.{Expired, Waits, Idle}

-- the turn that a line of a script is, if it is one
abbrev pub turn_of : ScriptLine → Option Turn
turn_of (lines.Take fail) = Some (turns.Take fail)
turn_of lines.Done = Some turns.Done
turn_of (lines.Uplink production status) = Some (turns.Uplink production status)
turn_of _ = None

-- the line of the transcript that says this
abbrev pub says_of : UplinkLine → Says transcript
says_of (Radiated id octets) = (forms.radiated, (id, octets))
says_of (Failed id) = (forms.failed, id)
says_of (Expired id) = (forms.expired, id)
says_of Waits = (forms.waits, tt)
says_of Idle = (forms.idle, tt)

-- the octets that it tells as radiated, if it tells any
abbrev pub octets_told : UplinkLine → List (List ℕ)
octets_told (Radiated id octets) = octets ∷ []
octets_told _ = []

-- the octets of each CLTU that was sent, the first one first, and what is in the air
pub record Uplink : Type 0 where
  pub sent : List (List ℕ)
  pub in_air : Option Aloft

abbrev pub silent : Uplink
silent = record { sent = []; in_air = None }

-- what is in the air is gone
abbrev pub without_air : Uplink → Uplink
without_air u = record u { in_air = None }

-- what a turn says, its events of the book, and what it leaves
pub record Turned : Type 0 where
  pub said : List UplinkLine
  pub events : List Event
  pub next : Uplink

-- ---- a take

-- it found nothing that radiates
abbrev pub finds_none : books.State → ℕ → Uplink → UplinkLine → Turned
finds_none b reading u line =
    record { said = line ∷ []; events = event_at b (take reading) ∷ []; next = u }

-- what was taken is sent, and is in the air; or its send fails, and it is interrupted
abbrev pub sends : Bool → books.State → ℕ → Uplink → Aloft → List ℕ → Turned
sends false b reading u a octets = record {
  said = Radiated a.id octets ∷ [];
  events = event_at b (take reading) ∷ [];
  next = record { sent = u.sent ++ octets ∷ []; in_air = Some a };
}
sends true b reading u a octets = record {
  said = Failed a.id ∷ [];
  events = event_at b (take reading)
      ∷ event_at (after b (take reading)) (interrupted a.run a.id reading) ∷ [];
  next = without_air u;
}

-- by what it finds, where the send of what it takes fails or doesn't
abbrev pub taken_by : books.State → ℕ → Bool → Uplink → Taken → Turned
taken_by b reading fail u takes.Idle = finds_none b reading u Idle
taken_by b reading fail u (takes.Waits until) = finds_none b reading u Waits
taken_by b reading fail u (takes.Expired id) = finds_none b reading u (Expired id)
taken_by b reading fail u (takes.Radiate run id octets) =
    sends fail b reading u (record { run = run; id = id }) octets

-- what it finds (CCSDS 912.1-B)
abbrev pub found : books.State → ℕ → Taken
found b reading = (on_take b.queue (moment_at b reading)).1

-- ---- any turn

-- the end of what is in the air; with nothing there it is wrong
abbrev pub done_by : books.State → ℕ → Uplink → Option Aloft → Option Turned
done_by b reading u None = None
done_by b reading u (Some a) = Some (record {
  said = [];
  events = event_at b (done a.run a.id reading) ∷ [];
  next = without_air u;
})

-- a turn on a book, at a reading of the clock, if it is in a right state
abbrev pub turned : books.State → ℕ → Uplink → Turn → Option Turned
turned b reading u (turns.Take fail) = Some (taken_by b reading fail u (found b reading))
turned b reading u turns.Done = done_by b reading u u.in_air
turned b reading u (turns.Uplink production status) = Some (record {
  said = [];
  events = event_at b (uplink production status reading) ∷ [];
  next = u;
})

-- its events of the book
abbrev pub events_of : Option Turned → List Event
events_of None = []
events_of (Some t) = t.events
