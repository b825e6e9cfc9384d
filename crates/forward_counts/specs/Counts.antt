-- The numbers of a status report of the forward service (CCSDS 912.1-B, CLTU-STATUS-REPORT), by the
-- events of the run.
use Rattle.std.specs.Prelude.{◌≡◌, ℕ, ◌+◌, ◌-◌, Bool, true, false, ◌&&◌, ◌==◌, min, if◌then◌else◌}
use Rattle.std.specs.Prelude.{IsTrue, Option, Some, None, List, [], ◌∷◌, ◌++◌, length}
use Rattle.std.specs.List.{fold, filter}
use Rattle.std.specs.Option.{option_map_or, option_map}
use Rattle.cltu_queue.specs.Limits.{last_count}
use Rattle.cltu_queue.specs.Machine.{octets_of, view_of}
use Rattle.cltu_queue.specs.declared.cltu.Cltu.{Cltu}
use Rattle.cltu_queue.specs.declared.in_air.InAir.{InAir}
use Rattle.cltu_queue.specs.declared.taken.Taken.TheVariants.{Expired, Radiate}
use Rattle.cltu_queue.specs.declared.uplink_view.UplinkView.{UplinkView}
use Rattle.station_book.specs.State.{State, Opening, opened, Call, take, done, interrupted, Reply}
use Rattle.station_book.specs.State.{answered, Answer, took, Event}
use Rattle.station_book.specs.History.{then_after, replay, IsLegal}
use Rattle.station_book.specs.Radiation.{run_begun, are_of_one_run, accepted_cltus}

-- a count of a report stays at its last value
abbrev pub up_to_last : ℕ → ℕ
up_to_last count = min count last_count

-- whether a CLTU was processed: it was taken for radiation, or had expired
abbrev pub is_processed : Reply → Bool
is_processed (took (Radiate _ _ _)) = true
is_processed (took (Expired _)) = true
is_processed _ = false

abbrev pub processed_of : List Event → List Event
processed_of events = filter (λ e. is_processed e.reply) events

-- what is in the air ------------------------------------------------------------------------------

-- a CLTU in the air: the number of its run, and its identification
pub record Aloft : Type 0 where
  pub run : ℕ
  pub id : ℕ

abbrev pub is_cltu : ℕ → ℕ → Aloft → Bool
is_cltu run id a = a.run == run && a.id == id

-- a take that radiates sends a CLTU into the air
abbrev pub taken_off : Option Aloft → Reply → Option Aloft
taken_off before (took (Radiate run id _)) = Some (record { run = run; id = id })
taken_off before _ = before

-- the end of its radiation, or its failure, takes it out
abbrev pub landed : ℕ → ℕ → Option Aloft → Option Aloft
landed run id None = None
landed run id (Some a) = if is_cltu run id a then None else Some a

abbrev pub aloft_by : Option Aloft → Call → Reply → Option Aloft
aloft_by before (take _) reply = taken_off before reply
aloft_by before (done run id _) _ = landed run id before
aloft_by before (interrupted run id _) _ = landed run id before
aloft_by before _ _ = before

abbrev pub aloft_after : Option Aloft → Event → Option Aloft
aloft_after before e = aloft_by before e.call e.reply

-- what is in the air after a book's first events
abbrev pub aloft : List Event → Option Aloft
aloft events = fold aloft_after None events

-- whether a call ends the radiation of what is in the air, and this is of the run of this number
abbrev pub is_end : ℕ → Option Aloft → Call → Bool
is_end run before (done other id _) =
    option_map_or (λ a. is_cltu other id a && a.run == run) before false
is_end run before _ = false

-- how many of these events end a radiation of the run that is started in a book, up to the run's
-- stop; this was in the air before them
abbrev pub count_ends : Option Aloft → State → List Event → ℕ
count_ends before s [] = 0
count_ends before s (e ∷ events) =
    (if s.queue.started && is_end s.queue.run before e.call then 1 else 0)
    + count_ends (aloft_after before e) (then_after s e) events

-- the numbers -------------------------------------------------------------------------------------

-- The numbers of a view after some events of a run, by the book's room, the book just after the
-- run's START, what was in the air then, the events, and the CLTUs that wait after them.
pub record IsCounted (view : UplinkView) (room : ℕ) (begun : State) (before : Option Aloft)
    (events : List Event) (waiting : List Cltu) : Type 0 where
  -- the CLTUs accepted, processed, and radiated to their end
  pub received : view.received ≡ up_to_last (length (accepted_cltus events))
  pub processed : view.taken ≡ up_to_last (length (processed_of events))
  pub radiated : view.radiated ≡ up_to_last (count_ends before begun events)
  -- the free octets are the room less those that wait
  pub free : view.free ≡ room - octets_of waiting

abbrev pub aloft_of : Option InAir → Option Aloft
aloft_of a = option_map (λ x. record { run = x.run; id = x.id }) a

pub record ForwardIsCounted : Type 0 where
  -- at each moment of a run's events
  pub counts : (o : Opening) (h k : List Event) (e : Event) (first : ℕ)
      → IsLegal (opened o) (h ++ e ∷ k) → run_begun e ≡ Some first → IsTrue (are_of_one_run k)
      → IsCounted (view_of (replay (opened o) (h ++ e ∷ k)).queue) o.room
      (replay (opened o) (h ++ e ∷ [])) (aloft (h ++ e ∷ [])) k
      (replay (opened o) (h ++ e ∷ k)).queue.waiting
  -- the view of an answer, which a report is made of, is that of the book after it
  pub views : (s : State) (h : List Event) (e : Event) (a : Answer) → IsLegal s (h ++ e ∷ [])
      → e.reply ≡ answered a → a.view ≡ view_of (replay s (h ++ e ∷ [])).queue
  -- what is in the air by the events is in the air of the queue
  pub in_air : (o : Opening) (h : List Event) → IsLegal (opened o) h
      → aloft h ≡ aloft_of (replay (opened o) h).queue.in_air
