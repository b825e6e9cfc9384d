-- The runs of the forward service in a history (CCSDS 912.1-B): a run is the events from one START
-- that began it to the next.
use Rattle.std.specs.Prelude.{◌≡◌, ℕ, Bool, not, Option, Some, None, is_some, List, length}
use Rattle.std.specs.List.{filter_map, list_any}
use Rattle.cltu_queue.specs.Run.{Radiation, count_up, ids_of, RadiateInOrder}
use Rattle.cltu_queue.specs.declared.ask.Ask.TheVariants as ask
use Rattle.cltu_queue.specs.declared.book_reply.BookReply.{BookReply}
use Rattle.cltu_queue.specs.declared.book_reply.BookReply.TheVariants.{Started, Taken}
use Rattle.cltu_queue.specs.declared.cltu.Cltu.{Cltu}
use Rattle.cltu_queue.specs.declared.taken.Taken.TheVariants.{Radiate}
use Rattle.station_book.specs.State.{Call, answer, Reply, answered, took, Event}

-- a value where a START began a run, and where a CLTU was taken
abbrev pub where_started : {X : Type 0} → X → BookReply → Option X
where_started x (Started _) = Some x
where_started x _ = None

abbrev pub where_taken : {X : Type 0} → X → BookReply → Option X
where_taken x (Taken _) = Some x
where_taken x _ = None

-- the first identification of the run that begins with an event
abbrev pub run_begun_by : Call → Reply → Option ℕ
run_begun_by (answer _ _ (ask.CltuStart first) _) (answered a) = where_started first a.reply
run_begun_by _ _ = None

abbrev pub run_begun : Event → Option ℕ
run_begun e = run_begun_by e.call e.reply

-- whether no run begins with these events, so that they are of the run before them
abbrev pub are_of_one_run : List Event → Bool
are_of_one_run events = not (list_any (λ e. is_some (run_begun e)) events)

-- the CLTUs that were accepted, in order
abbrev pub accepted_by : Call → Reply → Option Cltu
accepted_by (answer _ _ (ask.CltuTransfer cltu) _) (answered a) = where_taken cltu a.reply
accepted_by _ _ = None

abbrev pub accepted_cltus : List Event → List Cltu
accepted_cltus events = filter_map (λ e. accepted_by e.call e.reply) events

-- the radiations, in order, each at the moment of its take
abbrev pub radiation_by : ℕ → Reply → Option Radiation
radiation_by now (took (Radiate run id octets)) =
    Some (record { at = now; run = run; id = id; octets = octets })
radiation_by now _ = None

abbrev pub radiations : List Event → List Radiation
radiations events = filter_map (λ e. radiation_by e.moment e.reply) events

-- Lawful radiation: of a run's events, the CLTUs accepted have the identifications first, first + 1
-- and so on, and those taken for radiation are the first of them, in order, each once and within
-- its window.
pub record IsLawful (run first : ℕ) (events : List Event) : Type 0 where
  pub numbered : ids_of (accepted_cltus events) ≡ count_up first (length (accepted_cltus events))
  pub in_order : RadiateInOrder run (accepted_cltus events) (radiations events)
