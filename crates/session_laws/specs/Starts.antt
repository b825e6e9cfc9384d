-- The round of a session with a START that is answered positively begins a delivery.
use Rattle.std.specs.Prelude.{◌≡◌, ℕ, ◌<◌, ◌≤◌, true, false, Option, Some, None, option_and_then}
use Rattle.std.specs.Prelude.{List, [], ◌∷◌, length}
use Rattle.cds_time.specs.declared.cds.Cds.{Cds}
use Rattle.cds_time.specs.Moment.{moment_of}
use Rattle.archive_terms.specs.Archive.{Entry, IsArchive}
use Rattle.archive_terms.specs.Selection.{Filter, Selection}
use Rattle.archive_terms.specs.Delivery.{Mode, Terms, selection_of}
use Rattle.frame_select.specs.Selection.{filter_of}
use Rattle.isp1_tml.specs.Message.{Content}
use Rattle.return_core.specs.Course.{Course, run_of}
use Rattle.return_core.specs.Standing.{StandsFor}
use Rattle.return_service.specs.Serving.{Serving}
use Rattle.station_config.specs.declared.site.Site.{Site}
use Rattle.session_core.specs.Laws.{round_messages}
use Rattle.session_core.specs.Message.{UserContent, invocation}
use Rattle.session_services.specs.Service.{Invocation, return_starts}
use Rattle.session_core.specs.Session.{State, Round, BookAnswer, IsRound, before_step, after_round}
use Rattle.session_core.specs.ServiceSteps.{is_active}
use Rattle.session_core.specs.Steps.{said_to}
use Rattle.session_laws.specs.Deliveries.{return_of, is_serving, Delivers}

-- ---- what a START asks for

-- which frames, and its start and stop time where it gives them
pub record Wanted : Type 0 where
  pub filter : Filter
  pub start : Option Cds
  pub stop : Option Cds

-- an instance of RAF is asked for frames of a quality, and one of RCF for those of a channel
abbrev pub wanted_by : Invocation → Option Wanted
wanted_by (return_starts s) = Some (record {
  filter = filter_of s.asks.filter;
  start = s.asks.start;
  stop = s.asks.stop;
})
wanted_by _ = None

abbrev pub wanted_in : UserContent → Option Wanted
wanted_in (invocation i) = wanted_by i
wanted_in _ = None

-- what that selects, in a round whose look has this front
abbrev pub selected : Mode → Wanted → ℕ → Selection
selected mode w front =
    selection_of mode w.filter (option_and_then moment_of w.start)
    (option_and_then moment_of w.stop) front

-- The one message that a round handled is a START, and these terms select what it asks for.
pub record Asks (site : Site) (s : State) (r : Round) (front : ℕ) (t : Terms) : Type 0 where
  pub message : Content
  pub handled : round_messages s r ≡ message ∷ []
  pub wanted : Wanted
  pub says : wanted_in (said_to site (before_step s r).standing message) ≡ Some wanted
  pub selects : t.selection ≡ selected t.mode wanted front

-- ---- its delivery

-- a delivery of an instance that was this one begins, with the selection of the round's START, from
-- a place on that the round's look saw
pub record BeginsDelivery (site : Site) (s : State) (r : Round) (own : Serving) : Type 0 where
  pub told : BookAnswer
  pub asked : r.told ≡ Some told
  pub terms : Terms
  pub mode : terms.mode ≡ own.course.mode
  pub size : terms.size ≡ own.course.size
  pub latency : terms.latency ≡ own.course.latency
  pub first : terms.selection.first ≤ told.answer.glimpse.front
  pub asks : Asks site s r told.answer.glimpse.front terms
  pub delivers : Delivers (after_round site s r).standing
      (record own.course { run = Some (run_of terms) })
  pub kind : delivers.kind ≡ own.kind

-- Where a session whose service isn't started, and that has nothing to offer, is started behind a
-- round, its delivery begins: it has handed over nothing, and the terms have its mode, its size and
-- its latency limit, and select what the START of this round asks for.
abbrev pub StartsBegin : Type 0
StartsBegin =
    (site : Site) (s : State) (r : Round) (own : Serving) → IsRound site s r
    → is_active s.standing.association ≡ false → s.standing.outgoing ≡ []
    → return_of s.standing.service ≡ Some own → is_serving (after_round site s r).standing ≡ true
    → BeginsDelivery site s r own

-- A delivery that begins stands for no rounds, over each archive that has its first place.
abbrev pub BegunStands : Type 0
BegunStands =
    (c : Course) (t : Terms) (entries : List Entry) → c.run ≡ Some (run_of t) → 0 < t.size
    → IsArchive entries → t.selection.first ≤ length entries → StandsFor c t entries []
