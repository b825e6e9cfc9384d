-- What is promised of each connection of a script, from the laws on connections.
use Rattle.std.proofs.Common.{◌≡◌, ℕ, zero, suc, IsTrue, Option, Some, None, List, [], ◌∷◌}
use Rattle.std.proofs.Common.{slice_get, set, take, refl, sym, ap, subst, ◌∙◌}
use Rattle.session_core.specs.Session.{at_first, session_end}
use Rattle.station_links.specs.Connected.{Connected, draw, opened}
use Rattle.station_links.specs.LinkLines.{end_of}
use Rattle.station_law.specs.Connections.{at_door, IsOfSession}
use Rattle.station_law.specs.Doors.{opens}
use Rattle.station_law.specs.Lines.{connected, step_text}
use Rattle.station_law.specs.Runs.{after}
use Rattle.station_law.specs.Standing.{there, is_free}
use Rattle.station_law.specs.State.{State, start as new_world}
use Rattle.script_commands.specs.Connection.{Connection, IsConnectionOf, IsSessionOf, IsSentBy}
use Rattle.script_commands.specs.Connection.{octets_sent, rounds_of}
use Rattle.script_commands.specs.Connection.{IsLosslessOf, IsDeliveredTo, AreOfWorld, HasHistory}
use Rattle.script_commands.specs.Connection.{world_before}
use Rattle.script_commands.specs.Connection.{world_behind}
use Rattle.script_commands.specs.Connection.{life_of}
use Rattle.script_commands.specs.Laws.{Laws}
use Rattle.script_commands.proofs.OneForward.{one_forward, valid_site}
use Rattle.script_commands.proofs.SentLines.{sent_in_session}

set_there : {A : Type 0} → (xs : List A) (c : ℕ) (x y : A) → slice_get xs c ≡ Some x
    → slice_get (set xs c y) c ≡ Some y
set_there [] c x y is = absurd cc
set_there (z ∷ xs) zero x y is = refl
set_there (z ∷ xs) (suc c) x y is = set_there xs c x y is

slot_of : {A : Type 0} → (o : Option (Option A)) → IsTrue (is_free o) → o ≡ Some None
slot_of None free = absurd cc
slot_of (Some None) free = refl
slot_of (Some (Some x)) free = absurd cc

-- no line changes the site
site_after : Laws → (lines : List (List ℕ)) (state : State)
    → (after step_text state lines).doors.site ≡ state.doors.site
site_after laws [] state = refl
site_after laws (line ∷ lines) state =
    site_after laws lines (step_text state line).next
    ∙ (laws.connections.history state line).site

module _ (laws : Laws) (script : List ℕ) (o : Connection) (is : IsConnectionOf script o) where
  -- behind its line it has just been opened
  just_opened : at_door (world_behind o) o.c ≡ Some (opened o.c (world_before o).clock)
  just_opened =
      let before = world_before o in
      let first = opened o.c before.clock in
      let slots = before.doors.connections in
      let slot : slice_get slots o.c ≡ Some None = slot_of (slice_get slots o.c) is.free in
      subst (λ (found : Option (Option Connected)).
      at_door (connected before (opens before.doors before.clock o.c found)).next o.c
      ≡ Some first) (sym slot)
      (ap there (set_there slots o.c None (Some first) slot))

  site_is : (world_behind o).doors.site ≡ o.site
  site_is =
      let stays : (world_behind o).doors.site ≡ (world_before o).doors.site =
      rw is.says at ((laws.connections.history (world_before o) is.line).site) in
      stays ∙ site_after laws o.earlier (new_world o.site)

  pub is_session : IsSessionOf o
  is_session = λ some.
      subst (λ site. IsOfSession site o.c (world_before o).clock (life_of o some)) site_is
      (laws.connections.lives (world_behind o) o.c (world_before o).clock (take some o.later)
      just_opened) (laws.pieces o.c (take some o.later) (world_behind o))

  pub is_sent : IsSentBy o
  is_sent = λ some.
      let first = at_first o.c draw (world_before o).clock in
      ap octets_sent (is_session some).said_is
      ∙ sent_in_session o.site first (rounds_of o some)
      (end_of (session_end o.site first (rounds_of o some)))

  pub is_lossless : IsLosslessOf o
  is_lossless = λ some. laws.lossless o.site o.earlier (take some o.later) o.c
      (one_forward script o.site _ is.stands) is.free
      (laws.pieces o.c (take some o.later) (world_behind o))

  pub is_delivered : IsDeliveredTo o
  is_delivered = λ some. laws.deliveries o.site o.earlier (take some o.later) is.line o.c
      (valid_site script o.site _ is.stands) is.says is.free
      (laws.pieces o.c (take some o.later) (world_behind o))

  pub of_world : AreOfWorld o
  of_world = λ some line says. laws.in_world o.site o.earlier (take some o.later) line o.c
      (valid_site script o.site _ is.stands) says is.free
      (laws.pieces o.c (take some o.later) (world_behind o))

pub has_history : Laws → (script : List ℕ) → HasHistory script
has_history laws script = λ site earlier later line _.
    laws.connections.history (after step_text (new_world site) earlier) line
