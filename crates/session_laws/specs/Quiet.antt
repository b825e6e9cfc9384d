-- A session that stays active: its peer says nothing but heartbeats, its link is open and takes each
-- offer whole, and the dead timer doesn't run out.
use Rattle.std.specs.Prelude.{◌≡◌, Bool, true, false, not, ◌&&◌, Option, Some, None, Ok, List, [], ◌∷◌}
use Rattle.std.specs.Prelude.{IsTrue}
use Rattle.isp1_tml.specs.Message.{heartbeat}
use Rattle.link_model.specs.declared.call.Heard.{Heard}
use Rattle.link_model.specs.declared.call.Heard.TheVariants as heard
use Rattle.station_config.specs.declared.site.Site.{Site}
use Rattle.session_core.specs.declared.standing.Standing.{Standing}
use Rattle.session_core.specs.Handling.{is_lost}
use Rattle.session_services.specs.Inquiry.{reply_in}
use Rattle.session_core.specs.Steps.{Next, at_moment, pulse_of, is_dead}
use Rattle.session_core.specs.Session.{State, Round, BookAnswer, next_of, before_step, after_round}
use Rattle.session_laws.specs.Deliveries.{is_serving, ServesOn}
use Rattle.session_laws.specs.Owing.{takes_each, all_take_each}

-- the link is open
abbrev pub is_open : Option Heard → Bool
is_open (Some heard.Closed) = false
is_open (Some heard.Failed) = false
is_open _ = true

-- the peer says nothing, or a heartbeat
abbrev pub is_quiet_next : Next → Bool
is_quiet_next (Ok None) = true
is_quiet_next (Ok (Some heartbeat)) = true
is_quiet_next _ = false

-- at the moment that the book told the dead timer hasn't run out, and the book doesn't call the
-- session's instance lost, as it never does in a legal history
abbrev pub is_well_told : Standing → Option BookAnswer → Bool
is_well_told s None = true
is_well_told s (Some told) =
    not (is_dead (pulse_of (at_moment s told.moment)) told.moment)
    && not (is_lost (reply_in told.answer).reply)

abbrev pub is_quiet : State → Round → Bool
is_quiet s r =
    let t = before_step s r in
    is_open r.heard && (takes_each r && (is_quiet_next (next_of t) && is_well_told t.standing r.told))

abbrev pub AreQuiet : Site → State → List Round → Type 0
AreQuiet site s [] = Unit {0}
AreQuiet site s (r ∷ rounds) = IsTrue (is_quiet s r) × AreQuiet site (after_round site s r) rounds

-- In quiet rounds a session that serves goes on serving.
pub record ServesOnQuietly (site : Site) (s : State) (rounds : List Round) : Type 0 where
  pub serves : ServesOn site s rounds
  pub takes : IsTrue (all_take_each rounds)

abbrev pub QuietServesOn : Type 0
QuietServesOn =
    (site : Site) (s : State) (rounds : List Round) → is_serving s.standing ≡ true
    → AreQuiet site s rounds → ServesOnQuietly site s rounds
