-- The sessions of a door by the calls of its links, as the door shows them. This product's own.
use Rattle.std.specs.Prelude.{◌≡◌, ℕ, Option, IfSome, IsSomeAnd, List, [], ◌∷◌, ◌++◌}
use Rattle.door_model.specs.Shown.{Shown, LinkBack}
use Rattle.station_config.specs.declared.site.Site.{Site}
use Rattle.session_core.specs.Lists.{Began, start_of, state_after, IsPart, part_calls, part_events}
use Rattle.session_core.specs.Session.{session_calls}
use Rattle.session_turns.specs.Serving.{began_at}
use Rattle.run_rounds.specs.Sessions.{Session}

abbrev pub began_of : Site → ℕ → Session → Began
began_of site door a = began_at site door a.draw a.entered

-- The calls of a session's link are those of its rounds, in order, and of the part of a further one
-- that ran out of memory before it asked the book.
pub record HasCalls (site : Site) (door : ℕ) (a : Session) : Type 0 where
  pub part_right : IsPart (state_after (began_of site door a) a.rounds) a.part
  pub unasked : part_events site door (state_after (began_of site door a) a.rounds) a.part ≡ []
  pub calls_are : a.calls ≡ session_calls site (start_of (began_of site door a)) a.rounds
      ++ part_calls (state_after (began_of site door a) a.rounds) a.part

-- links that were given back, one for each session, with the session's calls where they tell any
abbrev pub AreTheirLinks : List Session → List LinkBack → Type 0
AreTheirLinks [] [] = Unit {0}
AreTheirLinks (a ∷ sessions) (link ∷ links) =
    IfSome link.calls (λ told. told ≡ a.calls) × AreTheirLinks sessions links
AreTheirLinks _ _ = ⊥

-- A door that shows has shown before, and since then that just the links of these sessions were
-- given back, in order.
abbrev pub GivesBack : Option Shown → Option Shown → List Session → Type 0
GivesBack before after sessions =
    IfSome after (λ shown. IsSomeAnd before (λ earlier. (links : List LinkBack)
    × (shown.back ≡ earlier.back ++ links) × AreTheirLinks sessions links))

-- each door, as it was and as it became, with its sessions
abbrev pub EachGivesBack : {G : Type 0} → (G → Option Shown) → List G → List G
    → List (List Session) → Type 0
EachGivesBack shown [] [] [] = Unit {0}
EachGivesBack shown (g ∷ gs) (g' ∷ gs') (own ∷ sessions) =
    GivesBack (shown g) (shown g') own × EachGivesBack shown gs gs' sessions
EachGivesBack shown _ _ _ = ⊥
