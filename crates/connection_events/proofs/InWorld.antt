-- Each START on a connection of a script is one of the world's.
use Rattle.std.proofs.Common.{◌≡◌, ℕ, ◌==◌, true, false, Option, Some, List, [], ◌∷◌, ◌++◌, ⊎_elim}
use Rattle.std.proofs.Common.{length, slice_get, refl, sym, ap, subst, ◌∙◌, append_assoc, append-nil}
use Rattle.std.proofs.Common.{◌≤◌, arith}
use Rattle.std.proofs.lemmas.Bool.Decides.{nat_tests}
use Rattle.archive_terms.specs.Delivery.{started}
use Rattle.archive_terms.specs.Rounds.{Round as DeliveryRound, Outcome, outcomes}
use Rattle.return_core.specs.Visits.{rounds_of}
use Rattle.station_config.specs.declared.site.Site.{Site}
use Rattle.drill_text.specs.Reading.{reading, AreExact}
use Rattle.drill_text.specs.declared.script_line.ScriptLine.{ScriptLine}
use Rattle.drill_text.specs.declared.script_line.ScriptLine.TheVariants.{Open}
use Rattle.session_core.specs.Lists.{Began, start_of}
use Rattle.session_core.specs.Session.{State as SessionState, Round, AreRounds, after_rounds}
use Rattle.session_laws.specs.Deliveries.{is_serving, visits_of}
use Rattle.session_laws.specs.Handing.{Start as SessionStart, IsStart, begun_by}
use Rattle.station_world.specs.Comes.{Begins}
use Rattle.station_world.specs.Life.{Start, Life, book}
use Rattle.station_world.specs.World.{World, lives}
use Rattle.line_events.specs.Progress.{is_at, IsUsers, ProgressIsOfItsDoor}
use Rattle.line_events.specs.Shows.{is_users}
use Rattle.session_events.specs.Rounds.{RoundsMayCome}
use Rattle.session_events.specs.Starts.{starts_over, ServesThese, IsIt, StartsAreThere}
use Rattle.session_events.proofs.Kept.{one_at, it_stays, rounds_both, serves_last}
use Rattle.station_links.specs.Connected.{began, opened}
use Rattle.station_links.specs.Run.{rounds_by}
use Rattle.station_law.specs.Connections.{AreSessions, life}
use Rattle.station_law.specs.Lines.{step, step_read}
use Rattle.station_law.specs.Runs.{after}
use Rattle.station_law.specs.State.{State, start as new_world}
use Rattle.script_world.specs.Script.{answers, users_after, world_behind, IsInWorld, AreInWorld}
use Rattle.script_world.specs.Users.{users_behind}
use Rattle.connection_events.specs.InWorld.{IsStartOf, state_behind, StartsAreInWorld}
use Rattle.connection_events.proofs.Doors.{opened_at}
use Rattle.connection_events.proofs.Lines.{its, reaches}
use Rattle.connection_events.proofs.Serving.{serves}
use Rattle.connection_events.proofs.Staying.{Breaks, lasts}
use Rattle.connection_events.proofs.Past.{life_stays}
use Rattle.connection_events.proofs.Lists.{Stands, filtered, last_there, first_done}

-- no line names the desk's door
not_desk : (c : ℕ) → 1 ≤ c → (c == 0) ≡ false
not_desk c some = grind (arith, nat_tests, some)

pub names_users : AreExact → (line : List ℕ) (c : ℕ) → reading line ≡ Some (Open c) → IsUsers c
names_users exact line c is =
    not_desk c (((exact.read line (Open c)).0 is).0.0)

-- a START behind which no round follows those that it serves is served at the end
serves_whole : (b : Began) (rounds : List Round) (a : SessionStart)
    → IsStart b rounds a → a.later ≡ []
    → is_serving (after_rounds b.site (start_of b) rounds).standing ≡ true
serves_whole b rounds a is none =
    let site = b.site in
    let t = begun_by b a in
    let same : after_rounds site (start_of b) rounds ≡ after_rounds site t a.serving =
    ap (λ (rs : List Round). after_rounds site (start_of b) rs) is.stands
    ∙ rounds_both site a.earlier (a.own ∷ (a.serving ++ a.later)) (start_of b)
    ∙ ap (λ (rs : List Round). after_rounds site t (a.serving ++ rs)) none
    ∙ ap (λ (rs : List Round). after_rounds site t rs) (append-nil a.serving) in
    ap (λ (s : SessionState). is_serving s.standing) same ∙ serves_last site t a.serving is.serves

module _ {L : Type 0} (reads : L → Option ScriptLine) where
  -- ---- a START that a world shows, where no line follows, or one that recovers

  module _ (site : Site) (first more : List L) (is : IsInWorld reads site first more)
      (breaks : Breaks reads (after (answers reads) (new_world site) first) more) where
    abbrev now : World
    now = world_behind reads site first

    abbrev its_life : Life
    its_life = is.shows.life

    life_there : slice_get (lives now) (length is.shows.past) ≡ Some its_life
    life_there =
        ap (λ (w : World). slice_get (lives w) (length is.shows.past)) is.shows.is
        ∙ last_there is.shows.past its_life

    module _ (b : Began) (a : SessionStart) (s : Start)
        (one : IsIt b a s)
        (stands : Stands (users_after reads (new_world site) [] first) s) where
      in_life : Stands its_life.starts s
      in_life =
          filtered is_users its_life.starts stands.0 s
          (subst (λ (all : List Start). slice_get all stands.0 ≡ Some s) (sym is.shows.users_are)
          stands.1)

      abbrev visits : List DeliveryRound
      visits = rounds_of (visits_of b.site (begun_by b a) a.serving)

      abbrev Done : List DeliveryRound → List Outcome
      Done rounds = outcomes s.terms (book its_life).published rounds started

      pub is_start : IsStartOf b a (world_behind reads site (first ++ more))
      is_start = record {
        place = length is.shows.past;
        life = its_life;
        lives = life_stays reads site first more breaks (length is.shows.past) its_life life_there;
        number = in_life.0;
        start = s;
        there = in_life.1;
        kind = one.kind;
        door = one.door;
        told = one.told;
        asked = one.asked;
        asks = one.asks;
        shape = one.shape;
        done = subst (λ (rs : List DeliveryRound). Begins (Done visits) (Done rs))
            (sym one.rounds.1)
            (first_done s.terms (book its_life).published visits one.rounds.0 started);
        exact = λ these. ap Done (one.all these);
      }

  -- ---- lines

  users_both : (earlier others : List L) (state : State) (all : List Start)
      → users_after reads state all (earlier ++ others)
      ≡ users_after reads (after (answers reads) state earlier)
      (users_after reads state all earlier) others
  users_both [] others state all = refl
  users_both (line ∷ earlier) others state all =
      users_both earlier others (answers reads state line).next (users_behind state (reads line) all)

  after_both : (earlier others : List L) (state : State)
      → after (answers reads) state (earlier ++ others)
      ≡ after (answers reads) (after (answers reads) state earlier) others
  after_both [] others state = refl
  after_both (line ∷ earlier) others state =
      after_both earlier others (answers reads state line).next

  site_after : AreSessions reads → (lines : List L) (state : State)
      → (after (answers reads) state lines).doors.site ≡ state.doors.site
  site_after sessions [] state = refl
  site_after sessions (line ∷ lines) state =
      site_after sessions lines (answers reads state line).next
      ∙ (sessions.history state line).site

  module _ (sessions : AreSessions reads) (owns : ProgressIsOfItsDoor) (may : RoundsMayCome)
      (are_there : StartsAreThere) (world : AreInWorld reads)
      (names : (line : L) (c : ℕ) → reads line ≡ Some (Open c) → IsUsers c) where
    pub in_world : StartsAreInWorld reads
    in_world site earlier later line c valid says free brings a is =
        let before = state_behind reads site earlier in
        let opening = (step before (Open c)).next in
        let fresh = opened c before.clock in
        let deeds = (life reads c opening later).deeds in
        let b = began site c before.clock in
        let rounds = rounds_by site c fresh deeds in
        let users = names line c says in
        let had = users_after reads (new_world site) [] earlier in
        let left = users_behind before (Some (Open c)) had in
        let at = opened_at before c free in
        let here : opening.doors.site ≡ before.doors.site =
        subst
        (λ (x : Option ScriptLine). (step_read before x).next.doors.site ≡ before.doors.site) says
        (sessions.history before line).site in
        let same : opening.doors.site ≡ site = here ∙ site_after sessions earlier (new_world site) in
        let right : AreRounds site (start_of b) rounds =
        subst (λ (x : Site). AreRounds x (start_of b) (rounds_by x c fresh deeds)) same
        (sessions.lives opening c before.clock later at brings).right in
        let left_so = are_there b rounds (its reads sessions owns may c users left) valid right a is in
        let has = left_so.has in
        let reached = reaches reads sessions owns may c users later opening fresh left at in
        let lines = earlier ++ line ∷ reached.first in
        let all = users_after reads (new_world site) [] lines in
        let last = after (answers reads) (new_world site) lines in
        let split : all ≡ users_after reads opening left reached.first =
        users_both earlier (line ∷ reached.first) (new_world site) []
        ∙ ap (λ (x : Option ScriptLine).
        users_after reads (step_read before x).next (users_behind before x had) reached.first) says in
        let last_is : last ≡ after (answers reads) opening reached.first =
        after_both earlier (line ∷ reached.first) (new_world site)
        ∙ ap (λ (x : Option ScriptLine). after (answers reads) (step_read before x).next reached.first)
        says in
        let made : its reads sessions owns may c users all
        ≡ starts_over c site (start_of b) rounds (its reads sessions owns may c users left) =
        ap (λ (xs : List Start). its reads sessions owns may c users xs) split
        ∙ subst
        (λ (x : Site). its reads sessions owns may c users
        (users_after reads opening left reached.first)
        ≡ starts_over c x (start_of b) (rounds_by x c fresh deeds)
        (its reads sessions owns may c users left)) same reached.makes in
        let stands : Stands all has.start =
        filtered (is_at c) all has.place has.start
        (subst (λ (xs : List Start). slice_get xs has.place ≡ Some has.start) (sym made) has.there) in
        let ends : a.later ≡ [] → Breaks reads last reached.more =
        λ none. subst (λ (x : State). Breaks reads x reached.more) (sym last_is)
        (reached.rests (subst (λ (x : Site). serves c x (Some fresh) deeds ≡ true) (sym same)
        (serves_whole b rounds a is none))) in
        let lasting = lasts reads reached.more last has.start all stands.0 stands.1 in
        let whole : (lines ++ lasting.first) ++ lasting.more ≡ earlier ++ line ∷ later =
        append_assoc lines lasting.first lasting.more
        ∙ ap (λ (xs : List L). lines ++ xs) (sym lasting.is)
        ∙ append_assoc earlier (line ∷ reached.first) reached.more
        ∙ ap (λ (xs : List L). earlier ++ line ∷ xs) (sym reached.is) in
        let users_then : users_after reads (new_world site) [] (lines ++ lasting.first)
        ≡ users_after reads last all lasting.first =
        users_both lines lasting.first (new_world site) [] in
        let now = lasting.still.stays in
        let kept : ServesThese b a
        → slice_get (users_after reads last all lasting.first) stands.0 ≡ Some has.start =
        λ these. ⊎_elim (λ none. lasting.at_once (ends none)) (λ ended. lasting.still.leaves ended)
        (left_so.over these) in
        let one = it_stays b a has.start (users_after reads last all lasting.first) stands.0
        has.is now (λ these. ap (λ (x : Start). x.rounds)
        (one_at (slice_get (users_after reads last all lasting.first) stands.0) now.start has.start
        now.there (kept these))) in
        subst (λ (xs : List L). IsStartOf b a (world_behind reads site xs)) whole
        (is_start site (lines ++ lasting.first) lasting.more
        (world site (lines ++ lasting.first) lasting.more)
        (subst (λ (x : State). Breaks reads x lasting.more)
        (sym (after_both lines lasting.first (new_world site))) lasting.breaks)
        b a now.start one
        (subst (λ (xs : List Start). Stands xs now.start) (sym users_then) (stands.0, now.there)))
