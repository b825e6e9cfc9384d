-- What rounds of connections make of the STARTs of a door.
use Rattle.std.proofs.Common.{◌≡◌, ℕ, zero, suc, ◌==◌, Bool, true, false, if◌then◌else◌, is_some}
use Rattle.std.proofs.Common.{Option, Some, None, List, [], ◌++◌, length, slice_get, refl, sym, ap}
use Rattle.std.proofs.Common.{◌∙◌, ⊎_elim}
use Rattle.std.proofs.lemmas.Bool.Decides.{eqb_tells}
use Rattle.std.specs.List.{filter}
use Rattle.station_config.specs.declared.site.Site.{Site}
use Rattle.station_book.specs.State as books
use Rattle.station_book.specs.History.{replay}
use Rattle.drill_text.specs.declared.end_word.EndWord.{EndWord}
use Rattle.session_core.specs.Session.{State as SessionState, Round}
use Rattle.station_world.specs.Life.{Start}
use Rattle.line_events.specs.Progress.{Progress, none_runs, taken_now, goes_by, ended_now, is_at}
use Rattle.line_events.specs.Progress.{progressed, IsFit, IsUsers, IsOf, ProgressIsOfItsDoor}
use Rattle.session_events.specs.Rounds.{front_in, SawFront, progress_of, progress_in, RoundsMayCome}
use Rattle.session_events.specs.Starts.{starts_over}
use Rattle.station_links.specs.Connected.{Connected}
use Rattle.station_links.specs.Rounds.{round_at, round_of, end_after, stands_after, left_by}
use Rattle.station_links.specs.Run.{Order, Deed, rounds_by}
use Rattle.station_law.specs.Connections.{at_door, turns_of, orders_in, deeds_by}
use Rattle.station_law.specs.Doors.{Act, ordered, rounds_of}
use Rattle.station_law.specs.State.{State}
use Rattle.script_world.specs.Seen.{sees_published}
use Rattle.script_world.specs.Users.{users_rounds, users_acted, users_act}
use Rattle.connection_events.proofs.Doors.{slot_of, left_of}

of_fit : (door front : ℕ) (p : Progress) → IsFit door front p → IsOf door p
of_fit door front none_runs fits = tt
of_fit door front (taken_now a) fits = fits.0
of_fit door front (goes_by r) fits = tt
of_fit door front ended_now fits = tt

module _ (owns : ProgressIsOfItsDoor) (may : RoundsMayCome) (c : ℕ) (users : IsUsers c) where
  abbrev pub own : List Start → List Start
  own all = filter (is_at c) all

  -- ---- a round

  its_round : (site : Site) (s : SessionState) (r : Round) (front : ℕ) (all : List Start)
      → SawFront front r.told
      → own (progressed c front (progress_in c site s r) all)
      ≡ progressed c (front_in r.told) (progress_of c site s r) (own all)
  its_round site s r front all saw =
      let p = progress_of c site s r in
      ap (λ (b : Bool). own (progressed c front (if b then none_runs else p) all)) users
      ∙ owns.own c front p all (of_fit c front p (may.fits c front site s r saw))
      ∙ sym (may.same c front site s r (own all) saw)

  module _ (d : ℕ) (differ : (d == c) ≡ false) where
    by_door : (b : Bool) (front : ℕ) (p : Progress) (all : List Start) → IsOf d p
        → own (progressed d front (if b then none_runs else p) all) ≡ own all
    by_door true front p all of = refl
    by_door false front p all of = owns.others d c front p all of differ

    others_round : (site : Site) (s : SessionState) (r : Round) (front : ℕ) (all : List Start)
        → SawFront front r.told
        → own (progressed d front (progress_in d site s r) all) ≡ own all
    others_round site s r front all saw =
        let p = progress_of d site s r in
        by_door (d == 0) front p all (of_fit d front p (may.fits d front site s r saw))

    -- ---- rounds of another door

    others_rounds : (site : Site) (reading n : ℕ) (b : books.State) (m : Option Connected)
        (all : List Start) → own (users_rounds site d reading n b m all) ≡ own all
    others_rounds site reading zero b m all = refl
    others_rounds site reading (suc n) b None all = refl
    others_rounds site reading (suc n) b (Some m) all =
        let r = round_at site d m b reading in
        let o = round_of site d m b reading in
        let next : List Start =
        progressed d (length b.published) (progress_in d site m.state r) all in
        others_rounds site reading n (replay b o.events) o.next next
        ∙ others_round site m.state r (length b.published) all (sees_published site d reading b m)

  -- ---- its own rounds, and what deeds behind them do of what is left of the connection

  module _ (site : Site) where
    abbrev pub behind : Option Connected → List Deed → List Start → List Start
    behind None rest all = all
    behind (Some m) rest all = starts_over c site m.state (rounds_by site c m rest) all

    abbrev Turned : ℕ → ℕ → books.State → Option Connected → List Deed → List Start → List Start
    Turned reading n b l rest all =
        behind (rounds_of site c reading n b l).left rest (own (users_rounds site c reading n b l all))

    none_turned : (reading n : ℕ) (b : books.State) (rest : List Deed) (all : List Start)
        → Turned reading n b None rest all ≡ own all
    none_turned reading zero b rest all = refl
    none_turned reading (suc n) b rest all = refl

    by_end : (end : Option EndWord) (m : Connected) (reading n : ℕ) (b : books.State)
        (rest : List Deed) (all : List Start)
        → starts_over c site m.state
        (rounds_by site c m (turns_of site c reading n b (Some m) ++ rest)) (own all)
        ≡ Turned reading n b (Some m) rest all
        → starts_over c site m.state
        (if is_some end then []
        else rounds_by site c m (turns_of site c reading n b (left_by end m) ++ rest)) (own all)
        ≡ Turned reading n b (left_by end m) rest all
    by_end None m reading n b rest all so = so
    by_end (Some why) m reading n b rest all so = sym (none_turned reading n b rest all)

    turned : (reading n : ℕ) (b : books.State) (l : Connected) (rest : List Deed)
        (all : List Start)
        → starts_over c site l.state
        (rounds_by site c l (turns_of site c reading n b (Some l) ++ rest)) (own all)
        ≡ Turned reading n b (Some l) rest all
    turned reading zero b l rest all = refl
    turned reading (suc n) b l rest all =
        let r = round_at site c l b reading in
        let o = round_of site c l b reading in
        let end = end_after site l r in
        let m : Connected = stands_after site l r in
        let front : ℕ = length b.published in
        let next : List Start = progressed c front (progress_in c site l.state r) all in
        let later : List Round =
        if is_some end then []
        else rounds_by site c m
        (turns_of site c reading n (replay b o.events) (left_by end m) ++ rest) in
        ap (λ (x : List Start). starts_over c site m.state later x)
        (sym (its_round site l.state r front all (sees_published site c reading b l)))
        ∙ by_end end m reading n (replay b o.events) rest next
        (turned reading n (replay b o.events) m rest next)

    -- what comes or is ordered comes first, and makes nothing of STARTs
    ordered_first : (o : Option Order) (l : Connected) (deeds rest : List Deed) (all : List Start)
        → starts_over c site l.state (rounds_by site c l ((orders_in o ++ deeds) ++ rest)) all
        ≡ starts_over c site (ordered o l).state (rounds_by site c (ordered o l) (deeds ++ rest)) all
    ordered_first None l deeds rest all = refl
    ordered_first (Some o) l deeds rest all = refl

  -- ---- a line

  module _ (state : State) (l : Connected) (at : at_door state c ≡ Some l) where
    abbrev site : Site
    site = state.doors.site

    -- deeds make this of the door's STARTs, and then what follows does
    abbrev Gathers : List Deed → Option Connected → List Deed → List Start → List Start → Type 0
    Gathers deeds left rest all next =
        starts_over c site l.state (rounds_by site c l (deeds ++ rest)) (own all)
        ≡ behind site left rest (own next)

    abbrev ran_of : Act → Option Connected
    ran_of a =
        (rounds_of site c state.clock a.rounds state.doors.book (Some (ordered a.order l))).left

    abbrev its_deeds : Act → List Deed
    its_deeds a = orders_in a.order
        ++ turns_of site c state.clock a.rounds state.doors.book (Some (ordered a.order l))

    here : (a : Act) (rest : List Deed) (all : List Start) → a.c ≡ c → (a.c == c) ≡ true
        → Gathers (deeds_by state.doors state.clock c l (Some a)) (left_of c state l at (Some a)) rest
        all (users_act state (Some a) all)
    here a rest all same is =
        let slots = state.doors.connections in
        let first : Connected = ordered a.order l in
        let slot = ap (λ (n : ℕ). slice_get slots n) same ∙ slot_of (slice_get slots c) l at in
        let made : List Start =
        users_rounds site c state.clock a.rounds state.doors.book (Some first) all in
        let makes : users_act state (Some a) all ≡ made =
        ap (λ (o : Option (Option Connected)). users_acted state a o all) slot
        ∙ ap (λ (n : ℕ). users_rounds site n state.clock a.rounds state.doors.book (Some first) all)
        same in
        ap (λ (b : Bool). starts_over c site l.state
        (rounds_by site c l ((if b then its_deeds a else []) ++ rest)) (own all)) is
        ∙ ordered_first site a.order l
        (turns_of site c state.clock a.rounds state.doors.book (Some first)) rest (own all)
        ∙ turned site state.clock a.rounds state.doors.book first rest all
        ∙ ap (λ (x : List Start). behind site (ran_of a) rest (own x)) (sym makes)
        ∙ sym (ap (λ (b : Bool). behind site (if b then ran_of a else Some l) rest
        (own (users_act state (Some a) all))) is)

    other_slot : (a : Act) (all : List Start) (o : Option (Option Connected)) → (a.c == c) ≡ false
        → own (users_acted state a o all) ≡ own all
    other_slot a all None differ = refl
    other_slot a all (Some None) differ = refl
    other_slot a all (Some (Some m)) differ =
        others_rounds a.c differ site state.clock a.rounds state.doors.book
        (Some (ordered a.order m)) all

    elsewhere : (a : Act) (rest : List Deed) (all : List Start) → (a.c == c) ≡ false
        → Gathers (deeds_by state.doors state.clock c l (Some a)) (left_of c state l at (Some a)) rest
        all (users_act state (Some a) all)
    elsewhere a rest all differ =
        ap (λ (b : Bool). starts_over c site l.state
        (rounds_by site c l ((if b then its_deeds a else []) ++ rest)) (own all)) differ
        ∙ ap (λ (x : List Start). starts_over c site l.state (rounds_by site c l rest) x)
        (sym (other_slot a all (slice_get state.doors.connections a.c) differ))
        ∙ sym (ap (λ (b : Bool). behind site (if b then ran_of a else Some l) rest
        (own (users_act state (Some a) all))) differ)

    pub gathers : (asks : Option Act) (rest : List Deed) (all : List Start)
        → Gathers (deeds_by state.doors state.clock c l asks) (left_of c state l at asks) rest all
        (users_act state asks all)
    gathers None rest all = refl
    gathers (Some a) rest all =
        ⊎_elim (λ same. here a rest all same.1 same.0) (λ other. elsewhere a rest all other.0)
        (eqb_tells a.c c)
