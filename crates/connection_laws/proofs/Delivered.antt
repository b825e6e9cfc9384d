-- What each START on a connection of a script was handed.
use Rattle.std.proofs.Common.{◌≡◌, ℕ, IsTrue, Option, Some, None, List, [], ◌∷◌, ◌++◌, slice_get}
use Rattle.std.proofs.Common.{refl, sym, ap, subst, ◌∙◌, arith}
use Rattle.std.specs.List.{AllByRecursion}
use Rattle.archive_terms.specs.Archive.{Entry}
use Rattle.station_book.specs.History.{replay}
use Rattle.station_config.specs.Validity.{IsSite}
use Rattle.station_config.specs.declared.site.Site.{Site}
use Rattle.drill_text.specs.declared.script_line.ScriptLine.{ScriptLine}
use Rattle.drill_text.specs.declared.script_line.ScriptLine.TheVariants.{Open}
use Rattle.session_core.specs.Lists.{Began}
use Rattle.session_core.specs.Session.{at_first, Round}
use Rattle.session_laws.specs.Deliveries.{SeesPublished}
use Rattle.session_laws.specs.Handing.{EachSendsWhereServed, OnlyStartedSend, StartsHandOver}
use Rattle.station_links.specs.Connected.{Connected, began, draw, opened}
use Rattle.station_links.specs.Run.{BringsPieces, rounds_by}
use Rattle.station_law.specs.Connections.{AreSessions, at_door, life}
use Rattle.station_law.specs.Doors.{opens}
use Rattle.station_law.specs.EntriesFacts.{Grows}
use Rattle.station_law.specs.Lines.{connected, step, step_read}
use Rattle.station_law.specs.Sound.{IsSound}
use Rattle.station_law.specs.Standing.{is_free, there}
use Rattle.station_law.specs.State.{State, start}
use Rattle.connection_laws.specs.Delivered.{AreDelivered, AreHanded, Follows, world_after}
use Rattle.connection_laws.specs.Lossless.{world_behind}
use Rattle.connection_laws.proofs.Archives.{IsStored, grown, prefix_on, read_keeps, sound_behind}
use Rattle.connection_laws.proofs.Archives.{within}
use Rattle.connection_laws.proofs.Doors.{set_there}
use Rattle.connection_laws.proofs.Lives.{history, legal, own_is}

slot_of : {A : Type 0} → (o : Option (Option A)) → IsTrue (is_free o) → o ≡ Some None
slot_of None free = absurd (cc free)
slot_of (Some None) free = refl
slot_of (Some (Some x)) free = absurd (cc free)

-- a connection that is opened at a free door is there
opened_at : (before : State) (c : ℕ) → IsTrue (is_free (slice_get before.doors.connections c))
    → at_door (step before (Open c)).next c ≡ Some (opened c before.clock)
opened_at before c free =
    let first = opened c before.clock in
    let slots = before.doors.connections in
    let slot : slice_get slots c ≡ Some None = slot_of (slice_get slots c) free in
    subst
    (λ (found : Option (Option Connected)).
    at_door (connected before (opens before.doors before.clock c found)).next c ≡ Some first)
    (sym slot) (ap there (set_there slots c None (Some first) slot))

module _ {L : Type 0} (reads : L → Option ScriptLine) (sessions : AreSessions reads)
    (grows : Grows) where
  after_both : (earlier later : List L) (state : State)
      → world_after reads state (earlier ++ later)
      ≡ world_after reads (world_after reads state earlier) later
  after_both [] later state = refl
  after_both (line ∷ earlier) later state =
      after_both earlier later (step_read state (reads line)).next

  site_after : (lines : List L) (state : State)
      → (world_after reads state lines).doors.site ≡ state.doors.site
  site_after [] state = refl
  site_after (line ∷ lines) state =
      site_after lines (step_read state (reads line)).next ∙ (sessions.history state line).site

  new_sound : (site : Site) → IsSound (start site).store
  new_sound site = record { archive = refl; settled = refl }

  module _ (sees : SeesPublished) (hands : StartsHandOver) (only : OnlyStartedSend) where
    -- what was handed in rounds of a session, and where
    record OpenedHands (b : Began) (rounds : List Round) (stored : List Entry) : Type 0 where
      handed : AreHanded b rounds stored
      served : EachSendsWhereServed b rounds

    -- a connection that has just been opened
    opened_hands : (lines : List L) (state : State) (c moment : ℕ)
        → IsSite state.doors.site → at_door state c ≡ Some (opened c moment)
        → IsStored reads sessions grows state → IsSound state.store
        → AllByRecursion BringsPieces (life reads c state lines).deeds
        → OpenedHands (began state.doors.site c moment)
        (rounds_by state.doors.site c (opened c moment) (life reads c state lines).deeds)
        (world_after reads state lines).store.published
    opened_hands lines state c moment valid at stored sound brings =
        let site = state.doors.site in
        let s = at_first c draw moment in
        let b = began site c moment in
        let rounds = rounds_by site c (opened c moment) (life reads c state lines).deeds in
        let h = history reads sessions c state lines in
        let is = sessions.lives state c moment lines at brings in
        record {
          handed = λ archive archived begins.
              hands b rounds archive valid is.right
              (sees site c state.doors.book h is.last s rounds 0 archive
              (legal reads sessions c lines state)
              (own_is reads sessions c lines state ∙ is.events_are) (omega arith)
              (prefix_on (replay state.doors.book h).published
              (world_after reads state lines).store.published archive
              (within reads sessions grows c lines state stored sound) begins))
              archived;
          served = only b rounds is.right;
        }

    -- what is stored stays, behind any lines
    follows : (lines : List L) (state : State) → IsSound state.store
        → Follows state.store.published (world_after reads state lines).store.published
    follows lines state sound = record {
      archive_is = (sound_behind reads sessions grows lines state sound).archive;
      begins = grown reads sessions grows lines state sound;
    }

    module _ (all_stored : (site : Site) (lines : List L)
        → (world_behind reads site lines).doors.book.published
        ≡ (world_behind reads site lines).store.published) where
      -- the world behind the line that opens it
      stored_behind : (site : Site) (earlier others : List L) (line : L) (c : ℕ)
          → reads line ≡ Some (Open c) →
          let next = (step (world_behind reads site earlier) (Open c)).next in
          (world_after reads next others).doors.book.published
          ≡ (world_after reads next others).store.published
      stored_behind site earlier others line c says =
          let before = world_behind reads site earlier in
          let behind =
          subst (λ (w : State). w.doors.book.published ≡ w.store.published)
          (after_both earlier (line ∷ others) (start site))
          (all_stored site (earlier ++ line ∷ others)) in
          subst
          (λ (l : Option ScriptLine).
          (world_after reads (step_read before l).next others).doors.book.published
          ≡ (world_after reads (step_read before l).next others).store.published)
          says behind

      pub are_delivered_by : AreDelivered reads
      are_delivered_by site earlier later line c valid says free brings =
          let before = world_behind reads site earlier in
          let next = (step before (Open c)).next in
          let here : next.doors.site ≡ before.doors.site =
          subst
          (λ (l : Option ScriptLine). (step_read before l).next.doors.site ≡ before.doors.site)
          says (sessions.history before line).site in
          let same : next.doors.site ≡ site = here ∙ site_after earlier (start site) in
          let sound =
          (read_keeps grows before (Some (Open c))
          (sound_behind reads sessions grows earlier (start site) (new_sound site))).sound in
          let all =
          subst
          (λ (own : Site).
          IsSite own → AllByRecursion BringsPieces (life reads c next later).deeds
          → OpenedHands (began own c before.clock)
          (rounds_by own c (opened c before.clock) (life reads c next later).deeds)
          (world_after reads next later).store.published)
          same
          (λ fits brought.
          opened_hands later next c before.clock fits (opened_at before c free)
          (λ others. stored_behind site earlier others line c says) sound brought) in
          record {
            handed = (all valid brings).handed;
            only = (all valid brings).served;
            later = λ more.
                follows more (world_after reads next later)
                (sound_behind reads sessions grows later next sound);
          }

pub are_delivered : {L : Type 0} (reads : L → Option ScriptLine) (sessions : AreSessions reads)
    (grows : Grows)
    → ((site : Site) (lines : List L) → (world_behind reads site lines).doors.book.published
    ≡ (world_behind reads site lines).store.published)
    → SeesPublished → StartsHandOver → OnlyStartedSend → AreDelivered reads
are_delivered reads sessions grows stored sees hands only =
    are_delivered_by reads sessions grows sees hands only stored
