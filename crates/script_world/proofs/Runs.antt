-- A script's events, from the events of its lines.
use Rattle.std.proofs.Common.{◌≡◌, ◌++◌, Option, Some, None, List, [], ◌∷◌, refl, sym, ap, subst, ◌∙◌}
use Rattle.std.proofs.Common.{append_assoc, append-nil, inl}
use Rattle.archive_terms.specs.Archive.{IsArchive}
use Rattle.station_book.specs.State.{Opening}
use Rattle.station_config.specs.declared.site.Site.{Site}
use Rattle.drill_text.specs.declared.script_line.ScriptLine.{ScriptLine}
use Rattle.station_world.specs.Life.{Start}
use Rattle.station_world.specs.World.{World, before_all, Event, after_events}
use Rattle.station_world.specs.Comes.{AllCome}
use Rattle.station_world.specs.Headline.{Headline, HeadlineLaw}
use Rattle.station_world.specs.Stays.{LivesGoOn, AtEachMoment}
use Rattle.line_events.specs.Shows.{View, Shows}
use Rattle.line_events.specs.Forms.{first_events, LeadTo, LinesAreEvents}
use Rattle.station_law.specs.State.{State, start}
use Rattle.script_store.specs.Said.{Handed, handed_by}
use Rattle.station_law.specs.Lines.{step_read}
use Rattle.station_law.specs.Connections.{AreSessions}
use Rattle.station_law.specs.Runs.{after, handed_after}
use Rattle.session_events.specs.Rounds.{RoundsMayCome}
use Rattle.script_world.specs.Events.{origin, events_read}
use Rattle.script_world.specs.Script.{view_of, answers, events_from, script_events}
use Rattle.script_world.specs.Script.{users_after, IsInWorld}
use Rattle.script_world.specs.Users.{users_behind}
use Rattle.station_world.proofs.Moments.{after_both, come_both}
use Rattle.script_world.proofs.Leading.{lead_both}
use Rattle.script_world.proofs.Lines.{HandsOver, read_leads}
use Rattle.script_world.proofs.Radiated.{sent_behind}

-- no line changes the site
abbrev pub SiteStays : Type 0
SiteStays = (state : State) (line : Option ScriptLine)
    → (step_read state line).next.doors.site ≡ state.doors.site

pub site_stays : AreSessions (λ (line : ScriptLine). Some line) → SiteStays
site_stays sessions state None = refl
site_stays sessions state (Some line) = (sessions.history state line).site

-- what holds at each moment of all events
abbrev OfEach : (World → World → Type 0) → Type 0
OfEach holds = (w : World) (events : List Event) → AtEachMoment holds w events

module _ (law : LinesAreEvents) (may : RoundsMayCome) (hands : HandsOver) (headline : HeadlineLaw)
    (site : Site) where
  abbrev o : Opening
  o = origin site

  -- a world behind events that may come
  record Reached (w : World) : Type 0 where
    so_far : List Event
    come : AllCome before_all so_far
    is : after_events before_all so_far ≡ w

  reached_on : (w : World) (events : List Event) → Reached w → AllCome w events
      → Reached (after_events w events)
  reached_on w events reached come = record {
    so_far = reached.so_far ++ events;
    come = come_both before_all reached.so_far events reached.come
        (subst (λ (x : World). AllCome x events) (sym reached.is) come);
    is = after_both before_all reached.so_far events
        ∙ ap (λ (x : World). after_events x events) reached.is;
  }

  -- what it shows as published is an archive
  archive_of : (v : View) (w : World) → Reached w → Shows v w → IsArchive v.published
  archive_of v w reached shows =
      let come : AllCome before_all (reached.so_far ++ []) =
      subst (AllCome before_all) (sym (append-nil reached.so_far)) reached.come in
      let here : World = after_events before_all reached.so_far in
      let whole : IsArchive (here.file.found ++ here.file.kept) =
      ((headline reached.so_far [] come).recovery (here.file.found ++ here.file.kept)
      (inl refl)).archive in
      subst IsArchive (ap (λ (x : World). x.file.found ++ x.file.kept) (reached.is ∙ shows.is)
      ∙ shows.acknowledges) whole

  -- each line goes on
  goes : (state : State) (starts : List Handed) (users : List Start) (w : World)
      (line : Option ScriptLine) → state.doors.site ≡ site → Reached w
      → Shows (view_of state starts users) w
      → LeadTo w (events_read state w line)
      (view_of (step_read state line).next (handed_by starts (step_read state line).said)
      (users_behind state line users))
  goes state starts users w line is reached shows =
      subst (λ (s : Site). LeadTo w (events_read state w line)
      (view_of (step_read state line).next (handed_by starts (step_read state line).said)
      (users_behind state line users))) is
      (read_leads law may hands state starts users w shows
      (archive_of (view_of state starts users) w reached shows) line)

  module _ (sites : SiteStays) {L : Type 0} (reads : L → Option ScriptLine) where
    lines_lead : (state : State) (starts : List Handed) (users : List Start) (w : World)
        (lines : List L) → state.doors.site ≡ site → Reached w
        → Shows (view_of state starts users) w
        → LeadTo w (events_from reads state w lines)
        (view_of (after (answers reads) state lines)
        (handed_after (answers reads) state starts lines) (users_after reads state users lines))
    lines_lead state starts users w [] is reached shows = (tt, shows)
    lines_lead state starts users w (line ∷ lines) is reached shows =
        let events : List Event = events_read state w (reads line) in
        let one = goes state starts users w (reads line) is reached shows in
        let next = answers reads state line in
        let later : World = after_events w events in
        lead_both w events (events_from reads next.next later lines) _ _ one
        (lines_lead next.next (handed_by starts next.said)
        (users_behind state (reads line) users) later lines
        (sites state (reads line) ∙ is) (reached_on w events reached one.0) one.1)

    -- the events of some lines, and of those behind them
    split : (state : State) (w : World) (lines more : List L)
        → events_from reads state w (lines ++ more)
        ≡ events_from reads state w lines
        ++ events_from reads (after (answers reads) state lines)
        (after_events w (events_from reads state w lines)) more
    split state w [] more = refl
    split state w (line ∷ lines) more =
        let events : List Event = events_read state w (reads line) in
        let next : State = (answers reads state line).next in
        let later : World = after_events w events in
        let rest : List Event = events_from reads next later lines in
        let last : World → List Event = λ x.
        events_from reads (after (answers reads) next lines) x more in
        ap (λ (es : List Event). events ++ es) (split next later lines more)
        ∙ sym (append_assoc events rest (last (after_events later rest)))
        ∙ ap (λ (x : World). (events ++ rest) ++ last x) (sym (after_both w events rest))

    abbrev first : World
    first = after_events before_all (first_events o)

    script_leads : (lines : List L)
        → LeadTo before_all (script_events reads site lines)
        (view_of (after (answers reads) (start site) lines)
        (handed_after (answers reads) (start site) [] lines) (users_after reads (start site) [] lines))
    script_leads lines =
        let begun = law.begins o in
        lead_both before_all (first_events o) (events_from reads (start site) first lines) _ _ begun
        (lines_lead (start site) [] [] first lines refl
        (record { so_far = first_events o; come = begun.0; is = refl }) begun.1)

    script_splits : (lines more : List L)
        → script_events reads site (lines ++ more)
        ≡ script_events reads site lines
        ++ events_from reads (after (answers reads) (start site) lines)
        (after_events first (events_from reads (start site) first lines)) more
    script_splits lines more =
        ap (λ (es : List Event). first_events o ++ es) (split (start site) first lines more)
        ∙ sym (append_assoc (first_events o) (events_from reads (start site) first lines)
        (events_from reads (after (answers reads) (start site) lines)
        (after_events first (events_from reads (start site) first lines)) more))

    pub in_world : OfEach Headline → OfEach LivesGoOn → (lines more : List L)
        → IsInWorld reads site lines more
    in_world headlines stays lines more =
        let rest : List Event = events_from reads (after (answers reads) (start site) lines)
        (after_events first (events_from reads (start site) first lines)) more in
        record {
          come = (script_leads (lines ++ more)).0;
          begins = (rest, script_splits lines more);
          shows = (script_leads lines).1;
          radiated = sym (sent_behind reads lines (start site))
              ∙ ap (λ (x : World). x.antenna) (sym (script_leads lines).1.is);
          headline = headlines before_all (script_events reads site (lines ++ more));
          stays = stays before_all (script_events reads site (lines ++ more));
        }
