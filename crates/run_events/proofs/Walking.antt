-- The history of a run, event by event: the turns, each with what its worker did beside it, and
-- where all of that leads.
use Rattle.std.proofs.Common.{◌≡◌, ℕ, Bool, true, false, ◌||◌, not, cond, IsTrue, List, [], ◌∷◌}
use Rattle.std.proofs.Common.{◌++◌, map, filter, refl, sym, ap, subst, ◌∙◌, append_assoc}
use Rattle.std.proofs.Common.{append-nil, eq-eqb}
use Rattle.std.specs.List.{list_all, AllByRecursion}
use Rattle.archive_terms.specs.Archive.{Entry, IsArchive}
use Rattle.recorder.specs.declared.recorded.Recorded.{Recorded}
use Rattle.antenna_turns.specs.Steps.{Step, IsStep, sent_of, sent_in}
use Rattle.recorder_turns.specs.Steps.{stored_by, publishings}
use Rattle.station_book.specs.State.{State, Call, publish, answer, quit, take, done}
use Rattle.station_book.specs.State.{interrupted, uplink, gone, Event as Answered}
use Rattle.station_book.specs.History.{IsLegal, then_after}
use Rattle.station_world.specs.File.{File}
use Rattle.station_world.specs.Life.{Life, book, is_take, called}
use Rattle.station_world.specs.World.{World, Event, calls}
use Rattle.station_world.specs.Calls.{Leads, is_publishing}
use Rattle.run_events.specs.Stores.{Tail, store_events, tail_events}
use Rattle.run_events.specs.Turns.{Turn, events_of_turn, events_of, answered_in, turns_with}
use Rattle.run_events.specs.Turns.{is_recorders, RecordsIn, take_in, sends_in, RadiatesIn, IsAlone}
use Rattle.run_events.specs.Turns.{is_others, is_beside, StandsBeside}
use Rattle.run_events.specs.Laws.{Laws}
use Rattle.run_events.proofs.Leading.{leads_on, at_rest, tail_file, TailFollows, way_leads}
use Rattle.run_events.proofs.Leading.{tail_leads}
use Rattle.run_events.proofs.Calling.{Next, same_published, more_published, going}
use Rattle.run_events.proofs.Calling.{call_leads, step_leads, called_next, publish_leads}
use Rattle.run_events.proofs.Acts.{stores_beside, tail_beside, sends_beside}
use Rattle.run_events.proofs.Recording.{Ahead}

abbrev pub calls_in : List Answered → List Call
calls_in es = map (λ e. e.call) es

pub or_parts : (b c : Bool) → (b || c) ≡ false → (b ≡ false) × (c ≡ false)
or_parts true c is = absurd (cc is)
or_parts false c is = (refl, is)

-- Where the recorder's worker is: its archive has kept these entries since it was opened, and these
-- steps are ahead; or it is gone, and left the file like this.
pub data Mode : Type 0 where
  records : List Entry → List Recorded → Mode
  is_gone : File → Mode

module _ (laws : Laws) (past : List Life) (clock number : ℕ) (found : List Entry)
    (tail : Tail) where
  abbrev pub file_at : Mode → File
  file_at (records kept steps) = at_rest found kept
  file_at (is_gone f) = f

  abbrev pub end_file : Mode → File
  end_file (records kept steps) = tail_file found (kept ++ stored_by steps) tail
  end_file (is_gone f) = f

  abbrev pub calls_ahead : Mode → List Call
  calls_ahead (records kept steps) = publishings steps ++ gone number ∷ []
  calls_ahead (is_gone f) = []

  -- all that is acknowledged is published, and what is ahead may be stored
  abbrev pub Fits : Mode → Life → Type 0
  Fits (records kept steps) l = ((book l).published ≡ found ++ kept) × Ahead (found ++ kept) steps
      × TailFollows (found ++ (kept ++ stored_by steps)) tail
  Fits (is_gone f) l = Unit {0}

  abbrev pub RecorderIn : Mode → List Turn → Type 0
  RecorderIn (records kept steps) turns = RecordsIn number (found ++ kept) steps tail turns
  RecorderIn (is_gone f) turns = turns ≡ []

  abbrev at : Mode → Life → List (List ℕ) → World
  at mode l antenna = going past clock (file_at mode) l antenna

  -- The turns of a history's events, and where they lead.
  pub record Walked (mode : Mode) (steps : List Step) (l : Life) (antenna : List (List ℕ))
      (h : List Answered) : Type 0 where
    pub turns : List Turn
    pub answered : answered_in turns ≡ h
    pub recorder : RecorderIn mode (turns_with (is_recorders number) turns)
    pub radiates : RadiatesIn steps (turns_with is_take turns)
    pub others : AllByRecursion IsAlone (turns_with (is_others number) turns)
    pub beside : AllByRecursion StandsBeside turns
    pub life : Life
    pub history : life.history ≡ l.history ++ h
    pub leads : Leads (at mode l antenna) (events_of turns)
        (going past clock (end_file mode) life (antenna ++ sent_in steps))

  abbrev Walks : List Answered → Type 0
  Walks h =
      (mode : Mode) (steps : List Step) (l : Life) (antenna : List (List ℕ)) → IsLegal (book l) h
      → calls_in (filter (λ e. is_recorders number e.call) h) ≡ calls_ahead mode
      → filter (λ e. is_take e.call) h ≡ map take_in steps → AllByRecursion IsStep steps
      → Fits mode l → Walked mode steps l antenna h

  -- ---- one turn more

  -- An event's turn: by whether it is the recorder's and whether it is a take, its place among
  -- theirs; and where it leads.
  record OneTurn (mode next : Mode) (steps later : List Step) (l m : Life)
      (antenna sent : List (List ℕ)) (e : Answered) (h : List Answered)
      (rest : Walked next later m sent h) : Type 0 where
    before : List Event
    behind : List Event
    of_recorder : Bool
    is_recorder : is_recorders number e.call ≡ of_recorder
    of_antenna : Bool
    is_antenna : is_take e.call ≡ of_antenna
    life_is : Next l e m
    ends : end_file next ≡ end_file mode
    sends : sent ++ sent_in later ≡ antenna ++ sent_in steps
    recorder : let t : Turn = record { before = before; answered = e; behind = behind } in
        let others : List Turn = turns_with (is_recorders number) rest.turns in
        RecorderIn mode (cond of_recorder (t ∷ others) others)
    radiates : let t : Turn = record { before = before; answered = e; behind = behind } in
        let others : List Turn = turns_with is_take rest.turns in
        RadiatesIn steps (cond of_antenna (t ∷ others) others)
    alone : let t : Turn = record { before = before; answered = e; behind = behind } in
        let others : List Turn = turns_with (is_others number) rest.turns in
        AllByRecursion IsAlone (cond (not (of_recorder || of_antenna)) (t ∷ others) others)
    beside : IsTrue (list_all is_beside before) × IsTrue (list_all is_beside behind)
    leads : Leads (at mode l antenna) (before ++ calls e.call ∷ behind) (at next m sent)

  one_more : (mode next : Mode) (steps later : List Step) (l m : Life)
      (antenna sent : List (List ℕ)) (e : Answered) (h : List Answered)
      (rest : Walked next later m sent h)
      → OneTurn mode next steps later l m antenna sent e h rest
      → Walked mode steps l antenna (e ∷ h)
  one_more mode next steps later l m antenna sent e h rest one =
      let t : Turn = record { before = one.before; answered = e; behind = one.behind } in
      let recorders : List Turn = turns_with (is_recorders number) rest.turns in
      let takes : List Turn = turns_with is_take rest.turns in
      let others : List Turn = turns_with (is_others number) rest.turns in
      let kind : (is_recorders number e.call || is_take e.call)
      ≡ (one.of_recorder || one.of_antenna) =
      ap (λ (b : Bool). b || is_take e.call) one.is_recorder
      ∙ ap (λ (b : Bool). one.of_recorder || b) one.is_antenna in record {
        turns = t ∷ rest.turns;
        answered = ap (λ (xs : List Answered). e ∷ xs) rest.answered;
        recorder = subst (λ (b : Bool). RecorderIn mode (cond b (t ∷ recorders) recorders))
            (sym one.is_recorder) one.recorder;
        radiates = subst (λ (b : Bool). RadiatesIn steps (cond b (t ∷ takes) takes))
            (sym one.is_antenna) one.radiates;
        others = subst (λ (b : Bool). AllByRecursion IsAlone (cond (not b) (t ∷ others) others))
            (sym kind) one.alone;
        beside = (one.beside, rest.beside);
        life = rest.life;
        history = rest.history ∙ ap (λ (xs : List Answered). xs ++ h) one.life_is.history
            ∙ append_assoc l.history (e ∷ []) h;
        leads =
            let whole = leads_on (at mode l antenna) (events_of_turn t) (at next m sent)
            (events_of rest.turns)
            (going past clock (end_file next) rest.life (sent ++ sent_in later)) one.leads
            rest.leads in
            subst (λ (f : File). Leads (at mode l antenna) (events_of (t ∷ rest.turns))
            (going past clock f rest.life (antenna ++ sent_in steps))) one.ends
            (subst (λ (octets : List (List ℕ)).
            Leads (at mode l antenna) (events_of (t ∷ rest.turns))
            (going past clock (end_file next) rest.life octets)) one.sends whole);
      }

  fits_on : (mode : Mode) (l m : Life) → (book m).published ≡ (book l).published → Fits mode l
      → Fits mode m
  fits_on (records kept steps) l m same fits = (same ∙ fits.0, fits.1, fits.2)
  fits_on (is_gone f) l m same fits = tt

  legal_on : (l m : Life) (e : Answered) (h : List Answered) → Next l e m
      → IsLegal (then_after (book l) e) h → IsLegal (book m) h
  legal_on l m e h next legal =
      subst (λ (s : State). IsLegal s h) (sym next.book_is) legal

  -- ---- a turn of the recorder

  module _ (e : Answered) (h : List Answered) (goes : Walks h) (l : Life)
      (antenna : List (List ℕ)) (steps : List Step) (legal : IsLegal (book l) (e ∷ h))
      (takes : filter (λ e. is_take e.call) h ≡ map take_in steps)
      (right : AllByRecursion IsStep steps) where
    abbrev m : Life
    m = called e.call l

    next : Next l e m
    next = called_next laws.book_calls past clock (at_rest [] []) l antenna e legal.0

    legal_then : IsLegal (book m) h
    legal_then = legal_on l m e h next legal.1

    -- it publishes what a step stored
    publishes : (kept : List Entry) (s : Recorded) (ss : List Recorded)
        → e.call ≡ publish s.entries
        → calls_in (filter (λ e. is_recorders number e.call) h) ≡ publishings ss ++ gone number ∷ []
        → Fits (records kept (s ∷ ss)) l → Walked (records kept (s ∷ ss)) steps l antenna (e ∷ h)
    publishes kept s ss call rest fits =
        let now : List Entry = kept ++ s.entries in
        let had : found ++ now ≡ (found ++ kept) ++ s.entries =
        sym (append_assoc found kept s.entries) in
        let all : now ++ stored_by ss ≡ kept ++ stored_by (s ∷ ss) =
        append_assoc kept s.entries (stored_by ss) in
        let archive : IsArchive ((found ++ kept) ++ s.entries) = fits.1.2 in
        let before : found ++ now ≡ (book l).published ++ s.entries =
        had ∙ ap (λ (xs : List Entry). xs ++ s.entries) (sym fits.0) in
        let published : (book m).published ≡ found ++ now =
        more_published l m e s.entries next call
        (subst IsArchive (ap (λ (xs : List Entry). xs ++ s.entries) (sym fits.0)) archive)
        ∙ sym before in
        let walked = goes (records now ss) steps m antenna legal_then rest takes right (
          published,
          subst (λ (xs : List Entry). Ahead xs ss) (sym had) fits.1.3,
          subst (λ (xs : List Entry). TailFollows (found ++ xs) tail) (sym all) fits.2,
        ) in
        one_more (records kept (s ∷ ss)) (records now ss) steps steps l m antenna antenna e h walked
        (record {
          before = store_events fits.1.0 s.entries;
          behind = [];
          of_recorder = true;
          is_recorder = ap (is_recorders number) call;
          of_antenna = false;
          is_antenna = ap is_take call;
          life_is = next;
          ends = ap (λ (xs : List Entry). tail_file found xs tail) all;
          sends = refl;
          recorder = (
            record {
              call = call;
              way = fits.1.0;
              is_way = fits.1.1;
              before = refl;
              behind = refl;
            },
            subst (λ (xs : List Entry). RecordsIn number xs ss tail
                (turns_with (is_recorders number) walked.turns)) had walked.recorder,
          );
          radiates = walked.radiates;
          alone = walked.others;
          beside = (stores_beside fits.1.0 s.entries, refl);
          leads =
              leads_on (going past clock (at_rest found kept) l antenna)
              (store_events fits.1.0 s.entries) (going past clock (at_rest found now) l antenna)
              (calls e.call ∷ []) (going past clock (at_rest found now) m antenna)
              (way_leads laws.grows (going past clock (at_rest found kept) l antenna) tt found
              fits.1.0 kept s.entries archive)
              (publish_leads past clock found now l antenna e s.entries call before);
        })

    -- it says that it is gone
    leaves : (kept : List Entry) → e.call ≡ gone number
        → calls_in (filter (λ e. is_recorders number e.call) h) ≡ [] → Fits (records kept []) l
        → Walked (records kept []) steps l antenna (e ∷ h)
    leaves kept call rest fits =
        let f : File = tail_file found kept tail in
        let walked = goes (is_gone f) steps m antenna legal_then rest takes right tt in
        one_more (records kept []) (is_gone f) steps steps l m antenna antenna e h walked (record {
          before = tail_events tail;
          behind = [];
          of_recorder = true;
          is_recorder = ap (is_recorders number) call ∙ eq-eqb number number refl;
          of_antenna = false;
          is_antenna = ap is_take call;
          life_is = next;
          ends = ap (λ (xs : List Entry). tail_file found xs tail) (sym (append-nil kept));
          sends = refl;
          recorder = subst (λ (ts : List Turn). RecordsIn number (found ++ kept) [] tail
              (record { before = tail_events tail; answered = e; behind = [] } ∷ ts))
              (sym walked.recorder) (record { call = call; before = refl; behind = refl });
          radiates = walked.radiates;
          alone = walked.others;
          beside = (tail_beside tail, refl);
          leads =
              leads_on (going past clock (at_rest found kept) l antenna) (tail_events tail)
              (going past clock f l antenna) (calls e.call ∷ []) (going past clock f m antenna)
              (tail_leads laws.grows (going past clock (at_rest found kept) l antenna) tt found
              tail kept
              (subst (λ (xs : List Entry). TailFollows (found ++ xs) tail) (append-nil kept)
              fits.2))
              (call_leads laws.book_calls past clock f l antenna e (ap is_publishing call));
        })

    by_mode : (mode : Mode)
        → e.call ∷ calls_in (filter (λ e. is_recorders number e.call) h) ≡ calls_ahead mode
        → Fits mode l → Walked mode steps l antenna (e ∷ h)
    by_mode (records kept []) ahead fits = leaves kept (cc ahead) (cc ahead) fits
    by_mode (records kept (s ∷ ss)) ahead fits = publishes kept s ss (cc ahead) (cc ahead) fits
    by_mode (is_gone f) ahead fits = absurd (cc ahead)

  -- ---- a turn of the antenna's worker, and of a door's

  module _ (e : Answered) (h : List Answered) (goes : Walks h) (mode : Mode) (l : Life)
      (antenna : List (List ℕ)) (legal : IsLegal (book l) (e ∷ h))
      (ahead : calls_in (filter (λ e. is_recorders number e.call) h) ≡ calls_ahead mode)
      (other : is_recorders number e.call ≡ false) (fits : Fits mode l) where
    by_steps : (steps : List Step) → is_take e.call ≡ true
        → e ∷ filter (λ e. is_take e.call) h ≡ map take_in steps → AllByRecursion IsStep steps
        → Walked mode steps l antenna (e ∷ h)
    by_steps [] taken takes right = absurd (cc takes)
    by_steps (s ∷ ss) taken takes right =
        let same : e ≡ take_in s = cc takes in
        let r = step_leads laws.book_calls past clock (file_at mode) l antenna e legal.0 s right.0
        same in
        let sent : List (List ℕ) = antenna ++ sent_of s in
        let walked = goes mode ss r.life sent (legal_on l r.life e h r.next legal.1) ahead
        (cc takes) right.1
        (fits_on mode l r.life (same_published l r.life e r.next r.quiet) fits) in
        one_more mode mode (s ∷ ss) ss l r.life antenna sent e h walked (record {
          before = [];
          behind = sends_in s;
          of_recorder = false;
          is_recorder = other;
          of_antenna = true;
          is_antenna = taken;
          life_is = r.next;
          ends = refl;
          sends = append_assoc antenna (sent_of s) (sent_in ss);
          recorder = walked.recorder;
          radiates = (record { before = refl; is_take = same; behind = refl }, walked.radiates);
          alone = walked.others;
          beside = (refl, sends_beside s);
          leads = r.leads;
        })

    alone : (steps : List Step) → is_take e.call ≡ false
        → filter (λ e. is_take e.call) h ≡ map take_in steps → AllByRecursion IsStep steps
        → Walked mode steps l antenna (e ∷ h)
    alone steps none takes right =
        let quiet : is_publishing e.call ≡ false =
        (or_parts (is_publishing e.call) _ other).0 in
        let n = called_next laws.book_calls past clock (file_at mode) l antenna e legal.0 in
        let m : Life = called e.call l in
        let walked = goes mode steps m antenna (legal_on l m e h n legal.1) ahead takes right
        (fits_on mode l m (same_published l m e n quiet) fits) in
        one_more mode mode steps steps l m antenna antenna e h walked (record {
          before = [];
          behind = [];
          of_recorder = false;
          is_recorder = other;
          of_antenna = false;
          is_antenna = none;
          life_is = n;
          ends = refl;
          sends = refl;
          recorder = walked.recorder;
          radiates = walked.radiates;
          alone = ((refl, refl), walked.others);
          beside = (refl, refl);
          leads =
              call_leads laws.book_calls past clock (file_at mode) l antenna e quiet;
        })

  -- ---- all of them

  no_more : Walks []
  no_more (records kept []) steps l antenna legal ahead takes right fits = absurd (cc ahead)
  no_more (records kept (s ∷ ss)) steps l antenna legal ahead takes right fits =
      absurd (cc ahead)
  no_more (is_gone f) (s ∷ ss) l antenna legal ahead takes right fits = absurd (cc takes)
  no_more (is_gone f) [] l antenna legal ahead takes right fits = record {
    turns = [];
    answered = refl;
    recorder = refl;
    radiates = tt;
    others = tt;
    beside = tt;
    life = l;
    history = sym (append-nil l.history);
    leads = (
      tt,
      ap (λ (octets : List (List ℕ)). going past clock f l octets) (sym (append-nil antenna)),
    );
  }

  one_event : (e : Answered) (h : List Answered) → Walks h → Walks (e ∷ h)
  one_event e h goes mode steps l antenna legal ahead takes right fits =
      by_recorder (is_recorders number e.call) refl
    where
      later : List Answered
      later = filter (λ e. is_recorders number e.call) h

      radiated : List Answered
      radiated = filter (λ e. is_take e.call) h

      so : (b : Bool) → is_recorders number e.call ≡ b
          → calls_in (cond b (e ∷ later) later) ≡ calls_ahead mode
      so b is = ap (λ (c : Bool). calls_in (cond c (e ∷ later) later)) (sym is) ∙ ahead

      taken : (b : Bool) → is_take e.call ≡ b → cond b (e ∷ radiated) radiated ≡ map take_in steps
      taken b is = ap (λ (c : Bool). cond c (e ∷ radiated) radiated) (sym is) ∙ takes

      -- a recorder takes nothing
      no_take : (c : Call) → is_recorders number c ≡ true → is_take c ≡ false
      no_take (publish entries) is = refl
      no_take (gone worker) is = refl
      no_take (answer door reading ask want) is = refl
      no_take (quit door) is = refl
      no_take (take reading) is = absurd (cc is)
      no_take (done run id reading) is = refl
      no_take (interrupted run id reading) is = refl
      no_take (uplink production status reading) is = refl

      by_take : is_recorders number e.call ≡ false → (b : Bool) → is_take e.call ≡ b
          → Walked mode steps l antenna (e ∷ h)
      by_take other true is =
          by_steps e h goes mode l antenna legal (so false other) other fits steps is
          (taken true is) right
      by_take other false is =
          alone e h goes mode l antenna legal (so false other) other fits steps is (taken false is)
          right

      by_recorder : (b : Bool) → is_recorders number e.call ≡ b
          → Walked mode steps l antenna (e ∷ h)
      by_recorder true is =
          by_mode e h goes l antenna steps legal (taken false (no_take e.call is)) right mode
          (so true is) fits
      by_recorder false is = by_take is (is_take e.call) refl

  pub walk : (h : List Answered) → Walks h
  walk [] = no_more
  walk (e ∷ h) = one_event e h (walk h)
