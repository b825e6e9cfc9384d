-- What holds of a world, and that each event keeps it, and so does every list of them.
use Rattle.std.proofs.Common.{◌≡◌, ℕ, Bool, Option, Some, None, List, [], ◌∷◌, ◌++◌}
use Rattle.std.proofs.Common.{refl, sym, ap, subst, ◌∙◌, append_assoc, append-nil, option_map}
use Rattle.std.proofs.Common.{if◌then◌else◌}
use Rattle.std.specs.List.{AllByRecursion, flat_map}
use Rattle.std.specs.Option.{option_to_list}
use Rattle.std.proofs.lemmas.Grind.{flat_map-append}
use Rattle.archive_terms.specs.Archive.{Entry, IsArchive}
use Rattle.station_book.specs.State.{Opening}
use Rattle.station_world.specs.File.{File, acknowledged, batch_of, Finding, with_batch, without_batch}
use Rattle.station_world.specs.File.{refused, found_by}
use Rattle.station_world.specs.Life.{Life, octets_sent, called, taken, changed, with_round, with_end}
use Rattle.station_world.specs.Life.{sent_with}
use Rattle.station_world.specs.World.{World, before_all, Event, offers, begins_store, ends_store}
use Rattle.station_world.specs.World.{reopens, calls, starts, makes_round, ends_start, sends, reads}
use Rattle.station_world.specs.World.{loses_power, restarts, with_file, octets_to_send}
use Rattle.station_world.specs.World.{in_the_dark, restarted, after_event, after_events}
use Rattle.station_world.specs.Comes.{Begins, Lives, Comes, AllCome}
use Rattle.station_world.specs.Laws.{Laws}
use Rattle.station_world.proofs.Lists.{all_of_it, joined, all_join, all_map}
use Rattle.station_world.proofs.Files.{FileStands, FileGoes, by_offer, by_begin, by_end, by_reopen}
use Rattle.station_world.proofs.Files.{by_power, by_recovery, kept_alone}
use Rattle.station_world.proofs.Lives.{LifeStands, kept_on, by_call, by_start, by_round, by_stop}
use Rattle.station_world.proofs.Lives.{by_send, call_sends_nothing, send_is_last}

-- ---- what holds

-- the file stands, and so does each life over what is acknowledged; and the antenna was sent what
-- they tell
pub record WorldStands (w : World) : Type 0 where
  pub file : FileStands w.file
  pub past : AllByRecursion (LifeStands (acknowledged w.file)) w.past
  pub now : AllByRecursion (LifeStands (acknowledged w.file)) (option_to_list w.now)
  pub antenna : w.antenna
      ≡ flat_map octets_sent w.past ++ flat_map octets_sent (option_to_list w.now)

-- what an event does: it is kept, and what is acknowledged only grows
pub record Goes (w next : World) : Type 0 where
  pub stands : WorldStands next
  pub grows : Begins (acknowledged w.file) (acknowledged next.file)

pub at_first : WorldStands before_all
at_first =
    record { file = record { waits = refl; batch = refl }; past = tt; now = tt; antenna = refl }

stays : (w : World) → WorldStands w → Goes w w
stays w old = record { stands = old; grows = all_of_it (acknowledged w.file) }

-- ---- the file

all_kept : (a b : List Entry) → Begins a b → (ls : List Life) → AllByRecursion (LifeStands a) ls
    → AllByRecursion (LifeStands b) ls
all_kept a b more ls all = all_map (LifeStands a) (LifeStands b) (kept_on a b more) ls all

of_file : (w : World) (f : File) → WorldStands w → FileGoes w.file f → Goes w (with_file w f)
of_file w f old goes = record {
  stands = record {
    file = goes.stands;
    past = all_kept (acknowledged w.file) (acknowledged f) goes.grows w.past old.past;
    now = all_kept (acknowledged w.file) (acknowledged f) goes.grows (option_to_list w.now) old.now;
    antenna = old.antenna;
  };
  grows = goes.grows;
}

-- ---- the life that goes on

pub one_stands : (w : World) (l : Life) → w.now ≡ Some l → WorldStands w
    → LifeStands (acknowledged w.file) l
one_stands w l is old =
    (subst (λ (o : Option Life). AllByRecursion (LifeStands (acknowledged w.file)) (option_to_list o))
    is old.now).0

-- what the antenna was sent, where that life is known
sent_so_far : (w : World) (o : Option Life) → w.now ≡ o → WorldStands w
    → w.antenna ≡ flat_map octets_sent w.past ++ flat_map octets_sent (option_to_list o)
sent_so_far w o is old =
    old.antenna ∙ ap (λ (x : Option Life). flat_map octets_sent w.past
    ++ flat_map octets_sent (option_to_list x)) is

-- it becomes another, and the antenna is sent what that one tells more
lived : (w : World) (l next : Life) (octets : List (List ℕ)) → w.now ≡ Some l → WorldStands w
    → LifeStands (acknowledged w.file) next → octets_sent next ≡ octets_sent l ++ octets
    → Goes w (record w { now = Some next; antenna = w.antenna ++ octets })
lived w l next octets is old stands more =
    let past : List (List ℕ) = flat_map octets_sent w.past in
    record {
      stands = record {
        file = old.file;
        past = old.past;
        now = (stands, tt);
        antenna =
            ap (λ (xs : List (List ℕ)). xs ++ octets) (sent_so_far w (Some l) is old
            ∙ ap (λ (xs : List (List ℕ)). past ++ xs) (append-nil (octets_sent l)))
            ∙ append_assoc past (octets_sent l) octets
            ∙ ap (λ (xs : List (List ℕ)). past ++ xs) (sym more ∙ sym (append-nil (octets_sent next)));
      };
      grows = all_of_it (acknowledged w.file);
    }

-- a change of it by which nothing is sent
change : (w : World) (o : Option Life) (alter : Life → Life) (May : Life → Type 0) → w.now ≡ o
    → Lives o May → WorldStands w
    → ((l : Life) → May l → LifeStands (acknowledged w.file) l
    → LifeStands (acknowledged w.file) (alter l))
    → ((l : Life) → octets_sent (alter l) ≡ octets_sent l)
    → Goes w (record w { now = option_map alter o })
change w None alter May is may old keeps still = absurd may
change w (Some l) alter May is may old keeps still =
    subst (λ (xs : List (List ℕ)). Goes w (record w { now = Some (alter l); antenna = xs }))
    (append-nil w.antenna)
    (lived w l (alter l) [] is old (keeps l may (one_stands w l is old))
    (still l ∙ sym (append-nil (octets_sent l))))

was_sent : (w : World) (o : Option Life) (good : Bool) (May : Life → Type 0) → w.now ≡ o
    → Lives o May → WorldStands w
    → Goes w (record w {
      now = option_map (sent_with good) o;
      antenna = w.antenna ++ (if good then octets_to_send o else []);
    })
was_sent w None good May is may old = absurd may
was_sent w (Some l) good May is may old =
    lived w l (sent_with good l) _ is old
    (by_send (acknowledged w.file) l good (one_stands w l is old)) (send_is_last good l)

-- ---- power

without : Laws → (w : World) → WorldStands w → Goes w (in_the_dark w)
without laws w old =
    let goes = by_power laws w.file old.file in
    record {
      stands = record {
        file = goes.stands;
        past = all_join (LifeStands (acknowledged w.file)) w.past (option_to_list w.now) old.past
            old.now;
        now = tt;
        antenna = old.antenna ∙ sym (flat_map-append octets_sent w.past (option_to_list w.now))
            ∙ sym (append-nil (flat_map octets_sent (w.past ++ option_to_list w.now)));
      };
      grows = goes.grows;
    }

-- a recovery finds what begins with all that was acknowledged, and a new life begins
anew : (w : World) (o : Opening) (entries : List Entry) → w.now ≡ None → WorldStands w
    → Begins (acknowledged w.file) entries → IsArchive entries
    → Goes w (restarted o w (Some entries))
anew w o entries none old more archive =
    let goes = by_recovery w.file entries more archive in
    record {
      stands = record {
        file = goes.stands;
        past = all_kept (acknowledged w.file) (entries ++ []) goes.grows w.past old.past;
        now = (record { begins = ([], refl); legal = tt; starts = tt; tried = refl }, tt);
        antenna = sent_so_far w None none old;
      };
      grows = goes.grows;
    }

opened_again : Laws → (w : World) (o : Opening) (finding : Finding) → w.now ≡ None → WorldStands w
    → Goes w (restarted o w (found_by w.file finding))
opened_again laws w o refused none old = stays w old
opened_again laws w o with_batch none old =
    anew w o (acknowledged w.file ++ batch_of w.file.phase) none old
    (batch_of w.file.phase, refl) old.file.batch
opened_again laws w o without_batch none old =
    anew w o (acknowledged w.file) none old (all_of_it (acknowledged w.file))
    (kept_alone laws w.file old.file)

-- ---- events

pub goes : Laws → (w : World) (e : Event) → Comes w e → WorldStands w
    → Goes w (after_event w e)
goes laws w (offers entry) may old = of_file w _ old (by_offer laws w.file entry may.1 old.file)
goes laws w begins_store may old = of_file w _ old (by_begin w.file old.file)
goes laws w (ends_store good) may old = of_file w _ old (by_end w.file good old.file)
goes laws w (reopens finding) may old = of_file w _ old (by_reopen laws w.file finding old.file)
goes laws w (calls call) may old =
    change w w.now (called call) _ refl may old (λ l m s. by_call laws w.file l call m s)
    (λ l. call_sends_nothing call l)
goes laws w (starts a) may old =
    change w w.now (taken a) _ refl may old (λ l m s. by_start (acknowledged w.file) l a m s)
    (λ l. refl)
goes laws w (makes_round place r) may old =
    change w w.now (changed place (with_round r)) _ refl may old
    (λ l m s. by_round (acknowledged w.file) l place r m s) (λ l. refl)
goes laws w (ends_start place) may old =
    change w w.now (changed place with_end) _ refl may old
    (λ l m s. by_stop (acknowledged w.file) l place s) (λ l. refl)
goes laws w (sends good) may old = was_sent w w.now good _ refl may old
goes laws w (reads moment) may old = record {
  stands = record { file = old.file; past = old.past; now = old.now; antenna = old.antenna };
  grows = all_of_it (acknowledged w.file);
}
goes laws w loses_power may old = without laws w old
goes laws w (restarts o finding) may old = opened_again laws w o finding may old

pub all_go : Laws → (w : World) (events : List Event) → AllCome w events
    → WorldStands w → Goes w (after_events w events)
all_go laws w [] come old = stays w old
all_go laws w (e ∷ events) come old =
    let one : Goes w (after_event w e) = goes laws w e come.0 old in
    let rest : Goes (after_event w e) (after_events (after_event w e) events) =
    all_go laws (after_event w e) events come.1 one.stands in
    record {
      stands = rest.stands;
      grows = joined (acknowledged w.file) (acknowledged (after_event w e).file)
          (acknowledged (after_events (after_event w e) events).file) one.grows rest.grows;
    }

-- ---- two lists of events

-- what holds where a list stands and the next one comes, holds behind both
pub behind_both : Laws → (P : World → World → Type 0) (events more : List Event)
    → AllCome before_all (events ++ more)
    → ((w : World) → WorldStands w → AllCome w more → P w (after_events w more))
    → P (after_events before_all events) (after_events before_all (events ++ more))
behind_both laws P events more come holds = on before_all events come at_first
  where
    on : (w : World) (h : List Event) → AllCome w (h ++ more) → WorldStands w
        → P (after_events w h) (after_events w (h ++ more))
    on w [] come old = holds w old come
    on w (e ∷ h) come old = on (after_event w e) h come.1 (goes laws w e come.0 old).stands
