-- What a START of a session hands its link: by the session's rounds, what the delivery does in them.
use Rattle.std.specs.Prelude.{◌≡◌, ℕ, ◌≤◌, Bool, true, not, ◌&&◌, if◌then◌else◌, Option, Some, None}
use Rattle.std.specs.Prelude.{false, is_some, List, [], ◌∷◌, ◌++◌, length, take, IsTrue, IsFalse}
use Rattle.std.specs.Option.{option_map, option_map_or, option_to_list}
use mathlib.Core.List.{IsPrefix}
use Rattle.octet_core.specs.declared.offer.Offer.{Offer}
use Rattle.archive_terms.specs.Archive.{Entry, IsArchive}
use Rattle.archive_terms.specs.Delivery.{Terms, Mode, is_timely, started}
use Rattle.archive_terms.specs.Rounds.{Round as DeliveryRound, Outcome, outcomes, last_front}
use Rattle.archive_terms.specs.Glimpse.{glimpse}
use Rattle.archive_terms.specs.Placed.{ToldItem}
use Rattle.frame_select.specs.Glimpse.{as_said}
use Rattle.return_core.specs.Course.{Course, is_offering, held_of}
use Rattle.return_core.specs.Mode.{answer_of}
use Rattle.return_core.specs.Visits.{Visit, passed, stepped, after_visits, visits_handed, visits_done}
use Rattle.return_core.specs.Visits.{discards_told, AreLooks, rounds_of, VisitsStand}
use Rattle.return_core.specs.Promise.{IsComplete, IsTimely}
use Rattle.return_core.specs.Standing.{all_go_on, StandsFor, at_front}
use Rattle.return_pdu.specs.declared.return_kind.ReturnKind.{ReturnKind}
use Rattle.return_service.specs.Serving.{Serving}
use Rattle.buffer_message.specs.Signing.{Signing}
use Rattle.buffer_message.specs.Fitting.{fits_message}
use Rattle.buffer_message.specs.Message.{message_octets}
use Rattle.buffer_message.specs.declared.limits.TheConstants.{MOST_ITEMS}
use Rattle.link_model.specs.Calls.{blocks_in}
use Rattle.station_config.specs.declared.site.Site.{Site}
use Rattle.station_book.specs.State.{State as Book, Event}
use Rattle.station_book.specs.History.{IsLegal, replay}
use Rattle.session_services.specs.declared.service_state.ServiceState.TheVariants.{Return}
use Rattle.session_core.specs.declared.standing.Standing.{Standing}
use Rattle.session_core.specs.Course.{is_going, is_blocked}
use Rattle.session_services.specs.Served.{Served}
use Rattle.session_core.specs.ServiceSteps.{is_active, has_outgoing}
use Rattle.session_core.specs.Steps.{has_block, inquiry_at}
use Rattle.session_core.specs.Session.{State, Round, BookAnswer, next_of, standing_spoke, send_calls}
use Rattle.session_core.specs.Session.{before_step, before_speak, after_round, after_rounds}
use Rattle.session_core.specs.Session.{IsRound, AreRounds, session_events}
use Rattle.session_laws.specs.Losing.{own_in}

-- ---- the delivery of a session

-- what a bound instance of a return service keeps
unfoldable pub return_of : Served → Option Serving
return_of (Return r) = Some r
return_of _ = None

-- which of the return services it is one of, and its delivery
abbrev pub kind_in : Served → Option ReturnKind
kind_in served = option_map (λ r. r.kind) (return_of served)

abbrev pub delivery_of : Served → Option Course
delivery_of served = option_map (λ r. r.course) (return_of served)

-- the session goes on, and its service is started
abbrev pub is_serving : Standing → Bool
is_serving s = is_going s.course && is_active s.association

-- it serves, up to the end of each of these rounds
abbrev pub ServesOn : Site → State → List Round → Type 0
ServesOn site s [] = is_serving s.standing ≡ true
ServesOn site s (r ∷ rounds) =
    (is_serving s.standing ≡ true) × ServesOn site (after_round site s r) rounds

-- ---- what its rounds do

-- the octets are the message of these items, which go into one, as a buffer of this kind of
-- service, by somebody who signs them or by nobody
pub record IsMessageOf (kind : ReturnKind) (octets : List ℕ) (items : List ToldItem) : Type 0 where
  pub by : Option Signing
  pub first : ℕ
  pub octets_are : octets ≡ message_octets kind by first items
  pub fits : IsTrue (fits_message items)

-- each is the message of its buffer
abbrev pub AreMessagesOf : ReturnKind → List (List ℕ) → List (List ToldItem) → Type 0
AreMessagesOf kind [] [] = Unit {0}
AreMessagesOf kind (octets ∷ more) (items ∷ buffers) =
    IsMessageOf kind octets items × AreMessagesOf kind more buffers
AreMessagesOf _ _ _ = ⊥

-- an instance of this kind keeps this delivery, and what is kept to be offered is the message of
-- the buffer that the delivery holds fixed
pub record Delivers (s : Standing) (c : Course) : Type 0 where
  pub kind : ReturnKind
  pub is_kind : kind_in s.service ≡ Some kind
  pub delivery : delivery_of s.service ≡ Some c
  pub offers : has_outgoing s ≡ true → IsTrue (is_offering c)
  pub message : has_outgoing s ≡ true → IsMessageOf kind s.outgoing (held_of c)

-- a round is a visit: where a block of an earlier round waits it passes, else the delivery takes a
-- step on the round's look, and is answered where its message was offered
abbrev pub visit_by : Bool → BookAnswer → Option Offer → Visit
visit_by blocked told sent =
    if blocked
    then passed told.answer.glimpse.front told.moment
    else stepped told.answer.glimpse told.moment (option_map answer_of sent)

abbrev pub visit_in : State → Round → Option Visit
visit_in s r =
    option_map
    (λ told. visit_by (is_blocked (before_step s r).standing.arrival) told r.sent) r.told

abbrev pub visits_of : Site → State → List Round → List Visit
visits_of site s [] = []
visits_of site s (r ∷ rounds) =
    option_to_list (visit_in s r) ++ visits_of site (after_round site s r) rounds

-- the messages of the service that the link took whole in rounds
abbrev pub sent_in : Site → State → Round → List (List ℕ)
sent_in site s r =
    blocks_in (send_calls (standing_spoke (before_speak site s r).standing r.spoke) r.sent)

abbrev pub sent_of : Site → State → List Round → List (List ℕ)
sent_of site s [] = []
sent_of site s (r ∷ rounds) = sent_in site s r ++ sent_of site (after_round site s r) rounds

-- how many items were dropped in rounds, each time that a message was
abbrev pub dropped_of : Site → State → List Round → List ℕ
dropped_of site s [] = []
dropped_of site s (r ∷ rounds) =
    option_to_list (after_round site s r).standing.dropped
    ++ dropped_of site (after_round site s r) rounds

-- ---- what the book answers

-- each look is one at a front of the entries, as the round wants it, and fronts don't fall
abbrev pub IsLookAt : List Entry → ℕ → Site → State → Option BookAnswer → Type 0
IsLookAt entries from site s None = Unit {0}
IsLookAt entries from site s (Some told) =
    (from ≤ told.answer.glimpse.front)
    × (told.answer.glimpse
    ≡ as_said
    (glimpse (take told.answer.glimpse.front entries)
    (inquiry_at site s.standing (next_of s) told.moment).want))

abbrev pub front_behind : ℕ → Option BookAnswer → ℕ
front_behind from told = option_map_or (λ t. t.answer.glimpse.front) told from

abbrev pub SeeEntries : List Entry → ℕ → Site → State → List Round → Type 0
SeeEntries entries from site s [] = Unit {0}
SeeEntries entries from site s (r ∷ rounds) =
    IsLookAt entries from site (before_step s r) r.told
    × SeeEntries entries (front_behind from r.told) site (after_round site s r) rounds

-- In a legal history whose events at a door begin with those of a session's rounds, these see the
-- entries that are published behind it, and each list that begins with these.
abbrev pub SeesPublished : Type 0
SeesPublished =
    (site : Site) (door : ℕ) (book : Book) (h last : List Event) (s : State) (rounds : List Round)
    (from : ℕ) (entries : List Entry) → IsLegal book h
    → own_in door h ≡ session_events site door s rounds ++ last
    → from ≤ length book.published → IsPrefix (replay book h).published entries
    → SeeEntries entries from site s rounds

-- ---- the law

-- In rounds in which a session serves, it stands for the delivery's visits: their looks are those
-- that the delivery wants; what the link took whole is, message by message, what they hand over;
-- what was dropped is what they discard; and what waits is a message of what the delivery holds.
pub record AreDelivered (site : Site) (s : State) (c : Course) (entries : List Entry) (from : ℕ)
    (rounds : List Round) : Type 0 where
  pub kind : ReturnKind
  pub is_kind : kind_in s.standing.service ≡ Some kind
  pub looks : AreLooks entries from c (visits_of site s rounds)
  pub goes_on : IsTrue (all_go_on (rounds_of (visits_of site s rounds)))
  pub now : Delivers (after_rounds site s rounds).standing
      (after_visits (visits_of site s rounds) c)
  pub handed : AreMessagesOf kind (sent_of site s rounds)
      (visits_handed (visits_of site s rounds) c)
  pub dropped : dropped_of site s rounds
      ≡ discards_told (visits_done (visits_of site s rounds) c)

-- the law: over any rounds in which a session with a delivery serves, which see these entries
abbrev pub AreVisits : Type 0
AreVisits =
    (entries : List Entry) (site : Site) (rounds : List Round) (s : State) (c : Course) (from : ℕ)
    → Delivers s.standing c → ServesOn site s rounds → AreRounds site s rounds
    → SeeEntries entries from site s rounds → AreDelivered site s c entries from rounds

-- ---- a buffer that is due

-- A delivery stood for rounds. After one more, in which its session served and no block of an
-- earlier round waits, its buffer was offered exactly where its START is due one and no block of the
-- round's own waits, whatever the buffer holds. One that was taken whole is handed over in the
-- round's visit.
abbrev pub DueIsOffered : Type 0
DueIsOffered =
    (entries : List Entry) (site : Site) (s : State) (r : Round) (c : Course) (t : Terms)
    (earlier : List DeliveryRound) (told : BookAnswer)
    → IsRound site s r → StandsFor c t entries earlier → t.size ≤ MOST_ITEMS
    → Delivers s.standing c → is_serving s.standing ≡ true
    → is_serving (after_round site s r).standing ≡ true → r.told ≡ Some told
    → IsLookAt entries (last_front t.selection.first earlier) site (before_step s r) (Some told)
    → is_blocked (before_step s r).standing.arrival ≡ false
    → is_some r.sent
    ≡ (not (has_block (standing_spoke (before_speak site s r).standing r.spoke))
    && (at_front t entries earlier told.answer.glimpse.front told.moment).fixed)

-- ---- a START

-- Where the delivery stood for rounds since its START, it stands for these and those of its visits,
-- over the same entries; and what the link took whole is what it hands over in them.
pub record StartDelivers (site : Site) (s : State) (c : Course) (t : Terms) (entries : List Entry)
    (earlier : List DeliveryRound) (rounds : List Round) : Type 0 where
  pub delivered : AreDelivered site s c entries (last_front t.selection.first earlier) rounds
  pub stand : VisitsStand c t entries earlier (visits_of site s rounds)

abbrev pub StartsDeliver : Type 0
StartsDeliver =
    (entries : List Entry) (site : Site) (rounds : List Round) (s : State) (c : Course) (t : Terms)
    (earlier : List DeliveryRound) → StandsFor c t entries earlier → Delivers s.standing c
    → ServesOn site s rounds → AreRounds site s rounds
    → SeeEntries entries (last_front t.selection.first earlier) site s rounds
    → StartDelivers site s c t entries earlier rounds

-- what a START's delivery did in the session's rounds behind it
abbrev pub done_in_rounds : Site → State → Terms → List Entry → List Round → List Outcome
done_in_rounds site s t entries rounds =
    outcomes t entries (rounds_of (visits_of site s rounds)) started

-- the archive up to the last front that these rounds saw, and what came later
abbrev pub seen_and_later : Site → State → List Entry → List Round → List Entry → List Entry
seen_and_later site s entries rounds later =
    take (last_front 0 (rounds_of (visits_of site s rounds))) entries ++ later

-- From a START on, over any rounds in which its session serves.
abbrev pub FromStart : (Terms → List Entry → List Outcome → Type 0) → (Mode → Type 0) → Type 0
FromStart Is Has =
    (entries later : List Entry) (site : Site) (rounds : List Round) (s : State) (c : Course)
    (t : Terms) → StandsFor c t entries [] → Delivers s.standing c → ServesOn site s rounds
    → AreRounds site s rounds
    → SeeEntries entries t.selection.first site s rounds → Has t.mode
    → IsArchive (seen_and_later site s entries rounds later)
    → Is t (seen_and_later site s entries rounds later) (done_in_rounds site s t entries rounds)

abbrev pub CompleteStarts : Type 0
CompleteStarts = FromStart IsComplete (λ mode. IsFalse (is_timely mode))

abbrev pub TimelyStarts : Type 0
TimelyStarts = FromStart IsTimely (λ mode. IsTrue (is_timely mode))
