-- What a START hands over, anywhere in the rounds of a session.
use Rattle.std.proofs.Common.{◌≡◌, ℕ, ◌≤◌, ◌<◌, Bool, true, false, Option, Some, None}
use Rattle.std.proofs.Common.{List, [], ◌∷◌, ◌++◌, length, take, drop, slice_get, refl, sym, ap, subst}
use Rattle.std.proofs.Common.{◌∙◌, ⊎_elim, arith, le_refl}
use Rattle.std.proofs.lemmas.List.{length-take, take-append-drop}
use Rattle.std.proofs.lemmas.Option.{slice_get_cases}
use Rattle.std.specs.Prelude.{is_some, option_and_then}
use Rattle.std.specs.List.{All}
use Rattle.std.specs.Option.{option_map, option_to_list}
use Rattle.octet_core.specs.declared.offer.Offer.{Offer}
use Rattle.archive_terms.specs.Archive.{Entry, IsArchive}
use Rattle.archive_terms.specs.Delivery.{Terms}
use Rattle.archive_terms.specs.Glimpse.{Glimpse}
use Rattle.archive_terms.specs.Placed.{ToldItem}
use Rattle.archive_terms.specs.Rounds.{last_front}
use Rattle.return_core.specs.Course.{Course, run_of}
use Rattle.return_core.specs.Visits.{rounds_of}
use Rattle.return_pdu.specs.declared.return_kind.ReturnKind.{ReturnKind}
use Rattle.return_service.specs.Serving.{Serving}
use Rattle.buffer_message.specs.declared.limits.TheConstants.{MOST_ITEMS}
use Rattle.station_config.specs.Validity.{IsInstance, IsService, IsSite}
use Rattle.station_config.specs.declared.instance.Instance.{Instance}
use Rattle.station_config.specs.declared.service.Service.{Service}
use Rattle.station_config.specs.declared.service.Service.TheVariants.{Raf, Rcf, Cltu}
use Rattle.station_config.specs.declared.site.Site.{Site}
use Rattle.session_core.specs.Course.{is_blocked}
use Rattle.session_core.specs.Lists.{start_of}
use Rattle.session_core.specs.Session.{State, Round, BookAnswer, AreRounds, after_round}
use Rattle.session_core.specs.Session.{after_rounds, before_step, next_of}
use Rattle.session_core.specs.Steps.{inquiry_at}
use Rattle.session_laws.specs.Deliveries.{return_of, is_serving, ServesOn, visit_by, visits_of}
use Rattle.session_laws.specs.Deliveries.{sent_of}
use Rattle.session_laws.specs.Deliveries.{AreMessagesOf, IsLookAt, SeeEntries, front_behind}
use Rattle.session_laws.specs.Deliveries.{StartsDeliver, CompleteStarts, TimelyStarts, DueIsOffered}
use Rattle.session_laws.specs.Deliveries.{done_in_rounds, seen_and_later}
use Rattle.session_laws.specs.Instances.{Shape, shape_of, shape_of_terms, shape_by, SessionsAreKept}
use Rattle.session_laws.specs.Starts.{StartsBegin, BegunStands}
use Rattle.session_laws.specs.Handing.{found_by, begun_by, DueOver, StartsHandOver}
use Rattle.session_laws.specs.Owing.{OwedComes, ReadyComes, OwedOver, ReadyOver}
use Rattle.session_laws.specs.Deliveries.{Delivers}
use Rattle.return_core.specs.Promise.{IsComplete, IsTimely}
use Rattle.return_core.specs.Standing.{StandsFor, handed_told, said_told}
use Rattle.return_core.specs.Visits.{after_visits}
use Rattle.session_laws.proofs.Seeing.{FrontIs}

-- the laws that this one rests on
pub record Rests : Type 0 where
  pub keeps : SessionsAreKept
  pub begins : StartsBegin
  pub stands : BegunStands
  pub delivers : StartsDeliver
  pub complete : CompleteStarts
  pub timely : TimelyStarts
  pub front_is : FrontIs
  pub owes : OwedComes
  pub ready : ReadyComes
  pub due : DueIsOffered

-- ---- rounds in two parts

module _ (site : Site) where
  rounds_front : (rounds more : List Round) (s : State) → AreRounds site s (rounds ++ more)
      → AreRounds site s rounds
  rounds_front [] more s are = tt
  rounds_front (r ∷ rounds) more s are =
      (are.0, rounds_front rounds more (after_round site s r) are.1)

  pub rounds_behind : (rounds more : List Round) (s : State) → AreRounds site s (rounds ++ more)
      → AreRounds site (after_rounds site s rounds) more
  rounds_behind [] more s are = are
  rounds_behind (r ∷ rounds) more s are =
      rounds_behind rounds more (after_round site s r) are.1

  module _ (entries : List Entry) where
    -- rounds behind others see them from some front on
    record SeenBehind (s : State) (more : List Round) : Type 0 where
      from : ℕ
      sees : SeeEntries entries from site s more

    seen_front : (rounds more : List Round) (s : State) (from : ℕ)
        → SeeEntries entries from site s (rounds ++ more) → SeeEntries entries from site s rounds
    seen_front [] more s from sees = tt
    seen_front (r ∷ rounds) more s from sees = (
      sees.0,
      seen_front rounds more (after_round site s r) (front_behind from r.told) sees.1,
    )

    seen_behind : (rounds more : List Round) (s : State) (from : ℕ)
        → SeeEntries entries from site s (rounds ++ more)
        → SeenBehind (after_rounds site s rounds) more
    seen_behind [] more s from sees = record { from = from; sees = sees }
    seen_behind (r ∷ rounds) more s from sees =
        seen_behind rounds more (after_round site s r) (front_behind from r.told) sees.1

    -- from the last front that the delivery's rounds before them found
    seen_after : (rounds more : List Round) (s : State) (from : ℕ)
        → SeeEntries entries from site s (rounds ++ more)
        → SeeEntries entries (last_front from (rounds_of (visits_of site s rounds))) site
        (after_rounds site s rounds) more
    seen_after [] more s from sees = sees
    seen_after (r ∷ rounds) more s from sees =
        by r.told (is_blocked (before_step s r).standing.arrival) r.sent
        (seen_after rounds more (after_round site s r) (front_behind from r.told) sees.1)
      where
        by : (told : Option BookAnswer) (blocked : Bool) (sent : Option Offer)
            → SeeEntries entries
            (last_front (front_behind from told)
            (rounds_of (visits_of site (after_round site s r) rounds))) site
            (after_rounds site (after_round site s r) rounds) more
            → SeeEntries entries
            (last_front from
            (rounds_of (option_to_list (option_map (λ x. visit_by blocked x sent) told)
            ++ visits_of site (after_round site s r) rounds))) site
            (after_rounds site (after_round site s r) rounds) more
        by None blocked sent rest = rest
        by (Some told) true sent rest = rest
        by (Some told) false None rest = rest
        by (Some told) false (Some answer) rest = rest

    -- they see them from each lower front on
    look_from : (t : State) (told : Option BookAnswer) (low from : ℕ) → low ≤ from
        → IsLookAt entries from site t told
        → IsLookAt entries low site t told × (front_behind low told ≤ front_behind from told)
    look_from t None low from below look = (tt, below)
    look_from t (Some told) low from below look =
        ((omega (arith, below, look.0), look.1), le_refl told.answer.glimpse.front)

    seen_from : (rounds : List Round) (s : State) (low from : ℕ) → low ≤ from
        → SeeEntries entries from site s rounds → SeeEntries entries low site s rounds
    seen_from [] s low from below sees = tt
    seen_from (r ∷ rounds) s low from below sees =
        let one = look_from (before_step s r) r.told low from below sees.0 in (
          one.0,
          seen_from rounds (after_round site s r) (front_behind low r.told)
              (front_behind from r.told) one.1 sees.1,
        )

    -- a look's front is a place of the entries
    seen_within : FrontIs → (t : State) (o : Option BookAnswer) (told : BookAnswer) (from : ℕ)
        → o ≡ Some told → IsLookAt entries from site t o
        → told.answer.glimpse.front ≤ length entries
    seen_within front_is t None told from is look = absurd (cc is)
    seen_within front_is t (Some x) told from is look =
        let same : x ≡ told = cc is in
        let front = x.answer.glimpse.front in
        let want = (inquiry_at site t.standing (next_of t) x.moment).want in
        let long : front ≡ length (take front entries) =
        ap (λ (g : Glimpse). g.front) look.1 ∙ front_is (take front entries) want in
        subst (λ (y : BookAnswer). y.answer.glimpse.front ≤ length entries) same
        (omega (arith, long, length-take front entries))

    seen_told : (t : State) (rounds : List Round) (o : Option BookAnswer) (told : BookAnswer)
        (from : ℕ) → o ≡ Some told → SeeEntries entries (front_behind from o) site t rounds
        → SeeEntries entries told.answer.glimpse.front site t rounds
    seen_told t rounds o told from is sees =
        subst (λ (x : Option BookAnswer). SeeEntries entries (front_behind from x) site t rounds) is
        sees

-- ---- the instance

instance_at : (peers : ℕ) (instances : List Instance) (place : ℕ) (instance : Instance)
    → All (IsInstance peers) instances → slice_get instances place ≡ Some instance
    → IsInstance peers instance
instance_at peers instances place instance all is =
    ⊎_elim
    (λ at.
    let same : at.0 ≡ instance = cc (sym at.2 ∙ is) in
    subst (IsInstance peers) (at.3 ∙ same) (all place at.0 at.1))
    (λ past. absurd (cc (sym past.1 ∙ is)))
    (slice_get_cases instances place).1

-- the buffers of a valid site's instances have room, for at most 1,000 items
record HasRoom (shape : Shape) : Type 0 where
  some : 0 < shape.size
  few : shape.size ≤ 1000

room_by : (s : Service) (shape : Shape) → IsService s → shape_by s ≡ Some shape → HasRoom shape
room_by (Raf mode size latency) shape is e =
    let same : size ≡ shape.size = cc e in
    record { some = omega (arith, same, is.size.low); few = omega (arith, same, is.size.high) }
room_by (Rcf mode size latency channels) shape is e =
    let same : size ≡ shape.size = cc e in
    record { some = omega (arith, same, is.0.size.low); few = omega (arith, same, is.0.size.high) }
room_by (Cltu room longest) shape is e = absurd (cc e)

has_room : (site : Site) (shape : Shape) (bound : Option ℕ) → IsSite site
    → option_and_then shape_by
    (option_map (λ (instance : Instance). instance.service)
    (option_and_then (λ (place : ℕ). slice_get site.instances place) bound))
    ≡ Some shape
    → HasRoom shape
has_room site shape None valid e = absurd (cc e)
has_room site shape (Some place) valid e = by (slice_get site.instances place) refl e
  where
    by : (o : Option Instance) → slice_get site.instances place ≡ o
        → option_and_then shape_by
        (option_map (λ (instance : Instance). instance.service) o)
        ≡ Some shape
        → HasRoom shape
    by None is e = absurd (cc e)
    by (Some instance) is e =
        room_by instance.service shape
        (instance_at (length site.peers) site.instances place instance valid.instances.each is).service
        e

same_shape : (own : Serving) (t : Terms) → t.mode ≡ own.course.mode → t.size ≡ own.course.size
    → t.latency ≡ own.course.latency → shape_of own ≡ shape_of_terms own.kind t
same_shape own t mode size latency = rw (mode, size, latency) refl

-- ---- a START

some_of : (o : Option Serving) → is_some o ≡ true → (own : Serving) × (o ≡ Some own)
some_of None is = absurd (cc is)
some_of (Some own) is = (own, refl)

serves_first : (site : Site) (s : State) (rounds : List Round) → ServesOn site s rounds
    → is_serving s.standing ≡ true
serves_first site s [] serves = serves
serves_first site s (r ∷ rounds) serves = serves.0

-- the rounds that a START serves in parts
serves_front : (site : Site) (rounds more : List Round) (s : State)
    → ServesOn site s (rounds ++ more) → ServesOn site s rounds
serves_front site [] more s serves = serves_first site s more serves
serves_front site (r ∷ rounds) more s serves =
    (serves.0, serves_front site rounds more (after_round site s r) serves.1)

serves_behind : (site : Site) (rounds more : List Round) (s : State)
    → ServesOn site s (rounds ++ more) → ServesOn site (after_rounds site s rounds) more
serves_behind site [] more s serves = serves
serves_behind site (r ∷ rounds) more s serves =
    serves_behind site rounds more (after_round site s r) serves.1

-- ---- over some of them

module _ (laws : Rests) (site : Site) (t : State) (serving : List Round) (archive : List Entry)
    (terms : Terms) (running : Course) (stands : StandsFor running terms archive [])
    (few : terms.size ≤ MOST_ITEMS) (begun : Delivers t.standing running)
    (serves : ServesOn site t serving) (are : AreRounds site t serving)
    (sees : SeeEntries archive terms.selection.first site t serving) where
  -- what its delivery stands for after some
  record After (earlier later : List Round) : Type 0 where
    course : Course
    stood : StandsFor course terms archive (rounds_of (visits_of site t earlier))
    delivers : Delivers (after_rounds site t earlier).standing course
    goes_on : ServesOn site (after_rounds site t earlier) later
    rounds : AreRounds site (after_rounds site t earlier) later
    looks : SeeEntries archive
        (last_front terms.selection.first (rounds_of (visits_of site t earlier))) site
        (after_rounds site t earlier) later

  after : (earlier later : List Round) → serving ≡ earlier ++ later → After earlier later
  after earlier later is =
      let own = subst (ServesOn site t) is serves in
      let rounds = subst (AreRounds site t) is are in
      let seen = subst (SeeEntries archive terms.selection.first site t) is sees in
      let first = seen_front site archive earlier later t terms.selection.first seen in
      let done =
      laws.delivers archive site earlier t running terms [] stands begun
      (serves_front site earlier later t own) (rounds_front site earlier later t rounds) first in
      record {
        course = after_visits (visits_of site t earlier) running;
        stood = done.stand.stands;
        delivers = done.delivered.now;
        goes_on = serves_behind site earlier later t own;
        rounds = rounds_behind site earlier later t rounds;
        looks = seen_after site archive earlier later t terms.selection.first seen;
      }

  owed_over : OwedOver site t serving archive terms
  owed_over earlier later more front is whole behind found =
      let s = after_rounds site t earlier in
      let done = after earlier (later ++ more) is in
      laws.owes archive site later s done.course terms (rounds_of (visits_of site t earlier)) front
      done.stood few done.delivers (serves_front site later more s done.goes_on)
      (rounds_front site later more s done.rounds) behind found whole

  ready_over : ReadyOver site t serving archive terms
  ready_over earlier later more front is mode behind found =
      let s = after_rounds site t earlier in
      let done = after earlier (later ++ more) is in
      laws.ready archive site later s done.course terms (rounds_of (visits_of site t earlier)) front
      done.stood few done.delivers (serves_front site later more s done.goes_on)
      (rounds_front site later more s done.rounds) behind found mode

  due_over : DueOver site t serving archive terms
  due_over earlier later r told is asked clear =
      let s = after_rounds site t earlier in
      let done = after earlier (r ∷ later) is in
      laws.due archive site s r done.course terms (rounds_of (visits_of site t earlier)) told
      done.rounds.0 done.stood few done.delivers done.goes_on.0
      (serves_first site (after_round site s r) later done.goes_on.1) asked
      (subst
      (λ o. IsLookAt archive
      (last_front terms.selection.first (rounds_of (visits_of site t earlier))) site
      (before_step s r) o) asked done.looks.0) clear

pub starts_hand_over : Rests → StartsHandOver
starts_hand_over laws b rounds archive valid are sees archived = λ a is.
    let site = b.site in
    let s = found_by b a in
    let t = begun_by b a in
    let kept = laws.keeps b a.earlier in
    let had = some_of (return_of s.standing.service) is.bound in
    let own = had.0 in
    let c = own.course in
    let others = a.serving ++ a.later in
    let here =
    rounds_behind site a.earlier (a.own ∷ others) (start_of b)
    (subst (AreRounds site (start_of b)) is.stands are) in
    let seen =
    seen_behind site archive a.earlier (a.own ∷ others) (start_of b) 0
    (subst (SeeEntries archive 0 site (start_of b)) is.stands sees) in
    let begun =
    laws.begins site s a.own own here.0 is.still (kept.still is.still) had.1
    (serves_first site t a.serving is.serves) in
    let terms = begun.terms in
    let front = begun.told.answer.glimpse.front in
    let shape = kept.own (shape_of own) (ap (option_map shape_of) had.1) in
    let room = has_room site (shape_of own) s.standing.bound valid shape in
    let some : 0 < terms.size = omega (arith, room.some, begun.size) in
    let few : terms.size ≤ MOST_ITEMS = omega (arith, room.few, begun.size) in
    let within : front ≤ length archive =
    seen_within site archive laws.front_is (before_step s a.own) a.own.told begun.told seen.from
    begun.asked seen.sees.0 in
    let running : Course = record c { run = Some (run_of terms) } in
    let stands =
    laws.stands running terms archive refl some archived (omega (arith, begun.first, within)) in
    let serving = rounds_front site a.serving a.later t here.1 in
    let looks =
    seen_from site archive a.serving t terms.selection.first front begun.first
    (seen_told site archive t a.serving a.own.told begun.told seen.from begun.asked
    (seen_front site archive a.serving a.later t (front_behind seen.from a.own.told)
    seen.sees.1)) in
    let done =
    laws.delivers archive site a.serving t running terms [] stands begun.delivers is.serves
    serving looks in
    let kind : ReturnKind = own.kind in
    let same : done.delivered.kind ≡ kind =
    cc (sym done.delivered.is_kind ∙ begun.delivers.is_kind, begun.kind) in
    let n = last_front 0 (rounds_of (visits_of site t a.serving)) in
    let later = drop n archive in
    let whole : seen_and_later site t archive a.serving later ≡ archive =
    take-append-drop n archive in
    record {
      kind = kind;
      told = begun.told;
      asked = begun.asked;
      terms = terms;
      asks = begun.asks;
      shape = shape
          ∙ ap (λ (x : Shape). Some x) (same_shape own terms begun.mode begun.size begun.latency);
      messages =
          subst (λ (k : ReturnKind). AreMessagesOf k (sent_of site t a.serving)
          (said_told (handed_told terms archive (rounds_of (visits_of site t a.serving))))) same
          (subst
          (λ (buffers : List (List ToldItem)).
          AreMessagesOf done.delivered.kind (sent_of site t a.serving) buffers)
          (sym done.stand.told) done.delivered.handed);
      dropped = done.delivered.dropped ∙ sym done.stand.discards;
      complete = λ mode.
          subst (λ (x : List Entry). IsComplete terms x (done_in_rounds site t terms archive a.serving))
          whole
          (laws.complete archive later site a.serving t running terms stands begun.delivers
          is.serves serving looks mode (subst IsArchive (sym whole) archived));
      timely = λ mode.
          subst (λ (x : List Entry). IsTimely terms x (done_in_rounds site t terms archive a.serving))
          whole
          (laws.timely archive later site a.serving t running terms stands begun.delivers
          is.serves serving looks mode (subst IsArchive (sym whole) archived));
      due =
          due_over laws site t a.serving archive terms running stands few begun.delivers is.serves
          serving looks;
      owed =
          owed_over laws site t a.serving archive terms running stands few begun.delivers is.serves
          serving looks;
      ready =
          ready_over laws site t a.serving archive terms running stands few begun.delivers is.serves
          serving looks;
    }
