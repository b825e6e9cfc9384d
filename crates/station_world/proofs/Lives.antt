-- What holds of a life, and that each of its events keeps it.
use Rattle.std.proofs.Common.{◌≡◌, ℕ, zero, suc, ◌+◌, ◌≤◌, ◌<◌, Bool, true, false, Option, Some, None}
use Rattle.std.proofs.Common.{List, [], ◌∷◌, ◌++◌, length, map, refl, sym, ap, subst, ◌∙◌}
use Rattle.std.proofs.Common.{append-nil, arith, slice_get, length-append, if◌then◌else◌}
use Rattle.std.specs.List.{AllByRecursion, flat_map, cons_option}
use Rattle.std.specs.Option.{option_to_list}
use Rattle.std.proofs.lemmas.List.{map-append}
use Rattle.std.proofs.lemmas.List.Sums.{fold-append}
use Rattle.std.proofs.lemmas.List.Elements.{filter_map-append}
use Rattle.std.proofs.lemmas.Grind.{flat_map-append}
use Rattle.archive_terms.specs.Archive.{Entry}
use Rattle.archive_terms.specs.Rounds.{Round, FrontsRise, last_front}
use Rattle.cltu_queue.specs.Run.{Radiation}
use Rattle.station_book.specs.State.{State, opened, Call, publish, answer, quit, take, done}
use Rattle.station_book.specs.State.{interrupted, uplink, gone, accepted, foreign, Event as Answered}
use Rattle.station_book.specs.History.{event_at, replay, IsLegal, then_after, may_publish}
use Rattle.station_book.specs.Publishing.{published_in, published_by}
use Rattle.station_book.specs.Radiation.{radiations, radiation_by}
use Rattle.station_world.specs.File.{File, acknowledged}
use Rattle.station_world.specs.Life.{Start, Fate, unsent, Try, Life, book, octets_of}
use Rattle.station_world.specs.Life.{taken_to_radiate, octets_sent, is_take, tried, tries_with}
use Rattle.station_world.specs.Life.{radiated_by, called, fate_of, sent_with, Asked, taken}
use Rattle.station_world.specs.Life.{change_at, changed, with_round, with_end}
use Rattle.station_world.specs.Comes.{Begins, MayCall, MayMake}
use Rattle.station_world.specs.Laws.{Laws}
use Rattle.station_world.proofs.Lists.{joined, all_join, all_map, rise_last, last_is}

-- ---- what holds

-- a START's rounds have fronts that don't fall and lie within what is published
pub record StartStands (published : List Entry) (s : Start) : Type 0 where
  pub some : 0 < s.terms.size
  pub rise : FrontsRise 0 s.rounds
  pub within : last_front 0 s.rounds ≤ length published

-- A life's book has what begins the acknowledged entries, and a legal history; its STARTs stand so;
-- and what was tried is what the history radiated.
pub record LifeStands (kept : List Entry) (l : Life) : Type 0 where
  pub begins : Begins (book l).published kept
  pub legal : IsLegal (opened l.opening) l.history
  pub starts : AllByRecursion (StartStands (book l).published) l.starts
  pub tried : taken_to_radiate l ≡ radiations l.history

-- it goes on as more is acknowledged, and a START's as more is published
pub kept_on : (a b : List Entry) → Begins a b → (l : Life) → LifeStands a l → LifeStands b l
kept_on a b more l stands = record {
  begins = joined (book l).published a b stands.begins more;
  legal = stands.legal;
  starts = stands.starts;
  tried = stands.tried;
}

longer : (p q : List Entry) → Begins p q → (s : Start) → StartStands p s → StartStands q s
longer p q more s stands = record {
  some = stands.some;
  rise = stands.rise;
  within =
      let here : last_front 0 s.rounds ≤ length p = stands.within in
      let size : length q ≡ length p + length more.0 =
      ap (λ (xs : List Entry). length xs) more.1 ∙ length-append p more.0 in
      omega (arith, here, size);
}

-- ---- the book

legal_more : (s : State) (h : List Answered) (call : Call) → IsLegal s h
    → IsLegal s (h ++ event_at (replay s h) call ∷ [])
legal_more s [] call legal = (refl, tt)
legal_more s (e ∷ h) call legal = (legal.0, legal_more (then_after s e) h call legal.1)

-- what is published behind a call begins with what was
pub call_begins : Laws → (call : Call) (l : Life)
    → (book (called call l)).published
    ≡ (book l).published ++ published_in (event_at (book l) call ∷ [])
call_begins laws call l =
    let e : Answered = event_at (book l) call in
    ap (λ (s : State). s.published) (fold-append then_after (opened l.opening) l.history (e ∷ []))
    ∙ laws.published (book l) (e ∷ []) (refl, tt)

published_begins : (f : File) (l : Life) (call : Call) → MayCall f l call
    → Begins (book l).published (acknowledged f)
    → Begins ((book l).published ++ published_in (event_at (book l) call ∷ [])) (acknowledged f)
published_begins f l call may old = of_call call may
  where
    kept : List Entry
    kept = acknowledged f

    p : List Entry
    p = (book l).published

    none : Begins (p ++ []) kept
    none = subst (λ (xs : List Entry). Begins xs kept) (sym (append-nil p)) old

    by_reply : (entries : List Entry) (b : Bool) → Begins (p ++ entries) kept
        → Begins (p ++ (published_by (publish entries) (if b then accepted else foreign) ++ [])) kept
    by_reply entries true new =
        subst (λ (xs : List Entry). Begins (p ++ xs) kept) (sym (append-nil entries)) new
    by_reply entries false new = none

    of_call : (call : Call) → MayCall f l call
        → Begins (p ++ published_in (event_at (book l) call ∷ [])) kept
    of_call (publish entries) may = by_reply entries (may_publish (book l) entries) may.1
    of_call (answer door reading ask want) may = none
    of_call (quit door) may = none
    of_call (take reading) may = none
    of_call (done run id reading) may = none
    of_call (interrupted run id reading) may = none
    of_call (uplink production status reading) may = none
    of_call (gone worker) may = none

-- ---- radiations

tries_are : (fate : Fate) (l : Life) (next : List Radiation)
    → map (λ (t : Try). t.radiation) (tries_with fate l) ++ next ≡ taken_to_radiate l ++ next
tries_are fate l next =
    ap (λ (xs : List Radiation). xs ++ next)
    (map-append (λ (t : Try). t.radiation) l.tries (map (tried fate) (option_to_list l.to_send))
    ∙ ap (λ (xs : List Radiation). map (λ (t : Try). t.radiation) l.tries ++ xs) (by l.to_send))
  where
    by : (o : Option Radiation)
        → map (λ (t : Try). t.radiation) (map (tried fate) (option_to_list o)) ≡ option_to_list o
    by None = refl
    by (Some r) = refl

-- the radiation of one event
of_one : (o : Option Radiation) → option_to_list o ≡ cons_option o []
of_one None = refl
of_one (Some r) = refl

other_call : (call : Call) (s : State) → is_take call ≡ false
    → radiations (event_at s call ∷ []) ≡ []
other_call (publish entries) s is = by (may_publish s entries)
  where
    by : (b : Bool) → cons_option (radiation_by s.moment (if b then accepted else foreign)) [] ≡ []
    by true = refl
    by false = refl
other_call (answer door reading ask want) s is = refl
other_call (quit door) s is = refl
other_call (take reading) s is = absurd cc
other_call (done run id reading) s is = refl
other_call (interrupted run id reading) s is = refl
other_call (uplink production status reading) s is = refl
other_call (gone worker) s is = refl

call_tried : (call : Call) (l : Life) → taken_to_radiate l ≡ radiations l.history
    → taken_to_radiate (called call l) ≡ radiations (called call l).history
call_tried call l are =
    by_take (is_take call) refl ∙ ap (λ (xs : List Radiation). xs ++ radiations (e ∷ [])) are
    ∙ sym (filter_map-append _ l.history (e ∷ []))
  where
    e : Answered
    e = event_at (book l) call

    by_take : (b : Bool) → is_take call ≡ b
        → map (λ (t : Try). t.radiation) (if b then tries_with unsent l else l.tries)
        ++ option_to_list (if b then radiated_by e else l.to_send)
        ≡ taken_to_radiate l ++ radiations (e ∷ [])
    by_take true is =
        tries_are unsent l (option_to_list (radiated_by e))
        ∙ ap (λ (xs : List Radiation). taken_to_radiate l ++ xs) (of_one (radiated_by e))
    by_take false is =
        sym (append-nil (taken_to_radiate l))
        ∙ ap (λ (xs : List Radiation). taken_to_radiate l ++ xs) (sym (other_call call (book l) is))

-- ---- octets

octets_more : (fate : Fate) (l : Life)
    → flat_map octets_of (tries_with fate l)
    ≡ octets_sent l ++ flat_map octets_of (map (tried fate) (option_to_list l.to_send))
octets_more fate l =
    flat_map-append octets_of l.tries (map (tried fate) (option_to_list l.to_send))

pub call_sends_nothing : (call : Call) (l : Life) → octets_sent (called call l) ≡ octets_sent l
call_sends_nothing call l = by (is_take call)
  where
    none : (o : Option Radiation) → flat_map octets_of (map (tried unsent) (option_to_list o)) ≡ []
    none None = refl
    none (Some r) = refl

    by : (b : Bool) → flat_map octets_of (if b then tries_with unsent l else l.tries) ≡ octets_sent l
    by true =
        octets_more unsent l ∙ ap (λ (xs : List (List ℕ)). octets_sent l ++ xs) (none l.to_send)
        ∙ append-nil (octets_sent l)
    by false = refl

pub send_is_last : (good : Bool) (l : Life)
    → octets_sent (sent_with good l)
    ≡ octets_sent l
    ++ (if good then map (λ (r : Radiation). r.octets) (option_to_list l.to_send) else [])
send_is_last good l =
    octets_more (fate_of good) l ∙ ap (λ (xs : List (List ℕ)). octets_sent l ++ xs) (by good l.to_send)
  where
    by : (b : Bool) (o : Option Radiation)
        → flat_map octets_of (map (tried (fate_of b)) (option_to_list o))
        ≡ (if b then map (λ (r : Radiation). r.octets) (option_to_list o) else [])
    by true None = refl
    by true (Some r) = refl
    by false None = refl
    by false (Some r) = refl

-- ---- events

pub by_call : Laws → (f : File) (l : Life) (call : Call) → MayCall f l call
    → LifeStands (acknowledged f) l → LifeStands (acknowledged f) (called call l)
by_call laws f l call may old =
    let more : List Entry = published_in (event_at (book l) call ∷ []) in
    let is : (book (called call l)).published ≡ (book l).published ++ more = call_begins laws call l in
    record {
      begins = subst (λ (xs : List Entry). Begins xs (acknowledged f)) (sym is)
          (published_begins f l call may old.begins);
      legal = legal_more (opened l.opening) l.history call old.legal;
      starts = all_map (StartStands (book l).published)
          (StartStands (book (called call l)).published)
          (longer (book l).published (book (called call l)).published (more, is)) l.starts old.starts;
      tried = call_tried call l old.tried;
    }

pub by_start : (kept : List Entry) (l : Life) (a : Asked) → 0 < a.size → LifeStands kept l
    → LifeStands kept (taken a l)
by_start kept l a some old = record {
  begins = old.begins;
  legal = old.legal;
  starts = all_join (StartStands (book l).published) l.starts _ old.starts
      (record { some = some; rise = tt; within = omega arith }, tt);
  tried = old.tried;
}

-- the START at a place changes
change_stands : (p : List Entry) (place : ℕ) (change : Start → Start) (all : List Start)
    → ((s : Start) → slice_get all place ≡ Some s → StartStands p s → StartStands p (change s))
    → AllByRecursion (StartStands p) all → AllByRecursion (StartStands p) (change_at place change all)
change_stands p place change [] keeps stand = tt
change_stands p zero change (x ∷ all) keeps stand = (keeps x refl stand.0, stand.1)
change_stands p (suc place) change (x ∷ all) keeps stand =
    (stand.0, change_stands p place change all keeps stand.1)

pub by_round : (kept : List Entry) (l : Life) (place : ℕ) (r : Round) → MayMake l place r
    → LifeStands kept l → LifeStands kept (changed place (with_round r) l)
by_round kept l place r may old = record {
  begins = old.begins;
  legal = old.legal;
  starts = change_stands (book l).published place (with_round r) l.starts
      (λ s there stands.
      let one : slice_get l.starts place ≡ Some may.start = may.there in
      let same : may.start ≡ s = cc in
      record {
        some = stands.some;
        rise = rise_last 0 s.rounds r stands.rise
            (subst (λ (x : Start). last_front 0 x.rounds ≤ r.front) same may.rises);
        within = subst (λ n. n ≤ length (book l).published) (sym (last_is 0 s.rounds r))
            may.published;
      }) old.starts;
  tried = old.tried;
}

pub by_stop : (kept : List Entry) (l : Life) (place : ℕ) → LifeStands kept l
    → LifeStands kept (changed place with_end l)
by_stop kept l place old = record {
  begins = old.begins;
  legal = old.legal;
  starts = change_stands (book l).published place with_end l.starts
      (λ s there stands. record { some = stands.some; rise = stands.rise; within = stands.within })
      old.starts;
  tried = old.tried;
}

pub by_send : (kept : List Entry) (l : Life) (good : Bool) → LifeStands kept l
    → LifeStands kept (sent_with good l)
by_send kept l good old = record {
  begins = old.begins;
  legal = old.legal;
  starts = old.starts;
  tried = tries_are (fate_of good) l [] ∙ append-nil (taken_to_radiate l) ∙ old.tried;
}
