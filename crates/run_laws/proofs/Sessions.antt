-- The sessions of a door, one behind the other: from where its door is free each loses nothing, and
-- its quit leaves the door free.
use Rattle.std.proofs.Common.{◌≡◌, ◌==◌, ℕ, zero, suc, ◌+◌, ◌≤◌, ◌<◌, le_refl, Bool, true, false}
use Rattle.std.proofs.Common.{cond, Option, Some, None, List, [], ◌∷◌, ◌++◌, get_or}
use Rattle.std.proofs.Common.{slice_get, slice_set, position, refl, sym, ap, subst, ◌∙◌, arith}
use Rattle.std.proofs.Common.{append_assoc, append-nil}
use Rattle.std.proofs.lemmas.Bool.Decides.{nat_tests}
use Rattle.std.proofs.lemmas.List.Folds.{list_any-append}
use Rattle.std.proofs.lemmas.List.Quantifiers.{position-Some}
use Rattle.std.proofs.lemmas.List.Sums.{fold-append}
use Rattle.std.proofs.lemmas.Option.{slice_get-get_or}
use Rattle.std.specs.List.{list_any}
use Rattle.std.specs.Option.{option_map_or}
use Rattle.archive_terms.specs.Archive.{Entry}
use Rattle.station_config.specs.declared.site.Site.{Site}
use Rattle.station_book.specs.State.{State as Book, Event, Call, publish, answer, quit, take}
use Rattle.station_book.specs.State.{done, interrupted, uplink, gone, opened}
use Rattle.station_book.specs.History.{IsLegal, replay, then_after, instance_of, is_of, after}
use Rattle.station_book.specs.Doors.{Has, is_by, HasOneForward}
use Rattle.station_book.specs.Origin.{kinds_of, opening_of}
use Rattle.session_core.specs.Session.{State as Session, BookAnswer, Round, step_events}
use Rattle.session_core.specs.Session.{before_step}
use Rattle.session_core.specs.Session.{after_round, session_events, AreRounds}
use Rattle.session_core.specs.Lists.{start_of}
use Rattle.session_turns.specs.Serving.{began_at}
use Rattle.session_laws.specs.Losing.{loses, own_in, IsFree}
use Rattle.run_laws.specs.Laws.{Laws}
use Rattle.run_laws.proofs.Calls.{AreOf, of_both, AreGiven, given_first, given_last, kept}
use Rattle.run_laws.proofs.Calls.{or_none, owner, is_answer}

replay_both : (b : Book) (h k : List Event) → replay b (h ++ k) ≡ replay (replay b h) k
replay_both b h k = fold-append then_after b h k

legal_behind : (s : Book) (h k : List Event) → IsLegal s (h ++ k) → IsLegal (replay s h) k
legal_behind s [] k is = is
legal_behind s (e ∷ h) k is = legal_behind (then_after s e) h k is.1

-- ---- sessions of a door

-- events that a session's rounds ask at a door
pub record IsSession (site : Site) (door : ℕ) (answers : List Event) : Type 0 where
  pub draw : ℕ
  pub entered : ℕ
  pub rounds : List Round
  pub right : AreRounds site (start_of (began_at site door draw entered)) rounds
  pub events : answers
      ≡ session_events site door (start_of (began_at site door draw entered)) rounds

-- events of sessions, each with its quit behind it
pub data AreSessions (site : Site) (door : ℕ) : List Event → Type 0 where
  no_session : AreSessions site door []
  one_more : (earlier answers : List Event) (left : Event) → AreSessions site door earlier
      → IsSession site door answers → left.call ≡ quit door
      → AreSessions site door (earlier ++ (answers ++ left ∷ []))

asked_of : (site : Site) (door : ℕ) (s : Session) (told : Option BookAnswer)
    → AreOf door (step_events site door s told)
asked_of site door s None = tt
asked_of site door s (Some told) = (refl, tt)

rounds_of : (site : Site) (door : ℕ) (rounds : List Round) (s : Session)
    → AreOf door (session_events site door s rounds)
rounds_of site door [] s = tt
rounds_of site door (r ∷ rounds) s =
    of_both door (step_events site door (before_step s r) r.told)
    (session_events site door (after_round site s r) rounds)
    (asked_of site door (before_step s r) r.told)
    (rounds_of site door rounds (after_round site s r))

session_of : (site : Site) (door : ℕ) (answers : List Event) → IsSession site door answers
    → AreOf door answers
session_of site door answers s = subst (AreOf door) (sym s.events)
    (rounds_of site door s.rounds (start_of (began_at site door s.draw s.entered)))

quit_of : (door : ℕ) (c : Call) → c ≡ quit door
    → owner c ≡ Some door
quit_of door c is = ap owner is

pub sessions_of : (site : Site) (door : ℕ) (es : List Event) → AreSessions site door es
    → AreOf door es
sessions_of site door [] no_session = tt
sessions_of site door _ (one_more earlier answers left before session is_quit) =
    of_both door earlier (answers ++ left ∷ []) (sessions_of site door earlier before)
    (of_both door answers (left ∷ []) (session_of site door answers session)
    (quit_of door left.call is_quit, tt))

-- ---- books of a run

-- a door above those that a list's calls are by
abbrev door_in : Call → ℕ
door_in (answer door reading ask want) = door
door_in (quit door) = door
door_in _ = 0

abbrev above : List Event → ℕ
above [] = 0
above (e ∷ h) = suc (door_in e.call + above h)

below_is : (other door : ℕ) → other < door → (other == door) ≡ false
below_is other door less = grind (arith, nat_tests)

is_apart : (call : Call) (door : ℕ) → door_in call < door → is_by door call ≡ false
is_apart (answer other reading ask want) door less = below_is other door less
is_apart (quit other) door less = below_is other door less
is_apart (publish entries) door less = refl
is_apart (take reading) door less = refl
is_apart (done run id reading) door less = refl
is_apart (interrupted run id reading) door less = refl
is_apart (uplink production status reading) door less = refl
is_apart (gone worker) door less = refl

none_above : (h : List Event) (door : ℕ) → above h ≤ door
    → list_any (λ e. is_by door e.call) h ≡ false
none_above [] door le = refl
none_above (e ∷ h) door le =
    or_none (is_by door e.call) _ (is_apart e.call door (omega (arith, le)))
    (none_above h door (omega (arith, le)))

-- ---- a quit

holder_is : (door : ℕ) (holder : Option ℕ) → is_of door holder ≡ true → holder ≡ Some door
holder_is door None is = absurd cc
holder_is door (Some other) is = ap (λ (n : ℕ). Some n) (grind (arith, nat_tests, is))

stands_at : (door : ℕ) (doors : List (Option ℕ)) (i : ℕ) → position (is_of door) doors ≡ Some i
    → slice_get doors i ≡ Some (Some door)
stands_at door doors i is =
    let at = position-Some (is_of door) doors i None is in
    slice_get-get_or doors i None at.0
    ∙ ap (λ (h : Option ℕ). Some h) (holder_is door (get_or doors i None) at.1)

-- where somebody stands behind a place that was cleared, it is another one, and he stood there
cleared : {X : Type 0} → (xs : List (Option X)) (i j : ℕ) (x : X)
    → slice_get (slice_set xs i None) j ≡ Some (Some x)
    → (i ≡ j → ⊥) × (slice_get xs j ≡ Some (Some x))
cleared [] i j x is = absurd (cc is)
cleared (y ∷ xs) zero zero x is = absurd (cc is)
cleared (y ∷ xs) zero (suc j) x is = (λ same. absurd (omega (arith, same)), is)
cleared (y ∷ xs) (suc i) zero x is = (λ same. absurd (omega (arith, same)), is)
cleared (y ∷ xs) (suc i) (suc j) x is =
    let rest = cleared xs i j x is in (λ same. rest.0 (omega (arith, same)), rest.1)

quit_frees : (b : Book) (door : ℕ) → ((i j : ℕ) → Has b door i → Has b door j → i ≡ j)
    → instance_of (after b (quit door)) door ≡ None
quit_frees b door single = by_place (instance_of b door) refl
  where
    by_found : (i : ℕ) → instance_of b door ≡ Some i → (o : Option ℕ)
        → position (is_of door) (slice_set b.doors i None) ≡ o → o ≡ None
    by_found i had None found = refl
    by_found i had (Some j) found =
        let there =
        cleared b.doors i j door (stands_at door (slice_set b.doors i None) j found) in
        absurd (there.0 (single i j (stands_at door b.doors i had) there.1))

    by_place : (o : Option ℕ) → instance_of b door ≡ o
        → position (is_of door) (option_map_or (λ place. slice_set b.doors place None) o b.doors)
        ≡ None
    by_place None had = had
    by_place (Some i) had = by_found i had (position (is_of door) (slice_set b.doors i None)) refl

-- ---- a history's events at a door

record Split (door : ℕ) (h : List Event) (e : Event) (rest : List Event) : Type 0 where
  others : List Event
  later : List Event
  so : h ≡ others ++ e ∷ later
  own : own_in door later ≡ rest

cond_true : (b : Bool) (x y : List Event) → b ≡ true → cond b x y ≡ x
cond_true b x y e = ap (λ (c : Bool). cond c x y) e

cond_false : (b : Bool) (x y : List Event) → b ≡ false → cond b x y ≡ y
cond_false b x y e = ap (λ (c : Bool). cond c x y) e

no_nil : (xs : List Event) (e : Event) (rest : List Event) → [] ≡ xs ++ e ∷ rest → ⊥
no_nil [] e rest is = cc is
no_nil (x ∷ xs) e rest is = cc is

with_front : (door : ℕ) (x : Event) (h : List Event) (e : Event) (rest : List Event)
    → Split door h e rest → Split door (x ∷ h) e rest
with_front door x h e rest s = record {
  others = x ∷ s.others;
  later = s.later;
  so = ap (λ (xs : List Event). x ∷ xs) s.so;
  own = s.own;
}

split : (door : ℕ) (h xs : List Event) (e : Event) (rest : List Event)
    → own_in door h ≡ xs ++ e ∷ rest → Split door h e rest
split door [] xs e rest is = absurd (no_nil xs e rest is)
split door (x ∷ h) xs e rest is = by (is_by door x.call) refl (split door h)
  where
    own_here : (ys : List Event) → x ∷ own_in door h ≡ ys ++ e ∷ rest
        → ((zs : List Event) (y : Event) (ws : List Event) → own_in door h ≡ zs ++ y ∷ ws
        → Split door h y ws)
        → Split door (x ∷ h) e rest
    own_here [] same goes = record {
      others = [];
      later = h;
      so = cc;
      own = cc;
    }
    own_here (y ∷ ys) same goes = with_front door x h e rest (goes ys e rest (cc same))

    by : (b : Bool) → is_by door x.call ≡ b
        → ((zs : List Event) (y : Event) (ws : List Event) → own_in door h ≡ zs ++ y ∷ ws
        → Split door h y ws)
        → Split door (x ∷ h) e rest
    by true own goes =
        own_here xs
        (sym (cond_true (is_by door x.call) (x ∷ own_in door h) (own_in door h) own) ∙ is) goes
    by false own goes =
        with_front door x h e rest
        (goes xs e rest
        (sym (cond_false (is_by door x.call) (x ∷ own_in door h) (own_in door h) own) ∙ is))

-- ---- all sessions of a door

none_both : (p : Event → Bool) (xs ys : List Event) → list_any p xs ≡ false
    → list_any p ys ≡ false → list_any p (xs ++ ys) ≡ false
none_both p xs ys first second =
    list_any-append p xs ys ∙ or_none (list_any p xs) (list_any p ys) first second

module _ (laws : Laws) (site : Site) (entries : List Entry) (workers : ℕ) where
  abbrev pub new_book : Book
  new_book = opened (opening_of site entries workers)

  free_at : (h : List Event) (door : ℕ) → instance_of (replay new_book h) door ≡ None
      → IsFree site door (replay new_book h)
  free_at h door none =
      let other = above h in
      let is =
      laws.begins site entries workers other h (none_above h other (le_refl other)) in record {
        services = is.services;
        places = is.places;
        runs = is.runs;
        free = none;
      }

  -- A history in two: behind the first part a door is free, and in the second these are its events.
  record Behind (door : ℕ) (h rest : List Event) : Type 0 where
    before : List Event
    later : List Event
    so : h ≡ before ++ later
    free : instance_of (replay new_book before) door ≡ None
    own : own_in door later ≡ rest

  record Kept (door : ℕ) (h es rest : List Event) : Type 0 where
    behind : Behind door h rest
    none : list_any (λ e. loses e.reply) es ≡ false

  module _ (one : HasOneForward (kinds_of site.instances)) (door : ℕ) (h : List Event)
      (legal : IsLegal new_book h) where
    free_behind : (before : List Event) (left : Event) → left.call ≡ quit door
        → instance_of (replay new_book (before ++ left ∷ [])) door ≡ None
    free_behind before left is_quit =
        ap (λ (b : Book). instance_of b door) (replay_both new_book before (left ∷ []))
        ∙ (ap (λ (c : Call). instance_of (after (replay new_book before) c) door) is_quit
        ∙ quit_frees (replay new_book before) door
        (laws.single (opening_of site entries workers) before door))

    -- one session more, and its quit
    one_keeps : (earlier answers : List Event) (left : Event) (rest : List Event)
        → Kept door h earlier ((answers ++ left ∷ []) ++ rest) → IsSession site door answers
        → left.call ≡ quit door → AreGiven (answers ++ left ∷ [])
        → Kept door h (earlier ++ (answers ++ left ∷ [])) rest
    one_keeps earlier answers left rest first session is_quit given =
        let b = first.behind in
        let own : own_in door b.later ≡ answers ++ left ∷ rest =
        b.own ∙ append_assoc answers (left ∷ []) rest in
        let began = began_at site door session.draw session.entered in
        let asked = session_events site door (start_of began) session.rounds in
        let told = laws.lost began (replay new_book b.before) b.later (left ∷ rest) session.rounds
        one (free_at b.before door b.free)
        (legal_behind new_book b.before b.later (subst (IsLegal new_book) b.so legal)) session.right
        (own ∙ ap (λ (xs : List Event). xs ++ left ∷ rest) session.events) in
        let answered : list_any (λ e. loses e.reply) answers ≡ false =
        ap (λ (xs : List Event). list_any (λ e. loses e.reply) xs) session.events ∙ told.replies in
        let ends : loses left.reply ≡ false =
        kept left (given_last answers (left ∷ []) given).0
        (ap is_answer is_quit) in
        let cut = split door b.later answers left rest own in record {
          behind = record {
            before = b.before ++ (cut.others ++ left ∷ []);
            later = cut.later;
            so =
                b.so
                ∙ (ap (λ (xs : List Event). b.before ++ xs)
                (cut.so ∙ sym (append_assoc cut.others (left ∷ []) cut.later))
                ∙ sym (append_assoc b.before (cut.others ++ left ∷ []) cut.later));
            free =
                ap (λ (xs : List Event). instance_of (replay new_book xs) door)
                (sym (append_assoc b.before cut.others (left ∷ [])))
                ∙ free_behind (b.before ++ cut.others) left is_quit;
            own = cut.own;
          };
          none = none_both (λ (e : Event). loses e.reply) earlier (answers ++ left ∷ []) first.none
              (none_both (λ (e : Event). loses e.reply) answers (left ∷ []) answered
              (or_none (loses left.reply) false ends refl));
        }

    all_keep : (es : List Event) → AreSessions site door es → (rest : List Event)
        → own_in door h ≡ es ++ rest → AreGiven es → Kept door h es rest
    all_keep [] no_session rest own given = record {
      behind = record {
        before = [];
        later = h;
        so = refl;
        free = (laws.begins site entries workers door [] refl).free;
        own = own;
      };
      none = refl;
    }
    all_keep _ (one_more earlier answers left before session is_quit) rest own given =
        one_keeps earlier answers left rest
        (all_keep earlier before ((answers ++ left ∷ []) ++ rest)
        (own ∙ append_assoc earlier (answers ++ left ∷ []) rest)
        (given_first earlier (answers ++ left ∷ []) given))
        session is_quit (given_last earlier (answers ++ left ∷ []) given)

    -- sessions of a door lose nothing, where no other event is by it
    pub sessions_keep : (es : List Event) → AreSessions site door es → own_in door h ≡ es
        → AreGiven es → list_any (λ e. loses e.reply) es ≡ false
    sessions_keep es sessions own given =
        (all_keep es sessions [] (own ∙ sym (append-nil es)) given).none
