-- What the rounds of a session see in a legal history is the published entries.
use Rattle.std.proofs.Common.{◌≡◌, ℕ, ◌≤◌, Option, Some, None, List, [], ◌∷◌, ◌++◌, length, take}
use Rattle.std.proofs.Common.{false, sym, ap, subst, ◌∙◌, arith}
use Rattle.std.proofs.Math.Seq.{take-append_seam}
use Rattle.std.proofs.lemmas.List.{append_assoc, length-append}
use mathlib.Core.List.{IsPrefix}
use Rattle.octet_core.specs.declared.offer.Offer.{Offer}
use Rattle.archive_terms.specs.Archive.{Entry}
use Rattle.archive_terms.specs.Glimpse.{Glimpse, Want, glimpse, all_locks}
use Rattle.frame_select.specs.Glimpse.{as_said}
use Rattle.station_config.specs.declared.site.Site.{Site}
use Rattle.station_book.specs.State.{State as Book, Event, Reply, answered}
use Rattle.station_book.specs.History.{IsLegal, replay, then_after, event_at}
use Rattle.session_core.specs.Session.{State, Round, BookAnswer, next_of, stepped, spoken_state}
use Rattle.session_core.specs.Session.{before_step, event_of, step_events, session_events}
use Rattle.session_core.specs.Steps.{inquiry_at}
use Rattle.session_laws.specs.Losing.{own_in}
use Rattle.session_laws.specs.Deliveries.{IsLookAt, front_behind, SeeEntries, SeesPublished}
use Rattle.session_laws.proofs.Histories.{split, legal_behind, replay_both}

abbrev pub Begins : Type 0
Begins =
    (s : Book) (h k : List Event) → IsPrefix (replay s h).published (replay s (h ++ k)).published

abbrev pub FrontIs : Type 0
FrontIs = (entries : List Entry) (want : Want) → (as_said (glimpse entries want)).front ≡ length entries

-- the look of an answer
no_look : Glimpse
no_look = record {
  front = 0;
  items = [];
  next = 0;
  more = false;
  closed = false;
  locks = all_locks 0;
  production = 0;
}

abbrev looked : Reply → Glimpse
looked (answered a) = a.glimpse
looked _ = no_look

prefix_long : {X : Type 0} (xs ys : List X) → IsPrefix xs ys → length xs ≤ length ys
prefix_long xs ys h = omega (arith, length-append xs h.0, ap length h.1)

prefix_on : {X : Type 0} (xs ys zs : List X) → IsPrefix xs ys → IsPrefix ys zs → IsPrefix xs zs
prefix_on {X} xs ys zs h k =
    (h.0 ++ k.0, sym (append_assoc xs h.0 k.0) ∙ ap (λ (front : List X). front ++ k.0) h.1 ∙ k.1)

prefix_taken : {X : Type 0} (xs ys : List X) → IsPrefix xs ys → take (length xs) ys ≡ xs
prefix_taken xs ys h = sym (ap (take (length xs)) h.1) ∙ take-append_seam xs h.0

module _ (begins : Begins) (front_is : FrontIs) (site : Site) (door : ℕ) (entries : List Entry) where
  -- an answer of the book that stands so
  told_sees : (t : State) (told : BookAnswer) (book : Book) (from : ℕ)
      → event_of site door t told ≡ event_at book (event_of site door t told).call
      → IsPrefix book.published entries → from ≤ length book.published
      → IsLookAt entries from site t (Some told)
      × (told.answer.glimpse.front ≡ length book.published)
  told_sees t told book from e within below =
      let w = (inquiry_at site t.standing (next_of t) told.moment).want in
      let look : told.answer.glimpse ≡ as_said (glimpse book.published w) =
      ap (λ (x : Event). looked x.reply) e in
      let front : told.answer.glimpse.front ≡ length book.published =
      ap (λ (g : Glimpse). g.front) look ∙ front_is book.published w in
      let seen : take told.answer.glimpse.front entries ≡ book.published =
      ap (λ (n : ℕ). take n entries) front ∙ prefix_taken book.published entries within in (
        (
          subst (λ (n : ℕ). from ≤ n) (sym front) below,
          look ∙ ap (λ (xs : List Entry). as_said (glimpse xs w)) (sym seen),
        ),
        front,
      )

  abbrev Sees : List Round → Type 0
  Sees rounds =
      (s : State) (book : Book) (h last : List Event) (from : ℕ) → IsLegal book h
      → own_in door h ≡ session_events site door s rounds ++ last
      → IsPrefix (replay book h).published entries → from ≤ length book.published
      → SeeEntries entries from site s rounds

  told_see : (rounds : List Round) → Sees rounds → (t : State) (told : Option BookAnswer)
      (spoke sent : Option Offer) (book : Book) (h last : List Event) (from : ℕ) → IsLegal book h
      → own_in door h
      ≡ (step_events site door t told
      ++ session_events site door (spoken_state (stepped site t told) spoke sent) rounds) ++ last
      → IsPrefix (replay book h).published entries → from ≤ length book.published
      → IsLookAt entries from site t told
      × SeeEntries entries (front_behind from told) site
      (spoken_state (stepped site t told) spoke sent) rounds
  told_see rounds more t None spoke sent book h last from legal own all below =
      (tt, more (spoken_state t spoke sent) book h last from legal own all below)
  told_see rounds more t (Some told) spoke sent book h last from legal own all below =
      let e = event_of site door t told in
      let now = spoken_state (stepped site t (Some told)) spoke sent in
      let cut = split door h e (session_events site door now rounds ++ last) own in
      let at = replay book cut.others in
      let on = legal_behind book cut.others (e ∷ cut.later) (subst (IsLegal book) cut.so legal) in
      let same : (replay book h).published ≡ (replay at (e ∷ cut.later)).published =
      ap (λ (x : List Event). (replay book x).published) cut.so
      ∙ ap (λ (x : Book). x.published) (replay_both book cut.others (e ∷ cut.later)) in
      let whole : IsPrefix (replay at (e ∷ cut.later)).published entries =
      subst (λ (xs : List Entry). IsPrefix xs entries) same all in
      let within : IsPrefix at.published entries =
      prefix_on at.published (replay at (e ∷ cut.later)).published entries
      (begins at [] (e ∷ cut.later)) whole in
      let grown = prefix_long book.published at.published (begins book [] cut.others) in
      let one = told_sees t told at from on.0 within (omega (arith, below, grown)) in
      let kept = prefix_long at.published (then_after at e).published (begins at [] (e ∷ [])) in (
        one.0,
        more now (then_after at e) cut.later last told.answer.glimpse.front on.1 cut.own whole
            (subst (λ (n : ℕ). n ≤ length (then_after at e).published) (sym one.1) kept),
      )

  pub sees : (rounds : List Round) → Sees rounds
  sees [] s book h last from legal own all below = tt
  sees (r ∷ rounds) s book h last from legal own all below =
      told_see rounds (sees rounds) (before_step s r) r.told r.spoke r.sent book h last from legal
      own all below

pub sees_published : Begins → FrontIs → SeesPublished
sees_published begins front_is site door book h last s rounds from entries legal own below all =
    sees begins front_is site door entries rounds s book h last from legal own all below
