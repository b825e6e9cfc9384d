-- Passes that are split from one, and joined into it.
use Rattle.std.proofs.Common.{◌≡◌, ℕ, zero, suc, ◌+◌, ◌-◌, ◌*◌, ◌<◌, ◌≤◌, List, [], ◌∷◌, ◌++◌, length}
use Rattle.std.proofs.Common.{map, refl, ap, sym, subst, ◌∙◌, append_assoc, append-nil, arith, Some}
use Rattle.std.proofs.Common.{add-mul, one-mul, All}
use Rattle.std.proofs.lemmas.List.{map-append}
use Rattle.std.proofs.lemmas.List.Elements.{All-append, All-cons, All-nil}
use Rattle.std.proofs.lemmas.List.Sums.{sum_by-append}
use Rattle.turn_lock.specs.PassState.{PassState, Lock}
use Rattle.turn_lock.specs.Steps.{longer}
use Rattle.turn_lock.specs.declared.view.Mark.{Mark}
use Rattle.station_book.specs.State.{Opening, Event}
use Rattle.station_turns.specs.Turned.{IsReady}
use Rattle.station_seats.specs.declared.seat.DoorSeat.{DoorSeat}
use Rattle.station_seats.specs.declared.report.DoorReport.{DoorReport}
use Rattle.station_seats.specs.Seats.{IsFresh, IsMain, IsSingle, IsSeated, owns_of, reports_of, turns_of}

-- so many turns for each of those seats that have none yet are left
pub enough : (place count turns left start : ℕ) → place < count → count * turns ≤ start
    → left + place * turns ≡ start → turns ≤ left
enough place count turns left start lt most is =
    let rest = count - (place + 1) in
    let e : (place + 1) + rest ≡ count = omega (arith, lt) in
    let all = ap (λ n. n * turns) (sym e) ∙ add-mul (place + 1) rest turns in
    let more = add-mul place 1 turns in
    let one = one-mul turns in
    omega (arith, all, more, one, most, is)

pub one_less : (place turns left now start : ℕ) → left + place * turns ≡ start
    → now + turns ≡ left → now + (place + 1) * turns ≡ start
one_less place turns left now start is less =
    let more = add-mul place 1 turns in
    let one = one-mul turns in
    omega (arith, more, one, is, less)

-- so far `place` seats got their turns from the pass
pub record Seating (lock : Lock Opening) (start : PassState Event Opening) (turns place : ℕ)
    (seats : List DoorSeat) (pass : PassState Event Opening) : Type 0 where
  pub main : IsMain lock pass
  pub left : pass.left + place * turns ≡ start.left
  pub fresh : All (λ seat. IsFresh lock turns seat.pass) seats

pub seating_none : (lock : Lock Opening) (turns : ℕ) (pass : PassState Event Opening)
    → IsMain lock pass → Seating lock pass turns 0 [] pass
seating_none lock turns pass main = record {
  main = main;
  left = omega arith;
  fresh = All-nil (λ (seat : DoorSeat). IsFresh lock turns seat.pass);
}

-- one seat more got its turns
pub seating_more : (lock : Lock Opening) (start : PassState Event Opening) (turns place : ℕ)
    (seats : List DoorSeat) (seat : DoorSeat) (pass now : PassState Event Opening)
    → Seating lock start turns place seats pass → IsMain lock now → now.left + turns ≡ pass.left
    → IsFresh lock turns seat.pass
    → Seating lock start turns (place + 1) (seats ++ seat ∷ []) now
seating_more lock start turns place seats seat pass now so main less fresh = record {
  main = main;
  left = one_less place turns pass.left now.left start.left so.left less;
  fresh = All-append (λ (x : DoorSeat). IsFresh lock turns x.pass) seats (seat ∷ []) so.fresh
      (All-cons (λ (x : DoorSeat). IsFresh lock turns x.pass) seat [] fresh
      (All-nil (λ (x : DoorSeat). IsFresh lock turns x.pass)));
}

-- So far the passes of these seats were joined into the pass, and the others are still to be.
pub record Gathered (lock : Lock Opening) (seats : List DoorSeat)
    (start : PassState Event Opening) (reports : List DoorReport) (done rest : List DoorSeat)
    (pass : PassState Event Opening) (reports_now : List DoorReport) : Type 0 where
  pub ready : IsReady lock pass
  pub own : pass.own ≡ start.own
  pub single : All (IsSingle lock) rest
  pub split : seats ≡ done ++ rest
  pub joined : pass.joined ≡ start.joined ++ owns_of done
  pub turns : pass.left + pass.entered ≡ start.left + start.entered + turns_of done
  pub reported : reports_now ≡ reports ++ reports_of done

head_of : {A : Type 0} (P : A → Type 0) (x : A) (xs : List A) → All P (x ∷ xs) → P x
head_of P x xs all = all 0 x (omega arith)

tail_of : {A : Type 0} (P : A → Type 0) (x : A) (xs : List A) → All P (x ∷ xs) → All P xs
tail_of P x xs all k d lt = all (suc k) d (omega (arith, lt))

pub gathered_none : (lock : Lock Opening) (seats : List DoorSeat) (pass : PassState Event Opening)
    (reports : List DoorReport) → IsReady lock pass → All (IsSingle lock) seats
    → Gathered lock seats pass reports [] seats pass reports
gathered_none lock seats pass reports ready single = record {
  ready = ready;
  own = refl;
  single = single;
  split = refl;
  joined = sym (append-nil pass.joined);
  turns = omega arith;
  reported = sym (append-nil reports);
}

pub gathered_more : (lock : Lock Opening) (seats : List DoorSeat)
    (start : PassState Event Opening) (reports : List DoorReport) (done rest others : List DoorSeat)
    (seat : DoorSeat) (pass now : PassState Event Opening) (told told_now : List DoorReport)
    → Gathered lock seats start reports done rest pass told → rest ≡ seat ∷ others
    → now ≡ record pass {
      left = pass.left + seat.pass.left;
      entered = pass.entered + seat.pass.entered;
      seen = longer pass.seen seat.pass.seen;
      joined = pass.joined ++ seat.pass.own ∷ seat.pass.joined;
    }
    → told_now ≡ told ++ seat.report ∷ []
    → Gathered lock seats start reports (done ++ seat ∷ []) others now told_now
gathered_more lock seats start reports done rest others seat pass now told told_now so e j r =
    let all = subst (λ (xs : List DoorSeat). All (IsSingle lock) xs) e so.single in
    let here = head_of (IsSingle lock) seat others all in
    let left = ap (λ (p : PassState Event Opening). p.left) j in
    let entered = ap (λ (p : PassState Event Opening). p.entered) j in
    let sum = sum_by-append (λ (s : DoorSeat). s.pass.left + s.pass.entered) done (seat ∷ []) in
    let before = so.turns in
    let one : turns_of (seat ∷ []) ≡ seat.pass.left + seat.pass.entered = omega arith in
    record {
      ready = (
        ap (λ (p : PassState Event Opening). p.lock) j ∙ so.ready.0,
        ap (λ (p : PassState Event Opening). p.standing) j ∙ so.ready.1,
      );
      own = ap (λ (p : PassState Event Opening). p.own) j ∙ so.own;
      single = tail_of (IsSingle lock) seat others all;
      split = so.split ∙ (ap (λ xs. done ++ xs) e ∙ sym (append_assoc done (seat ∷ []) others));
      joined = ap (λ (p : PassState Event Opening). p.joined) j
          ∙ (ap (λ xs. pass.joined ++ seat.pass.own ∷ xs) here.1
          ∙ (ap (λ xs. xs ++ seat.pass.own ∷ []) so.joined
          ∙ (append_assoc start.joined (owns_of done) (seat.pass.own ∷ [])
          ∙ ap (λ xs. start.joined ++ xs)
          (sym (map-append (λ (x : DoorSeat). x.pass.own) done (seat ∷ []))))));
      turns = omega (arith, left, entered, sum, before, one);
      reported = r ∙ (ap (λ xs. xs ++ seat.report ∷ []) so.reported
          ∙ (append_assoc reports (reports_of done) (seat.report ∷ [])
          ∙ ap (λ xs. reports ++ xs)
          (sym (map-append (λ (x : DoorSeat). x.report) done (seat ∷ [])))));
    }

-- the lists of a pass into which those of the recorder, the antenna and the doors were joined
pub crew_lists : (before first second now owns : List (List (Mark Event)))
    (recorder radiator : List (Mark Event)) (recorder_joined radiator_joined : List (List (Mark Event)))
    → before ≡ [] → recorder_joined ≡ [] → radiator_joined ≡ [] ∷ []
    → first ≡ before ++ recorder ∷ recorder_joined → second ≡ first ++ radiator ∷ radiator_joined
    → now ≡ second ++ owns → now ≡ recorder ∷ radiator ∷ [] ∷ owns
crew_lists before first second now owns recorder radiator recorder_joined radiator_joined none
    single last joined both all =
    all ∙ ap (λ x. x ++ owns)
    (both ∙ (ap (λ y. y ++ radiator ∷ radiator_joined)
    (joined ∙ (ap (λ z. z ++ recorder ∷ recorder_joined) none ∙ ap (λ z. recorder ∷ z) single))
    ∙ ap (λ z. recorder ∷ radiator ∷ z) last))
