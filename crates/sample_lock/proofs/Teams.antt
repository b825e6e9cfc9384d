-- Teams of clerks.
use native.Mathlib.Omega.{arith}
use lib.ListN.{take, drop}
use Rattle.std.proofs.Math.Seq.{take-append_seam}
use Rattle.std.proofs.Common.{◌≡◌, ℕ, zero, suc, ◌+◌, ◌-◌, ◌*◌, ◌<◌, ◌≤◌, List, [], ◌∷◌, ◌++◌}
use Rattle.std.proofs.Common.{length, All, refl, ap, ap₂, sym, subst, ◌∙◌, append_assoc, add-mul}
use Rattle.std.proofs.Common.{one-mul}
use Rattle.std.proofs.lemmas.List.{map-append}
use Rattle.turn_lock.specs.PassState.{PassState, Lock}
use Rattle.turn_lock.specs.Steps.{longer}
use Rattle.sample_lock.specs.Served.{AtDesk, Served, Each}
use Rattle.sample_lock.specs.Team.{IsVacant, IsIdle, owns_of, turns_of, Did, EachDid, Gathered}
use Rattle.sample_lock.specs.Team.{Seating}
use Rattle.sample_lock.specs.DeskReport.{DeskReport}
use Rattle.sample_lock.specs.declared.account.Opening.{Opening}
use Rattle.sample_lock.specs.declared.booking.Booking.{Booking}
use Rattle.sample_lock.specs.declared.seat.Seat.{Seat}

all_cons : {A : Type 0} (P : A → Type 0) (x : A) (xs : List A) → P x → All P xs → All P (x ∷ xs)
all_cons P x xs p all zero d lt = p
all_cons P x xs p all (suc k) d lt = all k d (omega (arith, lt))

all_tail : {A : Type 0} (P : A → Type 0) (x : A) (xs : List A) → All P (x ∷ xs) → All P xs
all_tail P x xs all k d lt = all (suc k) d (omega (arith, lt))

all_none : {A : Type 0} (P : A → Type 0) → All P []
all_none P k d lt = absurd (omega (arith, lt))

all_push : {A : Type 0} (P : A → Type 0) (xs : List A) (x : A) → All P xs → P x
    → All P (xs ++ x ∷ [])
all_push P [] x all p = all_cons P x [] p all
all_push P (y ∷ xs) x all p = all_cons P y (xs ++ x ∷ []) (all 0 y (omega arith))
    (all_push P xs x (all_tail P y xs all) p)

-- a clerk that began with nothing has what it did as its own
did_at : (lock : Lock Opening) (turns n : ℕ) (s s' : Seat) (before after : DeskReport)
    → IsVacant lock turns s → AtDesk lock n s s' before after → Did n turns s'.pass.own before after
did_at lock turns n s s' before after vacant at =
    let none = ap (λ xs. length xs) vacant.0.2 in
    record {
      spent = s'.spent;
      served = subst (λ own. Served n s'.spent own s'.pass.own before after) vacant.0.2 at.served;
      within = omega (arith, none, at.each_turn, at.turns, vacant.1, vacant.2);
      all_turns = λ e. omega (arith, none, at.each_turn, at.turns, vacant.1, vacant.2, at.ended e);
    }

module _ {D : Type 0} (told : D → DeskReport) (lock : Lock Opening) (turns : ℕ) where
  abbrev AtDesks : ℕ → List Seat → List Seat → List D → List D → Type 0
  AtDesks n ss ss' ds ds' = Each (λ k s s' d d'. AtDesk lock k s s' (told d) (told d')) n ss ss' ds
      ds'

  -- clerks that began with nothing did so, and have the turns that they had
  vacant_served : (n : ℕ) (ss ss' : List Seat) (ds ds' : List D)
      → All (λ s. IsVacant lock turns s) ss → AtDesks n ss ss' ds ds'
      → All (λ s. IsIdle lock s) ss' × (turns_of ss' ≡ turns_of ss)
      × EachDid told turns n (owns_of ss') ds ds'
  vacant_served n [] [] [] [] all a = (all_none (λ s. IsIdle lock s), refl, tt)
  vacant_served n [] [] [] (d' ∷ ds') all a = absurd a
  vacant_served n [] [] (d ∷ ds) _ all a = absurd a
  vacant_served n [] (s' ∷ ss') ds _ all a = absurd a
  vacant_served n (s ∷ ss) [] ds _ all a = absurd a
  vacant_served n (s ∷ ss) (s' ∷ ss') [] _ all a = absurd a
  vacant_served n (s ∷ ss) (s' ∷ ss') (d ∷ ds) [] all a = absurd a
  vacant_served n (s ∷ ss) (s' ∷ ss') (d ∷ ds) (d' ∷ ds') all a =
      let first = all 0 s (omega arith) in
      let rest = vacant_served (n + 1) ss ss' ds ds'
      (all_tail (λ s. IsVacant lock turns s) s ss all) a.1 in (
        all_cons (λ s. IsIdle lock s) s' ss' (
          a.0.lock_is,
          a.0.ready,
          a.0.joined
              ∙ first.0.3,
        ) rest.0,
        ap₂ ◌+◌ a.0.turns rest.1,
        (did_at lock turns n s s' (told d) (told d') first a.0, rest.2),
      )

  -- the same of a vector whose slice was lent
  pub served_back : (n len : ℕ) (items all ss' : List Seat) (ds ds' : List D) → all ≡ items
      → All (λ s. IsVacant lock turns s) items → AtDesks n all ss' ds ds' → length ss' ≡ len
      → All (λ s. IsIdle lock s) (take len (ss' ++ drop (length ss') items))
      × (turns_of (take len (ss' ++ drop (length ss') items)) ≡ turns_of items)
      × EachDid told turns n (owns_of (take len (ss' ++ drop (length ss') items))) ds ds'
  served_back n len items all ss' ds ds' e vacant a size =
      let served = vacant_served n items ss' ds ds' vacant (subst (λ x. AtDesks n x ss' ds ds') e a)
      in
      let whole : take len (ss' ++ drop (length ss') items) ≡ ss' =
      subst (λ m. take m (ss' ++ drop (length ss') items) ≡ ss') size
      (take-append_seam ss' (drop (length ss') items)) in
      subst (λ (x : List Seat). All (λ s. IsIdle lock s) x × (turns_of x ≡ turns_of items)
      × EachDid told turns n (owns_of x) ds ds') (sym whole) served

pub turns_append : (xs ys : List Seat) → turns_of (xs ++ ys) ≡ turns_of xs + turns_of ys
turns_append [] ys = omega arith
turns_append (x ∷ xs) ys = let rest = turns_append xs ys in omega (arith, rest)

-- one pass more was joined
pub gathered_more : (lock : Lock Opening) (seats : List Seat) (start : PassState Booking Opening)
    (done rest more : List Seat) (s : Seat) (pass pass' : PassState Booking Opening)
    → Gathered lock seats start done rest pass → rest ≡ s ∷ more
    → pass' ≡ record pass {
      left = pass.left + s.pass.left;
      entered = pass.entered + s.pass.entered;
      seen = longer pass.seen s.pass.seen;
      joined = pass.joined ++ s.pass.own ∷ s.pass.joined;
    }
    → Gathered lock seats start (done ++ s ∷ []) more pass'
gathered_more lock seats start done rest more s pass pass' so e j =
    let all = subst (λ (r : List Seat). All (λ x. IsIdle lock x) r) e so.idle in
    let here = all 0 s (omega arith) in
    let left = ap (λ (p : PassState Booking Opening). p.left) j in
    let entered = ap (λ (p : PassState Booking Opening). p.entered) j in
    let sum = turns_append done (s ∷ []) in
    let before = so.turns in
    record {
      ready = (
        ap (λ (p : PassState Booking Opening). p.lock) j ∙ so.ready.0,
        ap (λ (p : PassState Booking Opening). p.standing) j ∙ so.ready.1,
      );
      own = ap (λ (p : PassState Booking Opening). p.own) j ∙ so.own;
      idle = all_tail (λ x. IsIdle lock x) s more all;
      split = so.split ∙ (ap (λ r. done ++ r) e ∙ sym (append_assoc done (s ∷ []) more));
      joined = ap (λ (p : PassState Booking Opening). p.joined) j
          ∙ (ap (λ x. pass.joined ++ s.pass.own ∷ x) here.2
          ∙ (ap (λ x. x ++ s.pass.own ∷ []) so.joined
          ∙ (append_assoc start.joined (owns_of done) (s.pass.own ∷ [])
          ∙ ap (λ x. start.joined ++ x) (sym (map-append (λ (x : Seat). x.pass.own) done
          (s ∷ []))))));
      turns = omega (arith, left, entered, sum, before);
    }

spent : (n p t left : ℕ) → p < n → (n - p) * t ≤ left → (n - (p + 1)) * t + t ≤ left
spent n p t left lt h =
    let m : n - p ≡ (n - (p + 1)) + 1 = omega (arith, lt) in
    let more : ((n - (p + 1)) + 1) * t ≤ left = subst (λ x. x * t ≤ left) m h in
    let both = add-mul (n - (p + 1)) 1 t in
    let one = one-mul t in
    omega (arith, more, both, one)

-- one seat more got its turns
pub seating_more : (lock : Lock Opening) (start : PassState Booking Opening) (count turns place : ℕ)
    (seats : List Seat) (s : Seat) (pass pass' : PassState Booking Opening)
    → Seating lock start count turns place seats pass → place < count → IsVacant lock turns s
    → pass' ≡ record pass { left = pass.left - turns }
    → Seating lock start count turns (place + 1) (seats ++ s ∷ []) pass'
seating_more lock start count turns place seats s pass pass' so lt vacant e =
    let enough = spent count place turns pass.left lt so.enough in
    let left' = ap (λ (p : PassState Booking Opening). p.left) e in
    let entered' = ap (λ (p : PassState Booking Opening). p.entered) e in
    let sum = turns_append seats (s ∷ []) in
    let before = so.kept in
    record {
      main = (
        ap (λ (p : PassState Booking Opening). p.lock) e ∙ so.main.0,
        ap (λ (p : PassState Booking Opening). p.standing) e ∙ so.main.1,
        ap (λ (p : PassState Booking Opening). p.own) e ∙ so.main.2,
        ap (λ (p : PassState Booking Opening). p.joined) e ∙ so.main.3,
      );
      enough = omega (arith, enough, left');
      vacant = all_push (λ x. IsVacant lock turns x) seats s so.vacant vacant;
      kept = omega (arith, enough, left', entered', sum, before, vacant.1, vacant.2);
    }
