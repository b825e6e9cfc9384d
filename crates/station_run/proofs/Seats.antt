-- The seats of workers that served their doors.
use lib.ListN.{take, drop}
use Rattle.std.proofs.Math.Seq.{take-append_seam}
use Rattle.std.proofs.Common.{◌≡◌, ℕ, suc, ◌+◌, ◌<◌, List, [], ◌∷◌, ◌++◌, length, Option}
use Rattle.std.proofs.Common.{All, refl, ap₂, sym, subst, ◌∙◌, ◌*◌, add-mul, one-mul, arith}
use Rattle.std.proofs.lemmas.List.Elements.{All-cons, All-nil}
use Rattle.std.proofs.lemmas.List.Sums.{sum_by-append}
use Rattle.cds_time.specs.declared.cds.Cds.{Cds}
use Rattle.link_model.specs.declared.call.Call.{Call as LinkCall}
use Rattle.door_model.specs.Shown.{Shown}
use Rattle.turn_lock.specs.PassState.{Lock}
use Rattle.station_config.specs.declared.site.Site.{Site}
use Rattle.station_book.specs.State.{Opening}
use Rattle.station_seats.specs.Seats.{IsFresh, IsSingle, IsSeated, turns_of}
use Rattle.station_seats.specs.declared.seat.DoorSeat.{DoorSeat}
use Rattle.door_turns.specs.Doors.{EachWorks}
use Rattle.station_run.specs.Workers.{HaveServed}

-- fresh seats with turns are ready to serve
pub seated : (lock : Lock Opening) (turns : ℕ) (ss : List DoorSeat) → 0 < turns
    → All (λ s. IsFresh lock turns s.pass) ss → All (λ s. IsSeated lock s) ss
seated lock turns ss some all k d lt =
    let fresh = all k d lt in
    let left = fresh.left in
    (fresh.ready, omega (arith, left, some))

-- the turns of a seat and of those behind it
cons_turns : (s : DoorSeat) (ss : List DoorSeat)
    → turns_of (s ∷ ss) ≡ (s.pass.left + s.pass.entered) + turns_of ss
cons_turns s ss =
    let one : turns_of (s ∷ []) ≡ s.pass.left + s.pass.entered = omega arith in
    let sum : turns_of (s ∷ ss) ≡ turns_of (s ∷ []) + turns_of ss =
    sum_by-append (λ (x : DoorSeat). x.pass.left + x.pass.entered) (s ∷ []) ss in
    omega (arith, one, sum)

tail_of : {A : Type 0} (P : A → Type 0) (x : A) (xs : List A) → All P (x ∷ xs) → All P xs
tail_of P x xs all k d lt = all (suc k) d (omega (arith, lt))

module _ {G L C : Type 0} (shown : G → Option Shown) (faults : G → ℕ)
    (calls : L → Option (List LinkCall)) (link_faults : L → ℕ) (readings : C → Option (List Cds))
    (lock : Lock Opening) (site : Site) (draw links turns : ℕ) where
  abbrev Each : ℕ → List DoorSeat → List DoorSeat → List G → List G → List C → List C → Type 0
  Each n ss ss' gs gs' cs cs' =
      EachWorks shown faults calls link_faults readings lock site draw links n ss ss' gs gs' cs cs'

  abbrev Facts : List DoorSeat → List DoorSeat → Type 0
  Facts ss ss' = All (IsSingle lock) ss' × (turns_of ss' ≡ turns_of ss) × (length ss' ≡ length ss)

  facts : (n : ℕ) (ss ss' : List DoorSeat) (gs gs' : List G) (cs cs' : List C)
      → All (λ s. IsFresh lock turns s.pass) ss → Each n ss ss' gs gs' cs cs' → Facts ss ss'
  facts n [] [] [] [] [] [] all a = (All-nil (IsSingle lock), refl, refl)
  facts n [] [] [] [] [] (c' ∷ cs') all a = absurd a
  facts n [] [] [] [] (c ∷ cs) _ all a = absurd a
  facts n [] [] [] (g' ∷ gs') _ _ all a = absurd a
  facts n [] [] (g ∷ gs) _ _ _ all a = absurd a
  facts n [] (s' ∷ ss') _ _ _ _ all a = absurd a
  facts n (s ∷ ss) [] _ _ _ _ all a = absurd a
  facts n (s ∷ ss) (s' ∷ ss') [] _ _ _ all a = absurd a
  facts n (s ∷ ss) (s' ∷ ss') (g ∷ gs) [] _ _ all a = absurd a
  facts n (s ∷ ss) (s' ∷ ss') (g ∷ gs) (g' ∷ gs') [] _ all a = absurd a
  facts n (s ∷ ss) (s' ∷ ss') (g ∷ gs) (g' ∷ gs') (c ∷ cs) [] all a = absurd a
  facts n (s ∷ ss) (s' ∷ ss') (g ∷ gs) (g' ∷ gs') (c ∷ cs) (c' ∷ cs') all a =
      let fresh : IsFresh lock turns s.pass = all 0 s (omega arith) in
      let rest = facts (n + 1) ss ss' gs gs' cs cs'
      (tail_of (λ (x : DoorSeat). IsFresh lock turns x.pass) s ss all) a.1 in
      let gains = a.0.gains in
      let left = gains.left in
      let entered = gains.entered in
      let same : s'.pass.left + s'.pass.entered ≡ s.pass.left + s.pass.entered =
      omega (arith, left, entered) in (
        All-cons (IsSingle lock) s' ss' (gains.ready, gains.joined ∙ fresh.joined) rest.0,
        cons_turns s' ss' ∙ (ap₂ (λ x y. x + y) same rest.1 ∙ sym (cons_turns s ss)),
        (let size = rest.2 in omega (arith, size)),
      )

  -- the same of a vector whose slice was lent
  pub served_back : (len : ℕ) (items all ss' : List DoorSeat) (gs gs' : List G) (cs cs' : List C)
      → all ≡ items → All (λ s. IsFresh lock turns s.pass) items
      → Each 0 all ss' gs gs' cs cs' → length ss' ≡ len
      → HaveServed shown faults calls link_faults readings lock site draw links items
      (take len (ss' ++ drop (length ss') items)) gs gs' cs cs'
  served_back len items all ss' gs gs' cs cs' e fresh a size =
      let whole : take len (ss' ++ drop (length ss') items) ≡ ss' =
      subst (λ m. take m (ss' ++ drop (length ss') items) ≡ ss') size
      (take-append_seam ss' (drop (length ss') items)) in
      let each : Each 0 items ss' gs gs' cs cs' =
      subst (λ x. Each 0 x ss' gs gs' cs cs') e a in
      let told = facts 0 items ss' gs gs' cs cs' fresh each in
      subst (λ (x : List DoorSeat). HaveServed shown faults calls link_faults readings lock site draw
      links items x gs gs' cs cs') (sym whole)
      (record { single = told.0; turns = told.1; count = told.2; works = each })

-- what fresh seats have of the turns that were given to them
pub fresh_turns : (lock : Lock Opening) (turns : ℕ) (ss : List DoorSeat)
    → All (λ s. IsFresh lock turns s.pass) ss → turns_of ss ≡ length ss * turns
fresh_turns lock turns [] all = omega arith
fresh_turns lock turns (s ∷ ss) all =
    let fresh : IsFresh lock turns s.pass = all 0 s (omega arith) in
    let left = fresh.left in
    let entered = fresh.entered in
    let rest = fresh_turns lock turns ss (tail_of (λ (x : DoorSeat). IsFresh lock turns x.pass) s ss
    all) in
    let more = add-mul (length ss) 1 turns in
    let one = one-mul turns in
    let cons = cons_turns s ss in
    let size : length (s ∷ ss) ≡ length ss + 1 = omega arith in
    subst (λ n. turns_of (s ∷ ss) ≡ n * turns) (sym size)
    (omega (arith, left, entered, rest, more, one, cons))
