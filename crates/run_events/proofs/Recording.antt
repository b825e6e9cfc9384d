-- What a recorder's worker does with its archive: the steps ahead of it, and how it ends.
use Rattle.std.proofs.Common.{◌≡◌, ◌⊎◌, inl, inr, ℕ, Bool, true, false, IsTrue, Option, Some}
use Rattle.std.proofs.Common.{None, Result, Ok, Err, List, [], ◌∷◌, ◌++◌, length, take, not, refl}
use Rattle.std.proofs.Common.{sym, ap, subst, ◌∙◌, append_assoc, append-nil, if◌then◌else◌, arith}
use Rattle.std.proofs.Common.{fold, zero, suc, true≢false}
use Rattle.std.specs.List.{list_all}
use Rattle.std.proofs.lemmas.Bool.{and_parts}
use Rattle.std.proofs.lemmas.List.Folds.{list_all-append}
use Rattle.std.proofs.lemmas.Grind.{flat_map-append}
use Rattle.std.proofs.lemmas.List.{take_all}
use Rattle.archive_terms.specs.Archive.{Entry, is_archive, IsArchive, is_valid, is_storable}
use Rattle.archive_terms.specs.Archive.{is_in_order, is_short, may_follow}
use Rattle.disk_model.specs.Images.{Pending}
use Rattle.disk_model.specs.declared.call.Call.{Call as DiskCall}
use Rattle.gate_journal.specs.declared.order.Times.{Times}
use Rattle.frame_archive.specs.State.{ArchiveState, refusal, times_of, with_waiting}
use Rattle.frame_archive.specs.State.{with_failed, times_after}
use Rattle.frame_archive.specs.Acknowledges.{Acknowledges}
use Rattle.frame_archive.specs.declared.fault.OfferFault.{OfferFault}
use Rattle.frame_archive.specs.declared.fault.OfferFault.TheVariants as offers
use Rattle.frame_archive.proofs.LastTimes.{times_of-push}
use Rattle.recorder.specs.Feeds.{Answer}
use Rattle.recorder.specs.Offers.{Offered, offered, none_dropped, by_refusal, after_offer}
use Rattle.recorder.specs.Offers.{after_offers, offered_to, IsCutShort}
use Rattle.recorder.specs.Steps.{IsStored, IsLeftBroken, offered_again}
use Rattle.recorder.specs.declared.recorded.Recorded.{Recorded}
use Rattle.recorder.specs.declared.record_fault.RecordFault.TheVariants as step
use Rattle.turn_lock.specs.PassState.{Lock}
use Rattle.turn_lock.specs.declared.view.Mark.{Mark}
use Rattle.station_book.specs.State.{Opening, Event}
use Rattle.recorder_turns.specs.Steps.{RecorderState, Steps, Chain, none, more, stored_by}
use Rattle.recorder_turns.specs.Recording.{Ends}
use Rattle.recorder_turns.specs.declared.tally.Tally.{Tally}
use Rattle.recorder_turns.specs.declared.recording_fault.RecordingFault.{RecordingFault}
use Rattle.recorder_turns.specs.declared.recording_fault.RecordingFault.TheVariants as fault
use Rattle.station_world.specs.File.{acknowledged}
use Rattle.station_world.specs.Archives.{Holds}
use Rattle.station_world.proofs.Lists.{front_archive, and_both}
use Rattle.run_events.specs.Stores.{Way, at_once, landed, once_more, IsWay, Tail, nothing, taken}
use Rattle.run_events.specs.Stores.{left_broken, not_opened, lost_then_taken, lost_then_failed}
use Rattle.run_events.specs.Stores.{unpublished, EndsWith}
use Rattle.run_events.specs.Laws.{Laws}
use Rattle.run_events.proofs.Leading.{at_rest, waiting_in, broken_in, tail_file, TailFollows}

-- ---- archives between two steps

-- nothing waits, and no store has failed
pub record Rests {D : Type 0} (archive : ArchiveState D) : Type 0 where
  pub empty : archive.waiting ≡ []
  pub good : archive.failed ≡ 0

-- the steps ahead, behind so many entries
abbrev pub Ahead : List Entry → List Recorded → Type 0
Ahead had [] = Unit {0}
Ahead had (step ∷ steps) = (way : Way)
    × IsWay step.reopened (length had) (length step.entries) way
    × IsArchive (had ++ step.entries) × Ahead (had ++ step.entries) steps

-- ---- what offers leave alone, and what they add

module _ {D : Type 0} where
  abbrev Same : {X : Type 0} → (ArchiveState D → X) → Type 0
  Same part = (a : ArchiveState D) (e : Entry) → part (with_waiting a e) ≡ part a

  one_same : {X : Type 0} (part : ArchiveState D → X) → Same part → (x : Offered D) (e : Entry)
      (r : Option OfferFault) → part (by_refusal x e r).archive ≡ part x.archive
  one_same part same x e None = same x.archive e
  one_same part same x e (Some fault) = refl

  fold_same : {X : Type 0} (part : ArchiveState D → X) → Same part → (x : Offered D)
      (es : List Entry) → part (fold after_offer x es).archive ≡ part x.archive
  fold_same part same x [] = refl
  fold_same part same x (e ∷ es) =
      fold_same part same (after_offer x e) es
      ∙ one_same part same x e (refusal x.archive e)

  offers_same : {X : Type 0} (part : ArchiveState D → X) → Same part → (x : Offered D)
      (es : List Entry) → part (after_offers x es).archive ≡ part x.archive
  unfolding after_offers
  offers_same part same x es = fold_same part same x es

  none_failed : (x : Offered D) (es : List Entry)
      → (after_offers x es).archive.failed ≡ x.archive.failed
  none_failed x es = offers_same (λ (a : ArchiveState D). a.failed) (λ a e. refl) x es

  same_count : (x : Offered D) (es : List Entry)
      → (after_offers x es).archive.count ≡ x.archive.count
  same_count x es = offers_same (λ (a : ArchiveState D). a.count) (λ a e. refl) x es

  one_grows : (x : Offered D) (e : Entry) (r : Option OfferFault)
      → (more : List Entry) × ((by_refusal x e r).archive.waiting ≡ x.archive.waiting ++ more)
  one_grows x e None = (e ∷ [], refl)
  one_grows x e (Some fault) = ([], sym (append-nil x.archive.waiting))

  all_grow : (x : Offered D) (es : List Entry)
      → (more : List Entry)
      × ((fold after_offer x es).archive.waiting ≡ x.archive.waiting ++ more)
  all_grow x [] = ([], sym (append-nil x.archive.waiting))
  all_grow x (e ∷ es) =
      let one = one_grows x e (refusal x.archive e) in
      let rest = all_grow (after_offer x e) es in (
        one.0 ++ rest.0,
        rest.1 ∙ ap (λ (xs : List Entry). xs ++ rest.0) one.1
            ∙ append_assoc x.archive.waiting one.0 rest.0,
      )

-- ---- what was taken is an archive behind the others, where it is valid

valid_parts : (a b : List Entry) → IsTrue (list_all is_valid (a ++ b))
    → IsTrue (list_all is_valid a) × IsTrue (list_all is_valid b)
valid_parts a b valid =
    and_parts (list_all is_valid a) (list_all is_valid b)
    (sym (list_all-append is_valid a b) ∙ valid)

not_refused : (b c : Bool) (rest : Option OfferFault)
    → (if not b then Some offers.Backward else if not c then Some offers.TooLong else rest) ≡ None
    → (b ≡ true) × (c ≡ true)
not_refused true true rest is = (refl, refl)
not_refused true false rest is = absurd (cc is)
not_refused false c rest is = absurd (cc is)

module _ {D : Type 0} (laws : Laws) (had : List Entry) where
  record Good (a : ArchiveState D) : Type 0 where
    archive : IsArchive (had ++ a.waiting)
    times : a.times ≡ times_of (had ++ a.waiting)

  one_good : (x : Offered D) (e : Entry) (r : Option OfferFault) → refusal x.archive e ≡ r
      → Good x.archive → IsTrue (list_all is_valid (by_refusal x e r).archive.waiting)
      → Good (by_refusal x e r).archive
  one_good x e None is good valid =
      let a : List Entry = had ++ x.archive.waiting in
      let times = x.archive.times in
      let fits = not_refused (is_in_order times.frame times.seal e) (is_short e) _ is in
      let storable : IsTrue (is_storable e) =
      and_both (is_valid e) (is_short e)
      (and_parts (is_valid e) true (valid_parts x.archive.waiting (e ∷ []) valid).1).0 fits.1 in
      let may : IsTrue (may_follow a e) =
      subst IsTrue (sym (laws.follows a e good.archive))
      (and_both (is_storable e) _ storable
      (subst (λ (t : Times). IsTrue (is_in_order t.frame t.seal e)) good.times fits.0)) in
      let whole : a ++ e ∷ [] ≡ had ++ (x.archive.waiting ++ e ∷ []) =
      append_assoc had x.archive.waiting (e ∷ []) in record {
        archive = subst IsArchive whole
            (subst IsTrue (sym (laws.grows a e))
            (and_both (is_archive a) (may_follow a e) good.archive may));
        times = ap (λ (t : Times). times_after t e) good.times ∙ sym (times_of-push a e)
            ∙ ap times_of whole;
      }
  one_good x e (Some fault) is good valid = good

  all_good : (x : Offered D) (es : List Entry) → Good x.archive
      → IsTrue (list_all is_valid (fold after_offer x es).archive.waiting)
      → IsArchive (had ++ (fold after_offer x es).archive.waiting)
  all_good x [] good valid = good.archive
  all_good x (e ∷ es) good valid =
      let grown = all_grow (after_offer x e) es in
      all_good (after_offer x e) es
      (one_good x e (refusal x.archive e) refl good
      (valid_parts (after_offer x e).archive.waiting grown.0
      (subst (λ (xs : List Entry). IsTrue (list_all is_valid xs)) grown.1 valid)).0)
      valid

  taken_follow : (archive : ArchiveState D) (polled : List Entry)
      → Good archive → IsTrue (list_all is_valid (offered_to archive polled).archive.waiting)
      → IsArchive (had ++ (offered_to archive polled).archive.waiting)
  unfolding after_offers
  taken_follow archive polled good valid =
      all_good (offered archive none_dropped) polled good valid

-- ---- steps

module _ {D F : Type 0} (pending : D → Option Pending) (makes fails : D → DiskCall → D → Type 0)
    (answers : F → Option (List Answer)) (laws : Laws) where
  -- how a step stored its entries, and what that leaves
  record IsStoredSo (had : List Entry) (r : Recorded) (new : ArchiveState D) : Type 0 where
    way : Way
    is_way : IsWay r.reopened (length had) (length r.entries) way
    rests : Rests new

  stored_so : (had : List Entry) (old : ArchiveState D) (polled : List Entry) (r : Recorded)
      (new : ArchiveState D) → length had ≡ old.count → Rests old → (o : Option ℕ)
      → r.reopened ≡ o → IsStored pending makes fails o (offered_to old polled) new r
      → IsStoredSo had r new
  stored_so had old polled r new counted rests None is s = record {
    way = at_once;
    is_way = subst (λ (o : Option ℕ). IsWay o (length had) (length r.entries) at_once) (sym is)
        refl;
    rests = record {
      empty = ap (λ (a : ArchiveState D). a.waiting) s.state;
      good = ap (λ (a : ArchiveState D). a.failed) s.state
          ∙ none_failed (offered old none_dropped) polled ∙ rests.good;
    };
  }
  stored_so had old polled r new counted rests (Some count) is (broken, failed, inl lands) =
      let before = offered_to old polled in
      let had_so : before.archive.count ≡ length had =
      same_count (offered old none_dropped) polled ∙ sym counted in
      let same : Some count ≡ Some new.count = sym is ∙ lands.counted in
      let one : count ≡ new.count = cc same in
      let all : length r.entries ≡ length before.archive.waiting = ap length lands.told.stored in
      record {
        way = landed;
        is_way = subst (λ (o : Option ℕ). IsWay o (length had) (length r.entries) landed) (sym is)
            (inl (omega (arith, one, lands.count, had_so, all), refl));
        rests = record {
          empty = ap (λ (a : ArchiveState D). a.waiting) lands.reopened.state;
          good = ap (λ (a : ArchiveState D). a.failed) lands.reopened.state;
        };
      }
  stored_so had old polled r new counted rests (Some count) is (broken, failed, inr again) =
      let before = offered_to old polled in
      let had_so : before.archive.count ≡ length had =
      same_count (offered old none_dropped) polled ∙ sym counted in
      let same : Some count ≡ Some again.opened.count = sym is ∙ again.counted in
      let one : count ≡ again.opened.count = cc same in record {
        way = once_more;
        is_way = subst (λ (o : Option ℕ). IsWay o (length had) (length r.entries) once_more)
            (sym is) (inr (omega (arith, one, again.count, had_so), refl));
        rests = record {
          empty = ap (λ (a : ArchiveState D). a.waiting) again.stores.state;
          good = ap (λ (a : ArchiveState D). a.failed) again.stores.state
              ∙ none_failed (offered again.opened before.dropped) before.archive.waiting
              ∙ ap (λ (a : ArchiveState D). a.failed) again.reopened.state;
        };
      }

  -- what a step leaves of an archive that rested
  record StepGoes (had : List Entry) (r : Recorded) (new : ArchiveState D) : Type 0 where
    stored : IsStoredSo had r new
    acknowledges : Acknowledges pending new (had ++ r.entries)
    archive : IsArchive (had ++ r.entries)

  step_goes : (had : List Entry) (r : Recorded) (old new : ArchiveState D) (before after : F)
      → Steps pending makes fails answers r old new before after
      → Acknowledges pending old had → Rests old → StepGoes had r new
  step_goes had r old new before after s acknowledged rests =
      let now = s.acknowledged had acknowledged in record {
        stored = stored_so had old s.polled r new acknowledged.agrees.counted rests r.reopened refl
            s.stored;
        acknowledges = now;
        archive = front_archive laws.grows (had ++ r.entries) new.waiting now.agrees.archive;
      }

  -- what steps leave, and that they are ahead
  pub record ChainGoes (had : List Entry) (steps : List Recorded) (new : ArchiveState D)
      : Type 0 where
    pub ahead : (more : List Recorded) → Ahead (had ++ stored_by steps) more
        → Ahead had (steps ++ more)
    pub acknowledges : Acknowledges pending new (had ++ stored_by steps)
    pub rests : Rests new

  stored_more : (steps : List Recorded) (r : Recorded)
      → stored_by (steps ++ r ∷ []) ≡ stored_by steps ++ r.entries
  stored_more steps r =
      flat_map-append (λ (x : Recorded). x.entries) steps (r ∷ [])
      ∙ ap (λ (xs : List Entry). stored_by steps ++ xs) (append-nil r.entries)

  pub chain_goes : (had : List Entry) (steps : List Recorded) (a : ArchiveState D) (f : F)
      (b : ArchiveState D) (g : F) → Chain pending makes fails answers steps a f b g
      → Acknowledges pending a had → Rests a → ChainGoes had steps b
  chain_goes had _ _ _ _ _ (none archive frames) acknowledged rests = record {
    ahead = λ steps is. subst (λ (xs : List Entry). Ahead xs steps) (append-nil had) is;
    acknowledges = subst (Acknowledges pending archive) (sym (append-nil had)) acknowledged;
    rests = rests;
  }
  chain_goes had _ _ _ _ _ (more steps r a b c f g h before s) acknowledged rests =
      let first = chain_goes had steps a f b g before acknowledged rests in
      let had_then : List Entry = had ++ stored_by steps in
      let one = step_goes had_then r b c g h s first.acknowledges first.rests in
      let whole : had_then ++ r.entries ≡ had ++ stored_by (steps ++ r ∷ []) =
      append_assoc had (stored_by steps) r.entries
      ∙ ap (λ (xs : List Entry). had ++ xs) (sym (stored_more steps r)) in record {
        ahead = λ later is.
            subst (Ahead had) (sym (append_assoc steps (r ∷ []) later))
            (first.ahead (r ∷ later) (
              one.stored.way,
              one.stored.is_way,
              one.archive,
              subst (λ (xs : List Entry). Ahead xs later) (sym whole) is,
            ));
        acknowledges = subst (Acknowledges pending c) whole one.acknowledges;
        rests = one.stored.rests;
      }

-- ---- files that archives hold

none_of : (n : ℕ) (xs : List Entry) → xs ≡ [] → take n xs ≡ []
none_of zero xs is = refl
none_of (suc n) xs is = ap (take (suc n)) is

module _ {D : Type 0} (pending : D → Option Pending) (archive : ArchiveState D)
    (found kept : List Entry) (acknowledged : Acknowledges pending archive (found ++ kept)) where
  rest_holds : archive.waiting ≡ [] → Holds pending archive (at_rest found kept)
  rest_holds empty = record {
    acknowledges = acknowledged;
    waits = empty;
    batch = none_of archive.failed archive.waiting empty;
    idle = refl;
    open_ = λ _. refl;
  }

  wait_holds : archive.failed ≡ 0 → Holds pending archive (waiting_in found kept archive.waiting)
  wait_holds good = record {
    acknowledges = acknowledged;
    waits = refl;
    batch = ap (λ n. take n archive.waiting) good;
    idle = refl;
    open_ = λ _. refl;
  }

  broken_holds : archive.failed ≡ length archive.waiting → archive.is_stale ≡ true
      → Holds pending archive (broken_in found kept archive.waiting)
  broken_holds failed stale = record {
    acknowledges = acknowledged;
    waits = refl;
    batch = ap (λ n. take n archive.waiting) failed
        ∙ take_all (length archive.waiting) archive.waiting (omega arith);
    idle = refl;
    open_ = λ fresh. absurd (true≢false (sym stale ∙ fresh));
  }

-- ---- ends

module _ {D F : Type 0} (pending : D → Option Pending) (disk_faults : D → ℕ)
    (makes fails : D → DiskCall → D → Type 0) (fails_to_read : D → D → Type 0)
    (answers : F → Option (List Answer)) (source_faults : F → ℕ) (lock : Lock Opening)
    (laws : Laws) where
  -- With what a worker ended, behind these entries of its archive: what it stored then is an
  -- archive behind them, and the archive holds what that leaves of the file.
  pub record Ended (had : List Entry) (ended : Result Tally RecordingFault) (new : ArchiveState D)
      : Type 0 where
    pub tail : Tail
    pub ends : EndsWith ended tail
    pub follows : TailFollows had tail
    pub holds : (found kept : List Entry) → found ++ kept ≡ had
        → Holds pending new (tail_file found kept tail)

  module _ (had : List Entry) (old new : ArchiveState D) (rests : Rests old) where
    abbrev Acks : ArchiveState D → Type 0
    Acks archive = Acknowledges pending archive had

    so_far : (found kept : List Entry) → found ++ kept ≡ had → Acks new
        → Acknowledges pending new (found ++ kept)
    so_far found kept is now = subst (Acknowledges pending new) (sym is) now

    with_none : (found kept : List Entry) → found ++ kept ≡ had → found ++ (kept ++ []) ≡ had
    with_none found kept is = ap (λ (xs : List Entry). found ++ xs) (append-nil kept) ∙ is

    -- no step had begun, or it had done nothing with the archive
    with_nothing : (ended : Result Tally RecordingFault) → EndsWith ended nothing → new ≡ old
        → Acks old → Ended had ended new
    with_nothing ended ends same acks = record {
      tail = nothing;
      ends = ends;
      follows = tt;
      holds = λ found kept is.
          rest_holds pending new found kept
          (so_far found kept is (subst Acks (sym same) acks))
          (ap (λ (a : ArchiveState D). a.waiting) same ∙ rests.empty);
    }

    -- a store failed, and what waits is its batch
    record IsBroken : Type 0 where
      failed : new.failed ≡ length new.waiting
      stale : new.is_stale ≡ true

    broken_is : (batch : ArchiveState D) (disk : D)
        → new ≡ with_failed batch disk → IsBroken
    broken_is batch disk is = record {
      failed = ap (λ (a : ArchiveState D). a.failed) is
          ∙ ap (λ (a : ArchiveState D). length a.waiting) (sym is);
      stale = ap (λ (a : ArchiveState D). a.is_stale) is;
    }

    held_broken : (found kept : List Entry) → found ++ kept ≡ had → Acks new → IsBroken
        → Holds pending new (broken_in found kept new.waiting)
    held_broken found kept is now broken =
        broken_holds pending new found kept (so_far found kept is now) broken.failed broken.stale

    held_waiting : (found kept : List Entry) → found ++ kept ≡ had → Acks new → new.failed ≡ 0
        → Holds pending new (waiting_in found kept new.waiting)
    held_waiting found kept is now good =
        wait_holds pending new found kept (so_far found kept is now) good

    first_follows : (polled : List Entry) → Acks old
        → IsTrue (list_all is_valid (offered_to old polled).archive.waiting)
        → IsArchive (had ++ (offered_to old polled).archive.waiting)
    first_follows polled acks valid =
        taken_follow laws had old polled
        (record { archive = acks.agrees.archive; times = acks.agrees.last }) valid

    -- the disk failed
    by_disk : (polled : List Entry) → Acks old → Acks new
        → IsLeftBroken pending disk_faults makes fails fails_to_read step.DiskFault
        (offered_to old polled) new
        → Ended had (Err fault.DiskFault) new
    by_disk polled acks now (broken, failed, rose, inl left) = record {
      tail = not_opened new.waiting;
      ends = tt;
      follows = now.agrees.archive;
      holds = λ found kept is.
          held_broken found kept is now
          (broken_is (offered_to old polled).archive new.disk left.state);
    }
    by_disk polled acks now (broken, failed, rose, inr left) = record {
      tail = lost_then_failed (offered_to old polled).archive.waiting new.waiting;
      ends = tt;
      follows = (first_follows polled acks left.valid, now.agrees.archive);
      holds = λ found kept is.
          held_broken found (kept ++ []) (with_none found kept is) now
          (broken_is (offered_again (offered_to old polled).dropped
          (with_failed (offered_to old polled).archive broken) left.opened).archive new.disk
          left.state);
    }

    -- memory was wanted behind a store that failed
    by_memory : (polled : List Entry) → Acks old → Acks new
        → IsLeftBroken pending disk_faults makes fails fails_to_read step.Memory
        (offered_to old polled) new
        → Ended had (Err fault.Memory) new
    by_memory polled acks now (broken, failed, rose, inl (same, made)) = record {
      tail = left_broken new.waiting;
      ends = tt;
      follows = now.agrees.archive;
      holds = λ found kept is.
          held_broken found kept is now
          (broken_is (offered_to old polled).archive new.disk same);
    }
    by_memory polled acks now (broken, failed, rose, inr left) = record {
      tail = lost_then_taken (offered_to old polled).archive.waiting new.waiting;
      ends = tt;
      follows = (first_follows polled acks left.valid, now.agrees.archive);
      holds = λ found kept is.
          held_waiting found (kept ++ []) (with_none found kept is) now
          (ap (λ (a : ArchiveState D). a.failed) left.offered_again.state
          ∙ none_failed (offered left.opened (offered_to old polled).dropped)
          left.offered_again.front
          ∙ ap (λ (a : ArchiveState D). a.failed) left.reopened.state);
    }

    -- or before any store
    by_cut : (polled : List Entry) → Acks new → IsCutShort (offered old none_dropped) polled new
        → Ended had (Err fault.Memory) new
    by_cut polled now cut = record {
      tail = taken new.waiting;
      ends = tt;
      follows = now.agrees.archive;
      holds = λ found kept is.
          held_waiting found kept is now
          (ap (λ (a : ArchiveState D). a.failed) cut.state
          ∙ none_failed (offered old none_dropped) cut.front ∙ rests.good);
    }

    -- a step stored entries that weren't published
    by_unpublished : (r : Recorded) → StepGoes pending makes fails answers laws had r new
        → Ended had (Err fault.Memory) new
    by_unpublished r one = record {
      tail = unpublished one.stored.way r.entries;
      ends = tt;
      follows = one.archive;
      holds = λ found kept is.
          rest_holds pending new found (kept ++ r.entries)
          (subst (Acknowledges pending new)
          (ap (λ (xs : List Entry). xs ++ r.entries) (sym is) ∙ append_assoc found kept r.entries)
          one.acknowledges)
          one.stored.rests.empty;
    }

  pub ended_so : (had : List Entry) (ended : Result Tally RecordingFault) (steps : List Recorded)
      (spent : ℕ) (last : List (Mark Event)) (at new : RecorderState D F)
      → Acknowledges pending at.archive had → Rests at.archive → (ended ≡ Err fault.Foreign → ⊥)
      → Ends pending disk_faults makes fails fails_to_read answers source_faults lock ended steps
      spent last at new
      → Ended had ended new.archive
  ended_so had (Ok tally) steps spent last at new acks rests own e =
      with_nothing had at.archive new.archive rests (Ok tally) tt
      (ap (λ (s : RecorderState D F). s.archive) e.2) acks
  ended_so had (Err fault.SourceFault) steps spent last at new acks rests own e =
      with_nothing had at.archive new.archive rests (Err fault.SourceFault) tt e.1 acks
  ended_so had (Err fault.DiskFault) steps spent last at new acks rests own e =
      by_disk had at.archive new.archive rests e.left.0 acks (e.keeps had acks) e.left.2
  ended_so had (Err (fault.Refused why)) steps spent last at new acks rests own e =
      absurd (e.1 had acks)
  ended_so had (Err fault.Foreign) steps spent last at new acks rests own e = absurd (own refl)
  ended_so had (Err fault.TurnsSpent) steps spent last at new acks rests own e =
      with_nothing had at.archive new.archive rests (Err fault.TurnsSpent) tt
      (ap (λ (s : RecorderState D F). s.archive) e.2) acks
  ended_so had (Err fault.Memory) steps spent last at new acks rests own (inl e) =
      by_want e.left.2
    where
      by_want : IsCutShort (offered at.archive none_dropped) e.left.0 new.archive
          ⊎ IsLeftBroken pending disk_faults makes fails fails_to_read step.Memory
          (offered_to at.archive e.left.0) new.archive
          → Ended had (Err fault.Memory) new.archive
      by_want (inl cut) =
          by_cut had at.archive new.archive rests e.left.0 (e.keeps had acks) cut
      by_want (inr broken) =
          by_memory had at.archive new.archive rests e.left.0 acks (e.keeps had acks) broken
  ended_so had (Err fault.Memory) steps spent last at new acks rests own (inr e) =
      by_unpublished had at.archive new.archive rests e.recorded
      (step_goes pending makes fails answers laws had e.recorded at.archive new.archive at.frames
      new.frames e.steps acks rests)
