-- Entries that are offered one after another: one more of them.
use Rattle.std.proofs.Common.{◌≡◌, ℕ, ◌+◌, ◌<◌, Bool, true, false, IsTrue, List, [], ◌∷◌, ◌++◌}
use Rattle.std.proofs.Common.{length, take, get_or, refl, sym, ap, ◌∙◌, not, nat_le, nat_lt, arith}
use Rattle.std.proofs.Common.{if◌then◌else◌, Option, Some, None, subst}
use Rattle.std.specs.List.{fold, list_all}
use Rattle.std.proofs.lemmas.List.{take_more, map_push}
use Rattle.std.proofs.lemmas.List.Folds.{list_all-map, list_all_at, list_all-append}
use Rattle.std.proofs.lemmas.List.Sums.{fold_push}
use Rattle.archive_terms.specs.Archive as terms
use Rattle.archive_terms.specs.Archive.{is_valid, is_in_order, is_short}
use Rattle.frame_archive.specs.State.{ArchiveState, refusal, with_waiting, need, free}
use Rattle.frame_archive.specs.Faults.{IsRefusal}
use Rattle.frame_archive.specs.declared.fault.OfferFault.{OfferFault}
use Rattle.frame_archive.specs.declared.fault.OfferFault.TheVariants as offers
use Rattle.record_form.specs.declared.entry.Entry.{Entry}
use Rattle.record_form.specs.Entry.{entry_of, entries_of}
use Rattle.recorder.specs.declared.recorded.Recorded.{Recorded}
use Rattle.recorder.specs.Offers.{Offered, offered, by_refusal, after_offer, after_offers}
use Rattle.recorder.specs.Offers.{with_refusal, dropped_of, with_dropped, Dropped}

one_more : (entries : List Entry) (i : ℕ) (entry : Entry) → i < length entries
    → entry ≡ get_or entries i entry
    → entries_of (take (i + 1) entries) ≡ entries_of (take i entries) ++ entry_of entry ∷ []
one_more entries i entry there is =
    ap entries_of (take_more entries i entry there
    ∙ ap (λ (e : Entry). take i entries ++ e ∷ []) (sym is))
    ∙ map_push entry_of (take i entries) entry

-- an entry offered behind the first i ones
pub offers_more : {D : Type 0} (start now next : Offered D) (entries : List Entry) (i : ℕ)
    (entry : Entry) → i < length entries → entry ≡ get_or entries i entry
    → now ≡ after_offers start (entries_of (take i entries))
    → next ≡ after_offer now (entry_of entry)
    → next ≡ after_offers start (entries_of (take (i + 1) entries))
unfolding after_offers
offers_more {D} start now next entries i entry there is before one =
    one ∙ ap (λ (o : Offered D). after_offer o (entry_of entry)) before
    ∙ sym (fold_push after_offer start (entries_of (take i entries)) (entry_of entry))
    ∙ sym (ap (λ es. fold after_offer start es) (one_more entries i entry there is))

-- no entry was offered yet
pub offers_none : {D : Type 0} (start : Offered D) → start ≡ after_offers start []
unfolding after_offers
offers_none start = refl

cc_no : true ≡ false → ⊥
cc_no e = cc

-- each of valid entries is valid
pub valid_at : (entries : List Entry) (i : ℕ) (entry : Entry) → i < length entries
    → entry ≡ get_or entries i entry → IsTrue (list_all is_valid (entries_of entries))
    → IsTrue (is_valid (entry_of entry))
valid_at entries i entry there is all =
    let p : Entry → Bool = λ e. is_valid (entry_of e) in
    let each : list_all p entries ≡ true = sym (list_all-map is_valid entry_of entries) ∙ all in
    ap p is ∙ elim (p (get_or entries i entry)) as (λ b. p (get_or entries i entry) ≡ b → b ≡ true) [
      | true ↦ λ _. refl
      | false ↦ λ no. absurd (cc_no (sym each ∙ list_all_at p entries i entry there no))
    ] refl

-- ---- one offer

-- an entry that is taken waits
pub offer_taken : {D : Type 0} (old new : ArchiveState D) (dropped : Dropped) (entry : terms.Entry)
    → refusal old entry ≡ None → new ≡ with_waiting old entry
    → offered new dropped ≡ after_offer (offered old dropped) entry
offer_taken {D} old new dropped entry none is =
    ap (λ (a : ArchiveState D). offered a dropped) is
    ∙ sym (ap (by_refusal (offered old dropped) entry) none)

dropped_by : {D : Type 0} (old new : ArchiveState D) (before after : Dropped) (entry : terms.Entry)
    (fault : OfferFault) (cause : Option OfferFault) → IsRefusal cause fault
    → (fault ≡ offers.Memory → ⊥) → new ≡ old → after ≡ with_refusal before fault
    → offered new after ≡ by_refusal (offered old before) entry cause
dropped_by old new before after entry fault None is other same added = absurd (other is)
dropped_by {D} old new before after entry fault (Some why) is other same added =
    ap (λ (a : ArchiveState D). offered a after) same
    ∙ ap (offered old) (added ∙ ap (with_refusal before) is)

-- an entry that is refused is dropped
pub offer_dropped : {D : Type 0} (old new : ArchiveState D) (before after : Dropped)
    (entry : terms.Entry) (fault : OfferFault) → IsRefusal (refusal old entry) fault
    → (fault ≡ offers.Memory → ⊥) → new ≡ old → after ≡ with_refusal before fault
    → offered new after ≡ after_offer (offered old before) entry
offer_dropped old new before after entry fault is other same added =
    dropped_by old new before after entry fault (refusal old entry) is other same added

-- what waits stays valid
pub valid_more : (waiting : List terms.Entry) (entry : terms.Entry)
    → IsTrue (list_all is_valid waiting) → IsTrue (is_valid entry)
    → IsTrue (list_all is_valid (waiting ++ entry ∷ []))
valid_more waiting entry all one = list_all-append is_valid waiting (entry ∷ []) ∙ rw (all, one) refl

-- an archive to which more was offered has the same file
pub same_file : {D : Type 0} (start old new : ArchiveState D) (entry : terms.Entry)
    → old ≡ record start { times = old.times; waiting = old.waiting } → new ≡ with_waiting old entry
    → new ≡ record start { times = new.times; waiting = new.waiting }
same_file {D} start old new entry was is =
    subst (λ (a : ArchiveState D). a ≡ record start { times = a.times; waiting = a.waiting })
    (sym is) (ap (λ (a : ArchiveState D). with_waiting a entry) was)

-- a step that dropped more has told no other thing
pub told_so : (start old new : Recorded) (dropped : Dropped)
    → old ≡ with_dropped start (dropped_of old) → new ≡ with_dropped old dropped
    → new ≡ with_dropped start (dropped_of new)
told_so start old new dropped was is =
    subst (λ (r : Recorded). r ≡ with_dropped start (dropped_of r)) (sym is)
    (ap (λ (r : Recorded). with_dropped r dropped) was)

not_waiting : (a b w l : Bool) (n f : ℕ) (fault : OfferFault) → w ≡ false
    → IsRefusal (if a then Some offers.Backward else if b then Some offers.TooLong
    else if w then Some offers.Waiting else if l then Some (offers.Full n f) else None) fault
    → fault ≡ offers.Waiting → ⊥
not_waiting true b w l n f fault other is waits =
    let e : offers.Backward ≡ offers.Waiting = sym is ∙ waits in absurd cc
not_waiting false true w l n f fault other is waits =
    let e : offers.TooLong ≡ offers.Waiting = sym is ∙ waits in absurd cc
not_waiting false false true l n f fault other is waits = absurd cc
not_waiting false false false true n f fault other is waits =
    let e : offers.Full n f ≡ offers.Waiting = sym is ∙ waits in absurd cc
not_waiting false false false false n f fault other is waits =
    let e : offers.Memory ≡ offers.Waiting = sym is ∙ waits in absurd cc

-- where fewer than 256 entries wait, none is refused because so many do
pub has_room : {D : Type 0} (old : ArchiveState D) (entry : terms.Entry) (fault : OfferFault)
    → IsRefusal (refusal old entry) fault → length old.waiting < 256
    → fault ≡ offers.Waiting → ⊥
has_room old entry fault is few =
    not_waiting (not (is_in_order old.times.frame old.times.seal entry)) (not (is_short entry))
    (nat_le 256 (length old.waiting)) (nat_lt (free old) (need old.waiting entry))
    (need old.waiting entry) (free old) fault (grind arith) is
