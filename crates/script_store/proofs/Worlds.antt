-- What the lines of an entry leave of a world.
use Rattle.std.proofs.Common.{◌≡◌, ◌⊎◌, inl, inr, ℕ, ◌<◌, Bool, true, false, nat_lt, Option, Some}
use Rattle.std.proofs.Common.{None, option_map, List, [], ◌∷◌, ◌++◌, length, refl, sym, ap, subst}
use Rattle.std.proofs.Common.{◌∙◌, ⊎_elim, arith}
use Rattle.std.proofs.lemmas.Bool.Decides.{nat_tests}
use Rattle.std.specs.Option.{IfSome}
use Rattle.std.proofs.lemmas.List.Sums.{fold_push}
use Rattle.archive_terms.specs.Archive.{Entry}
use Rattle.record_form.specs.Entry.{entry_of}
use Rattle.record_form.specs.declared.entry.Entry as form
use Rattle.disk_model.specs.Images.{Pending}
use Rattle.disk_model.specs.Calls.{AllMade}
use Rattle.disk_model.specs.MemoryDisk.{DiskState, IsMadeCall, pending_of, fresh}
use Rattle.disk_model.specs.declared.call.Call.TheVariants.{Sync}
use Rattle.gate_journal.specs.JournalState.{Keeps, creating}
use Rattle.gate_journal.specs.File.{StandsAt}
use Rattle.gate_journal.specs.declared.order.Times.{Times}
use Rattle.frame_archive.specs.State.{ArchiveState, at_rest, times_of, times_after}
use Rattle.frame_archive.specs.Acknowledges.{Acknowledges, Uses}
use Rattle.script_store.specs.declared.order.Order.{Order}
use Rattle.script_store.specs.declared.refusal.Refusal.{Refusal}
use Rattle.script_store.specs.declared.step_done.StepDone.TheVariants.{Fine}
use Rattle.script_store.specs.Store.{Store}
use Rattle.script_store.specs.Answer.{Answer}
use Rattle.script_store.specs.Orders.{order_behind}
use Rattle.script_store.specs.Entries.{refusal, stores_under, by_refusal, offer}
use Rattle.script_store.specs.IsHeld.{told_by, Rests, HoldsAllOrNone, begun_list, IsHeld, fault_of}
use Rattle.script_store.specs.Stopped.{IsLeft}
use Rattle.script_store.proofs.Disks.{calm_after}
use Rattle.script_store.specs.Storing.{taken_of}
use Rattle.script_store.proofs.WorldArchives.{AtRestStands, none_stored, alone, empty_place}
use Rattle.script_store.proofs.WorldArchives.{OrderIsSeen, same_refusal}
use Rattle.script_store.proofs.WorldArchives as held
use Rattle.script_store.proofs.Taken.{taken_list, refused_list}
use Rattle.frame_archive.specs.State as archives
use Rattle.frame_archive.specs.Faults.{IsRefusal}
use Rattle.frame_archive.specs.declared.fault.OfferFault.{OfferFault}
use Rattle.std.proofs.lemmas.List.{length_push}

-- what is kept is what a recovery finds
abbrev pub FindsKept : Type 0
FindsKept = (pending : Option Pending) (entries found : List Entry) (gate : ℕ)
    → Keeps pending entries → IfSome pending (λ told. StandsAt found gate told.content)
    → found ≡ entries

-- ---- a new world

pub held_new : FindsKept → AtRestStands → (blank made opened : DiskState) → blank ≡ fresh []
    → AllMade IsMadeCall blank creating made → opened ≡ made → Keeps (told_by made) []
    → (capacity : ℕ) (entries : List Entry) (archive : ArchiveState DiskState)
    → archive ≡ at_rest archive.disk capacity archive.used entries
    → Uses entries archive.used (pending_of opened).content
    → Acknowledges told_by archive entries
    → AllMade IsMadeCall opened (Sync ∷ []) archive.disk → (published : List Entry)
    → published ≡ []
    → IsHeld archive published (record { frame = None; seal = None }) None None false
held_new finds stands blank made opened is_blank create same keeps capacity entries archive is_rest
    uses acknowledges sync published none_published =
    let there = rw same at uses in
    let none = finds (told_by made) [] entries there.0 keeps there.2 in
    let place = empty_place there.0 (pending_of made).content (rw none at there.2) in
    let calm = calm_after (Sync ∷ []) opened archive.disk
    (rw same (calm_after creating blank made (rw is_blank (record {
      runs = refl;
      unsteered = record { goes_on = refl; succeeds = refl; ample = refl };
    })) create)) sync in
    let rests : Rests archive [] = record {
      acknowledges = rw none at acknowledges;
      waits = cc;
      fresh = cc;
      used_are = omega (arith, there.1, place);
      runs = calm.runs;
      unsteered = calm.unsteered;
    } in
    rw none_published (record {
      ready = λ _. record { rests = rests; times_are = refl; none_begun = refl };
      images = none_stored stands archive [] [] rests [];
      to_come = tt;
    })

-- ---- an entry's store

module _ (state : Store) (entry : Entry) where
  abbrev store_ends : Answer Store
  store_ends = stores_under state entry state.order

  -- the entry is published then, or isn't
  pub next_published : (store_ends.next.published ≡ state.published ++ entry ∷ [])
      ⊎ (store_ends.next.published ≡ state.published)
  next_published = grind arith

  -- an entry that isn't refused is stored
  pub stored_so : None ≡ refusal state entry → store_ends ≡ offer state entry
  stored_so is = ap (by_refusal state entry) is

  pub given_is : None ≡ refusal state entry → entry ∷ [] ≡ (offer state entry).given
  given_is is = rw (← stored_so is) (grind arith)

  pub done_is : None ≡ refusal state entry → Fine ≡ (offer state entry).done
  done_is is = rw (← stored_so is) (grind arith)

  -- a refused one changes nothing
  pub refused_so : (why : Refusal) → Some why ≡ refusal state entry
      → by_refusal state entry (Some why) ≡ offer state entry
  refused_so why is = ap (by_refusal state entry) is

  -- the state that the line of an entry leaves
  pub done_now : (capacity : ℕ) (published unsettled : List Entry) (order : Option Order)
      → None ≡ refusal state entry → capacity ≡ state.capacity
      → published ≡ store_ends.next.published → unsettled ≡ state.unsettled
      → order ≡ order_behind state.order
      → record {
        capacity = capacity;
        published = published;
        unsettled = unsettled;
        order = order;
      } ≡ (offer state entry).next
  done_now capacity published unsettled order taken capacity_is published_is unsettled_is order_is =
      rw (← stored_so taken, capacity_is, published_is, unsettled_is, order_is) (grind arith)

-- what the archive takes of an entry is what its line gives to a store
module _ (seen : OrderIsSeen) (archive : ArchiveState DiskState) (state : Store)
    (rests : Rests archive state.published) (capacity : archive.capacity ≡ state.capacity)
    (entry : Entry) where
  same_cause : (found : Option Refusal) → refusal state entry ≡ found
      → archives.refusal archive entry ≡ option_map fault_of found
  same_cause found is = same_refusal seen archive state rests capacity entry
      ∙ ap (option_map fault_of) is

  given_by : (found : Option Refusal) → refusal state entry ≡ found
      → taken_of archive entry ≡ (offer state entry).given
  given_by None is =
      taken_list archive entry rests.waits (same_cause None is) ∙ given_is state entry (sym is)
  given_by (Some why) is =
      refused_list archive entry rests.waits (fault_of why) (same_cause (Some why) is)
      ∙ ap (λ (a : Answer Store). a.given) (refused_so state entry why (sym is))

  pub given_taken : taken_of archive entry ≡ (offer state entry).given
  given_taken = given_by (refusal state entry) refl

  pub why_so : (why : Refusal) → archives.refusal archive entry ≡ Some (fault_of why)
      → Some why ≡ refusal state entry
  why_so why is = held.refused_so (refusal state entry) (fault_of why) why
      (subst (λ (o : Option OfferFault). IsRefusal o (fault_of why))
      (same_refusal seen archive state rests capacity entry) (rw is refl)) refl

-- a refused entry leaves what was stored before
pub refused_next : (state : Store) (entry : Entry) (why : Refusal) (capacity : ℕ)
    (unsettled : List Entry) → Some why ≡ refusal state entry → capacity ≡ state.capacity
    → unsettled ≡ state.unsettled
    → record {
      capacity = capacity;
      published = state.published;
      unsettled = unsettled;
      order = state.order;
    } ≡ (offer state entry).next
refused_next state entry why capacity unsettled is same none =
    rw (same, none) (ap (λ (a : Answer Store). a.next) (refused_so state entry why is))

-- the order behind a store is for a call to come
pub still_to_come : (order : Option Order) → IfSome order (λ o. 0 < o.calls)
    → IfSome (order_behind order) (λ o. 0 < o.calls)
still_to_come order some = grind (arith, nat_tests)

-- the last times of what is published then
pub times_next : (published next : List Entry) (entry : Entry) (before now : Times)
    (count : ℕ) (is_kept : Bool) → before ≡ times_of published → count ≡ length published
    → (next ≡ published ++ entry ∷ []) ⊎ (next ≡ published)
    → nat_lt count (length next) ≡ is_kept
    → (is_kept ≡ true → now ≡ times_after before entry)
    → (is_kept ≡ false → now ≡ before) → now ≡ times_of next
times_next published next entry before now count is_kept before_are counted (inl more) test kept
    lost =
    let long = length_push published entry in
    let yes : is_kept ≡ true = grind (arith, nat_tests, test, counted, more, long) in
    rw (kept yes, before_are, more) (simp fold_push)
times_next published next entry before now count is_kept before_are counted (inr same) test kept
    lost =
    let no : is_kept ≡ false = grind (arith, nat_tests, test, counted, same) in
    rw (lost no, before_are, same) refl

-- a world that is spent
pub held_spent : (archive : ArchiveState DiskState) (published : List Entry) (times : Times)
    (begun : Option form.Entry) (order : Option Order)
    → HoldsAllOrNone archive.disk published (begun_list begun)
    → IfSome order (λ o. 0 < o.calls) → IsHeld archive published times begun order true
held_spent archive published times begun order images to_come = record {
  ready = λ no. absurd cc;
  images = images;
  to_come = to_come;
}

-- a world whose power failed between two calls
pub held_found : (archive : ArchiveState DiskState) (published found : List Entry) (times : Times)
    (begun : Option form.Entry) (order : Option Order) → AtRestStands → found ≡ published
    → Rests archive published → times ≡ times_of published → begun ≡ None
    → IfSome order (λ o. 0 < o.calls) → IsHeld archive found times begun order false
held_found archive published found times begun order stands same rests times_are none to_come =
    rw same (record {
      ready = λ _. record { rests = rests; times_are = times_are; none_begun = none };
      images = none_stored stands archive published [] rests (begun_list begun);
      to_come = to_come;
    })

-- a world whose store is over
pub held_next : (archive : ArchiveState DiskState) (published : List Entry) (times : Times)
    (order : Option Order) → AtRestStands → Rests archive published → times ≡ times_of published
    → IfSome order (λ o. 0 < o.calls) → IsHeld archive published times None order false
held_next archive published times order stands rests times_are to_come =
    held_found archive published published times None order stands refl rests times_are refl to_come

-- behind a store the file holds all or nothing of its entry
pub settled_images : AtRestStands → (archive : ArchiveState DiskState) (state : Store)
    (one entry : form.Entry) → one ≡ entry
    → Rests archive (stores_under state (entry_of entry) state.order).next.published
    → HoldsAllOrNone archive.disk state.published (entry_of one ∷ [])
settled_images stands archive state one entry same rests = rw same (λ image is.
    let there = alone stands archive
    (stores_under state (entry_of entry) state.order).next.published [] rests image is in
    ⊎_elim (λ more. inr (rw more at there)) (λ none. inl (rw none at there))
    (next_published state (entry_of entry)))

-- what is left where the store of an entry, or its publishing, wants memory
pub left_begun : (state : Store) (disk after : DiskState) (was_spent : Bool) (capacity : ℕ)
    (one entry : form.Entry) → capacity ≡ state.capacity → one ≡ entry
    → None ≡ refusal state (entry_of entry)
    → IsLeft (record { state = state; disk = disk; is_spent = was_spent })
    (offer state (entry_of entry)).given (record {
      state = record {
        capacity = capacity;
        published = state.published;
        unsettled = entry_of one ∷ [];
        order = state.order;
      };
      disk = after;
      is_spent = true;
    })
left_begun state disk after was_spent capacity one entry capacity_is same taken = record {
  published = refl;
  capacity = capacity_is;
  order = refl;
  unsettled = inr (rw same (given_is state (entry_of entry) taken));
}
