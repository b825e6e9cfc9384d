-- The calls of an archive as events of the world's file.
use Rattle.std.proofs.Common.{◌≡◌, ◌⊎◌, ℕ, zero, suc, ◌+◌, ◌-◌, Bool, true, false, ◌&&◌, IsTrue, Option}
use Rattle.std.proofs.Common.{Some, None, List, [], ◌∷◌, ◌++◌, length, take, refl, sym, ap, subst, ◌∙◌}
use Rattle.std.proofs.Common.{append_assoc, append-nil, inl, inr, arith, not}
use Rattle.std.proofs.Common.{if◌then◌else◌}
use Rattle.std.proofs.lemmas.List.{take_all}
use Rattle.archive_terms.specs.Archive.{Entry, IsArchive, frame_time, seal_time, last_time}
use Rattle.archive_terms.specs.Archive.{is_in_order, is_storable, is_valid, is_short, may_follow}
use Rattle.disk_model.specs.Images.{Pending}
use Rattle.disk_model.specs.Moments.{HoldsThroughout}
use Rattle.gate_journal.specs.File.{StandsFor}
use Rattle.gate_journal.specs.JournalState.{IsOldOrNew}
use Rattle.frame_archive.specs.State.{ArchiveState, failed_batch, refusal}
use Rattle.frame_archive.specs.State.{times_of}
use Rattle.frame_archive.specs.declared.fault.OfferFault.{OfferFault}
use Rattle.frame_archive.specs.declared.fault.OfferFault.TheVariants.{Backward, TooLong}
use Rattle.gate_journal.specs.declared.order.Times.{Times}
use Rattle.frame_archive.specs.Acknowledges.{Acknowledges}
use Rattle.frame_archive.specs.Run.{Adds}
use Rattle.station_book.specs.State.{Opening}
use Rattle.station_world.specs.File.{File, Phase, settled, acknowledged}
use Rattle.station_world.specs.File.{batch_of, IsListOf, in_a_store, with_kept, Finding, with_batch}
use Rattle.station_world.specs.File.{without_batch, recovered, found_by}
use Rattle.station_world.specs.Life.{Life}
use Rattle.station_world.specs.World.{World, reopens, restarts, after_events}
use Rattle.station_world.specs.Comes.{IsUp, Lives, is_settled, AllCome}
use Rattle.station_world.specs.Archives.{Holds, StandsForOne, AreEvents, ArchiveLaw}
use Rattle.station_world.proofs.Lists.{and_both}

-- the two laws that this rests on
abbrev pub Follows : Type 0
Follows = (a : List Entry) (e : Entry) → IsArchive a →
    let last_frame = last_time frame_time None a in
    let last_seal = last_time seal_time None a in
    may_follow a e ≡ (is_storable e && is_in_order last_frame last_seal e)

abbrev pub OneList : Type 0
OneList = (one other : List Entry) (file : List ℕ) → StandsFor one file → StandsFor other file
    → one ≡ other

-- ---- images

stands_for_one : (f : File) (batch : List Entry) (image : List ℕ) → batch ≡ batch_of f.phase
    → IsOldOrNew (acknowledged f) batch image → StandsForOne f image
stands_for_one f batch image is (inl old) =
    record { entries = acknowledged f; one = inl refl; stands = old }
stands_for_one f batch image is (inr new) = record {
  entries = acknowledged f ++ batch;
  one = inr (ap (λ (xs : List Entry). acknowledged f ++ xs) is);
  stands = new;
}

-- what holds of each image throughout, and what follows from it
pub throughout : {D : Type 0} (moment : D → ℕ) (images_since : D → ℕ → List ℕ → Type 0) (old new : D)
    (P Q : List ℕ → Type 0) → ((image : List ℕ) → P image → Q image)
    → HoldsThroughout moment images_since old new P → HoldsThroughout moment images_since old new Q
throughout moment images_since old new P Q weaker holds = record {
  later = holds.later;
  each = λ image is. weaker image (holds.each image is);
  before = λ since image earlier is. by since image (holds.before since image earlier is);
}
  where
    by : (since : ℕ) (image : List ℕ) → images_since old since image ⊎ P image
        → images_since old since image ⊎ Q image
    by since image (inl before) = inl before
    by since image (inr now) = inr (weaker image now)

-- ---- calls

not_refused : (b c : Bool) (rest : Option OfferFault)
    → (if not b then Some Backward else if not c then Some TooLong else rest) ≡ None
    → (b ≡ true) × (c ≡ true)
not_refused true true rest is = (refl, refl)
not_refused true false rest is = absurd cc
not_refused false c rest is = absurd cc

up : (w : World) (l : Life) → w.now ≡ Some l → IsUp w
up w l is = subst (λ (o : Option Life). Lives o (λ _. Unit {0})) (sym is) tt

none_of : (n : ℕ) (xs : List Entry) → xs ≡ [] → take n xs ≡ []
none_of zero xs is = refl
none_of (suc n) xs is = ap (take (suc n)) is

settled_is : (phase : Phase) → phase ≡ settled → IsTrue (is_settled phase)
settled_is phase is = subst (λ (p : Phase). IsTrue (is_settled p)) (sym is) refl

module _ (follows : Follows) (one_list : OneList) {D : Type 0} (pending : D → Option Pending) where
  gained : (old new : ArchiveState D) (f : File) (more : List Entry) → Holds pending old f
      → Adds pending old new more → new.waiting ≡ [] → Holds pending new (with_kept f more)
  gained old new f more holds adds none = record {
    acknowledges = subst (Acknowledges pending new) (append_assoc f.found f.kept more)
        (adds (acknowledged f) holds.acknowledges);
    waits = none;
    batch = none_of new.failed new.waiting none;
    idle = refl;
    open_ = λ _. refl;
  }

  -- an entry that isn't refused may follow those that are acknowledged and wait
  may_be_taken : (archive : ArchiveState D) (f : File) (entry : Entry) → Holds pending archive f
      → IsTrue (is_valid entry) → refusal archive entry ≡ None
      → IsTrue (may_follow (acknowledged f ++ f.waiting) entry)
  may_be_taken archive f entry holds valid taken =
      let a : List Entry = acknowledged f ++ f.waiting in
      let agrees = holds.acknowledges.agrees in
      let whole : IsArchive a =
      subst (λ (xs : List Entry). IsArchive (acknowledged f ++ xs)) holds.waits agrees.archive in
      let times : archive.times ≡ times_of a =
      agrees.last ∙ ap (λ (xs : List Entry). times_of (acknowledged f ++ xs)) holds.waits in
      let good = not_refused (is_in_order archive.times.frame archive.times.seal entry)
      (is_short entry) _ taken in
      subst IsTrue (sym (follows a entry whole))
      (and_both (is_storable entry) _ (and_both (is_valid entry) (is_short entry) valid good.1)
      (subst (λ (t : Times). IsTrue (is_in_order t.frame t.seal entry)) times good.0))

  -- what landed is all of the batch that was broken off, or nothing
  landed_one : (old new : ArchiveState D) (landed : List Entry) → Adds pending old new landed
      → landed ≡ take (new.count - old.count) old.waiting → new.waiting ≡ []
      → (new.count ≡ old.count) ⊎ (new.count ≡ old.count + old.failed)
      → (finding : Finding) × AreEvents pending old new (reopens finding ∷ [])
  landed_one old new landed adds is none (inl same) =
      let none_more : new.count - old.count ≡ 0 = omega (arith, same) in (
        without_batch,
        λ w l now holds. (
          ((holds.idle, up w l now), tt),
          subst (λ (xs : List Entry). Holds pending new (with_kept w.file xs))
              (is ∙ ap (λ n. take n old.waiting) none_more)
              (gained old new w.file landed holds adds none),
        ),
      )
  landed_one old new landed adds is none (inr grown) =
      let all_more : new.count - old.count ≡ old.failed = omega (arith, grown) in (
        with_batch,
        λ w l now holds. (
          ((holds.idle, up w l now), tt),
          subst (λ (xs : List Entry). Holds pending new (with_kept w.file xs))
              (is ∙ ap (λ n. take n old.waiting) all_more ∙ holds.batch)
              (gained old new w.file landed holds adds none),
        ),
      )

  rests : (archive : ArchiveState D) (found : List Entry) → Acknowledges pending archive found
      → archive.waiting ≡ [] → Holds pending archive (recovered found)
  rests archive found holds none = record {
    acknowledges = subst (Acknowledges pending archive) (sym (append-nil found)) holds;
    waits = none;
    batch = none_of archive.failed archive.waiting none;
    idle = refl;
    open_ = λ _. refl;
  }

  -- a recovery finds the one of the file's lists that the content stands for
  found_one : (archive : ArchiveState D) (found entries : List Entry) (o : Opening) (w : World)
      → w.now ≡ None → IsListOf w.file entries → found ≡ entries
      → Holds pending archive (recovered found)
      → (finding : Finding) × (found_by w.file finding ≡ Some found)
      × AllCome w (restarts o finding ∷ [])
      × Holds pending archive (after_events w (restarts o finding ∷ [])).file
  found_one archive found entries o w none (inl is) same holds = (
    without_batch,
    ap Some (sym (same ∙ is)),
    (none, tt),
    subst (λ (xs : List Entry). Holds pending archive (recovered xs)) (same ∙ is) holds,
  )
  found_one archive found entries o w none (inr is) same holds = (
    with_batch,
    ap Some (sym (same ∙ is)),
    (none, tt),
    subst (λ (xs : List Entry). Holds pending archive (recovered xs)) (same ∙ is) holds,
  )

  pub archive_law : ArchiveLaw pending
  archive_law = record {
    offered = λ old new entry valid taken is same keeps w l now holds. (
      ((holds.idle, may_be_taken old w.file entry holds valid taken, up w l now), tt),
      record {
        acknowledges = keeps (acknowledged w.file) holds.acknowledges;
        waits = ap (λ (a : ArchiveState D). a.waiting) is
            ∙ ap (λ (xs : List Entry). xs ++ entry ∷ []) holds.waits;
        batch = same ∙ holds.batch;
        idle = holds.idle;
        open_ = λ fresh. holds.open_ (sym (ap (λ (a : ArchiveState D). a.is_stale) is) ∙ fresh);
      },
    );
    stored = λ old new fresh adds is w l now holds. (
      ((settled_is w.file.phase (holds.open_ fresh), up w l now), ((refl, up w l now), tt)),
      subst (λ (xs : List Entry). Holds pending new (with_kept w.file xs)) holds.waits
          (gained old new w.file old.waiting holds adds
          (ap (λ (a : ArchiveState D). a.waiting) is)),
    );
    failed = λ old new fresh keeps is w l now holds. (
      ((settled_is w.file.phase (holds.open_ fresh), up w l now), ((refl, up w l now), tt)),
      record {
        acknowledges = keeps (acknowledged w.file) holds.acknowledges;
        waits = ap (λ (a : ArchiveState D). a.waiting) is ∙ holds.waits;
        batch = ap failed_batch is ∙ take_all (length old.waiting) old.waiting (omega arith)
            ∙ holds.waits;
        idle = refl;
        open_ = λ fresh_again.
            let stale : new.is_stale ≡ true = ap (λ (a : ArchiveState D). a.is_stale) is in
            absurd cc;
      },
    );
    reopened = λ old new landed adds is whole none.
        landed_one old new landed adds is none whole;
    refused = λ old new keeps is w l now holds. (
      ((holds.idle, up w l now), tt),
      record {
        acknowledges = keeps (acknowledged w.file) holds.acknowledges;
        waits = ap (λ (a : ArchiveState D). a.waiting) is ∙ holds.waits;
        batch = ap failed_batch is ∙ holds.batch;
        idle = holds.idle;
        open_ = λ fresh_again.
            let stale : new.is_stale ≡ true = ap (λ (a : ArchiveState D). a.is_stale) is in
            absurd cc;
      },
    );
    opened = λ archive found content o w none one uses acknowledges empty.
        found_one archive found one.entries o w none one.one
        (one_list found one.entries content (uses.0, uses.2) one.stands)
        (rests archive found acknowledges empty);
    images = λ archive f image holds is.
        stands_for_one f (failed_batch archive) image holds.batch
        (holds.acknowledges.images image is);
    images_in_a_store = λ f image is. stands_for_one (in_a_store f) f.waiting image refl is;
    images_without_power = λ f image one. record {
      entries = one.entries;
      one = one.one;
      stands = one.stands;
    };
  }
