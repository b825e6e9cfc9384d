-- What a disk holds of an archive, before and after its calls.
use Rattle.std.proofs.Common.{◌≡◌, inl, inr, ℕ, ◌+◌, ◌≤◌, ◌-◌, ◌⊎◌, Bool}
use Rattle.std.proofs.Common.{◌∷◌, true, false, Option, Some, None, is_some}
use Rattle.std.proofs.Common.{IfSome, IsSomeAnd, List, [], ◌++◌, length, take, refl, sym, ap, subst}
use Rattle.std.proofs.Common.{◌∙◌, arith, length-append}
use Rattle.std.proofs.lemmas.List.{take_all, take-append-le, length-take-le, append-nil}
use Rattle.archive_terms.specs.Archive.{Entry, IsArchive}
use Rattle.disk_model.specs.Images.{Pending, IsCoherent}
use Rattle.disk_model.specs.Moments.{IsImageOf, HoldsThroughout}
use Rattle.gate_journal.specs.File.{StandsFor, StandsAt, entries_octets}
use Rattle.disk_model.specs.declared.call.Call.{Call}
use Rattle.disk_model.specs.Calls.{FailedAtOne}
use Rattle.gate_journal.specs.JournalState.{JournalState, Keeps, IsOldOrNew, appending}
use Rattle.gate_journal.specs.JournalState as journal
use Rattle.gate_journal.specs.declared.fault.JournalFault.{JournalFault}
use Rattle.gate_journal.specs.declared.order.Times.{Times}
use Rattle.frame_archive.specs.State.{ArchiveState, failed_batch, times_of, wanted}
use Rattle.frame_archive.specs.Acknowledges.{Agrees, Acknowledges, IsSound}
use Rattle.frame_archive.specs.Faults.{IsUnread, opening_fault}

pub agrees_alone : (entries : List Entry) → IsArchive entries
    → Agrees entries (length entries) (times_of entries) []
agrees_alone entries archive = record {
  counted = refl;
  archive = subst IsArchive (sym (append-nil entries)) archive;
  last = ap times_of (sym (append-nil entries));
}

pub agrees_stored : (entries waiting : List Entry) (count : ℕ) (times : Times)
    → Agrees entries count times waiting
    → Agrees (entries ++ waiting) (count + length waiting) times []
agrees_stored entries waiting count times agrees = record {
  counted = length-append entries waiting ∙ ap (λ (n : ℕ). n + length waiting) agrees.counted;
  archive = subst IsArchive (sym (append-nil (entries ++ waiting))) agrees.archive;
  last = agrees.last ∙ ap times_of (sym (append-nil (entries ++ waiting)));
}

pub kept_archive : (pending : Option Pending) (entries : List Entry) → Keeps pending entries
    → IsArchive entries
kept_archive (Some told) entries keeps = keeps.1.1.leads.archive
kept_archive None entries keeps = absurd keeps

pub kept_tells : (pending : Option Pending) (entries : List Entry) → Keeps pending entries
    → is_some pending ≡ true
kept_tells (Some told) entries keeps = refl
kept_tells None entries keeps = absurd keeps

module _ (at_rest_stands : (pending : Option Pending) (entries : List Entry) (image : List ℕ)
    → Keeps pending entries → IsImageOf pending image → StandsFor entries image) where
  -- all is synced
  pub acknowledges_kept : {D : Type 0} (pending : D
      → Option Pending) (archive : ArchiveState D) (entries : List Entry)
      → Agrees entries archive.count archive.times archive.waiting
      → Keeps (pending archive.disk) entries → Acknowledges pending archive entries
  acknowledges_kept pending archive entries agrees keeps = record {
    agrees = agrees;
    tells = kept_tells (pending archive.disk) entries keeps;
    images = λ image is. inl (at_rest_stands (pending archive.disk) entries image keeps is);
    kept = λ fresh. keeps;
  }

module _ {D : Type 0} (pending : D → Option Pending) (moment : D → ℕ) (images_since : D → ℕ → List ℕ
    → Type 0)
    (counts_now : (disk : D) (since : ℕ) (image : List ℕ) → since ≤ moment disk
    → IsImageOf (pending disk) image → images_since disk since image) where
  -- a store failed
  pub acknowledges_failed : (archive : ArchiveState D) (new : D) (given : ℕ) (entries : List Entry)
      → given ≡ length archive.waiting → is_some (pending new) ≡ is_some (pending archive.disk)
      → HoldsThroughout moment images_since archive.disk new (IsOldOrNew entries archive.waiting)
      → Acknowledges pending archive entries
      → Acknowledges pending (record archive { disk = new; failed = given; is_stale = true })
      entries
  acknowledges_failed archive new given entries all tells during old = record {
    agrees = old.agrees;
    tells = tells ∙ old.tells;
    images = λ image is. subst (λ (batch : List Entry). IsOldOrNew entries batch image)
        (sym (take_all given archive.waiting (omega (arith, all))))
        (during.each image (counts_now new (moment archive.disk) image during.later is));
    kept = λ fresh. absurd (cc);
  }

  -- a reopen was refused
  pub acknowledges_refused : (archive : ArchiveState D) (new : D) (entries : List Entry)
      → is_some (pending new) ≡ is_some (pending archive.disk)
      → HoldsThroughout moment images_since archive.disk new (IsImageOf (pending archive.disk))
      → Acknowledges pending archive entries
      → Acknowledges pending (record archive { disk = new; is_stale = true }) entries
  acknowledges_refused archive new entries tells during old = record {
    agrees = old.agrees;
    tells = tells ∙ old.tells;
    images = λ image is. old.images image (during.each image
        (counts_now new (moment archive.disk) image during.later is));
    kept = λ fresh. absurd (cc);
  }

-- a batch that waits follows what is kept
pub follows_kept : (law : (pending : Option Pending) (stored batch entries : List Entry)
    → Keeps pending stored → IsArchive (stored ++ batch) → Keeps pending entries
    → IsArchive (entries ++ batch))
    (pending : Option Pending) (count : ℕ) (times : Times) (waiting : List Entry)
    → IfSome pending (λ _. (entries : List Entry) × Keeps pending entries
    × Agrees entries count times waiting)
    → (entries : List Entry) → Keeps pending entries → IsArchive (entries ++ waiting)
follows_kept law (Some told) count times waiting open_ entries keeps =
    law (Some told) open_.0 waiting entries open_.1 open_.2.archive keeps
follows_kept law None count times waiting open_ entries keeps = absurd keeps

pub kept_stored : (old new : Option Pending) (count : ℕ) (times : Times) (waiting : List Entry)
    → is_some new ≡ is_some old
    → IfSome old (λ _. (entries : List Entry) × Keeps old entries
    × Agrees entries count times waiting)
    → ((entries : List Entry) → Keeps old entries → Keeps new (entries ++ waiting))
    → IfSome new (λ _. (entries : List Entry) × Keeps new entries
    × Agrees entries (count + length waiting) times [])
kept_stored old None count times waiting tells open_ appended = tt
kept_stored (Some told) (Some now) count times waiting tells open_ appended = (
  open_.0 ++ waiting,
  appended open_.0 open_.1,
  agrees_stored open_.0 waiting count times open_.2,
)
kept_stored None (Some now) count times waiting tells open_ appended = absurd (cc)

-- what was just read is kept
pub kept_found : (old new : Option Pending) (found : List Entry) → is_some new ≡ is_some old
    → IfSome old (λ _. Keeps new found)
    → IfSome new (λ _. (entries : List Entry) × Keeps new entries
    × Agrees entries (length found) (times_of found) [])
kept_found old None found tells keeps = tt
kept_found (Some told) (Some now) found tells keeps =
    (found, keeps, agrees_alone found (kept_archive (Some now) found keeps))
kept_found None (Some now) found tells keeps = absurd (cc)

module _ (one_list : (one other : List Entry) (file : List ℕ) → StandsFor one file
    → StandsFor other file → one ≡ other) where
  by_list : (entries batch found : List Entry) (file : List ℕ) → StandsFor found file
      → IsOldOrNew entries batch file → (found ≡ entries) ⊎ (found ≡ entries ++ batch)
  by_list entries batch found file stands (inl is) = inl (one_list found entries file stands is)
  by_list entries batch found file stands (inr is) =
      inr (one_list found (entries ++ batch) file stands is)

  found_in : (pending : Option Pending) (entries batch found : List Entry)
      → IfSome pending IsCoherent → IfSome pending (λ told. StandsFor found told.content)
      → is_some pending ≡ true → ((image : List ℕ) → IsImageOf pending image
      → IsOldOrNew entries batch image) → (found ≡ entries) ⊎ (found ≡ entries ++ batch)
  found_in (Some told) entries batch found coherent stands tells images =
      by_list entries batch found told.content stands (images told.content coherent.content)
  found_in None entries batch found coherent stands tells images = absurd (cc)

  -- the file stands for the acknowledged entries, or for these and the batch of the failed store
  pub either_of : {D : Type 0} (pending : D → Option Pending) (archive : ArchiveState D)
      (entries found : List Entry) → IfSome (pending archive.disk) IsCoherent
      → Acknowledges pending archive entries
      → IfSome (pending archive.disk) (λ told. StandsFor found told.content)
      → (found ≡ entries) ⊎ (found ≡ entries ++ failed_batch archive)
  either_of pending archive entries found coherent old stands =
      found_in (pending archive.disk) entries (failed_batch archive) found coherent stands old.tells
      old.images

-- so many of the failed store's entries landed: all or none
pub landed_are : (entries found waiting : List Entry) (count failed landed : ℕ)
    → length entries ≡ count → failed ≤ length waiting → length found ≡ count + landed
    → (found ≡ entries) ⊎ (found ≡ entries ++ take failed waiting)
    → found ≡ entries ++ take landed waiting
landed_are entries found waiting count failed landed counted few is (inl same) =
    let none : landed ≡ 0 = omega (arith, ap length same) in
    same ∙ sym (append-nil entries) ∙ ap (λ (n : ℕ). entries ++ take n waiting) (sym none)
landed_are entries found waiting count failed landed counted few is (inr same) =
    let batch : length (take failed waiting) ≡ failed = length-take-le failed waiting few in
    let all : landed ≡ failed = omega (
      arith,
      ap length same,
      length-append entries (take failed waiting),
    ) in
    same ∙ ap (λ (n : ℕ). entries ++ take n waiting) (sym all)

-- and no other number of entries is found
pub neither_is : (entries found waiting : List Entry) (count failed : ℕ) → length entries ≡ count
    → failed ≤ length waiting
    → (found ≡ entries) ⊎ (found ≡ entries ++ take failed waiting)
    → (length found ≡ count) ⊎ (length found ≡ count + failed)
neither_is entries found waiting count failed counted few (inl same) =
    inl (ap length same ∙ counted)
neither_is entries found waiting count failed counted few (inr same) =
    let batch : length (take failed waiting) ≡ failed = length-take-le failed waiting few in
    inr (omega (arith, ap length same, length-append entries (take failed waiting)))

of_image : (entries batch : List Entry) (file : List ℕ) → IsOldOrNew entries batch file
    → (found : List Entry) × StandsFor found file
of_image entries batch file (inl is) = (entries, is)
of_image entries batch file (inr is) = (entries ++ batch, is)

stands_in : (pending : Option Pending) (entries batch : List Entry) → IfSome pending IsCoherent
    → is_some pending ≡ true
    → ((image : List ℕ) → IsImageOf pending image → IsOldOrNew entries batch image)
    → (found : List Entry) × IsSomeAnd pending (λ told. StandsFor found told.content)
stands_in (Some told) entries batch coherent tells images =
    of_image entries batch told.content (images told.content coherent.content)
stands_in None entries batch coherent tells images = absurd (cc)

-- some list stands in the file of a disk that tells
pub stands_one : {D : Type 0} (pending : D → Option Pending) (archive : ArchiveState D)
    (entries : List Entry) → IfSome (pending archive.disk) IsCoherent
    → Acknowledges pending archive entries → (found : List Entry)
    × IsSomeAnd (pending archive.disk) (λ told. StandsFor found told.content)
stands_one pending archive entries coherent old =
    stands_in (pending archive.disk) entries (failed_batch archive) coherent old.tells old.images

-- what waits was stored
pub sound_stored : {D : Type 0} (pending : D → Option Pending) (old new : JournalState D)
    (capacity count used used_now failed octets more : ℕ) (times : Times)
    (waiting next : List Entry) (is_stale : Bool) → is_stale ≡ false → new.is_stale ≡ false
    → more ≡ length waiting → used_now ≡ new.gate + 1 → next ≡ []
    → is_some (pending new.disk) ≡ is_some (pending old.disk)
    → ((entries : List Entry) → Keeps (pending old.disk) entries
    → Keeps (pending new.disk) (entries ++ waiting))
    → IsSound pending old capacity count used failed octets times waiting is_stale
    → IsSound pending new capacity (count + more) used_now failed 0 times next is_stale
sound_stored {D} pending old new capacity count used used_now failed octets more times waiting next
    is_stale now_open fresh more_is used_is next_is tells appended sound =
    let open_ = sound.open_ now_open in
    let none : failed ≡ 0 = open_.none_failed in
    subst (λ (l : List Entry). IsSound pending new capacity (count + more) used_now failed 0 times l
    is_stale) (sym next_is)
    (subst (λ (n : ℕ). IsSound pending new capacity (count + n) used_now failed 0 times [] is_stale)
    (sym more_is) (record {
      within = sound.within;
      waits = record {
        octets_are = refl;
        most = omega arith;
        storable = refl;
        some_failed = omega arith;
      };
      open_ = λ now. record {
        fresh = fresh;
        none_failed = none;
        used_are = used_is;
        fits = λ some. absurd (omega arith);
        few = λ some. absurd (omega arith);
        keeps = kept_stored (pending old.disk) (pending new.disk) count times waiting tells
            open_.keeps appended;
      };
      placed = λ stale. absurd (cc);
    }))

-- the calls of a store that failed
pub failed_at : {D : Type 0} (makes fails : D → Call → D
    → Type 0) (seen old : ArchiveState D) (gate : ℕ) (new : D) → seen ≡ old → seen.used ≡ gate + 1
    → FailedAtOne makes fails seen.disk (appending gate seen.waiting) new
    → FailedAtOne makes fails old.disk (appending (old.used - 1) old.waiting) new
failed_at {D} makes fails seen old gate new same used failed =
    let place : gate ≡ seen.used - 1 = omega arith in
    subst (λ (s : ArchiveState D). FailedAtOne makes fails s.disk (appending (s.used - 1) s.waiting)
    new) same
    (subst (λ (n : ℕ). FailedAtOne makes fails seen.disk (appending n seen.waiting) new) place
    failed)

-- what waits has a place in the file
pub fits_behind : (capacity used gate : ℕ) (waiting : List Entry) → 1 ≤ length waiting
    → used ≡ gate + 1 → (1 ≤ length waiting → used + wanted waiting ≤ capacity)
    → length (entries_octets waiting) + 7 ≤ capacity - (gate + 1)
fits_behind capacity used gate [] some used_is fits = absurd (omega arith)
fits_behind capacity used gate (first ∷ others) some used_is fits = omega (arith, fits some)

pub unread_opening : (fault : JournalFault) → journal.IsUnread fault
    → IsUnread (opening_fault fault)
unread_opening fault (inl disk) = inl (ap opening_fault disk)
unread_opening fault (inr memory) = inr (ap opening_fault memory)

pub stands_for : (pending : Option Pending) (found : List Entry) (gate : ℕ)
    → IfSome pending (λ told. StandsAt found gate told.content)
    → IfSome pending (λ told. StandsFor found told.content)
stands_for (Some told) found gate stands = (gate, stands)
stands_for None found gate stands = tt

where_told : {P : Type 0} (pending : Option Pending) → is_some pending ≡ true
    → IfSome pending (λ _. P) → P
where_told (Some told) tells fact = fact
where_told None tells fact = absurd (cc)

-- the file was read, and holds the acknowledged entries and what landed
pub acknowledges_found : ((pending : Option Pending) (entries : List Entry) (image : List ℕ)
    → Keeps pending entries → IsImageOf pending image → StandsFor entries image)
    → {D : Type 0} (pending : D → Option Pending) (archive new : ArchiveState D)
    (entries found landed : List Entry) (more : ℕ) → new.count ≡ length found
    → new.times ≡ times_of found
    → new.waiting ≡ [] → landed ≡ take more archive.waiting
    → found ≡ entries ++ take more archive.waiting
    → IfSome (pending archive.disk) (λ _. Keeps (pending new.disk) found)
    → Acknowledges pending archive entries → Acknowledges pending new (entries ++ landed)
acknowledges_found law pending archive new entries found landed more count_is times_are none
    landed_is found_is keeps old =
    let all : found ≡ entries ++ landed = found_is
    ∙ ap (λ (l : List Entry). entries ++ l) (sym landed_is) in
    let kept : Keeps (pending new.disk) found = where_told (pending archive.disk) old.tells keeps in
    let agrees : Agrees found new.count new.times new.waiting =
    subst (λ (l : List Entry). Agrees found new.count new.times l) (sym none)
    (subst (λ (t : Times). Agrees found new.count t []) (sym times_are)
    (subst (λ (n : ℕ). Agrees found n (times_of found) []) (sym count_is)
    (agrees_alone found (kept_archive (pending new.disk) found kept)))) in
    acknowledges_kept law pending new (entries ++ landed)
    (subst (λ (l : List Entry). Agrees l new.count new.times new.waiting) all agrees)
    (subst (Keeps (pending new.disk)) all kept)

take_front : (entries more : List Entry) → take (length entries) (entries ++ more) ≡ entries
take_front entries more = take-append-le (length entries) entries more (omega arith)
    ∙ take_all (length entries) entries (omega arith)

-- two lists of one length that begin one list, with or without a batch, are one list
same_front : (one other a b : List Entry) → length one ≡ length other → one ++ a ≡ other ++ b
    → one ≡ other
same_front one other a b long same =
    sym (take_front one a) ∙ ap (take (length one)) same ∙ ap (λ (n : ℕ). take n (other ++ b)) long
    ∙ take_front other b

module _ (one_list : (one other : List Entry) (file : List ℕ) → StandsFor one file
    → StandsFor other file → one ≡ other) where
  one_of : (one other batch : List Entry) (file : List ℕ) → length one ≡ length other
      → IsOldOrNew one batch file → IsOldOrNew other batch file → one ≡ other
  one_of one other batch file long (inl a) (inl b) = one_list one other file a b
  one_of one other batch file long (inr a) (inr b) =
      same_front one other batch batch long (one_list (one ++ batch) (other ++ batch) file a b)
  one_of one other batch file long (inl a) (inr b) =
      same_front one other [] batch long (append-nil one ∙ one_list one (other ++ batch) file a b)
  one_of one other batch file long (inr a) (inl b) =
      same_front one other batch [] long (one_list (one ++ batch) other file a b
      ∙ sym (append-nil other))

  one_in : (pending : Option Pending) (one other batch : List Entry) → length one ≡ length other
      → IfSome pending IsCoherent → is_some pending ≡ true
      → ((image : List ℕ) → IsImageOf pending image → IsOldOrNew one batch image)
      → ((image : List ℕ) → IsImageOf pending image → IsOldOrNew other batch image) → one ≡ other
  one_in (Some told) one other batch long coherent tells first second =
      one_of one other batch told.content long (first told.content coherent.content)
      (second told.content coherent.content)
  one_in None one other batch long coherent tells first second = absurd (cc)

  pub one_acknowledged : {D : Type 0} (pending : D
      → Option Pending) (archive : ArchiveState D) (one other : List Entry)
      → IfSome (pending archive.disk) IsCoherent
      → Acknowledges pending archive one → Acknowledges pending archive other → one ≡ other
  one_acknowledged pending archive one other coherent first second =
      one_in (pending archive.disk) one other (failed_batch archive) (first.agrees.counted
      ∙ sym second.agrees.counted) coherent first.tells first.images second.images
