-- Over any list of calls the file stands for what was found, and a prefix of what was given since.
use Rattle.std.proofs.Common.{◌≡◌, inl, inr, ℕ, Option, List, [], ◌++◌, length}
use Rattle.std.proofs.Common.{take, sym, ap, subst, ◌∙◌, arith, append_assoc}
use Rattle.std.proofs.lemmas.List.{take_all, take-append-le, append-nil}
use Rattle.archive_terms.specs.Archive.{Entry}
use Rattle.disk_model.specs.Images.{Pending}
use Rattle.disk_model.specs.Moments.{IsImageOf}
use Rattle.gate_journal.specs.File.{StandsFor}
use Rattle.gate_journal.specs.JournalState.{IsOldOrNew}
use Rattle.frame_archive.specs.State.{ArchiveState, failed_batch, with_failed}
use Rattle.frame_archive.specs.Acknowledges.{Acknowledges}
use Rattle.frame_archive.specs.Run.{Course, acknowledged, given, with_unsettled, Run, opened}
use Rattle.frame_archive.specs.Run.{offered, stored, failed, reopened, IsOf}

-- what an archive acknowledges after a list of calls, and what it gave to a store that failed
record Stands {D : Type 0} (pending : D → Option Pending) (archive : ArchiveState D)
    (course : Course) : Type 0 where
  acknowledges : Acknowledges pending archive (acknowledged course)
  unsettled : failed_batch archive ≡ course.unsettled

take-nil : (n : ℕ) (entries : List Entry) → entries ≡ [] → take n entries ≡ []
take-nil n entries none = ap (take n) none ∙ take_all n [] (omega arith)

more_kept : {D : Type 0} (pending : D → Option Pending) (archive : ArchiveState D)
    (found kept more : List Entry) → Acknowledges pending archive ((found ++ kept) ++ more)
    → Acknowledges pending archive (found ++ (kept ++ more))
more_kept pending archive found kept more is =
    subst (Acknowledges pending archive) (append_assoc found kept more) is

all_failed : {D : Type 0} (old new : ArchiveState D) → new ≡ with_failed old new.disk
    → failed_batch new ≡ old.waiting
all_failed {D} old new is = ap (λ (a : ArchiveState D). failed_batch a) is
    ∙ take_all (length old.waiting) old.waiting (omega arith)

stands : {D : Type 0} (pending : D → Option Pending) {archive : ArchiveState D} {course : Course}
    → Run pending archive course → Stands pending archive course
stands pending (opened archive entries is none) = record {
  acknowledges = subst (Acknowledges pending archive) (sym (append-nil entries)) is;
  unsettled = take-nil archive.failed archive.waiting none;
}
stands pending (offered old archive course run keeps batch) =
    let before = stands pending run in
    record {
      acknowledges = keeps (acknowledged course) before.acknowledges;
      unsettled = batch
          ∙ before.unsettled;
    }
stands pending (stored old archive before run adds none) =
    let was = stands pending run in
    record {
      acknowledges = more_kept pending archive before.found before.kept old.waiting
          (adds (acknowledged before) was.acknowledges);
      unsettled = take-nil archive.failed archive.waiting none;
    }
stands pending (failed old archive before run keeps is) =
    let was = stands pending run in
    record {
      acknowledges = keeps (acknowledged before) was.acknowledges;
      unsettled = all_failed old archive is;
    }
stands pending (reopened old archive before landed run adds none) =
    let was = stands pending run in
    record {
      acknowledges = more_kept pending archive before.found before.kept landed
          (adds (acknowledged before) was.acknowledges);
      unsettled = take-nil archive.failed archive.waiting none;
    }

-- either list is one of the course's
with_none : (course : Course) → IsOf course (acknowledged course)
with_none course = record {
  begins = take_all (length (acknowledged course)) (acknowledged course) (omega arith);
  count = length course.kept;
  prefix = ap (λ (l : List Entry). course.found ++ l)
      (sym (take-append-le (length course.kept) course.kept course.unsettled (omega arith)
      ∙ take_all (length course.kept) course.kept (omega arith)));
}

with_all : (course : Course) → IsOf course (acknowledged course ++ course.unsettled)
with_all course = record {
  begins = take-append-le (length (acknowledged course)) (acknowledged course) course.unsettled
      (omega arith)
      ∙ take_all (length (acknowledged course)) (acknowledged course) (omega arith);
  count = length (given course);
  prefix = append_assoc course.found course.kept course.unsettled
      ∙ ap (λ (l : List Entry). course.found ++ l)
      (sym (take_all (length (given course)) (given course) (omega arith)));
}

module _ (one_list : (one other : List Entry) (file : List ℕ) → StandsFor one file
    → StandsFor other file → one ≡ other) where
  of_image : (course : Course) (image : List ℕ) (entries : List Entry)
      → IsOldOrNew (acknowledged course) course.unsettled image → StandsFor entries image
      → IsOf course entries
  of_image course image entries (inl is) stands =
      subst (IsOf course) (one_list (acknowledged course) entries image is stands)
      (with_none course)
  of_image course image entries (inr is) stands =
      subst (IsOf course) (one_list (acknowledged course ++ course.unsettled) entries image is
      stands) (with_all course)

  pub run_stands : {D : Type 0} (pending : D → Option Pending) (archive : ArchiveState D)
      (course : Course) (image : List ℕ) (entries : List Entry) → Run pending archive course
      → IsImageOf (pending archive.disk) image → StandsFor entries image → IsOf course entries
  run_stands pending archive course image entries run is stands_for =
      let now = stands pending run in
      of_image course image entries
      (subst (λ (batch : List Entry). IsOldOrNew (acknowledged course) batch image) now.unsettled
      (now.acknowledges.images image is)) stands_for

  pub in_a_store : {D : Type 0} (pending : D → Option Pending) (archive : ArchiveState D)
      (course : Course) (image : List ℕ) (entries : List Entry) → Run pending archive course
      → ((stored : List Entry) → Acknowledges pending archive stored
      → IsOldOrNew stored archive.waiting image) → StandsFor entries image
      → IsOf (with_unsettled course archive.waiting) entries
  in_a_store pending archive course image entries run during stands_for =
      of_image (with_unsettled course archive.waiting) image entries
      (during (acknowledged course) (stands pending run).acknowledges) stands_for
