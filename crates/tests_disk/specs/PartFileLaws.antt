-- What the file in memory proves of itself as a file.
use Rattle.std.specs.Prelude.{ℕ, ◌+◌, ◌≤◌, ◌≡◌, ⊤, max, Bool, true, false, Some, List, [], ◌∷◌}
use Rattle.std.specs.Prelude.{◌++◌, length, fold, refl, if◌then◌else◌}
use Rattle.std.proofs.Common.{arith, inl, inr, ⊎_elim, sym, subst, ◌∙◌}
use Rattle.std.proofs.lemmas.List.{take_all, take-append-le, length-append}
use Rattle.std.proofs.lemmas.Bool.Decides.{nat_tests}
use Rattle.std.proofs.lemmas.Grind.{common_steps, fold-append}
use Rattle.disk_model.specs.Images.{Pending, IsImage, IsCoherent, all_synced, with_range}
use Rattle.disk_model.specs.Images.{overwritten, after_cut, is_inside, is_written}
use Rattle.disk_model.specs.Moments.{Elapses}
use Rattle.disk_model.specs.MemoryDiskLaws.{written_elsewhere, or_false, coherent_sync}
use Rattle.tests_disk.specs.PartFile.{PartState, pending_of, pending_after, after_change, goes_on}
use Rattle.tests_disk.specs.PartFile.{IsImageSince, with_change}
use Rattle.tests_disk.specs.declared.change.Change.{Change}
use Rattle.tests_disk.specs.declared.change.Change.TheVariants.{Begun, WentOn, Cut, Synced}

-- what is pending one change on
pub one_more : (start : List ℕ) (log : List Change) (change : Change)
    → pending_after start (log ++ change ∷ []) ≡ after_change (pending_after start log) change
one_more start log change = fold-append after_change (all_synced start) log (change ∷ [])

-- ---- what a read gives is an image

-- the range that was written last ends below the greatest length
abbrev EndsWithin : ℕ → List (ℕ × ℕ) → Type 0
EndsWithin greatest [] = ⊤
EndsWithin greatest (range ∷ ranges) = range.0 + range.1 ≤ greatest

record IsSound (pending : Pending) : Type 0 where
  pub coherent : IsCoherent pending
  pub ends : EndsWithin pending.greatest pending.written

sound_synced : (octets : List ℕ) → IsSound (all_synced octets)
sound_synced octets = record { coherent = coherent_sync octets; ends = tt }

sound_cut : (pending : Pending) (size : ℕ) → IsSound pending → IsSound (after_cut size pending)
sound_cut pending size is = record {
  coherent = record {
    synced = grind (arith, is.coherent.synced);
    content = record {
      no_shorter = grind (arith, common_steps, is.coherent.content.no_shorter);
      no_longer = grind (arith, common_steps, is.coherent.content.no_longer);
      kept = λ at below free. grind (arith, common_steps, is.coherent.content.kept at);
    };
  };
  ends = is.ends;
}

sound_begun : (pending : Pending) (place count : ℕ) (octets : List ℕ)
    → length octets ≤ count → IsSound pending
    → IsSound (with_range place count (overwritten pending.content place octets) pending)
sound_begun pending place count octets some is = record {
  coherent = record {
    synced = is.coherent.synced;
    content = record {
      no_shorter = grind (arith, common_steps, is.coherent.content.no_shorter);
      no_longer = grind (arith, common_steps, is.coherent.content.no_longer, some);
      kept = λ at below free.
          let apart = or_false (is_inside at (place, count)) (is_written pending.written at) free in
          written_elsewhere pending.content octets place at
          (omega (arith, below, is.coherent.content.no_shorter))
          (grind (arith, nat_tests, some, apart.0))
          ∙ is.coherent.content.kept at below apart.1;
    };
  };
  ends = omega arith;
}

on_inside : (pending : Pending) (range : ℕ × ℕ) (ranges : List (ℕ × ℕ)) (place : ℕ)
    (octets : List ℕ)
    → range.0 ≤ place → place + length octets ≤ range.0 + range.1
    → range.0 + range.1 ≤ pending.greatest → place ≤ length pending.content
    → IsCoherent (record pending { written = range ∷ ranges })
    → IsCoherent (record pending {
      written = range ∷ ranges;
      content = overwritten pending.content place octets;
    })
on_inside pending range ranges place octets from upto ends there is = record {
  synced = is.synced;
  content = record {
    no_shorter = grind (arith, common_steps, is.content.no_shorter);
    no_longer = grind (arith, common_steps, is.content.no_longer, upto, ends, there);
    kept = λ at below free.
        let apart = or_false (is_inside at range) (is_written ranges at) free in
        written_elsewhere pending.content octets place at
        (omega (arith, below, is.content.no_shorter))
        (grind (arith, nat_tests, from, upto, apart.0))
        ∙ is.content.kept at below free;
  };
}

if_it_may : (may : Bool) (then_so else_so : Pending) → IsSound else_so
    → (may ≡ true → IsSound then_so) → IsSound (if may then then_so else else_so)
if_it_may true then_so else_so otherwise granted = granted refl
if_it_may false then_so else_so otherwise granted = otherwise

sound_on : (written : List (ℕ × ℕ)) (pending : Pending) (place : ℕ) (octets : List ℕ)
    → IsSound (record pending { written = written })
    → IsSound (after_change (record pending { written = written }) (WentOn place octets))
sound_on [] pending place octets is = is
sound_on (range ∷ ranges) pending place octets is =
    if_it_may (goes_on place octets (record pending { written = range ∷ ranges })) _ _ is
    (λ may. record {
      coherent = on_inside pending range ranges place octets (grind (arith, nat_tests, may))
          (grind (arith, nat_tests, may)) is.ends (grind (arith, nat_tests, may)) is.coherent;
      ends = is.ends;
    })

sound_more : (change : Change) (pending : Pending) → IsSound pending
    → IsSound (after_change pending change)
sound_more (Begun place count octets) pending is =
    sound_begun pending place (max count (length octets)) octets (omega arith) is
sound_more (WentOn place octets) pending is =
    sound_on pending.written pending place octets is
sound_more (Cut size) pending is = sound_cut pending size is
sound_more Synced pending is = sound_synced pending.content

sound_after : (log : List Change) (pending : Pending) → IsSound pending
    → IsSound (fold after_change pending log)
sound_after [] pending is = is
sound_after (change ∷ log) pending is = sound_after log (after_change pending change)
    (sound_more change pending is)

pub is_coherent : (file : PartState) → IsCoherent (pending_of file)
is_coherent file = (sound_after file.log (all_synced file.start) (sound_synced file.start)).coherent

-- ---- the images meanwhile

-- time goes on from one state of the file to another
abbrev pub GoesOn : PartState → PartState → Type 0
GoesOn old new = Elapses (length old.log) (length new.log) (IsImageSince old) (IsImageSince new)
    (Some (pending_of new))

pub still : (file : PartState) → GoesOn file file
still file = record {
  later = omega arith;
  keeps = λ moment image earlier since. since;
  nothing_else = λ moment image earlier since. inl since;
}

pub changed : (file : PartState) (change : Change) → GoesOn file (with_change file change)
changed file change =
    let one_more = length-append file.log (change ∷ []) in
    record {
      later = omega arith;
      keeps = λ since image earlier (moment, from, was, is). (
        moment,
        from,
        omega arith,
        rw (take-append-le moment file.log (change ∷ []) was) is,
      );
      nothing_else = λ since image earlier (moment, from, was, is).
          ⊎_elim (λ (within : moment ≤ length file.log). inl (
            moment,
            from,
            within,
            rw (take-append-le moment file.log (change ∷ []) within) at is,
          ))
          (λ (all : length (file.log ++ change ∷ []) ≤ moment). inr
          (rw (take_all moment (file.log ++ change ∷ []) all) at is))
          (grind arith);
    }

-- the present images are among those since an earlier moment
pub counted_now : (file : PartState) (since : ℕ) (image : List ℕ) → since ≤ length file.log
    → IsImage (pending_of file) image → IsImageSince file since image
counted_now file since image earlier is = (
  length file.log,
  earlier,
  omega arith,
  subst (λ (log : List Change). IsImage (pending_after file.start log) image)
      (sym (take_all (length file.log) file.log (omega arith))) is,
)

-- and since now there are no others
pub only_one_now : (file : PartState) (image : List ℕ) → IsImageSince file (length file.log) image
    → IsImage (pending_of file) image
only_one_now file image since =
    subst (λ (log : List Change). IsImage (pending_after file.start log) image)
    (take_all since.0 file.log since.1) since.3
