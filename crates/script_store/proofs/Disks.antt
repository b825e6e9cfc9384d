-- Disks in memory: what calls and restarts leave of one without orders, and of its images.
use Rattle.std.proofs.Common.{◌≡◌, ℕ, ◌≤◌, Option, Some, None, MatchOption, List, [], ◌∷◌, ◌++◌}
use Rattle.std.proofs.Common.{length, sym, ap, subst, ◌∙◌, arith, inl, inr, ⊎_elim}
use Rattle.std.proofs.lemmas.List.{take-append-le, take_all, length-append}
use Rattle.std.proofs.lemmas.List.Sums.{fold-append}
use Rattle.disk_model.specs.Calls.{AllMade}
use Rattle.disk_model.specs.Images.{Pending, IsImage, all_synced, after_sync}
use Rattle.disk_model.specs.Moments.{Elapses, IsImageOf}
use Rattle.disk_model.specs.Throughout.{goes_on, weaker, and_then}
use Rattle.disk_model.specs.MemoryDisk.{DiskState, Medium, IsMadeCall, IsImageSince, medium_of}
use Rattle.disk_model.specs.MemoryDisk.{pending_of, content_of, restarted, left_by, synced_medium}
use Rattle.disk_model.specs.MemoryDisk.{after_event, steered}
use Rattle.disk_model.specs.MemoryDiskLaws.{counted_now}
use Rattle.disk_model.specs.declared.call.Call.{Call}
use Rattle.disk_model.specs.declared.event.Event.TheVariants.{Restarted}
use Rattle.disk_model.specs.declared.orders.Orders.{Orders}
use Rattle.disk_model.specs.declared.orders.Pick.{Pick}
use Rattle.script_store.specs.IsHeld.{told_by, IsUnsteered, Throughout}
use Rattle.script_store.specs.Unmoved.{unmoved}

-- a disk that runs and has no orders
pub record IsCalm (disk : DiskState) : Type 0 where
  pub runs : disk.stopped ≡ None
  pub unsteered : IsUnsteered disk

one_call : (old new : DiskState) (call : Call) → IsCalm old → IsMadeCall old call new → IsCalm new
one_call old new call calm made = rw (made.1) (record {
  runs = cc;
  unsteered = record { goes_on = cc; succeeds = cc; ample = cc };
})

-- calls that succeed leave it so
pub calm_after : (calls : List Call) (old new : DiskState) → IsCalm old
    → AllMade IsMadeCall old calls new → IsCalm new
calm_after [] old new calm made = subst IsCalm (sym made) calm
calm_after (call ∷ calls) old new calm made =
    calm_after calls made.0 new (one_call old made.0 call calm made.1) made.2

-- what holds of each image since an earlier moment holds of each that there is now
pub at_end : (old new : DiskState) (P : List ℕ → Type 0) → Throughout old new P
    → (image : List ℕ) → IsImage (pending_of new) image → P image
at_end old new P holds image is =
    holds.each image (counted_now new (length old.log) image holds.later is)

-- what a disk that stopped holds once it is restarted
pub on_restart : (disk : DiskState) (pick : Pick)
    → pending_of (restarted disk pick) ≡ all_synced (left_by pick (medium_of disk))
on_restart disk pick = ap (λ (m : Medium). m.pending)
    (fold-append after_event (synced_medium disk.start) disk.log (Restarted pick ∷ []))

left_all : (pick : Pick) (octets : List ℕ) → left_by pick (synced_medium octets) ≡ octets
left_all pick octets = grind arith

-- where all was synced, that is what it held
pub restart_keeps : (disk : DiskState) (pick : Pick) (octets : List ℕ)
    → medium_of disk ≡ synced_medium octets → content_of (restarted disk pick) ≡ octets
restart_keeps disk pick octets all =
    cc (on_restart disk pick, left_all pick octets)

-- a law of disks: after a good sync there is one image
abbrev pub OneImage : Type 0
OneImage = (pending : Pending) (image : List ℕ) → IsImage (after_sync pending) image
    → image ≡ pending.content

-- each image of a disk that was restarted was one before
pub image_before : OneImage → (old new : DiskState) (stopped : Option Pick)
    → MatchOption stopped (new ≡ old) (λ pick. new ≡ restarted old pick)
    → IsImage (pending_of old) (content_of new)
    → (image : List ℕ) → IsImage (pending_of new) image → IsImage (pending_of old) image
image_before one old new None same there image is = rw same at is
image_before one old new (Some pick) again there image is =
    let pending = ap pending_of again ∙ on_restart old pick in
    rw (one (all_synced (left_by pick (medium_of old))) image (rw pending at is))
    (rw (content_of, pending) at there)

-- ---- at every moment

-- how much of its log there is tells the moment
abbrev pub moment_of : DiskState → ℕ
moment_of disk = length disk.log

-- orders are no calls
pub to_steered : (old new : DiskState) (orders : Orders) (P : List ℕ → Type 0)
    → Throughout old new P → Throughout old (steered new orders) P
to_steered old new orders P holds =
    record { later = holds.later; each = holds.each; before = holds.before }

pub from_steered : (old new : DiskState) (orders : Orders) (P : List ℕ → Type 0)
    → Throughout (steered old orders) new P → Throughout old new P
from_steered old new orders P holds =
    record { later = holds.later; each = holds.each; before = holds.before }

-- one run of calls behind another
pub then_on : (old mid new : DiskState) (P : List ℕ → Type 0) → Throughout old mid P
    → Throughout mid new P → Throughout old new P
then_on = and_then moment_of IsImageSince

-- calls that only leave what there may have been before
pub leaves_old : (old new : DiskState) (P : List ℕ → Type 0)
    → Throughout old new (IsImageOf (told_by old))
    → ((image : List ℕ) → IsImage (pending_of old) image → P image) → Throughout old new P
leaves_old old new P holds here =
    weaker moment_of IsImageSince old new (IsImageOf (told_by old)) P here holds

-- a restart is logged
restart_elapses : (disk : DiskState) (pick : Pick)
    → Elapses (moment_of disk) (moment_of (restarted disk pick)) (IsImageSince disk)
    (IsImageSince (restarted disk pick)) (Some (pending_of (restarted disk pick)))
restart_elapses disk pick =
    let one_more = length-append disk.log (Restarted pick ∷ []) in
    record {
      later = omega arith;
      keeps = λ since image earlier (moment, from, was, is). (
        moment,
        from,
        omega arith,
        rw (take-append-le moment disk.log (Restarted pick ∷ []) was) is,
      );
      nothing_else = λ since image earlier (moment, from, was, is).
          ⊎_elim (λ (within : moment ≤ length disk.log). inl (
            moment,
            from,
            within,
            rw (take-append-le moment disk.log (Restarted pick ∷ []) within) at is,
          ))
          (λ (all : length (disk.log ++ Restarted pick ∷ []) ≤ moment). inr
          (rw (take_all moment (disk.log ++ Restarted pick ∷ []) all) at is))
          (grind arith);
    }

restarts : OneImage → (old new : DiskState) (stopped : Option Pick)
    → MatchOption stopped (new ≡ old) (λ pick. new ≡ restarted old pick)
    → IsImage (pending_of old) (content_of new) → (P : List ℕ → Type 0)
    → ((image : List ℕ) → IsImage (pending_of old) image → P image) → Throughout old new P
restarts one old new None same there P here = rw same (unmoved old P here)
restarts one old new (Some pick) again there P here =
    let left : (image : List ℕ) → IsImage (pending_of new) image → P image =
    λ image is. here image (image_before one old new (Some pick) again there image is) in
    rw again (goes_on moment_of IsImageSince old old (restarted old pick) P
    (Some (pending_of (restarted old pick))) (unmoved old P here) (restart_elapses old pick)
    (rw again at left))

-- a restart where the disk stopped, and an opening of what it left
pub restarts_and_opens : OneImage → (old back new : DiskState) (stopped : Option Pick)
    → MatchOption stopped (back ≡ old) (λ pick. back ≡ restarted old pick)
    → IsImage (pending_of old) (content_of back) → (P : List ℕ → Type 0)
    → ((image : List ℕ) → IsImage (pending_of old) image → P image)
    → Throughout back new (IsImageOf (told_by back)) → Throughout old new P
restarts_and_opens one old back new stopped again there P here opens =
    then_on old back new P (restarts one old back stopped again there P here)
    (leaves_old back new P opens
    (λ image is. here image (image_before one old back stopped again there image is)))
