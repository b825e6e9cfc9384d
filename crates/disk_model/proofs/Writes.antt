-- The images of a disk that is written and synced.
use Rattle.std.proofs.Common.{◌≡◌, inl, inr, ℕ, List, [], length, Option, Some, None, option_map}
use Rattle.std.proofs.Common.{IfSome, Result, Ok, Err, OnOk, OnErr, subst, sym}
use Rattle.octet_core.specs.declared.failed.Failed.{Failed}
use Rattle.disk_model.specs.Images.{Pending, IsImage, IsCoherent, FailsToWrite, with_range}
use Rattle.disk_model.specs.Images.{after_write, after_sync}
use Rattle.disk_model.specs.Moments.{IsImageOf, Becomes}

-- what a read gives is no matter
of_range : (place count : ℕ) (content : List ℕ) (pending : Pending) (image : List ℕ)
    → IsImage (with_range place count content pending) image
    → IsImage (with_range place count [] pending) image
of_range place count content pending image is =
    record { no_shorter = is.no_shorter; no_longer = is.no_longer; kept = is.kept }

-- an old image is one after the write too: the law of a write
abbrev pub KeepsOld : Type 0
KeepsOld = (pending : Pending) (place count : ℕ) (content image : List ℕ) → IsImage pending image
    → IsImage (with_range place count content pending) image

-- and after a sync there is one: the law of a sync
abbrev pub LeavesOne : Type 0
LeavesOne = (pending : Pending) (image : List ℕ) → IsImage (after_sync pending) image
    → image ≡ pending.content

pub before_write : KeepsOld → (old : Option Pending) (place count : ℕ) (image : List ℕ)
    → IsImageOf old image
    → IsImageOf (option_map (with_range place count []) old) image
before_write keeps (Some told) place count image is = keeps told place count [] image is
before_write keeps None place count image is = is

failed_write : KeepsOld → (told now : Pending) (place count : ℕ) (image : List ℕ)
    → FailsToWrite place count told now → IsImage now image
    → IsImage (with_range place count [] told) image
failed_write keeps told now place count image (inl same) is =
    keeps told place count [] image (subst (λ (p : Pending). IsImage p image) same is)
failed_write keeps told now place count image (inr torn) is =
    of_range place count torn.0 told image (subst (λ (p : Pending). IsImage p image) torn.2 is)

pub during_write : KeepsOld → {T : Type 0}
    → (result : Result T Failed) (old mid : Option Pending) (place : ℕ) (octets : List ℕ)
    → OnOk result (mid ≡ option_map (after_write place octets) old)
    → OnErr result (Becomes (FailsToWrite place (length octets)) old mid)
    → (image : List ℕ) → IsImageOf mid image
    → IsImageOf (option_map (with_range place (length octets) []) old) image
during_write keeps (Ok value) (Some told) mid place octets written failed image is =
    of_range place (length octets) _ told image
    (subst (λ (p : Option Pending). IsImageOf p image) written is)
during_write keeps (Ok value) None mid place octets written failed image is =
    subst (λ (p : Option Pending). IsImageOf p image) written is
during_write keeps (Err error) (Some told) (Some now) place octets written failed image is =
    failed_write keeps told now place (length octets) image failed is
during_write keeps (Err error) (Some told) None place octets written failed image is = absurd failed
during_write keeps (Err error) None mid place octets written failed image is =
    subst (λ (p : Option Pending). IsImageOf p image) failed is

pub during_sync : LeavesOne → {T : Type 0} → (result : Result T Failed) (mid new : Option Pending)
    → IfSome mid IsCoherent
    → OnOk result (new ≡ option_map after_sync mid) → OnErr result (new ≡ mid)
    → (image : List ℕ) → IsImageOf new image → IsImageOf mid image
during_sync leaves (Ok value) (Some told) new held synced failed image is =
    subst (IsImage told) (sym (leaves told image
    (subst (λ (p : Option Pending). IsImageOf p image) synced is))) held.content
during_sync leaves (Ok value) None new held synced failed image is =
    subst (λ (p : Option Pending). IsImageOf p image) synced is
during_sync leaves (Err error) mid new held synced failed image is =
    subst (λ (p : Option Pending). IsImageOf p image) failed is
