-- What a list leaves of a disk.
use Rattle.std.proofs.Common.{◌≡◌, ◌⊎◌, inl, inr, ℕ, ◌≤◌, List, [], ◌++◌, Option, Some, None}
use Rattle.std.proofs.Common.{IfSome}
use Rattle.std.proofs.Common.{IsSomeAnd, option_map, Ok, Err, refl, sym, ap, subst, ◌∙◌}
use Rattle.std.proofs.Common.{arith, ⊎_elim}
use Rattle.octet_core.specs.Fault.{Rose, count_up}
use Rattle.octet_core.specs.Written.{Gains}
use Rattle.octet_core.specs.Writing.{gains-none, gains-append, gains_front-append}
use Rattle.archive_terms.specs.Archive.{Entry}
use Rattle.disk_model.specs.Images.{Pending, IsImage, IsCoherent, after_sync, all_synced}
use Rattle.disk_model.specs.Moments.{HoldsThroughout, IsImageOf}
use Rattle.disk_model.specs.Throughout.{started, goes_on}
use Rattle.gate_journal.specs.declared.fault.JournalFault.{JournalFault}
use Rattle.gate_journal.specs.declared.fault.JournalFault.TheVariants as refusals
use Rattle.gate_journal.specs.File.{StandsFor, StandsAt}
use Rattle.gate_journal.specs.JournalState.{Keeps, IsUnread, OnlyReads, RefusesDisk}
use Rattle.archive_commands.specs.Archives.{ListOutcome, listed, refused, failed, unread}
use Rattle.archive_commands.specs.Archives.{failed_behind}
use Rattle.archive_commands.specs.Archives.{stopped_behind, changed_behind, listed_by, LeavesListed}
use Rattle.archive_commands.specs.Archives.{IsFrontOf, IsCutShort, IsList}
use Rattle.command_ends.specs.Ends.{Closes, code, closed}
use Rattle.script_store.specs.Output.{Wrote}
use Rattle.script_store.specs.declared.stop.Stop.{Stop}
use Rattle.script_store.specs.declared.stop.Stop.TheVariants as stops
use Rattle.command_ends.specs.declared.status.Status.{Status}
use Rattle.command_ends.specs.declared.status.Status.TheVariants as ends

-- ---- what was listed

-- the entries that a file stands for are listed, and are all that it may stand for
pub all_listed : (old new : Option Pending) (entries : List Entry)
    → IfSome old (λ told. StandsFor entries told.content) → IfSome old (λ _. Keeps new entries)
    → IfSome old (λ told. StandsFor entries told.content × Keeps new entries)
all_listed None new entries stands keeps = tt
all_listed (Some told) new entries stands keeps = (stands, keeps)

pub stands_for : (pending : Option Pending) (entries : List Entry) (gate : ℕ)
    → IfSome pending (λ told. StandsAt entries gate told.content)
    → IfSome pending (λ told. StandsFor entries told.content)
stands_for None entries gate stands = tt
stands_for (Some told) entries gate stands = (gate, stands)

pub none_other : ((one other : List Entry) (file : List ℕ) → StandsFor one file
    → StandsFor other file → one ≡ other)
    → (pending : Option Pending) (entries others : List Entry)
    → IfSome pending (λ told. StandsFor entries told.content)
    → IsSomeAnd pending (λ told. StandsFor others told.content)
    → (listed entries ≡ listed others) ⊎ (listed entries ≡ unread) ⊎ (listed entries ≡ failed)
    ⊎ IsCutShort (listed entries)
none_other law None entries others stands is = absurd is
none_other law (Some told) entries others stands is =
    inl (ap listed (law entries others told.content stands is))

-- where all is synced and nothing is written, what a file stands for is kept
pub still_kept : (old new : Option Pending) (entries : List Entry)
    → IfSome old (λ told. told ≡ all_synced told.content) → new ≡ old
    → IfSome old (λ told. StandsFor entries told.content) → IfSome old (λ _. Keeps new entries)
still_kept None new entries synced same stands = tt
still_kept (Some told) new entries synced same stands =
    subst (λ (p : Option Pending). Keeps p entries) (sym same) (synced, stands)

-- ---- why nothing was

pub leaves_by : {D : Type 0} (pending : D → Option Pending) (faults : D → ℕ) (old new : D)
    (fault : JournalFault) → RefusesDisk fault (pending old) (faults old) (faults new)
    → LeavesListed pending faults old new (listed_by fault)
leaves_by pending faults old new (refusals.NotJournal place) is = by_told (pending old) is
  where
    by_told : (p : Option Pending)
        → RefusesDisk (refusals.NotJournal place) p (faults old) (faults new)
        → LeavesListed (λ _. p) faults old new (refused place)
    by_told None is = tt
    by_told (Some told) is = inl is
leaves_by pending faults old new (refusals.Damaged place) is = by_told (pending old) is
  where
    by_told : (p : Option Pending)
        → RefusesDisk (refusals.Damaged place) p (faults old) (faults new)
        → LeavesListed (λ _. p) faults old new (refused place)
    by_told None is = tt
    by_told (Some told) is = inr is
leaves_by pending faults old new refusals.DiskFault is = is
leaves_by pending faults old new refusals.Memory is = tt
leaves_by pending faults old new (refusals.Full need free) is = absurd is
leaves_by pending faults old new refusals.Stale is = absurd is

pub short_by : (fault : JournalFault) (entries : List Entry) → IsUnread fault
    → (listed_by fault ≡ listed entries) ⊎ (listed_by fault ≡ unread) ⊎ (listed_by fault ≡ failed)
    ⊎ IsCutShort (listed_by fault)
short_by fault entries (inl disk) = inr (inr (inl (ap listed_by disk)))
short_by fault entries (inr memory) = inr (inl (ap listed_by memory))

-- ---- the images

module _ {D : Type 0} (moment : D → ℕ) (images_since : D → ℕ → List ℕ → Type 0)
    (pending : D → Option Pending) (old new : D)
    (only_now : (image : List ℕ) → images_since old (moment old) image
    → IsImageOf (pending old) image) where
  -- reads leave them
  pub reads_hold : OnlyReads pending moment images_since old new
      → HoldsThroughout moment images_since old new (IsImageOf (pending old))
  reads_hold reads =
      goes_on moment images_since old old new (IsImageOf (pending old)) (pending new)
      (started moment images_since old (IsImageOf (pending old)) only_now) reads.time
      (λ image is. subst (λ p. IsImageOf p image) reads.same is)

-- an image of a disk that was synced was one before
pub image_before : (one_image : (pending : Pending) (image : List ℕ)
    → IsImage (after_sync pending) image → image ≡ pending.content)
    → (old new : Option Pending) → IfSome old IsCoherent → new ≡ option_map after_sync old
    → (image : List ℕ) → IsImageOf new image → IsImageOf old image
image_before one_image None new coherent same image is =
    absurd (subst (λ p. IsImageOf p image) same is)
image_before one_image (Some told) new coherent same image is =
    subst (IsImage told)
    (sym (one_image told image (subst (λ p. IsImageOf p image) same is))) coherent.content

-- ---- a sync

front_before : (old new : Option Pending) (front : List Entry) → new ≡ option_map after_sync old
    → IsFrontOf new front → IsFrontOf old front
front_before None new front same stands = tt
front_before (Some told) new front same stands =
    subst (λ p. IfSome p (λ told. (rest : List Entry)
    × StandsFor (front ++ rest) told.content)) same stands

rose_before : (a b c : ℕ) → a ≤ b → Rose b c → Rose a c
rose_before a b c le (inl less) = inl (omega (arith, le, less))
rose_before a b c le (inr last) = inr last

untold : (old new : Option Pending) → new ≡ option_map after_sync old → new ≡ None → old ≡ None
untold None new same none = refl
untold (Some told) new same none = absurd (cc)

-- what a list leaves of a disk that was synced before
pub leaves_before : {D : Type 0} (pending : D → Option Pending) (faults : D → ℕ) (old mid new : D)
    (how : ListOutcome) → pending mid ≡ option_map after_sync (pending old)
    → faults old ≤ faults mid
    → LeavesListed pending faults mid new how → LeavesListed pending faults old new how
leaves_before pending faults old mid new (listed entries) same later leaves =
    by_told (pending old) (pending mid) same leaves
  where
    by_told : (old mid : Option Pending) → mid ≡ option_map after_sync old
        → IfSome mid (λ told. StandsFor entries told.content × Keeps (pending new) entries)
        → IfSome old (λ told. StandsFor entries told.content × Keeps (pending new) entries)
    by_told None mid same leaves = tt
    by_told (Some told) mid same leaves =
        subst (λ p. IfSome p (λ told. StandsFor entries told.content
        × Keeps (pending new) entries)) same leaves
leaves_before pending faults old mid new (refused place) same later leaves =
    by_told (pending old) (pending mid) same leaves
  where
    by_told : (old mid : Option Pending) → mid ≡ option_map after_sync old
        → LeavesListed (λ _. mid) faults new new (refused place)
        → LeavesListed (λ _. old) faults new new (refused place)
    by_told None mid same leaves = tt
    by_told (Some told) mid same leaves =
        subst (λ p. LeavesListed (λ _. p) faults new new (refused place)) same leaves
leaves_before pending faults old mid new failed same later leaves =
    rose_before (faults old) (faults mid) (faults new) later leaves
leaves_before pending faults old mid new unread same later leaves = tt
leaves_before pending faults old mid new (failed_behind entries) same later leaves = (
  rose_before (faults old) (faults mid) (faults new) later leaves.0,
  front_before (pending old) (pending mid) entries same leaves.1,
)
leaves_before pending faults old mid new (stopped_behind entries) same later leaves =
    front_before (pending old) (pending mid) entries same leaves
leaves_before pending faults old mid new (changed_behind entries place) same later leaves =
    untold (pending old) (pending mid) same leaves

pub stands_after : (old new : Option Pending) (entries : List Entry)
    → new ≡ option_map after_sync old → IsSomeAnd old (λ told. StandsFor entries told.content)
    → IsSomeAnd new (λ told. StandsFor entries told.content)
stands_after None new entries same stands = absurd stands
stands_after (Some told) new entries same stands =
    subst (λ p. IsSomeAnd p (λ told. StandsFor entries told.content)) (sym same) stands

pub all_synced_after : (old new : Option Pending) → new ≡ option_map after_sync old
    → IfSome new (λ told. told ≡ all_synced told.content)
all_synced_after None new same =
    subst (λ p. IfSome p (λ told. told ≡ all_synced told.content)) (sym same) tt
all_synced_after (Some told) new same =
    subst (λ p. IfSome p (λ told. told ≡ all_synced told.content)) (sym same) refl

-- ---- the text

kept_by : {T : Type 0} {before after : Option (List ℕ)} {f g : ℕ} {text : List ℕ} {value : T}
    → Wrote {T = T} before after f g text (Ok value) → g ≡ f
kept_by wrote = ⊎_elim (λ e. absurd cc) (λ same. same) wrote.kept

behind : (before mid after : Option (List ℕ)) (f g h : ℕ) (text line : List ℕ) (own : Status)
    (exit : ℕ) → Gains before mid text → g ≡ f → Closes mid after g h line own exit
    → Closes before after f h (text ++ line) own exit
behind before mid after f g h text line own exit gains kept (inl done) =
    inl (done.0, gains-append before mid after text line gains done.1, done.2 ∙ kept)
behind before mid after f g h text line own exit gains kept (inr (inl fault)) =
    inr (inl (
      fault.0,
      gains_front-append before mid after text line gains fault.1,
      fault.2 ∙ ap count_up kept,
    ))
behind before mid after f g h text line own exit gains kept (inr (inr memory)) =
    inr (inr (
      memory.0,
      gains_front-append before mid after text line gains memory.1,
      memory.2 ∙ kept,
    ))

-- a last line behind others that were written
pub closes_behind : {T : Type 0} (before mid after : Option (List ℕ)) (f g h : ℕ)
    (text line : List ℕ) (own : Status) (exit : ℕ) (value : T)
    → Wrote {T = T} before mid f g text (Ok value) → Closes mid after g h line own exit
    → Closes before after f h (text ++ line) own exit
closes_behind before mid after f g h text line own exit value wrote closes =
    behind before mid after f g h text line own exit wrote.all (kept_by wrote) closes

-- the text was written, all of it
pub closes_written : {T : Type 0} (before after : Option (List ℕ)) (f g : ℕ) (text : List ℕ)
    (own : Status) (exit : ℕ) (value : T) → exit ≡ code own
    → Wrote {T = T} before after f g text (Ok value) → Closes before after f g text own exit
closes_written before after f g text own exit value is wrote = inl (is, wrote.all, kept_by wrote)

-- the writing stopped
pub closes_stop : {T : Type 0} (before after : Option (List ℕ)) (f g : ℕ) (text : List ℕ)
    (own : Status) (exit : ℕ) (stop : Stop) → exit ≡ code (closed (Err stop) own)
    → Wrote {T = T} before after f g text (Err stop) → Closes before after f g text own exit
closes_stop before after f g text own exit stops.WriteFault is wrote =
    inr (inl (is, wrote.front, wrote.raised refl))
closes_stop before after f g text own exit stops.Memory is wrote =
    inr (inr (is, wrote.front, ⊎_elim (λ e. absurd cc) (λ same. same) wrote.kept))

-- nothing was written
pub closes_unwritten : (output : Option (List ℕ)) (f : ℕ) (own : Status) (exit : ℕ)
    → exit ≡ code own → Closes output output f f [] own exit
closes_unwritten output f own exit is = inl (is, gains-none output, refl)

-- no call of the disk was made, for want of memory
pub unlisted : {D : Type 0} (pending : D → Option Pending) (moment : D → ℕ)
    (images_since : D → ℕ → List ℕ → Type 0) (faults : D → ℕ) (disk : D) (output : Option (List ℕ))
    (f exit : ℕ) → exit ≡ code ends.Memory
    → ((image : List ℕ) → images_since disk (moment disk) image → IsImageOf (pending disk) image)
    → IsList pending moment images_since faults disk disk output output f f exit
unlisted pending moment images_since faults disk output f exit is only_now = record {
  how = unread;
  leaves = tt;
  complete = λ entries stands. inr (inl refl);
  any_moment = started moment images_since disk (IsImageOf (pending disk)) only_now;
  closes = closes_unwritten output f ends.Memory exit is;
}
