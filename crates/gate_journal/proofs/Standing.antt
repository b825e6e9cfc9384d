-- A file that stands for entries isn't refused for what it holds.
use Rattle.std.proofs.Common.{◌≡◌, inr, ℕ, List, Option, Some, None, IfSome, IsSomeAnd}
use Rattle.std.proofs.Common.{option_map, IfErr, Result, Ok, Err, refl}
use Rattle.archive_terms.specs.Archive.{Entry}
use Rattle.disk_model.specs.Images.{Pending, after_sync}
use Rattle.record_form.specs.Reading.{AreOctets}
use Rattle.gate_journal.specs.declared.fault.JournalFault.{JournalFault}
use Rattle.gate_journal.specs.declared.fault.JournalFault.TheVariants.{NotJournal, Damaged, Full}
use Rattle.gate_journal.specs.declared.fault.JournalFault.TheVariants.{DiskFault, Stale, Memory}
use Rattle.gate_journal.specs.File.{StandsFor, StandsAt}
use Rattle.gate_journal.specs.Reading.{Refuses, IsDamagedAt, IsNoJournal}
use Rattle.gate_journal.specs.JournalState.{IsUnread}

module _ (damaged : (place there : ℕ) (entries : List Entry) (file : List ℕ) → AreOctets file
    → IsDamagedAt place file → StandsAt entries there file → ⊥)
    (no_journal : (place there : ℕ) (entries : List Entry) (file : List ℕ) → IsNoJournal place file
    → StandsAt entries there file → ⊥) where
  unread : (fault : JournalFault) (file : List ℕ) → AreOctets file → Refuses fault file
      → (entries : List Entry) → StandsFor entries file → IsUnread fault
  unread (NotJournal place) file octets refused entries stands =
      absurd (no_journal place stands.0 entries file refused stands.1)
  unread (Damaged place) file octets refused entries stands =
      absurd (damaged place stands.0 entries file octets refused stands.1)
  unread (Full need free) file octets refused entries stands = absurd refused
  unread DiskFault file octets refused entries stands = absurd refused
  unread Stale file octets refused entries stands = absurd refused
  unread Memory file octets refused entries stands = inr refl

  pub load_standing : {X : Type 0} (result : Result X JournalFault) (pending : Option Pending)
      (file items : List ℕ) → file ≡ items → AreOctets file
      → IfSome pending (λ told. items ≡ told.content) → IfErr result (λ fault. Refuses fault file)
      → IfErr result (λ fault. (entries : List Entry)
      → IsSomeAnd pending (λ told. StandsFor entries told.content) → IsUnread fault)
  load_standing (Ok x) pending file items is octets same refused = tt
  load_standing (Err fault) None file items is octets same refused = λ entries stands. absurd stands
  load_standing (Err fault) (Some told) file items is octets same refused =
      λ entries stands. unread fault file octets refused entries (rw (is, same) stands)

-- what a sync leaves stands for the same
pub stands_synced : (old new : Option Pending) (entries : List Entry)
    → new ≡ option_map after_sync old → IsSomeAnd old (λ told. StandsFor entries told.content)
    → IsSomeAnd new (λ told. StandsFor entries told.content)
stands_synced (Some told) new entries is stands = rw is stands
stands_synced None new entries is stands = absurd stands
