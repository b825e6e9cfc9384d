-- Entries as the archive's definitions have them.
use Rattle.std.specs.Prelude.{List, map}
use Rattle.archive_terms.specs.Archive.{frame, loss_of_sync, production, seal}
use Rattle.archive_terms.specs.Archive as terms
use Rattle.sle_numbers.specs.FrameQuality.{number_of as quality_number}
use Rattle.sle_numbers.specs.LockStatus.{number_of as lock_number}
use Rattle.sle_numbers.specs.ReturnProductionStatus.{number_of as production_number}
use Rattle.record_form.specs.declared.entry.Entry.{Entry}
use Rattle.record_form.specs.declared.entry.Entry.TheVariants.{Frame, LossOfSync, Production, Seal}

abbrev pub entry_of : Entry → terms.Entry
entry_of (Frame ert quality antenna lost octets) =
    frame (record {
      ert = ert;
      quality = quality_number quality;
      antenna = antenna;
      lost = lost;
      octets = octets;
    })
entry_of (LossOfSync at carrier subcarrier symbol) =
    loss_of_sync (record {
      at = at;
      carrier = lock_number carrier;
      subcarrier = lock_number subcarrier;
      symbol = lock_number symbol;
    })
entry_of (Production status) = production (production_number status)
entry_of (Seal at) = seal at

abbrev pub entries_of : List Entry → List terms.Entry
entries_of entries = map entry_of entries
