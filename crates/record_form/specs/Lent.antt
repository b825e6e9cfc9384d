-- An entry whose octets are lent, as the archive's definitions have it.
use Rattle.archive_terms.specs.Archive.{Entry, frame, loss_of_sync, production, seal}
use Rattle.sle_numbers.specs.FrameQuality.{number_of as quality_number}
use Rattle.sle_numbers.specs.LockStatus.{number_of as lock_number}
use Rattle.sle_numbers.specs.ReturnProductionStatus.{number_of as production_number}
use Rattle.record_form.specs.declared.entry_ref.EntryRef.{EntryRef}
use Rattle.record_form.specs.declared.entry_ref.EntryRef.TheVariants.{Frame, LossOfSync}
use Rattle.record_form.specs.declared.entry_ref.EntryRef.TheVariants.{Production, Seal}

abbrev pub lent_entry : EntryRef → Entry
lent_entry (Frame ert quality antenna lost octets) =
    frame (record {
      ert = ert;
      quality = quality_number quality;
      antenna = antenna.now;
      lost = lost;
      octets = octets.now;
    })
lent_entry (LossOfSync at carrier subcarrier symbol) =
    loss_of_sync (record {
      at = at;
      carrier = lock_number carrier;
      subcarrier = lock_number subcarrier;
      symbol = lock_number symbol;
    })
lent_entry (Production status) = production (production_number status)
lent_entry (Seal at) = seal at
