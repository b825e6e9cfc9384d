-- What a status report counts. This product's own.
use Rattle.std.specs.Prelude.{ℕ, ◌+◌, ◌-◌, ◌^◌, ◌==◌, Bool, true, false, min, List}
use Rattle.std.specs.Prelude.{count_by}
use Rattle.archive_terms.specs.Archive.{frame}
use Rattle.archive_terms.specs.Delivery.{Item, archived}
use Rattle.archive_terms.specs.Placed.{ToldItem}
use Rattle.return_service.specs.declared.counts.Counts.{Counts}

abbrev pub is_frame : Item → Bool
is_frame (archived _ (frame _)) = true
is_frame _ = false

-- a frame of quality 0
abbrev pub is_error_free : Item → Bool
is_error_free (archived _ (frame f)) = f.quality == 0
is_error_free _ = false

abbrev pub no_frames : Counts
no_frames = record { error_free = 0; delivered = 0 }

-- a count stands still at the end of 32 bits
abbrev pub counted : ℕ → ℕ → ℕ
counted count more = min (count + more) (2 ^ 32 - 1)

-- with the frames among items that were handed over
abbrev pub with_frames_of : List ToldItem → Counts → Counts
with_frames_of told c = record {
  error_free = counted c.error_free (count_by (λ (x : ToldItem). is_error_free x.0) told);
  delivered = counted c.delivered (count_by (λ (x : ToldItem). is_frame x.0) told);
}
