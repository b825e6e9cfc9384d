-- What a START of the desk hands over. The desk is an offline instance of RAF, whose link takes
-- everything. This product's own.
use Rattle.std.specs.Prelude.{ℕ, Some, None, List, unwrap_or}
use Rattle.cds_time.specs.Moment.{moment_of}
use Rattle.cds_time.specs.declared.cds.Cds.{Cds}
use Rattle.archive_terms.specs.Archive.{Entry, is_closed}
use Rattle.archive_terms.specs.Selection.{Selection, by_quality, picked}
use Rattle.archive_terms.specs.Delivery.{Item, Terms, offline, selection_of, offline_buffers}
use Rattle.archive_terms.specs.Continuity.{told_buffers}
use Rattle.station_desk.specs.declared.limits.TheConstants.{BUFFER_ITEMS}
use Rattle.station_desk.specs.ToldBuffer.{ToldBuffer}

-- the moment of a line's time, which names one by its form
abbrev pub moment : Cds → ℕ
moment time = unwrap_or (moment_of time) 0

abbrev pub selection : Cds → Cds → ℕ → Selection
selection start stop quality =
    selection_of offline (by_quality quality) (Some (moment start)) (Some (moment stop)) 0

-- an offline delivery has no latency
abbrev pub terms : Cds → Cds → ℕ → Terms
terms start stop quality = record {
  mode = offline;
  size = BUFFER_ITEMS;
  latency = 0;
  selection = selection start stop quality;
}

-- the buffers that a START hands over of an archive, round after round until one has none
abbrev pub desk_buffers : List Entry → Cds → Cds → ℕ → List (List Item)
desk_buffers entries start stop quality =
    offline_buffers BUFFER_ITEMS (picked entries (selection start stop quality))
    (is_closed entries (moment stop))

-- those buffers as they are told
abbrev pub told_desk : List Entry → Cds → Cds → ℕ → List ToldBuffer
told_desk entries start stop quality =
    told_buffers entries None (desk_buffers entries start stop quality)
