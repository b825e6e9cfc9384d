use Rattle.archive_terms.specs.Archive.{is_closed}
use Rattle.archive_terms.specs.Selection.{picked}
use Rattle.station_desk.specs.declared.limits.TheConstants.{BUFFER_ITEMS}
use Rattle.station_desk.specs.Start.{moment, selection}
use Rattle.station_desk.proofs.Readable.{start_readable, are_messages}
use Rattle.station_desk.proofs.laws.a_start_is_read.Goals as goal

pub returns : goal.returns
returns c = record {
  readable = λ entries first last quality archive.
      start_readable entries c.frames_are_short.ensures c.frames_are_plain.ensures
      c.end_is_plain.ensures c.buffers_are_exact.ensures c.canonical_spells.ensures
      c.cut_into_buffers.ensures.buffers first last quality (is_closed entries (moment last))
      archive (c.offline_buffers_hold_a_prefix.ensures BUFFER_ITEMS
      (picked entries (selection first last quality)) (is_closed entries (moment last)));
  messages = are_messages;
}
