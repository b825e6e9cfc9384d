-- A START's selection as the archive's definitions have it.
use Rattle.archive_terms.specs.Selection.{ChannelId, master, virtual, by_quality, by_channel}
use Rattle.archive_terms.specs.Selection as terms
use Rattle.sle_common.specs.declared.gvcid.Gvcid.{Gvcid}
use Rattle.sle_common.specs.declared.gvcid.Channel.{Channel}
use Rattle.sle_common.specs.declared.gvcid.Channel.TheVariants.{Master, Virtual}
use Rattle.sle_numbers.specs.RequestedFrameQuality.{number_of}
use Rattle.frame_select.specs.declared.filter.Filter as code
use Rattle.frame_select.specs.declared.filter.Filter.TheVariants as filters
use Rattle.frame_select.specs.declared.selection.Selection.{Selection}

abbrev pub virtual_of : Channel → terms.Channel
virtual_of Master = master
virtual_of (Virtual n) = virtual n

-- a global virtual channel identifier
abbrev pub id_of : Gvcid → ChannelId
id_of g = record { spacecraft = g.spacecraft; version = g.version; channel = virtual_of g.channel }

abbrev pub filter_of : code.Filter → terms.Filter
filter_of (filters.Quality wanted) = by_quality (number_of wanted)
filter_of (filters.Channel wanted) = by_channel (id_of wanted)

abbrev pub selection_of : Selection → terms.Selection
selection_of s =
    record {
      filter = filter_of s.filter;
      start = s.start;
      stop = s.stop;
      first = s.first;
      notices = s.notices;
    }
