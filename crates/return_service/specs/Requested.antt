-- What a START of a return service may ask for, and what is kept of it (CCSDS 911.1-B, requested-
-- frame-quality; CCSDS 911.2-B, requested-global-VCID).
use Rattle.std.specs.Prelude.{ℕ, Bool, true, Option, Some, None, List, pos}
use Rattle.std.specs.List.{list_any}
use Rattle.sle_numbers.specs.declared.requested_frame_quality.RequestedFrameQuality.{RequestedFrameQuality}
use Rattle.sle_numbers.specs.declared.requested_frame_quality.RequestedFrameQuality.TheVariants.{AllFrames}
use Rattle.sle_numbers.specs.RequestedFrameQuality.{number_of as quality_number}
use Rattle.sle_common.specs.declared.gvcid.Gvcid.{Gvcid}
use Rattle.sle_common.specs.declared.parameter.Parameter.{Parameter}
use Rattle.sle_common.specs.declared.parameter.Parameter.TheVariants as parameter
use Rattle.sle_common.specs.Gvcid.{gvcid}
use Rattle.archive_terms.specs.Selection.{is_of_channel}
use Rattle.frame_select.specs.declared.filter.Filter.{Filter}
use Rattle.frame_select.specs.declared.filter.Filter.TheVariants.{Quality, Channel}
use Rattle.frame_select.specs.Selection.{id_of}
use Rattle.return_pdu.specs.declared.return_kind.ReturnKind.{ReturnKind}
use Rattle.return_pdu.specs.declared.return_kind.ReturnKind.TheVariants.{Raf, Rcf}
use Rattle.return_service.specs.declared.invocation.ReturnInvocation.{ReturnInvocation}
use Rattle.return_service.specs.declared.invocation.ReturnInvocation.TheVariants.{Start}
use Rattle.return_service.specs.declared.parameter_names.TheConstants.{REQUESTED_QUALITY}
use Rattle.return_service.specs.declared.parameter_names.TheConstants.{REQUESTED_CHANNEL}

-- a channel that is asked for has its numbers in their ranges, as in any PDU that was decoded
abbrev pub FilterFits : Filter → Type 0
FilterFits (Quality quality) = Unit {0}
FilterFits (Channel channel) = gvcid.Fits channel

abbrev pub AskedFits : ReturnInvocation → Type 0
AskedFits (Start s) = FilterFits s.filter
AskedFits _ = Unit {0}

-- so has the one that was asked for last
abbrev pub KeptFits : Option Filter → Type 0
KeptFits (Some filter) = FilterFits filter
KeptFits None = Unit {0}

-- whether a channel is among the permitted ones: a master channel permits itself and each of its
-- virtual channels (this product's own)
abbrev pub is_permitted : List Gvcid → Gvcid → Bool
is_permitted channels wanted =
    list_any (λ (channel : Gvcid). is_of_channel (id_of channel) (id_of wanted)) channels

-- any quality may be asked for, and a channel among the permitted ones
abbrev pub may_ask : List Gvcid → Filter → Bool
may_ask channels (Quality quality) = true
may_ask channels (Channel channel) = is_permitted channels channel

-- the quality that the last START asked for: all frames before the first one
abbrev pub kept_quality : Option Filter → RequestedFrameQuality
kept_quality (Some (Quality quality)) = quality
kept_quality _ = AllFrames

-- the channel that the last START asked for, if there was one
abbrev pub kept_channel : Option Filter → Option Gvcid
kept_channel (Some (Channel channel)) = Some channel
kept_channel _ = None

-- what the last START asked for is a parameter, with a name for each service
abbrev pub kept_name : ReturnKind → ℕ
kept_name Raf = REQUESTED_QUALITY
kept_name Rcf = REQUESTED_CHANNEL

abbrev pub kept_parameter : ReturnKind → Option Filter → Parameter
kept_parameter Raf kept = parameter.Quality (pos (quality_number (kept_quality kept)))
kept_parameter Rcf kept = parameter.Channel (kept_channel kept)
