-- The outer tags of the PDUs (CCSDS 911.1-B, 911.2-B and 912.1-B, annex A).
use Rattle.std.specs.Prelude.{ℕ, ◌-◌, ◌==◌, nat_le, if◌then◌else◌, List, [], ◌∷◌, length}
use Rattle.std.specs.Prelude.{slice_index, find, Option, Some, None}
use Rattle.ber_core.specs.Tree.{first_identifier}
use Rattle.user_lines.specs.declared.tag.Tag.{Tag}
use Rattle.user_lines.specs.declared.tag.Tag.TheVariants as tag

abbrev pub number_of : Tag → ℕ
number_of tag.Start = 0
number_of tag.StartReturn = 1
number_of tag.Stop = 2
number_of tag.StopReturn = 3
number_of tag.Schedule = 4
number_of tag.ScheduleReturn = 5
number_of tag.GetParameter = 6
number_of tag.ParameterReturn = 7
number_of tag.BufferOrThrow = 8
number_of tag.ReportOrThrowReturn = 9
number_of tag.Transfer = 10
number_of tag.TransferReturn = 11
number_of tag.Notify = 12
number_of tag.CltuReport = 13
number_of tag.Bind = 100
number_of tag.BindReturn = 101
number_of tag.Unbind = 102
number_of tag.UnbindReturn = 103
number_of tag.PeerAbort = 104

abbrev pub all : List Tag
all = tag.Start ∷ tag.StartReturn ∷ tag.Stop ∷ tag.StopReturn ∷ tag.Schedule
    ∷ tag.ScheduleReturn ∷ tag.GetParameter ∷ tag.ParameterReturn ∷ tag.BufferOrThrow
    ∷ tag.ReportOrThrowReturn ∷ tag.Transfer ∷ tag.TransferReturn ∷ tag.Notify ∷ tag.CltuReport
    ∷ tag.Bind ∷ tag.BindReturn ∷ tag.Unbind ∷ tag.UnbindReturn ∷ tag.PeerAbort ∷ []

-- The number that identifier octets have, where they are a PDU's: [0] to [13] take one octet, [100]
-- to [104] two. Whether they are constructed is left to the PDU's shape.
abbrev pub number_in : List ℕ → Option ℕ
number_in octets =
    if length octets == 1
    then (if nat_le 0xa0 (slice_index octets 0) then Some (slice_index octets 0 - 0xa0) else None)
    else if length octets == 2 then Some (slice_index octets 1) else None

abbrev pub tag_numbered : Option ℕ → Option Tag
tag_numbered None = None
tag_numbered (Some number) = find (λ t. number_of t == number) all

abbrev pub tag_told : Option (List ℕ) → Option Tag
tag_told None = None
tag_told (Some identifier) = tag_numbered (number_in identifier)

-- the tag in front of octets, where it is one of a PDU
abbrev pub tag_of : List ℕ → Option Tag
tag_of octets = tag_told (first_identifier octets)
