-- What a round of a connection says in the transcript: each offer that was taken whole or stalled,
-- how many items were dropped of a message that stalled, and how it ended. A poll, and an offer that
-- failed, say nothing.
use Rattle.std.specs.Prelude.{ℕ, Option, Some, None, List, [], ◌∷◌}
use Rattle.std.specs.List.{filter_map}
use Rattle.octet_core.specs.declared.offer.Offer.TheVariants.{Whole, Stalled, Failed as Refused}
use Rattle.isp1_tml.specs.declared.tml_fault.TmlFault.{TmlFault}
use Rattle.isp1_tml.specs.declared.tml_fault.TmlFault.TheVariants.{BadType, NotZero, BadLength}
use Rattle.isp1_tml.specs.declared.tml_fault.TmlFault.TheVariants.{TooLong, BadContext}
use Rattle.link_model.specs.declared.call.Call.{Call}
use Rattle.link_model.specs.declared.call.Call.TheVariants.{Polled, Offered}
use Rattle.sle_numbers.specs.PeerAbortDiagnostic.{number_of}
use Rattle.session_core.specs.declared.ended.Ended.{Ended}
use Rattle.session_core.specs.declared.ended.Ended.TheVariants as ended
use Rattle.session_core.specs.declared.spoken.Spoken.{Spoken}
use Rattle.session_core.specs.declared.spoken.Spoken.TheVariants as spoken
use Rattle.words.specs.Table.{Says}
use Rattle.drill_text.specs.Transcript.{transcript}
use Rattle.drill_text.specs.Transcript as forms
use Rattle.drill_text.specs.declared.end_word.EndWord.{EndWord}
use Rattle.drill_text.specs.declared.end_word.EndWord.TheVariants as word
use Rattle.station_links.specs.declared.link_line.LinkLine.{LinkLine}
use Rattle.station_links.specs.declared.link_line.LinkLine.TheVariants as line

-- what a call of the link says
abbrev pub line_in : Call → Option LinkLine
line_in (Polled space heard) = None
line_in (Offered octets Whole) = Some (line.Sent octets)
line_in (Offered octets Stalled) = Some line.Stalled
line_in (Offered octets Refused) = None

abbrev pub lines_in : List Call → List LinkLine
lines_in calls = filter_map line_in calls

-- the number of the transport's fault, by its place among these five
abbrev pub fault_number : TmlFault → ℕ
fault_number (BadType place) = 1
fault_number (NotZero place) = 2
fault_number (BadLength place) = 3
fault_number (TooLong length) = 4
fault_number (BadContext place) = 5

abbrev pub end_word : Ended → EndWord
end_word ended.Unbound = word.Unbound
end_word ended.PeerClosed = word.Closed
end_word ended.Denied = word.Denied
end_word (ended.Range interval factor) = word.Range
end_word (ended.Broken fault) = word.Broken (fault_number fault)
end_word (ended.Aborted diagnostic) = word.Aborted (number_of diagnostic)
end_word (ended.PeerAborted diagnostic) = word.PeerAborted diagnostic

-- how a connection ended, if it did
abbrev pub end_of : Spoken → Option EndWord
end_of spoken.Going = None
end_of (spoken.Ended end) = Some (end_word end)
end_of spoken.LinkFault = Some word.Fault

-- how many items a round dropped behind which the connection is there still, if it dropped any: the
-- message's offer is its last call
abbrev pub dropped_lines : Option ℕ → List LinkLine
dropped_lines None = []
dropped_lines (Some items) = line.Discarded items ∷ []

abbrev pub drop_lines : Option EndWord → Option ℕ → List LinkLine
drop_lines None dropped = dropped_lines dropped
drop_lines (Some why) dropped = []

abbrev pub end_lines : Option EndWord → List LinkLine
end_lines None = []
end_lines (Some why) = line.Ended why ∷ []

-- the line of the transcript that says this of a connection
abbrev pub says_of : ℕ → LinkLine → Says transcript
says_of c (line.Sent octets) = (forms.sent, (c, octets))
says_of c line.Stalled = (forms.stalled, c)
says_of c (line.Discarded items) = (forms.discarded, (c, items))
says_of c (line.Ended why) = (forms.ended, (c, why))
