-- What a line of a script says: the lines of the transcript that it makes, and what it hands over.
-- The text, and what each START handed over, are functions of one list, so they can't differ.
use Rattle.std.specs.Prelude.{ℕ, ◌==◌, if◌then◌else◌, List, [], ◌∷◌, ◌++◌, length}
use Rattle.std.specs.List.{flat_map, sum_by}
use Rattle.archive_terms.specs.Delivery.{Terms}
use Rattle.station_desk.specs.ToldBuffer.{ToldBuffer, message_octets}
use Rattle.words.specs.Line as line
use Rattle.words.specs.Table.{Says}
use Rattle.drill_text.specs.Transcript.{transcript, lines, sent}
use Rattle.drill_text.specs.Transcript as forms
use Rattle.station_links.specs.declared.link_line.LinkLine.{LinkLine}
use Rattle.station_links.specs.LinkLines as links
use Rattle.station_uplink.specs.declared.uplink_line.UplinkLine.{UplinkLine}
use Rattle.station_uplink.specs.Turns as turns

-- a line of the transcript that hands nothing over: why an entry or a START is refused; that a
-- store failed; that the power did; and how many entries the archive has once it is opened again
pub data Notice : Type 0 where
  backward : Notice
  too_long : Notice
  full : ℕ → ℕ → Notice
  fault : Notice
  crash : Notice
  archive : ℕ → Notice
  refused : Notice

abbrev pub says_of : Notice → Says transcript
says_of backward = (forms.backward, tt)
says_of too_long = (forms.too, tt)
says_of (full need free) = (forms.full, (need, free))
says_of fault = (forms.fault, tt)
says_of crash = (forms.crash, tt)
says_of (archive entries) = (forms.archive, entries)
says_of refused = (forms.refused, tt)

-- such a line; what a connection says; what a turn of the uplink says; a START begins on a
-- connection; or an offer of a buffer was taken whole on it. The desk is connection 0.
pub data Said : Type 0 where
  told : Notice → Said
  linked : ℕ → LinkLine → Said
  uplink : UplinkLine → Said
  begun : ℕ → Terms → Said
  handed : ℕ → ToldBuffer → Said

-- a line of the transcript, with its end
abbrev pub line_text : Says transcript → List ℕ
line_text says = line.spelling lines says ++ 10 ∷ []

-- octets were handed over on a connection
abbrev pub sent_text : ℕ → List ℕ → List ℕ
sent_text connection octets = line_text (sent, (connection, octets))

-- the text of what is said
abbrev pub text_of : Said → List ℕ
text_of (told notice) = line_text (says_of notice)
text_of (linked connection says) = line_text (links.says_of connection says)
text_of (uplink says) = line_text (turns.says_of says)
text_of (begun connection terms) = []
text_of (handed connection buffer) = sent_text connection (message_octets buffer)

abbrev pub texts : List Said → List ℕ
texts said = flat_map text_of said

-- what a START has handed over: its connection, what it asks for, and its buffers in order
pub record Handed : Type 0 where
  pub connection : ℕ
  pub terms : Terms
  pub buffers : List ToldBuffer

-- the last START of a connection has handed over one buffer more
abbrev pub with_buffer : ℕ → ToldBuffer → List Handed → List Handed
with_buffer connection buffer [] = []
with_buffer connection buffer (last ∷ earlier) =
    if last.connection == connection
    then record last { buffers = last.buffers ++ buffer ∷ [] } ∷ earlier
    else last ∷ with_buffer connection buffer earlier

-- the STARTs so far, the last one first, each with all that it has handed over
abbrev pub handed_with : List Handed → Said → List Handed
handed_with starts (told notice) = starts
handed_with starts (linked connection says) = starts
handed_with starts (uplink says) = starts
handed_with starts (begun connection terms) =
    record { connection = connection; terms = terms; buffers = [] } ∷ starts
handed_with starts (handed connection buffer) = with_buffer connection buffer starts

abbrev pub handed_by : List Handed → List Said → List Handed
handed_by starts [] = starts
handed_by starts (one ∷ others) = handed_by (handed_with starts one) others

-- how many buffers STARTs have handed over, and how many of them lines of the transcript tell
abbrev pub buffers_handed : List Handed → ℕ
buffers_handed starts = sum_by (λ start. length start.buffers) starts

abbrev pub told_once : Said → ℕ
told_once (handed connection buffer) = 1
told_once _ = 0

abbrev pub buffers_told : List Said → ℕ
buffers_told said = sum_by told_once said

-- the octets of each CLTU that is told as radiated, in order
abbrev pub radiated_once : Said → List (List ℕ)
radiated_once (uplink says) = turns.octets_told says
radiated_once _ = []

abbrev pub radiated_by : List Said → List (List ℕ)
radiated_by said = flat_map radiated_once said
