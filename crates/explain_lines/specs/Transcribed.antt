-- What a line of a transcript says, by the definition of its lines.
use Rattle.std.specs.Prelude.{ℕ, List, Option, Some}
use Rattle.words.specs.Steps.{◌>>=◌}
use Rattle.words.specs.Table.{Says}
use Rattle.drill_text.specs.Ends.{End, end_of, why_row}
use Rattle.drill_text.specs.Ends as end
use Rattle.drill_text.specs.Transcript.{Form, transcript, row_of}
use Rattle.drill_text.specs.Transcript as form
use Rattle.drill_text.specs.declared.end_word.EndWord.{EndWord}
use Rattle.explain_lines.specs.declared.end_row.EndForm.{EndForm}
use Rattle.explain_lines.specs.declared.end_row.EndForm.TheVariants as ended
use Rattle.explain_lines.specs.declared.transcribed.Transcribed.{Transcribed}
use Rattle.explain_lines.specs.declared.transcribed.Transcribed.TheVariants as says
use Rattle.explain_lines.specs.declared.transcript_form.TranscriptForm.{TranscriptForm}
use Rattle.explain_lines.specs.declared.transcript_form.TranscriptForm.TheVariants as coded

abbrev pub form_of : TranscriptForm → Form
form_of coded.Sent = form.sent
form_of coded.Stalled = form.stalled
form_of coded.Discarded = form.discarded
form_of coded.Ended = form.ended
form_of coded.Backward = form.backward
form_of coded.Too = form.too
form_of coded.Full = form.full
form_of coded.Fault = form.fault
form_of coded.Crash = form.crash
form_of coded.Archive = form.archive
form_of coded.Radiated = form.radiated
form_of coded.Expired = form.expired
form_of coded.Waits = form.waits
form_of coded.Idle = form.idle
form_of coded.Failed = form.failed
form_of coded.Refused = form.refused

-- what the words behind a form's word say
unfoldable pub form_reading : Form → List (List ℕ) → Option (Says transcript)
form_reading f ws = (row_of f).read ws >>= λ p. Some (f, p)

-- the form and the words of what a line says
abbrev pub heard : Transcribed → Says transcript
heard (says.Sent c octets) = (form.sent, (c, octets))
heard (says.Stalled c) = (form.stalled, c)
heard (says.Discarded c n) = (form.discarded, (c, n))
heard (says.Ended c word) = (form.ended, (c, word))
heard says.Backward = (form.backward, tt)
heard says.TooLong = (form.too, tt)
heard (says.Full need free) = (form.full, (need, free))
heard says.Fault = (form.fault, tt)
heard says.Crash = (form.crash, tt)
heard (says.Archive entries) = (form.archive, entries)
heard (says.Radiated id octets) = (form.radiated, (id, octets))
heard (says.Expired id) = (form.expired, id)
heard says.Waits = (form.waits, tt)
heard says.Idle = (form.idle, tt)
heard (says.Failed id) = (form.failed, id)
heard says.Refused = (form.refused, tt)

-- how a connection ends, by the form of its first word
abbrev pub end_form_of : EndForm → End
end_form_of ended.Unbound = end.unbound
end_form_of ended.Closed = end.closed
end_form_of ended.Denied = end.denied
end_form_of ended.Range = end.range
end_form_of ended.Broken = end.broken
end_form_of ended.Aborted = end.aborted
end_form_of ended.PeerAborted = end.peer_aborted
end_form_of ended.Fault = end.fault

unfoldable pub end_reading : End → List (List ℕ) → Option EndWord
end_reading e ws = (why_row e).read ws >>= λ p. Some (end_of e p)
