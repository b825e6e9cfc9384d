-- The words of each line of a transcript, written out.
use Rattle.std.specs.Prelude.{ℕ, List, [], ◌∷◌, codes}
use Rattle.std.specs.Fmt.{decimal}
use Rattle.hex.specs.Hex.{encode_lower}
use Rattle.drill_text.specs.declared.end_word.EndWord.{EndWord}
use Rattle.drill_text.specs.declared.end_word.EndWord.TheVariants.{Unbound, Closed, Denied, Range}
use Rattle.drill_text.specs.declared.end_word.EndWord.TheVariants.{Broken, Aborted, PeerAborted}
use Rattle.drill_text.specs.declared.end_word.EndWord.TheVariants.{Fault as LinkFault}
use Rattle.drill_text.specs.declared.transcript_line.TranscriptLine.{TranscriptLine}
use Rattle.drill_text.specs.declared.transcript_line.TranscriptLine.TheVariants.{Sent, Stalled}
use Rattle.drill_text.specs.declared.transcript_line.TranscriptLine.TheVariants.{Discarded, Ended}
use Rattle.drill_text.specs.declared.transcript_line.TranscriptLine.TheVariants.{Backward, TooLong}
use Rattle.drill_text.specs.declared.transcript_line.TranscriptLine.TheVariants.{Full, Fault, Crash}
use Rattle.drill_text.specs.declared.transcript_line.TranscriptLine.TheVariants.{Archive, Radiated}
use Rattle.drill_text.specs.declared.transcript_line.TranscriptLine.TheVariants.{Expired, Waits}
use Rattle.drill_text.specs.declared.transcript_line.TranscriptLine.TheVariants.{Idle, Failed}
use Rattle.drill_text.specs.declared.transcript_line.TranscriptLine.TheVariants.{Refused}

abbrev pub end_words : EndWord → List (List ℕ)
end_words Unbound = codes "unbound" ∷ []
end_words Closed = codes "closed" ∷ []
end_words Denied = codes "denied" ∷ []
end_words Range = codes "range" ∷ []
end_words (Broken n) = codes "broken" ∷ decimal n ∷ []
end_words (Aborted n) = codes "aborted" ∷ decimal n ∷ []
end_words (PeerAborted n) = codes "peer-aborted" ∷ decimal n ∷ []
end_words LinkFault = codes "fault" ∷ []

abbrev pub words_of : TranscriptLine → List (List ℕ)
words_of (Sent c octets) = codes "sent" ∷ decimal c ∷ encode_lower octets.now ∷ []
words_of (Stalled c) = codes "stalled" ∷ decimal c ∷ []
words_of (Discarded c n) = codes "discarded" ∷ decimal c ∷ decimal n ∷ []
words_of (Ended c why) = codes "ended" ∷ decimal c ∷ end_words why
words_of Backward = codes "backward" ∷ []
words_of TooLong = codes "too" ∷ codes "long" ∷ []
words_of (Full need free) = codes "full" ∷ decimal need ∷ decimal free ∷ []
words_of Fault = codes "fault" ∷ []
words_of Crash = codes "crash" ∷ []
words_of (Archive entries) = codes "archive" ∷ decimal entries ∷ []
words_of (Radiated id octets) = codes "radiated" ∷ decimal id ∷ encode_lower octets.now ∷ []
words_of (Expired id) = codes "expired" ∷ decimal id ∷ []
words_of Waits = codes "waits" ∷ []
words_of Idle = codes "idle" ∷ []
words_of (Failed id) = codes "failed" ∷ decimal id ∷ []
words_of Refused = codes "refused" ∷ codes "3" ∷ []
