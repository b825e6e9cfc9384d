-- Transcript lines are read exactly where they say a thing, and their words are those of the table.
use Rattle.std.proofs.Common.{◌≡◌, ◌∷◌, refl, ap}
use Rattle.std.specs.Fmt.{decimal}
use Rattle.std.specs.Prelude.{codes}
use Rattle.words.specs.Line.{exact, spelling}
use Rattle.words.specs.Parts.{joined_by}
use Rattle.drill_text.specs.Ends.{end}
use Rattle.drill_text.specs.Texts.{end_words, words_of}
use Rattle.drill_text.specs.Transcript.{lines, said, AreExact}
use Rattle.drill_text.specs.declared.end_word.EndWord.{EndWord}
use Rattle.drill_text.specs.declared.end_word.EndWord.TheVariants.{Unbound, Closed, Denied, Range}
use Rattle.drill_text.specs.declared.end_word.EndWord.TheVariants.{Broken, Aborted, PeerAborted}
use Rattle.drill_text.specs.declared.end_word.EndWord.TheVariants.{Fault as LinkFault}
use Rattle.drill_text.specs.declared.transcript_line.TranscriptLine.{TranscriptLine}
use Rattle.drill_text.specs.declared.transcript_line.TranscriptLine.TheVariants.{Sent, Stalled}
use Rattle.drill_text.specs.declared.transcript_line.TranscriptLine.TheVariants.{Discarded, Ended}
use Rattle.drill_text.specs.declared.transcript_line.TranscriptLine.TheVariants.{Backward, TooLong}
use Rattle.drill_text.specs.declared.transcript_line.TranscriptLine.TheVariants.{Full, Fault, Crash}
use Rattle.drill_text.specs.declared.transcript_line.TranscriptLine.TheVariants.{Archive, Radiated}
use Rattle.drill_text.specs.declared.transcript_line.TranscriptLine.TheVariants.{Expired, Waits}
use Rattle.drill_text.specs.declared.transcript_line.TranscriptLine.TheVariants.{Idle, Failed}
use Rattle.drill_text.specs.declared.transcript_line.TranscriptLine.TheVariants.{Refused}

pub lines_are_exact : AreExact
lines_are_exact = exact lines (record { some = refl; blank = refl; end = refl })

pub end_is : (w : EndWord) → end.write w ≡ end_words w
end_is Unbound = refl
end_is Closed = refl
end_is Denied = refl
end_is Range = refl
end_is (Broken n) = refl
end_is (Aborted n) = refl
end_is (PeerAborted n) = refl
end_is LinkFault = refl

words_are : (line : TranscriptLine) → lines.write (said line) ≡ words_of line
words_are (Sent c octets) = refl
words_are (Stalled c) = refl
words_are (Discarded c n) = refl
words_are (Ended c why) = ap (λ ws. codes "ended" ∷ decimal c ∷ ws) (end_is why)
words_are Backward = refl
words_are TooLong = refl
words_are (Full need free) = refl
words_are Fault = refl
words_are Crash = refl
words_are (Archive entries) = refl
words_are (Radiated id octets) = refl
words_are (Expired id) = refl
words_are Waits = refl
words_are Idle = refl
words_are (Failed id) = refl
words_are Refused = refl

pub text_is : (line : TranscriptLine) → spelling lines (said line) ≡ joined_by 32 (words_of line)
text_is line = ap (joined_by 32) (words_are line)
