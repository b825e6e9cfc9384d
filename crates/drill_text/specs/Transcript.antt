-- The lines of a transcript, a first word and the row behind it each.
use Rattle.std.proofs.Common.{ℕ, List, [], ◌∷◌, ◌++◌, refl}
use Rattle.std.specs.Prelude.{codes}
use Rattle.words.specs.Fixed.{fixed}
use Rattle.words.specs.HexOctets.{hex}
use Rattle.words.specs.Kind.{Kind}
use Rattle.words.specs.Last.{last}
use Rattle.words.specs.Line.{IsExact, spelling}
use Rattle.words.specs.Listed.{AreListed}
use Rattle.words.specs.Number.{number}
use Rattle.words.specs.Row.{Row, nothing}
use Rattle.words.specs.Table.{Table, Says, of_forms}
use Rattle.words.specs.Then.{◌▸◌}
use Rattle.drill_text.specs.Ends.{end}
use Rattle.drill_text.specs.declared.end_word.EndWord.{EndWord}
use Rattle.drill_text.specs.declared.transcript_line.TranscriptLine.{TranscriptLine}
use Rattle.drill_text.specs.declared.transcript_line.TranscriptLine.TheVariants.{Sent, Stalled}
use Rattle.drill_text.specs.declared.transcript_line.TranscriptLine.TheVariants.{Discarded, Ended}
use Rattle.drill_text.specs.declared.transcript_line.TranscriptLine.TheVariants.{Backward, TooLong}
use Rattle.drill_text.specs.declared.transcript_line.TranscriptLine.TheVariants.{Full, Fault, Crash}
use Rattle.drill_text.specs.declared.transcript_line.TranscriptLine.TheVariants.{Archive, Radiated}
use Rattle.drill_text.specs.declared.transcript_line.TranscriptLine.TheVariants.{Expired, Waits}
use Rattle.drill_text.specs.declared.transcript_line.TranscriptLine.TheVariants.{Idle, Failed}
use Rattle.drill_text.specs.declared.transcript_line.TranscriptLine.TheVariants.{Refused}

-- the forms, by their first words
pub data Form : Type 0 where
  sent : Form
  stalled : Form
  discarded : Form
  ended : Form
  backward : Form
  too : Form
  full : Form
  fault : Form
  crash : Form
  archive : Form
  radiated : Form
  expired : Form
  waits : Form
  idle : Form
  failed : Form
  refused : Form

abbrev pub word_of : Form → List ℕ
word_of sent = codes "sent"
word_of stalled = codes "stalled"
word_of discarded = codes "discarded"
word_of ended = codes "ended"
word_of backward = codes "backward"
word_of too = codes "too"
word_of full = codes "full"
word_of fault = codes "fault"
word_of crash = codes "crash"
word_of archive = codes "archive"
word_of radiated = codes "radiated"
word_of expired = codes "expired"
word_of waits = codes "waits"
word_of idle = codes "idle"
word_of failed = codes "failed"
word_of refused = codes "refused"

abbrev pub all_forms : List Form
all_forms =
    sent ∷ stalled ∷ discarded ∷ ended ∷ backward ∷ too ∷ full ∷ fault ∷ crash ∷ archive ∷ radiated
    ∷ expired ∷ waits ∷ idle ∷ failed ∷ refused ∷ []

pub forms_are_listed : AreListed word_of all_forms
forms_are_listed sent = refl
forms_are_listed stalled = refl
forms_are_listed discarded = refl
forms_are_listed ended = refl
forms_are_listed backward = refl
forms_are_listed too = refl
forms_are_listed full = refl
forms_are_listed fault = refl
forms_are_listed crash = refl
forms_are_listed archive = refl
forms_are_listed radiated = refl
forms_are_listed expired = refl
forms_are_listed waits = refl
forms_are_listed idle = refl
forms_are_listed failed = refl
forms_are_listed refused = refl

-- a number of 32 bits and one of 64, and at least one octet
abbrev pub count : Kind ℕ
count = number 0 4294967295

abbrev pub long : Kind ℕ
long = number 0 18446744073709551615

abbrev pub message : Row (List ℕ)
message = last (hex 1 18446744073709551615)

abbrev pub Behind : Form → Type 0
Behind sent = ℕ × List ℕ
Behind stalled = ℕ
Behind discarded = ℕ × ℕ
Behind ended = ℕ × EndWord
Behind backward = Unit {0}
Behind too = Unit {0}
Behind full = ℕ × ℕ
Behind fault = Unit {0}
Behind crash = Unit {0}
Behind archive = ℕ
Behind radiated = ℕ × List ℕ
Behind expired = ℕ
Behind waits = Unit {0}
Behind idle = Unit {0}
Behind failed = ℕ
Behind refused = Unit {0}

-- the words of each
abbrev pub row_of : (f : Form) → Row (Behind f)
row_of sent = count ▸ message
row_of stalled = last count
row_of discarded = count ▸ last count
row_of ended = count ▸ end
row_of backward = nothing
row_of too = last (fixed (codes "long"))
row_of full = long ▸ last long
row_of fault = nothing
row_of crash = nothing
row_of archive = last long
row_of radiated = count ▸ message
row_of expired = last count
row_of waits = nothing
row_of idle = nothing
row_of failed = last count
row_of refused = last (fixed (codes "3"))

abbrev pub transcript : Table Form
transcript = record {
  all = all_forms;
  word = word_of;
  each = forms_are_listed;
  Behind = Behind;
  row = row_of;
}

abbrev pub lines : Row (Says transcript)
lines = of_forms transcript

-- the form and the words of what a line says
abbrev pub said : TranscriptLine → Says transcript
said (Sent c octets) = (sent, (c, octets.now))
said (Stalled c) = (stalled, c)
said (Discarded c n) = (discarded, (c, n))
said (Ended c why) = (ended, (c, why))
said Backward = (backward, tt)
said TooLong = (too, tt)
said (Full need free) = (full, (need, free))
said Fault = (fault, tt)
said Crash = (crash, tt)
said (Archive entries) = (archive, entries)
said (Radiated id cltu) = (radiated, (id, cltu.now))
said (Expired id) = (expired, id)
said Waits = (waits, tt)
said Idle = (idle, tt)
said (Failed id) = (failed, id)
said Refused = (refused, tt)

-- the canonical line with its end
abbrev pub text_of : TranscriptLine → List ℕ
text_of line = spelling lines (said line) ++ 10 ∷ []

-- Lines are read exactly where they say a thing, the canonical one is read back, and none holds a
-- line end.
abbrev pub AreExact : Type 0
AreExact = IsExact lines
