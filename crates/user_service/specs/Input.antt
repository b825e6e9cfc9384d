-- The CLTUs that an input names, and why none of them is sent. This product's own.
use Rattle.std.specs.Prelude.{◌≡◌, ℕ, ◌<◌, ◌≤◌, Option, IfSome, Result, Ok, Err, List, [], length}
use Rattle.cltu_lines.specs.CltuText.{text_told}
use Rattle.user_task.specs.declared.cltus.CltuLine.{CltuLine}
use Rattle.user_words.specs.declared.asked.Asked.{Asked}
use Rattle.user_words.specs.declared.asked.Asked.TheVariants.{Raf, Rcf, Cltu}
use Rattle.whole_input.specs.declared.reading.TheConstants.{INPUT_OCTETS}
use Rattle.user_service.specs.declared.unsent.Unsent.{Unsent}
use Rattle.user_service.specs.declared.unsent.Unsent.TheVariants.{ReadFault, TooLong, BadLine, Memory}

-- What an input names where it holds these octets, if it tells: CLTUs, or its first bad line, where
-- it isn't too long. A fault and want of memory say nothing of them.
abbrev pub Names : Option (List ℕ) → Result (List CltuLine) Unsent → Type 0
Names left (Ok cltus) = IfSome left (λ octets.
    (length octets ≤ INPUT_OCTETS) × (text_told octets ≡ Ok cltus))
Names left (Err ReadFault) = Unit {0}
Names left (Err TooLong) = IfSome left (λ octets. INPUT_OCTETS < length octets)
Names left (Err (BadLine number)) = IfSome left (λ octets.
    (length octets ≤ INPUT_OCTETS) × (text_told octets ≡ Err number))
Names left (Err Memory) = Unit {0}

-- for frames no CLTU is sent, whatever the input holds
abbrev pub NamesFor : Asked → Option (List ℕ) → Result (List CltuLine) Unsent → Type 0
NamesFor (Raf from to quality report) left named = named ≡ Ok []
NamesFor (Rcf from to channel report) left named = named ≡ Ok []
NamesFor (Cltu first report) left named = Names left named
