-- What was read fits.
use Rattle.std.proofs.Common.{ℕ, List, Result, Ok, Err}
use Rattle.std.specs.Prelude.{IfOk}
use Rattle.words.specs.declared.unread.Unread.{Unread}
use Rattle.words.specs.declared.line_fault.LineFault.{LineFault}
use Rattle.words.specs.Judged.{judged, judged_is}
use Rattle.words.specs.Kind.{Kind}
use Rattle.words.specs.Row.{Row}
use Rattle.words.specs.Reading.{Gives, Judges}

pub word_fits : {A X : Type 0} (seen : A → X) (k : Kind X) (word : List ℕ)
    (result : Result A Unread) → Gives seen result (k.read word)
    → IfOk result (λ a. k.Fits (seen a))
word_fits seen k word (Ok a) e = (k.is_spelled word (seen a) e).0
word_fits seen k word (Err why) e = tt

pub row_fits : {A X : Type 0} (seen : A → X) (r : Row X) (words : List (List ℕ))
    (result : Result A Unread) → Gives seen result (r.read words)
    → IfOk result (λ a. r.Fits (seen a))
row_fits seen r words (Ok a) e = (r.is_spelled words (seen a) e).0
row_fits seen r words (Err why) e = tt

pub judged_fits : {A X : Type 0} (seen : A → X) (r : Row X) (words : List (List ℕ))
    (result : Result A LineFault) → Judges seen result (judged r words)
    → IfOk result (λ a. r.Fits (seen a))
judged_fits seen r words (Ok a) e = (judged_is r words (seen a) e).0
judged_fits seen r words (Err why) e = tt
