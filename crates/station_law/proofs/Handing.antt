-- The text of the buffers that a START of the desk is still to hand over.
use Rattle.std.proofs.Common.{◌≡◌, ℕ, ◌+◌, ◌-◌, ◌<◌, ◌≤◌, true, false, nat_lt, List, []}
use Rattle.std.proofs.Common.{◌++◌, length, map, drop, get_or, Option, Result, Ok, Err, refl}
use Rattle.std.proofs.Common.{arith}
use Rattle.std.proofs.lemmas.Bool.Decides.{nat_tests}
use Rattle.std.proofs.lemmas.List.{drop_more, drop_all}
use Rattle.std.specs.Result.{IsErrAnd}
use Rattle.station_desk.specs.ToldBuffer.{message_octets}
use Rattle.station_desk.specs.Cursor.{Cursor, at_next, current}
use Rattle.script_store.specs.declared.stop.Stop.{Stop}
use Rattle.script_store.specs.declared.stop.Stop.TheVariants.{Memory}
use Rattle.script_store.specs.Output.{Wrote}
use Rattle.script_store.specs.Said.{handed, sent_text, texts}
use Rattle.script_store.specs.Steps.{Behind, stopped_before}

-- the text of the buffers behind those that were handed over
abbrev pub text_to_come : Cursor → List ℕ
text_to_come cursor = texts (map (handed 0) (drop cursor.count cursor.buffers))

-- where there is a next one, its text stands before the others'
pub next_text : (old new : Cursor) → new ≡ at_next old → new.has_current ≡ true
    → text_to_come old ≡ sent_text 0 (message_octets (current new)) ++ text_to_come new
next_text old new next has =
    let more : nat_lt old.count (length old.buffers) ≡ true = cc in
    let below : old.count < length old.buffers = grind (arith, nat_tests) in
    let count : new.count ≡ old.count + 1 = rw (next, more) refl in
    let place : new.count - 1 ≡ old.count = omega (arith, count) in
    let same : new.buffers ≡ old.buffers = rw next refl in
    let here : current new ≡ get_or old.buffers old.count [] = rw (same, place) refl in
    rw (here, count, same, drop_more old.buffers old.count [] below) refl

-- where there is none, nothing is to come
pub no_text : (old new : Cursor) → new ≡ at_next old → new.has_current ≡ false
    → text_to_come old ≡ []
no_text old new next has =
    let none : nat_lt old.count (length old.buffers) ≡ false = cc in
    let past : length old.buffers ≤ old.count = grind (arith, nat_tests) in
    rw (drop_all old.count old.buffers past) refl

-- nothing more was written, for want of memory
pub refused_before : {T : Type 0} (start now : Option (List ℕ)) (f g : ℕ) (whole rest : List ℕ)
    (result : Result T Stop) → IsErrAnd result (λ stop. stop ≡ Memory)
    → Behind start now f g whole rest → Wrote {T = T} start now f g whole result
refused_before start now f g whole rest (Ok value) is behind = absurd is
refused_before start now f g whole rest (Err stop) is behind =
    rw is (stopped_before start now f g whole rest behind)
