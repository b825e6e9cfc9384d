-- Lines that are put together in a block, which is written where it is full.
use Rattle.std.proofs.Common.{◌≡◌, ℕ, List, ◌++◌, Option, Result, Ok, Err, OnOk, OnErr, refl}
use Rattle.std.proofs.Common.{sym, ap, ◌∙◌, append_assoc}
use Rattle.std.specs.Result.{IsErrAnd}
use Rattle.script_store.specs.Output.{Wrote}
use Rattle.script_store.specs.Steps.{Behind, behind_as, step_on, stopped_by, stopped_before}
use Rattle.script_store.specs.Steps.{at_start}
use Rattle.script_store.specs.declared.stop.Stop.{Stop}
use Rattle.script_store.specs.declared.stop.Stop.TheVariants.{Memory}
use Rattle.archive_commands.specs.Archives.{Empties}

-- a line was put behind what a block held, and the block was written where it was full
module _ (now next : Option (List ℕ)) (g h : ℕ) (block line grown left : List ℕ)
    (put : grown ≡ block ++ line) where
  pub put_on : (result : Result (Unit {0}) Stop) → Empties now next g h grown left result
      → OnOk result (Behind now next g h (block ++ line) left)
  put_on (Ok done) how =
      record { so_far = how.text; splits = sym put ∙ how.splits; wrote = how.wrote }
  put_on (Err stop) how = tt

  pub put_halted : (result : Result (Unit {0}) Stop) → Empties now next g h grown left result
      → OnErr result (Wrote now next g h (block ++ line) result)
  put_halted (Ok done) how = tt
  put_halted (Err stop) how =
      stopped_by {T = Unit {0}} now now next g g h (block ++ line) how.text left stop (Err stop)
      refl (behind_as now now g g (block ++ line) (block ++ line) (how.text ++ left)
      (sym put ∙ how.splits) (at_start now g (block ++ line))) how.wrote

-- no memory for it
pub not_put : {T : Type 0} (output : Option (List ℕ)) (f : ℕ) (text : List ℕ) (stop : Stop)
    (result : Result T Stop) → IsErrAnd result (λ e. e ≡ stop) → stop ≡ Memory
    → OnErr result (Wrote output output f f text result)
not_put output f text stop (Ok value) is refused = tt
not_put {T} output f text stop (Err e) is refused =
    rw (is, refused) (stopped_before {T = T} output output f f text text (at_start output f text))

module _ (start now next : Option (List ℕ)) (f g h : ℕ) (whole block line more : List ℕ)
    (behind : Behind start now f g whole (block ++ (line ++ more))) where
  -- the next line was put behind those of a block
  pub line_on : (left : List ℕ) → Behind now next g h (block ++ line) left
      → Behind start next f h whole (left ++ more)
  line_on left put =
      step_on start now next f g h whole put.so_far (left ++ more) tt
      (behind_as start now f g whole (block ++ (line ++ more)) (put.so_far ++ (left ++ more))
      (sym (append_assoc block line more) ∙ ap (λ text. text ++ more) put.splits
      ∙ append_assoc put.so_far left more) behind) put.wrote

  -- or the writing stopped there
  pub line_stopped : {T U : Type 0} (stop : Stop) (result : Result U Stop)
      → IsErrAnd result (λ e. e ≡ stop) → Wrote {T = T} now next g h (block ++ line) (Err stop)
      → Wrote {T = U} start next f h whole result
  line_stopped {T} stop result is wrote =
      stopped_by {T = T} start now next f g h whole (block ++ line) more stop result is
      (behind_as start now f g whole (block ++ (line ++ more)) ((block ++ line) ++ more)
      (sym (append_assoc block line more)) behind) wrote
