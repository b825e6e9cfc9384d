-- The lines of a file's batches, put together one batch after another.
use Rattle.std.proofs.Common.{◌≡◌, ℕ, List, [], ◌++◌, Option, Some, None, IfSome}
use Rattle.std.proofs.Common.{Result, Ok, Err, OnErr, refl, sym, ap, subst, ◌∙◌, append_assoc}
use Rattle.std.proofs.Common.{append-nil}
use Rattle.std.proofs.lemmas.Grind.{flat_map-append}
use Rattle.std.specs.Result.{IsErrAnd}
use Rattle.archive_terms.specs.Archive.{Entry}
use Rattle.disk_model.specs.Images.{Pending}
use Rattle.gate_journal.specs.declared.batch_fault.BatchFault.{BatchFault}
use Rattle.gate_journal.specs.declared.batch_fault.BatchFault.TheVariants as batches
use Rattle.gate_journal.specs.File.{StandsFor, StandsAt}
use Rattle.gate_journal.specs.Reading.{LedTo}
use Rattle.gate_journal.specs.Batches.{BatchesState, HasPassed, StandsForSome}
use Rattle.drill_text.specs.Reading.{entry_text}
use Rattle.script_store.specs.Output.{Wrote}
use Rattle.script_store.specs.Steps.{Behind, behind_as, step_on, stopped_by, stopped_before}
use Rattle.script_store.specs.Steps.{at_start}
use Rattle.script_store.specs.declared.stop.Stop.{Stop}
use Rattle.archive_commands.specs.declared.ending.Ending.{Ending}
use Rattle.archive_commands.specs.Archives.{offered, entries_text, IsFrontOf, ReadTo, Gathers, Puts}
use Rattle.archive_commands.specs.Archives.{ending_of, Empties}
use Rattle.archive_commands.specs.declared.ending.Ending.TheVariants as endings

pub on_err : {T E : Type 0} {P : Type 0} (result : Result T E) → P → OnErr result P
on_err (Ok value) fact = tt
on_err (Err error) fact = fact

-- what was read so far, and what of its lines a block holds
pub record Going (pending : Option Pending) (start now : Option (List ℕ)) (f g : ℕ)
    (batches : BatchesState) (block : List ℕ) : Type 0 where
  pub entries : List Entry
  pub passed : HasPassed pending entries batches
  pub behind : Behind start now f g (entries_text entries) block

-- ---- what was read

-- a file that was whole stands for entries that begin with those that were read
pub front_read : ((front entries : List Entry) (gate place : ℕ) (file : List ℕ)
    → LedTo gate front file → StandsAt entries place file
    → (rest : List Entry) × (entries ≡ front ++ rest))
    → (pending : Option Pending) (entries : List Entry) (now : BatchesState)
    → IfSome pending (λ _. StandsForSome pending) → HasPassed pending entries now
    → IsFrontOf pending entries
front_read law None entries now whole passed = tt
front_read law (Some told) entries now whole passed =
    let rest = law entries whole.0 now.gate whole.1.0 told.content passed.led whole.1.1 in
    (rest.0, (whole.1.0, subst (λ all. StandsAt all whole.1.0 told.content) rest.1 whole.1.1))

-- it is whole when it is read again, where the disk tells
pub tells_nothing : (pending : Option Pending) → IfSome pending (λ _. StandsForSome pending)
    → (StandsForSome pending → ⊥) → pending ≡ None
tells_nothing None whole none = refl
tells_nothing (Some told) whole none = absurd (none whole)

pub read_whole : (pending : Option Pending) (entries : List Entry) (gate : ℕ)
    → IfSome pending (λ told. StandsAt entries gate told.content)
    → IfSome pending (λ told. StandsFor entries told.content)
read_whole None entries gate stands = tt
read_whole (Some told) entries gate stands = (gate, stands)

-- ---- what was written

module _ (start now : Option (List ℕ)) (f g : ℕ) where
  -- lines behind those that a block holds
  pub longer : (whole held more : List ℕ) → Behind start now f g whole held
      → Behind start now f g (whole ++ more) (held ++ more)
  longer whole held more behind = record {
    so_far = behind.so_far;
    splits = ap (λ text. text ++ more) behind.splits ∙ append_assoc behind.so_far held more;
    wrote = behind.wrote;
  }

  lines_more : (entries batch : List Entry)
      → entries_text (entries ++ batch) ≡ entries_text entries ++ entries_text batch
  lines_more entries batch = flat_map-append (λ entry. entry_text (offered entry)) entries batch

  module _ (next : Option (List ℕ)) (h : ℕ) (entries batch : List Entry) (block : List ℕ)
      (behind : Behind start now f g (entries_text entries) block) where
    with_batch : Behind start now f g (entries_text (entries ++ batch))
        (block ++ entries_text batch)
    with_batch = subst (λ text. Behind start now f g text (block ++ entries_text batch))
        (sym (lines_more entries batch))
        (longer (entries_text entries) block (entries_text batch) behind)

    -- a batch's lines were put behind them
    pub batch_put : (left : List ℕ) → Behind now next g h (block ++ entries_text batch) left
        → Behind start next f h (entries_text (entries ++ batch)) left
    batch_put left put =
        step_on start now next f g h (entries_text (entries ++ batch)) put.so_far left tt
        (behind_as start now f g (entries_text (entries ++ batch)) (block ++ entries_text batch)
        (put.so_far ++ left) put.splits with_batch) put.wrote

    -- or the writing stopped there
    pub batch_stopped : {T U : Type 0} (stop : Stop) (result : Result U Stop)
        → IsErrAnd result (λ e. e ≡ stop)
        → Wrote {T = T} now next g h (block ++ entries_text batch) (Err stop)
        → Wrote {T = U} start next f h (entries_text (entries ++ batch)) result
    batch_stopped {T} stop result is wrote =
        stopped_by {T = T} start now next f g h (entries_text (entries ++ batch))
        (block ++ entries_text batch) [] stop result is
        (behind_as start now f g (entries_text (entries ++ batch)) (block ++ entries_text batch)
        ((block ++ entries_text batch) ++ []) (sym (append-nil (block ++ entries_text batch)))
        with_batch) wrote

-- ---- how it ended

module _ (pending : Option Pending) (start now : Option (List ℕ)) (f g : ℕ) (entries : List Entry)
    (block : List ℕ) (behind : Behind start now f g (entries_text entries) block)
    (front : IsFrontOf pending entries) where
  pub gathered : (ending : Ending) → ReadTo pending entries ending
      → Gathers pending start now f g block (Ok ending)
  gathered ending read = record {
    entries = entries;
    read = read;
    front = tt;
    held = behind;
    stopped = tt;
  }

  -- a fault of the reading
  pub gathered_by : (fault : BatchFault) (place : ℕ) → (fault ≡ batches.Unfit → pending ≡ None)
      → Gathers pending start now f g block (ending_of fault place)
  gathered_by batches.Unfit place unfit = record {
    entries = entries;
    read = unfit refl;
    front = tt;
    held = behind;
    stopped = tt;
  }
  gathered_by batches.DiskFault place unfit = record {
    entries = entries;
    read = front;
    front = tt;
    held = behind;
    stopped = tt;
  }
  gathered_by batches.Memory place unfit = record {
    entries = entries;
    read = tt;
    front = front;
    held = tt;
    stopped = stopped_before {T = Ending} start now f g (entries_text entries) block behind;
  }

-- nothing was read yet
pub gathered_none : (pending : Option Pending) (output : Option (List ℕ)) (f : ℕ) (block : List ℕ)
    → block ≡ [] → IfSome pending (λ _. StandsForSome pending) → (fault : BatchFault) (place : ℕ)
    → (fault ≡ batches.Unfit → pending ≡ None)
    → Gathers pending output output f f block (ending_of fault place)
gathered_none pending output f block empty whole =
    gathered_by pending output output f f [] block
    (subst (λ b. Behind output output f f [] b) (sym empty) (at_start output f []))
    (none_read pending whole)
  where
    none_read : (told : Option Pending) → IfSome told (λ _. StandsForSome told) → IsFrontOf told []
    none_read None whole = tt
    none_read (Some told) whole = whole

-- the writing stopped
pub gathered_stop : (pending : Option Pending) (start next : Option (List ℕ)) (f h : ℕ)
    (entries : List Entry) (block : List ℕ) (stop : Stop) (result : Result Ending Stop)
    → IsErrAnd result (λ e. e ≡ stop) → IsFrontOf pending entries
    → Wrote start next f h (entries_text entries) result
    → Gathers pending start next f h block result
gathered_stop pending start next f h entries block stop (Ok ending) is front wrote = absurd is
gathered_stop pending start next f h entries block stop (Err e) is front wrote = record {
  entries = entries;
  read = tt;
  front = front;
  held = tt;
  stopped = wrote;
}

-- ---- the last block

front_of_read : (pending : Option Pending) (entries : List Entry) (ending : Ending)
    → ReadTo pending entries ending → IsFrontOf pending entries
front_of_read pending entries endings.DiskFault read = read
front_of_read pending entries (endings.Changed place) read =
    subst (λ p. IfSome p (λ told. (rest : List Entry)
    × StandsFor (entries ++ rest) told.content)) (sym read) tt
front_of_read None entries endings.Whole read = tt
front_of_read (Some told) entries endings.Whole read =
    ([], subst (λ all. StandsFor all told.content) (sym (append-nil entries)) read)

-- the last block wasn't written whole
pub put_stopped : (pending : Option Pending) (start now next : Option (List ℕ)) (f g h : ℕ)
    (held left : List ℕ) (ending : Ending) (stop : Stop) (result : Result Ending Stop)
    → IsErrAnd result (λ e. e ≡ stop) → Gathers pending start now f g held (Ok ending)
    → Empties now next g h held left (Err stop) → Puts pending start next f h result
put_stopped pending start now next f g h held left ending stop (Ok other) is gathers how = absurd is
put_stopped pending start now next f g h held left ending stop (Err e) is gathers how = record {
  entries = gathers.entries;
  read = tt;
  front = front_of_read pending gathers.entries ending gathers.read;
  wrote = stopped_by start now next f g h (entries_text gathers.entries) how.text left stop (Err e)
      is (behind_as start now f g (entries_text gathers.entries) held (how.text ++ left) how.splits
      gathers.held) how.wrote;
}
