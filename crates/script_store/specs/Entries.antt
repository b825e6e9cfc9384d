-- An entry is offered to the archive, stored as a batch of its own, and published. The octets and
-- limits are this product's own.
use Rattle.std.specs.Prelude.{ℕ, ◌+◌, ◌-◌, true, false, not, nat_le, nat_lt, if◌then◌else◌}
use Rattle.std.specs.Prelude.{Option, Some, None, List, [], ◌∷◌, ◌++◌, length}
use Rattle.std.specs.List.{sum_by}
use Rattle.archive_terms.specs.Archive.{Entry, keeps_order, is_short}
use Rattle.record_form.specs.Spelling.{entry_octets}
use Rattle.script_store.specs.declared.refusal.Refusal.{Refusal}
use Rattle.script_store.specs.declared.refusal.Refusal.TheVariants as refusals
use Rattle.script_store.specs.declared.step_done.StepDone.{StepDone}
use Rattle.script_store.specs.declared.step_done.StepDone.TheVariants.{Fine, Full}
use Rattle.script_store.specs.declared.order.Order.{Order}
use Rattle.script_store.specs.declared.order.Strike.{Strike}
use Rattle.script_store.specs.declared.order.Strike.TheVariants.{Stop, Fail}
use Rattle.script_store.specs.Store.{Store}
use Rattle.script_store.specs.Orders.{is_hit, behind_store, found}
use Rattle.script_store.specs.Said.{told, Notice, backward, too_long, full, fault, crash, archive}
use Rattle.script_store.specs.Said.{Said}
use Rattle.script_store.specs.Answer.{Answer, ends}

-- how many octets of the file an entry wants as a batch of its own: its own, and 7
abbrev pub need : Entry → ℕ
need entry = length (entry_octets entry) + 7

-- how many octets of the file entries use, each stored as a batch of its own: the header and the
-- gate behind the batches are 9
abbrev pub used : List Entry → ℕ
used entries = 9 + sum_by need entries

-- how many octets are free below the capacity, or none where as many entries are stored as an
-- archive holds
abbrev pub free : Store → ℕ
free state =
    if nat_le 4194304 (length state.published) then 0 else state.capacity - used state.published

-- why an entry isn't taken
abbrev pub refusal : Store → Entry → Option Refusal
refusal state entry =
    if not (keeps_order state.published entry) then Some refusals.Backward
    else if not (is_short entry) then Some refusals.TooLong
    else if nat_lt (free state) (need entry) then Some (refusals.Full (need entry) (free state))
    else None

-- the line of a refusal, and how the entry's line ends
abbrev pub notice_of : Refusal → Notice
notice_of refusals.Backward = backward
notice_of refusals.TooLong = too_long
notice_of (refusals.Full wanted left) = full wanted left

abbrev pub done_of : Refusal → StepDone
done_of (refusals.Full wanted left) = Full
done_of _ = Fine

-- what is told of an archive that was opened again: why, and how many entries it has
abbrev pub opened : Notice → List Entry → List Said
opened why entries = told why ∷ told (archive (length entries)) ∷ []

-- the entry is acknowledged and published
abbrev pub stores : Store → Entry → Answer Store
stores state entry = record {
  said = [];
  given = entry ∷ [];
  recovers = false;
  done = Fine;
  next = record state { published = state.published ++ entry ∷ [] };
}

-- The power fails in the entry's store. What the file holds once the archive is opened again is all
-- that is published: the entry isn't offered again.
abbrev pub crashes : Store → Entry → List Entry → Answer Store
crashes state entry there = record {
  said = opened crash there;
  given = entry ∷ [];
  recovers = true;
  done = Fine;
  next = record state { published = there; order = None };
}

-- A call of the entry's store fails. The archive is opened again, and the entry is acknowledged,
-- since it is offered and stored once more where the file doesn't hold it.
abbrev pub fails : Store → Entry → List Entry → Answer Store
fails state entry there = record {
  said = opened fault there;
  given = entry ∷ [];
  recovers = false;
  done = Fine;
  next = record state { published = state.published ++ entry ∷ []; order = None };
}

abbrev pub struck : Store → Entry → List Entry → Strike → Answer Store
struck state entry there (Stop pick) = crashes state entry there
struck state entry there Fail = fails state entry there

-- the entry is stored while this order stands for the disk
abbrev pub stores_under : Store → Entry → Option Order → Answer Store
stores_under state entry None = stores state entry
stores_under state entry (Some order) =
    if is_hit order then struck state entry (found order state.published entry) order.strike
    else stores (record state { order = behind_store order }) entry

abbrev pub by_refusal : Store → Entry → Option Refusal → Answer Store
by_refusal state entry None = stores_under state entry state.order
by_refusal state entry (Some why) = ends (done_of why) (told (notice_of why) ∷ []) state

-- what the line of an entry answers
abbrev pub offer : Store → Entry → Answer Store
offer state entry = by_refusal state entry (refusal state entry)
