-- A source of one entry, as contracts see it. This product's own.
use Rattle.std.specs.Prelude.{◌≡◌, ◌==◌, ℕ, Bool, false, IsTrue, if◌then◌else◌, Option, Some, None}
use Rattle.std.specs.Prelude.{List, [], ◌∷◌}
use Rattle.archive_terms.specs.Archive.{is_valid}
use Rattle.archive_terms.specs.Archive as terms
use Rattle.record_form.specs.Entry.{entry_of}
use Rattle.record_form.specs.declared.entry.Entry.{Entry}
use Rattle.recorder.specs.Feeds.{Answer, gave, at_end}

-- whether the entry was given, and then the end, and the count of faults
pub record SourceState : Type 0 where
  pub is_given : Bool
  pub is_ended : Bool
  pub faults : ℕ

-- the entry that is still to be given is this one, and is valid
abbrev pub IsToGive : terms.Entry → Option Entry → Bool → Type 0
IsToGive one None is_ended = Unit {0}
IsToGive one (Some entry) is_ended =
    (entry_of entry ≡ one) × IsTrue (is_valid (entry_of entry)) × (is_ended ≡ false)

-- what it has answered
abbrev pub answered : terms.Entry → Bool → Bool → List Answer
answered one is_given is_ended =
    if is_given then gave one ∷ (if is_ended then at_end ∷ [] else []) else []

-- it tells all its answers until it fails
abbrev pub answers_of : terms.Entry → SourceState → Option (List Answer)
answers_of one source =
    if source.faults == 0 then Some (answered one source.is_given source.is_ended) else None
