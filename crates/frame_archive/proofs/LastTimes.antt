-- The last times of entries, one after another.
use Rattle.std.proofs.Common.{◌≡◌, ℕ, ◌+◌, ◌<◌, List, [], ◌∷◌, ◌++◌, length, take, get_or, Option}
use Rattle.std.proofs.Common.{None, sym, ap, ◌∙◌}
use Rattle.std.specs.Option.{option_or}
use Rattle.std.proofs.lemmas.List.{take_more, map_push}
use Rattle.std.proofs.lemmas.List.Sums.{fold_push}
use Rattle.archive_terms.specs.Archive as terms
use Rattle.archive_terms.specs.Archive.{frame_time, seal_time, last_time}
use Rattle.record_form.specs.declared.entry.Entry.{Entry}
use Rattle.record_form.specs.Entry.{entry_of, entries_of}
use Rattle.gate_journal.specs.declared.order.Times.{Times}
use Rattle.frame_archive.specs.State.{times_of, times_after}

abbrev pub pair : Option ℕ → Option ℕ → Times
pair frame seal = record { frame = frame; seal = seal }

pub times_of-push : (entries : List terms.Entry) (e : terms.Entry)
    → times_of (entries ++ e ∷ []) ≡ times_after (times_of entries) e
times_of-push entries e =
    ap (λ (frame : Option ℕ). pair frame (last_time seal_time None (entries ++ e ∷ [])))
    (fold_push (λ (last : Option ℕ) (entry : terms.Entry). option_or (frame_time entry) last) None
    entries e)
    ∙ ap (pair (option_or (frame_time e) (last_time frame_time None entries)))
    (fold_push (λ (last : Option ℕ) (entry : terms.Entry). option_or (seal_time entry) last) None
    entries e)

one_more : (entries : List Entry) (i : ℕ) (entry : Entry) → i < length entries
    → entry ≡ get_or entries i entry
    → entries_of (take (i + 1) entries) ≡ entries_of (take i entries) ++ entry_of entry ∷ []
one_more entries i entry there is =
    ap entries_of (take_more entries i entry there
    ∙ ap (λ (e : Entry). take i entries ++ e ∷ []) (sym is))
    ∙ map_push entry_of (take i entries) entry

pub same_times : (a b : Times) → a.frame ≡ b.frame → a.seal ≡ b.seal → a ≡ b
same_times a b frame seal = ap (λ (f : Option ℕ). pair f a.seal) frame ∙ ap (pair b.frame) seal

pub times_more : (entries : List Entry) (i : ℕ) (entry : Entry) (times after : Times)
    → i < length entries → entry ≡ get_or entries i entry
    → times ≡ times_of (entries_of (take i entries))
    → after.frame ≡ option_or (frame_time (entry_of entry)) times.frame
    → after.seal ≡ option_or (seal_time (entry_of entry)) times.seal
    → after ≡ times_of (entries_of (take (i + 1) entries))
times_more entries i entry times after there is before frame seal =
    same_times after (times_after times (entry_of entry)) frame seal
    ∙ ap (λ (t : Times). times_after t (entry_of entry)) before
    ∙ sym (times_of-push (entries_of (take i entries)) (entry_of entry))
    ∙ sym (ap times_of (one_more entries i entry there is))
