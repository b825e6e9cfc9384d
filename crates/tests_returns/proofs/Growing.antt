-- An archive and its index go on with an entry that may follow.
use Rattle.std.proofs.Common.{◌≡◌, ◌++◌, ◌∷◌, [], List, true, ◌&&◌, ap, sym, subst, ◌∙◌, refl}
use Rattle.std.proofs.lemmas.List.{map-append}
use Rattle.archive_terms.specs.Archive.{is_archive, IsArchive, may_follow}
use Rattle.archive_terms.specs.Archive as terms
use Rattle.archive_index.specs.IndexState.{IndexState, Indexes}
use Rattle.record_form.specs.Entry.{entry_of, entries_of}
use Rattle.record_form.specs.declared.entry.Entry.{Entry}

pub goes_on : ((a : List terms.Entry) (e : terms.Entry)
    → is_archive (a ++ e ∷ []) ≡ (is_archive a && may_follow a e))
    → (held : List Entry) (e : Entry) (more : IndexState) (longer : List Entry)
    → IsArchive (entries_of held) → may_follow (entries_of held) (entry_of e) ≡ true
    → longer ≡ held ++ e ∷ [] → Indexes more (entries_of held ++ entry_of e ∷ [])
    → Indexes more (entries_of longer) × IsArchive (entries_of longer)
goes_on grows held e more longer archive follows is indexed =
    let whole : entries_of longer ≡ entries_of held ++ entry_of e ∷ [] = ap entries_of is
    ∙ map-append entry_of held (e ∷ []) in
    let both : is_archive (entries_of held ++ entry_of e ∷ []) ≡ true =
    grows (entries_of held) (entry_of e) ∙ cc (archive, follows, and_true) in (
      subst (λ xs. Indexes more xs) (sym whole) indexed,
      subst (λ xs. IsArchive xs) (sym whole) both,
    )
  where
    and_true : (true && true) ≡ true
    and_true = refl
