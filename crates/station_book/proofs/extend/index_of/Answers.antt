use Rattle.std.proofs.Common.{◌≡◌, ◌+◌, ◌++◌, ◌∷◌, [], take, ap, sym, subst, ◌∙◌}
use Rattle.std.proofs.lemmas.List.{map-append, take_more}
use Rattle.archive_index.specs.IndexState.{Indexes}
use Rattle.record_form.specs.Entry.{entry_of, entries_of}
use Rattle.station_book.proofs.extend.index_of.Goals as goal

pub loop-entry-preserved : goal.loop-entry-preserved
loop-entry-preserved c =
    let xs = c.args.entries.now in
    let i = c.loop-entry.entry-index in
    let e = c.entry-item.result in
    let step : take (i + 1) xs ≡ take i xs ++ e ∷ [] =
    take_more xs i e c.loop-entry-test.true
    ∙ ap (λ y. take i xs ++ y ∷ []) (sym c.entry-item.is) in
    let whole : entries_of (take (i + 1) xs) ≡ entries_of (take i xs) ++ entry_of e ∷ [] =
    ap entries_of step ∙ map-append entry_of (take i xs) (e ∷ []) in
    subst (λ ys. Indexes c.add.new.self ys) (sym whole)
    (c.in_ok-add.ensures.ok (entries_of (take i xs)) c.loop-entry.invariant)
