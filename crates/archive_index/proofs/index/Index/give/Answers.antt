use Rattle.std.proofs.Common.{◌∙◌, ap, sym, arith, refl, length-append}
use Rattle.std.specs.Option.{option_map}
use Rattle.std.proofs.lemmas.List.{length-map}
use Rattle.record_form.specs.Entry.{entry_of, entries_of}
use Rattle.frame_select.specs.Selection.{selection_of}
use Rattle.frame_select.specs.Item.{item_of}
use Rattle.archive_index.specs.declared.walk.Found.{Found}
use Rattle.archive_index.proofs.Picks.{within, next_is}
use Rattle.archive_index.proofs.Giving.{gives_next, gives_all}
use Rattle.archive_index.proofs.index.Index.give.Goals as goal

pub read-entry-requires : goal.read-entry-requires
read-entry-requires g c =
    let s = selection_of c.args.selection.now in
    let next = c.onward.ensures.next (entries_of c.args.entries.now) s c.loop-found.cursor.place
    c.loop-found.cursor.since c.requires.indexes c.requires.archive c.loop-found.invariant.walk in
    within c.args.entries.now s c.loop-found.cursor.place c.in-Some.found.place _ next
    (ap (option_map (λ (f : Found). f.place)) c.in-Some.is)

pub item-requires-clause-told : goal.item-requires-clause-told
item-requires-clause-told g c =
    let s = selection_of c.args.selection.now in
    let next = c.onward.ensures.next (entries_of c.args.entries.now) s c.loop-found.cursor.place
    c.loop-found.cursor.since c.requires.indexes c.requires.archive c.loop-found.invariant.walk in
    (next_is c.args.entries.now s c.loop-found.cursor.place c.in-Some.found.place _
    c.read-entry.result.now next (ap (option_map (λ (f : Found). f.place)) c.in-Some.is)
    c.read-entry.ensures.value).0

pub behind-cursor-requires-clause-fits : goal.behind-cursor-requires-clause-fits
behind-cursor-requires-clause-fits g c =
    let s = selection_of c.args.selection.now in
    let next = c.onward.ensures.next (entries_of c.args.entries.now) s c.loop-found.cursor.place
    c.loop-found.cursor.since c.requires.indexes c.requires.archive c.loop-found.invariant.walk in
    let below = within c.args.entries.now s c.loop-found.cursor.place c.in-Some.found.place _ next
    (ap (option_map (λ (f : Found). f.place)) c.in-Some.is) in
    omega (arith, below, c.requires.indexes.count, length-map c.args.entries.now entry_of)

pub loop-found-smaller : goal.loop-found-smaller
loop-found-smaller g c =
    let s = selection_of c.args.selection.now in
    let next = c.onward.ensures.next (entries_of c.args.entries.now) s c.loop-found.cursor.place
    c.loop-found.cursor.since c.requires.indexes c.requires.archive c.loop-found.invariant.walk in
    let first = next_is c.args.entries.now s c.loop-found.cursor.place c.in-Some.found.place _
    c.read-entry.result.now next (ap (option_map (λ (f : Found). f.place)) c.in-Some.is)
    c.read-entry.ensures.value in
    rw (c.behind-cursor.ensures, first.1) (omega arith)

pub loop-found-preserved : goal.loop-found-preserved
loop-found-preserved g c =
    let s = selection_of c.args.selection.now in
    let entries = entries_of c.args.entries.now in
    let entry = entry_of c.read-entry.result.now in
    let next = c.onward.ensures.next entries s c.loop-found.cursor.place
    c.loop-found.cursor.since c.requires.indexes c.requires.archive c.loop-found.invariant.walk in
    let first = next_is c.args.entries.now s c.loop-found.cursor.place c.in-Some.found.place _
    c.read-entry.result.now next (ap (option_map (λ (f : Found). f.place)) c.in-Some.is)
    c.read-entry.ensures.value in
    let found = rw c.in-Some.is at (c.onward.ensures.found entries s c.loop-found.cursor.place
    c.loop-found.cursor.since entry c.requires.indexes c.requires.archive
    c.loop-found.invariant.walk) in
    let on = found first.2 in
    record {
      all = rw (c.behind-cursor.ensures, c.in_ok-push.ensures.ok) (gives_next entries s c.args.first
          c.loop-found.cursor c.loop-found.items c.in-Some.found.place entry (item_of c.in_ok-item.field-0)
          c.loop-found.invariant.all (sym c.is_full.ensures ∙ c.if-is_full.false) first.1
          (c.in_ok-item.ensures entries on.0));
      walk = rw c.behind-cursor.ensures on.1;
      counted = rw (c.in_ok-push.ensures.ok, length-append) (omega (
        arith,
        c.loop-found.invariant.counted,
        c.onward.ensures.steps,
        c.read-entry.ensures.step,
      ));
    }

pub returns-then-is_full-clause-gives : goal.returns-then-is_full-clause-gives
returns-then-is_full-clause-gives g c =
    let s = selection_of c.args.selection.now in
    let entries = entries_of c.args.entries.now in
    let next = c.onward.ensures.next entries s c.loop-found.cursor.place
    c.loop-found.cursor.since c.requires.indexes c.requires.archive c.loop-found.invariant.walk in
    rw c.in-Some.is at (gives_all entries s c.args.first c.loop-found.cursor c.loop-found.items
    (option_map (λ (f : Found). f.place) c.onward.result) c.loop-found.invariant.all next
    (rw (c.in-Some.is, ← c.is_full.ensures, c.if-is_full.true) refl))

pub returns-clause-gives : goal.returns-clause-gives
returns-clause-gives g c =
    let s = selection_of c.args.selection.now in
    let entries = entries_of c.args.entries.now in
    let next = c.onward.ensures.next entries s c.loop-found.cursor.place
    c.loop-found.cursor.since c.requires.indexes c.requires.archive c.loop-found.invariant.walk in
    rw c.in_default.is at (gives_all entries s c.args.first c.loop-found.cursor c.loop-found.items
    (option_map (λ (f : Found). f.place) c.onward.result) c.loop-found.invariant.all next
    (rw c.in_default.is refl))

pub returns-then-is_full-clause-steps : goal.returns-then-is_full-clause-steps
returns-then-is_full-clause-steps g c = λ b few.
    let count = length-map c.args.entries.now entry_of in
    let begun = c.walk-walk.ensures.steps (entries_of c.args.entries.now) b c.requires.indexes
    (omega (arith, few, count)) in
    omega (arith, begun, c.loop-found.invariant.counted, c.onward.ensures.steps)

pub returns-clause-steps : goal.returns-clause-steps
returns-clause-steps g c = λ b few.
    let count = length-map c.args.entries.now entry_of in
    let begun = c.walk-walk.ensures.steps (entries_of c.args.entries.now) b c.requires.indexes
    (omega (arith, few, count)) in
    omega (arith, begun, c.loop-found.invariant.counted, c.onward.ensures.steps)
