use Rattle.std.proofs.Common.{◌≡◌, IsTrue, [], ◌∷◌, length, refl, sym, ap, subst, arith, rules}
use Rattle.std.proofs.Common.{length-append}
use Rattle.std.specs.List.{list_all}
use Rattle.std.proofs.lemmas.List.{length-map}
use Rattle.std.proofs.lemmas.Result.{err_from_is_err_and}
use Rattle.archive_terms.specs.Archive.{is_valid}
use Rattle.frame_archive.specs.State.{ArchiveState}
use Rattle.record_form.specs.declared.entry.Entry.{Entry}
use Rattle.record_form.specs.Entry.{entry_of}
use Rattle.recorder.specs.Offers.{offered, after_offer, dropped_of, with_refusal}
use Rattle.recorder.proofs.OneMore.{offers_none, offers_more, offer_taken, offer_dropped, has_room}
use Rattle.recorder.proofs.OneMore.{valid_at, valid_more, same_file, told_so}
use Rattle.recorder.proofs.Short.{first_offered}
use Rattle.recorder.proofs.step.offer_each.Goals as goal

pub loop-entry-init : goal.loop-entry-init
loop-entry-init g c = (
  offers_none (offered c.args.archive.now (dropped_of c.args.recorded.now)),
  omega (arith, ap length c.requires.rests),
  omega arith,
  refl,
  refl,
  rw c.requires.rests refl,
  λ entries is. is,
)

pub returns-in_err-shared-clause-cut_short : goal.returns-in_err-shared-clause-cut_short
returns-in_err-shared-clause-cut_short g c =
    let p = err_from_is_err_and c.from_residual.result c.from_residual.ensures.1 in
    rw p.1 (first_offered (offered c.args.archive.now (dropped_of c.args.recorded.now))
    (offered c.loop-entry.archive (dropped_of c.loop-entry.recorded)) c.loop-entry.archive
    c.args.entries.now c.loop-entry.entry-index c.loop-entry.invariant.0 refl)

pub offer-requires-after_bounds : goal.offer-requires-after_bounds
offer-requires-after_bounds g c κs within =
    let same : c.in_ok-shared.shared ≡ c.entry-item.result = search rules in
    subst (λ (e : Entry). IsTrue (is_valid (entry_of e))) (sym same)
    (valid_at c.args.entries.now c.loop-entry.entry-index c.entry-item.result
    c.loop-entry-test.true c.entry-item.is c.requires.batch.1)

pub drop_one-requires-clause-room : goal.drop_one-requires-clause-room
drop_one-requires-clause-room g c =
    has_room c.loop-entry.archive (entry_of c.in_ok-shared.shared) c.in-Err.fault
    c.in-Err.ensures.cause (omega (
      arith,
      c.loop-entry.invariant.1,
      c.loop-entry.invariant.2,
      c.requires.batch.0,
      length-map c.args.entries.now entry_of,
      c.loop-entry-test.true,
    ))

pub returns-in_err-drop_one-in-Err-clause-cut_short : goal.returns-in_err-drop_one-in-Err-clause-cut_short
returns-in_err-drop_one-in-Err-clause-cut_short g c =
    let p = err_from_is_err_and c.from_residual-in_err-drop_one-in-Err.result
    c.from_residual-in_err-drop_one-in-Err.ensures.1 in
    rw p.1 (first_offered (offered c.args.archive.now (dropped_of c.args.recorded.now))
    (offered c.loop-entry.archive (dropped_of c.loop-entry.recorded)) c.offer.new.self
    c.args.entries.now c.loop-entry.entry-index c.loop-entry.invariant.0
    c.in-Err.ensures.unchanged)

pub loop-entry-preserved-in-Ok : goal.loop-entry-preserved-in-Ok
loop-entry-preserved-in-Ok g c =
    let was = c.loop-entry.invariant in
    let old = c.loop-entry.archive in
    let new = c.offer.new.self in
    let drops = dropped_of c.loop-entry.recorded in
    let entry = entry_of c.in_ok-shared.shared in
    let taken = c.in-Ok.ensures.taken in
    let same : c.in_ok-shared.shared ≡ c.entry-item.result = search rules in
    let valid = valid_at c.args.entries.now c.loop-entry.entry-index c.entry-item.result
    c.loop-entry-test.true c.entry-item.is c.requires.batch.1 in (
      offers_more (offered c.args.archive.now (dropped_of c.args.recorded.now)) (offered old drops)
          (offered new drops) c.args.entries.now c.loop-entry.entry-index c.entry-item.result
          c.loop-entry-test.true c.entry-item.is was.0
          (subst (λ (e : Entry). offered new drops ≡ after_offer (offered old drops) (entry_of e))
          same (offer_taken old new drops entry c.in-Ok.ensures.in_order taken)),
      omega (
        arith,
        was.1,
        ap (λ (a : ArchiveState g.row.D.Denot). length a.waiting) taken,
        length-append old.waiting (entry ∷ []),
      ),
      was.2,
      was.3,
      same_file c.args.archive.now old new entry was.4 taken,
      subst (λ (a : ArchiveState g.row.D.Denot). IsTrue (list_all is_valid a.waiting)) (sym taken)
          (valid_more old.waiting entry was.5
          (subst (λ (e : Entry). IsTrue (is_valid (entry_of e))) (sym same) valid)),
      λ entries at. c.in-Ok.ensures.acknowledged entries (was.6 entries at),
    )

pub loop-entry-preserved : goal.loop-entry-preserved
loop-entry-preserved g c =
    let was = c.loop-entry.invariant in
    let old = c.loop-entry.archive in
    let new = c.offer.new.self in
    let drops = dropped_of c.loop-entry.recorded in
    let recorded = c.drop_one.new.recorded in
    let is = c.in_ok-drop_one-in-Err.ensures in
    let unchanged = c.in-Err.ensures.unchanged in
    let same : c.in_ok-shared.shared ≡ c.entry-item.result = search rules in (
      offers_more (offered c.args.archive.now (dropped_of c.args.recorded.now)) (offered old drops)
          (offered new (dropped_of recorded)) c.args.entries.now c.loop-entry.entry-index
          c.entry-item.result c.loop-entry-test.true c.entry-item.is was.0
          (subst (λ (e : Entry). offered new (dropped_of recorded)
          ≡ after_offer (offered old drops) (entry_of e)) same
          (offer_dropped old new drops (dropped_of recorded) (entry_of c.in_ok-shared.shared)
          c.in-Err.fault c.in-Err.ensures.cause is.cause unchanged (ap dropped_of is.added))),
      omega (
        arith,
        was.1,
        is.counted,
        ap (λ (a : ArchiveState g.row.D.Denot). length a.waiting) unchanged,
      ),
      omega (arith, was.2, is.counted),
      told_so c.args.recorded.now c.loop-entry.recorded recorded (with_refusal drops c.in-Err.fault)
          was.3 is.added,
      subst (λ (a : ArchiveState g.row.D.Denot). a
          ≡ record c.args.archive.now { times = a.times; waiting = a.waiting }) (sym unchanged)
          was.4,
      subst (λ (a : ArchiveState g.row.D.Denot). IsTrue (list_all is_valid a.waiting))
          (sym unchanged) was.5,
      λ entries at. c.in-Err.ensures.acknowledged entries (was.6 entries at),
    )
