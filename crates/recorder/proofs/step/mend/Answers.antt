use Rattle.std.proofs.Common.{◌≡◌, Err, inl, inr, refl, sym, ap, subst, ◌∙◌, arith, length, Some}
use Rattle.std.proofs.Common.{List, ◌++◌, rules}
use Rattle.std.proofs.lemmas.Result.{err_from_is_err_and}
use Rattle.archive_terms.specs.Archive.{Entry}
use Rattle.octet_core.specs.Fault.{Rose}
use Rattle.frame_archive.specs.State.{ArchiveState}
use Rattle.frame_archive.specs.Acknowledges.{Acknowledges}
use Rattle.recorder.specs.declared.recorded.Recorded.{Recorded}
use Rattle.recorder.specs.Offers.{Offered, offered, after_offers, dropped_of, IsCutShort}
use Rattle.recorder.specs.Steps.{WaitsAgain, HoldsAllOrNone}
use Rattle.recorder.proofs.Landing.{none_lost}
use Rattle.recorder.proofs.Mending.{opened_so, lost_so, lost_mended, lost_twice, lost_short}
use Rattle.recorder.proofs.Mending.{stores_so, store_failed, not_so}
use Rattle.recorder.proofs.Short.{all_offered}
use Rattle.recorder.proofs.Moments.{while_opened, both}
use Rattle.recorder.proofs.step.mend.Goals as goal
use Rattle.recorder.proofs.step.mend.Goals.{After-store}

pub returns-then-len-eq0-clause-mended : goal.returns-then-len-eq0-clause-mended
returns-then-len-eq0-clause-mended g c =
    let old = c.args.archive.now in
    let opened = c.reopen.new.self in
    let is = c.in-Ok.ensures in
    let all = none_lost old.waiting old.count opened.count old.failed is.whole c.requires.failed
    (omega (arith, c.if-len-eq0.true, c.len.ensures, ap length is.lost)) in
    inl (record {
      reopened = opened_so g.D.Disk.pending g.D.Disk.makes old opened c.in-Ok.landing.landed
          is.landed is.calls is.reopened is.found is.used is.acknowledged;
      counted = ap Some c.count.ensures;
      count = all.0;
      told = record {
        stored = is.landed ∙ all.1;
        dropped_are = refl;
      };
    })

pub returns-in_err-offer_each-clause-still : goal.returns-in_err-offer_each-clause-still
returns-in_err-offer_each-clause-still g c =
    let old = c.args.archive.now in
    let opened = c.reopen.new.self in
    let is = c.in-Ok.ensures in
    let lost = lost_so g.D.Disk.pending g.D.Disk.makes old opened c.in-Ok.landing.landed
    c.in-Ok.landing.lost is.landed is.lost is.whole c.requires.failed
    (omega (arith, c.if-len-eq0.false, c.len.ensures))
    (opened_so g.D.Disk.pending g.D.Disk.makes old opened c.in-Ok.landing.landed is.landed
    is.calls is.reopened is.found is.used is.acknowledged) is.acknowledged in
    let p = err_from_is_err_and c.from_residual.result c.from_residual.ensures.1 in
    rw p.1 (λ entries at. c.offer_each.ensures.acknowledged entries (lost.keeps entries at))

pub returns-in_err-offer_each-clause-left : goal.returns-in_err-offer_each-clause-left
returns-in_err-offer_each-clause-left g c =
    let old = c.args.archive.now in
    let opened = c.reopen.new.self in
    let new = c.offer_each.new.archive in
    let drops = dropped_of c.args.recorded in
    let is = c.in-Ok.ensures in
    let lost = lost_so g.D.Disk.pending g.D.Disk.makes old opened c.in-Ok.landing.landed
    c.in-Ok.landing.lost is.landed is.lost is.whole c.requires.failed
    (omega (arith, c.if-len-eq0.false, c.len.ensures))
    (opened_so g.D.Disk.pending g.D.Disk.makes old opened c.in-Ok.landing.landed is.landed
    is.calls is.reopened is.found is.used is.acknowledged) is.acknowledged in
    let p = err_from_is_err_and c.from_residual.result c.from_residual.ensures.1 in
    rw (p.1, p.2) (inr (lost_short g.D.Disk.pending g.D.Disk.faults g.D.Disk.makes g.D.Disk.fails
    g.D.Disk.fails_to_read drops old opened c.in-Ok.landing.lost lost new
    (offered new (dropped_of c.offer_each.new.recorded)) c.requires.batch.1
    (subst (λ (es : List Entry). IsCutShort (offered opened drops) es new) c.as_slice.ensures
    c.in_err-offer_each.ensures.cut_short)))

pub returns-in-Ok-store-clause-mended : goal.returns-in-Ok-store-clause-mended
returns-in-Ok-store-clause-mended g c =
    let old = c.args.archive.now in
    let opened = c.reopen.new.self in
    let mid = c.offer_each.new.archive in
    let new = c.store.new.self in
    let drops = dropped_of c.args.recorded in
    let now = dropped_of c.offer_each.new.recorded in
    let is = c.in-Ok.ensures in
    let did = c.in-Ok-store.ensures in
    let lost = lost_so g.D.Disk.pending g.D.Disk.makes old opened c.in-Ok.landing.landed
    c.in-Ok.landing.lost is.landed is.lost is.whole c.requires.failed
    (omega (arith, c.if-len-eq0.false, c.len.ensures))
    (opened_so g.D.Disk.pending g.D.Disk.makes old opened c.in-Ok.landing.landed is.landed
    is.calls is.reopened is.found is.used is.acknowledged) is.acknowledged in
    let same : offered mid now ≡ after_offers (offered opened drops) c.in-Ok.landing.lost =
    search rules in
    let ready = ap (λ (a : ArchiveState g.row.D.Denot). a.is_stale) c.offer_each.ensures.rest
    ∙ ap (λ (a : ArchiveState g.row.D.Denot). a.is_stale) is.reopened in
    lost_mended g.D.Disk.pending g.D.Disk.faults g.D.Disk.makes g.D.Disk.fails
    g.D.Disk.fails_to_read drops old opened c.in-Ok.landing.lost lost new (offered mid now) _ same
    (ap (λ (r : Recorded). r.reopened) c.offer_each.ensures.told ∙ ap Some c.count.ensures)
    (stores_so g.D.Disk.makes mid new now _ did.stored.0 did.calls
    (λ none. (did.nothing ready none).1) did.stored.2 refl)

pub returns-in-Ok-store-clause-acknowledged : goal.returns-in-Ok-store-clause-acknowledged
returns-in-Ok-store-clause-acknowledged g c =
    let old = c.args.archive.now in
    let opened = c.reopen.new.self in
    let is = c.in-Ok.ensures in
    let did = c.in-Ok-store.ensures in
    let lost = lost_so g.D.Disk.pending g.D.Disk.makes old opened c.in-Ok.landing.landed
    c.in-Ok.landing.lost is.landed is.lost is.whole c.requires.failed
    (omega (arith, c.if-len-eq0.false, c.len.ensures))
    (opened_so g.D.Disk.pending g.D.Disk.makes old opened c.in-Ok.landing.landed is.landed
    is.calls is.reopened is.found is.used is.acknowledged) is.acknowledged in λ entries at.
    subst (λ (es : List Entry). Acknowledges g.D.Disk.pending c.store.new.self (entries ++ es))
    (sym did.stored.2)
    (did.acknowledged entries (c.offer_each.ensures.acknowledged entries (lost.keeps entries at)))

pub returns-in-Err-DiskFault-store-clause-still : goal.returns-in-Err-DiskFault-store-clause-still
returns-in-Err-DiskFault-store-clause-still g c =
    let old = c.args.archive.now in
    let opened = c.reopen.new.self in
    let is = c.in-Ok.ensures in
    let lost = lost_so g.D.Disk.pending g.D.Disk.makes old opened c.in-Ok.landing.landed
    c.in-Ok.landing.lost is.landed is.lost is.whole c.requires.failed
    (omega (arith, c.if-len-eq0.false, c.len.ensures))
    (opened_so g.D.Disk.pending g.D.Disk.makes old opened c.in-Ok.landing.landed is.landed
    is.calls is.reopened is.found is.used is.acknowledged) is.acknowledged in λ entries at.
    c.in-Err-DiskFault-store.ensures.still entries
    (c.offer_each.ensures.acknowledged entries (lost.keeps entries at))

pub returns-in-Err-DiskFault-store-clause-left : goal.returns-in-Err-DiskFault-store-clause-left
returns-in-Err-DiskFault-store-clause-left g c =
    let old = c.args.archive.now in
    let opened = c.reopen.new.self in
    let mid = c.offer_each.new.archive in
    let new = c.store.new.self in
    let drops = dropped_of c.args.recorded in
    let now = dropped_of c.offer_each.new.recorded in
    let is = c.in-Ok.ensures in
    let did = c.in-Err-DiskFault-store.ensures in
    let fault = ap (λ f. Err f) c.in-Err-DiskFault-store.field-0-is in
    let lost = lost_so g.D.Disk.pending g.D.Disk.makes old opened c.in-Ok.landing.landed
    c.in-Ok.landing.lost is.landed is.lost is.whole c.requires.failed
    (omega (arith, c.if-len-eq0.false, c.len.ensures))
    (opened_so g.D.Disk.pending g.D.Disk.makes old opened c.in-Ok.landing.landed is.landed
    is.calls is.reopened is.found is.used is.acknowledged) is.acknowledged in
    let same : offered mid now ≡ after_offers (offered opened drops) c.in-Ok.landing.lost =
    search rules in
    let ready = ap (λ (a : ArchiveState g.row.D.Denot). a.is_stale) c.offer_each.ensures.rest
    ∙ ap (λ (a : ArchiveState g.row.D.Denot). a.is_stale) is.reopened in
    inr (lost_twice g.D.Disk.pending g.D.Disk.faults g.D.Disk.makes g.D.Disk.fails
    g.D.Disk.fails_to_read drops old opened c.in-Ok.landing.lost lost new (offered mid now)
    c.requires.batch.1 same
    (subst (λ (d : g.row.D.Denot). Rose (g.D.Disk.faults d) (g.D.Disk.faults new.disk))
    (ap (λ (a : ArchiveState g.row.D.Denot). a.disk) c.offer_each.ensures.rest) (did.cause fault))
    (store_failed g.D.Disk.makes g.D.Disk.fails mid new.disk
    (λ none. not_so ((did.nothing ready none).0)) (did.failed_calls fault)) (did.failed fault))

pub returns-in-Err-Memory-store-clause-still : goal.returns-in-Err-Memory-store-clause-still
returns-in-Err-Memory-store-clause-still g c =
    let old = c.args.archive.now in
    let opened = c.reopen.new.self in
    let is = c.in-Ok.ensures in
    let lost = lost_so g.D.Disk.pending g.D.Disk.makes old opened c.in-Ok.landing.landed
    c.in-Ok.landing.lost is.landed is.lost is.whole c.requires.failed
    (omega (arith, c.if-len-eq0.false, c.len.ensures))
    (opened_so g.D.Disk.pending g.D.Disk.makes old opened c.in-Ok.landing.landed is.landed
    is.calls is.reopened is.found is.used is.acknowledged) is.acknowledged in λ entries at.
    c.in-Err-Memory-store.ensures.still entries
    (c.offer_each.ensures.acknowledged entries (lost.keeps entries at))

pub returns-in-Err-Memory-store-clause-left : goal.returns-in-Err-Memory-store-clause-left
returns-in-Err-Memory-store-clause-left g c =
    let old = c.args.archive.now in
    let opened = c.reopen.new.self in
    let mid = c.offer_each.new.archive in
    let new = c.store.new.self in
    let drops = dropped_of c.args.recorded in
    let now = dropped_of c.offer_each.new.recorded in
    let is = c.in-Ok.ensures in
    let fault = ap (λ f. Err f) c.in-Err-Memory-store.field-0-is in
    let lost = lost_so g.D.Disk.pending g.D.Disk.makes old opened c.in-Ok.landing.landed
    c.in-Ok.landing.lost is.landed is.lost is.whole c.requires.failed
    (omega (arith, c.if-len-eq0.false, c.len.ensures))
    (opened_so g.D.Disk.pending g.D.Disk.makes old opened c.in-Ok.landing.landed is.landed
    is.calls is.reopened is.found is.used is.acknowledged) is.acknowledged in
    let same : offered mid now ≡ after_offers (offered opened drops) c.in-Ok.landing.lost =
    search rules in
    inr (lost_short g.D.Disk.pending g.D.Disk.faults g.D.Disk.makes g.D.Disk.fails
    g.D.Disk.fails_to_read drops old opened c.in-Ok.landing.lost lost new (offered mid now)
    c.requires.batch.1
    (all_offered (offered opened drops) (offered mid now) new c.in-Ok.landing.lost same
    (c.in-Err-Memory-store.ensures.memory fault)))

-- ---- at every moment

pub returns-then-len-eq0-clause-any_moment : goal.returns-then-len-eq0-clause-any_moment
returns-then-len-eq0-clause-any_moment g c again =
    while_opened g.D.Disk.pending g.D.Disk.moment g.D.Disk.images_since c.args.archive.now
    c.reopen.new.self c.reopen.new.self.disk c.requires.failed refl c.reopen.ensures.any_moment

pub returns-in_err-offer_each-clause-any_moment : goal.returns-in_err-offer_each-clause-any_moment
returns-in_err-offer_each-clause-any_moment g c again =
    while_opened g.D.Disk.pending g.D.Disk.moment g.D.Disk.images_since c.args.archive.now
    c.offer_each.new.archive c.reopen.new.self.disk c.requires.failed
    (ap (λ (a : ArchiveState g.row.D.Denot). a.disk) c.offer_each.ensures.rest)
    c.reopen.ensures.any_moment

-- whatever became of the second store
stored : (g : _) (c : After-store g) → WaitsAgain g.D.Disk.pending g.D.Disk.makes
    (dropped_of c.args.recorded) c.args.archive.now
    → HoldsAllOrNone g.D.Disk.pending g.D.Disk.moment g.D.Disk.images_since c.args.archive.now
    c.args.archive.now.waiting c.store.new.self
stored g c again =
    let old = c.args.archive.now in
    let opened = c.reopen.new.self in
    let mid = c.offer_each.new.archive in
    let drops = dropped_of c.args.recorded in
    let is = c.in-Ok.ensures in
    let lost = lost_so g.D.Disk.pending g.D.Disk.makes old opened c.in-Ok.landing.landed
    c.in-Ok.landing.lost is.landed is.lost is.whole c.requires.failed
    (omega (arith, c.if-len-eq0.false, c.len.ensures))
    (opened_so g.D.Disk.pending g.D.Disk.makes old opened c.in-Ok.landing.landed is.landed
    is.calls is.reopened is.found is.used is.acknowledged) is.acknowledged in
    let same : offered mid (dropped_of c.offer_each.new.recorded)
    ≡ after_offers (offered opened drops) c.in-Ok.landing.lost = search rules in
    let ready = ap (λ (a : ArchiveState g.row.D.Denot). a.is_stale) c.offer_each.ensures.rest
    ∙ ap (λ (a : ArchiveState g.row.D.Denot). a.is_stale) is.reopened in
    both g.D.Disk.pending g.D.Disk.moment g.D.Disk.images_since old opened mid c.store.new.self
    old.waiting (ap (λ (a : ArchiveState g.row.D.Denot). a.disk) c.offer_each.ensures.rest)
    (ap (λ (o : Offered g.row.D.Denot). o.archive.waiting)
    (same ∙ ap (after_offers (offered opened drops)) lost.all)
    ∙ again opened lost.reopened lost.count)
    (λ entries at. c.offer_each.ensures.acknowledged entries (lost.keeps entries at))
    (while_opened g.D.Disk.pending g.D.Disk.moment g.D.Disk.images_since old opened opened.disk
    c.requires.failed refl c.reopen.ensures.any_moment)
    (λ entries at. c.store.ensures.any_moment ready)

pub returns-in-Ok-store-clause-any_moment : goal.returns-in-Ok-store-clause-any_moment
returns-in-Ok-store-clause-any_moment g c =
    stored g (goal.at.returns-in-Ok-store-clause-any_moment g c).After-store

pub returns-in-Err-DiskFault-store-clause-any_moment : goal.returns-in-Err-DiskFault-store-clause-any_moment
returns-in-Err-DiskFault-store-clause-any_moment g c =
    stored g (goal.at.returns-in-Err-DiskFault-store-clause-any_moment g c).After-store

pub returns-in-Err-Memory-store-clause-any_moment : goal.returns-in-Err-Memory-store-clause-any_moment
returns-in-Err-Memory-store-clause-any_moment g c =
    stored g (goal.at.returns-in-Err-Memory-store-clause-any_moment g c).After-store
