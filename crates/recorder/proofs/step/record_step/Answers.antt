use Rattle.std.proofs.Common.{◌≡◌, List, Err, IfOk, IfErr, refl, sym, ap, subst, ◌∙◌, arith}
use Rattle.std.proofs.Common.{◌+◌, ℕ, Bool, Option, length, rules}
use Rattle.std.proofs.lemmas.List.{length-map}
use Rattle.std.proofs.lemmas.Result.{err_from_is_err_and}
use Rattle.octet_core.specs.Fault.{Rose}
use Rattle.archive_terms.specs.Archive.{Entry}
use Rattle.frame_archive.specs.State.{ArchiveState, with_failed}
use Rattle.frame_archive.specs.Run.{Keeps}
use Rattle.record_form.specs.Entry.{entry_of}
use Rattle.recorder.specs.declared.recorded.Recorded.{Recorded}
use Rattle.recorder.specs.Polling.{IsPolled}
use Rattle.recorder.specs.Offers.{Offered, offered, offered_to, none_dropped, dropped_of, how_many}
use Rattle.recorder.specs.Offers.{IsCutShort}
use Rattle.recorder.specs.Steps.{Stores, StoreFails, TellsOffered, IsMended, IsStored, IsUnmended}
use Rattle.recorder.specs.Steps.{WaitsAgain, HoldsAllOrNone}
use Rattle.recorder.proofs.Mending.{store_failed, stores_so, adds_behind, keeps_behind}
use Rattle.recorder.proofs.Mending.{mended_stored, unmended_left, not_so}
use Rattle.recorder.proofs.Again.{mended_taken, mended_answer, waits_again}
use Rattle.recorder.proofs.Moments.{untouched, first_stored, both}
use Rattle.recorder.proofs.Short.{polled_gave, polled_left, short_left, all_offered}
use Rattle.recorder.proofs.step.record_step.Goals as goal
use Rattle.recorder.proofs.step.record_step.Goals.{After-store}

pub returns-in_err-polled-clause-left : goal.returns-in_err-polled-clause-left
returns-in_err-polled-clause-left g c =
    let p = err_from_is_err_and c.from_residual.result c.from_residual.ensures.1 in
    let gave = c.in_err-polled.ensures.gave in
    rw (p.1, p.2) (
      gave.0,
      gave.1,
      polled_left g.D.Disk.pending g.D.Disk.faults g.D.Disk.makes g.D.Disk.fails
          g.D.Disk.fails_to_read _ c.args.archive.now gave.0 c.in_err-polled.ensures.faults,
    )

pub returns-in_err-offer_each-clause-left : goal.returns-in_err-offer_each-clause-left
returns-in_err-offer_each-clause-left g c =
    let p = err_from_is_err_and c.from_residual-in_err-offer_each.result
    c.from_residual-in_err-offer_each.ensures.1 in
    let archive = c.args.archive.now in
    let new = c.offer_each.new.archive in
    let polled = c.in_ok-polled.polled in
    rw p.1 (
      polled,
      polled_gave c.in_ok-polled.last polled _ _ c.in_ok-polled.ensures.polled,
      short_left g.D.Disk.pending g.D.Disk.faults g.D.Disk.makes g.D.Disk.fails
          g.D.Disk.fails_to_read p.0 archive new polled p.2
          (subst (λ (es : List Entry). IsCutShort (offered archive none_dropped) es new)
          c.as_slice.ensures c.in_err-offer_each.ensures.cut_short),
    )

pub returns-in-Ok-clause-answer : goal.returns-in-Ok-clause-answer
returns-in-Ok-clause-answer g c =
    let mid = c.offer_each.new.archive in
    let now = dropped_of c.offer_each.new.recorded in
    let polled = c.in_ok-polled.polled in
    let did = c.in-Ok.ensures in
    let told = c.offer_each.ensures.told in
    let same : offered_to c.args.archive.now polled ≡ offered mid now = search rules in
    let ready = ap (λ (a : ArchiveState g.row.D.Denot). a.is_stale) c.offer_each.ensures.rest
    ∙ c.requires.ready in
    let stores = stores_so g.D.Disk.makes mid c.store.new.self now
    (record c.offer_each.new.recorded { entries = c.in-Ok.stored.entries }) did.stored.0 did.calls
    (λ none. (did.nothing ready none).1) did.stored.2 refl in (
      polled,
      subst (λ (b : Bool). IsPolled b polled (g.F.FrameSource.answers c.args.frames.now)
          (g.F.FrameSource.answers c.poll.new.frames)) (sym (ap (λ (r : Recorded). r.last) told))
          c.in_ok-polled.ensures.polled,
      omega (
        arith,
        c.in_ok-offer_each.ensures.counted,
        ap (λ (es : List Entry). length es) did.stored.2,
        ap (λ (es : List Entry). length es) c.as_slice.ensures,
        length-map c.as_slice.result.now entry_of,
      ),
      subst (λ (count : Option ℕ). IsStored g.D.Disk.pending g.D.Disk.makes g.D.Disk.fails count
          (offered_to c.args.archive.now polled) c.store.new.self
          (record c.offer_each.new.recorded { entries = c.in-Ok.stored.entries }))
          (sym (ap (λ (r : Recorded). r.reopened) told))
          (subst (λ (o : Offered g.row.D.Denot). Stores g.D.Disk.makes o c.store.new.self
          (record c.offer_each.new.recorded { entries = c.in-Ok.stored.entries })) (sym same)
          stores),
      λ entries was. subst (λ (o : Offered g.row.D.Denot). TellsOffered o
          (record c.offer_each.new.recorded { entries = c.in-Ok.stored.entries })) (sym same)
          stores.told,
    )

pub returns-in-Err-Memory-clause-left : goal.returns-in-Err-Memory-clause-left
returns-in-Err-Memory-clause-left g c =
    let mid = c.offer_each.new.archive in
    let now = dropped_of c.offer_each.new.recorded in
    let polled = c.in_ok-polled.polled in
    let same : offered_to c.args.archive.now polled ≡ offered mid now = search rules in (
      polled,
      polled_gave c.in_ok-polled.last polled _ _ c.in_ok-polled.ensures.polled,
      short_left g.D.Disk.pending g.D.Disk.faults g.D.Disk.makes g.D.Disk.fails
          g.D.Disk.fails_to_read _ c.args.archive.now c.store.new.self polled refl
          (all_offered _ _ c.store.new.self polled (sym same)
          (c.in-Err-Memory.ensures.memory (ap (λ f. Err f) c.in-Err-Memory.field-0-is))),
    )

pub returns-in-Err-DiskFault-clause-answer : goal.returns-in-Err-DiskFault-clause-answer
returns-in-Err-DiskFault-clause-answer g c =
    let archive = c.args.archive.now in
    let mid = c.offer_each.new.archive in
    let now = dropped_of c.offer_each.new.recorded in
    let polled = c.in_ok-polled.polled in
    let broken = c.store.new.self in
    let is = c.in-Err-DiskFault.ensures in
    let fault = ap (λ f. Err f) c.in-Err-DiskFault.field-0-is in
    let ready = ap (λ (a : ArchiveState g.row.D.Denot). a.is_stale) c.offer_each.ensures.rest
    ∙ c.requires.ready in
    let same : offered_to archive polled ≡ offered mid now = search rules in
    let at = λ (P : Offered g.row.D.Denot → Type 0) (it : P (offered mid now)). subst P (sym same) it
    in
    mended_answer g.D.Disk.pending g.D.Disk.makes archive polled c.requires.rests g.D.Disk.fails
    (g.F.FrameSource.answers c.args.frames.now) (g.F.FrameSource.answers c.poll.new.frames)
    c.offer_each.new.recorded.last c.mend.new.archive c.mend.result
    (length broken.waiting + how_many now)
    (subst (λ (b : Bool). IsPolled b polled (g.F.FrameSource.answers c.args.frames.now)
    (g.F.FrameSource.answers c.poll.new.frames))
    (sym (ap (λ (r : Recorded). r.last) c.offer_each.ensures.told))
    c.in_ok-polled.ensures.polled) c.mend.ensures.last
    (omega (
      arith,
      c.in_ok-offer_each.ensures.counted,
      ap (λ (a : ArchiveState g.row.D.Denot). length a.waiting) (is.failed fault),
      ap (λ (es : List Entry). length es) c.as_slice.ensures,
      length-map c.as_slice.result.now entry_of,
    ))
    c.mend.ensures.counted
    (at (λ (o : Offered g.row.D.Denot). IfOk c.mend.result (λ recorded.
    IsStored g.D.Disk.pending g.D.Disk.makes g.D.Disk.fails recorded.reopened o
    c.mend.new.archive recorded))
    (mended_stored g.D.Disk.pending g.D.Disk.faults g.D.Disk.makes g.D.Disk.fails
    g.D.Disk.fails_to_read (offered mid now) broken c.mend.new.archive c.mend.result
    (is.failed fault)
    (store_failed g.D.Disk.makes g.D.Disk.fails mid broken.disk
    (λ none. not_so ((is.nothing ready none).0)) (is.failed_calls fault))
    c.mend.ensures.mended c.mend.ensures.reopened))
    (mended_taken g.D.Disk.pending g.D.Disk.makes archive polled c.requires.rests broken
    c.mend.new.archive c.mend.result
    (at (λ (o : Offered g.row.D.Denot). broken ≡ with_failed o.archive broken.disk)
    (is.failed fault))
    (λ entries was. is.still entries (c.offer_each.ensures.acknowledged entries was))
    (at (λ (o : Offered g.row.D.Denot). IfOk c.mend.result (λ recorded. IsMended
    g.D.Disk.pending g.D.Disk.makes o.dropped broken c.mend.new.archive recorded))
    c.mend.ensures.mended))

pub returns-in-Err-DiskFault-clause-acknowledged : goal.returns-in-Err-DiskFault-clause-acknowledged
returns-in-Err-DiskFault-clause-acknowledged g c =
    adds_behind g.D.Disk.pending c.args.archive.now c.store.new.self c.mend.new.archive
    c.mend.result (λ entries was. c.in-Err-DiskFault.ensures.still entries
    (c.offer_each.ensures.acknowledged entries was)) c.mend.ensures.acknowledged

pub returns-in-Err-DiskFault-clause-still : goal.returns-in-Err-DiskFault-clause-still
returns-in-Err-DiskFault-clause-still g c =
    keeps_behind g.D.Disk.pending c.args.archive.now c.store.new.self c.mend.new.archive
    c.mend.result (λ entries was. c.in-Err-DiskFault.ensures.still entries
    (c.offer_each.ensures.acknowledged entries was)) c.mend.ensures.still

pub returns-in-Err-DiskFault-clause-left : goal.returns-in-Err-DiskFault-clause-left
returns-in-Err-DiskFault-clause-left g c =
    let archive = c.args.archive.now in
    let mid = c.offer_each.new.archive in
    let now = dropped_of c.offer_each.new.recorded in
    let polled = c.in_ok-polled.polled in
    let broken = c.store.new.self in
    let is = c.in-Err-DiskFault.ensures in
    let fault = ap (λ f. Err f) c.in-Err-DiskFault.field-0-is in
    let ready = ap (λ (a : ArchiveState g.row.D.Denot). a.is_stale) c.offer_each.ensures.rest
    ∙ c.requires.ready in
    let same : offered_to archive polled ≡ offered mid now = search rules in
    let at = λ (P : Offered g.row.D.Denot → Type 0) (it : P (offered mid now)). subst P (sym same) it
    in
    unmended_left g.D.Disk.pending g.D.Disk.faults g.D.Disk.makes g.D.Disk.fails
    g.D.Disk.fails_to_read _ _ archive polled broken c.mend.new.archive c.mend.result
    (polled_gave c.in_ok-polled.last polled _ _ c.in_ok-polled.ensures.polled)
    (at (λ (o : Offered g.row.D.Denot). broken ≡ with_failed o.archive broken.disk)
    (is.failed fault))
    (at (λ (o : Offered g.row.D.Denot). StoreFails g.D.Disk.makes g.D.Disk.fails o.archive
    broken.disk) (store_failed g.D.Disk.makes g.D.Disk.fails mid broken.disk
    (λ none. not_so ((is.nothing ready none).0)) (is.failed_calls fault)))
    (at (λ (o : Offered g.row.D.Denot). Rose (g.D.Disk.faults o.archive.disk)
    (g.D.Disk.faults broken.disk)) (is.cause fault))
    (at (λ (o : Offered g.row.D.Denot). IfErr c.mend.result (λ fault. IsUnmended
    g.D.Disk.pending g.D.Disk.faults g.D.Disk.makes g.D.Disk.fails g.D.Disk.fails_to_read fault
    o.dropped broken c.mend.new.archive)) c.mend.ensures.left)

-- ---- at every moment

pub returns-in_err-polled-clause-any_moment : goal.returns-in_err-polled-clause-any_moment
returns-in_err-polled-clause-any_moment g c =
    let p = err_from_is_err_and c.from_residual.result c.from_residual.ensures.1 in
    let gave = c.in_err-polled.ensures.gave in (
      gave.0,
      gave.1,
      untouched g.D.Disk.pending g.D.Disk.moment g.D.Disk.images_since
          c.images_at_a_moment.ensures.only_now c.args.archive.now c.args.archive.now
          (offered_to c.args.archive.now gave.0).archive.waiting c.requires.rests refl,
    )

pub returns-in_err-offer_each-clause-any_moment : goal.returns-in_err-offer_each-clause-any_moment
returns-in_err-offer_each-clause-any_moment g c =
    let polled = c.in_ok-polled.polled in (
      polled,
      polled_gave c.in_ok-polled.last polled _ _ c.in_ok-polled.ensures.polled,
      untouched g.D.Disk.pending g.D.Disk.moment g.D.Disk.images_since
          c.images_at_a_moment.ensures.only_now c.args.archive.now c.offer_each.new.archive
          (offered_to c.args.archive.now polled).archive.waiting c.requires.rests
          (ap (λ (a : ArchiveState g.row.D.Denot). a.disk) c.offer_each.ensures.rest),
    )

-- whatever became of the first store
stored : (g : _) (c : After-store g)
    → HoldsAllOrNone g.D.Disk.pending g.D.Disk.moment g.D.Disk.images_since c.args.archive.now
    (offered_to c.args.archive.now c.in_ok-polled.polled).archive.waiting c.store.new.self
stored g c =
    let mid = c.offer_each.new.archive in
    let polled = c.in_ok-polled.polled in
    let same : offered_to c.args.archive.now polled
    ≡ offered mid (dropped_of c.offer_each.new.recorded) = search rules in
    let ready = ap (λ (a : ArchiveState g.row.D.Denot). a.is_stale) c.offer_each.ensures.rest
    ∙ c.requires.ready in
    subst (λ (o : Offered g.row.D.Denot). HoldsAllOrNone g.D.Disk.pending g.D.Disk.moment
    g.D.Disk.images_since c.args.archive.now o.archive.waiting c.store.new.self) (sym same)
    (first_stored g.D.Disk.pending g.D.Disk.moment g.D.Disk.images_since
    c.images_at_a_moment.ensures.only_now c.args.archive.now mid c.store.new.self c.requires.rests
    (ap (λ (a : ArchiveState g.row.D.Denot). a.disk) c.offer_each.ensures.rest)
    c.offer_each.ensures.acknowledged (c.store.ensures.any_moment ready))

pub returns-in-Ok-clause-any_moment : goal.returns-in-Ok-clause-any_moment
returns-in-Ok-clause-any_moment g c = (
  c.in_ok-polled.polled,
  polled_gave c.in_ok-polled.last c.in_ok-polled.polled _ _ c.in_ok-polled.ensures.polled,
  stored g (goal.at.returns-in-Ok-clause-any_moment g c).After-store,
)

pub returns-in-Err-Memory-clause-any_moment : goal.returns-in-Err-Memory-clause-any_moment
returns-in-Err-Memory-clause-any_moment g c = (
  c.in_ok-polled.polled,
  polled_gave c.in_ok-polled.last c.in_ok-polled.polled _ _ c.in_ok-polled.ensures.polled,
  stored g (goal.at.returns-in-Err-Memory-clause-any_moment g c).After-store,
)

pub returns-in-Err-DiskFault-clause-any_moment : goal.returns-in-Err-DiskFault-clause-any_moment
returns-in-Err-DiskFault-clause-any_moment g c =
    let archive = c.args.archive.now in
    let mid = c.offer_each.new.archive in
    let now = dropped_of c.offer_each.new.recorded in
    let polled = c.in_ok-polled.polled in
    let broken = c.store.new.self in
    let is = c.in-Err-DiskFault.ensures in
    let same : offered_to archive polled ≡ offered mid now = search rules in
    let failed : broken ≡ with_failed (offered_to archive polled).archive broken.disk =
    subst (λ (o : Offered g.row.D.Denot). broken ≡ with_failed o.archive broken.disk) (sym same)
    (is.failed (ap (λ f. Err f) c.in-Err-DiskFault.field-0-is)) in
    let keeps : Keeps g.D.Disk.pending archive broken = λ entries was. is.still entries
    (c.offer_each.ensures.acknowledged entries was) in (
      polled,
      polled_gave c.in_ok-polled.last polled _ _ c.in_ok-polled.ensures.polled,
      both g.D.Disk.pending g.D.Disk.moment g.D.Disk.images_since archive broken broken
          c.mend.new.archive (offered_to archive polled).archive.waiting refl
          (ap (λ (a : ArchiveState g.row.D.Denot). a.waiting) failed) keeps
          (stored g (goal.at.returns-in-Err-DiskFault-clause-any_moment g c).After-store)
          (λ entries was. c.mend.ensures.any_moment
          (subst (λ (o : Offered g.row.D.Denot). WaitsAgain g.D.Disk.pending g.D.Disk.makes
          o.dropped broken) same
          (waits_again g.D.Disk.pending g.D.Disk.makes archive polled c.requires.rests broken
          entries failed was (keeps entries was)))),
    )
