use Rattle.std.proofs.Common.{◌∙◌, ap, inl, inr, length}
use Rattle.provider_commands.proofs.Ran.{back_so, by_passes, made_of, not_started_on, put_back}
use Rattle.provider_commands.proofs.Ran.{started_on, unstarted_calls}
use Rattle.provider_commands.proofs.providing.run_on.Goals as goal

pub returns-clause-started : goal.returns-clause-started
returns-clause-started g c =
    let doors = put_back c.args.kit.now.doors.len c.run-exit.new.doors c.args.kit.now.doors.items
    (c.run-exit.auto.doors ∙ c.as_mut_slice.ensures.len)
    (c.run-exit.auto.doors ∙ ap length c.as_mut_slice.ensures.value) in
    let clocks = put_back c.args.kit.now.clocks.len c.run-exit.new.clocks
    c.args.kit.now.clocks.items (c.run-exit.auto.clocks ∙ c.as_mut_slice-2.ensures.len)
    (c.run-exit.auto.clocks ∙ ap length c.as_mut_slice-2.ensures.value) in
    started_on c.args.kit.now.disk c.taken.result c.run-exit.result.2 _ _ c.taken.ensures
    (λ pass told.
    made_of (λ ran. record {
      site = told.0;
      report = told.1;
      pass_is = told.2;
      valid = told.3;
      configures = told.4;
      ends = told.5;
      ran = ran;
      lossless = told.7;
      events = c.a_run_is_events.ensures _ _ _ _ _ _ _ _ _ told.3 ran;
      rounds = c.sessions_make_starts.ensures _ _ _ _ _ _ _ _ _ ran;
    })
    (rw (doors, clocks)
    (rw (c.as_mut_slice.ensures.value, c.as_mut_slice-2.ensures.value) at told.6)))
    c.run-exit.ensures.started

pub returns-clause-ran : goal.returns-clause-ran
returns-clause-ran g c =
    by_passes c.run-exit.result.2 _ _ _ c.run-exit.ensures.started c.run-exit.ensures.not_started
    (λ pass told. inl (told.1, told.5)) (λ told. inr (told.0, told.1))

pub returns-clause-not_started : goal.returns-clause-not_started
returns-clause-not_started g c =
    let doors = put_back c.args.kit.now.doors.len c.run-exit.new.doors c.args.kit.now.doors.items
    (c.run-exit.auto.doors ∙ c.as_mut_slice.ensures.len)
    (c.run-exit.auto.doors ∙ ap length c.as_mut_slice.ensures.value) in
    let clocks = put_back c.args.kit.now.clocks.len c.run-exit.new.clocks
    c.args.kit.now.clocks.items (c.run-exit.auto.clocks ∙ c.as_mut_slice-2.ensures.len)
    (c.run-exit.auto.clocks ∙ ap length c.as_mut_slice-2.ensures.value) in
    not_started_on c.args.kit.now.disk c.taken.result c.run-exit.result.2 _ _ _ c.taken.ensures
    (λ told untouched. record {
      own = told.0;
      ends = told.1;
      cause = told.2;
      untouched =
          rw (doors, clocks)
          (rw (c.as_mut_slice.ensures.value, c.as_mut_slice-2.ensures.value) at untouched);
    })
    c.run-exit.ensures.not_started c.run-exit.ensures.untouched

pub returns-clause-calls : goal.returns-clause-calls
returns-clause-calls g c of keeps =
    back_so of c.args.kit.now.disk c.taken.result c.run-exit.result.1 c.taken.ensures
    (by_passes c.run-exit.result.2 _ _ _ c.run-exit.ensures.started c.run-exit.ensures.not_started
    (λ pass told. c.a_run_only_calls_its_disk.ensures.ran _ _ _ _ _ _ _ _ _ told.6 of keeps)
    (λ told. unstarted_calls g.D.Disk.pending g.D.Disk.faults g.D.Disk.moment
    g.D.Disk.images_since g.D.Disk.makes g.D.Disk.fails g.D.Disk.fails_to_read _ _ _ _ _ told.0
    c.a_run_only_calls_its_disk.ensures.refused told.2 of keeps))
