use Rattle.std.proofs.Common.{[], List, Some, refl, ap, sym, subst, ◌∙◌, ◌++◌}
use Rattle.std.proofs.lemmas.Result.{err_from_is_err_and}
use Rattle.archive_terms.specs.Archive.{Entry}
use Rattle.gate_journal.specs.Order.{Knows}
use Rattle.gate_journal.specs.Reading.{LedTo}
use Rattle.gate_journal.proofs.Growth.{gate_told, led_more, stands_shut, no_gate}
use Rattle.gate_journal.proofs.Batching.{read_as_it_is, gate_is}
use Rattle.gate_journal.proofs.loading.load_batches.Goals as goal

pub loop-gate-init : goal.loop-gate-init
loop-gate-init c = rw c.new-entries.ensures (
  record {
    batches = [];
    leads = record { each = tt; entries_are = refl; archive = refl; there = refl };
    is = c.requires;
  },
  (refl, refl, refl),
)

pub returns-in_err-after-clause-refused : goal.returns-in_err-after-clause-refused
returns-in_err-after-clause-refused c =
    let error = err_from_is_err_and c.from_residual.result c.from_residual.ensures.1 in
    let entries = c.loop-gate.entries in
    let led = c.loop-gate.invariant.0 in
    let fault = c.in_err-after.ensures.exact entries c.loop-gate.invariant.1 in
    let is = gate_told c.read_where_spelled.ensures c.archive_grows.ensures.archive entries
    c.args.file.now c.loop-gate.gate _ c.slice.ensures led.leads.archive fault in
    rw (error.1, error.2, is.1)
    (record { gate = c.loop-gate.gate; entries = entries; led = led; fault = rw is.1 at fault })

pub returns-in_default-clause-stands : goal.returns-in_default-clause-stands
returns-in_default-clause-stands c =
    let led = c.loop-gate.invariant.0 in
    stands_shut c.loop-gate.entries c.args.file.now c.loop-gate.gate led
    (gate_told c.read_where_spelled.ensures c.archive_grows.ensures.archive c.loop-gate.entries
    c.args.file.now c.loop-gate.gate _ c.slice.ensures led.leads.archive (gate_is _ c.in_default.is
    (c.in_ok-after.ensures.exact c.loop-gate.entries c.loop-gate.invariant.1)))

pub loop-gate-preserved : goal.loop-gate-preserved
loop-gate-preserved c =
    let entries = c.loop-gate.entries in
    let file = c.args.file.now in
    let led = c.loop-gate.invariant.0 in
    let law = c.read_where_spelled.ensures in
    let grows = c.archive_grows.ensures.archive in
    let found = gate_is _ c.in-Some.is
    (c.in_ok-after.ensures.exact entries c.loop-gate.invariant.1) in
    let opened = gate_told law grows entries file c.loop-gate.gate _ c.slice.ensures
    led.leads.archive found.1 in
    subst (λ (l : List Entry). LedTo c.in-Some.end l file × Knows l (Some c.in-Some.after))
    (read_as_it_is law grows c.read_back.ensures entries found.0 file c.loop-gate.gate c.in-Some.end
    c.slice.ensures led.leads.archive found.1
    ∙ ap (λ (b : List Entry). entries ++ b) (sym c.behind.ensures) ∙ sym c.in_ok-keep.ensures) (
      rw opened.after_is (led_more entries opened.batch file c.loop-gate.gate c.in-Some.end led
          opened.is_batch (rw opened.after_is at opened.archive) opened.ends opened.spelled),
      found.2,
    )

pub returns-clause-refused : goal.returns-clause-refused
returns-clause-refused c = record {
  gate = c.loop-gate.gate;
  entries = c.loop-gate.entries;
  led = c.loop-gate.invariant.0;
  fault = no_gate c.loop-gate.entries c.args.file.now c.loop-gate.gate c.loop-gate-test.false;
}
