use Rattle.std.proofs.Common.{◌≡◌, drop, length, map}
use Rattle.run_plan.specs.RunPlan.{ports_read}
use Rattle.run_plan.proofs.PortsRead.{before}
use Rattle.run_plan.proofs.plan.ports_of.Given as goal

abbrev pub invariant-loop-word : goal.invariant-loop-word
invariant-loop-word l = record {
  same : ports_read (map (λ word. word.now) l.words)
      ≡ before l.ports (ports_read (map (λ word. word.now) (drop l.word-index l.words)));
  count : length l.ports ≡ l.word-index;
}
