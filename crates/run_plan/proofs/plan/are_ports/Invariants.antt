use Rattle.std.proofs.Common.{◌≡◌, drop, map, is_some}
use Rattle.run_plan.specs.RunPlan.{ports_read}
use Rattle.run_plan.proofs.plan.are_ports.Given as goal

-- whether the words to come are ports says whether all are
abbrev pub invariant-loop-word : goal.invariant-loop-word
invariant-loop-word l = is_some (ports_read (map (λ word. word.now) l.words))
    ≡ is_some (ports_read (map (λ word. word.now) (drop l.word-index l.words)))
