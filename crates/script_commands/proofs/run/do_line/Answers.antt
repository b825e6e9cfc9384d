use Rattle.octet_core.specs.Writing.{writes-refused}
use Rattle.script_store.specs.declared.stop.Stop.TheVariants.{Memory, WriteFault}
use Rattle.script_commands.proofs.run.do_line.Goals as goal

pub returns-in-Ok-clause-written : goal.returns-in-Ok-clause-written
returns-in-Ok-clause-written g c = λ state stands.
    rw c.in-Ok.ensures.exact (c.step.ensures.written state stands)

pub returns-in-Err-Memory-clause-written : goal.returns-in-Err-Memory-clause-written
returns-in-Err-Memory-clause-written g c = λ state stands.
    writes-refused WriteFault _ _ _ Memory (λ is. absurd cc)
