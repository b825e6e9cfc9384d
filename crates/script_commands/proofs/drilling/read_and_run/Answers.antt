use Rattle.std.proofs.Common.{Err, ap, ⊎_elim}
use Rattle.script_commands.proofs.Outcomes.{ran_whole, gains_line, line_count}
use Rattle.script_commands.proofs.drilling.read_and_run.Goals as goal

pub returns-in-Err-ReadFault : goal.returns-in-Err-ReadFault
returns-in-Err-ReadFault g c = record {
  text = gains_line _ _ _ _ _ c.put_line.result c.put_line.ensures.written c.put_line.ensures.fault;
  reads = c.in-Err-ReadFault.ensures.raised (ap (λ e. Err e) c.in-Err-ReadFault.field-0-is);
  writes = line_count _ _ _ _ _ c.put_line.result c.put_line.ensures.written;
  script = tt;
}

pub returns-in-Ok-run_script : goal.returns-in-Ok-run_script
returns-in-Ok-run_script g c =
    ran_whole _ _ _ _ _ _ _ _ c.in-Ok.script.items c.in-Ok.ensures.octets c.in-Ok.ensures.ok
    (⊎_elim (λ is. absurd cc) (λ same. same) c.in-Ok.ensures.kept) c.in-Ok-run_script.status
    (rw c.as_slice.ensures.value at c.in-Ok-run_script.ensures.written)
    (rw c.as_slice.ensures.value at c.in-Ok-run_script.ensures.status)
