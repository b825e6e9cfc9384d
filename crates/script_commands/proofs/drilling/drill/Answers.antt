use Rattle.command_ends.specs.Outside.{Outside, showing}
use Rattle.script_commands.proofs.Promises.{completes}
use Rattle.script_commands.proofs.drilling.drill.Goals as goal

pub returns : goal.returns
returns g c =
    let before : Outside = showing (g.I.Source.left c.args.input.now)
    (g.I.Source.faults c.args.input.now) (g.O.Sink.written c.args.output.now)
    (g.O.Sink.faults c.args.output.now) in
    let after : Outside = showing (g.I.Source.left c.read_and_run.new.input)
    (g.I.Source.faults c.read_and_run.new.input) (g.O.Sink.written c.read_and_run.new.output)
    (g.O.Sink.faults c.read_and_run.new.output) in
    record {
      drilled = record {
        status = c.read_and_run.result;
        exit_is = c.code.ensures;
        wrote = c.read_and_run.ensures;
        complete = completes before after c.read_and_run.result c.read_and_run.ensures;
      };
      lawful = c.every_script_is_lawful.ensures;
    }
