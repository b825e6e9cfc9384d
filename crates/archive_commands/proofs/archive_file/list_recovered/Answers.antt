use Rattle.archive_commands.specs.Archives.{listed}
use Rattle.archive_commands.proofs.ListOutcomes.{all_listed, stands_for, none_other}
use Rattle.archive_commands.proofs.archive_file.list_recovered.Goals as goal

pub returns-in-Ok-clause-list : goal.returns-in-Ok-clause-list
returns-in-Ok-clause-list g c =
    let pending = g.D.Disk.pending c.args.disk in
    let entries = c.in-Ok.entries in
    let stands = stands_for pending entries c.in-Ok.journal.gate c.in-Ok.ensures.stands in
    record {
      how = listed entries;
      leaves = rw c.into_disk.ensures (all_listed pending _ entries stands c.in-Ok.ensures.keeps);
      complete = λ others is. none_other c.a_file_stands_for_one_list.ensures.list pending entries
          others stands is;
      any_moment = rw c.into_disk.ensures c.in-Ok.ensures.any_moment;
      closes = c.list_entries-exit.ensures;
    }
