use Rattle.std.proofs.Common.{◌∙◌}
use Rattle.disk_model.specs.FileDisk.{calls_keep_the_file}
use Rattle.command_words.specs.Command.{asked}
use Rattle.provider_cli.proofs.Held.{held_by}
use Rattle.provider_cli.proofs.Host.provide_over.Goals as goal

-- what is promised on the disk that was found
pub returns : goal.returns
returns g c = record {
  disk = c.args.disk;
  draw = c.args.kit.now.draw;
  around = _;
  has = c.requires.given;
  of_path = c.requires.file;
  still_of_path = λ needs. held_by (asked c.args.words.now) c.args.disk _ (c.requires.given needs)
      c.requires.file
      (c.provide_on.ensures.calls (λ disk. disk.file) (calls_keep_the_file (λ file. file)));
  provided = c.provide_on.ensures.provided;
  started = c.provide_on.ensures.started;
  not_started = c.provide_on.ensures.not_started;
  untouched = λ other.
      let same = c.provide_on.ensures.untouched other in (same.0, same.2 ∙ c.requires.first);
}
