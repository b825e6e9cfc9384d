use Rattle.std.proofs.Common.{◌≡◌, drop}
use Rattle.clap.specs.Words.{app_of}
use Rattle.clap.specs.declared.builder.command.Command.TheViews.{out-Command as fields_of}
use Rattle.user_line.specs.Clap.{with_words}
use Rattle.user_line.specs.Line.{texts_of}
use Rattle.user_line.proofs.clap_reading.with_words.Given as goal

abbrev pub invariant-loop-id : goal.invariant-loop-id
invariant-loop-id l = record {
  app : with_words l.required (app_of l.command) (texts_of (drop l.id-index l.ids))
      ≡ with_words l.fn.required (app_of l.fn.command) (texts_of l.ids);
  plain : (fields_of l.command).has_globals ≡ (fields_of l.fn.command).has_globals;
}
