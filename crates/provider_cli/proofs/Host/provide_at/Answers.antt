use Rattle.std.proofs.Common.{◌∙◌, inl, inr, subst, sym, rules}
use Rattle.command_words.specs.Command.{NeedsDisk}
use Rattle.provider_commands.specs.Provided.{NamesNoText}
use Rattle.provider_commands.specs.Running.{IsRun}
use Rattle.provider_cli.proofs.Host.provide_at.Goals as goal

-- a run is over what was made for it
pub returns-in-Ok-open_sockets : goal.returns-in-Ok-open_sockets
returns-in-Ok-open_sockets g c = inl (record {
  disk = c.provide_wired.ensures.disk;
  draw = c.provide_wired.ensures.draw;
  around = c.provide_wired.ensures.around;
  has = c.provide_wired.ensures.has;
  of_path = c.provide_wired.ensures.of_path;
  still_of_path = c.provide_wired.ensures.still_of_path;
  provided = c.provide_wired.ensures.provided;
  started = c.provide_wired.ensures.started;
  not_started = c.provide_wired.ensures.not_started;
  untouched = λ other. absurd (other (subst IsRun (sym c.requires.asks) tt));
})

-- a path that is no text is refused as such
pub returns-in-Err : goal.returns-in-Err
returns-in-Err g c = inr (inl (record {
  needs = subst NeedsDisk (sym c.requires.asks) tt;
  kind = _;
  no_text = λ names. c.in-Err.ensures.no_text (subst NamesNoText c.requires.asks names);
  told = c.provide_on.ensures.told;
  unread = search rules;
  untouched = (c.provide_on.ensures.unread.3, c.provide_on.ensures.unread.2 ∙ c.requires.first);
}))
