use Rattle.std.proofs.Common.{subst}
use Rattle.drill_text.specs.Asks.{ask}
use Rattle.drill_text.specs.declared.ask_line.AskLine.{AskLine}
use Rattle.station_links.proofs.Fits.{bind_fits, gvcid_fits}
use Rattle.station_links.proofs.asked.message_of.Goals as goal

pub bind_message-requires : goal.bind_message-requires
bind_message-requires c =
    bind_fits c.in-Bind.name c.in-Bind.service c.in-Bind.version c.in-Bind.id
    (subst (λ (a : AskLine). ask.Fits a) c.in-Bind.is c.requires)

pub returns-in-Bind : goal.returns-in-Bind
returns-in-Bind c = rw (c.in-Bind.is) c.bind_message.ensures

pub channel_message-requires : goal.channel_message-requires
channel_message-requires c =
    gvcid_fits c.in-StartRcf.channel
    (subst (λ (a : AskLine). ask.Fits a) c.in-StartRcf.is c.requires).1.1

pub cltu_message-requires : goal.cltu_message-requires
cltu_message-requires c =
    let fits = (subst (λ (a : AskLine). ask.Fits a) c.in-Cltu.is c.requires).1.1.1.1.1 in
    record { some = fits.some; few = fits.few }
