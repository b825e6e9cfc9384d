-- Modes and answers as the archive's definitions have them.
use Rattle.archive_terms.specs.Delivery as terms
use Rattle.archive_terms.specs.Rounds as rounds
use Rattle.octet_core.specs.declared.offer.Offer.{Offer}
use Rattle.octet_core.specs.declared.offer.Offer.TheVariants.{Whole, Stalled, Failed}
use Rattle.sle_numbers.specs.declared.return_delivery_mode.ReturnDeliveryMode.{ReturnDeliveryMode}
use Rattle.sle_numbers.specs.declared.return_delivery_mode.ReturnDeliveryMode.TheVariants as mode

abbrev pub mode_of : ReturnDeliveryMode → terms.Mode
mode_of mode.TimelyOnline = terms.timely
mode_of mode.CompleteOnline = terms.complete
mode_of mode.Offline = terms.offline

abbrev pub answer_of : Offer → rounds.Answer
answer_of Whole = rounds.whole
answer_of Stalled = rounds.stall
answer_of Failed = rounds.fail
