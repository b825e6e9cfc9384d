-- What a link counts: faults and stalls. This product's own rule.
use Rattle.std.specs.Prelude.{Bool, true, false}
pub use Rattle.octet_core.specs.Told.{CountsWhere}
use Rattle.octet_core.specs.declared.offer.Offer.{Offer}
use Rattle.octet_core.specs.declared.offer.Offer.TheVariants.{Whole, Stalled, Failed as Refused}
use Rattle.link_model.specs.declared.poll.Poll.{Poll}
use Rattle.link_model.specs.declared.poll.Poll.TheVariants.{Arrived, Nothing, Closed, Failed}

abbrev pub poll_failed : Poll → Bool
poll_failed (Arrived n) = false
poll_failed Nothing = false
poll_failed Closed = false
poll_failed Failed = true

abbrev pub offer_failed : Offer → Bool
offer_failed Whole = false
offer_failed Stalled = false
offer_failed Refused = true

abbrev pub offer_stalled : Offer → Bool
offer_stalled Whole = false
offer_stalled Stalled = true
offer_stalled Refused = false
