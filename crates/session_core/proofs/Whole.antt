-- What a session hands its link is whole messages.
use Rattle.std.proofs.Common.{◌≡◌, ℕ, Option, Some, None, List, [], ◌++◌, sym}
use Rattle.std.proofs.Common.{ap, subst, ◌∙◌}
use Rattle.std.specs.List.{AllByRecursion, flat_map}
use Rattle.std.proofs.lemmas.List.{append-nil}
use Rattle.std.proofs.lemmas.List.Concat.{flat_map-append}
use Rattle.std.proofs.lemmas.List.Elements.{filter_map-append}
use Rattle.octet_core.specs.declared.offer.Offer.{Offer}
use Rattle.octet_core.specs.declared.offer.Offer.TheVariants.{Whole, Stalled, Failed}
use Rattle.isp1_tml.specs.Message.{Content, IsMessage, spellings}
use Rattle.isp1_tml.specs.Stream.{IsStream}
use Rattle.link_model.specs.declared.call.Call.{Call}
use Rattle.link_model.specs.declared.call.Heard.{Heard}
use Rattle.link_model.specs.Calls.{block_in, blocks_in, octets_handed}
use Rattle.session_services.specs.Whole.{AreWhole, whole_none, whole_both}
use Rattle.session_core.specs.declared.standing.Standing.{Standing}
use Rattle.session_core.specs.Session.{offer_calls, poll_calls, standing_spoke, send_calls}
use Rattle.session_core.specs.Laws.{WholeIsStream}
use Rattle.session_core.proofs.Kept.{spoke_same}

-- ---- messages

abbrev pub SpelledIsRead : Type 0
SpelledIsRead =
    (place : ℕ) (messages : List Content) → AllByRecursion IsMessage messages
    → IsStream place (spellings messages) messages [] None

pub whole_stream : SpelledIsRead → WholeIsStream
whole_stream law place octets whole =
    subst (λ (x : List ℕ). IsStream place x whole.messages [] None) (sym whole.spelled)
    (law place whole.messages whole.each)

-- ---- what calls hand over

handed_both : (a b : List Call) → octets_handed (a ++ b) ≡ octets_handed a ++ octets_handed b
handed_both a b =
    ap (flat_map (λ (x : List ℕ). x)) (filter_map-append block_in a b)
    ∙ flat_map-append (λ (x : List ℕ). x) (blocks_in a) (blocks_in b)

pub whole_calls : (a b : List Call) → AreWhole (octets_handed a) → AreWhole (octets_handed b)
    → AreWhole (octets_handed (a ++ b))
whole_calls a b h k =
    subst AreWhole (sym (handed_both a b)) (whole_both (octets_handed a) (octets_handed b) h k)

one_handed : (octets : List ℕ) → AreWhole octets → AreWhole (octets ++ [])
one_handed octets h = subst AreWhole (sym (append-nil octets)) h

offer_whole : (s : Standing) (said : Option Offer) → AreWhole s.block
    → AreWhole (octets_handed (offer_calls s said))
offer_whole s None h = whole_none
offer_whole s (Some Whole) h = one_handed s.block h
offer_whole s (Some Stalled) h = whole_none
offer_whole s (Some Failed) h = whole_none

send_whole : (s : Standing) (said : Option Offer) → AreWhole s.outgoing
    → AreWhole (octets_handed (send_calls s said))
send_whole s None h = whole_none
send_whole s (Some Whole) h = one_handed s.outgoing h
send_whole s (Some Stalled) h = whole_none
send_whole s (Some Failed) h = whole_none

poll_whole : (space : ℕ) (heard : Option Heard) → AreWhole (octets_handed (poll_calls space heard))
poll_whole space None = whole_none
poll_whole space (Some heard) = whole_none

pub listen_whole : (s : Standing) (waited : Option Offer) (space : ℕ) (heard : Option Heard)
    → AreWhole s.block → AreWhole (octets_handed (offer_calls s waited ++ poll_calls space heard))
listen_whole s waited space heard h =
    whole_calls (offer_calls s waited) (poll_calls space heard) (offer_whole s waited h)
    (poll_whole space heard)

pub speak_whole : (s : Standing) (spoke sent : Option Offer) → AreWhole s.block
    → AreWhole s.outgoing
    → AreWhole (octets_handed (offer_calls s spoke ++ send_calls (standing_spoke s spoke) sent))
speak_whole s spoke sent h k =
    whole_calls (offer_calls s spoke) (send_calls (standing_spoke s spoke) sent)
    (offer_whole s spoke h)
    (send_whole (standing_spoke s spoke) sent
    (subst AreWhole (sym (spoke_same s spoke)) k))
