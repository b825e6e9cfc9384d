-- The lines `sent C` of a session's rounds are the offers that its link took whole.
use Rattle.std.proofs.Common.{◌≡◌, ℕ, Option, Some, None, List, [], ◌∷◌, ◌++◌, refl, sym, ap, ◌∙◌}
use Rattle.std.proofs.lemmas.List.{append-nil}
use Rattle.octet_core.specs.declared.offer.Offer.TheVariants.{Whole, Stalled, Failed as Refused}
use Rattle.link_model.specs.Calls.{blocks_in}
use Rattle.link_model.specs.declared.call.Call.{Call}
use Rattle.link_model.specs.declared.call.Call.TheVariants.{Polled, Offered}
use Rattle.station_config.specs.declared.site.Site.{Site}
use Rattle.drill_text.specs.declared.end_word.EndWord.{EndWord}
use Rattle.session_core.specs.Session.{State, Round, after_round, round_calls, session_calls}
use Rattle.session_core.specs.Session.{spoken_of}
use Rattle.station_links.specs.declared.link_line.LinkLine.{LinkLine}
use Rattle.station_links.specs.declared.link_line.LinkLine.TheVariants as line
use Rattle.station_links.specs.LinkLines.{lines_in, end_of, drop_lines, dropped_lines, end_lines}
use Rattle.station_links.specs.Rounds.{round_lines, session_lines}
use Rattle.script_commands.specs.Connection.{octets_sent}

-- those of lines after others
sent_both : (a b : List LinkLine) → octets_sent (a ++ b) ≡ octets_sent a ++ octets_sent b
sent_both [] b = refl
sent_both (line.Sent octets ∷ a) b = ap (λ rest. octets ∷ rest) (sent_both a b)
sent_both (line.Stalled ∷ a) b = sent_both a b
sent_both (line.Discarded items ∷ a) b = sent_both a b
sent_both (line.Ended why ∷ a) b = sent_both a b

blocks_both : (a b : List Call) → blocks_in (a ++ b) ≡ blocks_in a ++ blocks_in b
blocks_both [] b = refl
blocks_both (Polled space heard ∷ a) b = blocks_both a b
blocks_both (Offered octets Whole ∷ a) b = ap (λ rest. octets ∷ rest) (blocks_both a b)
blocks_both (Offered octets Stalled ∷ a) b = blocks_both a b
blocks_both (Offered octets Refused ∷ a) b = blocks_both a b

-- those of calls
sent_in_calls : (calls : List Call) → octets_sent (lines_in calls) ≡ blocks_in calls
sent_in_calls [] = refl
sent_in_calls (Polled space heard ∷ calls) = sent_in_calls calls
sent_in_calls (Offered octets Whole ∷ calls) =
    ap (λ rest. octets ∷ rest) (sent_in_calls calls)
sent_in_calls (Offered octets Stalled ∷ calls) = sent_in_calls calls
sent_in_calls (Offered octets Refused ∷ calls) = sent_in_calls calls

-- a drop and an end have none
none_of_drop : (end : Option EndWord) (dropped : Option ℕ) (before : List LinkLine)
    → octets_sent (before ++ drop_lines end dropped) ≡ octets_sent before
none_of_drop None None before = ap octets_sent (append-nil before)
none_of_drop None (Some items) before = sent_both before (dropped_lines (Some items))
    ∙ append-nil (octets_sent before)
none_of_drop (Some why) dropped before = ap octets_sent (append-nil before)

none_of_end : (end : Option EndWord) (before : List LinkLine)
    → octets_sent (before ++ end_lines end) ≡ octets_sent before
none_of_end None before = ap octets_sent (append-nil before)
none_of_end (Some why) before = sent_both before (end_lines (Some why))
    ∙ append-nil (octets_sent before)

sent_in_round : (site : Site) (s : State) (r : Round)
    → octets_sent (round_lines site s r) ≡ blocks_in (round_calls site s r)
sent_in_round site s r =
    let now = (after_round site s r).standing in
    none_of_drop (end_of (spoken_of now.course)) now.dropped (lines_in (round_calls site s r))
    ∙ sent_in_calls (round_calls site s r)

sent_in_rounds : (site : Site) (s : State) (rounds : List Round)
    → octets_sent (session_lines site s rounds) ≡ blocks_in (session_calls site s rounds)
sent_in_rounds site s [] = refl
sent_in_rounds site s (r ∷ rounds) =
    let next = after_round site s r in
    sent_both (round_lines site s r) (session_lines site next rounds)
    ∙ ap (λ first. first ++ octets_sent (session_lines site next rounds)) (sent_in_round site s r)
    ∙ ap (λ rest. blocks_in (round_calls site s r) ++ rest) (sent_in_rounds site next rounds)
    ∙ sym (blocks_both (round_calls site s r) (session_calls site next rounds))

pub sent_in_session : (site : Site) (s : State) (rounds : List Round) (end : Option EndWord)
    → octets_sent (session_lines site s rounds ++ end_lines end)
    ≡ blocks_in (session_calls site s rounds)
sent_in_session site s rounds end =
    none_of_end end (session_lines site s rounds) ∙ sent_in_rounds site s rounds
