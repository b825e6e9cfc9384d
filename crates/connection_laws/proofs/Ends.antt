-- What a session says is no end by a lost reply.
use Rattle.std.proofs.Common.{◌≡◌, ℕ, zero, suc, ◌<◌, Option, Some, None, List, [], ◌∷◌, ◌++◌}
use Rattle.std.proofs.Common.{length, get_or, Contains, refl, arith}
use Rattle.std.specs.List.{AllByRecursion}
use Rattle.octet_core.specs.declared.offer.Offer.TheVariants.{Whole, Stalled, Failed}
use Rattle.sle_numbers.specs.declared.peer_abort_diagnostic.PeerAbortDiagnostic.{PeerAbortDiagnostic}
use Rattle.sle_numbers.specs.declared.peer_abort_diagnostic.PeerAbortDiagnostic.TheVariants as why
use Rattle.link_model.specs.declared.call.Call.{Call}
use Rattle.link_model.specs.declared.call.Call.TheVariants.{Polled, Offered}
use Rattle.station_config.specs.declared.site.Site.{Site}
use Rattle.drill_text.specs.declared.end_word.EndWord.{EndWord}
use Rattle.session_core.specs.declared.ended.Ended.TheVariants as ended
use Rattle.session_core.specs.declared.spoken.Spoken.{Spoken}
use Rattle.session_core.specs.declared.spoken.Spoken.TheVariants as spoken
use Rattle.session_core.specs.Session.{State, Round, after_round, round_calls, spoken_of}
use Rattle.station_links.specs.declared.link_line.LinkLine.{LinkLine}
use Rattle.station_links.specs.LinkLines.{lines_in, end_of, end_lines, drop_lines}
use Rattle.station_links.specs.Rounds.{round_lines, session_lines}
use Rattle.connection_laws.specs.Lossless.{lost_end}

abbrev pub AreOthers : List LinkLine → Type 0
AreOthers lines = AllByRecursion (λ (line : LinkLine). line ≡ lost_end → ⊥) lines

pub others_both : (xs ys : List LinkLine) → AreOthers xs → AreOthers ys → AreOthers (xs ++ ys)
others_both [] ys first second = second
others_both (x ∷ xs) ys first second = (first.0, others_both xs ys first.1 second)

not_there : (xs : List LinkLine) → AreOthers xs → (k : ℕ) → k < length xs
    → get_or xs k lost_end ≡ lost_end → ⊥
not_there [] others k below is = absurd (omega (arith, below))
not_there (x ∷ xs) others zero below is = others.0 is
not_there (x ∷ xs) others (suc k) below is =
    not_there xs others.1 k (omega (arith, below)) is

pub contains_none : (xs : List LinkLine) → AreOthers xs → Contains xs lost_end → ⊥
contains_none xs others at = not_there xs others at.0 at.1 at.2

-- ---- rounds

calls_others : (calls : List Call) → AreOthers (lines_in calls)
calls_others [] = tt
calls_others (Polled space heard ∷ calls) = calls_others calls
calls_others (Offered octets Whole ∷ calls) = (λ is. cc is, calls_others calls)
calls_others (Offered octets Stalled ∷ calls) = (λ is. cc is, calls_others calls)
calls_others (Offered octets Failed ∷ calls) = calls_others calls

drop_others : (end : Option EndWord) (dropped : Option ℕ) → AreOthers (drop_lines end dropped)
drop_others (Some why) dropped = tt
drop_others None None = tt
drop_others None (Some items) = (λ is. cc is, tt)

pub rounds_others : (site : Site) (s : State) (rounds : List Round)
    → AreOthers (session_lines site s rounds)
rounds_others site s [] = tt
rounds_others site s (r ∷ rounds) =
    let now = (after_round site s r).standing in
    others_both (round_lines site s r) (session_lines site (after_round site s r) rounds)
    (others_both (lines_in (round_calls site s r))
    (drop_lines (end_of (spoken_of now.course)) now.dropped) (calls_others (round_calls site s r))
    (drop_others (end_of (spoken_of now.course)) now.dropped))
    (rounds_others site (after_round site s r) rounds)

-- ---- the end

abbrev NotLost : Spoken → Type 0
NotLost e = e ≡ spoken.Ended (ended.Aborted why.OtherReason) → ⊥

aborted_others : (d : PeerAbortDiagnostic) → NotLost (spoken.Ended (ended.Aborted d))
    → AreOthers (end_lines (end_of (spoken.Ended (ended.Aborted d))))
aborted_others why.OtherReason not = absurd (not refl)
aborted_others why.AccessDenied not = (λ is. cc is, tt)
aborted_others why.UnexpectedResponderId not = (λ is. cc is, tt)
aborted_others why.OperationalRequirement not = (λ is. cc is, tt)
aborted_others why.ProtocolError not = (λ is. cc is, tt)
aborted_others why.CommunicationsFailure not = (λ is. cc is, tt)
aborted_others why.EncodingError not = (λ is. cc is, tt)
aborted_others why.ReturnTimeout not = (λ is. cc is, tt)
aborted_others why.EndOfServiceProvisionPeriod not = (λ is. cc is, tt)
aborted_others why.UnsolicitedInvokeId not = (λ is. cc is, tt)

pub end_others : (e : Spoken) → NotLost e → AreOthers (end_lines (end_of e))
end_others spoken.Going not = tt
end_others spoken.LinkFault not = (λ is. cc is, tt)
end_others (spoken.Ended (ended.Aborted d)) not = aborted_others d not
end_others (spoken.Ended ended.Unbound) not = (λ is. cc is, tt)
end_others (spoken.Ended ended.PeerClosed) not = (λ is. cc is, tt)
end_others (spoken.Ended ended.Denied) not = (λ is. cc is, tt)
end_others (spoken.Ended (ended.Range interval factor)) not = (λ is. cc is, tt)
end_others (spoken.Ended (ended.Broken fault)) not = (λ is. cc is, tt)
end_others (spoken.Ended (ended.PeerAborted d)) not = (λ is. cc is, tt)
