-- What polls gave are octets.
use Rattle.std.proofs.Common.{◌≡◌, ℕ, zero, suc, List, [], ◌∷◌, ◌++◌, Some, refl, ap, sym, subst}
use Rattle.std.proofs.Common.{◌∙◌, append-nil, take, arith}
use Rattle.std.proofs.lemmas.Grind.{flat_map-append}
use Rattle.std.proofs.lemmas.List.Elements.{filter_map-append}
use Rattle.std.specs.List.{flat_map}
use Rattle.link_model.specs.declared.call.Call.{Call}
use Rattle.link_model.specs.declared.call.Heard.{Heard}
use Rattle.link_model.specs.declared.poll.Poll.{Poll}
use Rattle.link_model.specs.declared.poll.Poll.TheVariants as poll
use Rattle.link_model.specs.Calls.{octets_heard, arrived_at, heard_of, polls_in, poll_in}
use Rattle.user_core.specs.Laws.{AreOctets}
use Rattle.user_talk.specs.Outbox.{OutboxState, offered}
use Rattle.user_talk.specs.declared.outbox.Answers.{Answers}
use Rattle.user_talk.specs.Rounds.{TalkState, Round, poll_calls, calls_of, queued_at, hearing_in}
use Rattle.user_talk.proofs.Handed.{none_offered}

pub none_are : AreOctets []
none_are i = omega arith

both_are : (a b : List ℕ) → AreOctets a → AreOctets b → AreOctets (a ++ b)
both_are [] b h k i = k i
both_are (x ∷ a) b h k zero = h 0
both_are (x ∷ a) b h k (suc i) = both_are a b (λ j. h (suc j)) k i

taken_are : (n : ℕ) (octets : List ℕ) → AreOctets octets → AreOctets (take n octets)
taken_are zero octets h i = omega arith
taken_are (suc n) [] h i = omega arith
taken_are (suc n) (x ∷ octets) h zero = h 0
taken_are (suc n) (x ∷ octets) h (suc i) = taken_are n octets (λ j. h (suc j)) i

-- what a poll heard in a space of octets
pub arrived_are : (p : Poll) (piece : List ℕ) → AreOctets piece
    → AreOctets (arrived_at (heard_of p piece))
arrived_are (poll.Arrived n) piece h = taken_are n piece h
arrived_are poll.Nothing piece h = none_are
arrived_are poll.Closed piece h = none_are
arrived_are poll.Failed piece h = none_are

-- one poll
pub poll_gives : (h : Heard) → AreOctets (arrived_at h) → AreOctets (octets_heard (poll_calls (Some h)))
poll_gives h are = subst AreOctets (sym (append-nil (arrived_at h))) are

heard_both : (a b : List Call) → octets_heard (a ++ b) ≡ octets_heard a ++ octets_heard b
heard_both a b =
    ap (flat_map arrived_at) (filter_map-append poll_in a b)
    ∙ flat_map-append arrived_at (polls_in a) (polls_in b)

pub calls_give : (a b : List Call) → AreOctets (octets_heard a) → AreOctets (octets_heard b)
    → AreOctets (octets_heard (a ++ b))
calls_give a b first second =
    subst AreOctets (sym (heard_both a b))
    (both_are (octets_heard a) (octets_heard b) first second)

-- an offer gives none
offers_give : (o : OutboxState) (answers : Answers) → AreOctets (octets_heard (offered o answers))
offers_give o answers =
    subst AreOctets (ap (flat_map arrived_at) (sym (none_offered o answers.first answers.second)))
    none_are

pub turn_gives : (s : TalkState) (r : Round) → AreOctets (octets_heard (poll_calls r.heard))
    → AreOctets (octets_heard (calls_of s r))
turn_gives s r poll =
    let q = queued_at s r.read (hearing_in r.heard) in
    calls_give (poll_calls r.heard) (offered q r.answers) poll (offers_give q r.answers)
