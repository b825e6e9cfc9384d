use Rattle.std.proofs.Common.{ap, subst, ◌∙◌}
use Rattle.session_services.specs.Whole.{AreWhole}
use Rattle.session_core.specs.Steps.{round_ended}
use Rattle.session_core.specs.SessionState.{SessionState}
use Rattle.session_core.proofs.Rounds.{keeping}
use Rattle.session_core.proofs.Listed.{goes_speak}
use Rattle.session_core.proofs.Fates.{both_count, rests_spoken, ended_fails}
use Rattle.session_core.proofs.Stalls.{speak_stalls, spoken_blocked}
use Rattle.session_core.proofs.session.Session.speak.Goals as goal

pub returns-clause-lists : goal.returns-clause-lists
returns-clause-lists g c =
    goes_speak _ _ _ c.args.self.now c.say.new.self c.send.new.self _
    (subst (λ (v : SessionState). AreWhole v.standing.block) c.self.view_is
    c.holds_whole_messages.ensures.block)
    (subst (λ (v : SessionState). AreWhole v.standing.outgoing) c.self.view_is
    c.holds_whole_messages.ensures.outgoing)
    c.say.ensures.said c.send.ensures.sent
    (ap (keeping c.self-2.inside.door c.self-2.inside.feeder) c.end_round.ensures
    ∙ ap (λ (v : SessionState). record v { standing = round_ended v.standing }) c.self-2.view_is)

pub returns-clause-faults : goal.returns-clause-faults
returns-clause-faults g c =
    rw (ended_fails c.send.new.self _
    (ap (keeping c.self-2.inside.door c.self-2.inside.feeder) c.end_round.ensures
    ∙ ap (λ (v : SessionState). record v { standing = round_ended v.standing }) c.self-2.view_is))
    (both_count _ _ _ _ _ _ c.say.ensures.faults c.send.ensures.faults)

pub returns-clause-stalls : goal.returns-clause-stalls
returns-clause-stalls g c =
    speak_stalls _ _ _ c.args.self.now c.say.new.self c.send.new.self _ _ _ _ c.say.ensures.said
    c.send.ensures.sent
    (ap (keeping c.self-2.inside.door c.self-2.inside.feeder) c.end_round.ensures
    ∙ ap (λ (v : SessionState). record v { standing = round_ended v.standing }) c.self-2.view_is)
    c.say.ensures.stalls c.send.ensures.stalls

pub returns-clause-rests : goal.returns-clause-rests
returns-clause-rests g c =
    rests_spoken _ _ _ c.args.self.now c.say.new.self c.send.new.self _ c.say.ensures.said
    c.send.ensures.sent
    (ap (keeping c.self-2.inside.door c.self-2.inside.feeder) c.end_round.ensures
    ∙ ap (λ (v : SessionState). record v { standing = round_ended v.standing }) c.self-2.view_is)

pub returns-clause-blocked : goal.returns-clause-blocked
returns-clause-blocked g c =
    spoken_blocked _ _ _ c.args.self.now c.say.new.self c.send.new.self _ c.say.ensures.said
    c.send.ensures.sent
    (ap (keeping c.self-2.inside.door c.self-2.inside.feeder) c.end_round.ensures
    ∙ ap (λ (v : SessionState). record v { standing = round_ended v.standing }) c.self-2.view_is)
