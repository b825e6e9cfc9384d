use Rattle.std.proofs.Common.{◌≤◌, length, refl, ap, ◌∙◌, arith}
use Rattle.isp1_tml.specs.Reading.{content}
use Rattle.isp1_tml.proofs.Feedings.{Gives, gives, last_is, nothing_whole, no_fault_held}
use Rattle.isp1_tml.proofs.feeder.Feeder.next_message.Goals as goal
use Rattle.isp1_tml.proofs.feeder.Feeder.next_message.Goals.{In-Some-2}

pub returns-in_err-size : goal.returns-in_err-size
returns-in_err-size c =
    absurd (no_fault_held c.self.invariant c.octets.ensures c.in_err-size.ensures.exact)

pub returns-in_default-2 : goal.returns-in_default-2
returns-in_default-2 c =
    let none = nothing_whole _ c.self.view_is c.in_default.is c.octets.ensures
    (rw c.in_default-2.is at c.in_ok-size.ensures.exact) in
    ((refl, λ f. tt, none.0), record { given = none.1; after = tt })

found : (c : In-Some-2) → Gives c.self.inside.held.waiting c.self.inside.whole
    c.self.inside.place c.in-Some-2.size c.self.inside.fault c.args.self.now
found c = gives c.self.invariant c.self.view_is c.in_default.is c.octets.ensures
    (rw c.in-Some-2.is at c.in_ok-size.ensures.exact)
    (rw c.in-Some-2.is at c.in_ok-size.ensures.spelled)

pub overflow_sub-self : goal.overflow_sub-self
overflow_sub-self c = (found (goal.at.overflow_sub-self c).In-Some-2).fits

pub invariant_of-self-2 : goal.invariant_of-self-2
invariant_of-self-2 c = rw (c.skip.ensures.waiting, c.further-self-inside.ensures)
    (found (goal.at.invariant_of-self-2 c).In-Some-2).split

pub returns : goal.returns
returns c =
    let is = found (goal.at.returns c).In-Some-2 in
    let fits : c.in-Some-2.size ≤ length c.self.inside.held.waiting =
    omega (arith, is.fits, c.self.invariant.within) in
    let last = last_is c.self.inside.held.given c.skip.new.self.given c.self.inside.held.waiting
    c.in-Some-2.size fits c.skip.ensures.given in
    let body = c.message_of.ensures ∙ ap content (c.last_given.ensures ∙ last) in (
      (refl, λ f. tt, rw (c.skip.ensures.waiting, c.further-self-inside.ensures) is.after),
      record { given = rw body is.next; after = tt },
    )
