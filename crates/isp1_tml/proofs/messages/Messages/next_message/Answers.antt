use Rattle.std.proofs.Common.{Some, None}
use Rattle.std.proofs.lemmas.Result.{err_from_is_err_and}
use Rattle.isp1_tml.proofs.Unreads.{whole_gives, whole_left, none_gives, none_left}
use Rattle.isp1_tml.proofs.messages.Messages.next_message.Goals as goal

pub returns-in_err-size-clause-given : goal.returns-in_err-size-clause-given
returns-in_err-size-clause-given c =
    let p = err_from_is_err_and c.from_residual.result c.from_residual.ensures.1 in
    rw (p.1, p.2)
    (none_gives c.self.inside.place c.self.inside.octets.now (Some c.in_err-size.field-0.0)
    c.args.self.now c.self.view_is c.in_err-size.ensures.exact)

pub returns-in_err-size-clause-after : goal.returns-in_err-size-clause-after
returns-in_err-size-clause-after c =
    none_left c.self.inside.place c.self.inside.octets.now (Some c.in_err-size.field-0.0)
    c.args.self.now c.self.view_is c.in_err-size.ensures.exact

pub returns-in_default-clause-given : goal.returns-in_default-clause-given
returns-in_default-clause-given c =
    none_gives c.self.inside.place c.self.inside.octets.now None c.args.self.now c.self.view_is
    (rw c.in_default.is at c.in_ok-size.ensures.exact)

pub returns-in_default-clause-after : goal.returns-in_default-clause-after
returns-in_default-clause-after c =
    none_left c.self.inside.place c.self.inside.octets.now None c.args.self.now c.self.view_is
    (rw c.in_default.is at c.in_ok-size.ensures.exact)

pub returns-clause-given : goal.returns-clause-given
returns-clause-given c =
    rw (c.message_of.ensures, c.split_at.ensures.front)
    (whole_gives c.self.inside.place c.in-Some.size c.self.inside.octets.now c.args.self.now
    c.self.view_is (rw c.in-Some.is at c.in_ok-size.ensures.exact))

pub returns-clause-after : goal.returns-clause-after
returns-clause-after c =
    rw (c.further-self-inside.ensures, c.split_at.ensures.back)
    (whole_left c.self.inside.place c.in-Some.size c.self.inside.octets.now c.args.self.now
    c.self.view_is (rw c.in-Some.is at c.in_ok-size.ensures.exact)
    (rw c.in-Some.is at c.in_ok-size.ensures.spelled).1)
