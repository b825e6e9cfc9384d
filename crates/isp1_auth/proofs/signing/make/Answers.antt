use Rattle.std.proofs.Common.{length, drop, ◌++◌, ap, ◌∙◌}
use Rattle.isp1_auth.specs.Signed.{signed}
use Rattle.isp1_auth.proofs.signing.make.Goals as goal

pub returns-clause-length : goal.returns-clause-length
returns-clause-length c =
    ap length (c.octets-octets.ensures ∙ c.signed-signed.ensures
    ∙ ap (λ time. signed c.args.secret.now time c.args.number) c.time_octets-time.ensures)

pub returns-clause-octets : goal.returns-clause-octets
returns-clause-octets c =
    ap (λ front. front ++ drop (length c.octets-octets.result.now) c.args.into.now)
    (c.copy_from_slice.ensures.after ∙ c.octets-octets.ensures ∙ c.signed-signed.ensures
    ∙ ap (λ time. signed c.args.secret.now time c.args.number) c.time_octets-time.ensures)
