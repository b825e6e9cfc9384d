use Rattle.std.proofs.Common.{◌≡◌, ◌+◌, length, sym, ◌∙◌, ap, arith, length-append}
use Rattle.ber_core.specs.Spelling.{canonical}
use Rattle.sle_common.specs.IdentifierOctets.{part}
use Rattle.sle_common.proofs.Own.{left_of, one_less, none_left}
use Rattle.sle_common.proofs.instance_ref.size_own.Goals as goal

pub loop-part-preserved : goal.loop-part-preserved
loop-part-preserved c =
    let p = c.part-item.result in
    let size : c.size-size.result ≡ length (canonical (part.tree p)) = c.size-size.ensures.exact
    ∙ ap (λ q. length (canonical (part.tree q))) c.lend.ensures in
    let less = one_less c.args.parts.now c.loop-part.part-index p c.loop-part-test.true
    (sym c.part-item.is) in (
      omega (
        arith,
        c.loop-part.invariant.0,
        size,
        ap length less,
        length-append (canonical (part.tree p))
            (left_of c.args.parts.now (c.loop-part.part-index + 1)),
      ),
      omega (arith, c.loop-part.invariant.1, c.size-size.ensures.within),
    )

pub returns-clause-exact : goal.returns-clause-exact
returns-clause-exact c = omega (
  arith,
  c.loop-part.invariant.0,
  ap length (none_left c.args.parts.now c.loop-part.part-index c.loop-part-test.false),
)
