use Rattle.std.proofs.Common.{◌+◌, ◌++◌, length, sym, ◌∙◌, ap, append_assoc, append-nil, arith}
use Rattle.std.proofs.Common.{length-append}
use Rattle.ber_core.specs.Spelling.{canonical}
use Rattle.sle_common.specs.IdentifierOctets.{part}
use Rattle.sle_common.proofs.Own.{left_of, one_less, none_left}
use Rattle.sle_common.proofs.instance_ref.write_own.Goals as goal

pub write-requires-clause-room : goal.write-requires-clause-room
write-requires-clause-room c =
    let p = c.part-item.result in
    let less = one_less c.args.parts.now c.loop-part.part-index p c.loop-part-test.true
    (sym c.part-item.is) in
    let same = ap (λ q. length (canonical (part.tree q))) c.lend.ensures in
    omega (
      arith,
      c.loop-part.invariant.1,
      c.loop-part.invariant.2,
      same,
      ap length less,
      length-append (canonical (part.tree p))
          (left_of c.args.parts.now (c.loop-part.part-index + 1)),
    )

pub loop-part-preserved : goal.loop-part-preserved
loop-part-preserved c =
    let p = c.part-item.result in
    let more = left_of c.args.parts.now (c.loop-part.part-index + 1) in
    let less = one_less c.args.parts.now c.loop-part.part-index p c.loop-part-test.true
    (sym c.part-item.is) in
    let same = ap (λ q. length (canonical (part.tree q))) c.lend.ensures in
    let appended = c.write.ensures.0
    ∙ ap (λ q. c.loop-part.writer.octets ++ canonical (part.tree q)) c.lend.ensures in (
      ap (λ front. front ++ more) appended
          ∙ append_assoc c.loop-part.writer.octets (canonical (part.tree p)) more
          ∙ ap (λ rest. c.loop-part.writer.octets ++ rest) (sym less) ∙ c.loop-part.invariant.0,
      omega (
        arith,
        c.loop-part.invariant.1,
        c.write.ensures.1,
        same,
        ap length less,
        length-append (canonical (part.tree p)) more,
      ),
      c.loop-part.invariant.2,
    )

pub returns : goal.returns
returns c =
    let none = none_left c.args.parts.now c.loop-part.part-index c.loop-part-test.false in (
      sym (append-nil c.loop-part.writer.octets)
          ∙ ap (λ rest. c.loop-part.writer.octets ++ rest) (sym none) ∙ c.loop-part.invariant.0,
      omega (arith, c.loop-part.invariant.1, ap length none),
    )
