use Rattle.std.proofs.Common.{◌-◌, ◌+◌, ◌≡◌, length, take, drop, ap, sym, ◌∙◌, arith, rules}
use Rattle.std.proofs.Common.{length-drop, take_all}
use lib.Seq.{paste}
use Rattle.std.proofs.lemmas.List.Edits.{take-paste}
use Rattle.archive_commands.proofs.listing.cut_front.Goals as goal

pub returns : goal.returns
returns c =
    let all = c.args.block.now.items in
    let rest = drop c.args.count all in
    let left = c.len.result - c.args.count in
    let long : length all ≡ c.len.result = search rules in
    let same : left ≡ 0 + left = omega arith in
    let rest_long : length rest ≡ left = omega (arith, length-drop c.args.count all) in
    c.truncate.ensures.items
    ∙ ap (take left) (c.copy_within.ensures.items
    ∙ ap (λ n. paste all 0 rest (n - c.args.count)) (sym c.len.ensures))
    ∙ ap (λ n. take n (paste all 0 rest left)) same
    ∙ take-paste all 0 rest left (omega arith) (omega arith)
    ∙ take_all left rest (omega arith)
