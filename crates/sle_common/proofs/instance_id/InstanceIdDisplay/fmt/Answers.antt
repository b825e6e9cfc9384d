use Rattle.std.proofs.Common.{◌≡◌, [], ◌∷◌, ◌++◌, sym, ◌∙◌, ap, append-nil, arith, rules}
use Rattle.std.proofs.Output.{has_written_append, has_written_of_eq}
use Rattle.std.proofs.lemmas.Grind.{common_steps}
use Rattle.std.proofs.lemmas.List.{nil_from_length}
use Rattle.std.specs.Fmt.{HasWritten}
use Rattle.sle_common.specs.IdentifierText.{part_text, text_of}
use Rattle.sle_common.proofs.Texts.{dotted, written_first, written_next}
use Rattle.sle_common.proofs.instance_id.InstanceIdDisplay.fmt.Goals as goal

pub loop-part-init : goal.loop-part-init
loop-part-init g c =
    let first = c.in-Some.first.now in
    let others = c.in-Some.others.now in
    let all : c.args.self.now ≡ first ∷ others = first_of (
      search rules,
      grind (arith, common_steps),
    ) in
    record {
      values = grind (arith, common_steps);
      written = λ plain. (
        part_text first,
        search rules,
        written_first first others ∙ ap text_of (sym all),
      );
    }

pub loop-part-preserved : goal.loop-part-preserved
loop-part-preserved g c =
    let part = c.in-Some-split_first.part.now in
    let more = c.in-Some-split_first.more.now in
    let all : c.loop-part.rest.now ≡ part ∷ more = c.in-Some-split_first.ensures.cases.0 in
    record {
      values = grind (arith, common_steps);
      written = λ plain.
          let so_far = c.loop-part.invariant.written plain in
          let dot : HasWritten g.W.Write.write_str_gives c.loop-part.f (46 ∷ [])
          c.write_str.new.self = search rules in (
            (so_far.0 ++ 46 ∷ []) ++ part_text part,
            has_written_append _ _ _ _ _ _ (has_written_append _ _ _ _ _ _ so_far.1 dot)
                (search rules),
            written_next so_far.0 part more ∙ ap (λ l. so_far.0 ++ dotted l) (sym all)
                ∙ so_far.2,
          );
    }

pub returns-clause-writes : goal.returns-clause-writes
returns-clause-writes g c = λ plain _.
    let so_far = c.loop-part.invariant.written plain in
    let none = nil_from_length c.loop-part.rest.now c.in_default-split_first.ensures.cases in
    has_written_of_eq _ _ _ _ _ (sym (append-nil so_far.0)
    ∙ ap (λ l. so_far.0 ++ dotted l) (sym none) ∙ so_far.2) so_far.1
