use Rattle.std.proofs.lemmas.List.{nil_from_length}
use Rattle.std.proofs.Common.{◌≡◌, ◌≢◌, ◌⊎◌, ◌<◌, ◌-◌, ◌++◌, [], ◌∷◌, length, ◌∙◌, ap, inl, inr}
use Rattle.std.proofs.Common.{arith}
use Rattle.sle_common.proofs.Texts.{part_of}
use Rattle.sle_common.proofs.Stages.{stage_refused, stage_ends, stage_goes_on, stage_done}
use Rattle.sle_common.proofs.instance_id.InstanceId.parse_text.Goals as goal
use Rattle.sle_common.proofs.instance_id.InstanceId.parse_text.Goals.{then-octet-ne46-via-then-octet-ne46}
use Rattle.sle_common.proofs.instance_id.InstanceId.parse_text.Goals.{then-octet-ne46-via-else-octet-ne46+then-len-eq-MOST_PARTS}

pub overflow_sub-place : goal.overflow_sub-place
overflow_sub-place c = (c.in-Err.ensures.bad 0).front.within

pub returns-in-Err-clause-bad : goal.returns-in-Err-clause-bad
returns-in-Err-clause-bad c =
    let text = c.as_bytes-text.ensures.value in
    stage_refused c.args.text.now c.loop-found.rest.now c.loop-found.parts.items c.in-Err.at _
    c.loop-found.invariant c.in-Err.ensures.bad
    (ap (λ text. length text - (length c.loop-found.rest.now - c.in-Err.at)) text)

pub returns-in_default-clause-ok : goal.returns-in_default-clause-ok
returns-in_default-clause-ok c =
    let pushed : c.push.new.self.items ≡ c.loop-found.parts.items
    ++ part_of c.in-Ok.found.0 c.in-Ok.found.1.now ∷ [] =
    c.in_ok-push.ensures.items ∙ ap (λ value.
    c.loop-found.parts.items ++ part_of c.in-Ok.found.0 value ∷ []) c.in_ok-value.ensures in
    let none : c.in-Ok.found.2.now ≡ [] = nil_from_length c.in-Ok.found.2.now
    c.in_default.ensures.cases in
    let done = stage_done c.args.text.now c.loop-found.rest.now c.in-Ok.found.2.now
    c.in-Ok.found.1.now c.loop-found.parts.items c.in-Ok.found.0 c.loop-found.invariant
    c.in-Ok.ensures.ok none in
    rw (c.from_parts.ensures, pushed) done

pub returns-then-octet-ne46-clause-bad : goal.returns-then-octet-ne46-clause-bad
returns-then-octet-ne46-clause-bad c =
    let begins : c.in-Ok.found.2.now ≡ c.in-Some.octet.now ∷ c.in-Some.more.now =
    c.in-Some.ensures.cases.0 in
    let last : (c.in-Some.octet.now ≢ 46) ⊎ (length c.loop-found.parts.items ≡ 7) =
    elim c.then-octet-ne46.branch [
      | then-octet-ne46-via-then-octet-ne46 w ↦ inl w.if-octet-ne46.true
      | then-octet-ne46-via-else-octet-ne46+then-len-eq-MOST_PARTS w ↦ inr
          (omega (
            arith,
            w.len.ensures,
            w.if-len-eq-MOST_PARTS.true,
            c.in_ok-push.ensures.len,
            c.loop-found.parts.ok,
          ))
    ] in
    stage_ends c.args.text.now c.loop-found.rest.now c.in-Ok.found.2.now c.in-Ok.found.1.now
    c.in-Some.more.now c.in-Some.octet.now c.loop-found.parts.items c.in-Ok.found.0 _
    c.loop-found.invariant c.in-Ok.ensures.ok begins last
    (ap (λ text. length text - length c.in-Ok.found.2.now) c.as_bytes-text.ensures.value)

pub loop-found-preserved : goal.loop-found-preserved
loop-found-preserved c =
    let pushed : c.push.new.self.items ≡ c.loop-found.parts.items
    ++ part_of c.in-Ok.found.0 c.in-Ok.found.1.now ∷ [] =
    c.in_ok-push.ensures.items ∙ ap (λ value.
    c.loop-found.parts.items ++ part_of c.in-Ok.found.0 value ∷ []) c.in_ok-value.ensures in
    let begins : c.in-Ok.found.2.now ≡ c.in-Some.octet.now ∷ c.in-Some.more.now =
    c.in-Some.ensures.cases.0 in
    let few : length c.loop-found.parts.items < 7 =
    omega (
      arith,
      c.len.ensures,
      c.if-len-eq-MOST_PARTS.false,
      c.in_ok-push.ensures.len,
      c.loop-found.invariant.few,
      c.loop-found.parts.ok,
    ) in
    rw pushed (stage_goes_on c.args.text.now c.loop-found.rest.now c.in-Ok.found.2.now
    c.in-Ok.found.1.now c.in-Some.more.now c.in-Some.octet.now c.loop-found.parts.items
    c.in-Ok.found.0 c.loop-found.invariant c.in-Ok.ensures.ok begins (omega arith) few)
