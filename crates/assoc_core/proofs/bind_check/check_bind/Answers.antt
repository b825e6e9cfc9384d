use Rattle.std.proofs.Common.{sym, ◌∙◌}
use Rattle.assoc_core.specs.Bind.{ask_of}
use Rattle.assoc_core.proofs.Checks.{known, consistent, inconsistent}
use Rattle.assoc_core.proofs.bind_check.check_bind.Goals as goal

pub returns-then-type_of-service : goal.returns-then-type_of-service
returns-then-type_of-service c =
    let ask = ask_of c.args.peer c.args.service c.args.version c.args.instance.now in
    inconsistent c.args.site.now ask c.in-Some.peer c.in-Some-place_of.place
    c.index-instances-place.result
    (known c.args.site.now ask c.in-Some.peer c.in-Some-place_of.place
    c.index-instances-place.result
    c.as_slice-instances.result.now c.as_slice.result.now c.as_slice-instances.ensures
    c.as_slice.ensures c.in-Some.is (cc) (cc) (cc)
    c.index-instances-place.is c.if-wanted-peer.false)
    (λ same. c.if-type_of-service.true (c.type_of.ensures ∙ same))

pub returns : goal.returns
returns c =
    let ask = ask_of c.args.peer c.args.service c.args.version c.args.instance.now in
    consistent c.args.site.now ask c.in-Some.peer c.in-Some-place_of.place
    c.index-instances-place.result
    (known c.args.site.now ask c.in-Some.peer c.in-Some-place_of.place
    c.index-instances-place.result
    c.as_slice-instances.result.now c.as_slice.result.now c.as_slice-instances.ensures
    c.as_slice.ensures c.in-Some.is (cc) (cc) (cc)
    c.index-instances-place.is c.if-wanted-peer.false)
    (sym c.type_of.ensures ∙ c.if-type_of-service.false)
