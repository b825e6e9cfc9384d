-- What an object tells of no call, and of two runs.
use Rattle.std.proofs.Common.{List, [], ◌++◌, Option, append-nil, append_assoc, arith}
use Rattle.link_model.specs.declared.call.Call.{Call}
use Rattle.octet_core.specs.Told.{Tells}

pub tells_none : (told : Option (List Call)) → Tells told told []
tells_none told = grind (arith, append-nil)

pub tells_both : {A : Type 0} (a b c : Option (List A)) (xs ys : List A) → Tells a b xs
    → Tells b c ys → Tells a c (xs ++ ys)
tells_both a b c xs ys h k = grind (arith, append_assoc)
