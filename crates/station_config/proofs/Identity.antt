-- A test that passes exactly at equal identifiers.
use Rattle.std.proofs.Common.{◌≡◌, Bool, true, false, List, refl}
use Rattle.std.specs.Prelude.{IsTrue, ◌↔◌}
use Rattle.sle_common.specs.declared.instance_id.InstancePart.{InstancePart}
use Rattle.station_config.specs.Drafts.{same_id}
use Rattle.station_config.specs.Identity.{same_id_decides}
use Rattle.words.specs.Steps.{contradicted}

by : (one other : List InstancePart) (b c : Bool) → (IsTrue b ↔ (one ≡ other))
    → same_id one other ≡ c → b ≡ c
by one other true true both e = refl
by one other true false both e = contradicted (same_id one other)
    ((same_id_decides one other).1 (both.0 refl)) e
by one other false true both e = both.1 ((same_id_decides one other).0 e)
by one other false false both e = refl

pub same_is : (one other : List InstancePart) (b : Bool) → (IsTrue b ↔ (one ≡ other))
    → b ≡ same_id one other
same_is one other b both = by one other b (same_id one other) both refl
