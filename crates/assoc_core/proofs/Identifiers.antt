-- Identifiers that pass for the same are equal.
use Rattle.std.proofs.Common.{◌≡◌, ◌↔◌, Bool, true, false, IsTrue, List, refl, sym}
use Rattle.sle_common.specs.declared.instance_id.InstancePart.{InstancePart}
use Rattle.station_config.specs.Drafts.{same_id}
use Rattle.station_config.specs.Identity.{same_id_decides}
use Rattle.assoc_core.proofs.Tests.{differ, is_false}

-- a test that tells whether identifiers are equal
pub told : (test : Bool) (a b : List InstancePart) → IsTrue test ↔ (a ≡ b) → test ≡ same_id a b
told true a b tells = sym ((same_id_decides a b).1 (tells.0 refl))
told false a b tells = sym (is_false (same_id a b)
    (λ e. differ (sym (tells.1 ((same_id_decides a b).0 e)))))
