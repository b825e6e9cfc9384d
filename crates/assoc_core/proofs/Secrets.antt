-- The answer to credentials depends on the octets of the secret, wherever they stand.
use Rattle.std.proofs.Common.{◌≡◌, ℕ, List, Option, Result, refl, ◌∙◌, ap}
use Rattle.isp1_auth.specs.declared.auth_fault.AuthFault.{AuthFault}
use Rattle.isp1_auth.specs.declared.hash.Hash.{Hash}
use Rattle.isp1_auth.specs.declared.secret.Secret.{Secret}
use Rattle.isp1_auth.specs.Auth.{auth}
use Rattle.station_config.specs.declared.peer.Peer.{Peer}
use Rattle.assoc_core.specs.Access.{lent, secret_of, IsSecretOf}

abbrev by_parts : List ℕ → List ℕ → Hash → ℕ → Secret
by_parts name pass hash age =
    record { name = lent name; pass = lent pass; hash = hash; credential_age = age }

same_octets : (s : Secret) (credentials : Option (List ℕ)) (now : ℕ)
    → auth s credentials now
    ≡ auth (by_parts s.name.now s.pass.now s.hash s.credential_age) credentials now
same_octets s credentials now = refl

pub same_answer : (peer : Peer) (s : Secret) (credentials : Option (List ℕ)) (now : ℕ)
    → IsSecretOf peer s
    → auth s credentials now ≡ auth (secret_of peer) credentials now
same_answer peer s credentials now is =
    let answer : Secret → Result (Unit {0}) AuthFault = λ t. auth t credentials now in
    same_octets s credentials now
    ∙ ap (λ name. answer (by_parts name s.pass.now s.hash s.credential_age)) is.name
    ∙ ap (λ pass. answer (by_parts peer.name pass s.hash s.credential_age)) is.pass
    ∙ ap (λ hash. answer (by_parts peer.name peer.pass hash s.credential_age)) is.hash
    ∙ ap (λ age. answer (by_parts peer.name peer.pass (secret_of peer).hash age)) is.credential_age
