-- The checks of a BIND.
use Rattle.std.proofs.Common.{◌≡◌, ℕ, Bool, true, false, not, ◌==◌, nat_eq, if◌then◌else◌}
use Rattle.std.proofs.Common.{Option, Some, None, Ok, Err, List, [], ◌∷◌, length, get_or}
use Rattle.std.proofs.Common.{eq-eqb, refl, sym, ◌∙◌, ap, subst}
use Rattle.std.specs.Prelude.{slice_get, IsSomeAnd, is_some, is_ok}
use Rattle.std.specs.Prelude.{option_and_then}
use Rattle.std.specs.List.{list_any, AllByRecursion}
use Rattle.std.specs.Option.{option_map_or}
use Rattle.std.proofs.lemmas.List.Quantifiers.{position-Some}
use Rattle.std.proofs.lemmas.Option.{slice_get_read, get_or_from_slice_get}
use Rattle.std.proofs.lemmas.Map.Views.{Contains-from_any}
use Rattle.station_config.specs.Drafts.{same_id}
use Rattle.station_config.specs.Identity.{same_id_decides}
use Rattle.station_config.specs.declared.instance.Instance.{Instance}
use Rattle.station_config.specs.declared.site.Site.{Site}
use Rattle.sle_numbers.specs.declared.bind_diagnostic.BindDiagnostic.{BindDiagnostic}
use Rattle.sle_numbers.specs.declared.bind_diagnostic.BindDiagnostic.TheVariants.{InconsistentServiceType}
use Rattle.assoc_core.specs.Bind.{Ask, type_of, is_type, instance_place, wanted, is_owned_by, Check}
use Rattle.assoc_core.specs.Bind.{checks, first_fault, place_unless, bind_answer}
use Rattle.assoc_core.specs.Laws.{MayBind}
use Rattle.assoc_core.proofs.Tests.{same_number, differ, is_false, no_failure}

-- the checks up to the last one
pub record PassesUpTo (site : Site) (ask : Ask) (peer place : ℕ) (instance : Instance) : Type
    0 where
  pub peer_is : ask.peer ≡ Some peer
  pub is_type_of : is_type ask.service ≡ true
  pub is_version : list_any (λ version. version == ask.version) site.versions ≡ true
  pub place_is : instance_place site.instances ask.id ≡ Some place
  pub instance_is : slice_get site.instances place ≡ Some instance
  pub owner_is : (peer == instance.owner) ≡ true

last_check : (test : Bool) (place : ℕ)
    → place_unless (if not test then Some InconsistentServiceType else None) (Some place)
    ≡ (if test then Ok place else Err InconsistentServiceType)
last_check true place = refl
last_check false place = refl

-- the answer then is by the service alone
pub by_service : (site : Site) (ask : Ask) (peer place : ℕ) (instance : Instance)
    → PassesUpTo site ask peer place instance
    → bind_answer site ask
    ≡ (if type_of instance.service == ask.service then Ok place else Err InconsistentServiceType)
by_service site ask peer place instance passes =
    simp (
      passes.peer_is,
      passes.is_type_of,
      passes.is_version,
      passes.place_is,
      passes.instance_is,
      passes.owner_is,
    )
    (last_check (type_of instance.service == ask.service) place)

-- what the tests of a call show
pub known : (site : Site) (ask : Ask) (peer place : ℕ) (instance : Instance)
    (instances : List Instance) (versions : List ℕ)
    → instances ≡ site.instances → versions ≡ site.versions → ask.peer ≡ Some peer
    → is_type ask.service ≡ true
    → list_any (λ version. version == ask.version) versions ≡ true
    → instance_place instances ask.id ≡ Some place
    → instance ≡ get_or instances place instance → instance.owner ≡ peer
    → PassesUpTo site ask peer place instance
known site ask peer place instance instances versions own own_versions peer_is typed version
    place_is read owner =
    record {
      peer_is = peer_is;
      is_type_of = typed;
      is_version = subst (λ vs. list_any (λ version. version == ask.version) vs ≡ true) own_versions
          version;
      place_is = subst (λ (xs : List Instance). instance_place xs ask.id ≡ Some place) own place_is;
      instance_is =
          subst (λ (xs : List Instance). slice_get xs place ≡ Some instance) own
          (slice_get_read instances (length instances) place instance refl
          (position-Some (λ other. same_id ask.id other.id) instances place instance place_is).0
          read);
      owner_is = eq-eqb peer instance.owner (sym owner);
    }

pub consistent : (site : Site) (ask : Ask) (peer place : ℕ) (instance : Instance)
    → PassesUpTo site ask peer place instance
    → type_of instance.service ≡ ask.service → Ok place ≡ bind_answer site ask
consistent site ask peer place instance passes same =
    sym (by_service site ask peer place instance passes
    ∙ ap (λ test. if test then Ok place else Err InconsistentServiceType)
    (eq-eqb (type_of instance.service) ask.service same))

pub inconsistent : (site : Site) (ask : Ask) (peer place : ℕ) (instance : Instance)
    → PassesUpTo site ask peer place instance
    → (type_of instance.service ≡ ask.service → ⊥)
    → Err InconsistentServiceType ≡ bind_answer site ask
inconsistent site ask peer place instance passes other =
    sym (by_service site ask peer place instance passes
    ∙ ap (λ test. if test then Ok place else Err InconsistentServiceType)
    (is_false (type_of instance.service == ask.service)
    (λ e. other (same_number (type_of instance.service) ask.service e))))

-- ---- what an answer with a place shows

none_fails : (each : List Check) → first_fault each ≡ None
    → AllByRecursion (λ check. check.fails ≡ false) each
none_fails [] e = tt
none_fails (check ∷ others) e =
    elim check.fails as (λ test. check.fails ≡ test
    → (if test then Some check.fault else first_fault others) ≡ None
    → (check.fails ≡ false) × AllByRecursion (λ other. other.fails ≡ false) others) [
      | true ↦ λ is no. absurd (differ (ap is_some no))
      | false ↦ λ is no.
          (is, none_fails others no)
    ] refl e

record Answered (fault : Option BindDiagnostic) (found : Option ℕ) (place : ℕ) : Type 0 where
  pub no_fault : fault ≡ None
  pub at_place : found ≡ Some place

answered : (fault : Option BindDiagnostic) (found : Option ℕ) (place : ℕ)
    → place_unless fault found ≡ Ok place → Answered fault found place
answered (Some fault) found place e = absurd (differ (sym (ap is_ok e)))
answered None None place e = absurd (differ (sym (ap is_ok e)))
answered None (Some found) place e = record { no_fault = refl; at_place = cc }

owned : (peer : Option ℕ) (owner : ℕ) → option_map_or (λ place. place == owner) peer false ≡ true
    → peer ≡ Some owner
owned None owner e = absurd (differ (sym e))
owned (Some place) owner e = ap Some (same_number place owner e)

same_order : (x y : ℕ) → nat_eq y x ≡ true → x ≡ y
same_order x y e = sym (same_number y x e)

by_found : (site : Site) (ask : Ask) (place : ℕ) → instance_place site.instances ask.id ≡ Some place
    → (found : Option Instance) → slice_get site.instances place ≡ found
    → AllByRecursion (λ check. check.fails ≡ false) (checks site ask found)
    → IsSomeAnd found (MayBind site ask)
by_found site ask place at_place None is fails = absurd (differ fails.1.1.1.0)
by_found site ask place at_place (Some instance) is fails =
    record {
      owner = owned ask.peer instance.owner (no_failure (is_owned_by ask.peer instance)
          fails.1.1.1.1.0);
      service = sym (same_number (type_of instance.service) ask.service
          (no_failure (type_of instance.service == ask.service) fails.1.1.1.1.1.0));
      version =
          Contains-from_any {eq = λ x y. nat_eq y x} same_order ask.version site.versions
          (no_failure (list_any (λ version. version == ask.version) site.versions) fails.1.1.0);
      id =
          (same_id_decides ask.id instance.id).0
          (subst (λ (i : Instance). same_id ask.id i.id ≡ true)
          (get_or_from_slice_get site.instances place instance instance is)
          (position-Some (λ other. same_id ask.id other.id) site.instances place instance
          at_place).1);
    }

pub binds_own : (site : Site) (ask : Ask) (place : ℕ) → bind_answer site ask ≡ Ok place
    → IsSomeAnd (slice_get site.instances place) (MayBind site ask)
binds_own site ask place e =
    let all = answered (first_fault (checks site ask (wanted site.instances ask.id)))
    (instance_place site.instances ask.id) place e in
    let found : wanted site.instances ask.id ≡ slice_get site.instances place =
    ap (λ (at : Option ℕ). option_and_then (λ p. slice_get site.instances p) at) all.at_place in
    let fails = none_fails (checks site ask (wanted site.instances ask.id)) all.no_fault in
    let all_fail = subst (λ (i : Option Instance). AllByRecursion (λ check. check.fails ≡ false)
    (checks site ask i)) found fails in
    by_found site ask place all.at_place (slice_get site.instances place) refl all_fail
