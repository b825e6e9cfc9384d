-- What a START that is answered positively asks for.
use Rattle.std.proofs.Common.{◌≡◌, ℕ, ◌<◌, Bool, true, nat_lt, if◌then◌else◌, Option, Some}
use Rattle.std.proofs.Common.{None, List, [], ◌∷◌, length, slice_get, refl, sym, ap, subst, ◌∙◌}
use Rattle.std.proofs.Common.{⊎_elim, arith}
use Rattle.std.proofs.lemmas.Bool.Decides.{nat_tests}
use Rattle.std.proofs.lemmas.Option.{slice_get_cases}
use Rattle.std.specs.Prelude.{option_and_then}
use Rattle.std.specs.List.{All}
use Rattle.std.specs.Option.{option_map}
use Rattle.isp1_tml.specs.Message.{Content}
use Rattle.station_config.specs.Validity.{IsInstance, IsService, IsSite}
use Rattle.station_config.specs.declared.instance.Instance.{Instance}
use Rattle.station_config.specs.declared.service.Service.{Service}
use Rattle.station_config.specs.declared.service.Service.TheVariants.{Raf, Rcf, Cltu}
use Rattle.station_config.specs.declared.site.Site.{Site}
use Rattle.session_core.specs.Laws.{round_messages}
use Rattle.session_core.specs.Session.{State, Round, BookAnswer, before_step}
use Rattle.session_core.specs.Steps.{said_to}
use Rattle.session_laws.specs.Instances.{Shape, shape_by, shape_at}
use Rattle.session_laws.specs.Starts.{Wanted, wanted_in}
use Rattle.station_world.specs.Life.{Asked}
use Rattle.session_events.specs.Asked.{wanted_of, wanted_at, asked_so, asked_of, asked_where}
use Rattle.session_events.specs.Asked.{asked_in}

-- ---- the buffers of a valid site's instances have room

instance_at : (peers : ℕ) (instances : List Instance) (place : ℕ) (instance : Instance)
    → All (IsInstance peers) instances → slice_get instances place ≡ Some instance
    → IsInstance peers instance
instance_at peers instances place instance all is =
    ⊎_elim
    (λ at.
    let same : at.0 ≡ instance = cc (sym at.2 ∙ is) in
    subst (IsInstance peers) (at.3 ∙ same) (all place at.0 at.1))
    (λ past. absurd (cc (sym past.1 ∙ is)))
    (slice_get_cases instances place).1

sized_by : (s : Service) (shape : Shape) → IsService s → shape_by s ≡ Some shape → 0 < shape.size
sized_by (Raf mode size latency) shape is e =
    let same : size ≡ shape.size = cc e in omega (arith, same, is.size.low)
sized_by (Rcf mode size latency channels) shape is e =
    let same : size ≡ shape.size = cc e in omega (arith, same, is.0.size.low)
sized_by (Cltu room longest) shape is e = absurd (cc e)

sized : (site : Site) (shape : Shape) (bound : Option ℕ) → IsSite site
    → option_and_then shape_by
    (option_map (λ (instance : Instance). instance.service)
    (option_and_then (λ (place : ℕ). slice_get site.instances place) bound))
    ≡ Some shape
    → 0 < shape.size
sized site shape None valid e = absurd (cc e)
sized site shape (Some place) valid e = by (slice_get site.instances place) refl e
  where
    by : (o : Option Instance) → slice_get site.instances place ≡ o
        → option_and_then shape_by
        (option_map (λ (instance : Instance). instance.service) o)
        ≡ Some shape
        → 0 < shape.size
    by None is e = absurd (cc e)
    by (Some instance) is e =
        sized_by instance.service shape
        (instance_at (length site.peers) site.instances place instance valid.instances.each is).service
        e

-- ---- what is asked

less : (n : ℕ) → 0 < n → nat_lt 0 n ≡ true
less n some = grind (arith, nat_tests, some)

module _ (door : ℕ) (site : Site) (s : State) (r : Round) where
  by_both : (shape : Shape) (wanted : Wanted) → 0 < shape.size
      → shape_at site s.standing ≡ Some shape → wanted_at site s r ≡ Some wanted
      → asked_of door (shape_at site s.standing) (wanted_at site s r)
      ≡ Some (asked_so door shape wanted)
  by_both shape wanted room has wants =
      ap (λ (x : Option Shape). asked_of door x (wanted_at site s r)) has
      ∙ ap (λ (x : Option Wanted). asked_of door (Some shape) x) wants
      ∙ ap (λ (b : Bool). if b then Some (asked_so door shape wanted) else None)
      (less shape.size room)

  pub asks_so : (shape : Shape) (wanted : Wanted) (message : Content) (told : BookAnswer)
      → IsSite site → shape_at site s.standing ≡ Some shape
      → r.told ≡ Some told → round_messages s r ≡ message ∷ []
      → wanted_in (said_to site (before_step s r).standing message) ≡ Some wanted
      → asked_in door site s r ≡ Some (asked_so door shape wanted)
  asks_so shape wanted message told valid has asked handled says =
      let room : 0 < shape.size = sized site shape s.standing.bound valid has in
      let wants : wanted_at site s r ≡ Some wanted =
      ap (λ (messages : List Content). wanted_of site (before_step s r) messages) handled ∙ says in
      let own : Option Asked = asked_of door (shape_at site s.standing) (wanted_at site s r) in
      ap (λ (x : Option BookAnswer). asked_where x own) asked ∙ by_both shape wanted room has wants
