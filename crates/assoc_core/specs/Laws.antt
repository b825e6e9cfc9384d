-- What holds of every list of messages of an association, and of its BIND.
use Rattle.std.specs.Prelude.{◌≡◌, ◌≢◌, ◌↔◌, ◌⊎◌, ℕ, IsTrue, IsFalse, IsSomeAnd, Some}
use Rattle.std.specs.Prelude.{List, [], ◌∷◌, slice_get, Contains, Ok}
use Rattle.std.specs.List.{AllByRecursion}
use Rattle.sle_common.specs.declared.instance_id.InstancePart.{InstancePart}
use Rattle.isp1_auth.specs.Auth.{auth}
use Rattle.station_config.specs.Drafts.{same_id}
use Rattle.station_config.specs.declared.instance.Instance.{Instance}
use Rattle.station_config.specs.declared.level.Level.TheVariants as level
use Rattle.station_config.specs.declared.site.Site.{Site}
use Rattle.assoc_core.specs.declared.outcome.Outcome.{Outcome}
use Rattle.assoc_core.specs.declared.outcome.Outcome.TheVariants as outcome
use Rattle.assoc_core.specs.declared.state.Binding.{Binding}
use Rattle.assoc_core.specs.declared.state.State.{State}
use Rattle.assoc_core.specs.declared.state.State.TheVariants.{Opening, Closing}
use Rattle.assoc_core.specs.declared.step.Step.TheVariants.{Pass}
use Rattle.assoc_core.specs.Kind.{Kind, context, bind, Message}
use Rattle.assoc_core.specs.Table.{next}
use Rattle.assoc_core.specs.State.{phase_of, binding_of, moved}
use Rattle.assoc_core.specs.Access.{sender, has_credentials, secret_of}
use Rattle.assoc_core.specs.Association.{step, goes_on}
use Rattle.assoc_core.specs.Run.{Turn, after_turn, after, Played, plays, passed, is_of_bound}
use Rattle.assoc_core.specs.Run.{AreLed}
use Rattle.assoc_core.specs.Bind.{Ask, type_of, bind_answer}

-- the first is a context, and no other is
abbrev pub IsContextFirst : List Kind → Type 0
IsContextFirst [] = Unit {0}
IsContextFirst (first ∷ others) = (first ≡ context) × AllByRecursion (λ kind. kind ≢ context) others

-- In opening nothing but a context passes, and it passes once.
abbrev pub ContextFirst : Type 0
ContextFirst =
    (site : Site) (turns : List Turn) → AreLed turns
    → IsContextFirst (passed (plays site Opening turns))

-- a turn with a BIND that passed and was answered positively, with this binding
pub record IsBindOf (binding : Binding) (played : Played) : Type 0 where
  pub passes : played.step ≡ Pass
  pub kind : played.turn.message.kind ≡ bind
  pub outcome : played.turn.outcome ≡ outcome.Bound binding.peer binding.forward

-- one of a list does
abbrev pub AnyByRecursion : {X : Type 0} → (X → Type 0) → List X → Type 0
AnyByRecursion P [] = ⊥
AnyByRecursion P (x ∷ xs) = P x ⊎ AnyByRecursion P xs

-- a BIND was answered positively in these turns, and is bound still
pub record IsBoundBy (site : Site) (turns : List Turn) (binding : Binding) : Type 0 where
  pub bound : binding_of (after site Opening turns) ≡ Some binding
  pub by_bind : AnyByRecursion (IsBindOf binding) (plays site Opening turns)

-- A message of a service passes only behind a BIND that was answered positively.
abbrev pub ServiceAfterBind : Type 0
ServiceAfterBind =
    (site : Site) (turns : List Turn) (m : Message) → AreLed turns → IsTrue (is_of_bound m.kind)
    → step site (after site Opening turns) m ≡ Pass
    → (binding : Binding) × IsBoundBy site turns binding

-- In closing nothing passes.
abbrev pub NothingWhileClosing : Type 0
NothingWhileClosing =
    (site : Site) (turns : List Turn) → passed (plays site Closing turns) ≡ []

-- After a message that is denied or aborted, and after a PEER-ABORT, nothing passes.
abbrev pub NothingAfterTheEnd : Type 0
NothingAfterTheEnd =
    (site : Site) (state : State) (turn : Turn) (turns : List Turn)
    → IsFalse (goes_on turn.message.kind (step site state turn.message))
    → passed (plays site (after_turn site state turn) turns) ≡ []

-- A message with credentials that passes has a sender that the site knows, and where the sender's
-- level is all, the credentials are its own; where the level is bind, those of a BIND are.
pub record HasSender (site : Site) (state : State) (m : Message) : Type 0 where
  pub all :
      IsSomeAnd (sender site.peers state m.kind m.initiator)
      (λ peer. peer.level ≡ level.All → auth (secret_of peer) m.credentials m.now ≡ Ok tt)
  pub binds :
      IsSomeAnd (sender site.peers state m.kind m.initiator)
      (λ peer. peer.level ≡ level.Bind → m.kind ≡ bind
      → auth (secret_of peer) m.credentials m.now ≡ Ok tt)

abbrev pub CredentialsHold : Type 0
CredentialsHold =
    (site : Site) (state : State) (m : Message) → step site state m ≡ Pass
    → IsTrue (has_credentials m.kind) → HasSender site state m

-- The states that follow are the table's.
abbrev pub MovesByTheTable : Type 0
MovesByTheTable =
    (state : State) (outcome : Outcome) → phase_of (moved state outcome)
    ≡ next (phase_of state) outcome

-- Who is bound stays bound until closing.
abbrev pub BoundUntilClosing : Type 0
BoundUntilClosing =
    (state : State) (outcome : Outcome) (binding : Binding) → binding_of state ≡ Some binding
    → (binding_of (moved state outcome) ≡ Some binding) ⊎ (moved state outcome ≡ Closing)

-- an instance that this BIND may bind
pub record MayBind (site : Site) (ask : Ask) (instance : Instance) : Type 0 where
  pub owner : ask.peer ≡ Some instance.owner
  pub service : ask.service ≡ type_of instance.service
  pub version : Contains site.versions ask.version
  pub id : ask.id ≡ instance.id

-- A BIND that is answered with a place may bind the instance there.
abbrev pub BindsItsOwn : Type 0
BindsItsOwn =
    (site : Site) (ask : Ask) (place : ℕ) → bind_answer site ask ≡ Ok place
    → IsSomeAnd (slice_get site.instances place) (MayBind site ask)

-- Identifiers pass for the same exactly where they are equal.
abbrev pub SameIdentifier : Type 0
SameIdentifier =
    (a b : List InstancePart) → IsTrue (same_id a b) ↔ (a ≡ b)
