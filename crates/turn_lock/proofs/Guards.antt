-- The machine values of a guard, and that it may go to any thread and be shared by any.
use Rattle.std.proofs.Common.{◌≡◌, ℕ, T, List, [], ◌∷◌, ◌++◌, ap, ◌∙◌}
use seplogic.Ra.Ura.{Ura}
use mir.Val.{Val, vstruct, vcons, vnil, of_list}
use base.Logic.{via}
use types.Logic.{Logic}
use contract.Lifetimes.{Lfts}
use denote.RattleType.{RattleType}
use denote.Exit.{Kept, Last, left}
use denote.Signature.{Slot}
use denote.Laws.{Is}
use denote.Param.Mute.{blank, had}
use denote.Param.Send.{IsSend}
use denote.Triple.Walked.{Goes, stay_dropped}
use Rattle.atomic_table.proofs.Fields.{token_val, pin_told}
use Rattle.atomic_table.proofs.Sent.{badge_keyless}
use Rattle.turn_lock.specs.contracts.guard.Guard as guard

abbrev pub guard_val : Val
guard_val = vstruct (vcons token_val vnil)

-- a guard that is used up leaves nothing
pub Goes-blank : {M : Type 1} {𝓤 : Ura M} (𝓛 : Logic 𝓤) (n : ℕ) (s : Slot n) (k : Kept)
    → ((κs : Lfts n) (x : (s.row κs).Denot) (f : Last ((s.row κs).exit k) x)
    → T (blank (left ((s.row κs).exit k) x f))) → Goes 𝓛 n s k (stay_dropped s k)
Goes-blank {𝓤 = 𝓤} 𝓛 n s k is κs x f vs ok = via 𝓤 _
    (had 𝓛 (left ((s.row κs).exit k) x f) (is κs x f)) (𝓛.laws.⇛_intro _)

module _ (W : RattleType) where
  pub guard_told : (d : (guard.the_row W).Denot) (vs : List Val) → Is (guard.the_row W) d vs
      → vs ≡ guard_val ∷ []
  guard_told d vs so = let is = so.0 in let inner = pin_told W is.0.0 is.1.1.0.0 in is.1.0
      ∙ ap (λ (ws : List Val). vstruct (of_list (ws ++ [])) ∷ []) inner

  pub guard_send : IsSend (guard.the_row W)
  guard_send = record {
    owned = λ d vs. (
      (λ vss. (
        tt,
        (
          (
            (λ uss. (tt, ((λ wss. (tt, tt)), tt))),
            badge_keyless W.coded.code d.badge.table_id d.badge.id d.badge.views,
          ),
          tt,
        ),
      )),
      tt,
    );
    leaving = λ k x vs. (tt, tt);
  }
