-- The step of a session that hasn't ended is the definition's.
use Rattle.std.proofs.Common.{ap, sym, subst, ◌∙◌, ◌≡◌, ℕ, ◌<◌, Bool, true, false, not, ◌&&◌, Some}
use Rattle.cds_time.specs.declared.cds.TheConstants.{MOMENT_END}
use Rattle.isp1_tml.specs.Feeding.{Feeding, next_of as next_held}
use Rattle.isp1_tml.specs.Message.{Content, spelling}
use Rattle.station_config.specs.declared.site.Site.{Site}
use Rattle.station_book.specs.State as book
use Rattle.station_book.specs.History.{after, moment_at}
use Rattle.session_core.specs.declared.standing.Standing.{Standing}
use Rattle.session_services.specs.Inquiry.{call_of, answer_of, Replied, reply_in}
use Rattle.session_services.specs.Room.{HasOne}
use Rattle.session_core.specs.ServiceSteps.{with_service, is_active, may_tell}
use Rattle.session_core.specs.Steps.{at_moment, inquiry_entered, acted, timed, unasked, is_idle}
use Rattle.session_core.specs.Steps.{has_block}
use Rattle.session_core.specs.SessionState.{SessionState, asked, told_now, feeder_after, kept_after}
use Rattle.session_core.proofs.Alone.{room_told}
use Rattle.session_core.proofs.Rounds.{keeping}
use Rattle.session_core.proofs.Fates.{acted_moment, timed_moment}
use Rattle.session_core.proofs.Staying.{stays_unasked}

module _ (site : Site) (v : SessionState) (door : ℕ) (f : Feeding) (s e : Standing) (b : book.State)
    (reading n : ℕ) (kept : keeping door f s ≡ v) (n_so : n ≡ moment_at b reading)
    (e_so : e ≡ at_moment s n) where
  e_at : e ≡ at_moment s (moment_at b reading)
  e_at = e_so ∙ ap (at_moment s) n_so

  pub asked_at : (now : book.State)
      → now ≡ after b (call_of door reading (inquiry_entered site e (next_held f)))
      → now ≡ after b (call_of v.door reading (asked site v b reading))
  asked_at now is = rw (← kept) (rw e_at at is)

  pub advanced_by : (g : Feeding) (t u w x : Standing) (was : Bool) (told : Replied)
      → g ≡ feeder_after e f → was ≡ is_active e.association
      → t ≡ acted site e (next_held f)
      (reply_in (answer_of b door e.moment (inquiry_entered site e (next_held f))))
      → told ≡ reply_in (answer_of b door e.moment (inquiry_entered site e (next_held f)))
      → u ≡ timed t → w ≡ unasked site told u → x ≡ with_service site was told.glimpse w
      → keeping door g x ≡ kept_after site v (Some (told_now site v b reading))
  advanced_by g t u w x was told g_so was_so t_so told_so u_so w_so x_so =
      let next = next_held f in
      let m = moment_at b reading in
      let entered = at_moment s m in
      let r : Replied =
      reply_in (answer_of b door m (inquiry_entered site entered next)) in
      let acted_so : t ≡ acted site entered next r =
      t_so
      ∙ ap
      (λ (y : Standing).
      acted site y next (reply_in (answer_of b door y.moment (inquiry_entered site y next))))
      e_at in
      let told_at : told ≡ r =
      told_so
      ∙ ap
      (λ (y : Standing). reply_in (answer_of b door y.moment (inquiry_entered site y next)))
      e_at in
      let was_at : was ≡ is_active s.association =
      was_so ∙ ap (λ (y : Standing). is_active y.association) e_at in
      let led : w ≡ unasked site r (timed (acted site entered next r)) =
      w_so
      ∙ ap (λ (y : Replied). unasked site y u) told_at
      ∙ ap (unasked site r) (u_so ∙ ap timed acted_so) in
      rw (← kept)
      (ap (λ (y : Feeding). keeping door y x)
      (g_so ∙ ap (λ (y : Standing). feeder_after y f) e_so)
      ∙ ap (keeping door (feeder_after s f))
      (x_so
      ∙ ap (λ (y : Bool). with_service site y told.glimpse w) was_at
      ∙ ap (λ (y : Replied). with_service site (is_active s.association) y.glimpse w) told_at
      ∙ ap (with_service site (is_active s.association) r.glimpse) led))

  -- what is told unasked and the service's step are at the round's moment
  pub moment_at_put : (t u : Standing)
      → t ≡ acted site e (next_held f)
      (reply_in (answer_of b door e.moment (inquiry_entered site e (next_held f))))
      → u ≡ timed t → n < MOMENT_END → u.moment < MOMENT_END
  moment_at_put t u t_so u_so below =
      let r : Replied =
      reply_in (answer_of b door e.moment (inquiry_entered site e (next_held f))) in
      let same : u.moment ≡ n =
      ap (λ (y : Standing). y.moment) u_so
      ∙ timed_moment t
      ∙ ap (λ (y : Standing). y.moment) t_so
      ∙ acted_moment site e (next_held f) r
      ∙ ap (λ (y : Standing). y.moment) e_so in
      subst (λ (m : ℕ). m < MOMENT_END) (sym same) below

  pub moment_at_serve : (t u w : Standing) (told : Replied)
      → t ≡ acted site e (next_held f)
      (reply_in (answer_of b door e.moment (inquiry_entered site e (next_held f))))
      → u ≡ timed t → w ≡ unasked site told u → n < MOMENT_END → w.moment < MOMENT_END
  moment_at_serve t u w told t_so u_so w_so below =
      let same : w.moment ≡ u.moment =
      ap (λ (y : Standing). y.moment) w_so ∙ (stays_unasked site told u).moment in
      subst (λ (m : ℕ). m < MOMENT_END) (sym same) (moment_at_put t u t_so u_so below)

  -- what is told unasked has room
  pub room_at_put : (t u : Standing) (out : Bool) → out ≡ (not (is_idle s) && has_block s)
      → out ≡ false
      → t ≡ acted site e (next_held f)
      (reply_in (answer_of b door e.moment (inquiry_entered site e (next_held f))))
      → u ≡ timed t → ((message : Content) → u.block ≡ spelling message → HasOne u.block)
      → may_tell u ≡ true → HasOne u.block
  room_at_put t u out out_so in_turn t_so u_so small told =
      room_told site e t u (next_held f)
      (reply_in (answer_of b door e.moment (inquiry_entered site e (next_held f))))
      (ap (λ (y : Standing). not (is_idle y) && has_block y) e_so ∙ sym out_so ∙ in_turn) t_so
      u_so small told
