use Rattle.std.proofs.Common.{◌≡◌, ◌∙◌, ◌++◌, true, false, refl, sym, ap, rules}
use Rattle.station_desk.specs.Cursor.{Cursor}
use Rattle.script_store.specs.Said.{sent_text}
use Rattle.script_store.specs.Steps.{at_start, behind_as, step_on, at_end, stopped_by}
use Rattle.station_law.proofs.Handing.{text_to_come, next_text, no_text, refused_before}
use Rattle.station_law.proofs.desk.answer_start.Goals as goal

pub loop-buffers-init : goal.loop-buffers-init
loop-buffers-init g c =
    rw c.in_ok-buffers.ensures (record { of_start = refl; behind = at_start _ _ _ })

pub returns-in_err-advance : goal.returns-in_err-advance
returns-in_err-advance g c =
    refused_before _ _ _ _ _ _ c.from_residual-in_err-advance.result
    c.from_residual-in_err-advance.ensures.1 c.loop-buffers.invariant.behind

pub returns-in_err-message : goal.returns-in_err-message
returns-in_err-message g c =
    refused_before _ _ _ _ _ _ c.from_residual-in_err-message.result
    c.from_residual-in_err-message.ensures.1 c.loop-buffers.invariant.behind

pub returns-in_err-put_sent : goal.returns-in_err-put_sent
returns-in_err-put_sent g c =
    let has : c.advance.new.self.has_current ≡ true = search rules in
    stopped_by _ _ _ _ _ _ _ _ _ c.in_err-put_sent.field-0.0
    c.from_residual-in_err-put_sent.result
    c.from_residual-in_err-put_sent.ensures.1
    (behind_as _ _ _ _ _ _ _ (next_text c.loop-buffers.buffers c.advance.new.self
    c.in_ok-advance.ensures.ok.0 has
    ∙ ap (λ octets. sent_text 0 octets ++ text_to_come c.advance.new.self)
    (sym (c.octets.ensures ∙ c.in_ok-message.ensures))) c.loop-buffers.invariant.behind)
    c.in_err-put_sent.ensures

pub loop-buffers-preserved : goal.loop-buffers-preserved
loop-buffers-preserved g c =
    let has : c.advance.new.self.has_current ≡ true = search rules in
    let next = c.in_ok-advance.ensures.ok.0 in
    record {
      of_start = ap (λ (cursor : Cursor). cursor.buffers) next
          ∙ c.loop-buffers.invariant.of_start;
      behind = step_on _ _ _ _ _ _ _ _ _ _ (behind_as _ _ _ _ _ _ _
          (next_text c.loop-buffers.buffers c.advance.new.self next has
          ∙ ap (λ octets. sent_text 0 octets ++ text_to_come c.advance.new.self)
          (sym (c.octets.ensures ∙ c.in_ok-message.ensures)))
          c.loop-buffers.invariant.behind) c.in_ok-put_sent.ensures;
    }

pub returns : goal.returns
returns g c =
    let has : c.advance.new.self.has_current ≡ false = search rules in
    at_end _ _ _ _ _ _ (behind_as _ _ _ _ _ _ _
    (no_text c.loop-buffers.buffers c.advance.new.self c.in_ok-advance.ensures.ok.0 has)
    c.loop-buffers.invariant.behind)
