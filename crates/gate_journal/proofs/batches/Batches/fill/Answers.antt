use Rattle.std.proofs.Common.{rules, ◌≡◌, ◌+◌, ℕ, sym, subst, drop}
use Rattle.disk_model.specs.Moments.{Reads}
use Rattle.gate_journal.specs.Batches.{BatchesState}
use Rattle.gate_journal.proofs.Parts.{reads_from}
use Rattle.gate_journal.proofs.batches.Batches.fill.Goals as goal

pub invariant_of-self-in-loop-self : goal.invariant_of-self-in-loop-self
invariant_of-self-in-loop-self g c = (search rules, search rules, tt)

pub loop-self-preserved : goal.loop-self-preserved
loop-self-preserved g c =
    let inside = c.self-in-loop-self.inside in
    let pending = g.D.Disk.pending in
    let room = c.read_on.new.room.items in
    let gate : inside.start + inside.at ≡ c.gate-self-inside.result = search rules in (
      search rules,
      search rules,
      search rules,
      λ first. subst (λ d. Reads (pending d) c.gate-self-inside.result room)
          c.loop-self.invariant.2
          (c.in_ok-read_on.ensures.octets
          (subst (λ (n : ℕ). Reads (pending c.loop-self.disk) n (drop inside.at inside.room.items))
          gate (reads_from (pending c.loop-self.disk) inside.room.items inside.start inside.at
          c.self-in-loop-self.invariant.0
          (subst (λ (s : BatchesState). Reads (pending c.loop-self.disk) s.start s.room)
          (sym c.self-in-loop-self.view_is)
          (subst (λ d. Reads (pending d) c.loop-self.self.start
          c.loop-self.self.room) (sym c.loop-self.invariant.2) (c.loop-self.invariant.3 first)))))),
      search rules,
      search rules,
    )
