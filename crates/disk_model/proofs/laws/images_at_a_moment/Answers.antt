use Rattle.disk_model.proofs.laws.images_at_a_moment.Goals as goal

pub returns-clause-only_now : goal.returns-clause-only_now
returns-clause-only_now g c =
    let laws = g.met.D.Disk g.world.𝓛 g.world.𝓜 g.world.𝓡 (
      (λ s x. x),
      (λ x. x),
      (λ x. x),
      λ x. x,
    ) in laws.only_now

pub returns-clause-counts_now : goal.returns-clause-counts_now
returns-clause-counts_now g c =
    let laws = g.met.D.Disk g.world.𝓛 g.world.𝓜 g.world.𝓡 (
      (λ s x. x),
      (λ x. x),
      (λ x. x),
      λ x. x,
    ) in laws.counts_now

pub returns-clause-read : goal.returns-clause-read
returns-clause-read g c =
    let laws = g.met.D.Disk g.world.𝓛 g.world.𝓜 g.world.𝓡 (
      (λ s x. x),
      (λ x. x),
      (λ x. x),
      λ x. x,
    ) in laws.read_is_image

pub returns-clause-size : goal.returns-clause-size
returns-clause-size g c =
    let laws = g.met.D.Disk g.world.𝓛 g.world.𝓜 g.world.𝓡 (
      (λ s x. x),
      (λ x. x),
      (λ x. x),
      λ x. x,
    ) in laws.size_is_read
