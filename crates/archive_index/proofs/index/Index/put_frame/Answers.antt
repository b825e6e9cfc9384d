use Rattle.std.proofs.Common.{◌∙◌, ap}
use Rattle.archive_index.specs.declared.index.Index.{Index}
use Rattle.archive_index.proofs.index.Index.put_frame.Goals as goal

pub returns-in-Ok-clause-ok : goal.returns-in-Ok-clause-ok
returns-in-Ok-clause-ok c =
    let adds = rw c.in-Ok.is at c.put_number.ensures.ok in
    record {
      frames = ap (λ (i : Index). i.frames) c.put_number.ensures.rest ∙ c.in_ok-put_row.ensures.ok;
      numbers = rw (← c.length-number.ensures) (record {
        good = adds.good;
        erred = adds.erred;
        channels = adds.channels;
      });
      seals = ap (λ (i : Index). i.seals) c.put_number.ensures.rest;
      notices = ap (λ (i : Index). i.notices) c.put_number.ensures.rest;
    }
