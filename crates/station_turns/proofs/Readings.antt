-- Readings of one run and of the next.
use Rattle.std.proofs.Common.{◌≡◌, ℕ, List, [], ◌++◌, map, Option, refl, ap, ◌∙◌, append_assoc}
use Rattle.std.proofs.Common.{append-nil, arith}
use Rattle.std.proofs.lemmas.List.{map-append}
use Rattle.cds_time.specs.declared.cds.Cds.{Cds}
use Rattle.octet_core.specs.Told.{Tells}
use Rattle.station_turns.specs.Reads.{Reads, moment_shown}

pub tells_none : {A : Type 0} (told : Option (List A)) → Tells told told []
tells_none told = grind (arith, append-nil)

pub tells_both : {A : Type 0} (a b c : Option (List A)) (xs ys : List A) → Tells a b xs
    → Tells b c ys → Tells a c (xs ++ ys)
tells_both a b c xs ys h k = grind (arith, append_assoc)

pub reads_none : (told : Option (List Cds)) → Reads told told []
reads_none told = record { shown = []; told = tells_none told; moments_are = refl }

pub reads_both : (before mid after : Option (List Cds)) (xs ys : List ℕ) → Reads before mid xs
    → Reads mid after ys → Reads before after (xs ++ ys)
reads_both before mid after xs ys first second = record {
  shown = first.shown ++ second.shown;
  told = tells_both before mid after first.shown second.shown first.told second.told;
  moments_are = map-append moment_shown first.shown second.shown
      ∙ (ap (λ x. x ++ map moment_shown second.shown) first.moments_are
      ∙ ap (λ y. xs ++ y) second.moments_are);
}
