-- What was told before, and then more.
use Rattle.std.proofs.Common.{ℕ, List, [], ◌++◌, Option, Some, None, ap, sym, ◌∙◌, append_assoc}
use Rattle.std.proofs.Common.{append-nil}
use Rattle.octet_core.specs.Told.{Tells}
use Rattle.sample_lock.specs.DeskReport.{DeskReport, Adds}
use Rattle.sample_lock.specs.declared.order.Order.{Order}
use Rattle.sample_lock.specs.declared.order.Reply.{Reply}

pub tells_nothing : {A : Type 0} (told : Option (List A)) → Tells told told []
tells_nothing None = tt
tells_nothing (Some xs) = sym (append-nil xs)

pub tells_on : {A : Type 0} (before between after : Option (List A)) (xs ys : List A)
    → Tells before between xs → Tells between after ys → Tells before after (xs ++ ys)
tells_on before between None xs ys a b = tt
tells_on before None (Some t) xs ys a b = absurd b
tells_on None (Some u) (Some t) xs ys a b = absurd a
tells_on (Some w) (Some u) (Some t) xs ys a b = b ∙ (ap (λ x. x ++ ys) a ∙ append_assoc w xs ys)

pub adds_nothing : (told : DeskReport) → Adds told told [] [] []
adds_nothing told = record {
  gave = tells_nothing told.answers;
  read = tells_nothing told.readings;
  took = tells_nothing told.replies;
}

pub adds_on : (before between after : DeskReport) (xs ys : List (Option Order)) (rs ts : List ℕ)
    (ps qs : List Reply) → Adds before between xs rs ps → Adds between after ys ts qs
    → Adds before after (xs ++ ys) (rs ++ ts) (ps ++ qs)
adds_on before between after xs ys rs ts ps qs a b = record {
  gave = tells_on before.answers between.answers after.answers xs ys a.gave b.gave;
  read = tells_on before.readings between.readings after.readings rs ts a.read b.read;
  took = tells_on before.replies between.replies after.replies ps qs a.took b.took;
}
