-- CLTUs that are read one by one.
use Rattle.std.proofs.Common.{◌≡◌, ◌&&◌, ap₂, ℕ, true, List, [], ◌∷◌, ◌++◌, Result, Ok, Err}
use Rattle.std.proofs.Common.{refl, ap, sym, append_assoc}
use Rattle.std.proofs.lemmas.Bool.{and_parts}
use Rattle.std.specs.List.{list_all}
use Rattle.user_task.specs.declared.cltus.CltuLine.{CltuLine}
use Rattle.user_task.specs.Fitting.{fits_line}
use Rattle.cltu_lines.specs.CltuText.{and_others, before}

pub took_one : (cltus : List CltuLine) (cltu : CltuLine) (more : Result (List CltuLine) ℕ)
    → before cltus (and_others cltu more) ≡ before (cltus ++ cltu ∷ []) more
took_one cltus cltu (Err number) = refl
took_one cltus cltu (Ok more) = ap Ok (sym (append_assoc cltus (cltu ∷ []) more))

pub all_fit : (cltus : List CltuLine) (cltu : CltuLine) → list_all fits_line cltus ≡ true
    → fits_line cltu ≡ true → list_all fits_line (cltus ++ cltu ∷ []) ≡ true
all_fit [] cltu all fits = ap (λ b. b && true) fits
all_fit (c ∷ cltus) cltu all fits =
    let parts = and_parts (fits_line c) (list_all fits_line cltus) all in
    ap₂ (λ a b. a && b) parts.0 (all_fit cltus cltu parts.1 fits)
