-- What a task's invocations say fits where the task does, and they stand in their order.
use Rattle.std.proofs.Common.{◌≡◌, ℕ, zero, suc, ◌-◌, ◌==◌, Bool, true, false, ◌&&◌, ◌||◌, List, []}
use Rattle.std.proofs.Common.{◌∷◌, ◌++◌, map, length, Option, Some, None, refl, sym, ap, ◌∙◌, arith}
use Rattle.std.specs.Prelude.{slice_get, if◌then◌else◌}
use Rattle.std.proofs.lemmas.Bool.{and_parts}
use Rattle.std.specs.List.{list_all}
use Rattle.user_task.specs.declared.cltus.CltuLine.{CltuLine}
use Rattle.user_task.specs.declared.task.Task.{Task}
use Rattle.user_task.specs.Fitting.{fits_line, fits_start, fits_task, is_name}
use Rattle.user_task.specs.Invocation.{bind, start, schedule, transfer, stop, unbind}
use Rattle.user_task.specs.Invocation.{closing_at, forward_at, forward_by, started_at, reports}
use Rattle.user_task.specs.Invocation.{invocation_at, invocations}
use Rattle.user_task.specs.Laws.{InvocationsInOrder}
use Rattle.user_task.specs.declared.work.Work.{Work}
use Rattle.user_task.specs.Work.{cltus_of, is_show, report_of}

-- what a task's invocations say
pub record Fit (t : Task) : Type 0 where
  pub name : is_name t.name ≡ true
  pub start : fits_start t.work ≡ true
  pub lines : list_all fits_line (cltus_of t.work) ≡ true

fit_by : (t : Task) (show : Bool) → show ≡ false
    → (show
    || (is_name t.name && fits_start t.work && list_all fits_line (cltus_of t.work))) ≡ true
    → Fit t
fit_by t false is fits =
    let both = and_parts (is_name t.name && fits_start t.work)
    (list_all fits_line (cltus_of t.work)) fits in
    let first = and_parts (is_name t.name) (fits_start t.work) both.0 in
    record { name = first.0; start = first.1; lines = both.1 }
fit_by t true is fits = absurd cc

pub first_fits : (t : Task) → fits_task t ≡ true → is_show t.work ≡ false → Fit t
first_fits t fits invokes = fit_by t (is_show t.work) invokes fits

one_fits : (lines : List CltuLine) (i : ℕ) (line : CltuLine) → list_all fits_line lines ≡ true
    → slice_get lines i ≡ Some line → fits_line line ≡ true
one_fits [] i line all is = absurd cc
one_fits (x ∷ lines) zero line all is =
    let same : x ≡ line = cc in
    ap fits_line (sym same) ∙ (and_parts (fits_line x) (list_all fits_line lines) all).0
one_fits (x ∷ lines) (suc i) line all is =
    one_fits lines i line (and_parts (fits_line x) (list_all fits_line lines) all).1 is

pub line_fits : (t : Task) (i : ℕ) (line : CltuLine) → slice_get (cltus_of t.work) i ≡ Some line
    → fits_task t ≡ true → is_show t.work ≡ false → fits_line line ≡ true
line_fits t i line is fits invokes =
    one_fits (cltus_of t.work) i line (first_fits t fits invokes).lines is

-- ---- their order

ending_by : (place : ℕ) → closing_at place ≡ slice_get (stop ∷ unbind ∷ []) place
ending_by zero = refl
ending_by (suc zero) = refl
ending_by (suc (suc place)) =
    let first : (suc (suc place) == 0) ≡ false = grind arith in
    let second : (suc (suc place) == 1) ≡ false = grind arith in
    rw (first, second) refl

forward_in_order : (lines : List CltuLine) (place : ℕ)
    → forward_at lines place ≡ slice_get (map transfer lines ++ stop ∷ unbind ∷ []) place
forward_in_order [] place =
    let same : place - 0 ≡ place = omega arith in
    ap closing_at same ∙ ending_by place
forward_in_order (x ∷ lines) zero = refl
forward_in_order (x ∷ lines) (suc place) =
    let less : suc place - suc (length lines) ≡ place - length lines = omega arith in
    ap (λ n. forward_by n (slice_get lines place)) less ∙ forward_in_order lines place

started_in_order : (report : Option ℕ) (lines : List CltuLine) (place : ℕ)
    → started_at report lines place
    ≡ slice_get (reports report ++ (map transfer lines ++ stop ∷ unbind ∷ [])) place
started_in_order None lines place = forward_in_order lines place
started_in_order (Some cycle) lines zero = refl
started_in_order (Some cycle) lines (suc place) = by (suc place == 0) (grind arith)
  where
    by : (first : Bool) → first ≡ false
        → (if first then Some (schedule cycle) else forward_at lines (suc place - 1))
        ≡ slice_get (map transfer lines ++ stop ∷ unbind ∷ []) place
    by first is =
        let less : suc place - 1 ≡ place = omega arith in
        rw is (ap (forward_at lines) less ∙ forward_in_order lines place)

first_in_order : (report : Option ℕ) (lines : List CltuLine) (place : ℕ)
    → (if place == 0 then Some bind else if place == 1 then Some start
    else started_at report lines (place - 2))
    ≡ slice_get (bind ∷ start ∷ (reports report ++ (map transfer lines ++ stop ∷ unbind ∷ []))) place
first_in_order report lines zero = refl
first_in_order report lines (suc zero) = refl
first_in_order report lines (suc (suc place)) =
    by_tests (suc (suc place) == 0) (suc (suc place) == 1) (grind arith) (grind arith)
  where
    by_tests : (a b : Bool) → a ≡ false → b ≡ false
        → (if a then Some bind else if b then Some start
        else started_at report lines (suc (suc place) - 2))
        ≡ slice_get (reports report ++ (map transfer lines ++ stop ∷ unbind ∷ [])) place
    by_tests a b e f =
        let less : suc (suc place) - 2 ≡ place = omega arith in
        rw (e, f) (ap (started_at report lines) less ∙ started_in_order report lines place)

pub in_order : InvocationsInOrder
in_order work place = by (is_show work) refl
  where
    by : (show : Bool) → is_show work ≡ show
        → invocation_at work place ≡ slice_get (invocations work) place
    by true is = rw is refl
    by false is = rw is (first_in_order (report_of work) (cltus_of work) place)
