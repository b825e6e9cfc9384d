-- Clap takes the words of a line and gives them back in order.
use Rattle.std.proofs.Common.{◌≡◌, ℕ, ◌==◌, ◌&&◌, true, false, List, [], ◌∷◌, Some, length, refl}
use Rattle.std.proofs.Common.{ap, ap₂, sym, subst, ◌∙◌, is_some, map, fold, take}
use Rattle.std.specs.List.{list_all}
use Rattle.clap.specs.Simple.{Shape, built, built_leaf, inherited, names_of, entered, is_simple}
use Rattle.clap.specs.Simple.{rows_at}
use Rattle.clap.specs.Takes.{takes, entered_passes, level_passes, settle_passes, default_passes}
use Rattle.clap.specs.Takes.{is_valid}
use Rattle.clap.specs.Walk.{Walk, walk_from, nothing_held, stop_after, finished}
use Rattle.clap.specs.Words.{subcommand_of}
use Rattle.user_line.specs.declared.form.Form.{Form}
use Rattle.user_line.specs.declared.form.Form.TheVariants.{Show, Raf, Rcf, Cltu}
use Rattle.user_line.specs.Line.{Text, name_of, ids_of, is_plain}
use Rattle.user_line.specs.Clap.{bare, command_of, program, values_in, value_in, values_at}
use Rattle.user_line.specs.Laws.{Reads}
use Rattle.user_line.proofs.Walked.{Goes, put, walks, passes}

-- a command as clap builds it
abbrev pub leaf_of : Form → Shape
leaf_of form = built_leaf (inherited bare.top (command_of form).top)

abbrev pub start : Walk
start = walk_from nothing_held

-- where a walk over words ends that each find a positional
abbrev pub end_of : Form → List Text → Walk
end_of form words = fold (put (leaf_of form).rules) start words

-- clap enters the command, where each word finds its positional, and none is wanting
pub record Enters (form : Form) (words : List Text) : Type 0 where
  pub stop : stop_after (built program).top.rules (names_of (built program)) (name_of form ∷ words)
      ≡ Some (name_of form, words)
  pub top : level_passes (built program).top (names_of (built program)) nothing_held
      (name_of form ∷ words) true ≡ true

pub record Fills (form : Form) (words : List Text) : Type 0 where
  pub goes : Goes (leaf_of form) start words
  pub passes : (settle_passes (leaf_of form).rules (leaf_of form).args_override_self
      (end_of form words).held && (list_all default_passes (leaf_of form).rules
      && is_valid (leaf_of form) (finished (leaf_of form).rules (end_of form words).held) false))
      ≡ true
  pub values : map (value_in (finished (leaf_of form).rules (end_of form words).held))
      (take (length words) (ids_of form)) ≡ words

simple : is_simple program ≡ true
simple = refl

found : (form : Form) (words : List Text)
    → entered_passes (built program) (Some (name_of form, words))
    ≡ level_passes (leaf_of form) [] nothing_held words false
found Show words = refl
found Raf words = refl
found Rcf words = refl
found Cltu words = refl

enters : (form : Form) (words : List Text)
    → entered (built program) (Some (name_of form, words)) ≡ Some (rows_at (leaf_of form) words)
enters Show words = refl
enters Raf words = refl
enters Rcf words = refl
enters Cltu words = refl

leaf_passes : (form : Form) (words : List Text) → list_all is_plain words ≡ true
    → Fills form words → level_passes (leaf_of form) [] nothing_held words false ≡ true
leaf_passes form words plain fills = ap₂ (λ a b. a && b)
    (passes (leaf_of form) start words plain fills.goes)
    (subst (λ (w : Walk). (settle_passes (leaf_of form).rules (leaf_of form).args_override_self
    w.held && (list_all default_passes (leaf_of form).rules
    && is_valid (leaf_of form) (finished (leaf_of form).rules w.held) false)) ≡ true)
    (sym (walks (leaf_of form) start words plain fills.goes)) fills.passes)

pub reads_by : (form : Form) (words : List Text) → list_all is_plain words ≡ true
    → Enters form words → Fills form words → Reads form words
reads_by form words plain is fills = record {
  takes = ap₂ (λ a b. a && b) simple
      (subst (λ stop. (entered_passes (built program) stop
      && level_passes (built program).top (names_of (built program)) nothing_held
      (name_of form ∷ words) (is_some (entered (built program) stop))) ≡ true) (sym is.stop)
      (ap₂ (λ a b. a && b) (found form words ∙ leaf_passes form words plain fills)
      (ap (λ e. level_passes (built program).top (names_of (built program)) nothing_held
      (name_of form ∷ words) (is_some e)) (enters form words) ∙ is.top)));
  values = ap (λ stop. values_in (take (length words) (ids_of form)) (entered (built program) stop))
      is.stop
      ∙ (ap (values_in (take (length words) (ids_of form))) (enters form words)
      ∙ (ap (λ (w : Walk). map (value_in (finished (leaf_of form).rules w.held))
      (take (length words) (ids_of form)))
      (walks (leaf_of form) start words plain fills.goes) ∙ fills.values));
}
