-- A word that is no option goes to the positional whose turn it is.
use Rattle.std.proofs.Common.{◌≡◌, ℕ, ◌==◌, ◌&&◌, Bool, true, false, not, List, [], ◌∷◌, None}
use Rattle.std.proofs.Common.{refl, ap, ap₂, sym, subst, ◌∙◌, fold, length}
use Rattle.std.proofs.lemmas.Bool.{and_parts}
use Rattle.std.specs.List.{list_all}
use Rattle.std.specs.Str.{bytes_eq}
use Rattle.clap.specs.Lexer.{long_of, short_of}
use Rattle.clap.specs.Simple.{Shape}
use Rattle.clap.specs.Takes.{walk_passes, turn_passes, step_passes}
use Rattle.clap.specs.Walk.{Rule, Walk, Held, Step, walked, to_positional, after_step, arg_by_index}
use Rattle.clap.specs.Walk.{word_met, value, idle}
use Rattle.user_line.specs.Line.{Text, is_plain}

-- a walk that goes on to the positional of this number
abbrev pub standing : Held → ℕ → Walk
standing held position = record {
  held = held;
  waiting = idle;
  position = position;
  is_trailing = false;
  stopped = None;
}

-- and puts the word there
abbrev pub put : List Rule → Walk → Text → Walk
put rules w word = to_positional rules (arg_by_index rules w.position) word w w.held

pub not_true : (b : Bool) → not b ≡ true → b ≡ false
not_true true e = absurd cc
not_true false e = refl

met : (rules : List Rule) (position x : ℕ) (xs : Text) (held : Held) → (x == 45) ≡ false
    → word_met rules [] false idle position (x ∷ xs) held ≡ (held, value)
met rules position x xs held e = rw (e, e) refl

step : (rules : List Rule) (held : Held) (position : ℕ) (word : Text) → is_plain word ≡ true
    → walked rules [] (standing held position) word ≡ put rules (standing held position) word
unfolding walked
step rules held position [] plain = absurd cc
step rules held position (x ∷ xs) plain =
    ap (λ m. after_step rules (x ∷ xs) (standing held position) m.0 m.1)
    (met rules position x xs held (not_true (x == 45) plain))

turn : (s : Shape) (held : Held) (position : ℕ) (word : Text) → is_plain word ≡ true
    → step_passes s position held value ≡ true
    → turn_passes s [] (standing held position) word ≡ true
turn s held position [] plain passes = absurd cc
turn s held position (x ∷ xs) plain passes =
    let e = not_true (x == 45) plain in rw (met s.rules position x xs held e, e, e) passes

-- each word finds a positional, which takes it
abbrev pub Goes : Shape → Walk → List Text → Type 0
Goes s w [] = Unit {0}
Goes s w (word ∷ words) =
    (w ≡ standing w.held w.position) × ((step_passes s w.position w.held value ≡ true)
    × Goes s (put s.rules w word) words)

pub walks : (s : Shape) (w : Walk) (words : List Text) → list_all is_plain words ≡ true
    → Goes s w words → fold (walked s.rules []) w words ≡ fold (put s.rules) w words
walks s w [] plain goes = refl
walks s w (word ∷ words) plain goes =
    let parts = and_parts (is_plain word) (list_all is_plain words) plain in
    ap (λ v. fold (walked s.rules []) v words)
    (subst (λ v. walked s.rules [] v word ≡ put s.rules v word) (sym goes.0)
    (step s.rules w.held w.position word parts.0))
    ∙ walks s (put s.rules w word) words parts.1 goes.1.1

pub passes : (s : Shape) (w : Walk) (words : List Text) → list_all is_plain words ≡ true
    → Goes s w words → walk_passes s [] w words ≡ true
unfolding walk_passes
passes s w [] plain goes = refl
passes s w (word ∷ words) plain goes =
    let parts = and_parts (is_plain word) (list_all is_plain words) plain in
    let first : turn_passes s [] w word ≡ true =
    subst (λ v. turn_passes s [] v word ≡ true) (sym goes.0)
    (turn s w.held w.position word parts.0 goes.1.0) in
    let next : walked s.rules [] w word ≡ put s.rules w word =
    subst (λ v. walked s.rules [] v word ≡ put s.rules v word) (sym goes.0)
    (step s.rules w.held w.position word parts.0) in
    ap₂ (λ a b. a && b) first
    (subst (λ v. walk_passes s [] v words ≡ true) (sym next)
    (passes s (put s.rules w word) words parts.1 goes.1.1))
