-- A text without the line end that it may end with, and the lines of rows.
use Rattle.std.proofs.Common.{◌≡◌, ℕ, List, [], ◌∷◌, ◌++◌, ◌==◌, false, refl, ap, sym, ◌∙◌, append-nil}
use Rattle.line_table.specs.declared.row.Row.{Row}
use Rattle.pass_reading.specs.Lines.{without_end, lines_in}

pub ended_is : (front : List ℕ) → without_end (front ++ 10 ∷ []) ≡ front
ended_is [] = refl
ended_is (x ∷ []) = refl
ended_is (x ∷ y ∷ front) = ap (λ text. x ∷ text) (ended_is (y ∷ front))

pub other_is : (c : ℕ) (front : List ℕ) → (c == 10) ≡ false
    → without_end (front ++ c ∷ []) ≡ front ++ c ∷ []
other_is c [] e = rw e refl
other_is c (x ∷ []) e = rw e refl
other_is c (x ∷ y ∷ front) e = ap (λ text. x ∷ text) (other_is c (y ∷ front) e)

onto : (rows : List Row) (row : Row) (behind : List (List ℕ))
    → lines_in (rows ++ row ∷ []) ++ behind ≡ lines_in rows ++ row.line.items ∷ behind
onto [] row behind = refl
onto (r ∷ rows) row behind = ap (λ lines. r.line.items ∷ lines) (onto rows row behind)

-- a line that was read has its row
pub one_more : (rows : List Row) (row : Row) (line : List ℕ) (behind all : List (List ℕ))
    → row.line.items ≡ line → lines_in rows ++ line ∷ behind ≡ all
    → lines_in (rows ++ row ∷ []) ++ behind ≡ all
one_more rows row line behind all e f =
    onto rows row behind ∙ ap (λ line. lines_in rows ++ line ∷ behind) e ∙ f

pub all_there : (rows : List Row) (all : List (List ℕ)) → lines_in rows ++ [] ≡ all
    → lines_in rows ≡ all
all_there rows all e = sym (append-nil (lines_in rows)) ∙ e
