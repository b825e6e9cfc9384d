-- A page that ends behind its table has the table.
use Rattle.std.proofs.Common.{◌≡◌, ℕ, List, ◌++◌, Option, Some, None, sym, ◌∙◌, ap, append_assoc}
use Rattle.std.specs.List.{flat_map}
use Rattle.picture_page.specs.Content.{finish, doctype}
use Rattle.picture_page.specs.Sheet.{Sheet, Gains, Becomes, not_there}
use Rattle.line_table.specs.Table.{Shown, table_text, HasTable}

abbrev there_with : List ℕ → Sheet → List ℕ
there_with ends s = doctype ++ (s.octets ++ ends)

pub has_table : (before after : Option Sheet) (rows : List Shown) (document : List ℕ)
    → Gains before after (table_text rows) → Becomes after document → HasTable document rows
has_table None None rows document e f = absurd f
has_table None (Some a) rows document e f = absurd (not_there a e)
has_table (Some b) None rows document e f = absurd f
has_table (Some b) (Some a) rows document e f =
    let ends : List ℕ = flat_map finish a.open_tags in (
      doctype ++ b.octets,
      (
        ends,
        f ∙ ap (there_with ends) e
            ∙ ap (λ there. doctype ++ there) (append_assoc b.octets (table_text rows) ends)
            ∙ sym (append_assoc doctype b.octets (table_text rows ++ ends)),
      ),
    )
