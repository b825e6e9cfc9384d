-- The table of a script's lines. This product's own.
use Rattle.std.specs.Prelude.{◌≡◌, ℕ, List, [], ◌∷◌, ◌++◌, codes, decimal}
use Rattle.std.specs.List.{flat_map}
use Rattle.picture_page.specs.Attributes.{Said}
use Rattle.picture_page.specs.Content.{start, finish}
use Rattle.picture_page.specs.Escape.{escaped}
use Rattle.picture_page.specs.declared.attribute.Name.TheVariants as name
use Rattle.picture_page.specs.declared.tag.Tag.{Tag}
use Rattle.picture_page.specs.declared.tag.Tag.TheVariants as tag
use Rattle.line_table.specs.declared.row.Ran.{Ran}
use Rattle.line_table.specs.declared.row.Ran.TheVariants as ran
use Rattle.line_table.specs.declared.row.Row.{Row}

abbrev pub class_of : Ran → List ℕ
class_of ran.Head = codes "head"
class_of ran.Done = codes "done"
class_of ran.Full = codes "full"
class_of ran.Bad = codes "refused"
class_of ran.NotRun = codes "unrun"

-- a line with what it led to
pub record Shown : Type 0 where
  pub number : ℕ
  pub line : List ℕ
  pub transcript : List ℕ
  pub words : List ℕ
  pub ran : Ran

abbrev pub shown : Row → Shown
shown row = record {
  number = row.number;
  line = row.line.items;
  transcript = row.said.items;
  words = row.words.items;
  ran = row.ran;
}

-- an element with a text
abbrev pub cell : Tag → List Said → List ℕ → List ℕ
cell t attributes octets = start t attributes ++ (escaped octets ++ finish t)

abbrev pub field : List ℕ → List ℕ → List ℕ
field class octets = cell tag.Td (record { name = name.Class; octets = class } ∷ []) octets

abbrev pub fields_text : Shown → List ℕ
fields_text row = field (codes "n") (decimal row.number) ++ field (codes "l") row.line
    ++ field (codes "s") row.transcript ++ field (codes "w") row.words

-- a row: the number of the line, the line, what it led to, and words
abbrev pub row_text : Shown → List ℕ
row_text row =
    start tag.Tr (record { name = name.Id; octets = decimal row.number }
    ∷ record { name = name.Class; octets = class_of row.ran } ∷ [])
    ++ (fields_text row ++ finish tag.Tr)

abbrev pub rows_text : List Shown → List ℕ
rows_text rows = flat_map row_text rows

abbrev pub four_names : List ℕ
four_names = cell tag.Th [] (codes "line") ++ cell tag.Th [] (codes "script")
    ++ cell tag.Th [] (codes "what it led to") ++ cell tag.Th [] (codes "in words")

-- the row of the columns' names
abbrev pub names_text : List ℕ
names_text = start tag.Tr [] ++ (four_names ++ finish tag.Tr)

abbrev pub table_text : List Shown → List ℕ
table_text rows =
    start tag.Table (record { name = name.Class; octets = codes "lines" } ∷ [])
    ++ ((names_text ++ rows_text rows) ++ finish tag.Table)

-- the table of these lines stands in it
abbrev pub HasTable : List ℕ → List Shown → Type 0
HasTable document rows =
    (front : List ℕ) × ((behind : List ℕ) × (document ≡ front ++ (table_text rows ++ behind)))
