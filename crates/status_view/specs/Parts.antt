-- The parts of the page for people, as elements. This product's own.
use Rattle.std.specs.Prelude.{ℕ, ◌==◌, List, [], ◌∷◌, ◌++◌, codes, decimal, if◌then◌else◌}
use Rattle.picture_page.specs.Attributes.{Said}
use Rattle.picture_page.specs.Content.{start, finish}
use Rattle.picture_page.specs.Escape.{escaped}
use Rattle.picture_page.specs.declared.attribute.Name.TheVariants as name
use Rattle.picture_page.specs.declared.tag.Tag.{Tag}
use Rattle.picture_page.specs.declared.tag.Tag.TheVariants as tag
use Rattle.status_view.specs.Texts.{age_text, octets_text}

-- an attribute that is a class
abbrev pub class : List ℕ → List Said
class octets = record { name = name.Class; octets = octets } ∷ []

-- an element with a text, and one with parts
abbrev pub cell : Tag → List ℕ → List ℕ → List ℕ
cell t of text = start t (class of) ++ (escaped text ++ finish t)

abbrev pub box : Tag → List ℕ → List ℕ → List ℕ
box t of inside = start t (class of) ++ (inside ++ finish t)

-- ---- a card has a title, what is read first with its unit, and facts

abbrev pub card_head : List ℕ → List ℕ → List ℕ → List ℕ
card_head title first unit = cell tag.H2 (codes "title") title ++ cell tag.Div (codes "big") first
    ++ cell tag.Div (codes "unit") unit

abbrev pub fact_parts : List ℕ → List ℕ → List ℕ → List ℕ
fact_parts what of value = cell tag.Span (codes "name") what ++ cell tag.Span of value

unfoldable pub fact : List ℕ → List ℕ → List ℕ → List ℕ
fact what of value = box tag.Div (codes "fact") (fact_parts what of value)

-- facts that are a count, a count of what should never happen, an age, and a size
unfoldable pub count : List ℕ → ℕ → List ℕ
count what n = fact what (codes "value") (decimal n)

abbrev pub fault_class : ℕ → List ℕ
fault_class n = if n == 0 then codes "value" else codes "value bad"

unfoldable pub faults : List ℕ → ℕ → List ℕ
faults what n = fact what (fault_class n) (decimal n)

unfoldable pub age : List ℕ → ℕ → ℕ → List ℕ
age what at moment = fact what (codes "value") (age_text at moment)

unfoldable pub size : List ℕ → ℕ → List ℕ
size what n = fact what (codes "value") (octets_text n)
