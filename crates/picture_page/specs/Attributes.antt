-- The attributes of an element (HTML, 13.1.2.3).
use Rattle.std.specs.Prelude.{ℕ, List, ◌++◌, codes, decimal}
use Rattle.picture_page.specs.Escape.{escaped}
use Rattle.picture_page.specs.declared.attribute.Attribute.{Attribute}
use Rattle.picture_page.specs.declared.attribute.Name.{Name}
use Rattle.picture_page.specs.declared.attribute.Name.TheVariants as name
use Rattle.picture_page.specs.declared.attribute.Value.{Value}
use Rattle.picture_page.specs.declared.attribute.Value.TheVariants as value

abbrev pub attribute_name : Name → List ℕ
attribute_name name.Class = codes "class"
attribute_name name.Id = codes "id"
attribute_name name.Lang = codes "lang"
attribute_name name.Href = codes "href"
attribute_name name.Role = codes "role"
attribute_name name.ViewBox = codes "viewBox"
attribute_name name.X = codes "x"
attribute_name name.Y = codes "y"
attribute_name name.Width = codes "width"
attribute_name name.Height = codes "height"
attribute_name name.Cx = codes "cx"
attribute_name name.Cy = codes "cy"
attribute_name name.R = codes "r"
attribute_name name.D = codes "d"

-- an attribute as contracts see it
pub record Said : Type 0 where
  pub name : Name
  pub octets : List ℕ

abbrev pub value_of : Value → List ℕ
value_of (value.Octets octets) = octets.now
value_of (value.Number n) = decimal n

abbrev pub said : Attribute → Said
said a = record { name = a.name; octets = value_of a.value }

-- behind a blank, its value in quotes
abbrev pub attribute_text : Said → List ℕ
attribute_text a =
    codes " " ++ attribute_name a.name ++ codes "=\"" ++ escaped a.octets ++ codes "\""
