-- What a page holds: a tree of elements and texts, and its spelling (HTML, 13.1.2).
use Rattle.std.specs.Prelude.{◌≡◌, List, [], ◌∷◌, ◌++◌, ℕ, codes}
use Rattle.std.specs.List.{flat_map}
use Rattle.picture_page.specs.Attributes.{Said, attribute_text}
use Rattle.picture_page.specs.Escape.{escaped}
use Rattle.picture_page.specs.Meta.{meta_text}
use Rattle.picture_page.specs.declared.meta.Meta.{Meta}
use Rattle.picture_page.specs.declared.tag.Tag.{Tag}
use Rattle.picture_page.specs.declared.tag.Tag.TheVariants as tag

abbrev pub tag_name : Tag → List ℕ
tag_name tag.Html = codes "html"
tag_name tag.Head = codes "head"
tag_name tag.Title = codes "title"
tag_name tag.Style = codes "style"
tag_name tag.Body = codes "body"
tag_name tag.H1 = codes "h1"
tag_name tag.H2 = codes "h2"
tag_name tag.P = codes "p"
tag_name tag.Div = codes "div"
tag_name tag.Span = codes "span"
tag_name tag.Table = codes "table"
tag_name tag.Tr = codes "tr"
tag_name tag.Th = codes "th"
tag_name tag.Td = codes "td"
tag_name tag.A = codes "a"
tag_name tag.Svg = codes "svg"
tag_name tag.G = codes "g"
tag_name tag.Rect = codes "rect"
tag_name tag.Circle = codes "circle"
tag_name tag.Path = codes "path"
tag_name tag.Text = codes "text"

-- the tag that begins an element, and the one that ends it
unfoldable pub start : Tag → List Said → List ℕ
start t attributes = codes "<" ++ tag_name t ++ flat_map attribute_text attributes ++ codes ">"

unfoldable pub finish : Tag → List ℕ
finish t = codes "</" ++ tag_name t ++ codes ">"

-- a list of texts and elements: an element has what it holds, and then come those after it; what the
-- page says of itself holds nothing
pub data Content : Type 0 where
  nothing : Content
  text : List ℕ → Content → Content
  lone : Meta → Content → Content
  element : Tag → List Said → Content → Content → Content

abbrev pub spelled : Content → List ℕ
spelled nothing = []
spelled (text octets more) = escaped octets ++ spelled more
spelled (lone m more) = meta_text m ++ spelled more
spelled (element t attributes held more) =
    start t attributes ++ (spelled held ++ (finish t ++ spelled more))

-- Octets spell what stands before the elements that are still open, the last one first, with all
-- that these hold so far.
pub data Nests : List ℕ → List Tag → Type 0 where
  outside : {octets : List ℕ} (c : Content) → octets ≡ spelled c → Nests octets []
  within : {before octets : List ℕ} {open_tags : List Tag} → Nests before open_tags
      → (t : Tag) (attributes : List Said) (c : Content)
      → octets ≡ (before ++ start t attributes) ++ spelled c → Nests octets (t ∷ open_tags)

-- the document type, and a tree behind it
abbrev pub doctype : List ℕ
doctype = codes "<!DOCTYPE html>\n"

abbrev pub IsDocument : List ℕ → Type 0
IsDocument octets = (c : Content) × (octets ≡ doctype ++ spelled c)
