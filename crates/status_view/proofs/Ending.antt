-- The document of a page that began empty and gained octets.
use Rattle.std.proofs.Common.{◌≡◌, ℕ, List, [], ◌∷◌, ◌++◌, Option, Some, None, ◌∙◌, ap, append-nil}
use Rattle.std.specs.List.{flat_map}
use Rattle.picture_page.specs.Content.{finish, doctype}
use Rattle.picture_page.specs.Sheet.{Sheet, Gains, Becomes}

abbrev empty : Option Sheet
empty = Some (record { octets = []; open_tags = [] })

ended : Sheet → List ℕ
ended s = doctype ++ (s.octets ++ flat_map finish s.open_tags)

pub document_is : (p : Option Sheet) (html document : List ℕ) → Gains empty p html
    → Becomes p document → document ≡ doctype ++ html
unfolding ended
document_is None html document g b = absurd b
document_is (Some p) html document g b =
    b ∙ ap ended g ∙ ap (λ rest. doctype ++ rest) (append-nil html)
