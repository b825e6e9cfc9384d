-- The message of a buffer is the same as its items say it.
use Rattle.std.proofs.Common.{◌≡◌, ℕ, ◌-◌, true, ℤ, Option, Some, List, [], ◌∷◌, map, get_or, refl}
use Rattle.std.proofs.Common.{arith}
use Rattle.std.specs.List.{AllByRecursion}
use Rattle.std.proofs.lemmas.List.Elements.{All-get_or, All-from_recursion}
use Rattle.archive_terms.specs.Archive.{Entry, frame}
use Rattle.archive_terms.specs.Selection.{Selection}
use Rattle.archive_terms.specs.Delivery.{archived, end_of_data}
use Rattle.archive_terms.specs.Delivery as terms
use Rattle.frame_select.specs.Item.{said_of}
use Rattle.return_core.specs.Course.{Course, is_offering}
use Rattle.station_desk.specs.ToldBuffer.{ToldBuffer, item_tree}
use Rattle.station_desk.specs.Readable.{IsHanded, IsReadable}
use Rattle.station_desk.specs.Cursor.{told_of, IsAtBuffer, IsRight}

-- an item as it is told
abbrev One : Type 0
One = terms.Item × Option ℤ

said_tree : (x : One) → item_tree (said_of x) ≡ item_tree x
said_tree (archived place (frame f), Some continuity) = refl
said_tree _ = refl

said_handed : (x : One) → IsHanded x → IsHanded (said_of x)
said_handed (archived place (frame f), Some continuity) is = is
said_handed (end_of_data, continuity) is = tt
said_handed _ is = absurd is

pub trees_said : (buffer : ToldBuffer) → map item_tree (map said_of buffer) ≡ map item_tree buffer
trees_said [] = refl
trees_said (x ∷ buffer) = cc (said_tree x, trees_said buffer)

pub handed_said : (buffer : ToldBuffer) → AllByRecursion IsHanded buffer
    → AllByRecursion IsHanded (map said_of buffer)
handed_said [] all = tt
handed_said (x ∷ buffer) all = (said_handed x all.0, handed_said buffer all.1)

pub current_readable : {s : Selection} {entries : List Entry} {count : ℕ} {c : Course}
    → IsRight s entries count c → is_offering c ≡ true
    → IsReadable (get_or (told_of s entries) (count - 1) [])
current_readable {s} {entries} {count} {c} right offers =
    let at : IsAtBuffer s entries count c = rw offers at right.on_its_way in
    All-get_or IsReadable (told_of s entries) (count - 1) [] (omega (arith, at.next, right.within))
    (All-from_recursion IsReadable (told_of s entries) right.readable)
