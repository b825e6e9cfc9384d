-- Whoever reads the messages of a START reads its frames, and nothing else.
use Rattle.std.proofs.Common.{◌≡◌, ℕ, suc, ℤ, pos, negsuc, ◌≤ℤ◌, ◌+◌, ◌*◌, ◌≤◌, ◌<◌, ◌&&◌, nat_le}
use Rattle.std.proofs.Common.{Bool, true, false, IsTrue, cond, List, [], ◌∷◌, length, map, take}
use Rattle.std.proofs.Common.{◌++◌, append-nil, Option, Some, None, refl, ap, length-append, arith}
use Rattle.std.proofs.lemmas.Bool.{and_parts}
use Rattle.std.proofs.lemmas.Bool.Decides.{nat_tests}
use Rattle.std.proofs.lemmas.Int.{ints}
use Rattle.std.proofs.lemmas.List.{length-map}
use Rattle.std.proofs.lemmas.List.Elements.{All-from_recursion, recursion_from_All, All-weaker}
use Rattle.std.proofs.lemmas.List.Elements.{All-push, All-filter, All-head, All-tail, All-take}
use Rattle.std.specs.List.{All, AllByRecursion, flat_map, filter, enumerate_from, list_all}
use Rattle.ber_core.specs.Length.{shortest_length}
use Rattle.ber_core.specs.Parts.{length-constructed, spelled-trees, few-shortest_length}
use Rattle.ber_core.specs.Spelling.{element, canonical, canonical_all, Spells, CanonicalSpells}
use Rattle.ber_core.specs.Tree.{Tree, trees}
use Rattle.ber_shape.specs.List.{each_tree}
use Rattle.isp1_tml.specs.Message.{IsMessage}
use Rattle.return_pdu.specs.Items as pdu
use Rattle.return_pdu.specs.Items.{frame_of, transfer_buffer, buffer_tag}
use Rattle.return_pdu.specs.Fields.{IsFrame}
use Rattle.return_pdu.specs.declared.return_kind.ReturnKind.TheVariants.{Raf}
use Rattle.return_pdu.specs.TransferItem as said
use Rattle.return_pdu.specs.TransferItem.{raf_item, BuffersAreExact}
use Rattle.return_pdu.specs.Plain.{FramesArePlain, EndIsPlain, FramesAreShort}
use Rattle.archive_terms.specs.Archive.{frame, is_moment}
use Rattle.archive_terms.specs.Archive.{is_storable, is_archive, is_ordered}
use Rattle.archive_terms.specs.Archive as terms
use Rattle.archive_terms.specs.Selection.{Selection, is_picked, picked}
use Rattle.archive_terms.specs.Delivery.{Item, archived, end_of_data, archived_items, all_items}
use Rattle.archive_terms.specs.Delivery.{is_complete, IsBuffer, cut, offline_buffers}
use Rattle.archive_terms.specs.Continuity.{continuity, last_frame, told_items, told_buffers}
use Rattle.cds_time.specs.Octets.{FieldsFit}
use Rattle.cds_time.specs.declared.cds.Cds.{Cds}
use Rattle.cds_time.specs.declared.cds.Rest.{Rest}
use Rattle.cds_time.specs.declared.cds.Rest.TheVariants.{Micros, Picos}
use Rattle.station_desk.specs.declared.limits.TheConstants.{BUFFER_ITEMS}
use Rattle.station_desk.specs.ToldBuffer.{ToldBuffer, item_tree, buffer_message}
use Rattle.station_desk.specs.Start.{selection}
use Rattle.station_desk.specs.Readable.{item_said, IsHanded, IsReadable, AreReadable}

-- ---- which items the buffers have

-- the fields of a time that names a moment fit in their octets
abbrev made : ℕ → ℕ → Rest → Cds
made days millis rest = record { days = days; millis = millis; rest = rest }

fields_by : (days millis : ℕ) (rest : Rest) → IsTrue (is_moment (made days millis rest))
    → FieldsFit (made days millis rest)
fields_by days millis (Micros n) is = grind (arith, nat_tests)
fields_by days millis (Picos n) is = grind (arith, nat_tests)

-- what makes a frame storable, one by one
parts : (time : Bool) (quality antenna lost octets : ℕ)
    → (time && nat_le quality 2 && nat_le 1 antenna && nat_le antenna 16 && nat_le lost 16777215
    && nat_le 1 octets && nat_le octets 65536) ≡ true
    → (time ≡ true) × (quality ≤ 2) × (1 ≤ antenna) × (antenna ≤ 16) × (1 ≤ octets)
    × (octets ≤ 65536)
parts time quality antenna lost octets all = grind (arith, nat_tests)

-- an offline delivery hands over frames that may be archived and the end of data
abbrev IsOffline : Item → Type 0
IsOffline (archived place (frame f)) = is_storable (frame f) ≡ true
IsOffline end_of_data = Unit {0}
IsOffline _ = ⊥

abbrev AreOffline : List Item → Type 0
AreOffline items = AllByRecursion IsOffline items

both_offline : (xs ys : List Item) → AreOffline (xs ++ ys) → AreOffline xs × AreOffline ys
both_offline [] ys all = (tt, all)
both_offline (x ∷ xs) ys all =
    let rest = both_offline xs ys all.1 in
    ((all.0, rest.0), rest.1)

-- ---- the buffers of a START

abbrev HasFew : List Item → Type 0
HasFew items = length items ≤ BUFFER_ITEMS

abbrev pub CutsAreBuffers : Type 0
CutsAreBuffers = (size : ℕ) (items : List Item) → 0 < size → All (IsBuffer size) (cut size items)

buffers_few : CutsAreBuffers → (entries : List (ℕ × terms.Entry)) (closed : Bool)
    → All HasFew (offline_buffers BUFFER_ITEMS entries closed)
buffers_few cuts entries closed =
    let buffers = cut BUFFER_ITEMS (archived_items entries) in
    let few : All HasFew buffers = All-weaker (IsBuffer BUFFER_ITEMS) HasFew
    (λ b is. is.few) buffers (cuts BUFFER_ITEMS (archived_items entries) (omega arith)) in
    elim closed as (λ b. All HasFew (offline_buffers BUFFER_ITEMS entries b)) [
      | true ↦ All-push HasFew buffers (end_of_data ∷ []) few (omega arith)
      | false ↦ All-filter (is_complete BUFFER_ITEMS) HasFew buffers few
    ]

-- ---- what a buffer says

abbrev most_octets : ℕ
most_octets = 65836

end_small : length (canonical pdu.end_of_data) ≤ most_octets
unfolding canonical element shortest_length
end_small = omega arith

-- an item is said with its fields in their ranges, as it is told, in few octets; and so are items
record IsSaid (x : Item × Option ℤ) : Type 0 where
  handed : IsHanded x
  fits : raf_item.Fits (item_said x)
  tree : raf_item.tree (item_said x) ≡ item_tree x
  small : length (canonical (item_tree x)) ≤ most_octets

record AreSaid (told : ToldBuffer) (n : ℕ) : Type 0 where
  count : length told ≡ n
  handed : AllByRecursion IsHanded told
  fit : AllByRecursion raf_item.Fits (map item_said told)
  are : each_tree raf_item.tree (map item_said told) ≡ trees (map item_tree told)
  small : length (flat_map canonical (map item_tree told)) ≤ most_octets * n

said_more : (x : Item × Option ℤ) (told : ToldBuffer) (n : ℕ) → IsSaid x → AreSaid told n
    → AreSaid (x ∷ told) (suc n)
said_more x told n one rest = record {
  count = ap suc rest.count;
  handed = (one.handed, rest.handed);
  fit = (one.fits, rest.fit);
  are = rw (one.tree, rest.are) refl;
  small = omega (arith, length-append {A = ℕ});
}

buffer_small : (members : List Tree) (n : ℕ) → length (flat_map canonical members) ≤ n
    → length (canonical (transfer_buffer members)) ≤ n + 10
buffer_small members n small = omega (
  arith,
  length-constructed buffer_tag (trees members),
  ap length (spelled-trees members),
  few-shortest_length (length (canonical_all (trees members))),
)

module _ (entries : List terms.Entry) (short : FramesAreShort) (plain : FramesArePlain)
    (ended : EndIsPlain) (exact : BuffersAreExact) (spells : CanonicalSpells) where
  -- the picked ones of the entries from a place on are frames that may be archived
  abbrev picks : Selection → ℕ → List terms.Entry → List (ℕ × terms.Entry)
  picks s n rest = filter (λ x. is_picked s entries x.0 x.1) (enumerate_from n rest)

  picks_are : (start stop : Cds) (quality n : ℕ) (rest : List terms.Entry)
      → list_all is_storable rest ≡ true
      → AreOffline (archived_items (picks (selection start stop quality) n rest))
  picks_are start stop quality n [] stored = tt
  picks_are start stop quality n (frame f ∷ rest) stored =
      let s = selection start stop quality in
      let both = and_parts (is_storable (frame f)) (list_all is_storable rest) stored in
      let later = picks_are start stop quality (n + 1) rest both.1 in
      elim (is_picked s entries n (frame f)) as (λ b. AreOffline (archived_items
      (cond b ((n, frame f) ∷ picks s (n + 1) rest) (picks s (n + 1) rest))))
      [ true ↦ (both.0, later) | false ↦ later ]
  picks_are start stop quality n (entry ∷ rest) stored = picks_are start stop quality (n + 1) rest
      (and_parts (is_storable entry) (list_all is_storable rest) stored).1

  continuity_in_range : (before : Option ℕ) (place : ℕ)
      → (negsuc 0 ≤ℤ continuity entries before place)
      × (continuity entries before place ≤ℤ pos 16777215)
  continuity_in_range None place = (grind (arith, ints), grind (arith, ints))
  continuity_in_range (Some before) place = (grind (arith, ints), grind (arith, ints))

  say : (before : Option ℕ) (buffer : List Item) → AreOffline buffer
      → AreSaid (told_items entries before buffer) (length buffer)
  say before [] all =
      record { handed = tt; fit = tt; are = refl; count = refl; small = omega arith }
  say before (end_of_data ∷ buffer) all = said_more (end_of_data, None) _ _
      (record { handed = tt; fits = ended.fits; tree = ended.tree; small = end_small })
      (say before buffer all.1)
  say before (archived place (frame f) ∷ buffer) all =
      let shown = frame_of f.ert f.antenna (continuity entries before place) f.quality f.octets in
      let told = continuity_in_range before place in
      let fields = parts (is_moment f.ert) f.quality (length f.antenna) f.lost (length f.octets)
      all.0 in
      let ranges : IsFrame shown = record {
        antenna_some = omega arith;
        antenna_short = omega arith;
        continuity_least = told.0;
        continuity_greatest = told.1;
        quality = omega arith;
        octets_some = omega arith;
        octets_fit = omega arith;
      } in
      let is = plain shown ranges (fields_by f.ert.days f.ert.millis f.ert.rest fields.0) in
      said_more (archived place (frame f), Some (continuity entries before place)) _ _
      (record {
        handed = ranges;
        fits = is.fits;
        tree = is.tree;
        small = omega (arith, short shown ranges);
      })
      (say (Some place) buffer all.1)
  say before (_ ∷ buffer) all = absurd all.0

  buffer_readable : (before : Option ℕ) (buffer : List Item) → AreOffline buffer → HasFew buffer
      → IsReadable (told_items entries before buffer)
  buffer_readable before buffer all few =
      let members = map item_tree (told_items entries before buffer) in
      let items = map item_said (told_items entries before buffer) in
      let octets = canonical (transfer_buffer members) in
      let s = say before buffer all in
      let fits : length octets ≤ most_octets * BUFFER_ITEMS + 10 =
      buffer_small members (most_octets * BUFFER_ITEMS) (omega (arith, s.small)) in
      let fit : (said.buffer Raf).Fits items = record {
        few = omega (arith, s.count, length-map (told_items entries before buffer) item_said);
        each = s.fit;
      } in
      let spelled : Spells ((said.buffer Raf).tree items) octets =
      rw s.are (spells (transfer_buffer members) (omega arith)) in
      record {
        few = omega (arith, s.count);
        handed = s.handed;
        fits = omega arith;
        read = exact.again Raf items octets fit spelled;
        fit = fit;
        spelled = spelled;
        no_others = λ others other_fit e. exact.one Raf octets others items other_fit fit e spelled;
      }

  buffers_readable : (before : Option ℕ) (buffers : List (List Item))
      → AreOffline (flat_map (λ b. b) buffers) → All HasFew buffers
      → AreReadable (told_buffers entries before buffers)
  buffers_readable before [] all few = tt
  buffers_readable before (buffer ∷ buffers) all few =
      let both = both_offline buffer (flat_map (λ b. b) buffers) all in (
        buffer_readable before buffer both.0 (All-head HasFew buffer buffers few),
        buffers_readable (last_frame before buffer) buffers both.1
            (All-tail HasFew buffer buffers few),
      )

  pub start_readable : CutsAreBuffers → (start stop : Cds) (quality : ℕ) (closed : Bool)
      → is_archive entries ≡ true
      → (let chosen = picked entries (selection start stop quality) in
      let items = flat_map (λ b. b) (offline_buffers BUFFER_ITEMS chosen closed) in
      take (length items) (all_items chosen closed) ≡ items)
      → AreReadable (told_buffers entries None
      (offline_buffers BUFFER_ITEMS (picked entries (selection start stop quality)) closed))
  start_readable cuts start stop quality closed archive begins =
      let chosen = picked entries (selection start stop quality) in
      let buffers = offline_buffers BUFFER_ITEMS chosen closed in
      let picks : All IsOffline (archived_items chosen) =
      All-from_recursion IsOffline (archived_items chosen) (picks_are start stop quality 0 entries
      (and_parts (list_all is_storable entries) (is_ordered entries) archive).0) in
      let all : All IsOffline (all_items chosen closed) =
      elim closed as (λ b. All IsOffline (all_items chosen b)) [
        | true ↦ All-push IsOffline (archived_items chosen) end_of_data picks tt
        | false ↦ rw append-nil picks
      ] in
      buffers_readable None buffers (recursion_from_All IsOffline (flat_map (λ b. b) buffers)
      (rw begins at (All-take IsOffline (length (flat_map (λ b. b) buffers))
      (all_items chosen closed) all))) (buffers_few cuts chosen closed)

-- each message of a START is one that the transport reads
pub are_messages : (told : List ToldBuffer) → AreReadable told
    → AllByRecursion IsMessage (map buffer_message told)
are_messages [] readable = tt
are_messages (buffer ∷ told) readable = (readable.0.fits, are_messages told readable.1)
