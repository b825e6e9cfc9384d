-- The items of the desk in a message without credentials.
use Rattle.std.proofs.Common.{◌≡◌, ℕ, zero, suc, ◌*◌, ◌<◌, ◌≤◌, nat_le, nat_lt, ℤ, pos, negsuc}
use Rattle.std.proofs.Common.{◌≤ℤ◌, Bool, true, ◌&&◌, Some, None}
use Rattle.std.proofs.Common.{List, [], ◌∷◌, map, length, Result, Ok, Err, refl, ◌∙◌, ap}
use Rattle.std.proofs.Common.{arith}
use Rattle.std.specs.Prelude.{IfOk}
use Rattle.std.proofs.lemmas.Bool.Decides.{nat_tests}
use Rattle.std.proofs.lemmas.Int.{ints}
use Rattle.std.proofs.lemmas.List.Sums.{sum_by-cons}
use Rattle.std.specs.List.{AllByRecursion, list_all, sum_by}
use Rattle.ber_core.specs.Spelling.{canonical}
use Rattle.ber_core.specs.Tree.{Tree, Trees, constructed, trees, tree_and}
use Rattle.isp1_tml.specs.Message.{pdu, spelling}
use Rattle.ber_shape.specs.List.{each_tree}
use Rattle.cds_time.specs.Octets.{FieldsFit}
use Rattle.cds_time.specs.declared.cds.Rest.{Rest}
use Rattle.cds_time.specs.declared.cds.Rest.TheVariants.{Micros, Picos}
use Rattle.sle_common.specs.Time.{time}
use Rattle.isp1_auth.specs.Numbers.{next_number}
use Rattle.archive_terms.specs.Archive.{frame}
use Rattle.archive_terms.specs.Delivery.{archived, end_of_data, frame_octets}
use Rattle.archive_terms.specs.Placed.{items_of}
use Rattle.return_pdu.specs.declared.return_kind.ReturnKind.TheVariants.{Raf}
use Rattle.return_pdu.specs.Items.{frame_of}
use Rattle.return_pdu.specs.TransferItem.{raf_item}
use Rattle.return_pdu.specs.Plain.{FramesArePlain, EndIsPlain}
use Rattle.buffer_message.specs.Content.{contents}
use Rattle.buffer_message.specs.Fitting.{is_continuity, is_in_range, fits_message}
use Rattle.buffer_message.specs.Message as signed
use Rattle.station_desk.specs.declared.limits.TheConstants.{BUFFER_ITEMS}
use Rattle.station_desk.specs.ToldBuffer.{ToldBuffer, item_tree, message_octets}
use Rattle.station_desk.specs.Readable.{IsHanded}

-- ---- they go into one message

at_most : (n m : ℕ) → n ≤ m → nat_le n m ≡ true
at_most n m small = grind (arith, nat_tests)

continuity_is : (z : ℤ) → negsuc 0 ≤ℤ z → z ≤ℤ pos 16777215 → is_continuity z ≡ true
continuity_is (pos n) low high = at_most n 16777215 (omega (arith, ints))
continuity_is (negsuc zero) low high = refl
continuity_is (negsuc (suc n)) low high = absurd (omega (arith, ints))

all_in : (antenna quality octets : ℕ) (z rest : Bool) → 1 ≤ antenna → antenna ≤ 16 → z ≡ true
    → quality ≤ 2 → 1 ≤ octets → octets ≤ 65536 → rest ≡ true
    → (nat_le 1 antenna && nat_le antenna 16 && z && nat_le quality 2 && nat_le 1 octets
    && nat_le octets 65536 && rest) ≡ true
all_in antenna quality octets z rest a b c d e f g = grind (arith, nat_tests)

in_range : (told : ToldBuffer) → AllByRecursion IsHanded told → list_all is_in_range told ≡ true
in_range [] handed = refl
in_range ((archived place (frame f), Some z) ∷ told) handed =
    let is = handed.0 in
    all_in (length f.antenna) f.quality (length f.octets) (is_continuity z)
    (list_all is_in_range told) is.antenna_some is.antenna_short
    (continuity_is z is.continuity_least is.continuity_greatest) is.quality is.octets_some
    is.octets_fit (in_range told handed.1)
in_range ((end_of_data, z) ∷ told) handed = in_range told handed.1
in_range (_ ∷ told) handed = absurd handed.0

few_octets : (told : ToldBuffer) → AllByRecursion IsHanded told
    → sum_by frame_octets (items_of told) ≤ 65536 * length told
few_octets [] handed = omega arith
few_octets ((archived place (frame f), Some z) ∷ told) handed = omega (
  arith,
  handed.0.octets_fit,
  sum_by-cons frame_octets (archived place (frame f)) (items_of told),
  few_octets told handed.1,
)
few_octets ((end_of_data, z) ∷ told) handed = omega (
  arith,
  sum_by-cons frame_octets end_of_data (items_of told),
  few_octets told handed.1,
)
few_octets (_ ∷ told) handed = absurd handed.0

all_three : (count : ℕ) (each : Bool) (octets : ℕ) → count ≤ 1000 → each ≡ true
    → octets < 589824
    → (nat_le count 1000 && each && nat_lt octets 589824) ≡ true
all_three count each octets few all short = grind (arith, nat_tests)

pub handed_fit : (told : ToldBuffer) → length told ≤ BUFFER_ITEMS → AllByRecursion IsHanded told
    → fits_message told ≡ true
handed_fit told few handed =
    let octets = few_octets told handed in
    all_three (length told) (list_all is_in_range told) (sum_by frame_octets (items_of told))
    (omega (arith, few)) (in_range told handed) (omega (arith, octets, few))

-- ---- it says the same

time_fields : (days millis : ℕ) (rest : Rest)
    → time.Fits (record { days = days; millis = millis; rest = rest })
    → FieldsFit (record { days = days; millis = millis; rest = rest })
time_fields days millis (Micros n) fits = fits.fields
time_fields days millis (Picos n) fits = fits.fields

both : (a b : Tree) (xs ys : Trees) → a ≡ b → xs ≡ ys → tree_and a xs ≡ tree_and b ys
both a b xs ys one rest = cc

trees_same : FramesArePlain → EndIsPlain → (n : ℕ) (told : ToldBuffer)
    → AllByRecursion IsHanded told → AllByRecursion raf_item.Fits (contents Raf None n told)
    → each_tree raf_item.tree (contents Raf None n told) ≡ trees (map item_tree told)
trees_same plain ended n [] handed fits = refl
trees_same plain ended n ((archived place (frame f), Some z) ∷ told) handed fits =
    let is = plain (frame_of f.ert f.antenna z f.quality f.octets) handed.0
    (time_fields f.ert.days f.ert.millis f.ert.rest fits.0.fields.1.0) in
    both _ _ _ _ is.tree (trees_same plain ended (next_number n) told handed.1 fits.1)
trees_same plain ended n ((end_of_data, z) ∷ told) handed fits =
    both _ _ _ _ ended.tree (trees_same plain ended (next_number n) told handed.1 fits.1)
trees_same plain ended n (_ ∷ told) handed fits = absurd handed.0

pub message_same : FramesArePlain → EndIsPlain → (told : ToldBuffer)
    → AllByRecursion IsHanded told → signed.IsRead Raf None 0 told
    → signed.message_octets Raf None 0 told ≡ message_octets told
message_same plain ended told handed read =
    ap (λ ts. spelling (pdu (canonical (constructed (0xa8 ∷ []) ts))))
    (trees_same plain ended 0 told handed read.fit.each)

-- what an answer that is Ok holds, seen in part
pub ok_same : {T E : Type 0} (part : T → List ℕ) (r : Result T E) (all : T) (octets : List ℕ)
    → IfOk r (λ w. w ≡ all) → part all ≡ octets → IfOk r (λ w. part w ≡ octets)
ok_same part (Ok w) all octets is same = ap part is ∙ same
ok_same part (Err e) all octets is same = tt
