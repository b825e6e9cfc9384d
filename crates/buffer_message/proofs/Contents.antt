-- What an item says fits, in few octets, as many with any credentials of one length.
use Rattle.std.proofs.Common.{◌≡◌, ℕ, zero, suc, ◌+◌, ◌≤◌, ℤ, pos, negsuc, Bool, true, ◌&&◌}
use Rattle.std.proofs.Common.{nat_le, if◌then◌else◌, Option, Some, None, is_some, List, [], ◌∷◌}
use Rattle.std.proofs.Common.{length, refl, sym, ◌∙◌, ap, subst, arith, ◌-◌, ◌^◌}
use Rattle.std.proofs.lemmas.Bool.{eqb-true}
use Rattle.std.proofs.lemmas.Bool.Decides.{nat_tests}
use Rattle.std.proofs.lemmas.Int.{ints}
use Rattle.ber_core.specs.Length.{shortest_length}
use Rattle.ber_core.specs.Tree.{Trees, constructed, tree_and, no_trees, primitive}
use Rattle.ber_core.specs.Spelling.{canonical, canonical_all}
use Rattle.ber_core.specs.Parts.{length-constructed, length-tree_and, length-no_trees}
use Rattle.ber_core.specs.Parts.{length-primitive, few-shortest_length, few-integer_octets}
use Rattle.ber_shape.specs.Content.{InRange}
use Rattle.ber_shape.specs.Members.{structured_few}
use Rattle.cds_time.specs.Octets.{FieldsFit}
use Rattle.cds_time.specs.declared.cds.Cds.{Cds}
use Rattle.cds_time.specs.declared.cds.Rest.{Rest}
use Rattle.cds_time.specs.declared.cds.Rest.TheVariants.{Micros, Picos}
use Rattle.sle_common.specs.Credentials.{credentials}
use Rattle.sle_common.specs.Time.{time}
use Rattle.sle_common.specs.Antenna.{local}
use Rattle.sle_numbers.specs.FrameQuality as qualities
use Rattle.sle_numbers.specs.LockStatus as locks
use Rattle.sle_numbers.specs.declared.frame_quality.FrameQuality.{FrameQuality}
use Rattle.sle_numbers.specs.declared.lock_status.LockStatus.{LockStatus}
use Rattle.sle_numbers.specs.declared.lock_status.LockStatus.TheVariants as lock
use Rattle.archive_terms.specs.Archive.{frame, loss_of_sync, production}
use Rattle.archive_terms.specs.Delivery.{archived, frame_octets}
use Rattle.archive_terms.specs.Placed.{ToldItem}
use Rattle.return_pdu.specs.declared.return_kind.ReturnKind.{ReturnKind}
use Rattle.return_pdu.specs.declared.return_kind.ReturnKind.TheVariants.{Raf, Rcf}
use Rattle.return_pdu.specs.Frames.{continuity, quality, raf_parts, rcf_parts}
use Rattle.return_pdu.specs.Notification.{told_fields}
use Rattle.return_pdu.specs.TransferItem.{ItemContent, item_shape, item_tree, ItemFits}
use Rattle.return_pdu.specs.TransferItem as pdu
use Rattle.cds_time.specs.Moment.{octets_of, in_micros}
use Rattle.isp1_auth.specs.Signed.{signed}
use Rattle.buffer_message.specs.Signing.{Signing, secret_by, credentials_by}
use Rattle.buffer_message.specs.Content.{quality_in, lock_of, content_of, TimeFits}
use Rattle.buffer_message.specs.Fitting.{is_continuity, is_in_range}
use Rattle.buffer_message.proofs.Lengths.{length_signed, some_signed, few-digest_length}

-- ---- values by their numbers

pub quality_known : (q : FrameQuality) → quality_in Raf (qualities.number_of q) ≡ Some q
quality_known q = (qualities.each q).found

pub lock_known : (l : LockStatus) → lock_of (locks.number_of l) ≡ l
lock_known lock.InLock = refl
lock_known lock.OutOfLock = refl
lock_known lock.NotInUse = refl
lock_known lock.Unknown = refl

some_quality : (n : ℕ) → n ≤ 2 → is_some (quality_in Raf n) ≡ true
some_quality zero small = refl
some_quality (suc zero) small = refl
some_quality (suc (suc zero)) small = refl
some_quality (suc (suc (suc n))) small = absurd (omega (arith, small))

-- ---- an item of its service

service_fits : (s : ReturnKind) (i : ItemContent) → (item_shape s).Fits i → ItemFits i
service_fits Raf (pdu.told t) fits = fits
service_fits Rcf (pdu.told t) fits = fits
service_fits Raf (pdu.frame f) fits =
    subst (λ some. (item_shape (if some then Raf else Rcf)).Fits (pdu.frame f))
    (sym fits.has_quality) fits
service_fits Rcf (pdu.frame f) fits =
    subst (λ some. (item_shape (if some then Raf else Rcf)).Fits (pdu.frame f))
    (sym (ap is_some fits.no_quality)) fits

same_tree : (s : ReturnKind) (i : ItemContent) → (item_shape s).Fits i
    → (item_shape s).tree i ≡ item_tree i
same_tree Raf (pdu.told t) fits = refl
same_tree Rcf (pdu.told t) fits = refl
same_tree Raf (pdu.frame f) fits =
    ap (λ some. (item_shape (if some then Raf else Rcf)).tree (pdu.frame f)) (sym fits.has_quality)
same_tree Rcf (pdu.frame f) fits =
    ap (λ some. (item_shape (if some then Raf else Rcf)).tree (pdu.frame f))
    (sym (ap is_some fits.no_quality))

-- ---- it fits

time_fits : (days millis : ℕ) (rest : Rest)
    → FieldsFit (record { days = days; millis = millis; rest = rest })
    → time.Fits (record { days = days; millis = millis; rest = rest })
time_fits days millis (Micros n) fit = record { fields = fit; form = refl }
time_fits days millis (Picos n) fit = record { fields = fit; form = refl }

continuity_fits : (z : ℤ) → is_continuity z ≡ true → continuity.Fits z
continuity_fits (pos n) is =
    let below : n ≤ 16777215 = grind (arith, nat_tests) in
    record {
      bits = record { least = omega (arith, ints); greatest = omega (arith, ints) };
      least_so = omega (arith, ints);
      greatest_so = omega (arith, ints);
    }
continuity_fits (negsuc n) is =
    let none : n ≡ 0 = eqb-true n 0 is in
    rw none (record {
      bits = record { least = omega (arith, ints); greatest = omega (arith, ints) };
      least_so = omega (arith, ints);
      greatest_so = omega (arith, ints);
    })

status_fits : (n : ℕ) → n ≤ 2 → InRange (negsuc (2 ^ 63 - 1)) (pos (2 ^ 64 - 1)) (pos n)
status_fits n small = omega (arith, ints)

pub parts : (antenna quality octets : ℕ) (z : Bool)
    → (nat_le 1 antenna && nat_le antenna 16 && z && nat_le quality 2 && nat_le 1 octets
    && nat_le octets 65536) ≡ true
    → (1 ≤ antenna) × (antenna ≤ 16) × (z ≡ true) × (quality ≤ 2) × (1 ≤ octets)
    × (octets ≤ 65536)
parts antenna quality octets z all = grind (arith, nat_tests)

abbrev IsNotice : ItemContent → Type 0
IsNotice (pdu.told t) = Unit {0}
IsNotice (pdu.frame f) = ⊥

module _ (c : Option (List ℕ)) (signed : credentials.Fits c) where
  pub shaped : (s : ReturnKind) (x : ToldItem) → TimeFits x → is_in_range x ≡ true
      → (item_shape s).Fits (content_of s c x)
  shaped Raf (archived place (frame f), Some z) fields is =
      let p = parts (length f.antenna) f.quality (length f.octets) (is_continuity z) is in
      record {
        fields = (
          signed,
          (
            time_fits f.ert.days f.ert.millis f.ert.rest fields,
            (
              record { least_so = p.0; greatest_so = p.1 },
              (
                continuity_fits z p.2,
                (tt, (tt, record { least_so = p.4; greatest_so = p.5 })),
              ),
            ),
          ),
        );
        has_quality = some_quality f.quality p.3;
      }
  shaped Rcf (archived place (frame f), Some z) fields is =
      let p = parts (length f.antenna) f.quality (length f.octets) (is_continuity z) is in
      record {
        fields = (
          signed,
          (
            time_fits f.ert.days f.ert.millis f.ert.rest fields,
            (
              record { least_so = p.0; greatest_so = p.1 },
              (continuity_fits z p.2, (tt, record { least_so = p.4; greatest_so = p.5 })),
            ),
          ),
        );
        no_quality = refl;
      }
  shaped Raf (archived place (loss_of_sync l), _) fields is =
      (signed, (time_fits l.at.days l.at.millis l.at.rest fields, (tt, (tt, tt))))
  shaped Rcf (archived place (loss_of_sync l), _) fields is =
      (signed, (time_fits l.at.days l.at.millis l.at.rest fields, (tt, (tt, tt))))
  shaped Raf (archived place (production status), _) fields is =
      (signed, status_fits status (grind (arith, nat_tests)))
  shaped Rcf (archived place (production status), _) fields is =
      (signed, status_fits status (grind (arith, nat_tests)))
  shaped Raf _ fields is = (signed, tt)
  shaped Rcf _ fields is = (signed, tt)

  pub item_fits : (s : ReturnKind) (x : ToldItem) → TimeFits x → is_in_range x ≡ true
      → ItemFits (content_of s c x)
  item_fits s x fields is = service_fits s (content_of s c x) (shaped s x fields is)

  -- ---- in few octets

  raf_few : (t : Cds) (a : List ℕ) (z : ℤ) (q : FrameQuality) (o : List ℕ) → time.Fits t
      → length a ≤ 16 → continuity.Fits z
      → length (canonical (constructed (0xa0 ∷ [])
      (raf_parts.trees (c, (t, (local a, (z, (q, (None, o)))))))))
      ≤ length o + 400
  raf_few t a z q o timed short told =
      let last = tree_and (primitive (0x04 ∷ []) o) no_trees in
      let noted = tree_and (primitive (0x80 ∷ []) []) last in
      let judged = tree_and (quality.tree q) noted in
      let counted = tree_and (continuity.tree z) judged in
      let heard = tree_and (primitive (0x81 ∷ []) a) counted in
      let dated = tree_and (time.tree t) heard in
      let all = tree_and (credentials.tree c) dated in
      omega (
        arith,
        length-constructed (0xa0 ∷ []) all,
        few-shortest_length (length (canonical_all all)),
        length-tree_and (credentials.tree c) dated,
        credentials.few c signed,
        length-tree_and (time.tree t) heard,
        time.few t timed,
        length-tree_and (primitive (0x81 ∷ []) a) counted,
        length-primitive (0x81 ∷ []) a,
        few-shortest_length (length a),
        short,
        length-tree_and (continuity.tree z) judged,
        continuity.few z told,
        length-tree_and (quality.tree q) noted,
        quality.few q tt,
        length-tree_and (primitive (0x80 ∷ []) []) last,
        length-primitive (0x80 ∷ []) [],
        few-shortest_length 0,
        length-tree_and (primitive (0x04 ∷ []) o) no_trees,
        length-primitive (0x04 ∷ []) o,
        few-shortest_length (length o),
        length-no_trees,
      )

  rcf_few : (t : Cds) (a : List ℕ) (z : ℤ) (o : List ℕ) → time.Fits t
      → length a ≤ 16 → continuity.Fits z
      → length (canonical (constructed (0xa0 ∷ [])
      (rcf_parts.trees (c, (t, (local a, (z, (None, o))))))))
      ≤ length o + 400
  rcf_few t a z o timed short told =
      let last = tree_and (primitive (0x04 ∷ []) o) no_trees in
      let noted = tree_and (primitive (0x80 ∷ []) []) last in
      let counted = tree_and (continuity.tree z) noted in
      let heard = tree_and (primitive (0x81 ∷ []) a) counted in
      let dated = tree_and (time.tree t) heard in
      let all = tree_and (credentials.tree c) dated in
      omega (
        arith,
        length-constructed (0xa0 ∷ []) all,
        few-shortest_length (length (canonical_all all)),
        length-tree_and (credentials.tree c) dated,
        credentials.few c signed,
        length-tree_and (time.tree t) heard,
        time.few t timed,
        length-tree_and (primitive (0x81 ∷ []) a) counted,
        length-primitive (0x81 ∷ []) a,
        few-shortest_length (length a),
        short,
        length-tree_and (continuity.tree z) noted,
        continuity.few z told,
        length-tree_and (primitive (0x80 ∷ []) []) last,
        length-primitive (0x80 ∷ []) [],
        few-shortest_length 0,
        length-tree_and (primitive (0x04 ∷ []) o) no_trees,
        length-primitive (0x04 ∷ []) o,
        few-shortest_length (length o),
        length-no_trees,
      )

  few_notice : (s : ReturnKind) (i : ItemContent) → IsNotice i → (item_shape s).Fits i
      → length (canonical ((item_shape s).tree i)) ≤ 400
  few_notice Raf (pdu.told t) is fits =
      omega (arith, structured_few (0xa1 ∷ []) told_fields t fits)
  few_notice Rcf (pdu.told t) is fits =
      omega (arith, structured_few (0xa1 ∷ []) told_fields t fits)
  few_notice s (pdu.frame f) is fits = absurd is

  few_shaped : (s : ReturnKind) (x : ToldItem) → TimeFits x → is_in_range x ≡ true
      → length (canonical ((item_shape s).tree (content_of s c x))) ≤ frame_octets x.0 + 400
  few_shaped Raf (archived place (frame f), Some z) fields is =
      let p = parts (length f.antenna) f.quality (length f.octets) (is_continuity z) is in
      raf_few f.ert f.antenna z _ f.octets
      (time_fits f.ert.days f.ert.millis f.ert.rest fields) p.1 (continuity_fits z p.2)
  few_shaped Rcf (archived place (frame f), Some z) fields is =
      let p = parts (length f.antenna) f.quality (length f.octets) (is_continuity z) is in
      rcf_few f.ert f.antenna z f.octets
      (time_fits f.ert.days f.ert.millis f.ert.rest fields) p.1 (continuity_fits z p.2)
  few_shaped s x fields is =
      omega (arith, few_notice s (content_of s c x) tt (shaped s x fields is))

  pub few : (s : ReturnKind) (x : ToldItem) → TimeFits x → is_in_range x ≡ true
      → length (canonical (item_tree (content_of s c x))) ≤ frame_octets x.0 + 400
  few s x fields is =
      subst (λ t. length (canonical t) ≤ frame_octets x.0 + 400)
      (same_tree s (content_of s c x) (shaped s x fields is)) (few_shaped s x fields is)

-- ---- with any credentials of one length

swapped : (tag a b : List ℕ) (rest : Trees) → length a ≡ length b
    → length (canonical (constructed tag (tree_and (primitive (0x81 ∷ []) a) rest)))
    ≡ length (canonical (constructed tag (tree_and (primitive (0x81 ∷ []) b) rest)))
swapped tag a b rest same =
    let one : length (canonical (primitive (0x81 ∷ []) a))
    ≡ length (canonical (primitive (0x81 ∷ []) b)) =
    length-primitive (0x81 ∷ []) a ∙ ap (λ n. 1 + length (shortest_length n) + n) same
    ∙ sym (length-primitive (0x81 ∷ []) b) in
    let all : length (canonical_all (tree_and (primitive (0x81 ∷ []) a) rest))
    ≡ length (canonical_all (tree_and (primitive (0x81 ∷ []) b) rest)) =
    omega (
      arith,
      length-tree_and (primitive (0x81 ∷ []) a) rest,
      length-tree_and (primitive (0x81 ∷ []) b) rest,
      one,
    ) in
    length-constructed tag (tree_and (primitive (0x81 ∷ []) a) rest)
    ∙ ap (λ n. length tag + length (shortest_length n) + n) all
    ∙ sym (length-constructed tag (tree_and (primitive (0x81 ∷ []) b) rest))

swapped_shaped : (s : ReturnKind) (x : ToldItem) (a b : List ℕ) → length a ≡ length b
    → length (canonical ((item_shape s).tree (content_of s (Some a) x)))
    ≡ length (canonical ((item_shape s).tree (content_of s (Some b) x)))
swapped_shaped Raf (archived place (frame f), Some z) a b same = swapped (0xa0 ∷ []) a b _ same
swapped_shaped Rcf (archived place (frame f), Some z) a b same = swapped (0xa0 ∷ []) a b _ same
swapped_shaped Raf _ a b same = swapped (0xa1 ∷ []) a b _ same
swapped_shaped Rcf _ a b same = swapped (0xa1 ∷ []) a b _ same

pub same_length : (s : ReturnKind) (x : ToldItem) (a b : List ℕ) → length a ≡ length b
    → (item_shape s).Fits (content_of s (Some a) x) → (item_shape s).Fits (content_of s (Some b) x)
    → length (canonical (item_tree (content_of s (Some a) x)))
    ≡ length (canonical (item_tree (content_of s (Some b) x)))
same_length s x a b same one other =
    ap (λ t. length (canonical t)) (sym (same_tree s (content_of s (Some a) x) one))
    ∙ swapped_shaped s x a b same
    ∙ ap (λ t. length (canonical t)) (same_tree s (content_of s (Some b) x) other)

-- ---- with the credentials of a signer

pub credentials_fit : (by : Option Signing) (number : ℕ)
    → credentials.Fits (credentials_by by number)
credentials_fit None number = tt
credentials_fit (Some s) number = record {
  least_so = some_signed (secret_by s) (octets_of (in_micros s.moment)) number;
  greatest_so = omega (
    arith,
    length_signed (secret_by s) (octets_of (in_micros s.moment)) number refl,
    few-integer_octets (pos number),
    few-digest_length s.hash,
  );
}

-- what is measured with blank octets in their place is measured
pub measured_with : (s : ReturnKind) (by : Signing) (number : ℕ) (x : ToldItem) (blank : List ℕ)
    (i : ItemContent) (size : ℕ) → size ≡ length (canonical (item_tree i))
    → i ≡ content_of s (Some blank) x → TimeFits x → is_in_range x ≡ true
    → credentials.Fits (Some blank)
    → length blank ≡ length (signed (secret_by by) (octets_of (in_micros by.moment)) number)
    → size ≡ length (canonical (item_tree (content_of s (credentials_by (Some by) number) x)))
measured_with s by number x blank i size sized is time here fits same =
    let real = signed (secret_by by) (octets_of (in_micros by.moment)) number in
    sized ∙ ap (λ i. length (canonical (item_tree i))) is
    ∙ same_length s x blank real same (shaped (Some blank) fits s x time here)
    (shaped (Some real) (credentials_fit (Some by) number) s x time here)
