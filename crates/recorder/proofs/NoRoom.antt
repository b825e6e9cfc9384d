-- What a refusal as full says of the archive once all is stored that wasn't dropped.
use Rattle.std.proofs.Common.{◌≡◌, ◌⊎◌, inl, inr, ℕ, ◌+◌, ◌-◌, ◌<◌, ◌≤◌, Bool, true, false, not}
use Rattle.std.proofs.Common.{nat_le, nat_lt, if◌then◌else◌, Option, Some, None, List, [], ◌∷◌}
use Rattle.std.proofs.Common.{◌++◌, length, refl, sym, ap, subst, ◌∙◌, arith, length-append}
use Rattle.std.specs.List.{fold}
use Rattle.std.proofs.lemmas.Bool.Decides.{nat_tests}
use Rattle.std.proofs.lemmas.List.Concat.{flat_map-append}
use Rattle.std.proofs.lemmas.List.Sums.{fold-append}
use Rattle.archive_terms.specs.Archive.{Entry, is_in_order, is_short}
use Rattle.record_form.specs.Spelling.{entry_octets}
use Rattle.gate_journal.specs.File.{entries_octets}
use Rattle.frame_archive.specs.State.{ArchiveState, refusal, with_stored, wanted, need, free}
use Rattle.frame_archive.specs.declared.fault.OfferFault.{OfferFault}
use Rattle.frame_archive.specs.declared.fault.OfferFault.TheVariants as offers
use Rattle.recorder.specs.Offers.{Offered, by_refusal, after_offer, after_offers, HasNoRoom}

-- an archive at which more waits, and nothing else changed
pub record IsMore {D : Type 0} (old new : ArchiveState D) : Type 0 where
  pub capacity : new.capacity ≡ old.capacity
  pub used : new.used ≡ old.used
  pub count : new.count ≡ old.count
  pub octets : wanted old.waiting ≤ wanted new.waiting
  pub entries : length old.waiting ≤ length new.waiting

is_same : {D : Type 0} (archive : ArchiveState D) → IsMore archive archive
is_same archive = record {
  capacity = refl;
  used = refl;
  count = refl;
  octets = omega arith;
  entries = omega arith;
}

wanted_more : (waiting : List Entry) (entry : Entry)
    → wanted waiting ≤ wanted (waiting ++ entry ∷ [])
wanted_more [] entry = omega arith
wanted_more (first ∷ others) entry =
    let all : length (entries_octets ((first ∷ others) ++ entry ∷ []))
    ≡ length (entries_octets (first ∷ others)) + length (entries_octets (entry ∷ [])) =
    ap length (flat_map-append entry_octets (first ∷ others) (entry ∷ []))
    ∙ length-append (entries_octets (first ∷ others)) (entries_octets (entry ∷ [])) in
    omega (arith, all)

more_by : {D : Type 0} (before : Offered D) (entry : Entry) (cause : Option OfferFault)
    → IsMore before.archive (by_refusal before entry cause).archive
more_by before entry (Some fault) = is_same before.archive
more_by before entry None = record {
  capacity = refl;
  used = refl;
  count = refl;
  octets = wanted_more before.archive.waiting entry;
  entries = omega (arith, length-append before.archive.waiting (entry ∷ []));
}

and_more : {D : Type 0} (old mid new : ArchiveState D) → IsMore old mid → IsMore mid new
    → IsMore old new
and_more old mid new first second = record {
  capacity = second.capacity ∙ first.capacity;
  used = second.used ∙ first.used;
  count = second.count ∙ first.count;
  octets = omega (arith, first.octets, second.octets);
  entries = omega (arith, first.entries, second.entries);
}

pub more_after : {D : Type 0} (start : Offered D) (entries : List Entry)
    → IsMore start.archive (fold after_offer start entries).archive
more_after start [] = is_same start.archive
more_after start (entry ∷ entries) =
    and_more start.archive (after_offer start entry).archive _
    (more_by start entry (refusal start.archive entry))
    (more_after (after_offer start entry) entries)

-- only an entry that finds no room is refused as full
finds_no_room : (a b w l : Bool) (n f need free : ℕ)
    → (if a then Some offers.Backward else if b then Some offers.TooLong
    else if w then Some offers.Waiting else if l then Some (offers.Full n f) else None)
    ≡ Some (offers.Full need free) → l ≡ true
finds_no_room true b w l n f need free is = absurd (cc)
finds_no_room false true w l n f need free is = absurd (cc)
finds_no_room false false true l n f need free is = absurd (cc)
finds_no_room false false false true n f need free is = refl
finds_no_room false false false false n f need free is = absurd (cc)

room_is : (b : Bool) (total room n : ℕ) → b ≡ nat_le 4194304 total
    → nat_lt (if b then 0 else room) n ≡ true → (4194304 ≤ total) ⊎ (room < n)
room_is true total room n many is = inl (grind (arith, nat_tests))
room_is false total room n many is = inr (grind (arith, nat_tests))

needs_at_most : (waiting : List Entry) (entry : Entry)
    → need waiting entry ≤ length (entry_octets entry) + 7
needs_at_most [] entry = omega arith
needs_at_most (first ∷ others) entry = omega arith

no_room : {D : Type 0} (then_ end : ArchiveState D) (entry : Entry) (disk : D)
    → IsMore then_ end
    → (4194304 ≤ then_.count + length then_.waiting)
    ⊎ (then_.capacity - then_.used - wanted then_.waiting < need then_.waiting entry)
    → HasNoRoom (with_stored end disk) entry
no_room then_ end entry disk more (inl many) =
    inr (omega (arith, more.count, more.entries, many))
no_room then_ end entry disk more (inr little) =
    inl (omega (
      arith,
      more.capacity,
      more.used,
      more.octets,
      little,
      needs_at_most then_.waiting entry,
    ))

pub full_has_no_room : {D : Type 0} (start : Offered D) (before after : List Entry) (entry : Entry)
    (need free : ℕ) (disk : D)
    → refusal (after_offers start before).archive entry ≡ Some (offers.Full need free)
    → HasNoRoom (with_stored (after_offers start (before ++ entry ∷ after)).archive disk) entry
unfolding after_offers
full_has_no_room {D} start before after entry need_ free_ disk is =
    let there : Offered D = fold after_offer start before in
    let a : ArchiveState D = there.archive in
    let little = finds_no_room (not (is_in_order a.times.frame a.times.seal entry))
    (not (is_short entry)) (nat_le 256 (length a.waiting))
    (nat_lt (free a) (need a.waiting entry)) (need a.waiting entry) (free a) need_ free_ is in
    let room = room_is (nat_le 4194304 (a.count + length a.waiting)) (a.count + length a.waiting)
    (a.capacity - a.used - wanted a.waiting) (need a.waiting entry) refl little in
    subst (λ (o : Offered D). HasNoRoom (with_stored o.archive disk) entry)
    (sym (fold-append after_offer start before (entry ∷ after)))
    (no_room a _ entry disk (more_after there (entry ∷ after)) room)
