-- An entry is read exactly where its octets stand.
use Rattle.std.proofs.Common.{◌≡◌, inl, inr, ℕ, ◌+◌, ◌≤◌, ◌==◌, Bool, true, false, ◌&&◌, List, []}
use Rattle.std.proofs.Common.{◌∷◌, ◌++◌, length, drop, slice_index, IsTrue, Result, Ok, Err, refl}
use Rattle.std.proofs.Common.{sym, ◌∙◌, ap, subst, arith}
use Rattle.std.specs.Int.{w32, to_be_bytes}
use Rattle.std.proofs.lemmas.Bool.{eqb-true}
use Rattle.std.proofs.lemmas.Bool.Decides.{nat_tests}
use Rattle.std.proofs.lemmas.List.{drop_at, drop-drop, get_or-drop}
use Rattle.cds_time.specs.declared.cds.Cds.{Cds}
use Rattle.archive_terms.specs.Archive.{Entry, Frame, SyncLoss, frame, loss_of_sync, production}
use Rattle.archive_terms.specs.Archive.{seal, is_moment, is_storable}
use Rattle.archive_terms.specs.declared.limits.TheConstants.{GREATEST_LOST}
use Rattle.record_form.specs.declared.fault.EntryFault.{EntryFault}
use Rattle.record_form.specs.declared.fault.EntryFault.TheVariants.{BadKind}
use Rattle.record_form.specs.Left.{Left, past, from}
use Rattle.record_form.specs.Spelling.{time_octets, antenna_octets, content_octets, frame_octets}
use Rattle.record_form.specs.Spelling.{entry_octets}
use Rattle.record_form.specs.Reading.{◌>>=◌, AreOctets, StandsFrom, octets_at, octet_at, number_at}
use Rattle.record_form.specs.Reading.{time_at, antenna_at, content_at, frame_at, loss_at}
use Rattle.record_form.specs.Reading.{production_at, seal_at, fields_at, entry_at, entry_from}
use Rattle.record_form.proofs.Steps.{bind_ok, ok_is, err_ok, chosen, Takes, takes_then, first_part}
use Rattle.record_form.proofs.Steps.{second_part, octets_left, octets_take, octets_again}
use Rattle.record_form.proofs.FieldsRead.{octet_takes, octet_again, number_takes, number_again}
use Rattle.record_form.proofs.FieldsRead.{time_takes, time_again, antenna_takes, antenna_again}
use Rattle.record_form.proofs.FieldsRead.{content_takes, content_again}

-- an entry and its fields' octets stood at the front
pub record Took (left : Left) (text : List ℕ) (entry : Entry) (new : Left) : Type 0 where
  pub takes : Takes left text new
  pub storable : IsTrue (is_storable entry)

-- ---- frames

-- the ranges of a frame's fields
pub record FrameFits (f : Frame) : Type 0 where
  pub ert : IsTrue (is_moment f.ert)
  pub quality : f.quality ≤ 2
  pub some_antenna : 1 ≤ length f.antenna
  pub antenna : length f.antenna ≤ 16
  pub lost : f.lost ≤ 16777215
  pub some : 1 ≤ length f.octets
  pub octets : length f.octets ≤ 65536

both : (a b : Bool) → (a && b) ≡ true → (a ≡ true) × (b ≡ true)
both true b e = (refl, e)
both false b e = absurd (cc)

frame_storable : (f : Frame) → FrameFits f → IsTrue (is_storable (frame f))
frame_storable f fits = rw fits.ert (grind (arith, nat_tests, fits))

frame_fits : (f : Frame) → IsTrue (is_storable (frame f)) → FrameFits f
frame_fits f is = record {
  ert = grind (arith, nat_tests);
  quality = grind (arith, nat_tests);
  some_antenna = grind (arith, nat_tests);
  antenna = grind (arith, nat_tests);
  lost = grind (arith, nat_tests);
  some = grind (arith, nat_tests);
  octets = grind (arith, nat_tests);
}

abbrev made_frame : Cds → ℕ → List ℕ → ℕ → List ℕ → Frame
made_frame ert quality antenna lost octets = record {
  ert = ert;
  quality = quality;
  antenna = antenna;
  lost = lost;
  octets = octets;
}

abbrev with_octets : Cds → ℕ → List ℕ → ℕ → List ℕ × Left → Result (Entry × Left) EntryFault
with_octets ert quality antenna lost octets =
    Ok (frame (made_frame ert quality antenna lost octets.0), octets.1)

abbrev with_lost : Cds → ℕ → List ℕ → ℕ × Left → Result (Entry × Left) EntryFault
with_lost ert quality antenna lost = content_at lost.1 >>= with_octets ert quality antenna lost.0

abbrev with_antenna : Cds → ℕ → List ℕ × Left → Result (Entry × Left) EntryFault
with_antenna ert quality antenna = number_at 0 GREATEST_LOST antenna.1 >>= with_lost ert quality
    antenna.0

abbrev with_quality : Cds → ℕ × Left → Result (Entry × Left) EntryFault
with_quality ert quality = antenna_at quality.1 >>= with_antenna ert quality.0

abbrev with_ert : Cds × Left → Result (Entry × Left) EntryFault
with_ert ert = octet_at 0 2 ert.1 >>= with_quality ert.0

frame_takes : (left : Left) (read : Entry × Left) → AreOctets left.octets → frame_at left ≡ Ok read
    → (f : Frame) × (read.0 ≡ frame f) × Takes left (frame_octets f) read.1 × FrameFits f
unfolding frame_at
frame_takes left read all e =
    let ert = bind_ok (time_at left) with_ert read e in
    let quality = bind_ok (octet_at 0 2 ert.0.1) (with_quality ert.0.0) read ert.2 in
    let antenna = bind_ok (antenna_at quality.0.1) (with_antenna ert.0.0 quality.0.0) read quality.2
    in
    let lost = bind_ok (number_at 0 GREATEST_LOST antenna.0.1)
    (with_lost ert.0.0 quality.0.0 antenna.0.0) read antenna.2 in
    let octets = bind_ok (content_at lost.0.1)
    (with_octets ert.0.0 quality.0.0 antenna.0.0 lost.0.0) read lost.2 in
    let f = made_frame ert.0.0 quality.0.0 antenna.0.0 lost.0.0 octets.0.0 in
    let made : ◌≡◌ {A = Entry × Left} (frame f, octets.0.1) read =
    ok_is (frame f, octets.0.1) read octets.2 in
    let t0 = time_takes left ert.0.0 ert.0.1 all ert.1 in
    let a0 = octets_left left (time_octets ert.0.0) ert.0.1 t0.0 all in
    let t1 = octet_takes 0 2 ert.0.1 quality.0.0 quality.0.1 quality.1 in
    let a1 = octets_left ert.0.1 (quality.0.0 ∷ []) quality.0.1 t1.0 a0 in
    let t2 = antenna_takes quality.0.1 antenna.0.0 antenna.0.1 antenna.1 in
    let a2 = octets_left quality.0.1 (antenna_octets antenna.0.0) antenna.0.1 t2.0 a1 in
    let t3 = number_takes 0 GREATEST_LOST antenna.0.1 lost.0.0 lost.0.1 a2 lost.1 in
    let a3 = octets_left antenna.0.1 (to_be_bytes w32 lost.0.0) lost.0.1 t3.0 a2 in
    let t4 = content_takes lost.0.1 octets.0.0 octets.0.1 a3 octets.1 in
    let e3 = takes_then antenna.0.1 (to_be_bytes w32 lost.0.0) lost.0.1 (content_octets octets.0.0)
    octets.0.1 t3.0 t4.0 in
    let e2 = takes_then quality.0.1 (antenna_octets antenna.0.0) antenna.0.1
    (to_be_bytes w32 lost.0.0 ++ content_octets octets.0.0) octets.0.1 t2.0 e3 in
    let e1 = takes_then ert.0.1 (quality.0.0 ∷ []) quality.0.1
    (antenna_octets antenna.0.0 ++ (to_be_bytes w32 lost.0.0 ++ content_octets octets.0.0))
    octets.0.1 t1.0 e2 in
    let e0 = takes_then left (time_octets ert.0.0) ert.0.1
    (quality.0.0 ∷ [] ++ (antenna_octets antenna.0.0
    ++ (to_be_bytes w32 lost.0.0 ++ content_octets octets.0.0))) octets.0.1 t0.0 e1 in (
      f,
      sym (ap (λ (p : Entry × Left). p.0) made),
      subst (Takes left (frame_octets f)) (ap (λ (p : Entry × Left). p.1) made) e0,
      record {
        ert = t0.1;
        quality = t1.2;
        some_antenna = t2.1;
        antenna = t2.2;
        lost = t3.2;
        some = t4.1;
        octets = t4.2;
      },
    )

frame_again : (left : Left) (f : Frame) (new : Left) → Takes left (frame_octets f) new → FrameFits f
    → frame_at left ≡ Ok (frame f, new)
unfolding frame_at
frame_again left f new takes fits =
    let x0 = time_octets f.ert in
    let x1 = f.quality ∷ [] in
    let x2 = antenna_octets f.antenna in
    let x3 = to_be_bytes w32 f.lost in
    let x4 = content_octets f.octets in
    let l1 = past (length x0) left in
    let l2 = past (length x1) l1 in
    let l3 = past (length x2) l2 in
    let l4 = past (length x3) l3 in
    let r1 = second_part left x0 (x1 ++ (x2 ++ (x3 ++ x4))) new takes in
    let r2 = second_part l1 x1 (x2 ++ (x3 ++ x4)) new r1 in
    let r3 = second_part l2 x2 (x3 ++ x4) new r2 in
    let r4 = second_part l3 x3 x4 new r3 in
    rw (
      time_again left f.ert l1 (first_part left x0 (x1 ++ (x2 ++ (x3 ++ x4))) new takes) fits.ert,
      octet_again 0 2 l1 f.quality l2 (first_part l1 x1 (x2 ++ (x3 ++ x4)) new r1) (omega arith)
          fits.quality,
      antenna_again l2 f.antenna l3 (first_part l2 x2 (x3 ++ x4) new r2) fits.some_antenna
          fits.antenna,
      number_again 0 GREATEST_LOST l3 f.lost l4 (first_part l3 x3 x4 new r3)
          (omega (arith, fits.lost)) (omega arith) fits.lost,
      content_again l4 f.octets new r4 fits.some fits.octets,
    ) refl

-- ---- losses of synchronisation

pub record LossFits (l : SyncLoss) : Type 0 where
  pub at : IsTrue (is_moment l.at)
  pub carrier : l.carrier ≤ 3
  pub subcarrier : l.subcarrier ≤ 3
  pub symbol : l.symbol ≤ 3

loss_storable : (l : SyncLoss) → LossFits l → IsTrue (is_storable (loss_of_sync l))
loss_storable l fits = rw fits.at (grind (arith, nat_tests, fits))

loss_fits : (l : SyncLoss) → IsTrue (is_storable (loss_of_sync l)) → LossFits l
loss_fits l is = record {
  at = grind (arith, nat_tests);
  carrier = grind (arith, nat_tests);
  subcarrier = grind (arith, nat_tests);
  symbol = grind (arith, nat_tests);
}

abbrev loss_octets : SyncLoss → List ℕ
loss_octets l = time_octets l.at ++ (l.carrier ∷ [] ++ (l.subcarrier ∷ [] ++ l.symbol ∷ []))

abbrev made_loss : Cds → ℕ → ℕ → ℕ → SyncLoss
made_loss at carrier subcarrier symbol = record {
  at = at;
  carrier = carrier;
  subcarrier = subcarrier;
  symbol = symbol;
}

abbrev with_symbol : Cds → ℕ → ℕ → ℕ × Left → Result (Entry × Left) EntryFault
with_symbol at carrier subcarrier symbol = Ok
    (loss_of_sync (made_loss at carrier subcarrier symbol.0), symbol.1)

abbrev with_subcarrier : Cds → ℕ → ℕ × Left → Result (Entry × Left) EntryFault
with_subcarrier at carrier subcarrier = octet_at 0 3 subcarrier.1 >>= with_symbol at carrier
    subcarrier.0

abbrev with_carrier : Cds → ℕ × Left → Result (Entry × Left) EntryFault
with_carrier at carrier = octet_at 0 3 carrier.1 >>= with_subcarrier at carrier.0

abbrev with_at : Cds × Left → Result (Entry × Left) EntryFault
with_at at = octet_at 0 3 at.1 >>= with_carrier at.0

loss_takes : (left : Left) (read : Entry × Left) → AreOctets left.octets → loss_at left ≡ Ok read
    → (l : SyncLoss) × (read.0 ≡ loss_of_sync l) × Takes left (loss_octets l) read.1 × LossFits l
unfolding loss_at
loss_takes left read all e =
    let at = bind_ok (time_at left) with_at read e in
    let carrier = bind_ok (octet_at 0 3 at.0.1) (with_carrier at.0.0) read at.2 in
    let subcarrier = bind_ok (octet_at 0 3 carrier.0.1) (with_subcarrier at.0.0 carrier.0.0) read
    carrier.2 in
    let symbol = bind_ok (octet_at 0 3 subcarrier.0.1)
    (with_symbol at.0.0 carrier.0.0 subcarrier.0.0) read subcarrier.2 in
    let l = made_loss at.0.0 carrier.0.0 subcarrier.0.0 symbol.0.0 in
    let made : ◌≡◌ {A = Entry × Left} (loss_of_sync l, symbol.0.1) read =
    ok_is (loss_of_sync l, symbol.0.1) read symbol.2 in
    let t0 = time_takes left at.0.0 at.0.1 all at.1 in
    let t1 = octet_takes 0 3 at.0.1 carrier.0.0 carrier.0.1 carrier.1 in
    let t2 = octet_takes 0 3 carrier.0.1 subcarrier.0.0 subcarrier.0.1 subcarrier.1 in
    let t3 = octet_takes 0 3 subcarrier.0.1 symbol.0.0 symbol.0.1 symbol.1 in
    let e2 = takes_then carrier.0.1 (subcarrier.0.0 ∷ []) subcarrier.0.1 (symbol.0.0 ∷ [])
    symbol.0.1 t2.0 t3.0 in
    let e1 = takes_then at.0.1 (carrier.0.0 ∷ []) carrier.0.1
    (subcarrier.0.0 ∷ [] ++ symbol.0.0 ∷ []) symbol.0.1 t1.0 e2 in
    let e0 = takes_then left (time_octets at.0.0) at.0.1
    (carrier.0.0 ∷ [] ++ (subcarrier.0.0 ∷ [] ++ symbol.0.0 ∷ [])) symbol.0.1 t0.0 e1 in (
      l,
      sym (ap (λ (p : Entry × Left). p.0) made),
      subst (Takes left (loss_octets l)) (ap (λ (p : Entry × Left). p.1) made) e0,
      record { at = t0.1; carrier = t1.2; subcarrier = t2.2; symbol = t3.2 },
    )

loss_again : (left : Left) (l : SyncLoss) (new : Left) → Takes left (loss_octets l) new → LossFits l
    → loss_at left ≡ Ok (loss_of_sync l, new)
unfolding loss_at
loss_again left l new takes fits =
    let x0 = time_octets l.at in
    let x1 = l.carrier ∷ [] in
    let x2 = l.subcarrier ∷ [] in
    let x3 = l.symbol ∷ [] in
    let l1 = past (length x0) left in
    let l2 = past (length x1) l1 in
    let l3 = past (length x2) l2 in
    let r1 = second_part left x0 (x1 ++ (x2 ++ x3)) new takes in
    let r2 = second_part l1 x1 (x2 ++ x3) new r1 in
    let r3 = second_part l2 x2 x3 new r2 in
    rw (
      time_again left l.at l1 (first_part left x0 (x1 ++ (x2 ++ x3)) new takes) fits.at,
      octet_again 0 3 l1 l.carrier l2 (first_part l1 x1 (x2 ++ x3) new r1) (omega arith)
          fits.carrier,
      octet_again 0 3 l2 l.subcarrier l3 (first_part l2 x2 x3 new r2) (omega arith) fits.subcarrier,
      octet_again 0 3 l3 l.symbol new r3 (omega arith) fits.symbol,
    ) refl

-- ---- entries

production_storable : (status : ℕ) → status ≤ 2 → IsTrue (is_storable (production status))
production_storable status small = grind (arith, nat_tests)

production_fits : (status : ℕ) → IsTrue (is_storable (production status)) → status ≤ 2
production_fits status is = grind (arith, nat_tests)

seal_storable : (at : Cds) → IsTrue (is_moment at) → IsTrue (is_storable (seal at))
seal_storable at is = rw is refl

seal_fits : (at : Cds) → IsTrue (is_storable (seal at)) → IsTrue (is_moment at)
seal_fits at is = (both (is_moment at) true is).0

-- what stands behind a kind's number, of an entry of that kind
took : (left : Left) (text : List ℕ) (entry : Entry) (read : Entry × Left) → read.0 ≡ entry
    → entry_octets entry ≡ text → Takes left text read.1 → IsTrue (is_storable entry)
    → Took left (entry_octets read.0) read.0 read.1
took left text entry read is spelled takes storable = record {
  takes = subst (λ (t : List ℕ). Takes left t read.1) (sym spelled
      ∙ ap entry_octets (sym is)) takes;
  storable = subst (λ (e : Entry). IsTrue (is_storable e)) (sym is) storable;
}

behind_kind : (left mid : Left) (kind : ℕ) (text : List ℕ) (new : Left) → Takes left (kind ∷ []) mid
    → Takes mid text new → Takes left (kind ∷ text) new
behind_kind left mid kind text new first second =
    takes_then left (kind ∷ []) mid text new first second

abbrev with_status : ℕ × Left → Result (Entry × Left) EntryFault
with_status status = Ok (production status.0, status.1)

abbrev with_seal : Cds × Left → Result (Entry × Left) EntryFault
with_seal at = Ok (seal at.0, at.1)

kind_is : (kind n : ℕ) → (kind == n) ≡ true → kind ≡ n
kind_is kind n e = eqb-true kind n e

module _ (left mid : Left) (kind : ℕ) (read : Entry × Left) (first : Takes left (kind ∷ []) mid)
    (all : AreOctets mid.octets) where
  of_frame : kind ≡ 1 → frame_at mid ≡ Ok read → Took left (entry_octets read.0) read.0 read.1
  of_frame is e =
      let found = frame_takes mid read all e in
      took left (1 ∷ frame_octets found.0) (frame found.0) read found.1 refl
      (subst (λ (k : ℕ). Takes left (k ∷ frame_octets found.0) read.1) is
      (behind_kind left mid kind (frame_octets found.0) read.1 first found.2))
      (frame_storable found.0 found.3)

  of_loss : kind ≡ 2 → loss_at mid ≡ Ok read → Took left (entry_octets read.0) read.0 read.1
  of_loss is e =
      let found = loss_takes mid read all e in
      took left (2 ∷ loss_octets found.0) (loss_of_sync found.0) read found.1 refl
      (subst (λ (k : ℕ). Takes left (k ∷ loss_octets found.0) read.1) is
      (behind_kind left mid kind (loss_octets found.0) read.1 first found.2))
      (loss_storable found.0 found.3)

  of_production : kind ≡ 3 → production_at mid ≡ Ok read
      → Took left (entry_octets read.0) read.0 read.1
  unfolding production_at
  of_production is e =
      let status = bind_ok (octet_at 0 2 mid) with_status read e in
      let made : ◌≡◌ {A = Entry × Left} (production status.0.0, status.0.1) read =
      ok_is (production status.0.0, status.0.1) read status.2 in
      let takes = octet_takes 0 2 mid status.0.0 status.0.1 status.1 in
      let behind : Takes left (kind ∷ status.0.0 ∷ []) read.1 =
      subst (Takes left (kind ∷ status.0.0 ∷ [])) (ap (λ (p : Entry × Left). p.1) made)
      (behind_kind left mid kind (status.0.0 ∷ []) status.0.1 first takes.0) in
      took left (3 ∷ status.0.0 ∷ []) (production status.0.0) read
      (sym (ap (λ (p : Entry × Left). p.0) made)) refl
      (subst (λ (k : ℕ). Takes left (k ∷ status.0.0 ∷ []) read.1) is behind)
      (production_storable status.0.0 takes.2)

  of_seal : kind ≡ 4 → seal_at mid ≡ Ok read → Took left (entry_octets read.0) read.0 read.1
  unfolding seal_at
  of_seal is e =
      let at = bind_ok (time_at mid) with_seal read e in
      let made : ◌≡◌ {A = Entry × Left} (seal at.0.0, at.0.1) read =
      ok_is (seal at.0.0, at.0.1) read at.2 in
      let takes = time_takes mid at.0.0 at.0.1 all at.1 in
      let behind : Takes left (kind ∷ time_octets at.0.0) read.1 =
      subst (Takes left (kind ∷ time_octets at.0.0)) (ap (λ (p : Entry × Left). p.1) made)
      (behind_kind left mid kind (time_octets at.0.0) at.0.1 first takes.0) in
      took left (4 ∷ time_octets at.0.0) (seal at.0.0) read
      (sym (ap (λ (p : Entry × Left). p.0) made)) refl
      (subst (λ (k : ℕ). Takes left (k ∷ time_octets at.0.0) read.1) is behind)
      (seal_storable at.0.0 takes.1)

  of_kind : fields_at kind mid ≡ Ok read → Took left (entry_octets read.0) read.0 read.1
  unfolding fields_at
  of_kind e =
      elim (chosen (kind == 1) (frame_at mid) _ (Ok read) e) [
        | inl fits ↦ of_frame (kind_is kind 1 fits.0) fits.1
        | inr other ↦ elim (chosen (kind == 2) (loss_at mid) _ (Ok read) other.1) [
          | inl fits ↦ of_loss (kind_is kind 2 fits.0) fits.1
          | inr other ↦ elim (chosen (kind == 3) (production_at mid) _ (Ok read) other.1) [
            | inl fits ↦ of_production (kind_is kind 3 fits.0) fits.1
            | inr other ↦ elim (chosen (kind == 4) (seal_at mid) (Err (BadKind kind)) (Ok read)
                other.1) [
                  | inl fits ↦ of_seal (kind_is kind 4 fits.0) fits.1
                  | inr other ↦ absurd (err_ok (BadKind kind) read other.1)
                ]
          ]
        ]
      ]

one_first : (left : Left) (x : List ℕ) (mid : Left) → Takes left x mid → length x ≡ 1
    → Takes left (slice_index x 0 ∷ []) mid
one_first left [] mid takes one = absurd (omega arith)
one_first left (octet ∷ []) mid takes one = takes
one_first left (octet ∷ other ∷ x) mid takes one = absurd (omega arith)

entry_takes : (left : Left) (read : Entry × Left) → AreOctets left.octets → entry_at left ≡ Ok read
    → Took left (entry_octets read.0) read.0 read.1
unfolding entry_at
entry_takes left read all e =
    let kind = bind_ok (octets_at 1 left) (λ kind. fields_at (slice_index kind.0 0) kind.1) read e
    in
    let taken = octets_take 1 left kind.0.0 kind.0.1 kind.1 in
    of_kind left kind.0.1 (slice_index kind.0.0 0) read
    (one_first left kind.0.0 kind.0.1 taken.0 taken.1)
    (octets_left left kind.0.0 kind.0.1 taken.0 all) kind.2

-- the other way: the octets of a storable entry are read
entry_again_of : (left : Left) (kind : ℕ) (text : List ℕ) (new : Left)
    (read : Result (Entry × Left) EntryFault) → Takes left (kind ∷ text) new
    → fields_at kind (past 1 left) ≡ read → entry_at left ≡ read
unfolding entry_at
entry_again_of left kind text new read takes e =
    rw (octets_again 1 left (kind ∷ []) (past 1 left) (first_part left (kind ∷ []) text new takes)
    refl) e

production_again : (left : Left) (status : ℕ) (new : Left) → Takes left (status ∷ []) new
    → status ≤ 2 → production_at left ≡ Ok (production status, new)
unfolding production_at
production_again left status new takes small =
    rw (octet_again 0 2 left status new takes (omega arith) small) refl

seal_again : (left : Left) (at : Cds) (new : Left) → Takes left (time_octets at) new
    → IsTrue (is_moment at) → seal_at left ≡ Ok (seal at, new)
unfolding seal_at
seal_again left at new takes is = rw (time_again left at new takes is) refl

fields_again : (left : Left) (entry : Entry) (new : Left) → Takes left (entry_octets entry) new
    → IsTrue (is_storable entry) → entry_at left ≡ Ok (entry, new)
unfolding fields_at
fields_again left (frame f) new takes is =
    entry_again_of left 1 (frame_octets f) new (Ok (frame f, new)) takes
    (frame_again (past 1 left) f new (second_part left (1 ∷ []) (frame_octets f) new takes)
    (frame_fits f is))
fields_again left (loss_of_sync l) new takes is =
    entry_again_of left 2 (loss_octets l) new (Ok (loss_of_sync l, new)) takes
    (loss_again (past 1 left) l new (second_part left (2 ∷ []) (loss_octets l) new takes)
    (loss_fits l is))
fields_again left (production status) new takes is =
    entry_again_of left 3 (status ∷ []) new (Ok (production status, new)) takes
    (production_again (past 1 left) status new
    (second_part left (3 ∷ []) (status ∷ []) new takes) (production_fits status is))
fields_again left (seal at) new takes is =
    entry_again_of left 4 (time_octets at) new (Ok (seal at, new)) takes
    (seal_again (past 1 left) at new (second_part left (4 ∷ []) (time_octets at) new takes)
    (seal_fits at is))

-- ---- the entry at a place

abbrev with_end : Entry × Left → Result (Entry × ℕ) EntryFault
with_end read = Ok (read.0, read.1.place)

octets_behind : (place : ℕ) (octets : List ℕ) → AreOctets octets → AreOctets (drop place octets)
octets_behind place octets all n = rw get_or-drop (all (place + n))

pub stands : (place : ℕ) (octets : List ℕ) (entry : Entry) (end : ℕ) → AreOctets octets
    → entry_from place octets ≡ Ok (entry, end) → StandsFrom place octets entry end
unfolding entry_from
stands place octets entry end all e =
    let read = bind_ok (entry_at (from place octets)) with_end (entry, end) e in
    let made : ◌≡◌ {A = Entry × ℕ} (read.0.0, read.0.1.place) (entry, end) =
    ok_is (read.0.0, read.0.1.place) (entry, end) read.2 in
    let found = entry_takes (from place octets) read.0 (octets_behind place octets all) read.1 in
    let text = entry_octets read.0.0 in
    let entry_is : read.0.0 ≡ entry = ap (λ (p : Entry × ℕ). p.0) made in
    let ends : end ≡ place + length text = sym (ap (λ (p : Entry × ℕ). p.1) made)
    ∙ found.takes.place in
    let left : read.0.1.octets ≡ drop end octets =
    sym (drop_at text read.0.1.octets (length text) refl)
    ∙ ap (drop (length text)) (sym found.takes.is) ∙ drop-drop (length text) place octets
    ∙ ap (λ (n : ℕ). drop n octets) (sym ends) in
    record {
      storable = subst (λ (x : Entry). IsTrue (is_storable x)) entry_is found.storable;
      ends = ends ∙ ap (λ (x : Entry). place + length (entry_octets x)) entry_is;
      spelled = found.takes.is ∙ ap (λ (rest : List ℕ). text ++ rest) left
          ∙ ap (λ (x : Entry). entry_octets x ++ drop end octets) entry_is;
    }

pub read_there : (place : ℕ) (octets : List ℕ) (entry : Entry) (end : ℕ)
    → StandsFrom place octets entry end → entry_from place octets ≡ Ok (entry, end)
unfolding entry_from
read_there place octets entry end there =
    rw (fields_again (from place octets) entry (from end octets)
    (record { is = there.spelled; place = there.ends }) there.storable) refl

pub read_again : (entry : Entry) (more : List ℕ) → IsTrue (is_storable entry)
    → entry_from 0 (entry_octets entry ++ more) ≡ Ok (entry, length (entry_octets entry))
read_again entry more is =
    read_there 0 (entry_octets entry ++ more) entry (length (entry_octets entry)) (record {
      storable = is;
      ends = omega arith;
      spelled = ap (λ (rest : List ℕ). entry_octets entry ++ rest)
          (sym (drop_at (entry_octets entry) more (length (entry_octets entry)) refl));
    })
