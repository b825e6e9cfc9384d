-- What is left where memory was wanted.
use Rattle.std.proofs.Common.{◌≡◌, ◌⊎◌, inl, inr, ℕ, Bool, true, false, List, [], ◌∷◌, map, take}
use Rattle.std.proofs.Common.{drop, Option, refl, sym, ap, subst, ◌∙◌, arith}
use Rattle.std.proofs.lemmas.List.{take-append-drop, append-nil, map-append}
use Rattle.archive_terms.specs.Archive as terms
use Rattle.octet_core.specs.Told.{Tells}
use Rattle.disk_model.specs.Images.{Pending}
use Rattle.disk_model.specs.declared.call.Call.{Call}
use Rattle.frame_archive.specs.State.{ArchiveState}
use Rattle.record_form.specs.declared.entry.Entry.{Entry}
use Rattle.record_form.specs.Entry.{entry_of, entries_of}
use Rattle.recorder.specs.declared.record_fault.RecordFault.{RecordFault}
use Rattle.recorder.specs.declared.record_fault.RecordFault.TheVariants as faults
use Rattle.recorder.specs.Offers.{Offered, offered, after_offers, none_dropped, IsCutShort}
use Rattle.recorder.specs.Feeds.{Answer, gave, not_yet, at_end}
use Rattle.recorder.specs.Polling.{IsPolled, Gave}
use Rattle.recorder.specs.Steps.{IsLeft}
use Rattle.recorder.proofs.OneMore.{offers_none}

-- the source gave what was polled
pub polled_gave : (last : Bool) (entries : List terms.Entry) (before after : Option (List Answer))
    → IsPolled last entries before after → Gave entries before after
polled_gave true entries before after is = (at_end ∷ [], omega arith, is.1)
polled_gave false entries before after (inl is) = (not_yet ∷ [], omega arith, is.1)
polled_gave false entries before after (inr is) = (
  [],
  omega arith,
  subst (λ (answers : List Answer). Tells before after answers)
      (sym (append-nil (map gave entries))) is.1,
)

-- none was offered
pub none_offered : {D : Type 0} (start : Offered D) (entries : List terms.Entry)
    → IsCutShort start entries start.archive
none_offered {D} start entries = record {
  front = [];
  rest = entries;
  all = refl;
  state = ap (λ (o : Offered D). o.archive) (offers_none start);
}

-- the first i of them were offered
pub first_offered : {D : Type 0} (start now : Offered D) (new : ArchiveState D)
    (entries : List Entry) (i : ℕ) → now ≡ after_offers start (entries_of (take i entries))
    → new ≡ now.archive → IsCutShort start (entries_of entries) new
first_offered {D} start now new entries i was same = record {
  front = entries_of (take i entries);
  rest = entries_of (drop i entries);
  all = ap entries_of (sym (take-append-drop i entries))
      ∙ map-append entry_of (take i entries) (drop i entries);
  state = same ∙ ap (λ (o : Offered D). o.archive) was;
}

-- all of them were offered
pub all_offered : {D : Type 0} (start now : Offered D) (new : ArchiveState D)
    (entries : List terms.Entry) → now ≡ after_offers start entries → new ≡ now.archive
    → IsCutShort start entries new
all_offered {D} start now new entries was same = record {
  front = entries;
  rest = [];
  all = sym (append-nil entries);
  state = same ∙ ap (λ (o : Offered D). o.archive) was;
}

module _ {D : Type 0} (pending : D → Option Pending) (faults_of : D → ℕ)
    (makes fails : D → Call → D → Type 0) (fails_to_read : D → D → Type 0) where
  -- nothing was stored, and nothing is to be offered
  pub polled_left : (fault : RecordFault) (archive : ArchiveState D) (polled : List terms.Entry)
      → (fault ≡ faults.SourceFault) ⊎ (fault ≡ faults.Memory)
      → IsLeft pending faults_of makes fails fails_to_read fault archive polled archive
  polled_left fault archive polled (inl is) =
      subst (λ (f : RecordFault). IsLeft pending faults_of makes fails fails_to_read f archive
      polled archive) (sym is) refl
  polled_left fault archive polled (inr is) =
      subst (λ (f : RecordFault). IsLeft pending faults_of makes fails fails_to_read f archive
      polled archive) (sym is) (inl (none_offered (offered archive none_dropped) polled))

  -- memory was wanted before a store
  pub short_left : (fault : RecordFault) (archive new : ArchiveState D)
      (polled : List terms.Entry) → fault ≡ faults.Memory
      → IsCutShort (offered archive none_dropped) polled new
      → IsLeft pending faults_of makes fails fails_to_read fault archive polled new
  short_left fault archive new polled is short =
      subst (λ (f : RecordFault). IsLeft pending faults_of makes fails fails_to_read f archive
      polled new) (sym is) (inl short)
