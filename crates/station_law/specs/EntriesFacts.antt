-- The facts of an entry's line.
use Rattle.std.proofs.Common.{◌≡◌, Bool, true, false, ◌&&◌, not, if◌then◌else◌, Some, None}
use Rattle.std.proofs.Common.{Option}
use Rattle.std.proofs.Common.{IsTrue, List, [], ◌∷◌, ◌++◌, refl, sym, ap, ◌∙◌, arith}
use Rattle.std.proofs.lemmas.List.{append-nil}
use Rattle.archive_terms.specs.Archive.{Entry, is_archive, IsArchive, is_valid, is_short}
use Rattle.archive_terms.specs.Archive.{keeps_order, may_follow}
use Rattle.gate_journal.specs.JournalState.{leaves_batch, holds_batch}
use Rattle.script_store.specs.declared.order.Order.{Order}
use Rattle.script_store.specs.declared.order.Strike.{Strike}
use Rattle.script_store.specs.declared.order.Strike.TheVariants.{Stop, Fail}
use Rattle.script_store.specs.declared.step_done.StepDone.{StepDone}
use Rattle.script_store.specs.declared.step_done.StepDone.TheVariants.{Fine}
use Rattle.script_store.specs.declared.refusal.Refusal.{Refusal}
use Rattle.script_store.specs.declared.refusal.Refusal.TheVariants as refusals
use Rattle.script_store.specs.Store.{Store}
use Rattle.script_store.specs.Orders.{is_hit, behind_store, leaves_entry, found}
use Rattle.script_store.specs.Said.{Said, Handed, handed_by, told, buffers_handed, buffers_told}
use Rattle.script_store.specs.Said.{fault}
use Rattle.script_store.specs.Answer.{ends}
use Rattle.station_law.specs.Sound.{IsSound, Keeps}
use Rattle.script_store.specs.Entries.{need, free, notice_of, done_of, by_refusal, offer}
use Rattle.script_store.specs.Entries.{opened, stores, crashes, struck, stores_under}

-- an archive grows by an entry that may follow it
abbrev pub Grows : Type 0
Grows = (a : List Entry) (e : Entry) → is_archive (a ++ e ∷ []) ≡ (is_archive a && may_follow a e)

-- a line that hands nothing over and changes nothing that is published
pub leaves_all : (before next : Store) (done : StepDone) (said : List Said)
    → next.published ≡ before.published → next.unsettled ≡ before.unsettled
    → ((starts : List Handed) → handed_by starts said ≡ starts) → buffers_told said ≡ 0
    → IsSound before → Keeps before (ends done said next)
leaves_all before next done said same settled hands none sound = record {
  sound = record { archive = rw same sound.archive; settled = settled ∙ sound.settled };
  moves = same ∙ sym (append-nil before.published);
  whole = λ starts.
      let all : buffers_handed (handed_by starts said) ≡ buffers_handed starts =
      ap buffers_handed (hands starts) in
      omega (arith, all, none);
}

-- an entry that isn't refused may follow
module _ (grows : Grows) (state : Store) (entry : Entry) (sound : IsSound state)
    (valid : IsTrue (is_valid entry)) where
  longer : keeps_order state.published entry ≡ true → is_short entry ≡ true
      → IsArchive (state.published ++ entry ∷ [])
  longer ordered short = rw grows (grind (arith, sound.archive, valid, ordered, short))

  -- it is published, and nothing is handed over
  adds : (next : Store) (said : List Said) → IsArchive (state.published ++ entry ∷ [])
      → next.published ≡ state.published ++ entry ∷ [] → next.unsettled ≡ state.unsettled
      → ((starts : List Handed) → handed_by starts said ≡ starts) → buffers_told said ≡ 0
      → Keeps state (record {
        said = said;
        given = entry ∷ [];
        recovers = false;
        done = Fine;
        next = next;
      })
  adds next said archive is settled hands none = record {
    sound = record { archive = rw is archive; settled = settled ∙ sound.settled };
    moves = is;
    whole = λ starts.
        let all : buffers_handed (handed_by starts said) ≡ buffers_handed starts =
        ap buffers_handed (hands starts) in
        omega (arith, all, none);
  }

  -- a recovery finds it, or doesn't
  recovers : (kept : Bool) → IsArchive (state.published ++ entry ∷ [])
      → Keeps state (crashes state entry
      (if kept then state.published ++ entry ∷ [] else state.published))
  recovers true archive = record {
    sound = record { archive = archive; settled = sound.settled };
    moves = (1, refl);
    whole = λ starts. omega arith;
  }
  recovers false archive = record {
    sound = record { archive = sound.archive; settled = sound.settled };
    moves = (0, sym (append-nil state.published));
    whole = λ starts. omega arith;
  }

  hit : (order : Order) (strike : Strike) → IsArchive (state.published ++ entry ∷ [])
      → Keeps state (struck state entry (if leaves_entry strike order.calls
      then state.published ++ entry ∷ [] else state.published) strike)
  hit order (Stop pick) archive = recovers (leaves_batch order.calls pick) archive
  hit order Fail archive = adds _ (opened fault (if holds_batch order.calls
      then state.published ++ entry ∷ [] else state.published)) archive refl refl (λ starts. refl)
      refl

  by_hit : (order : Order) (hits : Bool) → IsArchive (state.published ++ entry ∷ [])
      → Keeps state (if hits
      then struck state entry (found order state.published entry) order.strike
      else stores (record state { order = behind_store order }) entry)
  by_hit order true archive = hit order order.strike archive
  by_hit order false archive = adds _ [] archive refl refl (λ starts. refl) refl

  under : (order : Option Order) → IsArchive (state.published ++ entry ∷ [])
      → Keeps state (stores_under state entry order)
  under None archive = adds _ [] archive refl refl (λ starts. refl) refl
  under (Some order) archive = by_hit order (is_hit order) archive

  stored : keeps_order state.published entry ≡ true → is_short entry ≡ true
      → Keeps state (by_refusal state entry None)
  stored ordered short = under state.order (longer ordered short)

  refused : (why : Refusal) → Keeps state (by_refusal state entry (Some why))
  refused why = leaves_all state state (done_of why) (told (notice_of why) ∷ []) refl refl
      (λ starts. refl) refl sound

  by_case : (ordered short over : Bool) → keeps_order state.published entry ≡ ordered
      → is_short entry ≡ short
      → Keeps state (by_refusal state entry (if not ordered then Some refusals.Backward
      else if not short then Some refusals.TooLong
      else if over then Some (refusals.Full (need entry) (free state))
      else None))
  by_case false short over ordered_is short_is = refused refusals.Backward
  by_case true false over ordered_is short_is = refused refusals.TooLong
  by_case true true true ordered_is short_is = refused (refusals.Full (need entry) (free state))
  by_case true true false ordered_is short_is = stored ordered_is short_is

  pub facts : Keeps state (offer state entry)
  facts = by_case (keeps_order state.published entry) (is_short entry) _ refl refl
