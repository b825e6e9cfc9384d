-- The replay of a disk in memory, one event on.
use Rattle.std.proofs.Common.{◌≡◌, ℕ, ◌+◌, List, [], ◌∷◌, ◌++◌, length, take, drop, refl, arith}
use Rattle.std.proofs.lemmas.Grind.{common_steps, fold-append}
use Rattle.std.proofs.lemmas.List.{take-append-le, drop-append-le, take-append-drop, take_all}
use Rattle.std.proofs.lemmas.List.{drop_all, length-append}
use Rattle.disk_model.specs.Images.{overwritten}
use Rattle.disk_model.specs.MemoryDisk.{Agrees, synced_medium, after_call, after_event}
use Rattle.disk_model.specs.MemoryDisk.{medium_after, left_by, replayed}
use Rattle.disk_model.specs.declared.call.Call.{Call}
use Rattle.disk_model.specs.declared.call.Call.TheVariants.{Write, Cut, Sync}
use Rattle.disk_model.specs.declared.event.Event.{Event}
use Rattle.disk_model.specs.declared.event.Event.TheVariants.{Made}
use Rattle.disk_model.specs.declared.orders.Pick.{Pick}
use Rattle.disk_model.specs.declared.orders.Pick.TheVariants.{Old, New, Torn}

-- what is held one event on
pub medium_more : (start : List ℕ) (log : List Event) (event : Event)
    → medium_after start (log ++ event ∷ []) ≡ after_event (medium_after start log) event
medium_more start log event = fold-append after_event (synced_medium start) log (event ∷ [])

-- what holds by each pick
each : (P : Pick → Type 0) → P Old → P New → P Torn → (pick : Pick) → P pick
each P old new torn pick = elim pick as P [ Old ↦ old | New ↦ new | Torn ↦ torn ]

left_of_one : (pick : Pick) (octets : List ℕ) → left_by pick (synced_medium octets) ≡ octets
left_of_one pick octets =
    each (λ pick. left_by pick (synced_medium octets) ≡ octets) refl refl refl pick

module _ (start : List ℕ) (log : List Event) (content base : List ℕ) (based settled : ℕ)
    (agrees : Agrees start log content base based settled) where
  -- a call that stays pending
  agrees_pending : (call : Call) (next : List ℕ)
      → next ≡ (after_call (medium_after start log) call).pending.content
      → ((pick : Pick) → replayed pick (left_by pick (medium_after start log)) (Made call)
      ≡ left_by pick (after_call (medium_after start log) call))
      → Agrees start (log ++ Made call ∷ []) next base based settled
  agrees_pending call next content_next left_next = record {
    content_is = rw medium_more content_next;
    based_there = agrees.based_there;
    settled_there = omega (arith, length-append log (Made call ∷ []));
    replays = λ pick.
        rw (
          take-append-le settled log (Made call ∷ []) agrees.settled_there,
          drop-append-le settled log (Made call ∷ []) agrees.settled_there,
          fold-append (replayed pick) _ (drop settled log) (Made call ∷ []),
          agrees.replays pick,
          medium_more,
        ) (left_next pick);
  }

  pub agrees_write : (place : ℕ) (octets : List ℕ)
      → Agrees start (log ++ Made (Write place octets) ∷ []) (overwritten content place octets) base
      based settled
  agrees_write place octets =
      agrees_pending (Write place octets) (overwritten content place octets) (rw agrees.content_is)
      (each _ refl refl refl)

  pub agrees_cut : (size : ℕ) → Agrees start (log ++ Made (Cut size) ∷ []) (take size content) base
      based settled
  agrees_cut size = agrees_pending (Cut size) (take size content) (rw agrees.content_is)
      (each _ refl refl refl)

  pub agrees_sync : Agrees start (log ++ Made Sync ∷ []) content base based (length log + 1)
  agrees_sync =
      let one_more = length-append log (Made Sync ∷ []) in
      let parts = rw (take-append-drop settled log) at
      (drop-append-le based (take settled log) (drop settled log) (grind (arith, common_steps))) in
      record {
        content_is = rw medium_more agrees.content_is;
        based_there = omega arith;
        settled_there = omega arith;
        replays = λ pick.
            rw (
              drop_all (length log + 1) (log ++ Made Sync ∷ []) (omega arith),
              take_all (length log + 1) (log ++ Made Sync ∷ []) (omega arith),
              drop-append-le based log (Made Sync ∷ []) (omega arith),
              fold-append (replayed New) base (drop based log) (Made Sync ∷ []),
              parts,
              fold-append (replayed New) base (drop based (take settled log)) (drop settled log),
              agrees.replays New,
              medium_more,
              left_of_one pick (medium_after start log).pending.content,
            );
      }

-- the fields agree where others that equal them do
pub agrees_as : (start start' : List ℕ) (log log' : List Event)
    (content content' base base' : List ℕ) (based based' settled settled' : ℕ)
    → start' ≡ start → log' ≡ log → content' ≡ content → base' ≡ base → based' ≡ based
    → settled' ≡ settled
    → Agrees start log content base based settled
    → Agrees start' log' content' base' based' settled'
agrees_as start start' log log' content content' base base' based based' settled settled' starts
    logs contents bases counts settles agrees =
    rw (starts, logs, contents, bases, counts, settles) agrees
