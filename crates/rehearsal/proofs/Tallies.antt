-- What is counted of a buffer is the same as its items say it, and adds up over buffers.
use Rattle.std.proofs.Common.{◌≡◌, ℕ, ◌+◌, Bool, cond, ◌||◌, ℤ, Option}
use Rattle.std.proofs.Common.{List, [], ◌∷◌, ◌++◌, map, refl, sym, ap}
use Rattle.std.proofs.Common.{subst, ◌∙◌}
use Rattle.std.proofs.Common.{arith}
use Rattle.std.specs.List.{count_by, sum_by, list_any}
use Rattle.std.proofs.lemmas.Grind.{flat_map-append}
use Rattle.std.proofs.lemmas.List.{append-nil}
use Rattle.std.proofs.lemmas.List.Sums.{sum_by-cons, sum_by-append}
use Rattle.archive_terms.specs.Archive.{frame, loss_of_sync, production, seal}
use Rattle.archive_terms.specs.Delivery.{Item, archived, backlog, end_of_data}
use Rattle.frame_select.specs.Item.{said_of}
use Rattle.sha1.specs.Sha1.{Holds}
use Rattle.station_desk.specs.ToldBuffer.{ToldBuffer, message_octets}
use Rattle.rehearsal.specs.declared.tally.Tally.{Tally}
use Rattle.rehearsal.specs.Counts.{tells_frame, tells_end}
use Rattle.rehearsal.specs.Counts.{octets_sent, Counts}

-- an item as it is told
abbrev One : Type 0
One = Item × Option ℤ

-- ---- as the items say it

pub said_frame : (x : One) → tells_frame (said_of x) ≡ tells_frame x
said_frame (archived place (frame f), continuity) = refl
said_frame (archived place (loss_of_sync l), continuity) = refl
said_frame (archived place (production status), continuity) = refl
said_frame (archived place (seal at), continuity) = refl
said_frame (backlog, continuity) = refl
said_frame (end_of_data, continuity) = refl

pub said_end : (x : One) → tells_end (said_of x) ≡ tells_end x
said_end (archived place entry, continuity) = refl
said_end (backlog, continuity) = refl
said_end (end_of_data, continuity) = refl

pub count_said : (test : One → Bool) → ((x : One) → test (said_of x) ≡ test x) →
    (buffer : ToldBuffer) → count_by test (map said_of buffer) ≡ count_by test buffer
count_said test same [] = refl
count_said test same (x ∷ buffer) =
    let value = λ (x : One). cond {A = ℕ} (test x) 1 0 in
    let first : value (said_of x) ≡ value x = ap (λ b. cond {A = ℕ} b 1 0) (same x) in
    omega (
      arith,
      first,
      sum_by-cons value (said_of x) (map said_of buffer),
      sum_by-cons value x buffer,
      count_said test same buffer,
    )

pub any_said : (buffer : ToldBuffer) → list_any tells_frame (map said_of buffer)
    ≡ list_any tells_frame buffer
any_said [] = refl
any_said (x ∷ buffer) =
    ap (λ b. b || list_any tells_frame (map said_of buffer)) (said_frame x)
    ∙ ap (λ b. tells_frame x || b) (any_said buffer)

-- ---- one buffer more

abbrev pub frames_in : ToldBuffer → ℕ
frames_in buffer = count_by tells_frame buffer

abbrev pub has_frame : ToldBuffer → ℕ
has_frame buffer = cond (list_any tells_frame buffer) 1 0

abbrev pub ends_in : ToldBuffer → ℕ
ends_in buffer = count_by tells_end buffer

sum_more : (value : ToldBuffer → ℕ) (told : List ToldBuffer) (buffer : ToldBuffer)
    → sum_by value (told ++ buffer ∷ []) ≡ sum_by value told + value buffer
sum_more value told buffer =
    omega (arith, sum_by-append value told (buffer ∷ []), sum_by-cons value buffer [])

octets_more : (told : List ToldBuffer) (buffer : ToldBuffer)
    → octets_sent (told ++ buffer ∷ []) ≡ octets_sent told ++ message_octets buffer
octets_more told buffer =
    flat_map-append message_octets told (buffer ∷ [])
    ∙ ap (λ last. octets_sent told ++ last) (append-nil (message_octets buffer))

pub counts_more : (old new : Tally) (told : List ToldBuffer) (buffer : ToldBuffer) → Counts old told
    → new.frames ≡ old.frames + frames_in buffer → new.buffers ≡ old.buffers + has_frame buffer
    → new.ends ≡ old.ends + ends_in buffer
    → ((octets : List ℕ) → Holds old.hasher octets
    → Holds new.hasher (octets ++ message_octets buffer))
    → Counts new (told ++ buffer ∷ [])
counts_more old new told buffer counts frames buffers ends hashed = record {
  frames = omega (arith, frames, counts.frames, sum_more frames_in told buffer);
  buffers = omega (arith, buffers, counts.buffers, sum_more has_frame told buffer);
  ends = omega (arith, ends, counts.ends, sum_more ends_in told buffer);
  octets = subst (Holds new.hasher) (sym (octets_more told buffer))
      (hashed (octets_sent told) counts.octets);
}
