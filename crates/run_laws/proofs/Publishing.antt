-- A history whose publishings make up an archive with the entries of its book: none is foreign.
use Rattle.std.proofs.Common.{◌≡◌, Bool, true, false, ◌&&◌, cond, if◌then◌else◌, List, []}
use Rattle.std.proofs.Common.{◌∷◌, ◌++◌}
use Rattle.std.proofs.Common.{map, filter, refl, sym, ap, subst, ◌∙◌, append_assoc, append-nil}
use Rattle.std.specs.List.{list_any}
use Rattle.archive_terms.specs.Archive.{Entry, is_archive, IsArchive, may_follow}
use Rattle.gate_journal.proofs.Again.{archive_front}
use Rattle.station_book.specs.State.{State as Book, Event, Call, publish, answer, quit, take, done}
use Rattle.station_book.specs.State.{interrupted, uplink, gone, accepted, foreign}
use Rattle.station_book.specs.History.{IsLegal, reply_to, then_after, may_publish, event_at}
use Rattle.station_book.specs.Publishing.{published_by}
use Rattle.station_book.proofs.Published.{one_published}
use Rattle.run_laws.specs.Lossless.{is_foreign}
use Rattle.run_laws.proofs.Calls.{is_publish, or_none}

-- all of several lists, in order
abbrev pub joined : List (List Entry) → List Entry
joined [] = []
joined (xs ∷ lists) = xs ++ joined lists

-- the events that publish, and the calls of events
abbrev pub publishing : Event → Bool
publishing e = is_publish e.call

abbrev pub calls : List Event → List Call
calls es = map (λ e. e.call) es

-- a call that doesn't publish changes no published entry, and isn't answered Foreign
record IsQuiet (s : Book) (c : Call) : Type 0 where
  entries : published_by c (reply_to s c) ≡ []
  reply : is_foreign (reply_to s c) ≡ false

quiet : (s : Book) (c : Call) → is_publish c ≡ false → IsQuiet s c
quiet s (publish entries) is = absurd (cc is)
quiet s (answer door reading ask want) is = record { entries = refl; reply = refl }
quiet s (quit door) is = record { entries = refl; reply = refl }
quiet s (take reading) is = record { entries = refl; reply = refl }
quiet s (done run id reading) is = record { entries = refl; reply = refl }
quiet s (interrupted run id reading) is = record { entries = refl; reply = refl }
quiet s (uplink production status reading) is = record { entries = refl; reply = refl }
quiet s (gone worker) is = record { entries = refl; reply = refl }

module _ (grows : (a : List Entry) (e : Entry)
    → is_archive (a ++ e ∷ []) ≡ (is_archive a && may_follow a e)) where
  -- one that does is accepted where the archive stays one
  taken : (s : Book) (xs : List Entry) → may_publish s xs ≡ true
      → (published_by (publish xs) (reply_to s (publish xs)) ≡ xs)
      × (is_foreign (reply_to s (publish xs)) ≡ false)
  taken s xs is = (
    ap (λ (b : Bool). published_by (publish xs) (if b then accepted else foreign)) is,
    ap (λ (b : Bool). is_foreign (if b then accepted else foreign)) is,
  )

  replied : (s : Book) (e : Event) → e ≡ event_at s e.call
      → is_foreign e.reply ≡ is_foreign (reply_to s e.call)
  replied s e is = ap (λ (x : Event). is_foreign x.reply) is

  -- what is known of the events behind one
  abbrev Goes : Book → Event → List Event → Type 0
  Goes s e h = (lists : List (List Entry)) → IsLegal (then_after s e) h
      → calls (filter publishing h) ≡ map publish lists
      → IsArchive ((then_after s e).published ++ joined lists)
      → list_any (λ (x : Event). is_foreign x.reply) h ≡ false

  published : (s : Book) (e : Event) (xs : List Entry)
      → published_by e.call (reply_to s e.call) ≡ xs
      → (then_after s e).published ≡ s.published ++ xs
  published s e xs is =
      one_published s e.call ∙ ap (λ (ys : List Entry). s.published ++ ys) is

  accepted_one : (s : Book) (e : Event) (h : List Event) (ls : List (List Entry))
      → e ≡ event_at s e.call → IsLegal (then_after s e) h
      → e.call ∷ calls (filter publishing h) ≡ map publish ls
      → IsArchive (s.published ++ joined ls) → Goes s e h
      → list_any (λ (x : Event). is_foreign x.reply) (e ∷ h) ≡ false
  accepted_one s e h [] event_is legal same archive goes = absurd (cc same)
  accepted_one s e h (xs ∷ ls) event_is legal same archive goes =
      let call_is : e.call ≡ publish xs = cc same in
      let calls_are : calls (filter publishing h) ≡ map publish ls = cc same in
      let whole : IsArchive ((s.published ++ xs) ++ joined ls) =
      subst IsArchive (sym (append_assoc s.published xs (joined ls))) archive in
      let may : may_publish s xs ≡ true =
      archive_front grows (s.published ++ xs) (joined ls) whole in
      let now = taken s xs may in
      let entries : published_by e.call (reply_to s e.call) ≡ xs =
      ap (λ (c : Call). published_by c (reply_to s c)) call_is ∙ now.0 in
      let reply : is_foreign e.reply ≡ false =
      replied s e event_is ∙ (ap (λ (c : Call). is_foreign (reply_to s c)) call_is ∙ now.1) in
      or_none (is_foreign e.reply) _ reply
      (goes ls legal calls_are
      (subst (λ (ys : List Entry). IsArchive (ys ++ joined ls)) (sym (published s e xs entries))
      whole))

  quiet_one : (s : Book) (e : Event) (h : List Event) (ls : List (List Entry))
      → is_publish e.call ≡ false → e ≡ event_at s e.call → IsLegal (then_after s e) h
      → calls (filter publishing h) ≡ map publish ls → IsArchive (s.published ++ joined ls)
      → Goes s e h → list_any (λ (x : Event). is_foreign x.reply) (e ∷ h) ≡ false
  quiet_one s e h ls here event_is legal same archive goes =
      let q = quiet s e.call here in
      or_none (is_foreign e.reply) _ (replied s e event_is ∙ q.reply)
      (goes ls legal same
      (subst (λ (ys : List Entry). IsArchive (ys ++ joined ls))
      (sym (published s e [] q.entries ∙ append-nil s.published)) archive))

  pub none_foreign : (h : List Event) (s : Book) (lists : List (List Entry)) → IsLegal s h
      → calls (filter publishing h) ≡ map publish lists
      → IsArchive (s.published ++ joined lists) → list_any (λ e. is_foreign e.reply) h ≡ false
  none_foreign [] s lists legal is archive = refl
  none_foreign (e ∷ h) s lists legal is archive =
      by (is_publish e.call) refl (none_foreign h (then_after s e))
    where
      so : (b : Bool) → is_publish e.call ≡ b
          → calls (cond b (e ∷ filter publishing h) (filter publishing h)) ≡ map publish lists
      so b here =
          sym (ap (λ (c : Bool). calls (cond c (e ∷ filter publishing h) (filter publishing h)))
          here) ∙ is

      by : (b : Bool) → is_publish e.call ≡ b → Goes s e h
          → list_any (λ (x : Event). is_foreign x.reply) (e ∷ h) ≡ false
      by true here goes =
          accepted_one s e h lists legal.0 legal.1 (so true here) archive goes
      by false here goes =
          quiet_one s e h lists here legal.0 legal.1 (so false here) archive goes
