-- What the events of a history publish.
use Rattle.std.proofs.Common.{IfSome, unwrap_or, ◌≡◌, ℕ, ◌≤◌, true, false, List, [], ◌∷◌}
use Rattle.std.proofs.Common.{◌++◌, length, length-append, if◌then◌else◌, Bool, refl, ap, sym}
use Rattle.std.proofs.Common.{subst, ◌∙◌, append_assoc, append-nil, arith}
use Rattle.std.proofs.lemmas.List.Sums.{fold-append}
use mathlib.Core.List.{IsPrefix}
use Rattle.archive_terms.specs.Archive.{Entry, is_archive, IsArchive}
use Rattle.archive_terms.specs.Glimpse.{Want, wants_nothing, wants_front, wants_items, glimpse}
use Rattle.station_book.specs.State.{State, Event, Call, publish, answer, quit, take, done}
use Rattle.station_book.specs.State.{interrupted, uplink, gone, Reply, nothing, accepted, foreign}
use Rattle.station_book.specs.State.{answered, took}
use Rattle.station_book.specs.History.{after, may_publish, moment_at, reply_to, event_at}
use Rattle.station_book.specs.History.{then_after, replay, IsLegal}
use Rattle.station_book.specs.Publishing.{published_by, published_in, front_of, FrontsRise}
use Rattle.station_book.proofs.Histories.{asked_keeps, legal_begins, legal_goes_on}

accepts : (b : Bool) (s : State) (entries : List Entry)
    → (if b then record s { published = s.published ++ entries } else s).published
    ≡ s.published ++ published_by (publish entries) (if b then accepted else foreign)
accepts true s entries = refl
accepts false s entries = sym (append-nil s.published)

pub one_published : (s : State) (call : Call)
    → (after s call).published ≡ s.published ++ published_by call (reply_to s call)
one_published s (publish entries) = accepts (may_publish s entries) s entries
one_published s (answer door reading ask want) =
    asked_keeps (λ t. t.published) s door (moment_at s reading) ask refl
    ∙ sym (append-nil s.published)
one_published s (quit door) = sym (append-nil s.published)
one_published s (take reading) = sym (append-nil s.published)
one_published s (done run id reading) = sym (append-nil s.published)
one_published s (interrupted run id reading) = sym (append-nil s.published)
one_published s (uplink production status reading) = sym (append-nil s.published)
one_published s (gone worker) = sym (append-nil s.published)

pub all_published : (s : State) (h : List Event) → IsLegal s h
    → (replay s h).published ≡ s.published ++ published_in h
all_published s [] legal = sym (append-nil s.published)
all_published s (e ∷ h) legal =
    let own : published_by e.call (reply_to s e.call) ≡ published_by e.call e.reply =
    ap (λ x. published_by e.call x.reply) (sym legal.0) in
    all_published (then_after s e) h legal.1
    ∙ ap (λ xs. xs ++ published_in h) (one_published s e.call ∙ ap (λ xs. s.published ++ xs) own)
    ∙ append_assoc s.published (published_by e.call e.reply) (published_in h)

goes_on : (s : State) (k : List Event) → IsPrefix s.published (replay s k).published
goes_on s [] = ([], append-nil s.published)
goes_on s (e ∷ k) =
    let more = goes_on (then_after s e) k in
    let own = published_by e.call (reply_to s e.call) in (
      own ++ more.0,
      sym (append_assoc s.published own more.0)
          ∙ ap (λ xs. xs ++ more.0) (sym (one_published s e.call)) ∙ more.1,
    )

pub published_begins : (s : State) (h k : List Event)
    → IsPrefix (replay s h).published (replay s (h ++ k)).published
published_begins s h k = subst (λ t. IsPrefix (replay s h).published t.published)
    (sym (fold-append then_after s h k)) (goes_on (replay s h) k)

stays_archive : (b : Bool) (s : State) (entries : List Entry) → may_publish s entries ≡ b
    → IsArchive s.published
    → IsArchive (if b then record s { published = s.published ++ entries } else s).published
stays_archive true s entries e so = e
stays_archive false s entries e so = so

one_archive : (s : State) (call : Call) → IsArchive s.published → IsArchive (after s call).published
one_archive s (publish entries) so = stays_archive (may_publish s entries) s entries refl so
one_archive s (answer door reading ask want) so =
    subst (λ xs. IsArchive xs) (sym (asked_keeps (λ t. t.published) s door (moment_at s reading) ask
    refl)) so
one_archive s (quit door) so = so
one_archive s (take reading) so = so
one_archive s (done run id reading) so = so
one_archive s (interrupted run id reading) so = so
one_archive s (uplink production status reading) so = so
one_archive s (gone worker) so = so

pub all_archive : (s : State) (h : List Event) → IsArchive s.published
    → IsArchive (replay s h).published
all_archive s [] so = so
all_archive s (e ∷ h) so = all_archive (then_after s e) h (one_archive s e.call so)

-- fronts

longer : (s : State) (call : Call) → length s.published ≤ length (after s call).published
longer s call = omega (
  arith,
  ap length (one_published s call)
      ∙ length-append s.published (published_by call (reply_to s call)),
)

from_reply : (least more : ℕ) (h : List Event) → least ≤ more
    → (FrontsRise more h → FrontsRise least h) → (r : Reply)
    → (IfSome (front_of r) (λ front. more ≤ front) × FrontsRise (unwrap_or (front_of r) more) h)
    → IfSome (front_of r) (λ front. least ≤ front) × FrontsRise (unwrap_or (front_of r) least) h
from_reply least more h below on nothing so = (tt, on so.1)
from_reply least more h below on accepted so = (tt, on so.1)
from_reply least more h below on foreign so = (tt, on so.1)
from_reply least more h below on (answered a) so = (omega (arith, below, so.0), so.1)
from_reply least more h below on (took t) so = (tt, on so.1)

fronts_from : (least more : ℕ) (h : List Event) → least ≤ more → FrontsRise more h
    → FrontsRise least h
fronts_from least more [] below so = tt
fronts_from least more (e ∷ h) below so = from_reply least more h below
    (fronts_from least more h below) e.reply so

one_front : (s : State) (call : Call) (h : List Event)
    → FrontsRise (length (after s call).published) h
    → FrontsRise (length s.published) (event_at s call ∷ h)
one_front s (publish entries) h so = by_reply (may_publish s entries)
  where
    on : FrontsRise (length s.published) h
    on = fronts_from (length s.published) (length (after s (publish entries)).published) h
        (longer s (publish entries)) so

    by_reply : (b : Bool) → IfSome (front_of (if b then accepted else foreign))
        (λ front. length s.published ≤ front)
        × FrontsRise (unwrap_or (front_of (if b then accepted else foreign)) (length s.published)) h
    by_reply true = (tt, on)
    by_reply false = (tt, on)
one_front s (answer door reading ask want) h so = (
  front_is want,
  subst (λ n. FrontsRise n h)
      (ap length (asked_keeps (λ t. t.published) s door (moment_at s reading) ask refl)
      ∙ sym (front_of_look want)) so,
)
  where
    front_of_look : (w : Want) → (glimpse s.published w).front ≡ length s.published
    front_of_look wants_nothing = refl
    front_of_look wants_front = refl
    front_of_look (wants_items w) = refl

    front_is : (w : Want) → length s.published ≤ (glimpse s.published w).front
    front_is w = omega (arith, front_of_look w)
one_front s (quit door) h so =
    (tt, fronts_from (length s.published) (length s.published) h (omega arith) so)
one_front s (take reading) h so = (tt, so)
one_front s (done run id reading) h so = (tt, so)
one_front s (interrupted run id reading) h so = (tt, so)
one_front s (uplink production status reading) h so = (tt, so)
one_front s (gone worker) h so = (tt, so)

pub fronts_rise : (s : State) (h : List Event) → IsLegal s h → FrontsRise (length s.published) h
fronts_rise s [] legal = tt
fronts_rise s (e ∷ h) legal = subst (λ x. FrontsRise (length s.published) (x ∷ h)) (sym legal.0)
    (one_front s e.call h (fronts_rise (then_after s e) h legal.1))

-- a publishing's reply, by what was published before
pub publishing_is : (s : State) (h : List Event) (e : Event) (k : List Event) (entries : List Entry)
    → IsLegal s (h ++ e ∷ k) → e.call ≡ publish entries
    → e.reply ≡ (if is_archive (s.published ++ published_in h ++ entries) then accepted
    else foreign)
publishing_is s h e k entries legal is =
    let here = (legal_goes_on s h (e ∷ k) legal).0 in
    ap (λ x. x.reply) here
    ∙ ap (λ call. reply_to (replay s h) call) is
    ∙ ap (λ xs. if is_archive (xs ++ entries) then accepted else foreign)
    (all_published s h (legal_begins s h (e ∷ k) legal))
