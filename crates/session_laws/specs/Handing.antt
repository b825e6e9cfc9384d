-- What a START hands over, anywhere in the rounds of a session.
use Rattle.std.specs.Prelude.{◌≡◌, ◌⊎◌, true, false, not, ◌&&◌, is_some, Some, None, List, [], ◌∷◌}
use Rattle.std.specs.Prelude.{◌++◌, IsTrue, IsFalse}
use Rattle.archive_terms.specs.Archive.{Entry, IsArchive}
use Rattle.archive_terms.specs.Delivery.{Terms, is_timely}
use Rattle.return_core.specs.Promise.{IsComplete, IsTimely}
use Rattle.return_core.specs.Standing.{at_front, handed_told, said_told}
use Rattle.return_core.specs.Visits.{rounds_of, discards_told}
use Rattle.return_pdu.specs.declared.return_kind.ReturnKind.{ReturnKind}
use Rattle.station_config.specs.Validity.{IsSite}
use Rattle.station_config.specs.declared.site.Site.{Site}
use Rattle.session_core.specs.Lists.{Began, start_of, state_after}
use Rattle.session_core.specs.ServiceSteps.{is_active}
use Rattle.session_core.specs.Course.{is_blocked}
use Rattle.session_core.specs.Steps.{has_block}
use Rattle.session_core.specs.Session.{State, Round, BookAnswer, AreRounds, before_step}
use Rattle.session_core.specs.Session.{standing_spoke, before_speak, after_round, after_rounds}
use Rattle.session_laws.specs.Deliveries.{return_of, is_serving, ServesOn, AreMessagesOf}
use Rattle.session_laws.specs.Deliveries.{visits_of, sent_in, sent_of, dropped_of, SeeEntries}
use Rattle.session_laws.specs.Deliveries.{done_in_rounds}
use Rattle.session_laws.specs.Instances.{shape_at, shape_of_terms}
use Rattle.session_laws.specs.Owing.{OwedOver, ReadyOver}
use Rattle.session_laws.specs.Starts.{Asks}

-- A START among the rounds of a session: those before it, its own, and behind it some in which its
-- service is started still, and any others.
pub record Start : Type 0 where
  pub earlier : List Round
  pub own : Round
  pub serving : List Round
  pub later : List Round

-- how the session stands before the START's own round, and behind it
abbrev pub found_by : Began → Start → State
found_by b a = state_after b a.earlier

abbrev pub begun_by : Began → Start → State
begun_by b a = after_round b.site (found_by b a) a.own

-- An instance of a return service is bound, which isn't started before its round, is behind it, and
-- stays so up to the end of each of the rounds that it serves.
pub record IsStart (b : Began) (rounds : List Round) (a : Start) : Type 0 where
  pub stands : rounds ≡ a.earlier ++ a.own ∷ (a.serving ++ a.later)
  pub bound : is_some (return_of (found_by b a).standing.service) ≡ true
  pub still : is_active (found_by b a).standing.association ≡ false
  pub serves : ServesOn b.site (begun_by b a) a.serving

-- In each of the rounds that a START serves, in which no block of an earlier round waits, its
-- buffer is offered exactly where one is due and no block of the round's own waits.
abbrev pub DueOver : Site → State → List Round → List Entry → Terms → Type 0
DueOver site s serving archive terms =
    (earlier later : List Round) (r : Round) (told : BookAnswer) → serving ≡ earlier ++ r ∷ later
    → r.told ≡ Some told → let t = after_rounds site s earlier in
    is_blocked (before_step t r).standing.arrival ≡ false
    → is_some r.sent
    ≡ (not (has_block (standing_spoke (before_speak site t r).standing r.spoke))
    && (at_front terms archive (rounds_of (visits_of site s earlier)) told.answer.glimpse.front
    told.moment).fixed)

-- By an archive: the terms are what the START's message asks for, of the instance that is bound,
-- and the messages are of its kind of service. What its link took whole is, message by message, what
-- *Delivery* of these terms hands over of the archive in these rounds, each frame with its
-- continuity; and what was dropped is what it discards. What a complete or offline one handed over
-- is, in order and each once, the first of what it picks, end of data last and only after all of
-- it; and a timely one tells all that it discards before the next buffer. In each of these rounds
-- that has room for it, its buffer is offered where one is due; and what is owed to it comes in
-- those whose link takes each offer.
pub record HandsOver (b : Began) (a : Start) (archive : List Entry) : Type 0 where
  pub kind : ReturnKind
  pub told : BookAnswer
  pub asked : a.own.told ≡ Some told
  pub terms : Terms
  pub asks : Asks b.site (found_by b a) a.own told.answer.glimpse.front terms
  pub shape : shape_at b.site (found_by b a).standing ≡ Some (shape_of_terms kind terms)
  pub messages : AreMessagesOf kind (sent_of b.site (begun_by b a) a.serving)
      (said_told (handed_told terms archive (rounds_of (visits_of b.site (begun_by b a) a.serving))))
  pub dropped : dropped_of b.site (begun_by b a) a.serving
      ≡ discards_told (done_in_rounds b.site (begun_by b a) terms archive a.serving)
  pub complete : IsFalse (is_timely terms.mode)
      → IsComplete terms archive (done_in_rounds b.site (begun_by b a) terms archive a.serving)
  pub timely : IsTrue (is_timely terms.mode)
      → IsTimely terms archive (done_in_rounds b.site (begun_by b a) terms archive a.serving)
  pub due : DueOver b.site (begun_by b a) a.serving archive terms
  pub owed : OwedOver b.site (begun_by b a) a.serving archive terms
  pub ready : ReadyOver b.site (begun_by b a) a.serving archive terms

-- each START among a session's rounds
abbrev pub EachHandsOver : Began → List Round → List Entry → Type 0
EachHandsOver b rounds archive =
    (a : Start) → IsStart b rounds a → HandsOver b a archive

-- So does each one of a session of a valid site, by each archive that the rounds saw fronts of.
abbrev pub StartsHandOver : Type 0
StartsHandOver =
    (b : Began) (rounds : List Round) (archive : List Entry) → IsSite b.site
    → AreRounds b.site (start_of b) rounds → SeeEntries archive 0 b.site (start_of b) rounds
    → IsArchive archive → EachHandsOver b rounds archive

-- ---- what nobody started

-- A round hands over no message of a service and drops none, or a started service serves it up to
-- its end.
abbrev pub SendsWhereServed : Site → State → Round → Type 0
SendsWhereServed site s r =
    ((sent_in site s r ≡ []) × ((after_round site s r).standing.dropped ≡ None))
    ⊎ ((is_serving s.standing ≡ true) × (is_serving (after_round site s r).standing ≡ true))

-- so it is in each of a session's rounds
abbrev pub EachSendsWhereServed : Began → List Round → Type 0
EachSendsWhereServed b rounds =
    (earlier later : List Round) (r : Round) → rounds ≡ earlier ++ r ∷ later
    → SendsWhereServed b.site (state_after b earlier) r

abbrev pub OnlyStartedSend : Type 0
OnlyStartedSend =
    (b : Began) (rounds : List Round) → AreRounds b.site (start_of b) rounds
    → EachSendsWhereServed b rounds
