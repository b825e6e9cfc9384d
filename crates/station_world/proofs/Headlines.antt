-- The headline of worlds that stand.
use Rattle.std.proofs.Common.{◌≡◌, ℕ, IsTrue, None, List, [], ◌∷◌}
use Rattle.std.proofs.Common.{◌++◌, length, take, drop, refl, sym, ap, subst, ◌∙◌, append_assoc}
use Rattle.std.proofs.Common.{append-nil, take-append-drop, inl, inr, arith}
use Rattle.std.proofs.lemmas.List.{take_at, take_all}
use Rattle.std.proofs.lemmas.Grind.{flat_map-append}
use Rattle.std.specs.List.{AllByRecursion, list_any}
use Rattle.std.specs.Option.{option_to_list}
use Rattle.archive_terms.specs.Archive.{Entry, IsArchive}
use Rattle.archive_terms.specs.Selection.{picked, is_stop_closed}
use Rattle.archive_terms.specs.Delivery.{entries_of, is_end_of_data, end_of_data}
use Rattle.archive_terms.specs.Delivery.{archived_items}
use Rattle.archive_terms.specs.Rounds.{Outcome, handed_items, handed_buffers, settled_items}
use Rattle.archive_terms.specs.Rounds.{without_backlog, to_hand_over, TimelyShape, last_front}
use Rattle.archive_terms.specs.Continuity.{told_buffers}
use Rattle.station_book.specs.State.{State, opened, Event as Answered}
use Rattle.station_book.specs.History.{IsLegal, then_after}
use Rattle.station_world.specs.File.{File, acknowledged, batch_of, IsListOf}
use Rattle.station_world.specs.Life.{Start, Life, book, done_by, octets_sent}
use Rattle.station_world.specs.World.{World, lives}
use Rattle.station_world.specs.Comes.{Begins}
use Rattle.station_world.specs.Headline.{CompleteDelivery, TimelyDelivery, SameContinuity}
use Rattle.station_world.specs.Headline.{OfEachStart, RadiatesLawfully, TellsInTurn, IsKept}
use Rattle.station_world.specs.Headline.{Headline, HeadlineLaw}
use Rattle.station_world.specs.Laws.{Laws}
use Rattle.station_world.proofs.Lists.{joined, all_join, all_map, front_of}
use Rattle.station_world.proofs.Files.{FileStands, kept_alone}
use Rattle.station_world.proofs.Lives.{StartStands, LifeStands}
use Rattle.station_world.proofs.Worlds.{WorldStands, Goes, all_go, behind_both}

-- ---- a START, over an archive that begins with what its life's book has

module _ (laws : Laws) (l : Life) (archive : List Entry) (begins : Begins (book l).published archive)
    (whole : IsArchive archive) (s : Start) (stands : StartStands (book l).published s) where
  abbrev p : List Entry
  p = (book l).published

  abbrev done : List Outcome
  done = done_by l s

  -- behind its last front
  abbrev rest : List Entry
  rest = drop (last_front 0 s.rounds) p ++ begins.0

  to : take (last_front 0 s.rounds) p ++ rest ≡ archive
  to =
      let front : ℕ = last_front 0 s.rounds in
      sym (append_assoc (take front p) (drop front p) begins.0)
      ∙ ap (λ (xs : List Entry). xs ++ begins.0) (take-append-drop front p) ∙ sym begins.1

  seen : IsArchive p
  seen = front_of laws.grows p archive begins whole

  longer : IsArchive (take (last_front 0 s.rounds) p ++ rest)
  longer = subst IsArchive (sym to) whole

  complete : CompleteDelivery archive l s
  complete mode = record {
    items = subst (λ (a : List Entry). take (length (handed_items done))
        (to_hand_over s.terms a) ≡ handed_items done) to
        (laws.complete_items s.terms p rest s.rounds stands.some mode seen stands.rise longer);
    entries = subst (λ (a : List Entry). take (length (entries_of (handed_items done)))
        (picked a s.terms.selection) ≡ entries_of (handed_items done)) to
        (laws.complete_entries s.terms p rest s.rounds stands.some mode seen stands.rise longer);
    only_after_all = subst (λ (a : List Entry).
        IsTrue (list_any is_end_of_data (handed_items done))
        → IsTrue (is_stop_closed s.terms.selection a)
        × (handed_items done
        ≡ archived_items (picked a s.terms.selection) ++ end_of_data ∷ [])) to
        (laws.complete_ends s.terms p rest s.rounds stands.some mode seen stands.rise longer);
  }

  timely : TimelyDelivery archive l s
  timely mode = record {
    shape = subst (λ (a : List Entry). TimelyShape (to_hand_over s.terms a) done) to
        (laws.timely_shape s.terms p rest s.rounds stands.some mode seen stands.rise longer);
    only_after_all = subst (λ (a : List Entry).
        IsTrue (list_any is_end_of_data (handed_items done))
        → IsTrue (is_stop_closed s.terms.selection a)
        × (without_backlog (settled_items done)
        ≡ archived_items (picked a s.terms.selection) ++ end_of_data ∷ [])) to
        (laws.timely_ends s.terms p rest s.rounds stands.some mode seen stands.rise longer);
  }

  continuity : SameContinuity archive l s
  continuity = subst (λ (a : List Entry). told_buffers a None (handed_buffers done)
      ≡ told_buffers p None (handed_buffers done)) to
      (laws.told s.terms p rest s.rounds stands.some seen stands.rise)

-- ---- radiation

-- the events of a history up to one of them are legal
legal_prefix : (s : State) (h later : List Answered) → IsLegal s (h ++ later) → IsLegal s h
legal_prefix s [] later legal = tt
legal_prefix s (e ∷ h) later legal = (legal.0, legal_prefix (then_after s e) h later legal.1)

up_to : (l : Life) (h k later : List Answered) (e : Answered) → l.history ≡ h ++ e ∷ k ++ later
    → IsLegal (opened l.opening) l.history → IsLegal (opened l.opening) (h ++ e ∷ k)
up_to l h k later e is legal = legal_prefix (opened l.opening) (h ++ e ∷ k) later
    (subst (IsLegal (opened l.opening)) is legal)

radiates : Laws → (kept : List Entry) (l : Life) → LifeStands kept l → RadiatesLawfully l
radiates laws kept l stands = record {
  runs = λ h k later e first is begun one.
      laws.runs (opened l.opening) h k e first (up_to l h k later e is stands.legal) begun one;
  once = laws.once l.opening l.history stands.legal;
  tried = stands.tried;
}

tells : Laws → (kept : List Entry) (l : Life) → LifeStands kept l → TellsInTurn l
tells laws kept l stands = λ one h k later e door is begun before.
    laws.notices l.opening h k e door one (up_to l h k later e is stands.legal) begun before

-- ---- the file

is_kept : Laws → (f : File) → FileStands f → (entries : List Entry) → IsListOf f entries
    → IsKept f entries
is_kept laws f stands entries (inl is) = record {
  archive = subst IsArchive (sym is) (kept_alone laws f stands);
  begins = ([], is ∙ sym (append-nil (acknowledged f)));
  count = length f.kept;
  is = is ∙ ap (λ (xs : List Entry). f.found ++ xs)
      (sym (take_at f.kept (batch_of f.phase) (length f.kept) refl));
}
is_kept laws f stands entries (inr is) = record {
  archive = subst IsArchive (sym is) stands.batch;
  begins = (batch_of f.phase, is);
  count = length (f.kept ++ batch_of f.phase);
  is = is ∙ append_assoc f.found f.kept (batch_of f.phase)
      ∙ ap (λ (xs : List Entry). f.found ++ xs)
      (sym (take_all (length (f.kept ++ batch_of f.phase)) (f.kept ++ batch_of f.phase) (omega arith)));
}

-- ---- the whole

of_worlds : Laws → (w later : World) → WorldStands w → Goes w later → Headline w later
of_worlds laws w later old goes = record {
  complete_delivery = each CompleteDelivery complete;
  timely_delivery = each TimelyDelivery timely;
  continuity = each SameContinuity continuity;
  radiation = all_map (LifeStands kept) RadiatesLawfully (radiates laws kept) (lives w) all;
  notices = all_map (LifeStands kept) TellsInTurn (tells laws kept) (lives w) all;
  antenna = old.antenna ∙ sym (flat_map-append octets_sent w.past (option_to_list w.now));
  recovery = is_kept laws w.file old.file;
  composition = goes.grows;
}
  where
    kept : List Entry
    kept = acknowledged w.file

    all : AllByRecursion (LifeStands kept) (lives w)
    all = all_join (LifeStands kept) w.past (option_to_list w.now) old.past old.now

    -- what holds of each START of each life, for each list of the later file
    each : (P : List Entry → Life → Start → Type 0)
        → (Laws → (l : Life) (archive : List Entry) → Begins (book l).published archive
        → IsArchive archive → (s : Start) → StartStands (book l).published s → P archive l s)
        → OfEachStart P later.file (lives w)
    each P holds entries is =
        let found = is_kept laws later.file goes.stands.file entries is in
        all_map (LifeStands kept) (λ l. AllByRecursion (P entries l) l.starts)
        (λ l stands. all_map (StartStands (book l).published) (P entries l)
        (holds laws l entries
        (joined (book l).published kept entries stands.begins
        (joined kept (acknowledged later.file) entries goes.grows found.begins))
        found.archive) l.starts stands.starts) (lives w) all

pub headline : Laws → HeadlineLaw
headline laws events more come =
    behind_both laws Headline events more come
    (λ w old later. of_worlds laws w _ old (all_go laws w more later old))
