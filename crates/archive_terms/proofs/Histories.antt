-- What a round adds to what a delivery has done.
use Rattle.std.proofs.Common.{◌≡◌, ℕ, ◌+◌, ◌<◌, ◌≤◌, Bool, true, false, cond, not, ◌||◌, nat_lt}
use Rattle.std.proofs.Common.{List, [], ◌∷◌, ◌++◌, length, take, drop, slice_get, get_or, Option}
use Rattle.std.proofs.Common.{Some, None, refl, ap, sym, ◌∙◌, arith, subst, inl, inr}
use Rattle.std.specs.List.{list_any, list_all, filter_map, flat_map, All, cons_option}
use Rattle.std.specs.Option.{IfSome}
use Rattle.std.proofs.lemmas.List.{length-take-le, length-drop, append-nil, map-append, take_at}
use Rattle.std.proofs.lemmas.List.{take-append-le}
use Rattle.std.proofs.lemmas.List.Elements.{filter-append, filter_map-append, All-append}
use Rattle.std.proofs.lemmas.List.Folds.{list_all-append}
use Rattle.std.proofs.lemmas.Grind.{flat_map-append}
use Rattle.std.proofs.lemmas.Bool.{and_from, false≢true, true≢false, lt-ltb, cases_lt}
use Rattle.std.proofs.Math.Seq.{take-add}
use Rattle.archive_terms.specs.Archive.{Entry}
use Rattle.archive_terms.specs.Delivery.{Mode, is_timely, Item, archived, end_of_data, backlog}
use Rattle.archive_terms.specs.Delivery.{archived_items, is_archived, is_complete, is_backlog}
use Rattle.archive_terms.specs.Delivery.{Terms, Delivery, buffer, is_discardable, released}
use Rattle.archive_terms.specs.Rounds.{Answer, whole, stall, fail, answered, fate, Outcome, kept}
use Rattle.archive_terms.specs.Rounds.{discarded, failed, handed_in, handed_items, handed_buffer}
use Rattle.archive_terms.specs.Rounds.{handed_buffers, settled_in, settled_items, without_backlog}
use Rattle.archive_terms.specs.Rounds.{begins_with_backlog, is_handed, is_discarded, is_untold}
use Rattle.archive_terms.specs.Rounds.{IsDiscardedRightly, has_no_later_backlog}
use Rattle.archive_terms.proofs.Buffers.{InLimits, nothing_complete}
use Rattle.archive_terms.proofs.States.{State, going, owing, telling, ending, over}
use Rattle.archive_terms.proofs.States.{is_discardable-parts}
use Rattle.archive_terms.proofs.Lists.{without_backlog-archived, no_backlog, some_archived}
use Rattle.archive_terms.proofs.Lists.{slice_get-push, is_untold-push, or_false}

-- the items of the first n picked entries, and end of data where the delivery ended
abbrev pub reached : List (ℕ × Entry) → ℕ → Bool → List Item
reached entries n ended = archived_items (take n entries) ++ cond ended (end_of_data ∷ []) []

abbrev pub OnHanded : Outcome → (List Item → Type 0) → Type 0
OnHanded o P = IfSome (handed_buffer o) P

-- what was done by a delivery that has come to d
pub record History (t : Terms) (entries : List (ℕ × Entry)) (done : List Outcome)
    (d : Delivery) : Type 0 where
  pub settled : without_backlog (settled_items done) ≡ reached entries d.settled d.ended
  pub all_handed : is_timely t.mode ≡ false → handed_items done ≡ reached entries d.settled d.ended
  pub limits : All (InLimits t.size) (handed_buffers done)
  pub rightly : is_timely t.mode ≡ true → All IsDiscardedRightly done
  pub owed : is_untold done ≡ d.owed
  pub told : (i : ℕ) (o : Outcome) (items : List Item) → slice_get done i ≡ Some o
      → handed_buffer o ≡ Some items
      → begins_with_backlog items ≡ is_untold (take i done)
  pub told_once : list_all has_no_later_backlog (handed_buffers done) ≡ true

-- what an outcome that leads from d to d' has to be
pub record Adds (t : Terms) (entries : List (ℕ × Entry)) (d : Delivery) (o : Outcome)
    (d' : Delivery) : Type 0 where
  pub settled : reached entries d.settled d.ended ++ without_backlog (settled_in o)
      ≡ reached entries d'.settled d'.ended
  pub all_handed : is_timely t.mode ≡ false
      → reached entries d.settled d.ended ++ handed_in o ≡ reached entries d'.settled d'.ended
  pub rightly : is_timely t.mode ≡ true → IsDiscardedRightly o
  pub owed : cond (is_handed o) false (d.owed || is_discarded o) ≡ d'.owed
  pub on_handed : OnHanded o (λ items. InLimits t.size items × (begins_with_backlog items ≡ d.owed)
      × (has_no_later_backlog items ≡ true))

pub flat_map-push : {X Y : Type 0} → (f : X → List Y) (xs : List X) (x : X)
    → flat_map f (xs ++ x ∷ []) ≡ flat_map f xs ++ f x
flat_map-push f xs x = flat_map-append f xs (x ∷ [])
    ∙ ap (λ ys. flat_map f xs ++ ys) (append-nil (f x))

pub one_all : {X : Type 0} → (P : X → Type 0) (x : X) → P x → All P (x ∷ [])
one_all P x holds k d below =
    let first : k ≡ 0 = omega arith in subst (λ j. P (get_or (x ∷ []) j d)) (sym first) holds

pub History-add : (t : Terms) (entries : List (ℕ × Entry)) (done : List Outcome) (d : Delivery)
    (o : Outcome) (d' : Delivery)
    → History t entries done d → Adds t entries d o d' → History t entries (done ++ o ∷ []) d'
History-add t entries done d o d' h a = record {
  settled =
      ap without_backlog (flat_map-push settled_in done o)
      ∙ filter-append (λ item. not (is_backlog item)) (settled_items done) (settled_in o)
      ∙ ap (λ xs. xs ++ without_backlog (settled_in o)) h.settled ∙ a.settled;
  all_handed =
      λ mode. flat_map-push handed_in done o ∙ ap (λ xs. xs ++ handed_in o) (h.all_handed mode)
      ∙ a.all_handed mode;
  limits =
      subst (All (InLimits t.size)) (sym buffers)
      (All-append (InLimits t.size) (handed_buffers done) (new_buffers o) h.limits
      (new_limits (handed_buffer o) a.on_handed));
  rightly = λ mode. All-append IsDiscardedRightly done (o ∷ []) (h.rightly mode)
      (one_all IsDiscardedRightly o (a.rightly mode));
  owed = is_untold-push done o ∙ ap (λ b. cond (is_handed o) false (b || is_discarded o)) h.owed
      ∙ a.owed;
  told = λ i x items is takes. elim (slice_get-push done o x i is) [
    | inl before ↦ h.told i x items before.1 takes
        ∙ ap is_untold (sym (take-append-le i done (o ∷ []) (let l : i < length done = before.0 in
        omega arith)))
    | inr last ↦
        (let fact : Fact items = subst (λ m. IfSome m Fact) (ap handed_buffer last.1
        ∙ takes) a.on_handed in fact.1)
        ∙ sym h.owed ∙ ap is_untold (sym (take_at done (o ∷ []) i (sym last.0)))
  ];
  told_once =
      ap (list_all has_no_later_backlog) buffers
      ∙ list_all-append has_no_later_backlog (handed_buffers done) (new_buffers o)
      ∙ and_from (list_all has_no_later_backlog (handed_buffers done))
      (list_all has_no_later_backlog (new_buffers o)) h.told_once
      (new_once (handed_buffer o) a.on_handed);
}
  where
    new_buffers : Outcome → List (List Item)
    new_buffers o = filter_map handed_buffer (o ∷ [])

    buffers : handed_buffers (done ++ o ∷ []) ≡ handed_buffers done ++ new_buffers o
    buffers = filter_map-append handed_buffer done (o ∷ [])

    Fact : List Item → Type 0
    Fact =
        λ items. InLimits t.size items × (begins_with_backlog items ≡ d.owed)
        × (has_no_later_backlog items ≡ true)

    new_limits : (m : Option (List Item)) → IfSome m Fact → All (InLimits t.size) (cons_option m [])
    new_limits (Some items) fact = one_all (InLimits t.size) items fact.0
    new_limits None fact = λ k d below. absurd (omega arith)

    new_once : (m : Option (List Item)) → IfSome m Fact
        → list_all has_no_later_backlog (cons_option m []) ≡ true
    new_once (Some items) fact = and_from (has_no_later_backlog items) true fact.2 refl
    new_once None fact = refl

-- what a round that changes nothing adds
pub adds_nothing : (t : Terms) (entries : List (ℕ × Entry)) (d : Delivery) (o : Outcome)
    → settled_in o ≡ []
    → handed_in o ≡ [] → is_handed o ≡ false → is_discarded o ≡ false
    → (is_timely t.mode ≡ true → IsDiscardedRightly o)
    → OnHanded o (λ items. InLimits t.size items × (begins_with_backlog items ≡ d.owed)
    × (has_no_later_backlog items ≡ true))
    → Adds t entries d o d
adds_nothing t entries d o no_item none_handed not_handed not_discarded right on = record {
  settled =
      ap (λ xs. reached entries d.settled d.ended ++ without_backlog xs) no_item
      ∙ append-nil (reached entries d.settled d.ended);
  all_handed =
      λ mode. ap (λ xs. reached entries d.settled d.ended ++ xs) none_handed
      ∙ append-nil (reached entries d.settled d.ended);
  rightly = right;
  owed =
      ap (λ b. cond b false (d.owed || is_discarded o)) not_handed
      ∙ ap (λ b. d.owed || b) not_discarded
      ∙ or_false d.owed;
  on_handed = on;
}

-- the first n items and the k after them
reached-more : (n k : ℕ) (entries : List (ℕ × Entry))
    → reached entries n false ++ archived_items (take k (drop n entries))
    ≡ reached entries (n + k) false
reached-more n k entries =
    ap (λ xs. xs ++ archived_items (take k (drop n entries)))
    (append-nil (archived_items (take n entries)))
    ∙ sym (map-append (λ x. archived x.0 x.1) (take n entries) (take k (drop n entries)))
    ∙ ap archived_items (sym (take-add n k entries))
    ∙ sym (append-nil (archived_items (take (n + k) entries)))

no_backlog_first : (entries : List (ℕ × Entry))
    → begins_with_backlog (archived_items entries) ≡ false
no_backlog_first [] = refl
no_backlog_first (x ∷ entries) = refl

no_backlog_later : (entries : List (ℕ × Entry))
    → has_no_later_backlog (archived_items entries) ≡ true
no_backlog_later [] = refl
no_backlog_later (x ∷ entries) = ap not (no_backlog entries)

pub end_alone : (n k : ℕ) (entries : List (ℕ × Entry)) → k ≡ 0
    → end_of_data ∷ archived_items (take k (drop n entries)) ≡ end_of_data ∷ []
end_alone n k entries none = ap (λ k. end_of_data ∷ archived_items (take k (drop n entries))) none

end_in_limits : (size : ℕ) → 0 < size → InLimits size (end_of_data ∷ [])
end_in_limits size some = record {
  open_before =
      λ j below. let first : j ≡ 0 = omega arith in
      ap (λ j. is_complete size (take j (end_of_data ∷ []))) first
      ∙ nothing_complete size some;
}

-- a buffer that isn't discarded has no picked entry
pub none_archived : (t : Terms) (entries : List (ℕ × Entry)) (closed : Bool) (d : Delivery)
    → State t entries closed d → d.held ≡ 0 → list_any is_archived (buffer entries d) ≡ false
none_archived t entries closed d (going n k fixed since fits limits) none =
    ap (λ k. list_any is_archived (archived_items (take k (drop n entries)))) none
none_archived t entries closed d (owing n since fits timely) none = refl
none_archived t entries closed d (telling n k fixed since fits limits timely) none =
    ap (λ k. list_any is_archived (archived_items (take k (drop n entries)))) none
none_archived t entries closed d (ending n k fixed since all held fix shut) none =
    ap (λ k. list_any is_archived (archived_items (take k (drop n entries)))) none
none_archived t entries closed d (over n k fixed since all held fix shut) none =
    ap (λ k. list_any is_archived (archived_items (take k (drop n entries)))) none

pub some_held : (n k : ℕ) (entries : List (ℕ × Entry)) → n + k ≤ length entries → 0 < k
    → list_any is_archived (archived_items (take k (drop n entries))) ≡ true
some_held n k entries fits some =
    some_archived (take k (drop n entries)) (omega (
      arith,
      length-take-le k (drop n entries) (omega (arith, length-drop n entries)),
    ))

adds_stalled : (t : Terms) (entries : List (ℕ × Entry)) (closed : Bool) (d : Delivery)
    (discards : Bool)
    → (discards ≡ true → (is_timely t.mode ≡ true) × (0 < d.held))
    → (discards ≡ false → is_timely t.mode ≡ true → d.held ≡ 0) → State t entries closed d
    → Adds t entries d (cond discards (discarded (buffer entries d)) (kept (buffer entries d)))
    (cond discards (record (released d) { owed = true }) d)
adds_stalled t entries closed d false why else s =
    adds_nothing t entries d (kept (buffer entries d)) refl refl refl refl
    (λ timely. sym (ap (λ b. cond b (Some (buffer entries d)) None)
    (none_archived t entries closed d s (else refl timely)))) tt
adds_stalled t entries closed d true why else (going n k fixed since fits limits) = record {
  settled =
      ap (λ xs. reached entries n false ++ xs) (without_backlog-archived (take k (drop n entries)))
      ∙ reached-more n k entries;
  all_handed = λ mode. absurd (true≢false (sym (why refl).0 ∙ mode));
  rightly = λ mode. sym (ap (λ b. cond b (Some (archived_items (take k (drop n entries)))) None)
      (some_held n k entries fits (why refl).1));
  owed = refl;
  on_handed = tt;
}
adds_stalled t entries closed d true why else (telling n k fixed since fits limits timely) =
    record {
      settled =
          ap (λ xs. reached entries n false ++ xs)
          (without_backlog-archived (take k (drop n entries)))
          ∙ reached-more n k entries;
      all_handed = λ mode. absurd (true≢false (sym timely ∙ mode));
      rightly = λ mode. sym (ap (λ b.
          cond b (Some (backlog ∷ archived_items (take k (drop n entries))))
          None) (some_held n k entries fits (why refl).1));
      owed = refl;
      on_handed = tt;
    }
adds_stalled t entries closed d true why else (owing n since fits timely) =
    absurd (let h : 0 < 0 = (why refl).1 in omega arith)
adds_stalled t entries closed d true why else (ending n k fixed since all none fix shut) =
    absurd (let h : 0 < k = (why refl).1 in omega arith)
adds_stalled t entries closed d true why else (over n k fixed since all none fix shut) =
    absurd (let h : 0 < k = (why refl).1 in omega arith)

not_discardable : (mode : Mode) (d : Delivery) → is_discardable mode d ≡ false
    → is_timely mode ≡ true
    → d.held ≡ 0
not_discardable mode d not_it timely =
    elim (cases_lt 0 d.held) [
      | inl some ↦ absurd (true≢false
          (sym (and_from (is_timely mode) (nat_lt 0 d.held) timely (lt-ltb 0 d.held some))
          ∙ not_it))
      | inr none ↦ omega arith
    ]

pub adds_answered : (t : Terms) (entries : List (ℕ × Entry)) (closed : Bool) (answer : Answer)
    (d : Delivery)
    → 0 < t.size → d.fixed ≡ true → State t entries closed d
    → Adds t entries d (fate t answer d (buffer entries d)) (answered t answer d)
adds_answered t entries closed stall d some is s =
    adds_stalled t entries closed d (is_discardable t.mode d) (is_discardable-parts t.mode d)
    (not_discardable t.mode d) s
adds_answered t entries closed fail d some is s =
    adds_nothing t entries d (failed (buffer entries d)) refl refl refl refl (λ timely. refl) tt
adds_answered t entries closed whole d some is (going n k fixed since fits limits) = record {
  settled =
      ap (λ xs. reached entries n false ++ xs) (without_backlog-archived (take k (drop n entries)))
      ∙ reached-more n k entries;
  all_handed = λ mode. reached-more n k entries;
  rightly = λ mode. refl;
  owed = refl;
  on_handed = (
    limits,
    no_backlog_first (take k (drop n entries)),
    no_backlog_later (take k (drop n entries)),
  );
}
adds_answered t entries closed whole d some is (owing n since fits timely) = absurd (false≢true is)
adds_answered t entries closed whole d some is (telling n k fixed since fits limits timely) =
    record {
      settled =
          ap (λ xs. reached entries n false ++ xs)
          (without_backlog-archived (take k (drop n entries)))
          ∙ reached-more n k entries;
      all_handed = λ mode. absurd (true≢false (sym timely ∙ mode));
      rightly = λ mode. refl;
      owed = refl;
      on_handed = (limits, refl, ap not (no_backlog (take k (drop n entries))));
    }
adds_answered t entries closed whole d some is (ending n k fixed since all none fix shut) = record {
  settled = ap (λ xs. reached entries n false ++ without_backlog xs) (end_alone n k entries none)
      ∙ to_end;
  all_handed = λ mode. ap (λ xs. reached entries n false ++ xs) (end_alone n k entries none)
      ∙ to_end;
  rightly = λ mode. refl;
  owed = refl;
  on_handed =
      subst (λ xs. InLimits t.size xs × (begins_with_backlog xs ≡ false)
      × (has_no_later_backlog xs ≡ true)) (sym (end_alone n k entries none))
      (end_in_limits t.size some, refl, refl);
}
  where
    to_end : reached entries n false ++ end_of_data ∷ [] ≡ reached entries (n + k) true
    to_end = ap (λ xs. xs ++ end_of_data ∷ []) (append-nil (archived_items (take n entries)))
        ∙ ap (λ m. archived_items (take m entries) ++ end_of_data ∷ []) (let e : n ≡ n + k =
        omega arith in e)
adds_answered t entries closed whole d some is (over n k fixed since all none fix shut) =
    absurd (false≢true (sym fix ∙ is))
