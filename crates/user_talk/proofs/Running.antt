-- Turns of a talk, one behind the other.
use Rattle.std.proofs.Common.{◌≡◌, ◌⊎◌, inl, inr, ⊎_elim, ℕ, ◌+◌, Bool, true, ◌&&◌}
use Rattle.std.proofs.Common.{Option, List, [], ◌∷◌, ◌++◌, map, refl, ap, sym}
use Rattle.std.proofs.Common.{subst, ap₂, ◌∙◌, append_assoc, append-nil, arith}
use Rattle.std.proofs.lemmas.Bool.{and_parts}
use Rattle.std.proofs.lemmas.List.{map-append}
use Rattle.std.specs.List.{list_all}
use Rattle.cds_time.specs.declared.cds.Cds.{Cds}
use Rattle.link_model.specs.declared.call.Call.{Call}
use Rattle.link_model.specs.Calls.{Tells, octets_heard}
use Rattle.octet_core.specs.Fault.{Rose}
use Rattle.octet_core.specs.Written.{Gains, GainsFront}
use Rattle.octet_core.specs.Writing.{gains-append, gains_front-append}
use Rattle.user_core.specs.Laws.{AreOctets}
use Rattle.user_core.specs.declared.status.Status.TheVariants as status
use Rattle.user_talk.specs.Readings.{Reads, moment_shown}
use Rattle.user_talk.specs.Rounds.{TalkState, Round, after_rounds, calls_in, lines_in, readings_in}
use Rattle.user_talk.specs.Rounds.{after_round, calls_of, lines_of}
use Rattle.user_talk.specs.Running.{World, Ran, Ended, Tail, whole, unheard, broken, tail_calls}
use Rattle.user_talk.specs.Running.{GoesThrough, but_last, before_polls}
use Rattle.user_talk.specs.Running.{tail_readings, tail_lines, EndsBy, PrintsTo, LastIs}
use Rattle.user_talk.specs.declared.end.End.{End}
use Rattle.user_talk.specs.declared.reading.Reading.{Reading}
use Rattle.user_talk.specs.declared.end.End.TheVariants as end
use Rattle.user_talk.proofs.Octets.{calls_give}
use Rattle.user_talk.proofs.Told.{tells_both}

pub after_both : (s : TalkState) (a b : List Round)
    → after_rounds s (a ++ b) ≡ after_rounds (after_rounds s a) b
after_both s [] b = refl
after_both s (r ∷ a) b = after_both (after_round s r) a b

pub calls_both : (s : TalkState) (a b : List Round)
    → calls_in s (a ++ b) ≡ calls_in s a ++ calls_in (after_rounds s a) b
calls_both s [] b = refl
calls_both s (r ∷ a) b =
    ap (λ l. calls_of s r ++ l) (calls_both (after_round s r) a b)
    ∙ sym (append_assoc (calls_of s r) (calls_in (after_round s r) a)
    (calls_in (after_rounds (after_round s r) a) b))

pub lines_both : (s : TalkState) (a b : List Round)
    → lines_in s (a ++ b) ≡ lines_in s a ++ lines_in (after_rounds s a) b
lines_both s [] b = refl
lines_both s (r ∷ a) b =
    ap (λ l. lines_of s r ++ l) (lines_both (after_round s r) a b)
    ∙ sym (append_assoc (lines_of s r) (lines_in (after_round s r) a)
    (lines_in (after_rounds (after_round s r) a) b))

pub readings_both : (a b : List Round) → readings_in (a ++ b) ≡ readings_in a ++ readings_in b
readings_both a b = map-append (λ (r : Round). r.read) a b

pub reads_none : (told : Option (List Cds)) (asked : Option (List Bool)) → Reads told told asked asked []
reads_none told asked =
    record { shown = []; told = tells_none told; moments_are = refl; asked = tells_none asked }
  where
    tells_none : {A : Type 0} (told : Option (List A)) → Tells told told []
    tells_none told = grind (arith, append-nil)

pub reads_both : (a b c : Option (List Cds)) (p q r : Option (List Bool)) (m n : List Reading)
    → Reads a b p q m → Reads b c q r n → Reads a c p r (m ++ n)
reads_both a b c p q r m n first second = record {
  shown = first.shown ++ second.shown;
  told = tells_both a b c first.shown second.shown first.told second.told;
  moments_are = map-append moment_shown first.shown second.shown
      ∙ (ap (λ l. l ++ map moment_shown second.shown) first.moments_are
      ∙ (ap (λ l. map (λ (x : Reading). x.now) m ++ l) second.moments_are
      ∙ sym (map-append (λ (x : Reading). x.now) m n)));
  asked = subst (λ l. Tells p r l) (sym (map-append (λ (x : Reading). x.asked) m n))
      (tells_both p q r (map (λ (x : Reading). x.asked) m) (map (λ (x : Reading). x.asked) n)
      first.asked second.asked);
}

-- the last of more turns
pub last_behind : (a b : List Round) (P : Round → Type 0) → LastIs b P → LastIs (a ++ b) P
last_behind a b P last = record {
  before = a ++ last.before;
  last = last.last;
  is = ap (λ l. a ++ l) last.is ∙ sym (append_assoc a last.before (last.last ∷ []));
  so = last.so;
}

pub ends_behind : (e : End) (a b : List Round) (tail : Tail) (t : TalkState) → EndsBy e b tail t
    → EndsBy e (a ++ b) tail t
ends_behind (end.Over s closed) a b tail t is = (is.0, (is.1.0, last_behind a b _ is.1.1))
ends_behind end.Spent a b tail t is = is
ends_behind end.LinkFault a b tail t is = (
  is.0,
  ⊎_elim (λ un. inl un) (λ offer. inr (offer.0, last_behind a b _ offer.1)) is.1,
)
ends_behind end.WriteFault a b tail t is = is
ends_behind end.Memory a b tail t is = is

pub prints_behind : (e : End) (a b c : Option (List ℕ)) (xs ys more : List ℕ) → Gains a b xs
    → PrintsTo e b c ys more → PrintsTo e a c (xs ++ ys) more
prints_behind (end.Over s closed) a b c xs ys more first second = gains-append a b c xs ys first second
prints_behind end.Spent a b c xs ys more first second = gains-append a b c xs ys first second
prints_behind end.LinkFault a b c xs ys more first second = gains-append a b c xs ys first second
prints_behind end.WriteFault a b c xs ys more first second =
    subst (λ l. GainsFront a c l) (sym (append_assoc xs ys more))
    (gains_front-append a b c xs (ys ++ more) first second)
prints_behind end.Memory a b c xs ys more first second =
    subst (λ l. GainsFront a c l) (sym (append_assoc xs ys more))
    (gains_front-append a b c xs (ys ++ more) first second)

pub all_both : (p : Round → Bool) (a b : List Round) → list_all p a ≡ true → list_all p b ≡ true
    → list_all p (a ++ b) ≡ true
all_both p [] b first second = second
all_both p (r ∷ a) b first second =
    let parts = and_parts (p r) (list_all p a) first in
    ap₂ (λ x y. x && y) parts.0 (all_both p a b parts.1 second)

-- ---- behind each turn the user goes on

through_both : (s : TalkState) (a b : List Round) → GoesThrough s a
    → GoesThrough (after_rounds s a) b → GoesThrough s (a ++ b)
through_both s [] b first second = second
through_both s (r ∷ a) b first second =
    (first.0, (first.1.0, through_both (after_round s r) a b first.1.1 second))

pub through_but_last : (s : TalkState) (a : List Round) → GoesThrough s a
    → GoesThrough s (but_last a)
through_but_last s [] goes = tt
through_but_last s (r ∷ []) goes = tt
through_but_last s (r ∷ q ∷ a) goes =
    (goes.0, (goes.1.0, through_but_last (after_round s r) (q ∷ a) goes.1.1))

but_last_both : (a : List Round) (q : Round) (b : List Round)
    → but_last (a ++ (q ∷ b)) ≡ a ++ but_last (q ∷ b)
but_last_both [] q b = refl
but_last_both (r ∷ []) q b = refl
but_last_both (r ∷ p ∷ a) q b = ap (λ l. r ∷ l) (but_last_both (p ∷ a) q b)

through_whole : (s : TalkState) (a b : List Round) → GoesThrough s a
    → GoesThrough (after_rounds s a) (but_last b) → GoesThrough s (but_last (a ++ b))
through_whole s a [] first second =
    subst (λ l. GoesThrough s (but_last l)) (sym (append-nil a)) (through_but_last s a first)
through_whole s a (q ∷ b) first second =
    subst (λ l. GoesThrough s l) (sym (but_last_both a q b))
    (through_both s a (but_last (q ∷ b)) first second)

through_behind : (s : TalkState) (a b : List Round) (tail : Tail) → GoesThrough s a
    → GoesThrough (after_rounds s a) (before_polls b tail)
    → GoesThrough s (before_polls (a ++ b) tail)
through_behind s a b whole first second = through_whole s a b first second
through_behind s a b unheard first second = through_both s a b first second
through_behind s a b (broken h read) first second = through_both s a b first second

module _ {L C E O : Type 0} (calls : L → Option (List Call)) (link_faults : L → ℕ)
    (readings : C → Option (List Cds)) (asks : E → Option (List Bool))
    (written : O → Option (List ℕ)) (output_faults : O → ℕ) where
  abbrev RanIn : List Round → TalkState → TalkState → World L C E O → World L C E O → Type 0
  RanIn rounds s t old new = Ran calls link_faults readings asks written output_faults rounds s t
      old new

  abbrev EndedIn : List Round → Tail → End → TalkState → World L C E O → World L C E O → Type 0
  EndedIn rounds tail e s old new =
      Ended calls link_faults readings asks written output_faults rounds tail e s old new

  pub ran_both : (a b : List Round) (s t u : TalkState) (p q r : World L C E O) → RanIn a s t p q
      → RanIn b t u q r → RanIn (a ++ b) s u p r
  ran_both a b s t u p q r first second = record {
    state = second.state ∙ (ap (λ x. after_rounds x b) first.state ∙ sym (after_both s a b));
    told = subst (λ l. Tells (calls p.link) (calls r.link) l)
        (ap (λ x. calls_in s a ++ calls_in x b) first.state ∙ sym (calls_both s a b))
        (tells_both (calls p.link) (calls q.link) (calls r.link) (calls_in s a) (calls_in t b)
        first.told second.told);
    octets = subst (λ l. AreOctets (octets_heard l))
        (ap (λ x. calls_in s a ++ calls_in x b) first.state ∙ sym (calls_both s a b))
        (calls_give (calls_in s a) (calls_in t b) first.octets second.octets);
    reads = subst
        (λ l. Reads (readings p.clock) (readings r.clock) (asks p.request)
        (asks r.request) l)
        (sym (readings_both a b))
        (reads_both (readings p.clock) (readings q.clock) (readings r.clock) (asks p.request)
        (asks q.request) (asks r.request) (readings_in a)
        (readings_in b) first.reads second.reads);
    printed = subst (λ l. Gains (written p.output) (written r.output) l)
        (ap (λ x. lines_in s a ++ lines_in x b) first.state ∙ sym (lines_both s a b))
        (gains-append (written p.output) (written q.output) (written r.output) (lines_in s a)
        (lines_in t b) first.printed second.printed);
    goes_through = through_both s a b first.goes_through
        (subst (λ x. GoesThrough x b) first.state second.goes_through);
    link_well = second.link_well ∙ first.link_well;
    output_well = second.output_well ∙ first.output_well;
  }

  pub ended_both : (a b : List Round) (tail : Tail) (e : End) (s t : TalkState)
      (p q r : World L C E O) → RanIn a s t p q → EndedIn b tail e t q r
      → EndedIn (a ++ b) tail e s p r
  ended_both a b tail e s t p q r first second =
      let state : after_rounds t b ≡ after_rounds s (a ++ b) =
      ap (λ x. after_rounds x b) first.state ∙ sym (after_both s a b) in
      let joined : calls_in s a ++ (calls_in t b ++ tail_calls tail)
      ≡ calls_in s (a ++ b) ++ tail_calls tail =
      sym (append_assoc (calls_in s a) (calls_in t b) (tail_calls tail))
      ∙ ap (λ l. l ++ tail_calls tail)
      (ap (λ x. calls_in s a ++ calls_in x b) first.state ∙ sym (calls_both s a b)) in
      record {
        told = subst (λ l. Tells (calls p.link) (calls r.link) l) joined
            (tells_both (calls p.link) (calls q.link) (calls r.link) (calls_in s a)
            (calls_in t b ++ tail_calls tail) first.told second.told);
        octets = subst (λ l. AreOctets (octets_heard l)) joined
            (calls_give (calls_in s a) (calls_in t b ++ tail_calls tail) first.octets
            second.octets);
        reads = subst
            (λ l. Reads (readings p.clock) (readings r.clock) (asks p.request)
            (asks r.request) l)
            (sym (append_assoc (readings_in a) (readings_in b) (tail_readings tail))
            ∙ ap (λ l. l ++ tail_readings tail) (sym (readings_both a b)))
            (reads_both (readings p.clock) (readings q.clock) (readings r.clock) (asks p.request)
            (asks q.request) (asks r.request) (readings_in a)
            (readings_in b ++ tail_readings tail) first.reads second.reads);
        printed = subst (λ x. PrintsTo e (written p.output) (written r.output)
            (lines_in s (a ++ b)) (tail_lines x tail)) state
            (subst (λ l. PrintsTo e (written p.output) (written r.output) l
            (tail_lines (after_rounds t b) tail))
            (ap (λ x. lines_in s a ++ lines_in x b) first.state ∙ sym (lines_both s a b))
            (prints_behind e (written p.output) (written q.output) (written r.output)
            (lines_in s a) (lines_in t b) (tail_lines (after_rounds t b) tail) first.printed
            second.printed));
        goes_through = through_behind s a b tail first.goes_through
            (subst (λ x. GoesThrough x (before_polls b tail)) first.state second.goes_through);
        ends = subst (λ x. EndsBy e (a ++ b) tail x) state
            (ends_behind e a b tail (after_rounds t b) second.ends);
        link_rose = λ is. subst (λ n. Rose n (link_faults r.link)) first.link_well
            (second.link_rose is);
        output_rose = λ is. subst (λ n. Rose n (output_faults r.output)) first.output_well
            (second.output_rose is);
        output_kept = ⊎_elim (λ is. inl is) (λ same. inr (same ∙ first.output_well))
            second.output_kept;
      }
