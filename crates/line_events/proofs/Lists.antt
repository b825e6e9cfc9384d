-- What lives have told, and what stays as more is published.
use Rattle.std.proofs.Common.{◌≡◌, ℕ, zero, suc, ◌+◌, ◌≤◌, Bool, true, false, ◌&&◌, Some, List, []}
use Rattle.std.proofs.Common.{◌∷◌, ◌++◌, length, map, slice_get, if◌then◌else◌, refl, sym, ap, subst}
use Rattle.std.proofs.Common.{◌∙◌, append_assoc, append-nil, length-append, arith}
use Rattle.std.specs.List.{AllByRecursion, filter}
use Rattle.std.proofs.lemmas.List.{map-append}
use Rattle.std.proofs.lemmas.List.Elements.{filter-append}
use Rattle.archive_terms.specs.Archive.{Entry}
use Rattle.archive_terms.specs.Rounds.{Round, free_round, last_front}
use Rattle.station_world.specs.Life.{Start, Life, book, with_start, change_at, with_round, with_end}
use Rattle.line_events.specs.Shows.{is_desk, desk_starts, Told, told_of, told_in, told_by}
use Rattle.line_events.specs.Shows.{IsLasting, HasSeen}

pub and_both : (a b : Bool) → a ≡ true → b ≡ true → (a && b) ≡ true
and_both true b h k = k
and_both false b h k = h

-- ---- the desk's STARTs and those of users

-- one more that passes a test, or doesn't
pub filter_more : (p : Start → Bool) (all : List Start) (s : Start) → p s ≡ true
    → filter p (all ++ s ∷ []) ≡ filter p all ++ s ∷ []
filter_more p all s is =
    filter-append p all (s ∷ [])
    ∙ ap (λ (b : Bool). filter p all ++ (if b then s ∷ [] else [])) is

pub filter_less : (p : Start → Bool) (all : List Start) (s : Start) → p s ≡ false
    → filter p (all ++ s ∷ []) ≡ filter p all
filter_less p all s is =
    filter-append p all (s ∷ [])
    ∙ ap (λ (b : Bool). filter p all ++ (if b then s ∷ [] else [])) is
    ∙ append-nil (filter p all)

-- one that doesn't pass changes, and doesn't pass then
pub others_stay : (p : Start → Bool) (place : ℕ) (change : Start → Start) (all : List Start)
    (s : Start) → ((x : Start) → p (change x) ≡ p x) → slice_get all place ≡ Some s → p s ≡ false
    → filter p (change_at place change all) ≡ filter p all
others_stay p place change [] s keeps there none = refl
others_stay p zero change (x ∷ all) s keeps there none =
    let same : s ≡ x = cc there in
    let mine : p x ≡ false = ap p (sym same) ∙ none in
    ap (λ (b : Bool). if b then change x ∷ filter p all else filter p all) (keeps x ∙ mine)
    ∙ sym (ap (λ (b : Bool). if b then x ∷ filter p all else filter p all) mine)
others_stay p (suc place) change (x ∷ all) s keeps there none =
    ap (λ (others : List Start). if p x then x ∷ others else others)
    (others_stay p place change all s keeps there none)

-- ---- what is told of lives

-- the last life has told the same
pub told_same : (past : List Life) (l m : Life) → told_in m ≡ told_in l
    → told_by (past ++ m ∷ []) ≡ told_by (past ++ l ∷ [])
told_same [] l m is = ap (λ (xs : List Told). xs ++ []) is
told_same (p ∷ past) l m is = ap (λ (xs : List Told). told_in p ++ xs) (told_same past l m is)

-- a life that has told nothing comes behind
pub told_nothing : (past : List Life) (m : Life) → told_in m ≡ []
    → told_by (past ++ m ∷ []) ≡ told_by past
told_nothing [] m is = ap (λ (xs : List Told). xs ++ []) is
told_nothing (p ∷ past) m is = ap (λ (xs : List Told). told_in p ++ xs) (told_nothing past m is)

-- the last life has one START of the desk more
pub told_more : (past : List Life) (l : Life) (s : Start) → is_desk s ≡ true
    → told_by (past ++ with_start l s ∷ [])
    ≡ told_by (past ++ l ∷ []) ++ told_of (book l).published s ∷ []
told_more [] l s desk =
    let one : List Told = told_of (book l).published s ∷ [] in
    append-nil (told_in (with_start l s))
    ∙ ap (λ (ss : List Start). map (told_of (book l).published) ss)
    (filter_more is_desk l.starts s desk)
    ∙ map-append (told_of (book l).published) (desk_starts l) (s ∷ [])
    ∙ ap (λ (xs : List Told). xs ++ one) (sym (append-nil (told_in l)))
told_more (p ∷ past) l s desk =
    ap (λ (xs : List Told). told_in p ++ xs) (told_more past l s desk)
    ∙ sym (append_assoc (told_in p) (told_by (past ++ l ∷ []))
    (told_of (book l).published s ∷ []))

-- ---- what lasts

pub lasts_longer : (p more : List Entry) (s : Start) → IsLasting p s → IsLasting (p ++ more) s
lasts_longer p more s lasts = λ later.
    ap (λ (xs : List Entry). told_of xs s) (append_assoc p more later)
    ∙ lasts (more ++ later) ∙ sym (lasts more)

pub all_longer : (p more : List Entry) (starts : List Start)
    → AllByRecursion (IsLasting p) starts → AllByRecursion (IsLasting (p ++ more)) starts
all_longer p more [] last = tt
all_longer p more (s ∷ starts) last =
    (lasts_longer p more s last.0, all_longer p more starts last.1)

pub all_told : (p more : List Entry) (starts : List Start) → AllByRecursion (IsLasting p) starts
    → map (told_of (p ++ more)) starts ≡ map (told_of p) starts
all_told p more [] last = refl
all_told p more (s ∷ starts) last =
    ap (λ (t : Told). t ∷ map (told_of (p ++ more)) starts) (last.0 more)
    ∙ ap (λ (ts : List Told). told_of p s ∷ ts) (all_told p more starts last.1)

pub all_and : (P : Start → Type 0) (starts : List Start) (s : Start) → AllByRecursion P starts
    → P s → AllByRecursion P (starts ++ s ∷ [])
all_and P [] s all one = (one, tt)
all_and P (x ∷ starts) s all one = (all.0, all_and P starts s all.1 one)

-- ---- what STARTs saw

pub seen_longer : (p more : List Entry) (starts : List Start) → AllByRecursion (HasSeen p) starts
    → AllByRecursion (HasSeen (p ++ more)) starts
seen_longer p more [] seen = tt
seen_longer p more (s ∷ starts) seen =
    let here : last_front 0 s.rounds ≤ length p = seen.0 in
    let size : length (p ++ more) ≡ length p + length more = length-append p more in
    (omega (arith, here, size), seen_longer p more starts seen.1)

pub seen_at : (p : List Entry) (place : ℕ) (starts : List Start) (s : Start)
    → AllByRecursion (HasSeen p) starts → slice_get starts place ≡ Some s → HasSeen p s
seen_at p place [] s seen there = absurd (cc there)
seen_at p zero (x ∷ starts) s seen there =
    let same : x ≡ s = cc there in subst (HasSeen p) same seen.0
seen_at p (suc place) (x ∷ starts) s seen there = seen_at p place starts s seen.1 there

pub last_is : (from : ℕ) (rounds : List Round) (r : Round)
    → last_front from (rounds ++ r ∷ []) ≡ r.front
last_is from [] r = refl
last_is from (x ∷ rounds) r = last_is x.front rounds r

pub seen_round : (p : List Entry) (place : ℕ) (r : Round) (starts : List Start)
    → r.front ≤ length p → AllByRecursion (HasSeen p) starts
    → AllByRecursion (HasSeen p) (change_at place (with_round r) starts)
seen_round p place r [] within seen = tt
seen_round p zero r (x ∷ starts) within seen =
    let last : last_front 0 (x.rounds ++ r ∷ []) ≡ r.front = last_is 0 x.rounds r in
    (omega (arith, last, within), seen.1)
seen_round p (suc place) r (x ∷ starts) within seen =
    (seen.0, seen_round p place r starts within seen.1)

pub seen_end : (p : List Entry) (place : ℕ) (starts : List Start)
    → AllByRecursion (HasSeen p) starts → AllByRecursion (HasSeen p) (change_at place with_end starts)
seen_end p place [] seen = tt
seen_end p zero (x ∷ starts) seen = seen
seen_end p (suc place) (x ∷ starts) seen = (seen.0, seen_end p place starts seen.1)

-- rounds that are all at one front
pub seen_free : (from front : ℕ) (moments : List ℕ) → from ≤ front
    → last_front from (map (free_round front) moments) ≤ front
seen_free from front [] below = below
seen_free from front (now ∷ moments) below = seen_free front front moments (omega arith)
