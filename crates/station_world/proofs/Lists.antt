-- Lists, archives that grow, and fronts of rounds.
use Rattle.std.proofs.Common.{◌≡◌, ℕ, ◌≤◌, Bool, true, false, ◌&&◌, IsTrue, List, [], ◌∷◌, ◌++◌}
use Rattle.std.proofs.Common.{refl, sym, ap, subst, ◌∙◌, append_assoc, append-nil, arith}
use Rattle.std.specs.List.{AllByRecursion}
use Rattle.archive_terms.specs.Archive.{Entry, is_archive, IsArchive, may_follow}
use Rattle.archive_terms.specs.Rounds.{Round, FrontsRise, last_front}
use Rattle.station_world.specs.Comes.{Begins}

pub all_of_it : {X : Type 0} (a : List X) → Begins a a
all_of_it a = ([], sym (append-nil a))

pub joined : {X : Type 0} (a b c : List X) → Begins a b → Begins b c → Begins a c
joined {X} a b c first second = (
  first.0 ++ second.0,
  second.1 ∙ ap (λ (xs : List X). xs ++ second.0) first.1 ∙ append_assoc a first.0 second.0,
)

pub all_join : {X : Type 0} (P : X → Type 0) (xs ys : List X) → AllByRecursion P xs
    → AllByRecursion P ys → AllByRecursion P (xs ++ ys)
all_join P [] ys a b = b
all_join P (x ∷ xs) ys a b = (a.0, all_join P xs ys a.1 b)

pub all_map : {X : Type 0} (P Q : X → Type 0) → ((x : X) → P x → Q x) → (xs : List X)
    → AllByRecursion P xs → AllByRecursion Q xs
all_map P Q f [] a = tt
all_map P Q f (x ∷ xs) a = (f x a.0, all_map P Q f xs a.1)

and_left : (a b : Bool) → IsTrue (a && b) → IsTrue a
and_left true b h = refl
and_left false b h = h

pub and_both : (a b : Bool) → IsTrue a → IsTrue b → IsTrue (a && b)
and_both true b h k = k
and_both false b h k = h

-- the front of an archive is one
abbrev pub Grows : Type 0
Grows = (a : List Entry) (e : Entry) → is_archive (a ++ e ∷ []) ≡ (is_archive a && may_follow a e)

pub front_archive : Grows → (a b : List Entry) → IsArchive (a ++ b) → IsArchive a
front_archive grows a [] archive = subst IsArchive (append-nil a) archive
front_archive grows a (e ∷ b) archive =
    let one : IsArchive (a ++ e ∷ []) =
    front_archive grows (a ++ e ∷ []) b (subst IsArchive (sym (append_assoc a (e ∷ []) b)) archive) in
    and_left (is_archive a) (may_follow a e) (subst IsTrue (grows a e) one)

pub front_of : Grows → (a b : List Entry) → Begins a b → IsArchive b → IsArchive a
front_of grows a b more archive = front_archive grows a more.0 (subst IsArchive more.1 archive)

-- ---- rounds

pub rise_last : (from : ℕ) (rounds : List Round) (r : Round) → FrontsRise from rounds
    → last_front from rounds ≤ r.front → FrontsRise from (rounds ++ r ∷ [])
rise_last from [] r rise later = (later, tt)
rise_last from (x ∷ rounds) r rise later = (rise.0, rise_last x.front rounds r rise.1 later)

pub last_is : (from : ℕ) (rounds : List Round) (r : Round)
    → last_front from (rounds ++ r ∷ []) ≡ r.front
last_is from [] r = refl
last_is from (x ∷ rounds) r = last_is x.front rounds r

pub front_to_last : (f : ℕ) (rounds : List Round) → FrontsRise f rounds → f ≤ last_front f rounds
front_to_last f [] rise = omega arith
front_to_last f (r ∷ rounds) rise =
    let here : f ≤ r.front = rise.0 in omega (arith, front_to_last r.front rounds rise.1)
