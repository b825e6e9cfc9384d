-- Readings that answer Ok, what they took, and what they take again.
use Rattle.std.proofs.Common.{◌≡◌, ◌⊎◌, inl, inr, ℕ, ◌+◌, ◌<◌, ◌≤◌, Bool, true, false, List, ◌++◌}
use Rattle.std.proofs.Common.{length, take, drop, get_or, nat_lt, if◌then◌else◌, Result, Ok, Err}
use Rattle.std.proofs.Common.{refl, sym, ◌∙◌, ap, subst, arith, append_assoc}
use Rattle.std.proofs.lemmas.List.{take_at, drop_at, take-append-drop, length-append, length-take}
use Rattle.std.proofs.lemmas.List.{get_or_append_left, get_or-append-add, get_or_past}
use Rattle.std.proofs.lemmas.Bool.{ltb-false, le-ltb, cases_lt}
use Rattle.record_form.specs.declared.fault.EntryFault.{EntryFault}
use Rattle.record_form.specs.declared.fault.EntryFault.TheVariants.{Cut, BadField}
use Rattle.record_form.specs.Left.{Left, past}
use Rattle.record_form.specs.Reading.{◌>>=◌, octets_at, judged, AreOctets}

pub bind_ok : {A B : Type 0} (r : Result A EntryFault) (f : A → Result B EntryFault) (y : B)
    → (r >>= f) ≡ Ok y → (x : A) × (r ≡ Ok x) × (f x ≡ Ok y)
bind_ok (Ok x) f y e = (x, refl, e)
bind_ok (Err fault) f y e = cc

pub ok_is : {A : Type 0} (x y : A) → ◌≡◌ {A = Result A EntryFault} (Ok x) (Ok y) → x ≡ y
ok_is x y e = cc

pub err_ok : {A : Type 0} (fault : EntryFault) (x : A)
    → ◌≡◌ {A = Result A EntryFault} (Err fault) (Ok x) → ⊥
err_ok fault x e = cc

pub judged_ok : {A : Type 0} (place : ℕ) (is_good : Bool) (read value : A)
    → judged place is_good read ≡ Ok value → (is_good ≡ true) × (read ≡ value)
judged_ok place true read value e = (refl, ok_is read value e)
judged_ok place false read value e = absurd (err_ok (BadField place) value e)

pub chosen : {A : Type 0} (test : Bool) (a b y : A) → (if test then a else b) ≡ y
    → ((test ≡ true) × (a ≡ y)) ⊎ ((test ≡ false) × (b ≡ y))
chosen true a b y e = inl (refl, e)
chosen false a b y e = inr (refl, e)

enough : {A : Type 0} (test : Bool) (read value : A)
    → (if test then Err Cut else Ok read) ≡ Ok value → (test ≡ false) × (read ≡ value)
enough true read value e = absurd (err_ok Cut value e)
enough false read value e = (refl, ok_is read value e)

-- these octets stood at the front, and the others are left
pub record Takes (left : Left) (text : List ℕ) (new : Left) : Type 0 where
  pub is : left.octets ≡ text ++ new.octets
  pub place : new.place ≡ left.place + length text

pub takes_then : (a : Left) (x : List ℕ) (b : Left) (y : List ℕ) (c : Left) → Takes a x b
    → Takes b y c → Takes a (x ++ y) c
takes_then a x b y c first second = record {
  is = first.is ∙ ap (λ (rest : List ℕ). x ++ rest) second.is ∙ sym (append_assoc x y c.octets);
  place = omega (arith, first.place, second.place, length-append x y);
}

-- what stands at the front stands there part by part
pub first_part : (a : Left) (x y : List ℕ) (c : Left) → Takes a (x ++ y) c
    → Takes a x (past (length x) a)
first_part a x y c whole = record {
  is = let is : a.octets ≡ x ++ (y ++ c.octets) = whole.is ∙ append_assoc x y c.octets in
      is ∙ ap (λ (rest : List ℕ). x ++ rest) (sym (ap (drop (length x)) is
      ∙ drop_at x (y ++ c.octets) (length x) refl));
  place = refl;
}

pub second_part : (a : Left) (x y : List ℕ) (c : Left) → Takes a (x ++ y) c
    → Takes (past (length x) a) y c
second_part a x y c whole = record {
  is = let is : a.octets ≡ x ++ (y ++ c.octets) = whole.is ∙ append_assoc x y c.octets in
      ap (drop (length x)) is ∙ drop_at x (y ++ c.octets) (length x) refl;
  place = omega (arith, whole.place, length-append x y);
}

octets_before : (x rest : List ℕ) → AreOctets (x ++ rest) → (place : ℕ)
    → ((place < length x) ⊎ (length x ≤ place)) → get_or x place 0 < 256
octets_before x rest all place (inl inside) =
    subst (λ (n : ℕ). n < 256) (get_or_append_left x rest 0 place inside) (all place)
octets_before x rest all place (inr behind) = omega (arith, get_or_past x place 0 behind)

-- parts of octets are octets
pub octets_first : (left : Left) (x : List ℕ) (new : Left) → Takes left x new
    → AreOctets left.octets → AreOctets x
octets_first left x new takes all place = octets_before x new.octets (subst AreOctets takes.is all)
    place (cases_lt place (length x))

pub octets_left : (left : Left) (x : List ℕ) (new : Left) → Takes left x new → AreOctets left.octets
    → AreOctets new.octets
octets_left left x new takes all place =
    subst (λ (n : ℕ). n < 256) (get_or-append-add x new.octets place 0)
    (subst AreOctets takes.is all (length x + place))

-- the next n octets
pub octets_take : (n : ℕ) (left : Left) (x : List ℕ) (new : Left) → octets_at n left ≡ Ok (x, new)
    → Takes left x new × (length x ≡ n)
octets_take n left x new e =
    let found = enough (nat_lt (length left.octets) n) (take n left.octets, past n left) (
      x,
      new,
    ) e in
    let long : n ≤ length left.octets = ltb-false (length left.octets) n found.0 in
    let x_is : take n left.octets ≡ x = ap (λ (p : List ℕ × Left). p.0) found.1 in
    let new_is : past n left ≡ new = ap (λ (p : List ℕ × Left). p.1) found.1 in
    let size : length x ≡ n = ap length (sym x_is) ∙ omega (arith, length-take n left.octets) in (
      record {
        is = sym (take-append-drop n left.octets)
            ∙ ap (λ (front : List ℕ). front ++ drop n left.octets) x_is
            ∙ ap (λ (l : Left). x ++ l.octets) new_is;
        place = sym (ap (λ (l : Left). l.place) new_is) ∙ ap (λ (k : ℕ). left.place + k) (sym size);
      },
      size,
    )

same_left : (one other : Left) → one.place ≡ other.place → one.octets ≡ other.octets → one ≡ other
same_left one other place octets = rw (place, octets) refl

pub octets_again : (n : ℕ) (left : Left) (x : List ℕ) (new : Left) → Takes left x new → length x ≡ n
    → octets_at n left ≡ Ok (x, new)
octets_again n left x new takes size =
    let long : nat_lt (length left.octets) n ≡ false =
    le-ltb _ _ (omega (arith, ap length takes.is, length-append x new.octets, size)) in
    let front : take n left.octets ≡ x = ap (take n) takes.is ∙ take_at x new.octets n size in
    let behind : past n left ≡ new = same_left (past n left) new
    (sym (takes.place ∙ ap (λ (k : ℕ). left.place + k) size)) (ap (drop n) takes.is
    ∙ drop_at x new.octets n size) in
    rw (long, front) (ap (λ (l : Left). Ok (x, l)) behind)
