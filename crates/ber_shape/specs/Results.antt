-- Readings that answer Ok, and what they went through.
use Rattle.std.proofs.Common.{◌≡◌, true, false, if◌then◌else◌, Result, Ok, Err, Bool, refl, ap, ◌⊎◌}
use Rattle.std.proofs.Common.{inl, inr}
use Rattle.ber_core.specs.declared.fault.BerFault.{BerFault}
use Rattle.ber_core.specs.View.{View}
use Rattle.ber_core.specs.Reading.{◌>>=◌}

-- what was read, taken as f says
abbrev pub taken : {X Y : Type 0} → (X → Y) → Result (X × View) BerFault
    → Result (Y × View) BerFault
taken f reading = reading >>= λ read. Ok (f read.0, read.1)

pub bind_ok : {A B : Type 0} (r : Result A BerFault) (f : A → Result B BerFault) (y : B)
    → (r >>= f) ≡ Ok y → (x : A) × (r ≡ Ok x) × (f x ≡ Ok y)
bind_ok (Ok x) f y e = (x, refl, e)
bind_ok (Err fault) f y e = cc

pub ok_is : {A : Type 0} (x y : A) → ◌≡◌ {A = Result A BerFault} (Ok x) (Ok y) → x ≡ y
ok_is x y e = cc

pub err_ok : {A : Type 0} (fault : BerFault) (x : A)
    → ◌≡◌ {A = Result A BerFault} (Err fault) (Ok x) → ⊥
err_ok fault x e = cc

-- a test that didn't refuse
pub tested : {A : Type 0} (test : Bool) (x y : A) (fault : BerFault)
    → (if test then Ok x else Err fault) ≡ Ok y → (test ≡ true) × (x ≡ y)
tested true x y fault e = (refl, ok_is x y e)
tested false x y fault e = absurd (err_ok fault y e)

pub chosen : {A : Type 0} (test : Bool) (a b y : A) → (if test then a else b) ≡ y
    → ((test ≡ true) × (a ≡ y)) ⊎ ((test ≡ false) × (b ≡ y))
chosen true a b y e = inl (refl, e)
chosen false a b y e = inr (refl, e)

pub if_true : {A : Type 0} (test : Bool) (a b y : A) → test ≡ true → a ≡ y
    → (if test then a else b) ≡ y
if_true test a b y is e = rw is e

pub if_false : {A : Type 0} (test : Bool) (a b y : A) → test ≡ false → b ≡ y
    → (if test then a else b) ≡ y
if_false test a b y is e = rw is e

-- what was taken as f says
pub taken_ok : {X Y : Type 0} (f : X → Y) (reading : Result (X × View) BerFault) (y : Y)
    (new : View) → taken f reading ≡ Ok (y, new)
    → (x : X) × (reading ≡ Ok (x, new)) × (f x ≡ y)
taken_ok f (Ok read) y new e =
    let pairs = ok_is (f read.0, read.1) (y, new) e in
    (read.0, ap (λ place. Ok (read.0, place)) (ap (λ p. p.1) pairs), ap (λ p. p.0) pairs)
taken_ok f (Err fault) y new e = absurd (err_ok fault (y, new) e)

pub taken_again : {X Y : Type 0} (f : X → Y) (reading : Result (X × View) BerFault) (x : X) (y : Y)
    (new : View) → reading ≡ Ok (x, new) → f x ≡ y → taken f reading ≡ Ok (y, new)
taken_again f reading x y new e same = rw e (ap (λ y. Ok (y, new)) same)
