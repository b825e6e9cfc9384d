-- What is told, one store behind another.
use Rattle.std.proofs.Common.{◌≡◌, ◌∙◌, ◌⊎◌, ⊎_elim, inr, ℕ, ◌+◌, ◌≤◌, Option, Result, Ok, Err}
use Rattle.std.proofs.Common.{List, [], subst, ap}
use Rattle.std.specs.Result.{IsErrAnd}
use Rattle.std.proofs.lemmas.List.{append-nil}
use Rattle.octet_core.specs.Written.{Writes}
use Rattle.octet_core.specs.Writing.{writes-append, writes-refused}
use Rattle.std.specs.List.{flat_map}
use Rattle.kill_store.specs.Numbered.{count_line, counts}
use Rattle.kill_store.specs.declared.halt.Halt.{Halt}
use Rattle.kill_store.specs.declared.halt.Halt.TheVariants.{WriteFault}
use Rattle.kill_store.proofs.Counting.{counts-append, between-none, between-one}

pub counts-none : (number : ℕ) → counts number number ≡ []
counts-none number = ap (flat_map (λ n. count_line (n + 1))) (between-none number)

pub counts-one : (number : ℕ) → counts number (number + 1) ≡ count_line (number + 1)
counts-one number =
    ap (flat_map (λ n. count_line (n + 1))) (between-one number)
    ∙ append-nil (count_line (number + 1))

-- nothing was told, for another reason than a fault of the output
pub told_none : {T : Type 0} (now : Option (List ℕ)) (faults number last : ℕ) (halt : Halt)
    → ¬ (halt ≡ WriteFault)
    → Writes {T = T} WriteFault now now faults faults (counts number last) (Err halt)
told_none now faults number last halt other =
    writes-refused WriteFault now faults (counts number last) halt other

-- one count was told
pub told_one : {T : Type 0} (a b : Option (List ℕ)) (f g number count last : ℕ)
    (result : Result T Halt) → count ≡ number + 1 → last ≡ number + 1
    → Writes {T = T} WriteFault a b f g (count_line count) result
    → Writes {T = T} WriteFault a b f g (counts number last) result
told_one {T} a b f g number count last result is same wrote =
    rw (same, counts-one number, ← is) wrote

-- so far, and what one more store told
pub told_on : {T U : Type 0} (a b c : Option (List ℕ)) (f g h first number last : ℕ) (value : T)
    (result : Result U Halt) → first ≤ number → number ≤ last
    → Writes {T = T} WriteFault a b f g (counts first number) (Ok value)
    → Writes {T = U} WriteFault b c g h (counts number last) result
    → Writes {T = U} WriteFault a c f h (counts first last) result
told_on {T} {U} a b c f g h first number last value result p q one two =
    subst (λ text. Writes {T = U} WriteFault a c f h text result)
    (counts-append first number last p q)
    (writes-append WriteFault a b c f g h (counts first number) (counts number last) value result
    one two)

-- a store that succeeded
pub told_more : {T : Type 0} (a b c : Option (List ℕ)) (f g h first number last : ℕ) (value : T)
    → first ≤ number → number ≤ last
    → Writes {T = Unit {0}} WriteFault a b f g (counts first number) (Ok tt)
    → Writes {T = T} WriteFault b c g h (counts number last) (Ok value)
    → Writes {T = Unit {0}} WriteFault a c f h (counts first last) (Ok tt)
told_more {T} a b c f g h first number last value p q one two =
    let both : Writes {T = T} WriteFault a c f h (counts first last) (Ok value) =
    told_on {T = Unit {0}} {U = T} a b c f g h first number last tt (Ok value) p q one two in
    record {
      all = both.all;
      front = tt;
      never_falls = both.never_falls;
      rose = λ is. absurd cc;
      raised = λ is. absurd cc;
      kept = inr (⊎_elim (λ is. absurd cc) (λ same. same) both.kept);
    }

-- a store that failed
pub told_stopped : (a b c : Option (List ℕ)) (f g h first number last : ℕ) (halt : Halt)
    (result : Result (Unit {0}) Halt) → IsErrAnd result (λ e. e ≡ halt) → first ≤ number
    → number ≤ last → Writes {T = Unit {0}} WriteFault a b f g (counts first number) (Ok tt)
    → Writes {T = Unit {0}} WriteFault b c g h (counts number last) (Err halt)
    → Writes {T = Unit {0}} WriteFault a c f h (counts first last) result
told_stopped a b c f g h first number last halt (Ok value) is p q one two = absurd is
told_stopped a b c f g h first number last halt (Err e) is p q one two =
    rw is (told_on {T = Unit {0}} {U = Unit {0}} a b c f g h first number last tt (Err halt) p q one
    two)
