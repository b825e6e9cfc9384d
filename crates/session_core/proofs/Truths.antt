-- What holds of an answer that is Ok or an error.
use Rattle.std.specs.Prelude.{Result, Ok, Err, OnOk, OnErr}

pub on_err : {X E P : Type 0} (r : Result X E) → P → OnErr r P
on_err (Ok x) h = tt
on_err (Err e) h = h

-- what follows of a fact that holds where an answer is Ok
pub on_ok : {X E P Q : Type 0} (r : Result X E) → (P → Q) → OnOk r P → OnOk r Q
on_ok (Ok x) follows h = follows h
on_ok (Err e) follows h = tt

-- what follows of two facts that hold where an answer is Ok
pub on_ok_both : {X E P Q R : Type 0} (r : Result X E) → (P → Q → R) → OnOk r P → OnOk r Q
    → OnOk r R
on_ok_both (Ok x) follows h k = follows h k
on_ok_both (Err e) follows h k = tt
