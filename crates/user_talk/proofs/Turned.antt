-- What a user's turn comes to, and what was printed of its lines.
use Rattle.std.proofs.Common.{◌≡◌, ℕ, Bool, true, false, if◌then◌else◌, List, [], Option, refl}
use Rattle.std.proofs.Common.{subst, append-nil}
use Rattle.octet_core.specs.Written.{Gains, GainsFront}
use Rattle.octet_core.specs.Writing.{gains_front-none, gains_front-append}
use Rattle.user_core.specs.Course.{is_over}
use Rattle.user_core.specs.Hearing.{Hearing}
use Rattle.user_core.specs.Turn.{Standing, Answer, turned, answered}

same_by : (b : Bool) (x y : Answer) (s t : Standing) → x.status ≡ s.course.status
    → y.status ≡ t.course.status
    → (if b then x else y).status ≡ (if b then s else t).course.status
same_by true x y s t first second = first
same_by false x y s t first second = second

pub same_status : (s : Standing) (waits asked : Bool) (now : ℕ) (h : Hearing)
    → (answered s waits asked now h).status ≡ (turned s waits asked now h).course.status
same_status s waits asked now h = same_by (is_over s.course) _ _ _ _ refl refl

pub front_none : (now : Option (List ℕ)) (octets : List ℕ) → GainsFront now now octets
front_none = gains_front-none

pub front_all : (a b : Option (List ℕ)) (octets : List ℕ) → Gains a b octets
    → GainsFront a b octets
front_all a b octets gains =
    subst (λ l. GainsFront a b l) (append-nil octets)
    (gains_front-append a b b octets [] gains (gains_front-none b []))
