use Rattle.std.proofs.Common.{◌≡◌, drop, Ok, eq-eqb, refl, rules}
use Rattle.std.proofs.lemmas.List.{drop-drop}
use Rattle.ber_core.specs.View.{View, end_of}
use Rattle.ber_core.specs.Reading.{leave}
use Rattle.ber_core.proofs.reader.Reader.leave.Goals as goal

at_end : (view : View) → view.place ≡ end_of view
    → leave view ≡ Ok (tt, record view { ends = drop 1 view.ends })
at_end view e = rw (eq-eqb view.place (end_of view) e) refl

pub returns-then-self-lt-DEEPEST-clause-exact : goal.returns-then-self-lt-DEEPEST-clause-exact
returns-then-self-lt-DEEPEST-clause-exact c =
    let end : c.args.self.now.place ≡ end_of c.args.self.now = search rules in
    rw (at_end c.args.self.now end, ← c.self.view_is, drop-drop) refl
