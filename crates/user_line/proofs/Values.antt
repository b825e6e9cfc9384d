-- The value of a word, by clap's rows.
use Rattle.std.proofs.Common.{◌≡◌, ◌&&◌, ◌||◌, Bool, true, false, ℕ, ◌-◌, ◌≤◌, nat_le}
use Rattle.std.proofs.Common.{List, [], ◌∷◌, length, take, drop, suc, refl, sym, ap, ◌∙◌, arith}
use Rattle.std.proofs.lemmas.Bool.{and_parts, leb-true}
use Rattle.std.specs.List.{list_all, take-map, drop-map}
use denote.Ref.{Bor}
use Rattle.clap.proofs.WalkLemmas.{first_value-rows}
use Rattle.clap.specs.Words.{first_of, first_value, rows_of}
use Rattle.clap.specs.declared.parser.matches.Found.{Found}
use Rattle.user_line.specs.declared.form.Form.{Form}
use Rattle.user_line.specs.Line.{Text, is_plain, texts_of, ids_of, least_of, has_count, is_line}

pub first_in_rows : (found : Found) (id : Text)
    → first_value found id ≡ first_of id (rows_of found)
first_in_rows = first_value-rows

pub plain_texts : (words : List (Bor Text))
    → list_all is_plain (texts_of words) ≡ list_all (λ word. is_plain word.now) words
plain_texts [] = refl
plain_texts (word ∷ words) = ap (λ b. is_plain word.now && b) (plain_texts words)

pub counted : (words : List (Bor Text)) → length (texts_of words) ≡ length words
counted [] = refl
counted (word ∷ words) = ap suc (counted words)

pub texts_take : (n : ℕ) (words : List (Bor Text))
    → texts_of (take n words) ≡ take n (texts_of words)
texts_take n words = sym (take-map (λ (word : Bor Text). word.now) n words)

pub texts_drop : (n : ℕ) (words : List (Bor Text))
    → texts_of (drop n words) ≡ drop n (texts_of words)
texts_drop n words = sym (drop-map (λ (word : Bor Text). word.now) n words)

pub rest_counted : (words : List (Bor Text))
    → length (drop 1 (texts_of words)) ≡ length words - 1
rest_counted [] = refl
rest_counted (word ∷ words) =
    let less : length words ≡ suc (length words) - 1 = omega arith in
    counted words ∙ less

pub few_words : (form : Form) (words : List Text) (ids : List (Bor Text))
    → is_line form words ≡ true → texts_of ids ≡ ids_of form → length words ≤ length ids
few_words form words ids is same =
    let parts = and_parts (has_count form (length words)) (list_all is_plain words) is in
    let counts = and_parts (nat_le (least_of form) (length words))
    (nat_le (length words) (length (ids_of form))) parts.0 in
    let few = leb-true (length words) (length (ids_of form)) counts.1 in
    let size : length (ids_of form) ≡ length ids = ap length (sym same) ∙ counted ids in
    omega (arith, few, size)

pub or_false : (b : Bool) → (b || false) ≡ b
or_false true = refl
or_false false = refl
