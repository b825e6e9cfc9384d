-- The lines of a head, up to the one that ends it.
use Rattle.std.proofs.Common.{◌≡◌, ℕ, suc, ◌+◌, ◌-◌, ◌<◌, true, false, List, []}
use Rattle.std.proofs.Common.{◌∷◌, ◌++◌, length, take, drop, Some, None, Ok, Err}
use Rattle.std.proofs.Common.{refl, sym, ap, ◌∙◌, append_assoc, ⊎_elim, arith}
use Rattle.std.proofs.Common.{length-append}
use Rattle.std.proofs.lemmas.List.{append-nil, drop-drop, drop_all, take_all, take-append-le}
use Rattle.std.proofs.Math.Seq.{take-add}
use Rattle.station_config.specs.Drafts.{empty, told, onward, told_from, next}
use Rattle.script_head.specs.Lines.{lines_of}
use Rattle.script_head.specs.Head.{is_end, before_end, behind_end}
use Rattle.script_head.proofs.FirstLines.{line_in, behind_in, lines_first, text_split, line_ended}
use Rattle.script_head.proofs.FirstLines.{parts_of, parts_are_lines}

-- an empty line at the end says nothing
ended_by : (number : ℕ) (result : _) (lines : List (List ℕ))
    → ((draft : _) → told_from (next number) draft (lines ++ [] ∷ [])
    ≡ told_from (next number) draft lines)
    → onward number result (λ draft. told_from (next number) draft (lines ++ [] ∷ []))
    ≡ onward number result (λ draft. told_from (next number) draft lines)
ended_by number (Err cause) lines same = refl
ended_by number (Ok draft) lines same = same draft

told_ended : (lines : List (List ℕ)) (number : ℕ) (draft : _)
    → told_from number draft (lines ++ [] ∷ []) ≡ told_from number draft lines
told_ended [] number draft = refl
told_ended (line ∷ lines) number draft = ended_by number (told draft line) lines
    (λ draft. told_ended lines (next number) draft)

-- so the parts of a text say what its lines do
pub told_parts : (text : List ℕ)
    → told_from 1 empty (parts_of text) ≡ told_from 1 empty (lines_of text)
told_parts text =
    ⊎_elim (λ is. ap (told_from 1 empty) is ∙ told_ended (lines_of text) 1 empty)
    (λ is. ap (told_from 1 empty) is) (parts_are_lines text)

-- So many lines of a text were passed, none of which ends the head, and a rest stands behind them.
pub record Passed (text rest : List ℕ) (count : ℕ) : Type 0 where
  pub done : List (List ℕ)
  pub at : ℕ
  pub all : lines_of text ≡ done ++ lines_of rest
  pub before : (later : List (List ℕ)) → before_end (done ++ later) ≡ done ++ before_end later
  pub behind : (later : List (List ℕ)) → behind_end (done ++ later) ≡ behind_end later
  pub front : 0 < length rest → (more : List ℕ) → lines_of (take at text ++ more)
      ≡ done ++ lines_of more
  pub stands : rest ≡ drop at text
  pub place : at + length rest ≡ length text
  pub counted : count ≡ length done

pub none_passed : (text : List ℕ) → Passed text text 0
none_passed text = record {
  done = [];
  at = 0;
  all = refl;
  before = λ later. refl;
  behind = λ later. refl;
  front = λ some more. refl;
  stands = refl;
  place = omega arith;
  counted = refl;
}

-- one line more that doesn't end the head
before_one : (line : List ℕ) (later : List (List ℕ)) → is_end line ≡ false
    → before_end (line ∷ later) ≡ line ∷ before_end later
before_one line later other = rw other refl

behind_one : (line : List ℕ) (later : List (List ℕ)) → is_end line ≡ false
    → behind_end (line ∷ later) ≡ behind_end later
behind_one line later other = rw other refl

drop_front : (xs ys : List ℕ) → drop (length xs) (xs ++ ys) ≡ ys
drop_front [] ys = refl
drop_front (x ∷ xs) ys = drop_front xs ys

one_more : (done later : List (List ℕ)) (line : List ℕ)
    → (done ++ line ∷ []) ++ later ≡ done ++ line ∷ later
one_more done later line = append_assoc done (line ∷ []) later

module _ (text rest : List ℕ) (count : ℕ) (some : 0 < length rest)
    (passed : Passed text rest count) where
  abbrev line : List ℕ
  line = line_in rest

  abbrev later : List ℕ
  later = behind_in rest

  all_lines : lines_of text ≡ passed.done ++ line ∷ lines_of later
  all_lines = passed.all ∙ ap (λ lines. passed.done ++ lines) (lines_first rest some)

  -- the octets up to the rest behind the line
  record Front : Type 0 where
    at : ℕ
    front : 0 < length later → (more : List ℕ) → lines_of (take at text ++ more)
        ≡ (passed.done ++ line ∷ []) ++ lines_of more
    stands : later ≡ drop at text
    place : at + length later ≡ length text

  line_alone : rest ≡ line → later ≡ [] → Front
  line_alone is none = record {
    at = length text;
    front = λ some more. absurd (let no : length later ≡ 0 = ap length none in omega (
      arith,
      some,
      no,
    ));
    stands = none ∙ sym (drop_all (length text) text (omega arith));
    place = let no : length later ≡ 0 = ap length none in omega (arith, no);
  }

  line_then : rest ≡ line ++ 10 ∷ later → Front
  line_then is =
      let size : length rest ≡ length line + suc (length later) =
      ap length is ∙ length-append line (10 ∷ later) in
      let both : rest ≡ (line ++ 10 ∷ []) ++ later = is ∙ sym (append_assoc line (10 ∷ []) later) in
      let long : length (line ++ 10 ∷ []) ≡ length line + 1 = length-append line (10 ∷ []) in
      let taken : take (length line + 1) rest ≡ line ++ 10 ∷ [] =
      ap (take (length line + 1)) both
      ∙ take-append-le (length line + 1) (line ++ 10 ∷ []) later (omega (arith, long))
      ∙ take_all (length line + 1) (line ++ 10 ∷ []) (omega (arith, long)) in
      let dropped : drop (length line + 1) rest ≡ later = past both long in
      record {
        at = passed.at + (length line + 1);
        front = λ nonempty more.
            ap (λ front. lines_of (front ++ more))
            (take-add passed.at (length line + 1) text
            ∙ ap (λ part. take passed.at text ++ part)
            (ap (take (length line + 1)) (sym passed.stands) ∙ taken))
            ∙ ap lines_of (append_assoc (take passed.at text) (line ++ 10 ∷ []) more)
            ∙ passed.front some ((line ++ 10 ∷ []) ++ more)
            ∙ ap (λ lines. passed.done ++ lines)
            (ap lines_of (append_assoc line (10 ∷ []) more) ∙ line_ended rest more)
            ∙ sym (one_more passed.done (lines_of more) line);
        stands = sym dropped ∙ ap (drop (length line + 1)) passed.stands
            ∙ drop-drop (length line + 1) passed.at text;
        place = omega (arith, size, passed.place);
      }
    where
      past : rest ≡ (line ++ 10 ∷ []) ++ later
          → length (line ++ 10 ∷ []) ≡ length line + 1 → drop (length line + 1) rest ≡ later
      past both long = ap (drop (length line + 1)) both
          ∙ ap (λ n. drop n ((line ++ 10 ∷ []) ++ later)) (sym long)
          ∙ drop_front (line ++ 10 ∷ []) later

  front_on : Front
  front_on = ⊎_elim (λ alone. line_alone alone.0 alone.1) line_then (text_split rest)

  pub one_passed : is_end (line_in rest) ≡ false → Passed text (behind_in rest) (count + 1)
  one_passed other = record {
    done = passed.done ++ line ∷ [];
    at = front_on.at;
    all = all_lines ∙ sym (one_more passed.done (lines_of later) line);
    before = λ more. ap before_end (one_more passed.done more line)
        ∙ passed.before (line ∷ more)
        ∙ ap (λ lines. passed.done ++ lines) (before_one line more other)
        ∙ sym (one_more passed.done (before_end more) line);
    behind = λ more. ap behind_end (one_more passed.done more line)
        ∙ passed.behind (line ∷ more) ∙ behind_one line more other;
    front = front_on.front;
    stands = front_on.stands;
    place = front_on.place;
    counted = let longer : length (passed.done ++ line ∷ []) ≡ length passed.done + 1 =
        length-append passed.done (line ∷ []) in omega (arith, longer, passed.counted);
  }

  -- the line ends the head
  end_first : is_end line ≡ true → before_end (line ∷ lines_of later) ≡ []
  end_first ends = rw ends refl

  end_behind : is_end line ≡ true → behind_end (line ∷ lines_of later) ≡ Some (lines_of later)
  end_behind ends = rw ends refl

  before_is : is_end line ≡ true → before_end (lines_of text) ≡ passed.done
  before_is ends = ap before_end all_lines ∙ passed.before (line ∷ lines_of later)
      ∙ ap (λ lines. passed.done ++ lines) (end_first ends) ∙ append-nil passed.done

  pub end_told : is_end (line_in rest) ≡ true → (octets : ℕ) → octets ≡ length text - length rest
      → told_from 1 empty (parts_of (take octets text))
      ≡ told_from 1 empty (before_end (lines_of text))
  end_told ends octets are =
      let same : octets ≡ passed.at = omega (arith, are, passed.place) in
      ap (λ n. told_from 1 empty (parts_of (take n text))) same
      ∙ told_parts (take passed.at text)
      ∙ ap (told_from 1 empty)
      (ap lines_of (sym (append-nil (take passed.at text))) ∙ passed.front some []
      ∙ append-nil passed.done ∙ sym (before_is ends))

  pub end_counts : is_end (line_in rest) ≡ true → count ≡ length (before_end (lines_of text))
  end_counts ends = passed.counted ∙ ap length (sym (before_is ends))

  pub end_splits : is_end (line_in rest) ≡ true
      → Some (lines_of (behind_in rest)) ≡ behind_end (lines_of text)
  end_splits ends = sym (ap behind_end all_lines ∙ passed.behind (line ∷ lines_of later)
      ∙ end_behind ends)

-- no line ends the head
pub none_left : (text rest : List ℕ) (count : ℕ) → length rest ≡ 0 → Passed text rest count
    → Passed text [] count
none_left text [] count none passed = passed
none_left text (octet ∷ rest) count none passed = absurd (omega (arith, none))

module _ (text : List ℕ) (count : ℕ) (passed : Passed text [] count) where
  all_are : lines_of text ≡ passed.done
  all_are = passed.all ∙ append-nil passed.done

  before_all : before_end (lines_of text) ≡ passed.done
  before_all = ap before_end passed.all ∙ passed.before [] ∙ append-nil passed.done

  pub all_told : told_from 1 empty (parts_of (take (length text) text))
      ≡ told_from 1 empty (before_end (lines_of text))
  all_told =
      ap (λ octets. told_from 1 empty (parts_of octets))
      (take_all (length text) text (omega arith))
      ∙ told_parts text
      ∙ ap (told_from 1 empty) (all_are ∙ sym before_all)

  pub all_counted : count ≡ length (before_end (lines_of text))
  all_counted = passed.counted ∙ ap length (sym before_all)

  pub none_behind : None ≡ behind_end (lines_of text)
  none_behind = sym (ap behind_end passed.all ∙ passed.behind [])
