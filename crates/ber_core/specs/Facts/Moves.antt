-- What is left to read inside an element and behind it.
use Rattle.std.proofs.Common.{◌≡◌, ℕ, ◌+◌, ◌-◌, ◌≤◌, List, ◌++◌, length, take, drop, refl, sym, ◌∙◌}
use Rattle.std.proofs.Common.{ap, arith}
use Rattle.std.proofs.lemmas.List.{append_assoc, take_at, drop_at, drop-take, drop-drop, take-take}
use Rattle.std.proofs.lemmas.List.{length-append, length-take}
use Rattle.ber_core.specs.Parts.{length-parts}
use Rattle.ber_core.specs.View.{View, end_of, left}
use Rattle.ber_core.specs.Reading.{Stands, inside, behind}

-- what is left from k octets on
pub left-drop : (octets : List ℕ) (place end k : ℕ) → k ≤ end - place
    → take (end - (place + k)) (drop (place + k) octets)
    ≡ drop k (take (end - place) (drop place octets))
left-drop octets place end k fits =
    let split : end - place ≡ k + (end - (place + k)) = omega arith in
    rw (split, drop-take k (end - (place + k)) (drop place octets), drop-drop) refl

module _ (view : View) (tag content : List ℕ) (start : ℕ)
    (found : Stands view tag content start) where
  spelled_length : length found.spelled ≡ length tag + length found.is_element.0 + length content
  spelled_length = omega (
    arith,
    ap length found.is_element.2,
    length-parts tag found.is_element.0 content,
  )

  spelled_fits : length found.spelled ≤ end_of view - view.place
  spelled_fits = omega (
    arith,
    ap length found.before_end,
    length-append found.spelled found.rest,
    length-take (end_of view - view.place) (drop view.place view.octets),
  )

  pub left-behind : left (behind view start content) ≡ found.rest
  left-behind =
      rw found.begins
      (left-drop view.octets view.place (end_of view) (length found.spelled) spelled_fits
      ∙ ap (drop (length found.spelled)) found.before_end
      ∙ drop_at found.spelled found.rest (length found.spelled) refl)

  pub left-inside : left (inside view start content) ≡ content
  left-inside =
      let head : List ℕ = tag ++ found.is_element.0 in
      let head_length : length head ≡ length tag + length found.is_element.0 =
      length-append tag found.is_element.0 in
      let count : start + length content - start ≡ length content = omega arith in
      let begins : start ≡ view.place + length head =
      omega (arith, found.begins, spelled_length, head_length) in
      let room : length content ≤ end_of view - start =
      omega (arith, spelled_fits, spelled_length, head_length, begins) in
      let front : left view ≡ head ++ (content ++ found.rest) = found.before_end
      ∙ ap (λ spelled. spelled ++ found.rest) found.is_element.2 ∙ simp append_assoc in
      let behind_head : take (end_of view - start) (drop start view.octets) ≡ content ++ found.rest
      = rw begins (left-drop view.octets view.place (end_of view) (length head)
      (omega (arith, spelled_fits, spelled_length, head_length))
      ∙ ap (drop (length head)) front ∙ drop_at head (content ++ found.rest) (length head) refl) in
      rw count (sym (take-take (length content) (end_of view - start) (drop start view.octets) room)
      ∙ ap (take (length content)) behind_head
      ∙ take_at content found.rest (length content) refl)
