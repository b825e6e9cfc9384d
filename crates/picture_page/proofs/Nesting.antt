-- What is asked of a page keeps it the front of a tree's spelling.
use Rattle.std.proofs.Common.{◌≡◌, ℕ, List, [], ◌∷◌, ◌++◌, refl, reverse}
use Rattle.std.proofs.Common.{sym, ◌∙◌, ap, subst, append_assoc, append-nil}
use Rattle.std.specs.List.{flat_map}
use Rattle.std.proofs.lemmas.List.{reverse-append}
use Rattle.picture_page.specs.Attributes.{Said}
use Rattle.picture_page.specs.Escape.{escaped}
use Rattle.picture_page.specs.Meta.{meta_text}
use Rattle.picture_page.specs.declared.meta.Meta.{Meta}
use Rattle.picture_page.specs.Content.{start, finish, doctype, Content, nothing, text, lone, element, spelled}
use Rattle.picture_page.specs.Content.{Nests, outside, within, IsDocument}
use Rattle.picture_page.specs.Sheet.{Sheet, Finishes, ended}
use Rattle.picture_page.specs.declared.tag.Tag.{Tag}

-- one list of contents behind another
behind : Content → Content → Content
behind nothing d = d
behind (text octets more) d = text octets (behind more d)
behind (lone m more) d = lone m (behind more d)
behind (element t attributes held more) d = element t attributes held (behind more d)

spelled_behind : (c d : Content) → spelled (behind c d) ≡ spelled c ++ spelled d
unfolding behind
spelled_behind nothing d = refl
spelled_behind (text octets more) d =
    ap (λ rest. escaped octets ++ rest) (spelled_behind more d)
    ∙ sym (append_assoc (escaped octets) (spelled more) (spelled d))
spelled_behind (lone m more) d =
    ap (λ rest. meta_text m ++ rest) (spelled_behind more d)
    ∙ sym (append_assoc (meta_text m) (spelled more) (spelled d))
spelled_behind (element t attributes held more) d =
    ap (λ rest. start t attributes ++ (spelled held ++ (finish t ++ rest))) (spelled_behind more d)
    ∙ sym (append_assoc (start t attributes) (spelled held ++ (finish t ++ spelled more)) (spelled d)
    ∙ ap (λ rest. start t attributes ++ rest)
    (append_assoc (spelled held) (finish t ++ spelled more) (spelled d)
    ∙ ap (λ rest. spelled held ++ rest) (append_assoc (finish t) (spelled more) (spelled d))))

-- contents stand behind what is there
more_nests : (octets : List ℕ) (tags : List Tag) (d : Content) → Nests octets tags
    → Nests (octets ++ spelled d) tags
more_nests octets _ d (outside c e) =
    outside (behind c d) (ap (λ there. there ++ spelled d) e ∙ sym (spelled_behind c d))
more_nests octets _ d (within {before} n t attributes c e) =
    within n t attributes (behind c d)
    (ap (λ there. there ++ spelled d) e
    ∙ append_assoc (before ++ start t attributes) (spelled c) (spelled d)
    ∙ ap (λ rest. (before ++ start t attributes) ++ rest) (sym (spelled_behind c d)))

pub text_nests : (octets : List ℕ) (tags : List Tag) (w : List ℕ) → Nests octets tags
    → Nests (octets ++ escaped w) tags
text_nests octets tags w n =
    let same : octets ++ spelled (text w nothing) ≡ octets ++ escaped w
    = ap (λ rest. octets ++ rest) (append-nil (escaped w)) in
    subst (λ there. Nests there tags) same (more_nests octets tags (text w nothing) n)

pub meta_nests : (octets : List ℕ) (tags : List Tag) (m : Meta) → Nests octets tags
    → Nests (octets ++ meta_text m) tags
meta_nests octets tags m n =
    let same : octets ++ spelled (lone m nothing) ≡ octets ++ meta_text m
    = ap (λ rest. octets ++ rest) (append-nil (meta_text m)) in
    subst (λ there. Nests there tags) same (more_nests octets tags (lone m nothing) n)

pub start_nests : (octets : List ℕ) (tags : List Tag) (t : Tag) (attributes : List Said)
    → Nests octets tags → Nests (octets ++ start t attributes) (t ∷ tags)
start_nests octets tags t attributes n =
    within n t attributes nothing (sym (append-nil (octets ++ start t attributes)))

-- what an element holds, its start before it and its end behind it
closed : (before : List ℕ) (t : Tag) (attributes : List Said) (c : Content)
    → before ++ spelled (element t attributes c nothing)
    ≡ ((before ++ start t attributes) ++ spelled c) ++ finish t
closed before t attributes c =
    ap (λ rest. before ++ (start t attributes ++ (spelled c ++ rest))) (append-nil (finish t))
    ∙ sym (append_assoc (before ++ start t attributes) (spelled c) (finish t)
    ∙ append_assoc before (start t attributes) (spelled c ++ finish t))

pub finish_nests : (octets : List ℕ) (t : Tag) (tags : List Tag) → Nests octets (t ∷ tags)
    → Nests (octets ++ finish t) tags
finish_nests octets _ _ (within {before} {open_tags} n t attributes c e) =
    let same : before ++ spelled (element t attributes c nothing) ≡ octets ++ finish t
    = closed before t attributes c ∙ ap (λ there. there ++ finish t) (sym e) in
    subst (λ there. Nests there open_tags) same
    (more_nests before open_tags (element t attributes c nothing) n)

pub all_end : (octets : List ℕ) (tags : List Tag) → Nests octets tags
    → IsDocument (doctype ++ (octets ++ flat_map finish tags))
all_end octets [] (outside c e) = (c, ap (λ there. doctype ++ there) (append-nil octets ∙ e))
all_end octets (t ∷ tags) n =
    subst (λ there. IsDocument (doctype ++ there))
    (append_assoc octets (finish t) (flat_map finish tags))
    (all_end (octets ++ finish t) tags (finish_nests octets t tags n))

-- ---- elements that are open, the last one at a vector's end

pub nothing_nests : Nests [] []
nothing_nests = outside nothing refl

pub reversed_more : (items : List Tag) (t : Tag) → reverse (items ++ t ∷ []) ≡ t ∷ reverse items
reversed_more items t = reverse-append items (t ∷ [])

pub begun_nests : (octets : List ℕ) (items : List Tag) (t : Tag) (attributes : List Said)
    → Nests octets (reverse items)
    → Nests (octets ++ start t attributes) (reverse (items ++ t ∷ []))
begun_nests octets items t attributes n =
    subst (λ tags. Nests (octets ++ start t attributes) tags) (sym (reversed_more items t))
    (start_nests octets (reverse items) t attributes n)

pub ended_nests : (octets more : List ℕ) (tags outer : List Tag)
    → Finishes octets tags more outer → Nests octets tags → Nests more outer
ended_nests octets more [] outer f n =
    subst (λ o. Nests o outer) (sym f.0) (subst (λ o. Nests octets o) (sym f.1) n)
ended_nests octets more (t ∷ tags) outer f n =
    subst (λ o. Nests o outer) (sym f.0)
    (subst (λ o. Nests (octets ++ finish t) o) (sym f.1) (finish_nests octets t tags n))

abbrev sheet : List ℕ → List Tag → Sheet
sheet octets tags = record { octets = octets; open_tags = tags }

pub ended_is : (octets more : List ℕ) (tags outer : List Tag) → Finishes octets tags more outer
    → sheet more outer ≡ ended (sheet octets tags) tags
ended_is octets more [] outer f =
    ap (λ there. sheet there outer) f.0 ∙ ap (λ left. sheet octets left) f.1
ended_is octets more (t ∷ tags) outer f =
    ap (λ there. sheet there outer) f.0 ∙ ap (λ left. sheet (octets ++ finish t) left) f.1

pub finished_more : (octets : List ℕ) (items : List Tag) (t : Tag)
    → (octets ++ finish t) ++ flat_map finish (reverse items)
    ≡ octets ++ flat_map finish (reverse (items ++ t ∷ []))
finished_more octets items t =
    append_assoc octets (finish t) (flat_map finish (reverse items))
    ∙ ap (λ tags. octets ++ flat_map finish tags) (sym (reversed_more items t))

pub popped_finishes : (octets : List ℕ) (items : List Tag) (t : Tag)
    → Finishes octets (reverse (items ++ t ∷ [])) (octets ++ finish t) (reverse items)
popped_finishes octets items t =
    subst (λ tags. Finishes octets tags (octets ++ finish t) (reverse items))
    (sym (reversed_more items t)) (refl, refl)
