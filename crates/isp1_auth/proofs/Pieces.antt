-- Spellings in the pieces in which they are put together.
use Rattle.std.proofs.Common.{◌≡◌, ℕ, pos, List, [], ◌∷◌, ◌++◌, length, append_assoc, append-nil}
use Rattle.std.proofs.Common.{sym, ◌∙◌, ap}
use Rattle.ber_core.specs.Length.{shortest_length}
use Rattle.ber_core.specs.Integer.{integer_octets}
use Rattle.ber_core.specs.Tree.{Tree, Trees, primitive, constructed, no_trees, tree_and}
use Rattle.ber_core.specs.Spelling.{canonical, canonical_all}
use Rattle.ber_core.specs.Parts.{spelled-primitive, spelled-constructed}
use Rattle.isp1_auth.specs.declared.secret.Secret.{Secret}
use Rattle.isp1_auth.specs.Digest.{hash_fields, hash_input, before_name, before_pass, digest}
use Rattle.isp1_auth.specs.Signed.{fields, claim, signed}

-- ---- over plain trees and lists

three : (a b c : Tree) → canonical_all (tree_and a (tree_and b (tree_and c no_trees)))
    ≡ canonical a ++ (canonical b ++ canonical c)
unfolding canonical
three a b c = ap (λ rest. canonical a ++ (canonical b ++ rest)) (append-nil (canonical c))

four : (a b c d : Tree) → canonical_all (tree_and a (tree_and b (tree_and c (tree_and d no_trees))))
    ≡ canonical a ++ (canonical b ++ (canonical c ++ canonical d))
unfolding canonical
four a b c d = ap (λ rest. canonical a ++ (canonical b ++ (canonical c ++ rest)))
    (append-nil (canonical d))

-- a constructed element whose members are spelled so
around : (tag content : List ℕ) (members : Trees) → canonical_all members ≡ content
    → canonical (constructed tag members) ≡ tag
    ++ (shortest_length (length (canonical_all members)) ++ content)
around tag content members is = spelled-constructed tag members
    ∙ ap (λ content. tag ++ (shortest_length (length (canonical_all members)) ++ content)) is

regrouped : (head time number sizes name pass_head pass : List ℕ)
    → head ++ time ++ number ++ (0x1a ∷ []) ++ sizes ++ name ++ pass_head ++ pass
    ≡ head ++ (time ++ (number ++ (((0x1a ∷ []) ++ (sizes ++ name)) ++ (pass_head ++ pass))))
regrouped head time number sizes name pass_head pass = simp append_assoc

one_behind_another : (size time number protected : List ℕ)
    → (0x30 ∷ []) ++ size ++ time ++ number ++ protected
    ≡ (0x30 ∷ []) ++ (size ++ (time ++ (number ++ protected)))
one_behind_another size time number protected = simp append_assoc

-- ---- the hash input, and credentials

pub in_pieces : (secret : Secret) (time : List ℕ) (number : ℕ)
    → before_name secret time number ++ secret.name.now ++ before_pass secret ++ secret.pass.now
    ≡ hash_input secret time number
in_pieces secret time number =
    let t = primitive (0x04 ∷ []) time in
    let n = primitive (0x02 ∷ []) (integer_octets (pos number)) in
    let name = primitive (0x1a ∷ []) secret.name.now in
    let pass = primitive (0x04 ∷ []) secret.pass.now in
    regrouped (0x30 ∷ shortest_length (length (canonical_all (hash_fields secret time number))))
    (canonical t) (canonical n) (shortest_length (length secret.name.now)) secret.name.now
    (before_pass secret) secret.pass.now
    ∙ sym (around (0x30 ∷ []) _ (hash_fields secret time number) (four t n name pass
    ∙ ap (λ octets. canonical t ++ (canonical n ++ (octets ++ canonical pass)))
    (spelled-primitive (0x1a ∷ []) secret.name.now)
    ∙ ap (λ octets. canonical t ++ (canonical n
    ++ (((0x1a ∷ []) ++ (shortest_length (length secret.name.now) ++ secret.name.now))
    ++ octets))) (spelled-primitive (0x04 ∷ []) secret.pass.now)))

pub signed_in_pieces : (secret : Secret) (time : List ℕ) (number : ℕ)
    → (0x30 ∷ []) ++ shortest_length
    (length (canonical_all (fields.trees (claim secret time number))))
    ++ canonical (primitive (0x04 ∷ []) time)
    ++ canonical (primitive (0x02 ∷ []) (integer_octets (pos number)))
    ++ canonical (primitive (0x04 ∷ []) (digest secret time number))
    ≡ signed secret time number
signed_in_pieces secret time number =
    let t = primitive (0x04 ∷ []) time in
    let n = primitive (0x02 ∷ []) (integer_octets (pos number)) in
    let p = primitive (0x04 ∷ []) (digest secret time number) in
    one_behind_another (shortest_length (length
    (canonical_all (fields.trees (claim secret time number))))) (canonical t) (canonical n)
    (canonical p)
    ∙ sym (around (0x30 ∷ []) (canonical t ++ (canonical n ++ canonical p))
    (fields.trees (claim secret time number)) (three t n p))
