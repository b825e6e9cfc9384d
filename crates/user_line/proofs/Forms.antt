-- Each command's words find their places.
use Rattle.std.proofs.Common.{◌≡◌, ℕ, ◌==◌, ◌≤◌, nat_le, Bool, true, false, ◌⊎◌, inl, inr, ⊎_elim, List, [], ◌∷◌, length, refl, sym, subst, ◌+◌, arith}
use Rattle.std.proofs.lemmas.Bool.{and_parts, eqb-true, leb-true}
use Rattle.std.specs.List.{list_all}
use Rattle.clap.proofs.OnLiterals.{clap_on_literals}
use Rattle.user_line.specs.declared.form.Form.{Form}
use Rattle.user_line.specs.declared.form.Form.TheVariants.{Show, Raf, Rcf, Cltu}
use Rattle.user_line.specs.Line.{Text, ids_of, least_of, has_count, is_line, is_plain}
use Rattle.user_line.specs.Laws.{ClapReads}
use Rattle.user_line.proofs.Read.{Enters, Fills, reads_by}
use Rattle.user_line.proofs.Split.{split, no_more, behind}

pub record Fits (form : Form) (words : List Text) : Type 0 where
  pub enters : Enters form words
  pub fills : Fills form words

show_enters : (a : Text) → Enters Show (a ∷ [])
unfolding clap_on_literals
show_enters a = record { stop = refl; top = refl }

show_fills : (a : Text) → Fills Show (a ∷ [])
show_fills a = record {
  goes = (refl, (refl, tt));
  passes = refl;
  values = refl;
}

show_fits : (words : List Text) → length words ≡ 1 → Fits Show words
show_fits words size =
    let a = split 0 words size in
    let an = behind _ _ _ a (no_more a.rest a.size) in
    subst (Fits Show) (sym an) (record {
      enters = show_enters a.head;
      fills = show_fills a.head;
    })

raf_enters : (a b c d e f g h : Text) → Enters Raf (a ∷ b ∷ c ∷ d ∷ e ∷ f ∷ g ∷ h ∷ [])
unfolding clap_on_literals
raf_enters a b c d e f g h = record { stop = refl; top = refl }

raf_fills : (a b c d e f g h : Text) → Fills Raf (a ∷ b ∷ c ∷ d ∷ e ∷ f ∷ g ∷ h ∷ [])
raf_fills a b c d e f g h = record {
  goes = (refl, (refl, (refl, (refl, (refl, (refl, (refl, (refl, (refl, (refl, (refl, (refl, (refl, (refl, (refl, (refl, tt))))))))))))))));
  passes = refl;
  values = refl;
}

raf_fits : (words : List Text) → length words ≡ 8 → Fits Raf words
raf_fits words size =
    let a = split 7 words size in
    let b = split 6 a.rest a.size in
    let c = split 5 b.rest b.size in
    let d = split 4 c.rest c.size in
    let e = split 3 d.rest d.size in
    let f = split 2 e.rest e.size in
    let g = split 1 f.rest f.size in
    let h = split 0 g.rest g.size in
    let hn = behind _ _ _ h (no_more h.rest h.size) in
    let gn = behind _ _ _ g hn in
    let fn = behind _ _ _ f gn in
    let en = behind _ _ _ e fn in
    let dn = behind _ _ _ d en in
    let cn = behind _ _ _ c dn in
    let bn = behind _ _ _ b cn in
    let an = behind _ _ _ a bn in
    subst (Fits Raf) (sym an) (record {
      enters = raf_enters a.head b.head c.head d.head e.head f.head g.head h.head;
      fills = raf_fills a.head b.head c.head d.head e.head f.head g.head h.head;
    })

raf_further_enters : (a b c d e f g h k : Text) → Enters Raf (a ∷ b ∷ c ∷ d ∷ e ∷ f ∷ g ∷ h ∷ k ∷ [])
unfolding clap_on_literals
raf_further_enters a b c d e f g h k = record { stop = refl; top = refl }

raf_further_fills : (a b c d e f g h k : Text) → Fills Raf (a ∷ b ∷ c ∷ d ∷ e ∷ f ∷ g ∷ h ∷ k ∷ [])
raf_further_fills a b c d e f g h k = record {
  goes = (refl, (refl, (refl, (refl, (refl, (refl, (refl, (refl, (refl, (refl, (refl, (refl, (refl, (refl, (refl, (refl, (refl, (refl, tt))))))))))))))))));
  passes = refl;
  values = refl;
}

raf_further_fits : (words : List Text) → length words ≡ 9 → Fits Raf words
raf_further_fits words size =
    let a = split 8 words size in
    let b = split 7 a.rest a.size in
    let c = split 6 b.rest b.size in
    let d = split 5 c.rest c.size in
    let e = split 4 d.rest d.size in
    let f = split 3 e.rest e.size in
    let g = split 2 f.rest f.size in
    let h = split 1 g.rest g.size in
    let k = split 0 h.rest h.size in
    let kn = behind _ _ _ k (no_more k.rest k.size) in
    let hn = behind _ _ _ h kn in
    let gn = behind _ _ _ g hn in
    let fn = behind _ _ _ f gn in
    let en = behind _ _ _ e fn in
    let dn = behind _ _ _ d en in
    let cn = behind _ _ _ c dn in
    let bn = behind _ _ _ b cn in
    let an = behind _ _ _ a bn in
    subst (Fits Raf) (sym an) (record {
      enters = raf_further_enters a.head b.head c.head d.head e.head f.head g.head h.head k.head;
      fills = raf_further_fills a.head b.head c.head d.head e.head f.head g.head h.head k.head;
    })

rcf_enters : (a b c d e f g h : Text) → Enters Rcf (a ∷ b ∷ c ∷ d ∷ e ∷ f ∷ g ∷ h ∷ [])
unfolding clap_on_literals
rcf_enters a b c d e f g h = record { stop = refl; top = refl }

rcf_fills : (a b c d e f g h : Text) → Fills Rcf (a ∷ b ∷ c ∷ d ∷ e ∷ f ∷ g ∷ h ∷ [])
rcf_fills a b c d e f g h = record {
  goes = (refl, (refl, (refl, (refl, (refl, (refl, (refl, (refl, (refl, (refl, (refl, (refl, (refl, (refl, (refl, (refl, tt))))))))))))))));
  passes = refl;
  values = refl;
}

rcf_fits : (words : List Text) → length words ≡ 8 → Fits Rcf words
rcf_fits words size =
    let a = split 7 words size in
    let b = split 6 a.rest a.size in
    let c = split 5 b.rest b.size in
    let d = split 4 c.rest c.size in
    let e = split 3 d.rest d.size in
    let f = split 2 e.rest e.size in
    let g = split 1 f.rest f.size in
    let h = split 0 g.rest g.size in
    let hn = behind _ _ _ h (no_more h.rest h.size) in
    let gn = behind _ _ _ g hn in
    let fn = behind _ _ _ f gn in
    let en = behind _ _ _ e fn in
    let dn = behind _ _ _ d en in
    let cn = behind _ _ _ c dn in
    let bn = behind _ _ _ b cn in
    let an = behind _ _ _ a bn in
    subst (Fits Rcf) (sym an) (record {
      enters = rcf_enters a.head b.head c.head d.head e.head f.head g.head h.head;
      fills = rcf_fills a.head b.head c.head d.head e.head f.head g.head h.head;
    })

rcf_further_enters : (a b c d e f g h k : Text) → Enters Rcf (a ∷ b ∷ c ∷ d ∷ e ∷ f ∷ g ∷ h ∷ k ∷ [])
unfolding clap_on_literals
rcf_further_enters a b c d e f g h k = record { stop = refl; top = refl }

rcf_further_fills : (a b c d e f g h k : Text) → Fills Rcf (a ∷ b ∷ c ∷ d ∷ e ∷ f ∷ g ∷ h ∷ k ∷ [])
rcf_further_fills a b c d e f g h k = record {
  goes = (refl, (refl, (refl, (refl, (refl, (refl, (refl, (refl, (refl, (refl, (refl, (refl, (refl, (refl, (refl, (refl, (refl, (refl, tt))))))))))))))))));
  passes = refl;
  values = refl;
}

rcf_further_fits : (words : List Text) → length words ≡ 9 → Fits Rcf words
rcf_further_fits words size =
    let a = split 8 words size in
    let b = split 7 a.rest a.size in
    let c = split 6 b.rest b.size in
    let d = split 5 c.rest c.size in
    let e = split 4 d.rest d.size in
    let f = split 3 e.rest e.size in
    let g = split 2 f.rest f.size in
    let h = split 1 g.rest g.size in
    let k = split 0 h.rest h.size in
    let kn = behind _ _ _ k (no_more k.rest k.size) in
    let hn = behind _ _ _ h kn in
    let gn = behind _ _ _ g hn in
    let fn = behind _ _ _ f gn in
    let en = behind _ _ _ e fn in
    let dn = behind _ _ _ d en in
    let cn = behind _ _ _ c dn in
    let bn = behind _ _ _ b cn in
    let an = behind _ _ _ a bn in
    subst (Fits Rcf) (sym an) (record {
      enters = rcf_further_enters a.head b.head c.head d.head e.head f.head g.head h.head k.head;
      fills = rcf_further_fills a.head b.head c.head d.head e.head f.head g.head h.head k.head;
    })

cltu_enters : (a b c d e f : Text) → Enters Cltu (a ∷ b ∷ c ∷ d ∷ e ∷ f ∷ [])
unfolding clap_on_literals
cltu_enters a b c d e f = record { stop = refl; top = refl }

cltu_fills : (a b c d e f : Text) → Fills Cltu (a ∷ b ∷ c ∷ d ∷ e ∷ f ∷ [])
cltu_fills a b c d e f = record {
  goes = (refl, (refl, (refl, (refl, (refl, (refl, (refl, (refl, (refl, (refl, (refl, (refl, tt))))))))))));
  passes = refl;
  values = refl;
}

cltu_fits : (words : List Text) → length words ≡ 6 → Fits Cltu words
cltu_fits words size =
    let a = split 5 words size in
    let b = split 4 a.rest a.size in
    let c = split 3 b.rest b.size in
    let d = split 2 c.rest c.size in
    let e = split 1 d.rest d.size in
    let f = split 0 e.rest e.size in
    let fn = behind _ _ _ f (no_more f.rest f.size) in
    let en = behind _ _ _ e fn in
    let dn = behind _ _ _ d en in
    let cn = behind _ _ _ c dn in
    let bn = behind _ _ _ b cn in
    let an = behind _ _ _ a bn in
    subst (Fits Cltu) (sym an) (record {
      enters = cltu_enters a.head b.head c.head d.head e.head f.head;
      fills = cltu_fills a.head b.head c.head d.head e.head f.head;
    })

cltu_further_enters : (a b c d e f g : Text) → Enters Cltu (a ∷ b ∷ c ∷ d ∷ e ∷ f ∷ g ∷ [])
unfolding clap_on_literals
cltu_further_enters a b c d e f g = record { stop = refl; top = refl }

cltu_further_fills : (a b c d e f g : Text) → Fills Cltu (a ∷ b ∷ c ∷ d ∷ e ∷ f ∷ g ∷ [])
cltu_further_fills a b c d e f g = record {
  goes = (refl, (refl, (refl, (refl, (refl, (refl, (refl, (refl, (refl, (refl, (refl, (refl, (refl, (refl, tt))))))))))))));
  passes = refl;
  values = refl;
}

cltu_further_fits : (words : List Text) → length words ≡ 7 → Fits Cltu words
cltu_further_fits words size =
    let a = split 6 words size in
    let b = split 5 a.rest a.size in
    let c = split 4 b.rest b.size in
    let d = split 3 c.rest c.size in
    let e = split 2 d.rest d.size in
    let f = split 1 e.rest e.size in
    let g = split 0 f.rest f.size in
    let gn = behind _ _ _ g (no_more g.rest g.size) in
    let fn = behind _ _ _ f gn in
    let en = behind _ _ _ e fn in
    let dn = behind _ _ _ d en in
    let cn = behind _ _ _ c dn in
    let bn = behind _ _ _ b cn in
    let an = behind _ _ _ a bn in
    subst (Fits Cltu) (sym an) (record {
      enters = cltu_further_enters a.head b.head c.head d.head e.head f.head g.head;
      fills = cltu_further_fills a.head b.head c.head d.head e.head f.head g.head;
    })

-- a command has the least count of words, or one more
abbrev one_or_more : (count least : ℕ) → Type 0
one_or_more count least = (count ≡ least) ⊎ (count ≡ least + 1)

counted : (count least : ℕ) → least ≤ count → count ≤ least + 1 → one_or_more count least
counted count least enough few = by (count == least) refl
  where
    by : (b : Bool) → (count == least) ≡ b → one_or_more count least
    by true is = inl (eqb-true count least is)
    by false is = inr (grind (arith, enough, few, is))

fits : (form : Form) (words : List Text) → least_of form ≤ length words
    → length words ≤ length (ids_of form) → Fits form words
fits Show words enough few = show_fits words (omega (arith, enough, few))
fits Raf words enough few =
    ⊎_elim (raf_fits words) (raf_further_fits words) (counted (length words) 8 enough few)
fits Rcf words enough few =
    ⊎_elim (rcf_fits words) (rcf_further_fits words) (counted (length words) 8 enough few)
fits Cltu words enough few =
    ⊎_elim (cltu_fits words) (cltu_further_fits words) (counted (length words) 6 enough few)

pub reads : ClapReads
reads form words is =
    let parts = and_parts (has_count form (length words)) (list_all is_plain words) is in
    let counts = and_parts (nat_le (least_of form) (length words))
    (nat_le (length words) (length (ids_of form))) parts.0 in
    let fit = fits form words (leb-true (least_of form) (length words) counts.0)
    (leb-true (length words) (length (ids_of form)) counts.1) in
    reads_by form words parts.1 fit.enters fit.fills
