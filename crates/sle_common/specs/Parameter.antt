-- The parameters that GET-PARAMETER answers: [t] SEQUENCE { name INTEGER, value }. This product's
-- own.
use Rattle.std.proofs.Common.{◌≡◌, ℕ, ℤ, pos, ◌+◌, ◌^◌, ◌≤◌, max, true, false, ◌==◌, nat_lt}
use Rattle.std.proofs.Common.{if◌then◌else◌, Option, Some, None, [], ◌∷◌, length, Result, Ok, ◌⊎◌}
use Rattle.std.proofs.Common.{inl, inr, refl, ◌∙◌, ap, subst, eq-eqb, arith}
use Rattle.std.proofs.lemmas.Bool.{eqb-true}
use Rattle.ber_core.specs.declared.fault.BerFault.{BerFault}
use Rattle.ber_core.specs.Length.{IsSlice}
use Rattle.ber_core.specs.Tree.{Tree, Trees, primitive, tree_and, no_trees, IsWellFormed}
use Rattle.ber_core.specs.Integer.{integer_octets}
use Rattle.ber_core.specs.Spelling.{canonical_all}
use Rattle.ber_core.specs.Parts.{length-tree_and}
use Rattle.ber_core.specs.View.{View, end_of}
use Rattle.ber_core.specs.Reading.{primitive_at, integer_of, ◌>>=◌}
use Rattle.ber_core.specs.Whole.{depth, depth_all, read_tree, read_trees}
use Rattle.ber_shape.specs.Results.{taken, taken_ok, bind_ok, chosen}
use Rattle.ber_shape.specs.Content.{InRange, integer, any_integer, null}
use Rattle.ber_shape.specs.Element.{Element, simple, kept}
use Rattle.ber_shape.specs.Members.{Members, WereRead, structured, last, then_at, ◌▸◌}
use Rattle.ber_shape.specs.Same.{element_as, members_as, members_where}
use Rattle.ber_shape.specs.Choice.{either, EitherFits, optional}
use Rattle.sle_common.specs.declared.gvcid.Gvcid.{Gvcid}
use Rattle.sle_common.specs.declared.parameter.Parameter.{Parameter}
use Rattle.sle_common.specs.declared.parameter.Parameter.TheVariants.{BufferSize, Mode, Latency}
use Rattle.sle_common.specs.declared.parameter.Parameter.TheVariants.{Cycle, Quality, Channel}
use Rattle.sle_common.specs.declared.parameter.Parameter.TheVariants.{Timeout}
use Rattle.sle_common.specs.declared.parameter.Requested.{Requested}
use Rattle.sle_common.specs.declared.parameter.Requested.TheVariants.{OfQuality, OfChannel}
use Rattle.sle_common.specs.Natural.{natural, natural_there, natural_back, IsBetween}
use Rattle.sle_common.specs.Numbers.{number}
use Rattle.sle_common.specs.Gvcid.{gvcid}

-- ---- a value behind its name

-- the name is an INTEGER that is n
abbrev pub named_at : {X : Type 0} → ℕ → (View → Result (X × View) BerFault) → View
    → Result (X × View) BerFault
named_at n value view = taken (λ p. p.1) (then_at
    (λ view. primitive_at (integer_of (pos n) (pos n)) view (0x02 ∷ [])) (λ name. value) view)

between_itself : (n : ℕ) → IsBetween n n n
between_itself n = record { least_so = omega arith; greatest_so = omega arith }

pub name_fits : (n : ℕ) → nat_lt n (2 ^ 64) ≡ true → InRange (pos n) (pos n) (pos n)
name_fits n small = (natural_there n n n small (between_itself n)).0

between_one : (n m : ℕ) → IsBetween n n m → n ≡ m
between_one n m is = omega (arith, is.least_so, is.greatest_so)

pub name_is : (n : ℕ) (z : ℤ) → InRange (pos n) (pos n) z → pos n ≡ z
name_is n z fits = let (between, is) = natural_back n n z fits in ap pos (between_one n _ between)
    ∙ is

module _ {X : Type 0} (n : ℕ) (small : nat_lt n (2 ^ 64) ≡ true) (value : Element X) where
  pub named_there : (x : X) → value.Fits x → (InRange (pos n) (pos n) (pos n) × value.Fits x)
      × (x ≡ x)
  named_there x fits = ((name_fits n small, fits), refl)

  pub named_back : (p : ℤ × X) → InRange (pos n) (pos n) p.0 × value.Fits p.1
      → value.Fits p.1 × (◌≡◌ {A = ℤ × X} (pos n, p.1) p)
  named_back p fits = (fits.1, ap (λ z. (z, p.1)) (name_is n p.0 fits.0))

  abbrev pub named : Members X
  named = members_where (simple (0x02 ∷ []) (integer (pos n) (pos n)) refl ▸ last value) (record {
    to = λ p. p.1;
    from = λ x. (pos n, x);
    Holds = value.Fits;
    there = named_there;
    back = named_back;
  })

-- what stands in the element
abbrev pub named_trees : ℕ → Tree → Trees
named_trees n value = tree_and (primitive (0x02 ∷ []) (integer_octets (pos n)))
    (tree_and value no_trees)

-- ---- two kinds of value behind names that tell them apart

abbrev pub told_at : {X Y : Type 0} → (View → Result (ℕ × View) BerFault) → ℕ
    → (View → Result (X × View) BerFault) → (View → Result (Y × View) BerFault) → View
    → Result ((X ⊎ Y) × View) BerFault
told_at name m first second view = do
  k ← name view
  if k.0 == m then taken inl (first k.1) else taken inr (second k.1)

abbrev pub told_trees : {X Y : Type 0} → (ℕ → Tree) → ℕ → ℕ → (X → Trees) → (Y → Trees) → X ⊎ Y
    → Trees
told_trees name m n first second (inl x) = tree_and (name m) (first x)
told_trees name m n first second (inr y) = tree_and (name n) (second y)

module _ {X Y : Type 0} (name : Element ℕ) (m n : ℕ) (a : Members X) (b : Members Y)
    (m_fits : name.Fits m) (n_fits : name.Fits n)
    (only : (k : ℕ) → name.Fits k → (k == m) ≡ false → k ≡ n) (apart : (n == m) ≡ false) where
  abbrev Were : View → View → X ⊎ Y → Type 0
  Were view new z = WereRead (EitherFits a.Fits b.Fits) (told_trees name.tree m n a.trees b.trees)
      view new z

  pub told_sound : (view new : View) (z : X ⊎ Y) → IsSlice view.octets
      → told_at name.read m a.read b.read view ≡ Ok (z, new)
      → WereRead (EitherFits a.Fits b.Fits) (told_trees name.tree m n a.trees b.trees) view new z
  unfolding read_trees
  told_sound view new z slice e =
      let (k, read, others) = bind_ok (name.read view) (λ k. if k.0 == m then taken inl (a.read k.1)
      else taken inr (b.read k.1)) (z, new) e in
      let was = name.sound view k.1 k.0 slice read in
      let here = kept (name.tree k.0) view k.1 slice was.stands in
      elim (chosen (k.0 == m) (taken inl (a.read k.1)) (taken inr (b.read k.1)) (Ok (z, new))
      others) [
        | inl h ↦
            let (x, x_read, is) = taken_ok inl (a.read k.1) z new h.1 in
            let were = a.sound k.1 new x here x_read in
            let same : k.0 ≡ m = eqb-true k.0 m h.0 in
            let stands : read_tree (name.tree m) view ≡ Ok k.1 =
            subst (λ k'. read_tree (name.tree k') view ≡ Ok k.1) same was.stands in
            let formed = subst (λ k. IsWellFormed (name.tree k)) same was.formed in
            subst (λ z. Were view new z) is (record {
              fits = were.fits;
              stand = rw (stands, were.stand) refl;
              formed = (formed, were.formed);
            })
        | inr h ↦
            let (y, y_read, is) = taken_ok inr (b.read k.1) z new h.1 in
            let were = b.sound k.1 new y here y_read in
            let same : k.0 ≡ n = only k.0 was.fits h.0 in
            let stands : read_tree (name.tree n) view ≡ Ok k.1 =
            subst (λ k'. read_tree (name.tree k') view ≡ Ok k.1) same was.stands in
            let formed = subst (λ k. IsWellFormed (name.tree k)) same was.formed in
            subst (λ z. Were view new z) is (record {
              fits = were.fits;
              stand = rw (stands, were.stand) refl;
              formed = (formed, were.formed);
            })
      ]

  pub told_complete : (view new : View) (z : X ⊎ Y) → EitherFits a.Fits b.Fits z
      → read_trees (told_trees name.tree m n a.trees b.trees z) view ≡ Ok new
      → new.place ≡ end_of new
      → told_at name.read m a.read b.read view ≡ Ok (z, new)
  unfolding read_trees
  told_complete view new (inl x) fits e at_end =
      let (between, name_tree, rest) = bind_ok (read_tree (name.tree m) view)
      (λ behind. read_trees (a.trees x) behind) new e in
      rw (
        name.complete view between m m_fits name_tree,
        eq-eqb m m refl,
        a.complete between new x fits rest at_end,
      ) refl
  told_complete view new (inr y) fits e at_end =
      let (between, name_tree, rest) = bind_ok (read_tree (name.tree n) view)
      (λ behind. read_trees (b.trees y) behind) new e in
      rw (
        name.complete view between n n_fits name_tree,
        apart,
        b.complete between new y fits rest at_end,
      ) refl

  pub told_shallow : (z : X ⊎ Y) → depth_all (told_trees name.tree m n a.trees b.trees z)
      ≤ max name.levels (max a.levels b.levels)
  unfolding depth
  told_shallow (inl x) = omega (arith, name.shallow m, a.shallow x)
  told_shallow (inr y) = omega (arith, name.shallow n, b.shallow y)

  pub told_few : (z : X ⊎ Y) → EitherFits a.Fits b.Fits z
      → length (canonical_all (told_trees name.tree m n a.trees b.trees z))
      ≤ name.most + max a.most b.most
  told_few (inl x) fits = omega (
    arith,
    length-tree_and (name.tree m) (a.trees x),
    name.few m m_fits,
    a.few x fits,
  )
  told_few (inr y) fits = omega (
    arith,
    length-tree_and (name.tree n) (b.trees y),
    name.few n n_fits,
    b.few y fits,
  )

  -- the first behind the name m, the second behind the name n
  abbrev pub told_by : Members (X ⊎ Y)
  told_by = record {
    read = told_at name.read m a.read b.read;
    trees = told_trees name.tree m n a.trees b.trees;
    Fits = EitherFits a.Fits b.Fits;
    levels = max name.levels (max a.levels b.levels);
    most = name.most + max a.most b.most;
    sound = told_sound;
    complete = told_complete;
    shallow = told_shallow;
    few = told_few;
  }

-- ---- the values

abbrev pub seconds_of : Unit {0} ⊎ ℤ → Option ℤ
seconds_of (inl offline) = None
seconds_of (inr z) = Some z

abbrev pub of_seconds : Option ℤ → Unit {0} ⊎ ℤ
of_seconds None = inl tt
of_seconds (Some z) = inr z

pub seconds_there : (o : Option ℤ) → seconds_of (of_seconds o) ≡ o
seconds_there None = refl
seconds_there (Some z) = refl

pub seconds_back : (z : Unit {0} ⊎ ℤ) → of_seconds (seconds_of z) ≡ z
seconds_back (inl offline) = refl
seconds_back (inr z) = refl

-- [0] INTEGER seconds, [1] NULL offline
abbrev pub latency : Element (Option ℤ)
latency = element_as (either (0x81 ∷ []) (simple (0x81 ∷ []) null refl)
    (simple (0x80 ∷ []) any_integer refl) refl refl)
    (record { to = seconds_of; from = of_seconds; there = seconds_there; back = seconds_back })

-- [0] NULL off, [1] INTEGER seconds
abbrev pub cycle : Element (Option ℤ)
cycle = optional (0x81 ∷ []) (simple (0x81 ∷ []) any_integer refl) refl refl

-- [0] NULL before the first START, [1] Gvcid
abbrev pub requested_channel : Element (Option Gvcid)
requested_channel = optional (0xa1 ∷ []) (structured (0xa1 ∷ []) gvcid refl) refl refl

-- ---- what was requested: the quality behind the name 27, the channel behind the name 28

abbrev pub requested_name : Element ℕ
requested_name = natural (0x02 ∷ []) 27 28 refl refl

quality_fits : IsBetween 27 28 27
quality_fits = record { least_so = omega arith; greatest_so = omega arith }

channel_fits : IsBetween 27 28 28
channel_fits = record { least_so = omega arith; greatest_so = omega arith }

pub no_other_name : (k : ℕ) → IsBetween 27 28 k → (k == 27) ≡ false → k ≡ 28
no_other_name k between other = let low = between.least_so in let high = between.greatest_so in
    grind arith

pub quality_name : requested_name.Fits 27
quality_name = quality_fits

pub channel_name : requested_name.Fits 28
channel_name = channel_fits

abbrev pub requested_of : ℤ ⊎ Option Gvcid → Requested
requested_of (inl quality) = OfQuality quality
requested_of (inr channel) = OfChannel channel

abbrev pub of_requested : Requested → ℤ ⊎ Option Gvcid
of_requested (OfQuality quality) = inl quality
of_requested (OfChannel channel) = inr channel

pub requested_there : (r : Requested) → requested_of (of_requested r) ≡ r
requested_there (OfQuality quality) = refl
requested_there (OfChannel channel) = refl

pub requested_back : (z : ℤ ⊎ Option Gvcid) → of_requested (requested_of z) ≡ z
requested_back (inl quality) = refl
requested_back (inr channel) = refl

abbrev pub requested : Members Requested
requested = members_as (told_by requested_name 27 28 (last number) (last requested_channel)
    quality_name channel_name no_other_name refl)
    (record {
      to = requested_of;
      from = of_requested;
      there = requested_there;
      back = requested_back;
    })

-- ---- all of them

abbrev pub Alternatives : Type 0
Alternatives = ℤ ⊎ (Option ℤ ⊎ (Option ℤ ⊎ (Requested ⊎ (ℤ ⊎ ℤ))))

abbrev pub parameter_of : Alternatives → Parameter
parameter_of (inl mode) = Mode mode
parameter_of (inr (inl limit)) = Latency limit
parameter_of (inr (inr (inl seconds))) = Cycle seconds
parameter_of (inr (inr (inr (inl (OfQuality quality))))) = Quality quality
parameter_of (inr (inr (inr (inl (OfChannel channel))))) = Channel channel
parameter_of (inr (inr (inr (inr (inl seconds))))) = Timeout seconds
parameter_of (inr (inr (inr (inr (inr items))))) = BufferSize items

abbrev pub of_parameter : Parameter → Alternatives
of_parameter (BufferSize items) = inr (inr (inr (inr (inr items))))
of_parameter (Mode mode) = inl mode
of_parameter (Latency limit) = inr (inl limit)
of_parameter (Cycle seconds) = inr (inr (inl seconds))
of_parameter (Quality quality) = inr (inr (inr (inl (OfQuality quality))))
of_parameter (Channel channel) = inr (inr (inr (inl (OfChannel channel))))
of_parameter (Timeout seconds) = inr (inr (inr (inr (inl seconds))))

pub parameter_there : (p : Parameter) → parameter_of (of_parameter p) ≡ p
parameter_there (BufferSize items) = refl
parameter_there (Mode mode) = refl
parameter_there (Latency limit) = refl
parameter_there (Cycle seconds) = refl
parameter_there (Quality quality) = refl
parameter_there (Channel channel) = refl
parameter_there (Timeout seconds) = refl

pub parameter_back : (z : Alternatives) → of_parameter (parameter_of z) ≡ z
parameter_back (inl mode) = refl
parameter_back (inr (inl limit)) = refl
parameter_back (inr (inr (inl seconds))) = refl
parameter_back (inr (inr (inr (inl (OfQuality quality))))) = refl
parameter_back (inr (inr (inr (inl (OfChannel channel))))) = refl
parameter_back (inr (inr (inr (inr (inl seconds))))) = refl
parameter_back (inr (inr (inr (inr (inr items))))) = refl

-- [0] buffer size, name 4; [1] delivery mode, 6; [2] latency limit, 15; [3] reporting cycle, 26;
-- [4] requested quality, 27, or requested channel, 28; [5] return timeout, 29
abbrev pub buffer_size : Element ℤ
buffer_size = structured (0xa0 ∷ []) (named 4 refl number) refl

abbrev pub timeout : Element (ℤ ⊎ ℤ)
timeout = either (0xa5 ∷ []) (structured (0xa5 ∷ []) (named 29 refl number) refl) buffer_size refl
    refl

abbrev pub alternatives : Element Alternatives
alternatives =
    either (0xa1 ∷ []) (structured (0xa1 ∷ []) (named 6 refl number) refl)
    (either (0xa2 ∷ []) (structured (0xa2 ∷ []) (named 15 refl latency) refl)
    (either (0xa3 ∷ []) (structured (0xa3 ∷ []) (named 26 refl cycle) refl)
    (either (0xa4 ∷ []) (structured (0xa4 ∷ []) requested refl) timeout refl refl) refl refl)
    refl refl)
    refl refl

abbrev pub parameter : Element Parameter
parameter = element_as alternatives (record {
  to = parameter_of;
  from = of_parameter;
  there = parameter_there;
  back = parameter_back;
})
