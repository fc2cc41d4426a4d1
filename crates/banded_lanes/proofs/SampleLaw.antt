-- For a sound list of bands the lane rule and the plain rule agree at every sample that is no NaN: past the edges, and where a chunk is finished before the
-- last band. Assumes nothing.
use Prim.Native.Nat.{ℕ}
use mathlib.Core.Path.{◌≡◌, refl, sym, ap, ◌∙◌, subst}
use mathlib.Core.Logic.{◌⊎◌, inl, inr}
use mathlib.Core.Bool.{Bool, true, false, cond, not}
use mathlib.Core.List.{List, [], ◌∷◌, ◌++◌}
use lib.Dec.{T, T_not, not_T}
use lib.Ieee.{Float, binary32, lt, le, sub, is_nan}
use lib.Ieee.Fits.{and_i, and_l, and_r}
use Rattle.lists.specs.Each.{each}
use Rattle.floats.proofs.Order.{le_le, lt_le, lt_not_le, not_lt, not_le, lt→le, lt_l, le_l, le_r, le_refl_float}
use Rattle.colormapper.specs.declared.UnmappableColors.{UnmappableColors}
use Rattle.colormapper.specs.Tolerance.{E, within}
use Rattle.banded_columns.specs.declared.LegendBand.{LegendBand}
use Rattle.banded_columns.specs.Band.{holds, last_of}
use Rattle.banded_rule.specs.PlainRule.{plain_color}
use Rattle.banded_lanes.specs.Edges.{edged}
use Rattle.banded_rule.specs.forms.Steps.{first_color, edge_color}
use Rattle.banded_columns.specs.Order.{starts_below_end, clears, each_after, each_next}
use Rattle.banded_lanes.specs.Conditions.{wide_band, first_and_last, LawfulBands}
use Rattle.banded_rule.proofs.Forms.{edge_chain, plain_form}
use Rattle.banded_columns.proofs.Ordering.{starts-below, disjoint, end-start}
use Rattle.banded_lanes.proofs.FarEdges.{past_end, up_to_start}

-- the lanes' colour after some bands, each over those before it
unfoldable pub lane_in : List LegendBand → Float → ℕ → ℕ
lane_in [] v d = d
lane_in (b ∷ bs) v d = lane_in bs v (cond (holds b v) b.color d)

-- some band holds v
unfoldable pub held : List LegendBand → Float → Bool
held [] v = false
held (b ∷ bs) v = cond (holds b v) true (held bs v)

-- each from its start to its end, none starting below the end of the one before (and the first not below lo)
abbrev Chain : Float → List LegendBand → Type 0
Chain lo [] = Unit
Chain lo (b ∷ bs) = T (le lo b.start) × T (le b.start b.end) × Chain b.end bs

-- a test's answer
both : (b : Bool) → T b ⊎ T (not b)
both true = inl tt
both false = inr tt

yes_is : (b : Bool) (x y : ℕ) → T b → cond b x y ≡ x
yes_is true x y t = refl
yes_is false x y t = absurd t

no_is : (b : Bool) (x y : ℕ) → T (not b) → cond b x y ≡ y
no_is true x y t = absurd t
no_is false x y t = refl

-- ---- below lo no band holds v
none_below : (lo v : Float) (bs : List LegendBand) (d : ℕ) → Chain lo bs → T (lt v lo) → lane_in bs v d ≡ d
unfolding lane_in
none_below lo v [] d c h = refl
none_below lo v (b ∷ bs) d c h =
    let n : T (not (holds b v)) = not_T (holds b v)
    (λ (t : T (holds b v)). lt_not_le v b.start (lt_le v lo b.start h c.0) (and_l (le b.start v) (lt v b.end) t)) in
    ap (lane_in bs v) (no_is (holds b v) b.color d n) ∙ none_below b.end v bs d c.2
    (lt_le v b.start b.end (lt_le v lo b.start h c.0) c.1)

-- ---- overwriting is the same as taking the first
same_in : (lo v : Float) (bs : List LegendBand) (d : ℕ) → Chain lo bs → lane_in bs v d ≡ first_color bs v d
unfolding lane_in first_color
same_in lo v [] d c = refl
same_in lo v (b ∷ bs) d c = go (holds b v) refl (same_in b.end v bs d c.2)
  where
    go : (t : Bool) → holds b v ≡ t → lane_in bs v d ≡ first_color bs v d → lane_in bs v (cond t b.color d) ≡ cond t b.color (first_color bs v d)
    go true e ih = none_below b.end v bs b.color c.2 (and_r (le b.start v) (lt v b.end) (subst T (sym e) tt))
    go false e ih = ih

module _ (v : Float) where
  free : (bs : List LegendBand) (d d' : ℕ) → T (held bs v) → first_color bs v d ≡ first_color bs v d'
  unfolding held first_color
  free [] d d' h = absurd h
  free (b ∷ bs) d d' h = go (holds b v) h (free bs d d')
    where
      go : (t : Bool) → T (cond t true (held bs v)) → (T (held bs v) → first_color bs v d ≡ first_color bs v d') → cond t b.color (first_color bs v d)
          ≡ cond t b.color (first_color bs v d')
      go true h f = refl
      go false h f = f h

  bare : (bs : List LegendBand) (d : ℕ) → T (not (held bs v)) → first_color bs v d ≡ d
  unfolding held first_color
  bare [] d h = refl
  bare (b ∷ bs) d h = go (holds b v) h (bare bs d)
    where
      go : (t : Bool) → T (not (cond t true (held bs v))) → (T (not (held bs v)) → first_color bs v d ≡ d) → cond t b.color (first_color bs v d) ≡ d
      go true h f = absurd h
      go false h f = f h

-- ---- the last band
record Ends (b l : LegendBand) : Type 0 where
  pub starts : T (le b.start l.start)
  pub ends : T (le b.end l.end)
  pub order : T (le l.start l.end)

ends : (lo : Float) (b : LegendBand) (bs : List LegendBand) → Chain lo (b ∷ bs) → Ends b (last_of b bs)
unfolding last_of
ends lo b [] c =
    record { starts = le_refl_float b.start (le_r lo b.start c.0); ends = le_refl_float b.end (le_r b.start b.end c.1); order = c.1 }
ends lo b (d ∷ bs) c =
    let r = ends b.end d bs c.2 in
    let l = last_of d bs in
    let x = c.2.0 in
    record {
      starts = le_le b.start d.start l.start (le_le b.start b.end d.start c.1 x) r.starts;
      ends = le_le b.end d.end l.end (le_le b.end d.start d.end x c.2.1) r.ends;
      order = r.order;
    }

module _ (v : Float) where
  split_held : (t u : Bool) → T (cond t true u) → T t ⊎ T u
  split_held true u h = inl tt
  split_held false u h = inr h

  held_lo : (lo : Float) (bs : List LegendBand) → Chain lo bs → T (held bs v) → T (le lo v)
  unfolding held
  held_lo lo [] c h = absurd h
  held_lo lo (b ∷ bs) c h = elim (split_held (holds b v) (held bs v) h) [
    | inl t ↦ le_le lo b.start v c.0 (and_l (le b.start v) (lt v b.end) t)
    | inr t ↦ le_le lo b.start v c.0 (le_le b.start b.end v c.1 (held_lo b.end bs c.2 t))
  ]

  held_hi : (lo : Float) (b : LegendBand) (bs : List LegendBand) → Chain lo (b ∷ bs) → T (held (b ∷ bs) v) → T (lt v (last_of b bs).end)
  unfolding held last_of
  held_hi lo b [] c h = elim (split_held (holds b v) false h) [ inl t ↦ and_r (le b.start v) (lt v b.end) t | inr t ↦ absurd t ]
  held_hi lo b (d ∷ bs) c h = elim (split_held (holds b v) (held (d ∷ bs) v) h) [
    | inl t ↦ lt_le v b.end (last_of d bs).end (and_r (le b.start v) (lt v b.end) t) (ends lo b (d ∷ bs) c).ends
    | inr t ↦ held_hi b.end d bs c.2 t
  ]

  last_in : (b : LegendBand) (bs : List LegendBand) (d : ℕ) → T (holds (last_of b bs) v) → lane_in (b ∷ bs) v d ≡ (last_of b bs).color
  unfolding lane_in last_of
  last_in b [] d h = yes_is (holds b v) b.color d h
  last_in b (e ∷ bs) d h = last_in e bs (cond (holds b v) b.color d) h

  first_held : (b : LegendBand) (bs : List LegendBand) → T (holds b v) → T (held (b ∷ bs) v)
  unfolding held
  first_held b bs h = go (holds b v) h
    where
      go : (t : Bool) → T t → T (cond t true (held bs v))
      go true h = tt
      go false h = absurd h

  rest_held : (b : LegendBand) (bs : List LegendBand) → T (held bs v) → T (held (b ∷ bs) v)
  unfolding held
  rest_held b bs h = go (holds b v)
    where
      go : (t : Bool) → T (cond t true (held bs v))
      go true = tt
      go false = h

  last_held : (b : LegendBand) (bs : List LegendBand) → T (holds (last_of b bs) v) → T (held (b ∷ bs) v)
  unfolding last_of
  last_held b [] h = first_held b [] h
  last_held b (e ∷ bs) h = rest_held b (e ∷ bs) (last_held e bs h)

  first_in : (b : LegendBand) (bs : List LegendBand) (d : ℕ) → T (holds b v) → first_color (b ∷ bs) v d ≡ b.color
  unfolding first_color
  first_in b bs d h = yes_is (holds b v) b.color (first_color bs v d) h

-- ---- the orders of the two chains of tests
nest : (w2 w1 ab be : Bool) (lc bc hi lo d P : ℕ) → (T w2 → lc ≡ P) → (T w1 → bc ≡ P) → T (not ab) → T (not be) → d ≡ P
    → cond w2 lc (cond w1 bc (cond ab hi (cond be lo d))) ≡ P
nest true w1 ab be lc bc hi lo d P f g x y e = f tt
nest false true ab be lc bc hi lo d P f g x y e = g tt
nest false false true be lc bc hi lo d P f g x y e = absurd x
nest false false false true lc bc hi lo d P f g x y e = absurd y
nest false false false false lc bc hi lo d P f g x y e = e

swap : (w2 w1 ab be : Bool) (lc bc hi lo d : ℕ) → (T w1 → T be) → (T be → T w2 → ⊥) → (T be → T ab → ⊥) → cond w2 lc (cond w1 bc (cond ab hi (cond be lo d)))
    ≡ cond w1 bc (cond be lo (cond w2 lc (cond ab hi d)))
swap true true ab be lc bc hi lo d f g h = absurd (g (f tt) tt)
swap true false ab true lc bc hi lo d f g h = absurd (g tt tt)
swap true false ab false lc bc hi lo d f g h = refl
swap false true ab be lc bc hi lo d f g h = refl
swap false false true true lc bc hi lo d f g h = absurd (h tt tt)
swap false false true false lc bc hi lo d f g h = refl
swap false false false true lc bc hi lo d f g h = refl
swap false false false false lc bc hi lo d f g h = refl

-- ---- past the edges
module _ (b : LegendBand) (bs : List LegendBand) (u : UnmappableColors) (v : Float) (n : T (not (is_nan v))) (c : Chain b.start (b ∷ bs))
    (wide-first : T (le E (sub binary32 b.end b.start))) (wide-last : T (le E (sub binary32 (last_of b bs).end (last_of b bs).start))) where
  abbrev l : LegendBand
  l = last_of b bs

  Z : Ends b l
  Z = ends b.start b bs c

  -- from the first band's end on, v is not within E of its start
  w1 : T (within b.start v) → T (lt v b.end)
  w1 h =
      elim (both (lt v b.end))
      [ inl t ↦ t | inr t ↦ absurd (past_end b.start b.end v wide-first (not_lt v b.end n (le_r b.start b.end c.1) t) h) ]

  -- before the last band's start, v is not within E of its end
  w2 : T (within l.end v) → T (le l.start v)
  w2 h =
      elim (both (le l.start v)) [
        | inl t ↦ t
        | inr t ↦ absurd
            (up_to_start l.start l.end v n wide-last (lt→le v l.start (not_le l.start v (le_l l.start l.end Z.order) n t)) h)
      ]

  -- neither w2 nor above where v is below the first start
  not_w2 : T (lt v b.start) → T (within l.end v) → ⊥
  not_w2 h w = lt_not_le v b.start h (le_le b.start l.start v Z.starts (w2 w))

  not_above : T (lt v b.start) → T (lt l.end v) → ⊥
  not_above h a = lt_not_le v b.start h (le_le b.start l.start v Z.starts (le_le l.start l.end v Z.order (lt→le l.end v a)))

  edge : ℕ
  edge =
      cond (within b.start v) b.color (cond (lt v b.start) u.low (cond (within l.end v) l.color (cond (lt l.end v) u.high u.nodata)))

  top : ℕ → ℕ
  top d = cond (within l.end v) l.color (cond (within b.start v) b.color (cond (lt l.end v) u.high (cond (lt v b.start) u.low d)))

  inside : T (held (b ∷ bs) v) → top (lane_in (b ∷ bs) v u.nodata) ≡ first_color (b ∷ bs) v edge
  unfolding top
  inside h =
      let P = first_color (b ∷ bs) v edge in
      let d = lane_in (b ∷ bs) v u.nodata in
      let lo = held_lo v b.start (b ∷ bs) c h in
      let hi = held_hi v b.start b bs c h in
      let e : d ≡ P = same_in b.start v (b ∷ bs) u.nodata c ∙ free v (b ∷ bs) u.nodata edge h in
      nest (within l.end v) (within b.start v) (lt l.end v) (lt v b.start) l.color b.color u.high u.low d P
      (λ (w : T (within l.end v)). sym (last_in v b bs u.nodata (and_i (le l.start v) (lt v l.end) (w2 w) hi)) ∙ e)
      (λ (w : T (within b.start v)). sym (first_in v b bs edge (and_i (le b.start v) (lt v b.end) lo (w1 w))))
      (not_T (lt l.end v) (λ (a : T (lt l.end v)). lt_not_le v l.end hi (lt→le l.end v a)))
      (not_T (lt v b.start) (λ (a : T (lt v b.start)). lt_not_le v b.start a lo))
      e

  outside : T (not (held (b ∷ bs) v)) → top (lane_in (b ∷ bs) v u.nodata) ≡ first_color (b ∷ bs) v edge
  unfolding top edge
  outside h =
      ap top (same_in b.start v (b ∷ bs) u.nodata c ∙ bare v (b ∷ bs) u.nodata h)
      ∙ swap (within l.end v) (within b.start v) (lt l.end v) (lt v b.start) l.color b.color u.high u.low u.nodata w1_below not_w2
      not_above
      ∙ sym (bare v (b ∷ bs) edge h)
    where
      w1_below : T (within b.start v) → T (lt v b.start)
      w1_below w =
          not_le b.start v (le_l b.start b.end c.1) n
          (not_T (le b.start v)
          (λ (a : T (le b.start v)). T_not (held (b ∷ bs) v) h (first_held v b bs (and_i (le b.start v) (lt v b.end) a (w1 w)))))

  banded_law : top (lane_in (b ∷ bs) v u.nodata) ≡ first_color (b ∷ bs) v edge
  banded_law = elim (both (held (b ∷ bs) v)) [ inl h ↦ inside h | inr h ↦ outside h ]

  past-edges : (i : Bool) → edged u b l (record { value = v; inside = i; color = lane_in (b ∷ bs) v u.nodata }) ≡ plain_color (b ∷ bs) u v
  unfolding edged top edge
  past-edges i = banded_law ∙ sym (plain_form u b bs v ∙ ap (first_color (b ∷ bs) v) (edge_chain u b l v))

-- ---- a chunk that is finished early, at the bands ps of ps ++ qs, with each lane held by one of ps
front : (lo : Float) (ps qs : List LegendBand) → Chain lo (ps ++ qs) → Chain lo ps
front lo [] qs c = tt
front lo (p ∷ ps) qs c = (c.0, c.1, front p.end ps qs c.2)

taken : (v : Float) (ps qs : List LegendBand) (d d' : ℕ) → T (held ps v) → first_color ps v d ≡ first_color (ps ++ qs) v d'
unfolding held first_color
taken v [] qs d d' h = absurd h
taken v (p ∷ ps) qs d d' h = go (holds p v) h (taken v ps qs d d')
  where
    go : (t : Bool) → T (cond t true (held ps v)) → (T (held ps v) → first_color ps v d ≡ first_color (ps ++ qs) v d') → cond t p.color (first_color ps v d)
        ≡ cond t p.color (first_color (ps ++ qs) v d')
    go true h f = refl
    go false h f = f h

early : (lo v : Float) (ps qs : List LegendBand) (nodata d : ℕ) → Chain lo (ps ++ qs) → T (held ps v) → lane_in ps v nodata ≡ first_color (ps ++ qs) v d
early lo v ps qs nodata d c h = same_in lo v ps nodata (front lo ps qs c) ∙ taken v ps qs nodata d h

-- ---- a sound list is such a chain
chain_of : (lo : Float) (b : LegendBand) (bs : List LegendBand) → T (le lo b.start) → T (each starts_below_end (b ∷ bs)) → T (each_after clears b bs)
    → Chain lo (b ∷ bs)
unfolding each each_after
chain_of lo b [] l q r = (l, lt→le b.start b.end (and_l (starts_below_end b) true q), tt)
chain_of lo b (d ∷ bs) l q r =
    let starts : T (starts_below_end b) = and_l (starts_below_end b) (each starts_below_end (d ∷ bs)) q in
    let later : T (each starts_below_end (d ∷ bs)) = and_r (starts_below_end b) (each starts_below_end (d ∷ bs)) q in (
      l,
      lt→le b.start b.end starts,
      chain_of b.end d bs (end-start b d starts (and_l (starts_below_end d) (each starts_below_end bs) later) (and_l (clears b d) (each_after clears d bs) r))
          later (and_r (clears b d) (each_after clears d bs) r),
    )

module _ (b : LegendBand) (bs : List LegendBand) (s : LawfulBands (b ∷ bs)) (u : UnmappableColors) (v : Float) where
  sound_chain : Chain b.start (b ∷ bs)
  unfolding each_next
  sound_chain =
      chain_of b.start b bs (le_refl_float b.start (lt_l b.start b.end first)) (starts-below (b ∷ bs) s.ordered) (disjoint (b ∷ bs) s.ordered)
    where
      first : T (starts_below_end b)
      first = unfold each in and_l (starts_below_end b) (each starts_below_end bs) (starts-below (b ∷ bs) s.ordered)

  pub edges_law : T (not (is_nan v)) → (i : Bool) → edged u b (last_of b bs) (record { value = v; inside = i; color = lane_in (b ∷ bs) v u.nodata })
      ≡ plain_color (b ∷ bs) u v
  unfolding first_and_last
  edges_law n =
      past-edges b bs u v n sound_chain (and_l (wide_band b) (wide_band (last_of b bs)) s.wide) (and_r (wide_band b) (wide_band (last_of b bs)) s.wide)

  -- at the bands ps, one of which holds v, before the bands qs
  pub early_law : (ps qs : List LegendBand) → ps ++ qs ≡ b ∷ bs → T (held ps v) → lane_in ps v u.nodata ≡ plain_color (b ∷ bs) u v
  early_law ps qs e h =
      early b.start v ps qs u.nodata (edge_color b (last_of b bs) u v) (subst (Chain b.start) (sym e) sound_chain) h
      ∙ ap (λ (all : List LegendBand). first_color all v (edge_color b (last_of b bs) u v)) e ∙ sym (plain_form u b bs v)
