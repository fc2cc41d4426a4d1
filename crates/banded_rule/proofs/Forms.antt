-- The plain rule as colours, and over bands that stand in three arrays. Assumes nothing.
use Prim.Native.Nat.{ℕ, zero, suc, ◌+◌, ◌-◌, ◌≤◌, ◌<◌}
use mathlib.Core.Path.{◌≡◌, refl, sym, ap, ap₂, ◌∙◌}
use mathlib.Core.Bool.{Bool, true, false, cond}
use mathlib.Core.List.{List, [], ◌∷◌, map}
use native.Mathlib.Numerals.{add-one}
use native.Mathlib.Omega.{arith}
use lib.Ieee.{Float, lt}
use lib.ListN.{get_or, drop, drop_of_length-le}
use lib.Seq.{drop-cons}
use Rattle.lists.specs.Outer.{last_or}
use Rattle.lists.specs.Tabulate.{tabulate}
use Rattle.lists.proofs.Tabulated.{length-tabulate, get_d_tabulate}
use Rattle.colormapper.specs.declared.UnmappableColors.{UnmappableColors}
use Rattle.colormapper.specs.Tolerance.{within}
use Rattle.banded_columns.specs.declared.LegendBand.{LegendBand}
use Rattle.banded_columns.specs.Band.{holds, last_of}
use Rattle.colormapper.specs.Rule.{Rule, band, lower_edge, upper_edge, low, high, gap, rule_color}
use Rattle.banded_rule.specs.PlainRule.{first_band, edges, plain_rule, banded_rule_colors, plain_color}
use Rattle.banded_rule.specs.forms.Columns.{band_at, from_columns}
use Rattle.banded_rule.specs.forms.Steps.{first_color, edge_color}

abbrev colors : List LegendBand → List ℕ
colors = map (λ (b : LegendBand). b.color)

last_color_lem : (b : LegendBand) (bs : List LegendBand) → last_or b.color (colors bs) ≡ (last_of b bs).color
unfolding last_of
last_color_lem b [] = refl
last_color_lem b (c ∷ bs) = last_color_lem c bs

-- the edges' colours: those of the first and the last band
module _ (u : UnmappableColors) where
  edge_of : (b l : LegendBand) (bs : List LegendBand) (w x y z : Bool) → last_of b bs ≡ l →
      rule_color (banded_rule_colors (b ∷ bs) u) (cond w lower_edge (cond x low (cond y upper_edge (cond z high gap))))
      ≡ cond w b.color (cond x u.low (cond y l.color (cond z u.high u.nodata)))
  edge_of b l bs true x y z e = refl
  edge_of b l bs false true y z e = refl
  edge_of b l bs false false true z e = last_color_lem b bs ∙ ap (λ (c : LegendBand). c.color) e
  edge_of b l bs false false false true e = refl
  edge_of b l bs false false false false e = refl

  abbrev chain : (b l : LegendBand) (v : Float) → ℕ
  chain b l v =
      cond (within b.start v) b.color (cond (lt v b.start) u.low (cond (within l.end v) l.color (cond (lt l.end v) u.high u.nodata)))

  edge_is : (b : LegendBand) (bs : List LegendBand) (v : Float) → rule_color (banded_rule_colors (b ∷ bs) u) (edges b (last_of b bs) v) ≡ chain b (last_of b bs) v
  unfolding edges
  edge_is b bs v = let l = last_of b bs in edge_of b l bs (within b.start v) (lt v b.start) (within l.end v) (lt l.end v) refl

  -- each test over the next, as the code has them
  pub edge_chain : (b l : LegendBand) (v : Float) → edge_color b l u v ≡ chain b l v
  unfolding last_of
  edge_chain b l v = edge_is b (l ∷ []) v

  -- all of the bands' colours are those of bs from k on
  first_color_lem : (all : List LegendBand) (k : ℕ) (bs : List LegendBand) (v : Float) (o : Rule)
      → ((j : ℕ) → get_or (colors all) (k + j) 0 ≡ get_or (colors bs) j 0)
      → rule_color (banded_rule_colors all u) (first_band k bs v o) ≡ first_color bs v (rule_color (banded_rule_colors all u) o)
  unfolding first_band first_color
  first_color_lem all k [] v o h = refl
  first_color_lem all k (b ∷ bs) v o h = go (holds b v) (first_color_lem all (suc k) bs v o further)
    where
      further : (j : ℕ) → get_or (colors all) (suc k + j) 0 ≡ get_or (colors bs) j 0
      further j = let e : suc k + j ≡ k + suc j = omega arith in ap (λ (n : ℕ). get_or (colors all) n 0) e ∙ h (suc j)

      here : get_or (colors all) k 0 ≡ b.color
      here = let e : k ≡ k + 0 = omega arith in ap (λ (n : ℕ). get_or (colors all) n 0) e ∙ h 0

      go : (t : Bool) → rule_color (banded_rule_colors all u) (first_band (suc k) bs v o) ≡ first_color bs v (rule_color (banded_rule_colors all u) o)
          → rule_color (banded_rule_colors all u) (cond t (band k) (first_band (suc k) bs v o))
          ≡ cond t b.color (first_color bs v (rule_color (banded_rule_colors all u) o))
      go true e = here
      go false e = e

  pub plain_form : (b : LegendBand) (bs : List LegendBand) (v : Float) → plain_color (b ∷ bs) u v ≡ first_color (b ∷ bs) v (edge_color b (last_of b bs) u v)
  unfolding plain_rule
  plain_form b bs v =
      first_color_lem (b ∷ bs) 0 (b ∷ bs) v (edges b (last_of b bs) v) zero_more
      ∙ ap (first_color (b ∷ bs) v) (edge_is b bs v ∙ sym (edge_chain b (last_of b bs) v))
    where
      zero_more : (j : ℕ) → get_or (colors (b ∷ bs)) (0 + j) 0 ≡ get_or (colors (b ∷ bs)) j 0
      zero_more j = let e : 0 + j ≡ j = omega arith in ap (λ (n : ℕ). get_or (colors (b ∷ bs)) n 0) e

-- ---- bands that stand in three arrays
last_at : (f : ℕ → LegendBand) (n : ℕ) → last_of (f 0) (tabulate n (λ k. f (suc k))) ≡ f n
unfolding last_of tabulate
last_at f zero = refl
last_at f (suc n) = last_at (λ k. f (suc k)) n

module _ (starts ends : List Float) (colors : List ℕ) where
  abbrev f : ℕ → LegendBand
  f = band_at starts ends colors

  abbrev bands : ℕ → List LegendBand
  bands = from_columns starts ends colors

  pub plain-none : (count : ℕ) (u : UnmappableColors) (v : Float) → count ≡ 0 → plain_color (bands count) u v ≡ u.nodata
  unfolding from_columns tabulate plain_rule
  plain-none count u v e = ap (λ (n : ℕ). plain_color (bands n) u v) e

  -- the bands from the one at i on
  pub drop-band : (count i : ℕ) → i < count → drop i (bands count) ≡ f i ∷ drop (i + 1) (bands count)
  unfolding from_columns
  drop-band count i h =
      drop-cons (tabulate count f) i (f 0) (omega (arith, length-tabulate count f))
      ∙ ap₂ (λ (b : LegendBand) (bs : List LegendBand). b ∷ bs) (get_d_tabulate count f i (f 0) h) (ap (λ (n : ℕ). drop n (tabulate count f)) (sym (add-one i)))

  pub drop-end : (count i : ℕ) → count ≤ i → drop i (bands count) ≡ []
  unfolding from_columns
  drop-end count i h = drop_of_length-le (tabulate count f) {i = i} (omega (arith, length-tabulate count f))

  pub last_is : (n : ℕ) → last_of (f 0) (tabulate n (λ k. f (suc k))) ≡ f (suc n - 1)
  last_is n = let e : n ≡ suc n - 1 = omega arith in last_at f n ∙ ap f e

  pub plain_packed : (count : ℕ) (u : UnmappableColors) (v : Float) → 0 < count → plain_color (bands count) u v ≡ first_color (bands count) v
      (edge_color (f 0) (f (count - 1)) u v)
  unfolding from_columns tabulate
  plain_packed zero u v h = absurd (omega arith)
  plain_packed (suc n) u v h =
      let bs = tabulate n (λ k. f (suc k)) in plain_form u (f 0) bs v ∙ ap (λ (l : LegendBand). first_color (f 0 ∷ bs) v (edge_color (f 0) l u v)) (last_is n)

  -- the first band that holds a value, from the one at i on
  module _ (count i : ℕ) (v : Float) (o : ℕ) where
    pub first_at : {b : LegendBand} (j : ℕ) → i + 1 ≡ j → i < count → b ≡ f i → first_color (drop i (bands count)) v o ≡ cond (holds b v) b.color
        (first_color (drop j (bands count)) v o)
    unfolding first_color
    first_at {b} j n h e =
        ap (λ (bs : List LegendBand). first_color bs v o) (drop-band count i h)
        ∙ ap₂ (λ (a : LegendBand) (m : ℕ). cond (holds a v) a.color (first_color (drop m (bands count)) v o)) (sym e) n

    pub first_held : {b : LegendBand} → i < count → b ≡ f i → holds b v ≡ true → first_color (drop i (bands count)) v o ≡ b.color
    first_held {b} h e t = first_at (i + 1) refl h e ∙ ap (λ (x : Bool). cond x b.color (first_color (drop (i + 1) (bands count)) v o)) t

    pub first_passed : {b : LegendBand} → i < count → b ≡ f i → holds b v ≡ false → first_color (drop i (bands count)) v o
        ≡ first_color (drop (i + 1) (bands count)) v o
    first_passed {b} h e t = first_at (i + 1) refl h e ∙ ap (λ (x : Bool). cond x b.color (first_color (drop (i + 1) (bands count)) v o)) t

    pub first_end : count ≤ i → first_color (drop i (bands count)) v o ≡ o
    unfolding first_color
    first_end h = ap (λ (bs : List LegendBand). first_color bs v o) (drop-end count i h)
