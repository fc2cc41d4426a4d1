-- The lane rule over a chunk that stands in arrays: its values, which lanes lie in some band so far, and its colours so far. Assumes nothing.
use Prim.Native.Nat.{ℕ, zero, suc, ◌+◌, ◌≤◌, ◌<◌}
use mathlib.Core.Path.{◌≡◌, refl, sym, ap, ap₂, ◌∙◌}
use mathlib.Core.Bool.{Bool, true, false, cond, ◌&&◌, ◌||◌}
use mathlib.Core.List.{List, [], ◌∷◌, map, map-map}
use native.Mathlib.Numerals.{add-one}
use native.Mathlib.Omega.{arith}
use lib.Ieee.{Float, nan}
use lib.ListN.{length, get_or, take, drop, replicate, get_or-replicate}
use Rattle.lists.specs.Lanes.{LanesOf}
use Rattle.lists.specs.Padded.{padded}
use Rattle.lists.specs.Tabulate.{tabulate}
use Rattle.lists.proofs.LanesOf.{lane_at_lem, lanes_own, lanes-blank}
use Rattle.banded_columns.specs.declared.LegendBand.{LegendBand}
use Rattle.banded_columns.specs.Band.{holds}
use Rattle.banded_lanes.specs.Edges.{Lane}
use Rattle.banded_lanes.specs.LaneRule.{started, over, all_inside, Sweep, swept}
use Rattle.banded_rule.specs.forms.Columns.{band_at, from_columns}
use Rattle.banded_lanes.specs.forms.Scanning.{all_below, Scanned}
use Rattle.lists.proofs.Entries.{same_rule, front, map_rule, map_same}
use Rattle.banded_rule.proofs.Forms.{drop-band, drop-end}

-- ---- a test of each number below n
below_first : (n : ℕ) (f : ℕ → Bool) → (f 0 && all_below n (λ k. f (suc k))) ≡ all_below (suc n) f
unfolding all_below
below_first zero f = swap (f 0)
  where
    swap : (b : Bool) → (b && true) ≡ (true && b)
    swap true = refl
    swap false = refl
below_first (suc n) f = regroup (f 0) (all_below n (λ k. f (suc k))) (f (suc n)) ∙ ap (λ (b : Bool). b && f (suc n)) (below_first n f)
  where
    regroup : (a b c : Bool) → (a && (b && c)) ≡ ((a && b) && c)
    regroup true b c = refl
    regroup false b c = refl

pub below-same : (n : ℕ) (f g : ℕ → Bool) → ((k : ℕ) → k < n → f k ≡ g k) → all_below n f ≡ all_below n g
unfolding all_below
below-same zero f g h = refl
below-same (suc n) f g h = ap₂ (λ (a b : Bool). a && b) (below-same n f g (λ k q. h k (omega arith))) (h n (omega arith))

pub below_more : (i : ℕ) (f : ℕ → Bool) → (all_below i f && f i) ≡ all_below (i + 1) f
unfolding all_below
below_more i f = sym (ap (λ (n : ℕ). all_below n f) (add-one i))

-- bands keep the lanes' values
kept : (b : LegendBand) (l : Lane) → (over b l).value ≡ l.value
kept b l = go (holds b l.value)
  where
    go : (t : Bool) → (cond t (record { value = l.value; inside = true; color = b.color }) l).value ≡ l.value
    go true = refl
    go false = refl

pub values_kept : (bs : List LegendBand) (ls : List Lane) → map (λ (l : Lane). l.value) (swept bs ls).lanes ≡ map (λ (l : Lane). l.value) ls
unfolding swept
values_kept [] ls = refl
values_kept (b ∷ bs) ls = go (all_inside (map (over b) ls)) (values_kept bs (map (over b) ls))
  where
    once : map (λ (l : Lane). l.value) (map (over b) ls) ≡ map (λ (l : Lane). l.value) ls
    once = map-map (λ (l : Lane). l.value) (over b) ls ∙ map_same (λ (l : Lane). (over b l).value) (λ (l : Lane). l.value) ls (kept b)

    go : (t : Bool) → map (λ (l : Lane). l.value) (swept bs (map (over b) ls)).lanes ≡ map (λ (l : Lane). l.value) (map (over b) ls) →
        map (λ (l : Lane). l.value) (cond t (record { finished = true; lanes = map (over b) ls }) (swept bs (map (over b) ls))).lanes
        ≡ map (λ (l : Lane). l.value) ls
    go true e = once
    go false e = e ∙ once

-- ---- the lanes of the arrays
abbrev lane_of : Float → Bool → ℕ → Lane
lane_of v i c = record { value = v; inside = i; color = c }

abbrev lane_at : (value : List Float) (inside : List Bool) (color : List ℕ) → ℕ → Lane
lane_at value inside color k = lane_of (get_or value k nan) (get_or inside k false) (get_or color k 0)

abbrev lanes_of : ℕ → (value : List Float) (inside : List Bool) (color : List ℕ) → List Lane
lanes_of n value inside color = tabulate n (lane_at value inside color)

pub all-inside : (n : ℕ) (f : ℕ → Lane) → all_inside (tabulate n f) ≡ all_below n (λ k. (f k).inside)
unfolding tabulate
all-inside zero f = unfold all_below in refl
all-inside (suc n) f = ap (λ (b : Bool). (f 0).inside && b) (all-inside n (λ k. f (suc k))) ∙ below_first n (λ k. (f k).inside)

shown : (n : ℕ) (value : List Float) (inside : List Bool) (color : List ℕ) → LanesOf 0 n (λ k. get_or color k 0) color
    → color ≡ padded 0 16 (map (λ (l : Lane). l.color) (lanes_of n value inside color))
shown n value inside color e = e.is ∙ ap (padded 0 16) (sym (map_rule (λ (l : Lane). l.color) n (lane_at value inside color)))

-- a band over one lane
over-lane : (b : LegendBand) (v : Float) (i i' : Bool) (c c' : ℕ) → i' ≡ (i || holds b v) → c' ≡ cond (holds b v) b.color c → over b (lane_of v i c)
    ≡ lane_of v i' c'
over-lane b v i i' c c' p q = go i (holds b v) ∙ sym (ap₂ (λ (x : Bool) (y : ℕ). lane_of v x y) p q)
  where
    go : (i t : Bool) → cond t (lane_of v true b.color) (lane_of v i c) ≡ lane_of v (i || t) (cond t b.color c)
    go true true = refl
    go true false = refl
    go false true = refl
    go false false = refl

module _ (starts ends : List Float) (colors : List ℕ) (count : ℕ) (nodata n : ℕ) (value : List Float) where
  abbrev f : ℕ → LegendBand
  f = band_at starts ends colors

  abbrev bands : List LegendBand
  bands = from_columns starts ends colors count

  abbrev chunk : List Lane
  chunk = map (started nodata) (take n value)

  values : n ≤ length value → take n value ≡ tabulate n (λ k. get_or value k nan)
  values l = front nan n (λ k. get_or value k nan) value l (λ k q. refl)

  -- the bands from i on make of the lanes so far what all bands make of the chunk
  pub record Scanning (i : ℕ) (inside : List Bool) (color : List ℕ) : Type 0 where
    pub upto : i ≤ count
    pub insides : LanesOf false n (λ k. get_or inside k false) inside
    pub colored : LanesOf 0 n (λ k. get_or color k 0) color
    pub goes : swept (drop i bands) (lanes_of n value inside color) ≡ swept bands chunk

  pub scanning_start : (color : List ℕ) → n ≤ 16 → n ≤ length value → LanesOf 0 n (λ k. nodata) color → Scanning 0 (replicate 16 false) color
  scanning_start color h l e =
      record {
        upto = omega arith;
        insides = lanes-blank false n (λ k. get_or (replicate 16 false) k false) h (λ k q. get_or-replicate 16 k false false (omega arith));
        colored = lanes_own e 0;
        goes = ap (swept bands) (sym lanes);
      }
    where
      lanes : chunk ≡ lanes_of n value (replicate 16 false) color
      lanes =
          ap (map (started nodata)) (values l) ∙ map_rule (started nodata) n (λ k. get_or value k nan)
          ∙ same_rule n (λ k. started nodata (get_or value k nan)) (lane_at value (replicate 16 false) color)
          (λ k q. ap₂ (λ (x : Bool) (y : ℕ). lane_of (get_or value k nan) x y) (sym (get_or-replicate 16 k false false (omega arith))) (sym (lane_at_lem e 0 k q)))

  -- band i over the lanes
  module _ {i : ℕ} {inside : List Bool} {color : List ℕ} (inside' : List Bool) (color' : List ℕ) {b : LegendBand} {all : Bool} (s : Scanning i inside color)
      (h : i < count) (e : b ≡ f i)
      (p : LanesOf 0 n (λ k. cond (holds b (get_or value k nan)) b.color (get_or color k 0)) color')
      (q : LanesOf false n (λ k. get_or inside k false || holds b (get_or value k nan)) inside')
      (a : all ≡ all_below n (λ k. get_or inside k false || holds b (get_or value k nan))) where
    abbrev next : List Lane
    next = lanes_of n value inside' color'

    overs : map (over b) (lanes_of n value inside color) ≡ next
    overs =
        map_rule (over b) n (lane_at value inside color)
        ∙ same_rule n (λ k. over b (lane_at value inside color k)) (lane_at value inside' color')
        (λ k r.
        over-lane b (get_or value k nan) (get_or inside k false) (get_or inside' k false) (get_or color k 0) (get_or color' k 0) (lane_at_lem q false k r) (lane_at_lem p 0 k r))

    alls : all_inside next ≡ all
    alls =
        all-inside n (lane_at value inside' color')
        ∙ below-same n (λ k. get_or inside' k false) (λ k. get_or inside k false || holds b (get_or value k nan)) (lane_at_lem q false) ∙ sym a

    turned : cond all (record { finished = true; lanes = next }) (swept (drop (i + 1) bands) next) ≡ swept bands chunk
    unfolding swept
    turned =
        sym
        (ap (λ (bs : List LegendBand). swept bs (lanes_of n value inside color))
        (drop-band starts ends colors count i h ∙ ap (λ (c : LegendBand). c ∷ drop (i + 1) bands) (sym e))
        ∙ ap (λ (ls : List Lane). cond (all_inside ls) (record { finished = true; lanes = ls }) (swept (drop (i + 1) bands) ls)) overs
        ∙ ap (λ (t : Bool). cond t (record { finished = true; lanes = next }) (swept (drop (i + 1) bands) next)) alls)
        ∙ s.goes

    at : (t : Bool) → all ≡ t → cond t (record { finished = true; lanes = next }) (swept (drop (i + 1) bands) next) ≡ swept bands chunk
    at t d = ap (λ (t : Bool). cond t (record { finished = true; lanes = next }) (swept (drop (i + 1) bands) next)) (sym d) ∙ turned

    pub scanning_turn : all ≡ false → Scanning (i + 1) inside' color'
    scanning_turn d = record { upto = omega arith; insides = lanes_own q false; colored = lanes_own p 0; goes = at false d }

    pub scanning_finished : all ≡ true → Scanned n bands nodata value (record { colors = color'; finished = true })
    scanning_finished d =
        record {
          finished = ap (λ (s : Sweep). s.finished) (at true d);
          colors = shown n value inside' color' (lanes_own p 0) ∙ ap (λ (s : Sweep). padded 0 16 (map (λ (l : Lane). l.color) s.lanes)) (at true d);
        }

  -- past the last band
  pub scanning_end : {i : ℕ} {inside : List Bool} {color : List ℕ} → Scanning i inside color → count ≤ i
      → Scanned n bands nodata value (record { colors = color; finished = false })
  unfolding swept
  scanning_end {i} {inside} {color} s h =
      record {
        finished = ap (λ (s : Sweep). s.finished) left;
        colors = shown n value inside color s.colored ∙ ap (λ (s : Sweep). padded 0 16 (map (λ (l : Lane). l.color) s.lanes)) left;
      }
    where
      left : record { finished = false; lanes = lanes_of n value inside color } ≡ swept bands chunk
      left = sym (ap (λ (bs : List LegendBand). swept bs (lanes_of n value inside color)) (drop-end starts ends colors count i h)) ∙ s.goes
