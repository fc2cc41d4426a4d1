-- For lawful bands the lane rule gives every lane that is no NaN the plain rule's colour, whatever the chunk's other lanes hold. Assumes nothing.
use Prim.Native.Nat.{ℕ, zero, suc, ◌<◌}
use mathlib.Core.Path.{◌≡◌, refl, sym, ap, ap₂, ◌∙◌, subst}
use mathlib.Core.Bool.{Bool, true, false, cond, not}
use mathlib.Core.List.{List, [], ◌∷◌, ◌++◌, map, map-map, append_assoc, append-nil}
use native.Mathlib.Nat.{zero-lt-suc, le_of_suc-le-suc, not-suc-le-zero}
use native.Mathlib.Omega.{arith}
use lib.Dec.{T}
use lib.Ieee.{Float, nan, is_nan}
use lib.Ieee.Fits.{and_l, and_r}
use lib.ListN.{length, get_or, length-map}
use Rattle.colormapper.specs.declared.UnmappableColors.{UnmappableColors}
use Rattle.banded_columns.specs.declared.LegendBand.{LegendBand}
use Rattle.banded_columns.specs.Band.{holds, last_of}
use Rattle.banded_rule.specs.PlainRule.{plain_rule, plain_color}
use Rattle.banded_lanes.specs.Edges.{Lane, edged}
use Rattle.banded_lanes.specs.LaneRule.{started, over, all_inside, swept, chunk_colors, lane_colors}
use Rattle.banded_lanes.specs.Conditions.{LawfulBands}
use Rattle.lists.proofs.Entries.{map_same, map_at}
use Rattle.banded_lanes.proofs.SampleLaw.{lane_in, held, edges_law, early_law}

-- ---- a chunk has as many colours as values
module _ (edge : Lane → ℕ) where
  abbrev colored : List LegendBand → List Lane → List ℕ
  colored bs ls = chunk_colors edge (swept bs ls)

  -- one band more: the chunk is finished there, or goes on
  band_first : (b : LegendBand) (bs : List LegendBand) (ls : List Lane) →
      colored (b ∷ bs) ls ≡ cond (all_inside (map (over b) ls)) (map (λ (l : Lane). l.color) (map (over b) ls)) (colored bs (map (over b) ls))
  unfolding swept chunk_colors
  band_first b bs ls = go (all_inside (map (over b) ls))
    where
      go : (t : Bool) → chunk_colors edge (cond t (record { finished = true; lanes = map (over b) ls }) (swept bs (map (over b) ls)))
          ≡ cond t (map (λ (l : Lane). l.color) (map (over b) ls)) (chunk_colors edge (swept bs (map (over b) ls)))
      go true = refl
      go false = refl

  no_band_lem : (ls : List Lane) → colored [] ls ≡ map edge ls
  unfolding swept chunk_colors
  no_band_lem ls = refl

long : (edge : Lane → ℕ) (bs : List LegendBand) (ls : List Lane) → length (colored edge bs ls) ≡ length ls
long edge [] ls = ap length (no_band_lem edge ls) ∙ length-map ls edge
long edge (b ∷ bs) ls = ap length (band_first edge b bs ls) ∙ go (all_inside (map (over b) ls)) (long edge bs (map (over b) ls))
  where
    colors : length (map (λ (l : Lane). l.color) (map (over b) ls)) ≡ length ls
    colors = length-map (map (over b) ls) (λ (l : Lane). l.color) ∙ length-map ls (over b)

    go : (t : Bool) → length (colored edge bs (map (over b) ls)) ≡ length (map (over b) ls)
        → length (cond t (map (λ (l : Lane). l.color) (map (over b) ls)) (colored edge bs (map (over b) ls))) ≡ length ls
    go true e = colors
    go false e = e ∙ length-map ls (over b)

pub lane-length : (bands : List LegendBand) (u : UnmappableColors) (vs : List Float) → length (lane_colors bands u vs) ≡ length vs
unfolding lane_colors
lane-length [] u vs = length-map vs (λ (v : Float). u.nodata)
lane-length (b ∷ bs) u vs = long (edged u b (last_of b bs)) (b ∷ bs) (map (started u.nodata) vs) ∙ length-map vs (started u.nodata)

-- ---- one lane of a chunk
all_at : (f : Float → Lane) (vs : List Float) (k : ℕ) → k < length vs → T (all_inside (map f vs)) → T (f (get_or vs k nan)).inside
all_at f [] k h a = absurd (not-suc-le-zero h)
all_at f (v ∷ vs) zero h a = and_l (f v).inside (all_inside (map f vs)) a
all_at f (v ∷ vs) (suc k) h a = all_at f vs k (le_of_suc-le-suc h) (and_r (f v).inside (all_inside (map f vs)) a)

-- a lane that is no NaN is one of the chunk's
in_chunk : (vs : List Float) (k : ℕ) → T (not (is_nan (get_or vs k nan))) → k < length vs
unfolding is_nan
in_chunk [] k n = absurd n
in_chunk (v ∷ vs) zero n = zero-lt-suc (length vs)
in_chunk (v ∷ vs) (suc k) n = let h : k < length vs = in_chunk vs k n in omega arith

-- ---- the lanes after the bands ps
state : ℕ → List LegendBand → Float → Lane
state nodata ps v = record { value = v; inside = held ps v; color = lane_in ps v nodata }

held_more : (ps : List LegendBand) (q : LegendBand) (v : Float) → held (ps ++ (q ∷ [])) v ≡ cond (holds q v) true (held ps v)
unfolding held
held_more [] q v = refl
held_more (p ∷ ps) q v = go (holds p v) (holds q v) (held_more ps q v)
  where
    go : (s t : Bool) → held (ps ++ (q ∷ [])) v ≡ cond t true (held ps v) → cond s true (held (ps ++ (q ∷ [])) v) ≡ cond t true (cond s true (held ps v))
    go true true e = refl
    go true false e = refl
    go false t e = e

lane_more : (ps : List LegendBand) (q : LegendBand) (v : Float) (d : ℕ) → lane_in (ps ++ (q ∷ [])) v d ≡ cond (holds q v) q.color (lane_in ps v d)
unfolding lane_in
lane_more [] q v d = refl
lane_more (p ∷ ps) q v d = lane_more ps q v (cond (holds p v) p.color d)

state_more : (nodata : ℕ) (ps : List LegendBand) (q : LegendBand) (v : Float) → over q (state nodata ps v) ≡ state nodata (ps ++ (q ∷ [])) v
unfolding state
state_more nodata ps q v = go (holds q v) ∙ sym (ap₂ (λ (i : Bool) (c : ℕ). lane i c) (held_more ps q v) (lane_more ps q v nodata))
  where
    lane : Bool → ℕ → Lane
    lane i c = record { value = v; inside = i; color = c }

    go : (t : Bool) → cond t (lane true q.color) (lane (held ps v) (lane_in ps v nodata)) ≡ lane (cond t true (held ps v))
        (cond t q.color (lane_in ps v nodata))
    go true = refl
    go false = refl

-- ---- THE LAW
module _ (b : LegendBand) (bs : List LegendBand) (s : LawfulBands (b ∷ bs)) (u : UnmappableColors) (vs : List Float) (k : ℕ)
    (n : T (not (is_nan (get_or vs k nan)))) where
  abbrev edge : Lane → ℕ
  edge = edged u b (last_of b bs)

  abbrev v : Float
  v = get_or vs k nan

  abbrev here : List LegendBand → Float → Lane
  here = state u.nodata

  scan_law : (ps qs : List LegendBand) → ps ++ qs ≡ b ∷ bs → get_or (colored edge qs (map (here ps) vs)) k 0 ≡ plain_color (b ∷ bs) u v
  unfolding state
  scan_law ps [] e =
      ap (λ (ls : List ℕ). get_or ls k 0) (no_band_lem edge (map (here ps) vs) ∙ map-map edge (here ps) vs) ∙ map_at (λ (x : Float). edge (here ps x)) vs k nan 0
      (in_chunk vs k n)
      ∙ ap (λ (all : List LegendBand). edge (here all v)) (sym (append-nil ps) ∙ e) ∙ edges_law b bs s u v n (held (b ∷ bs) v)
  scan_law ps (q ∷ qs) e =
      ap (λ (ls : List ℕ). get_or ls k 0) (band_first edge q qs (map (here ps) vs))
      ∙ go (all_inside (map (over q) (map (here ps) vs))) refl (scan_law (ps ++ (q ∷ [])) qs (append_assoc ps (q ∷ []) qs ∙ e))
    where
      moved : map (over q) (map (here ps) vs) ≡ map (here (ps ++ (q ∷ []))) vs
      moved = map-map (over q) (here ps) vs ∙ map_same (λ (x : Float). over q (here ps x)) (here (ps ++ (q ∷ []))) vs (state_more u.nodata ps q)

      go : (t : Bool) → all_inside (map (over q) (map (here ps) vs)) ≡ t → get_or (colored edge qs (map (here (ps ++ (q ∷ []))) vs)) k 0 ≡ plain_color (b ∷ bs) u v
          →
          get_or (cond t (map (λ (l : Lane). l.color) (map (over q) (map (here ps) vs))) (colored edge qs (map (over q) (map (here ps) vs)))) k 0
          ≡ plain_color (b ∷ bs) u v
      go true a i =
          ap (λ (ls : List Lane). get_or (map (λ (l : Lane). l.color) ls) k 0) moved
          ∙ ap (λ (cs : List ℕ). get_or cs k 0) (map-map (λ (l : Lane). l.color) (here (ps ++ (q ∷ []))) vs)
          ∙ map_at (λ (x : Float). (here (ps ++ (q ∷ [])) x).color) vs k nan 0 (in_chunk vs k n)
          ∙ early_law b bs s u v (ps ++ (q ∷ [])) qs (append_assoc ps (q ∷ []) qs ∙ e)
          (all_at (here (ps ++ (q ∷ []))) vs k (in_chunk vs k n) (subst T (sym (ap all_inside (sym moved) ∙ a)) tt))
      go false a i = ap (λ (ls : List Lane). get_or (colored edge qs ls) k 0) moved ∙ i

pub lane_law : (bands : List LegendBand) → LawfulBands bands → (u : UnmappableColors) (vs : List Float) (k : ℕ) → T (not (is_nan (get_or vs k nan)))
    → get_or (lane_colors bands u vs) k 0 ≡ plain_color bands u (get_or vs k nan)
unfolding lane_colors plain_rule
lane_law [] s u vs k n = map_at (λ (v : Float). u.nodata) vs k nan 0 (in_chunk vs k n)
lane_law (b ∷ bs) s u vs k n = unfold state held lane_in in scan_law b bs s u vs k n [] (b ∷ bs) refl
