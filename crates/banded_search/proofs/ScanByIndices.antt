-- Of ascending disjoint bands the lane rule's scan is what the lanes' indices give: each lane the colour of the band at its index where that band holds its
-- sample, finished where each does. Assumes nothing.
use Prim.Native.Nat.{ℕ, zero, suc, ◌+◌, ◌≤◌, ◌<◌}
use mathlib.Core.Path.{◌≡◌, refl, sym, ap, ap₂, ◌∙◌, subst}
use mathlib.Core.Bool.{Bool, true, false, not, cond, ◌&&◌}
use mathlib.Core.List.{List, map}
use mathlib.Core.Logic.{◌⊎◌, inl, inr}
use native.Mathlib.Nat.{eq-or-lt_of_le}
use native.Mathlib.Decide.{ℕ_discrete}
use native.Mathlib.Omega.{arith}
use borrow.Author.Tests.{lt-ltb, le-ltb}
use lib.Dec.{T, not_T, ltb, ltb→lt}
use lib.Ieee.{Float, nan}
use lib.Ieee.Fits.{and_l, and_r}
use lib.ListN.{length, get_or, take, drop, replicate, get_or-replicate}
use Rattle.lists.specs.Lanes.{LanesOf}
use Rattle.lists.specs.Padded.{padded}
use Rattle.lists.specs.Tabulate.{tabulate}
use Rattle.lists.proofs.Numbers.{lt_or_le}
use Rattle.lists.proofs.LanesOf.{lane_at_lem, lanes_agree}
use Rattle.banded_columns.specs.declared.LegendBand.{LegendBand}
use Rattle.banded_columns.specs.Order.{ascending_disjoint}
use Rattle.banded_lanes.specs.Edges.{Lane}
use Rattle.banded_lanes.specs.LaneRule.{started, over, all_inside, Sweep, swept}
use Rattle.banded_rule.specs.forms.Columns.{band_at, from_columns}
use Rattle.banded_lanes.specs.forms.Scanning.{all_below, Scanned}
use Rattle.lists.proofs.Entries.{same_rule, front, map_rule}
use Rattle.banded_rule.proofs.Forms.{drop-band, drop-end}
use Rattle.banded_lanes.proofs.Chunk.{below-same, all-inside}
use Rattle.banded_search.specs.forms.Indices.{band_index, held_at, color_at, BandIndices}
use Rattle.banded_search.proofs.Counting.{index_below, no_other}
use Rattle.banded_search.proofs.Ascent.{ascent}

-- ---- tests
is_true : (t : Bool) → T t → t ≡ true
is_true true h = refl
is_true false h = absurd h

is_false : (t : Bool) → T (not t) → t ≡ false
is_false true h = absurd h
is_false false h = refl

each_below : (n : ℕ) (f : ℕ → Bool) → T (all_below n f) → (k : ℕ) → k < n → T (f k)
unfolding all_below
each_below zero f h k q = absurd (omega arith)
each_below (suc n) f h k q = elim (eq-or-lt_of_le {n = k} {m = n} (omega arith)) [
  | inl d ↦ subst (λ (j : ℕ). T (f j)) (sym d) (and_r (all_below n f) (f n) h)
  | inr l ↦ each_below n f (and_l (all_below n f) (f n) h) k l
]

-- ---- a lane: its colour is that of its band where it lies in it
abbrev lane_of : Float → (inside : Bool) (color nodata : ℕ) → Lane
lane_of v inside color nodata = record { value = v; inside = inside; color = cond inside color nodata }

module _ (starts ends : List Float) (colors : List ℕ) (count nodata n : ℕ) (value : List Float) (some : 0 < count)
    (ordered : ascending_disjoint (from_columns starts ends colors count) ≡ true) where
  abbrev f : ℕ → LegendBand
  f = band_at starts ends colors

  abbrev bands : List LegendBand
  bands = from_columns starts ends colors count

  abbrev v : ℕ → Float
  v k = get_or value k nan

  index : ℕ → ℕ
  index k = band_index starts count (v k)

  abbrev held : ℕ → Bool
  held k = held_at starts ends (index k) (v k)

  -- lane k after the bands below i: only the one at its index can have held it
  abbrev after : (i k : ℕ) → Lane
  after i k = lane_of (v k) (ltb (index k) i && held k) (get_or colors (index k) 0) nodata

  index_counts : (k : ℕ) → index k < count
  unfolding index
  index_counts k = index_below starts (v k) count some

  -- ---- one band more over lane k
  at_index : (k : ℕ) → over (f (index k)) (after (index k) k) ≡ after (index k + 1) k
  at_index k =
      ap (λ (t : Bool). over (f (index k)) (lane_of (v k) (t && held k) (get_or colors (index k) 0) nodata)) (le-ltb (index k) (index k) (omega arith))
      ∙ go (held k)
      ∙ sym (ap (λ (t : Bool). lane_of (v k) (t && held k) (get_or colors (index k) 0) nodata) (lt-ltb (index k) (index k + 1) (omega arith)))
    where
      go : (t : Bool) → cond t (lane_of (v k) true (get_or colors (index k) 0) nodata) (lane_of (v k) false (get_or colors (index k) 0) nodata)
          ≡ lane_of (v k) t (get_or colors (index k) 0) nodata
      go true = refl
      go false = refl

  elsewhere : (i k : ℕ) → i < count → (i ≡ index k → ⊥) → over (f i) (after i k) ≡ after (i + 1) k
  unfolding index
  elsewhere i k q d =
      ap (λ (t : Bool). cond t (lane_of (v k) true (get_or colors i 0) nodata) (after i k))
      (is_false (held_at starts ends i (v k)) (no_other starts (v k) ends count (ascent starts ends colors count ordered) i q d))
      ∙ ap (λ (t : Bool). lane_of (v k) (t && held k) (get_or colors (index k) 0) nodata) (same (lt_or_le (index k) i))
    where
      same : (index k < i) ⊎ (i ≤ index k) → ltb (index k) i ≡ ltb (index k) (i + 1)
      same (inl l) = lt-ltb (index k) i l ∙ sym (lt-ltb (index k) (i + 1) (omega arith))
      same (inr l) = elim (eq-or-lt_of_le l) [
        | inl e ↦ absurd (d e)
        | inr g ↦ le-ltb (index k) i l ∙ sym (le-ltb (index k) (i + 1) (omega arith))
      ]

  one-band : (i k : ℕ) → i < count → over (f i) (after i k) ≡ after (i + 1) k
  one-band i k q = elim (ℕ_discrete i (index k)) [
    | yes e ↦ subst (λ (j : ℕ). over (f j) (after j k) ≡ after (j + 1) k) (sym e) (at_index k)
    | no d ↦ elsewhere i k q d
  ]

  -- ---- all lanes
  abbrev lanes : ℕ → List Lane
  lanes i = tabulate n (after i)

  overs : (i : ℕ) → i < count → map (over (f i)) (lanes i) ≡ lanes (i + 1)
  overs i q = map_rule (over (f i)) n (after i) ∙ same_rule n (λ k. over (f i) (after i k)) (after (i + 1)) (λ k l. one-band i k q)

  -- a lane that lies in its band has its last colour
  inside_last : (i k : ℕ) → T (ltb (index k) i && held k) → after i k ≡ after count k
  inside_last i k h =
      let e : held k ≡ true = is_true (held k) (and_r (ltb (index k) i) (held k) h) in
      ap (λ (t : Bool). lane_of (v k) t (get_or colors (index k) 0) nodata)
      (is_true (ltb (index k) i && held k) h ∙ sym (ap₂ (λ (s t : Bool). s && t) (lt-ltb (index k) count (index_counts k)) e))

  last_inside : (k : ℕ) → (ltb (index k) count && held k) ≡ held k
  last_inside k = ap (λ (t : Bool). t && held k) (lt-ltb (index k) count (index_counts k))

  abbrev last : Sweep
  last = record { finished = all_below n held; lanes = lanes count }

  all_last : all_inside (lanes count) ≡ all_below n held
  all_last = all-inside n (after count) ∙ below-same n (λ k. (after count k).inside) held (λ k q. last_inside k)

  -- the lanes after the bands below i are the last ones where all are inside
  early : (i : ℕ) → all_inside (lanes i) ≡ true → record { finished = true; lanes = lanes i } ≡ last
  early i e = ap₂ (λ (t : Bool) (ls : List Lane). record { finished = t; lanes = ls }) (sym e ∙ ap all_inside same ∙ all_last) same
    where
      each : (k : ℕ) → k < n → T (ltb (index k) i && held k)
      each = each_below n (λ k. (after i k).inside) (subst T (sym (sym (all-inside n (after i)) ∙ e)) tt)

      same : lanes i ≡ lanes count
      same = same_rule n (after i) (after count) (λ k q. inside_last i k (each k q))

  -- the bands from i on, of which there are m, over lanes that are not all inside
  sweep : (m i : ℕ) → i + m ≡ count → all_inside (lanes i) ≡ false → swept (drop i bands) (lanes i) ≡ last
  unfolding swept
  sweep zero i e out =
      let d : i ≡ count = omega arith in
      ap (λ (bs : List LegendBand). swept bs (lanes i)) (drop-end starts ends colors count i (omega arith))
      ∙ ap₂ (λ (t : Bool) (ls : List Lane). record { finished = t; lanes = ls }) (sym out ∙ ap (λ (j : ℕ). all_inside (lanes j)) d ∙ all_last) (ap lanes d)
  sweep (suc m) i e out =
      ap (λ (bs : List LegendBand). swept bs (lanes i)) (drop-band starts ends colors count i (omega arith))
      ∙ ap (λ (ls : List Lane). cond (all_inside ls) (record { finished = true; lanes = ls }) (swept (drop (i + 1) bands) ls)) (overs i (omega arith))
      ∙ go (all_inside (lanes (i + 1))) refl (sweep m (i + 1) (omega arith))
    where
      go : (t : Bool) → all_inside (lanes (i + 1)) ≡ t → (all_inside (lanes (i + 1)) ≡ false → swept (drop (i + 1) bands) (lanes (i + 1)) ≡ last) →
          cond t (record { finished = true; lanes = lanes (i + 1) }) (swept (drop (i + 1) bands) (lanes (i + 1))) ≡ last
      go true a rest = early (i + 1) a
      go false a rest = rest a

  -- ---- the chunk
  abbrev chunk : List Lane
  chunk = map (started nodata) (take n value)

  started-is : (k : ℕ) → started nodata (v k) ≡ after 0 k
  started-is k = ap (λ (t : Bool). lane_of (v k) (t && held k) (get_or colors (index k) 0) nodata) (sym (le-ltb (index k) 0 (omega arith)))

  chunk-is : n ≤ length value → chunk ≡ lanes 0
  chunk-is l =
      ap (map (started nodata)) (front nan n v value l (λ k q. refl)) ∙ map_rule (started nodata) n v
      ∙ same_rule n (λ k. started nodata (v k)) (after 0) (λ k q. started-is k)

  none_inside : 0 < n → all_inside (lanes 0) ≡ false
  none_inside p =
      is_false (all_inside (lanes 0))
      (not_T (all_inside (lanes 0)) (λ (h : T (all_inside (lanes 0))). outside (each_below n (λ k. (after 0 k).inside) (subst T (all-inside n (after 0)) h) 0 p)))
    where
      outside : T (after 0 0).inside → ⊥
      outside h = omega (arith, ltb→lt (index 0) 0 (and_l (ltb (index 0) 0) (held 0) h))

  swept-is : 0 < n → n ≤ length value → swept bands chunk ≡ last
  swept-is p l = ap (swept bands) (chunk-is l) ∙ sweep count 0 (omega arith) (none_inside p)

  -- ---- THE LAW, by what `band_indices`, `colors_at` and `all_held` ensure
  pub scan_at_indices : {indices words : List ℕ} {all : Bool} → 0 < n → n ≤ 16 → n ≤ length value → BandIndices n starts count value indices →
      LanesOf 0 n (λ k. color_at starts ends colors (get_or indices k 0) (get_or value k nan) (get_or (replicate 16 nodata) k 0)) words →
      all ≡ all_below n (λ k. held_at starts ends (get_or indices k 0) (get_or value k nan)) →
      Scanned n bands nodata value (record { colors = words; finished = all })
  unfolding index
  scan_at_indices {indices} {words} {all} p g l h w a =
      record {
        finished = finishes ∙ ap (λ (s : Sweep). s.finished) (sym (swept-is p l));
        colors = colored ∙ ap (λ (s : Sweep). padded 0 16 (map (λ (l : Lane). l.color) s.lanes)) (sym (swept-is p l));
      }
    where
      finishes : all ≡ all_below n held
      finishes =
          a ∙ below-same n (λ k. held_at starts ends (get_or indices k 0) (v k)) held
          (λ k q. ap (λ (j : ℕ). held_at starts ends j (v k)) (lane_at_lem h.counted 0 k q))

      word : (k : ℕ) → k < n → color_at starts ends colors (get_or indices k 0) (v k) (get_or (replicate 16 nodata) k 0) ≡ (after count k).color
      word k q =
          ap₂ (λ (j c : ℕ). color_at starts ends colors j (v k) c) (lane_at_lem h.counted 0 k q) (get_or-replicate 16 k nodata 0 (omega arith))
          ∙ ap (λ (t : Bool). cond t (get_or colors (index k) 0) nodata) (sym (last_inside k))

      colored : words ≡ padded 0 16 (map (λ (l : Lane). l.color) (lanes count))
      colored = (lanes_agree w word).is ∙ ap (padded 0 16) (sym (map_rule (λ (l : Lane). l.color) n (after count)))
