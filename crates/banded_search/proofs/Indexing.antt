-- A loop that counts starts, over lanes: its first turn and each turn. Assumes nothing.
use mathlib.Core.Path.{sym, ap, ◌∙◌, subst}
use mathlib.Core.Bool.{cond}
use mathlib.Core.List.{List}
use Prim.Native.Nat.{ℕ, ◌+◌, ◌≤◌, ◌<◌}
use native.Mathlib.Omega.{arith}
use lib.Ieee.{Float, nan, le}
use lib.ListN.{get_or, replicate}
use Rattle.lists.specs.Lanes.{LanesOf}
use Rattle.lists.proofs.LanesOf.{lane_at_lem, lanes_agree, lanes-blank}
use Rattle.banded_search.specs.forms.Indices.{band_index, BandIndices}
use Rattle.banded_search.proofs.Counting.{index_few, index_more, index_in_arrays}

module _ (lanes : ℕ) (starts : List Float) (value : List Float) where
  indexed : (count : ℕ) (indices : List ℕ) → count ≤ 64 → LanesOf 0 lanes (λ k. band_index starts count (get_or value k nan)) indices
      → BandIndices lanes starts count value indices
  indexed count indices h all =
      record { counted = all; in_arrays = λ k q. subst (λ (p : ℕ). p < 64) (sym (lane_at_lem all 0 k q)) (index_in_arrays starts (get_or value k nan) count h) }

  pub indexed_start : (i : ℕ) → i ≤ 1 → lanes ≤ 16 → BandIndices lanes starts i value (replicate 16 0)
  indexed_start i h g =
      indexed i (replicate 16 0) (omega arith)
      (lanes-blank 0 lanes (λ k. band_index starts i (get_or value k nan)) g (λ k q. index_few starts (get_or value k nan) i h))

  -- start i over the lanes
  pub indexed_turn : {i : ℕ} {indices : List ℕ} (next : List ℕ) → 0 < i → i < 64 → BandIndices lanes starts i value indices →
      LanesOf 0 lanes (λ k. get_or indices k 0 + cond (le (get_or starts i nan) (get_or value k nan)) 1 0) next → BandIndices lanes starts (i + 1) value next
  indexed_turn {i} next p h s all =
      indexed (i + 1) next (omega arith)
      (lanes_agree all
      (λ k q.
      ap (λ (n : ℕ). n + cond (le (get_or starts i nan) (get_or value k nan)) 1 0) (lane_at_lem s.counted 0 k q)
      ∙ sym (index_more starts (get_or value k nan) i p)))
