-- Ascending disjoint bands that stand in columns: each clears all before it. Assumes nothing.
use mathlib.Core.Path.{◌≡◌, sym, subst}
use mathlib.Core.Bool.{true}
use mathlib.Core.List.{List}
use mathlib.Core.Logic.{⊎_elim}
use Prim.Native.Nat.{ℕ, zero, suc, ◌<◌}
use native.Mathlib.Nat.{eq-or-lt_of_le}
use native.Mathlib.Omega.{arith}
use lib.Dec.{T}
use lib.Ieee.{Float, nan, le}
use lib.ListN.{get_or}
use Rattle.lists.proofs.Each.{each_at}
use Rattle.floats.proofs.Order.{le_le, lt_le, lt→le}
use Rattle.lists.specs.Tabulate.{tabulate}
use Rattle.banded_columns.specs.declared.LegendBand.{LegendBand}
use Rattle.banded_columns.specs.Order.{starts_below_end, clears, ascending_disjoint}
use Rattle.banded_columns.proofs.Ordering.{starts-below, disjoint, end-start, next_at}
use Rattle.banded_rule.specs.forms.Columns.{band_at, from_columns}

module _ (starts ends : List Float) where
  abbrev start : ℕ → Float
  start j = get_or starts j nan

  abbrev end : ℕ → Float
  end j = get_or ends j nan

  -- band j starts below neither the start nor the end of band i
  pub record Clears (i j : ℕ) : Type 0 where
    pub starts_ascend : T (le (start i) (start j))
    pub past : T (le (end i) (start j))

  -- of the bands below count each clears all before it
  abbrev pub Ascent : (count : ℕ) → Type 0
  Ascent count = (i j : ℕ) → i < j → j < count → Clears i j

  both_clear : (i j k : ℕ) → Clears i j → Clears j k → Clears i k
  both_clear i j k p q =
      record {
        starts_ascend = le_le (start i) (start j) (start k) p.starts_ascend q.starts_ascend;
        past = le_le (end i) (start j) (start k) p.past q.starts_ascend;
      }

  by_next : (count : ℕ) → ((i : ℕ) → suc i < count → Clears i (suc i)) → Ascent count
  by_next count next i zero p q = absurd (omega arith)
  by_next count next i (suc j) p q =
      ⊎_elim
      (λ (e : i ≡ j). subst (λ (k : ℕ). Clears k (suc j)) (sym e) (next j q))
      (λ (g : i < j). both_clear i j (suc j) (by_next count next i j g (omega arith)) (next j q))
      (eq-or-lt_of_le (omega arith))

  module _ (colors : List ℕ) where
    abbrev f : ℕ → LegendBand
    f = band_at starts ends colors

    columns_ascend : (count : ℕ) → T (ascending_disjoint (tabulate count f)) → Ascent count
    columns_ascend zero h i j p q = absurd (omega arith)
    columns_ascend (suc n) h i j p q = by_next (suc n) next i j p q
      where
        below : (k : ℕ) → k < suc n → T (starts_below_end (f k))
        below = each_at starts_below_end (suc n) f (starts-below (tabulate (suc n) f) h)

        next : (k : ℕ) → suc k < suc n → Clears k (suc k)
        next k q =
            let e : T (le (end k) (start (suc k))) = end-start (f k) (f (suc k)) (below k (omega arith)) (below (suc k) q)
            (next_at clears n f (disjoint (tabulate (suc n) f) h) k (omega arith)) in
            record { starts_ascend = lt→le (start k) (start (suc k)) (lt_le (start k) (end k) (start (suc k)) (below k (omega arith)) e); past = e }

    pub ascent : (count : ℕ) → ascending_disjoint (from_columns starts ends colors count) ≡ true → Ascent count
    unfolding from_columns
    ascent count e = columns_ascend count (subst T (sym e) tt)
