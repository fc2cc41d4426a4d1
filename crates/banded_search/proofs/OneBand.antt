-- Of ascending disjoint bands the first that holds a sample is the one at the sample's index, or there is none: the plain rule by the index. Assumes nothing.
use Prim.Native.Nat.{ℕ, zero, suc, ◌-◌, ◌<◌}
use mathlib.Core.Path.{◌≡◌, refl, sym, ap, ap₂, ◌∙◌}
use mathlib.Core.Bool.{Bool, true, false, not, cond}
use mathlib.Core.List.{List}
use native.Mathlib.Omega.{arith}
use lib.Dec.{T}
use lib.Ieee.{Float}
use Rattle.lists.specs.Tabulate.{tabulate}
use Rattle.colormapper.specs.declared.UnmappableColors.{UnmappableColors}
use Rattle.banded_columns.specs.declared.LegendBand.{LegendBand}
use Rattle.banded_columns.specs.Band.{holds}
use Rattle.banded_columns.specs.Order.{ascending_disjoint}
use Rattle.banded_rule.specs.PlainRule.{plain_color}
use Rattle.banded_rule.specs.forms.Columns.{band_at, from_columns}
use Rattle.banded_rule.specs.forms.Steps.{first_color, edge_color}
use Rattle.banded_rule.proofs.Forms.{plain_packed}
use Rattle.banded_search.specs.forms.Indices.{band_index, color_at}
use Rattle.banded_search.proofs.Counting.{index_below, no_other}
use Rattle.banded_search.proofs.Ascent.{ascent}

no_is : (t : Bool) (x y : ℕ) → T (not t) → cond t x y ≡ y
no_is true x y h = absurd h
no_is false x y h = refl

module _ (v : Float) (otherwise : ℕ) where
  first_none : (n : ℕ) (f : ℕ → LegendBand) → ((j : ℕ) → j < n → T (not (holds (f j) v))) → first_color (tabulate n f) v otherwise ≡ otherwise
  unfolding tabulate first_color
  first_none zero f h = refl
  first_none (suc n) f h = no_is (holds (f 0) v) (f 0).color _ (h 0 (omega arith)) ∙ first_none n (λ k. f (suc k)) (λ j q. h (suc j) (omega arith))

  first_one : (n : ℕ) (f : ℕ → LegendBand) (p : ℕ) → p < n → ((j : ℕ) → j < n → (j ≡ p → ⊥) → T (not (holds (f j) v))) → first_color (tabulate n f) v otherwise
      ≡ cond (holds (f p) v) (f p).color otherwise
  unfolding tabulate first_color
  first_one zero f p q h = absurd (omega arith)
  first_one (suc n) f zero q h =
      ap (cond (holds (f 0) v) (f 0).color) (first_none n (λ k. f (suc k)) (λ j l. h (suc j) (omega arith) (λ (e : suc j ≡ 0). omega arith)))
  first_one (suc n) f (suc p) q h =
      no_is (holds (f 0) v) (f 0).color _ (h 0 (omega arith) (λ (e : 0 ≡ suc p). omega arith))
      ∙ first_one n (λ k. f (suc k)) p (omega arith) (λ j l d. h (suc j) (omega arith) (λ (e : suc j ≡ suc p). d (omega arith)))

-- the plain rule's bands, by the index
pub first_at_index : (starts ends : List Float) (colors : List ℕ) (count : ℕ) (v : Float) (otherwise : ℕ) → 0 < count
    → ascending_disjoint (from_columns starts ends colors count) ≡ true →
    first_color (from_columns starts ends colors count) v otherwise ≡ color_at starts ends colors (band_index starts count v) v otherwise
unfolding from_columns
first_at_index starts ends colors count v otherwise p a =
    first_one v otherwise count (band_at starts ends colors) (band_index starts count v) (index_below starts v count p)
    (no_other starts v ends count (ascent starts ends colors count a))

-- the plain rule, by the index and by the colour of the edges
pub plain_at_index : (starts ends : List Float) (colors : List ℕ) (count : ℕ) (u : UnmappableColors) (v : Float) {first last : LegendBand} {index edge : ℕ}
    → 0 < count → ascending_disjoint (from_columns starts ends colors count) ≡ true →
    index ≡ band_index starts count v → first ≡ band_at starts ends colors 0 → last ≡ band_at starts ends colors (count - 1) → edge ≡ edge_color first last u v →
    color_at starts ends colors index v edge ≡ plain_color (from_columns starts ends colors count) u v
plain_at_index starts ends colors count u v p a k x y e =
    ap₂ (λ (j c : ℕ). color_at starts ends colors j v c) k (e ∙ ap₂ (λ (b d : LegendBand). edge_color b d u v) x y)
    ∙ sym (first_at_index starts ends colors count v (edge_color (band_at starts ends colors 0) (band_at starts ends colors (count - 1)) u v) p a)
    ∙ sym (plain_packed starts ends colors count u v p)
