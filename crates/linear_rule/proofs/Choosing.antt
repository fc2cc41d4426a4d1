-- A colour that is looked up first and replaced out of range is the rule's: one, and those of lanes, for any lane count. Assumes nothing.
use Rattle.std.specs.Prelude.{Option, Some, None}
use mathlib.Core.Path.{◌≡◌, refl, ap, ◌∙◌}
use mathlib.Core.Bool.{Bool, true, false, cond}
use mathlib.Core.List.{List}
use Prim.Native.Nat.{ℕ}
use lib.Ieee.{Float, nan, binary32, add, sub, lt}
use lib.ListN.{get_or}
use Rattle.lists.specs.Lanes.{LanesOf}
use Rattle.lists.proofs.LanesOf.{lane_at_lem, lanes_agree}
use Rattle.interpolate.specs.Fraction.{fraction, plain_fraction}
use Rattle.lookup.specs.Entries.{plain_entry, lane_entry, entry_color}
use Rattle.colormapper.specs.declared.UnmappableColors.{UnmappableColors}
use Rattle.colormapper.specs.Tolerance.{E}
use Rattle.colormapper.specs.Rule.{low, high, rule_color}
use Rattle.linear_rule.specs.Rule.{by_range, entry_rule, rule_in_range, plain_rule, lane_rule, linear_rule_colors, plain_color, lane_color}

module _ (cmap : List ℕ) (start end : Float) (u : UnmappableColors) (v : Float) where
  chosen : (entry : (Option ℕ)) → by_range start end v u.low u.high (entry_color cmap entry) ≡ rule_color (linear_rule_colors cmap u)
      (rule_in_range start end v entry)
  chosen entry = go (lt v (sub binary32 start E)) (lt (add binary32 end E) v)
    where
      found : (entry : (Option ℕ)) → entry_color cmap entry ≡ rule_color (linear_rule_colors cmap u) (entry_rule entry)
      found (Some k) = refl
      found None = refl

      go : (b a : Bool) → cond b u.low (cond a u.high (entry_color cmap entry)) ≡ rule_color (linear_rule_colors cmap u)
          (cond b low (cond a high (entry_rule entry)))
      go true a = refl
      go false true = refl
      go false false = found entry

  -- in phases: the fraction f, the colour that is looked up for it, and the range
  phases : (rule : Float → Option ℕ) {f g : Float} {color r : ℕ} → f ≡ g → color ≡ entry_color cmap (rule f) → r ≡ by_range start end v u.low u.high color
      → r ≡ rule_color (linear_rule_colors cmap u) (rule_in_range start end v (rule g))
  phases rule {f} {g} p q s = s ∙ ap (by_range start end v u.low u.high) (q ∙ ap (λ x. entry_color cmap (rule x)) p) ∙ chosen (rule g)

  module _ {f : Float} {color r : ℕ} where
    pub plain_phases : f ≡ plain_fraction start end v → color ≡ entry_color cmap (plain_entry f) → r ≡ by_range start end v u.low u.high color
        → r ≡ plain_color cmap start end u v
    unfolding plain_color plain_rule
    plain_phases = phases plain_entry

    pub lane_phases : f ≡ fraction start end v → color ≡ entry_color cmap (lane_entry f) → r ≡ by_range start end v u.low u.high color
        → r ≡ lane_color cmap start end u v
    unfolding lane_color lane_rule
    lane_phases = phases lane_entry

-- ---- the phases of lanes, for any lane count
module _ (cmap : List ℕ) (start end : Float) (u : UnmappableColors) (value : List Float) {z : Float} {l : ℕ} {f : List Float} {colors r : List ℕ}
    (ranges : LanesOf 0 l (λ k. by_range start end (get_or value k nan) u.low u.high (get_or colors k 0)) r) where
  pub plain-lanes : LanesOf z l (λ k. plain_fraction start end (get_or value k nan)) f → LanesOf 0 l (λ k. entry_color cmap (plain_entry (get_or f k nan))) colors
      → LanesOf 0 l (λ k. plain_color cmap start end u (get_or value k nan)) r
  plain-lanes fractions looks =
      lanes_agree ranges (λ k h. plain_phases cmap start end u (get_or value k nan) (lane_at_lem fractions nan k h) (lane_at_lem looks 0 k h) refl)

  pub lane-lanes : LanesOf z l (λ k. fraction start end (get_or value k nan)) f → LanesOf 0 l (λ k. entry_color cmap (lane_entry (get_or f k nan))) colors
      → LanesOf 0 l (λ k. lane_color cmap start end u (get_or value k nan)) r
  lane-lanes fractions looks =
      lanes_agree ranges (λ k h. lane_phases cmap start end u (get_or value k nan) (lane_at_lem fractions nan k h) (lane_at_lem looks 0 k h) refl)
