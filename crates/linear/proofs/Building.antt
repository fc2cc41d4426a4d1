-- A linear record over the ramp of a list. Assumes nothing.
use Rattle.std.specs.Prelude.{Ok, Err}
use mathlib.Core.Path.{◌≡◌, sym, ap, ap₂, ◌∙◌}
use mathlib.Core.List.{List}
use Prim.Native.Nat.{ℕ}
use lib.Ieee.{Float}
use lib.ListN.{length}
use Rattle.refusal.specs.declared.Refusal.{Refusal}
use Rattle.refusal.proofs.Outcomes.{when_done, when_refused, made_done, made_refused, not_made}
use Rattle.colormap.specs.declared.ProcessedColorMap.{ProcessedColorMap}
use Rattle.colormap.specs.Spread.{spread}
use Rattle.colormap.specs.Made.{list_refusal, spread_unless, ramp_of_list}
use Rattle.linear.specs.Made.{range_refusal, linear_unless, linear_of_ramp, linear_of_list}

module _ (start end : Float) (colors : List ℕ) where
  pub list_refused : {why : Refusal} → ramp_of_list colors ≡ Err why → linear_of_list start end colors ≡ Err why
  unfolding spread_unless linear_unless
  list_refused e =
      let r = made_refused (list_refusal (length colors)) (record { cmap = spread colors }) e in
      not_made _ (when_refused (range_refusal start end) (list_refusal (length colors)) r ∙ r)

  pub list_made : {ramp : ProcessedColorMap} → ramp_of_list colors ≡ Ok ramp → linear_of_ramp start end ramp.cmap ≡ linear_of_list start end colors
  unfolding spread_unless
  list_made e =
      let m = made_done (list_refusal (length colors)) (record { cmap = spread colors }) e in
      ap₂ (λ x (y : ProcessedColorMap). linear_unless x start end y.cmap) (sym (when_done (range_refusal start end) (list_refusal (length colors)) m.0)) (sym m.1)
