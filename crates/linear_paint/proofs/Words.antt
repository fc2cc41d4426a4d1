-- The colours of lanes, masked, are their words by the rule that gave the colours: the plain rule or the lane rule, for any lane count. Assumes nothing.
use mathlib.Core.Bool.{cond}
use mathlib.Core.List.{List}
use Prim.Native.Nat.{ℕ}
use lib.Ieee.{Float, nan}
use lib.ListN.{get_or}
use Rattle.lists.specs.Lanes.{LanesOf}
use Rattle.colormapper.specs.forms.Exclusions.{excluded}
use Rattle.colormapper.proofs.MaskedLanes.{masked-lanes}
use Rattle.linear_rule.specs.forms.LinearRules.{plain_color_by, lane_color_by}
use Rattle.linear_paint.specs.declared.LinearPaint.{LinearPaint}
use Rattle.linear_paint.specs.forms.Samples.{plain_sample, lane_sample}

module _ (p : LinearPaint) (v : List Float) {l : ℕ} {c d : List ℕ}
    (masks : LanesOf 0 l (λ k. cond (excluded p.exclusions (get_or v k nan)) p.rule.colors.nodata (get_or c k 0)) d) where
  pub plain-masked : LanesOf 0 l (λ k. plain_color_by p.rule (get_or v k nan)) c → LanesOf 0 l (λ k. plain_sample p (get_or v k nan)) d
  plain-masked colors = masked-lanes p.exclusions p.rule.colors.nodata (plain_color_by p.rule) v c colors masks

  pub lane-masked : LanesOf 0 l (λ k. lane_color_by p.rule (get_or v k nan)) c → LanesOf 0 l (λ k. lane_sample p (get_or v k nan)) d
  lane-masked colors = masked-lanes p.exclusions p.rule.colors.nodata (lane_color_by p.rule) v c colors masks
