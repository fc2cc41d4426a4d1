-- Painted plainly, a sample gets the colour of its rule. Assumes nothing.
use Rattle.std.specs.Prelude.{Option}
use mathlib.Core.Path.{◌≡◌, refl}
use mathlib.Core.Bool.{Bool, true, false, cond}
use Prim.Native.Nat.{ℕ}
use lib.Ieee.{Float}
use Rattle.colormapper.specs.Rule.{Rule, RuleColors, rule_color}
use Rattle.colormapper.specs.Rule as rule
use Rattle.colormapper.specs.Unmappable.{unmappable}
use Rattle.linear.specs.Made.{linear_colors}
use Rattle.linear_rule.specs.Rule as linear
use Rattle.categoric_keys.specs.Rule as keys
use Rattle.legend.specs.declared.LegendKind.{LegendKind}
use Rattle.legend.specs.declared.LegendKind.TheVariants as kind
use Rattle.legend.specs.declared.Legend.{Legend}
use Rattle.legend.specs.Painters.{linear_painter, bands_painter, categoric_painter, painter_in, painter}
use Rattle.legend.specs.SampleRule.{rule_in, sample_rule, rule_colors_in, rule_colors}

-- the colour of a choice of rules
chosen : (b : Bool) (c : RuleColors) (r : Rule) → cond b c.unmappable.nodata (rule_color c r) ≡ rule_color c (cond b rule.nodata r)
chosen true c r = refl
chosen false c r = refl

module _ (l : Legend) (nodata : (Option Float)) (v : Float) where
  abbrev missing : Bool
  missing = unmappable nodata l.mapping_config.zero_is_nodata v

  in_kind : (k : LegendKind) → (painter_in k l nodata).plain v ≡ rule_color (rule_colors_in k l) (cond missing rule.nodata (rule_in k l v))
  unfolding linear_colors linear_painter linear.plain_color bands_painter categoric_painter keys.plain_color
  in_kind kind.Linear = chosen missing (rule_colors_in kind.Linear l) (rule_in kind.Linear l v)
  in_kind kind.Banded = chosen missing (rule_colors_in kind.Banded l) (rule_in kind.Banded l v)
  in_kind kind.CategoricNumeric = chosen missing (rule_colors_in kind.CategoricNumeric l) (rule_in kind.CategoricNumeric l v)

  pub plain_by_rule : (painter l nodata).plain v ≡ rule_color (rule_colors l) (sample_rule l nodata v)
  unfolding painter rule_colors sample_rule
  plain_by_rule = in_kind l.kind
