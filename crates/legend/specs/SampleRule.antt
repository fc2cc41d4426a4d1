-- Which rule gives a sample its colour, painted plainly by a legend of any kind, and what the legend's rules take their colours from (docs/RULES.md,
-- "Samples and settings", "Linear", "Banded", "Categoric"). That the colour is the painter's is `plain_by_rule` (proofs/SampleRule.antt). Definitions only.
use Rattle.std.specs.Prelude.{Option, cond, Float}
use Rattle.colormapper.specs.Rule.{Rule, RuleColors}
use Rattle.colormapper.specs.Rule as rule
use Rattle.colormapper.specs.Unmappable.{unmappable}
use Rattle.linear.specs.Made.{linear_colors}
use Rattle.linear_rule.specs.Rule as linear
use Rattle.banded.specs.Record.{counted}
use Rattle.banded.specs.Unmappable.{banded_unmappable}
use Rattle.banded_rule.specs.PlainRule as banded
use Rattle.categoric_table.specs.Rule as table
use Rattle.categoric_keys.specs.Rule as keys
use Rattle.legend.specs.declared.LegendKind.{LegendKind}
use Rattle.legend.specs.declared.LegendKind.TheVariants as kind
use Rattle.legend.specs.declared.Legend.{Legend}

-- the rule of a mappable sample, by the legend's kind
abbrev pub rule_in : LegendKind → Legend → Float → Rule
rule_in kind.Linear l v = linear.plain_rule l.linear.start l.linear.end v
rule_in kind.Banded l v = banded.plain_rule (counted l.banded) v
rule_in kind.CategoricNumeric l v = keys.plain_rule l.categoric.keys l.categoric.count l.categoric.lookup_count v

unfoldable pub sample_rule : Legend → Option Float → Float → Rule
sample_rule l nodata v = cond (unmappable nodata l.mapping_config.zero_is_nodata v) rule.nodata (rule_in l.kind l v)

-- the colours, by the legend's kind
abbrev pub rule_colors_in : LegendKind → Legend → RuleColors
rule_colors_in kind.Linear l = linear.linear_rule_colors l.linear.cmap (linear_colors l.linear.cmap l.mapping_config)
rule_colors_in kind.Banded l = let bands = counted l.banded in banded.banded_rule_colors bands (banded_unmappable bands l.mapping_config)
rule_colors_in kind.CategoricNumeric l = table.categoric_rule_colors l.categoric.lookup l.categoric.colors l.mapping_config.nodata_color

unfoldable pub rule_colors : Legend → RuleColors
rule_colors l = rule_colors_in l.kind l
