-- Which rule gives a sample its colour, and the colour that it gives: the cases of the three kinds of legends (docs/RULES.md, "Samples and settings",
-- "Linear", "Banded", "Categoric"). Definitions only.
use Rattle.std.specs.Prelude.{ℕ, List, get_or}
use Rattle.lists.specs.Outer.{first_or, last_or}
use Rattle.color.specs.Word.{word_of, transparent}
use Rattle.colormapper.specs.declared.UnmappableColors.{UnmappableColors}

-- nodata: the sample is unmappable
-- ramp_entry, ramp_outside: linear, the ramp's entry with a number; no entry
-- band, lower_edge, upper_edge, gap: banded, the band with a number, from 0; within E of the first start; within E of the last end; none of these
-- low, high: linear and banded, below and above the range
-- category, word, unknown: categoric, the entry with a number, from 0; the table's word with a number; neither
pub data Rule : Type 0 where
  nodata : Rule
  ramp_entry : ℕ → Rule
  ramp_outside : Rule
  band : ℕ → Rule
  lower_edge upper_edge low high gap : Rule
  category word : ℕ → Rule
  unknown : Rule

-- what the rules of a legend take their colours from: its settings, and the colours of its ramp, its bands, its entries and its table
pub record RuleColors : Type 0 where
  pub unmappable : UnmappableColors
  pub ramp : List ℕ
  pub bands : List ℕ
  pub categories : List ℕ
  pub table : List ℕ

-- the first and the last band's colour at the edges
abbrev pub rule_color : RuleColors → Rule → ℕ
rule_color c nodata = c.unmappable.nodata
rule_color c (ramp_entry k) = get_or c.ramp k 0
rule_color c ramp_outside = word_of transparent
rule_color c (band k) = get_or c.bands k 0
rule_color c lower_edge = first_or c.unmappable.nodata c.bands
rule_color c upper_edge = last_or c.unmappable.nodata c.bands
rule_color c low = c.unmappable.low
rule_color c high = c.unmappable.high
rule_color c gap = c.unmappable.nodata
rule_color c (category k) = get_or c.categories k 0
rule_color c (word i) = get_or c.table i 0
rule_color c unknown = c.unmappable.nodata
