-- What the types of a legend hold: words of 32 bits, f32s, whole numbers of 64 bits, and as many places as an array has. Definitions only.
use Rattle.std.specs.Prelude.{Option, Some, None, ◌≡◌, ℕ, ◌^◌, ◌<◌, T, Float, ℤ, length}
use Rattle.std.specs.Float.{binary32}
use Rattle.std.specs.Float.Ieee.{fits}
use Rattle.std.specs.Int.Signed.{mag}
use Rattle.colormapper.specs.declared.MappingConfig.{MappingConfig}
use Rattle.linear.specs.declared.Linear.{Linear}
use Rattle.banded_columns.specs.declared.LegendBand.{LegendBand}
use Rattle.banded.specs.declared.Banded.{Banded}
use Rattle.catgegoric.specs.declared.CategoricNumeric.{CategoricNumeric}
use Rattle.legend.specs.declared.Legend.{Legend}
use Rattle.card_bytes.specs.Entries.{All}

abbrev pub Word : ℕ → Type 0
Word n = n < 2 ^ 32

abbrev pub Single : Float → Type 0
Single x = T (fits binary32 x)

-- from -2^63 to 2^63 - 1
abbrev pub Key : ℤ → Type 0
Key k = mag k < 2 ^ 63

abbrev pub HeldColor : Option ℕ → Type 0
HeldColor (Some color) = Word color
HeldColor None = Unit

pub record HeldSettings (config : MappingConfig) : Type 0 where
  pub nodata : Word config.nodata_color
  pub low : HeldColor config.out_of_range_low_color
  pub high : HeldColor config.out_of_range_high_color

pub record HeldLinear (l : Linear) : Type 0 where
  pub start : Single l.start
  pub end : Single l.end
  pub places : length l.cmap ≡ 256
  pub colors : All Word l.cmap

pub record HeldBand (b : LegendBand) : Type 0 where
  pub start : Single b.start
  pub end : Single b.end
  pub color : Word b.color

pub record HeldBanded (b : Banded) : Type 0 where
  pub places : length b.bands ≡ 64
  pub bands : All HeldBand b.bands

pub record HeldCategoric (c : CategoricNumeric) : Type 0 where
  pub places : length c.keys ≡ 256
  pub keys : All Key c.keys
  pub words : length c.colors ≡ 256
  pub colors : All Word c.colors

pub record Held (l : Legend) : Type 0 where
  pub settings : HeldSettings l.mapping_config
  pub linear : HeldLinear l.linear
  pub banded : HeldBanded l.banded
  pub categoric : HeldCategoric l.categoric
