-- THE CHUNKING RULE (docs/PROMISES.md, demand 3): what the lane count of a processor can change, and that it changes nothing else. What is claimed, of which
-- legends, and the one case in which two colours differ. Definitions only.
use Rattle.refusal.specs.Outcome.{Done}
use Rattle.std.specs.Prelude.{Option, ◌≡◌, ◌⊎◌, false, List, map, ℕ, ◌<◌, T, ℤ, Float, length, get_or}
use Rattle.std.specs.Float.{nan, binary32}
use Rattle.std.specs.Float.Ieee.{lt, of_bits}
use Rattle.floats.specs.Comparison.{Same}
use Rattle.cast.specs.Samples.{of_u8, of_i16}
use Rattle.colormapper.specs.Unmappable.{unmappable}
use Rattle.painting.specs.Paintings.{PlainPainting, LanePainting}
use Rattle.painting.specs.Painted.{full}
use Rattle.linear_rule.specs.Exception.{ExceptionFraction}
use Rattle.banded_columns.specs.Order.{Ordered}
use Rattle.banded_lanes.specs.Conditions.{wide_band, first_and_last, LawfulBands}
use Rattle.banded.specs.Record.{counted}
use Rattle.legend.specs.declared.Legend.{Legend}
use Rattle.legend.specs.declared.LegendKind.{LegendKind}
use Rattle.legend.specs.declared.LegendKind.TheVariants as kind
use Rattle.legend.specs.Painters.{painter}

-- a raster of each sample type, an f32 by its bits; and its samples as f32
pub data Raster : Type 0 where
  f32 : List ℕ → Raster
  u8 : List ℕ → Raster
  i16 : List ℤ → Raster

abbrev pub samples : Raster → List Float
samples (f32 bits) = map (of_bits binary32) bits
samples (u8 xs) = map of_u8 xs
samples (i16 xs) = map of_i16 xs

abbrev pub sample_at : Raster → ℕ → Float
sample_at r i = get_or (samples r) i nan

-- the same sample: the same number, so that -0 is 0, and one NaN is another
abbrev pub SameSample : Float → Float → Type 0
SameSample x y = Same x y ⊎ ((x ≡ nan) × (y ≡ nan))

-- the legends of the rule: linear with a start that is not above its end; banded with sound bands, or none; every categoric one
abbrev pub LawfulIn : LegendKind → Legend → Type 0
LawfulIn kind.Linear l = lt l.linear.end l.linear.start ≡ false
LawfulIn kind.Banded l = LawfulBands (counted l.banded)
LawfulIn kind.CategoricNumeric l = Unit

abbrev pub Lawful : Legend → Type 0
Lawful l = LawfulIn l.kind l

-- the same in the user's words, which ask of bands that they be finite and ascend as well
abbrev pub AskedIn : LegendKind → Legend → Type 0
AskedIn kind.Linear l = LawfulIn kind.Linear l
AskedIn kind.Banded l = Ordered (counted l.banded) × T (first_and_last wide_band (counted l.banded))
AskedIn kind.CategoricNumeric l = Unit

abbrev pub Asked : Legend → Type 0
Asked l = AskedIn l.kind l

-- the exception: a mappable sample of a linear legend whose fraction is the f32 with the bits 3B008080
abbrev pub RoundingExceptionIn : LegendKind → Legend → Option Float → (sample : Float) → Type 0
RoundingExceptionIn kind.Linear l nodata v =
    (unmappable nodata l.mapping_config.zero_is_nodata v ≡ false) × ExceptionFraction l.linear.start l.linear.end v
RoundingExceptionIn kind.Banded l nodata v = ⊥
RoundingExceptionIn kind.CategoricNumeric l nodata v = ⊥

abbrev pub RoundingException : Legend → Option Float → (sample : Float) → Type 0
RoundingException l = RoundingExceptionIn l.kind l

-- The rule for a legend, over the outputs that its plain paintings leave (`Plain nodata raster output`) and those that its lane paintings leave
-- (`Lanes nodata L raster output`)
pub record ChunkingRule (l : Legend) (Plain : Option Float → Raster → List ℕ → Type 0) (Lanes : Option Float → ℕ → Raster → List ℕ → Type 0) : Type 0 where
  -- a pixel of a lane painting is that of the plain painting of the same raster, unless it lies in a full chunk and is the exception
  pub same : (nodata : Option Float) (L : ℕ) (r : Raster) (plain lanes : List ℕ) → Plain nodata r plain → Lanes nodata L r lanes → (i : ℕ) → i < length (samples r)
      → (get_or lanes i 0 ≡ get_or plain i 0) ⊎ ((i < full L (length (samples r))) × RoundingException l nodata (sample_at r i))
  -- there it has the ramp's entry 1 from lane painting, and entry 0 from plain painting
  pub differs : (nodata : Option Float) (L : ℕ) (r : Raster) (plain lanes : List ℕ) → Plain nodata r plain → Lanes nodata L r lanes
      → (i : ℕ) → i < full L (length (samples r)) → RoundingException l nodata (sample_at r i)
      → (get_or lanes i 0 ≡ get_or l.linear.cmap 1 0) × (get_or plain i 0 ≡ get_or l.linear.cmap 0 0)
  -- two rasters of one length with the same sample at a pixel have the same colour there from lane painting
  pub alone : (nodata : Option Float) (L : ℕ) (r s : Raster) (out out' : List ℕ) → Lanes nodata L r out → Lanes nodata L s out'
      → length (samples r) ≡ length (samples s) → (i : ℕ) → i < length (samples r) → SameSample (sample_at r i) (sample_at s i) → get_or out i 0 ≡ get_or out' i 0

-- what a painting leaves that keeps its contract and is not refused (so that L is 4, 8 or 16), whatever output and scratch held before
pub record PlainDone (l : Legend) (nodata : Option Float) (r : Raster) (output : List ℕ) : Type 0 where
  pub before : List ℕ
  pub painting : PlainPainting (painter l nodata) (samples r) before Done output

pub record LanesDone (l : Legend) (nodata : Option Float) (L : ℕ) (r : Raster) (output : List ℕ) : Type 0 where
  pub before : List ℕ
  pub scratch : List ℕ
  pub scratch_after : List ℕ
  pub painting : LanePainting (painter l nodata) L (samples r) before scratch Done output scratch_after
