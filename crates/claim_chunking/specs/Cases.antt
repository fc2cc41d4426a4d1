-- That the conditions on bands are met, and that each is needed: lists of bands that keep all of them, or all but one, with the chunk of four samples
-- whose first shows it. Definitions only.
use Rattle.std.specs.Prelude.{ℕ, Bool, true, false, not, ◌&&◌, List, [], ◌∷◌, eqb, Float, get_or}
use Rattle.std.specs.Float.{nan, inf, binary32}
use Rattle.std.specs.Float.Ieee.{add}
use Rattle.lists.specs.Each.{each}
use Rattle.colormapper.specs.declared.UnmappableColors.{UnmappableColors}
use Rattle.banded_columns.specs.declared.LegendBand.{LegendBand}
use Rattle.banded_rule.specs.PlainRule.{plain_color}
use Rattle.banded_lanes.specs.LaneRule.{lane_colors}
use Rattle.colormapper.specs.Tolerance.{E}
use Rattle.banded_columns.specs.Order.{starts_below_end, clears, each_next}
use Rattle.banded_lanes.specs.Conditions.{wide_band, first_and_last}
use Rattle.claim_examples.specs.Decimals.{integer, decimal}

-- which conditions a list keeps: each band starts below its end; none starts below the end of the one before; the first and the last are wide
pub record Conditions : Type 0 where
  pub starts : Bool
  pub disjoint : Bool
  pub wide : Bool

abbrev pub conditions_of : List LegendBand → Conditions
conditions_of bands = record { starts = each starts_below_end bands; disjoint = each_next clears bands; wide = first_and_last wide_band bands }

abbrev pub same_bool : Bool → Bool → Bool
same_bool true b = b
same_bool false b = not b

abbrev pub same_conditions : Conditions → Conditions → Bool
same_conditions x y = (same_bool x.starts y.starts && same_bool x.disjoint y.disjoint) && same_bool x.wide y.wide

abbrev band : (start end : Float) (color : ℕ) → LegendBand
band start end color = record { start = start; end = end; color = color }

abbrev colors : UnmappableColors
colors = record { nodata = 9; low = 8; high = 7 }

-- a list, the conditions that it keeps, a chunk, and whether the chunk's first colour is the plain one
pub record Case : Type 0 where
  pub bands : List LegendBand
  pub keeps : Conditions
  pub chunk : List Float
  pub agrees : Bool

unfoldable pub case_holds : Case → Bool
case_holds c =
    same_conditions (conditions_of c.bands) c.keeps
    && same_bool (eqb (get_or (lane_colors c.bands colors c.chunk) 0 0) (plain_color c.bands colors (get_or c.chunk 0 nan))) c.agrees

unfoldable pub all_cases_hold : List Case → Bool
all_cases_hold [] = true
all_cases_hold (c ∷ cs) = case_holds c && all_cases_hold cs

abbrev all : Conditions
all = record { starts = true; disjoint = true; wide = true }

abbrev but_starts : Conditions
but_starts = record { starts = false; disjoint = true; wide = true }

abbrev but_disjoint : Conditions
but_disjoint = record { starts = true; disjoint = false; wide = true }

abbrev but_wide : Conditions
but_wide = record { starts = true; disjoint = true; wide = false }

unfoldable pub cases : List Case
cases =
    -- 0 to 1 and 2 to 3 keep all: 0.5 beside 7
    record {
      bands = band (integer 0) (integer 1) 1 ∷ band (integer 2) (integer 3) 2 ∷ [];
      keeps = all;
      chunk = (decimal 5 10) ∷ (integer 7) ∷ (integer 7) ∷ (integer 7) ∷ [];
      agrees = true;
    }
    -- 0 to E and E to 2 E, both exactly E wide, keep all: 0.00006 beside 7
    ∷ record {
      bands = band (integer 0) E 1 ∷ band E (add binary32 E E) 2 ∷ [];
      keeps = all;
      chunk = (decimal 6 100_000) ∷ (integer 7) ∷ (integer 7) ∷ (integer 7) ∷ [];
      agrees = true;
    }
    -- -infinity to 0 and 0 to infinity keep all: infinity beside 0
    ∷ record {
      bands = band (inf true) (integer 0) 1 ∷ band (integer 0) (inf false) 2 ∷ [];
      keeps = all;
      chunk = (inf false) ∷ (integer 0) ∷ (integer 0) ∷ (integer 0) ∷ [];
      agrees = true;
    }
    -- 0 to 2, then 5 to 1, which ends below its start, then 1 to 3: 1.5 beside 2.5
    ∷ record {
      bands = band (integer 0) (integer 2) 1 ∷ band (integer 5) (integer 1) 2 ∷ band (integer 1) (integer 3) 3 ∷ [];
      keeps = but_starts;
      chunk = (decimal 15 10) ∷ (decimal 25 10) ∷ (decimal 25 10) ∷ (decimal 25 10) ∷ [];
      agrees = false;
    }
    -- 0 to 2, then a band with NaN bounds, then 1 to 3: 1.5 beside 2.5
    ∷ record {
      bands = band (integer 0) (integer 2) 1 ∷ band nan nan 2 ∷ band (integer 1) (integer 3) 3 ∷ [];
      keeps = but_starts;
      chunk = (decimal 15 10) ∷ (decimal 25 10) ∷ (decimal 25 10) ∷ (decimal 25 10) ∷ [];
      agrees = false;
    }
    -- 0 to 2 and 1 to 3 overlap: 1.5 beside 2.5
    ∷ record {
      bands = band (integer 0) (integer 2) 1 ∷ band (integer 1) (integer 3) 2 ∷ [];
      keeps = but_disjoint;
      chunk = (decimal 15 10) ∷ (decimal 25 10) ∷ (decimal 25 10) ∷ (decimal 25 10) ∷ [];
      agrees = false;
    }
    -- the first band, 0 to 0.00005, is narrower than E: 0.00006 beside 7
    ∷ record {
      bands = band (integer 0) (decimal 5 100_000) 1 ∷ band (decimal 5 100_000) (integer 1) 2 ∷ [];
      keeps = but_wide;
      chunk = (decimal 6 100_000) ∷ (integer 7) ∷ (integer 7) ∷ (integer 7) ∷ [];
      agrees = false;
    }
    -- the last band, 1 to 1.00005, is narrower than E: 0.99997 beside 7
    ∷ record {
      bands = band (integer 0) (integer 1) 1 ∷ band (integer 1) (decimal 100_005 100_000) 2 ∷ [];
      keeps = but_wide;
      chunk = (decimal 99_997 100_000) ∷ (integer 7) ∷ (integer 7) ∷ (integer 7) ∷ [];
      agrees = false;
    }
    ∷ []
