-- Refusals in the order of the table's rows: for each place of docs/RULES.md, "Where each call says no", and each two refusals that can both apply there, an
-- input to which both apply, and the one that is given. Definitions only.
use Rattle.std.specs.Prelude.{Bool, true, ◌&&◌, List, [], ◌∷◌, ◌++◌, ℕ, eqb, ℤ, pos, negsuc, take, replicate}
use Rattle.refusal.specs.Outcome.{Answer, Done, answer_of}
use Rattle.refusal.specs.Table.{answer_number}
use Rattle.color.specs.Hex.{hex_color}
use Rattle.colormapper.specs.Settings.{no_settings}
use Rattle.linear.specs.Made.{linear_of_list}
use Rattle.banded_lists.specs.declared.ValueRange.{ValueRange}
use Rattle.banded_lists.specs.Padded.{blank_band}
use Rattle.banded.specs.Record.{banded_refusal}
use Rattle.banded.specs.EqualBands.{with_equal_bands}
use Rattle.banded.specs.ManualRanges.{with_manual_ranges}
use Rattle.catgegoric.specs.Made.{for_values, for_value_range}
use Rattle.painting.specs.Paintings.{plain_refusal, lane_refusal}
use Rattle.legend.specs.declared.Legend.{Legend}
use Rattle.legend.specs.Record.{linear_legend, banded_legend, categoric_legend}
use Rattle.legend_range.specs.ValueRanges.{total_range_refusal}
use Rattle.card_layout.specs.Cards.{card_of}
use Rattle.card_layout.specs.Refusals.{read_refusal, write_refusal}
use Rattle.claim_examples.specs.Decimals.{integer}

-- ranges that are empty, from 1 to 0
abbrev empty : ValueRange
empty = record { start = integer 1; end = integer 0 }

-- the least and the largest i64
abbrev least : ℤ
least = negsuc 9223372036854775807

abbrev most : ℤ
most = pos 9223372036854775807

-- the least key above those allowed
abbrev above : ℤ
above = pos 16777217

-- a linear legend that starts above its end, and what would be its card
abbrev backwards : Legend
backwards = linear_legend (record { start = integer 1; end = integer 0; cmap = replicate 256 0 }) no_settings

abbrev turned : List ℕ
turned = card_of [] backwards

-- a categoric record that counts one key twice
abbrev equal_keys : Legend
equal_keys =
    categoric_legend (record { keys = replicate 256 (pos 1); colors = replicate 256 1; count = 2; lookup = replicate 513 0; lookup_count = 0 }) no_settings

pub record Row : Type 0 where
  pub number : ℕ
  pub given : Answer

abbrev row : ℕ → Answer → Row
row number given = record { number = number; given = given }

unfoldable pub all_given : List Row → Bool
all_given [] = true
all_given (r ∷ rs) = eqb (answer_number r.given) r.number && all_given rs

unfoldable pub rows : List Row
rows =
    -- hex: 1 and 2, the empty text; 2 and 3, `x0g0000`
    row 1 (answer_of (hex_color []))
    ∷ row 2 (answer_of (hex_color (120 ∷ 48 ∷ 103 ∷ 48 ∷ 48 ∷ 48 ∷ 48 ∷ [])))
    -- linear from a list: 4 and 7; 5 and 7
    ∷ row 4 (answer_of (linear_of_list (integer 1) (integer 0) (1 ∷ [])))
    ∷ row 5 (answer_of (linear_of_list (integer 1) (integer 0) (replicate 257 1)))
    -- equal bands: 7 and 8; 7 and 9; 8 and 9
    ∷ row 7 (answer_of (with_equal_bands 65 (integer 1) (integer 0) (replicate 65 1)))
    ∷ row 7 (answer_of (with_equal_bands 2 (integer 1) (integer 0) (1 ∷ [])))
    ∷ row 8 (answer_of (with_equal_bands 65 (integer 0) (integer 1) (1 ∷ [])))
    -- manual ranges: 8 and 10; 8 and 9; 10 and 9
    ∷ row 8 (answer_of (with_manual_ranges (record { ranges = replicate 64 empty; count = 65 }) (replicate 65 1)))
    ∷ row 8 (answer_of (with_manual_ranges (record { ranges = replicate 64 (record { start = integer 0; end = integer 1 }); count = 65 }) (1 ∷ [])))
    ∷ row 10 (answer_of (with_manual_ranges (record { ranges = replicate 64 empty; count = 1 }) []))
    -- categories by values: 11 and 9; 11 and 17; 9 and 17
    ∷ row 11 (answer_of (for_values (replicate 257 (pos 1)) (1 ∷ [])))
    ∷ row 11 (answer_of (for_values (replicate 257 above) (replicate 257 1)))
    ∷ row 9 (answer_of (for_values (above ∷ []) []))
    -- categories by range: 12 and 11, 9, 17 at once; 11 and 9; 11 and 17; 9 and 17
    ∷ row 12 (answer_of (for_value_range least most (1 ∷ [])))
    ∷ row 11 (answer_of (for_value_range (pos 1) (pos 257) (1 ∷ [])))
    ∷ row 11 (answer_of (for_value_range (pos 16777000) (pos 16777256) (replicate 257 1)))
    ∷ row 9 (answer_of (for_value_range above above []))
    -- the range and the list of colours: 16 and 17
    ∷ row 16 (total_range_refusal
    (categoric_legend (record { keys = replicate 256 above; colors = replicate 256 1; count = 257; lookup = replicate 513 0; lookup_count = 0 }) no_settings))
    -- plain painting: 16 and 13
    ∷ row 16 (plain_refusal (banded_refusal 65) 4 3)
    -- lane painting: 16 and 14, 15, 13 at once; 14 and 15; 14 and 13; 15 and 13
    ∷ row 16 (lane_refusal (banded_refusal 65) 5 15 4 3)
    ∷ row 14 (lane_refusal Done 5 15 4 4)
    ∷ row 14 (lane_refusal Done 5 16 4 3)
    ∷ row 15 (lane_refusal Done 4 15 4 3)
    -- a card read: 18 and 19, cut off after the version; 18 and 7, a byte before it; 19 and 7, a byte after it
    ∷ row 18 (read_refusal (take 5 turned))
    ∷ row 18 (read_refusal (0 ∷ turned))
    ∷ row 19 (read_refusal (turned ++ (0 ∷ [])))
    -- a card written: 16 and 20, a count, or keys that do not ascend; 7 and 20
    ∷ row 16 (write_refusal (replicate 256 0) (banded_legend (record { bands = replicate 64 blank_band; count = 65 }) no_settings) [])
    ∷ row 16 (write_refusal [] equal_keys [])
    ∷ row 7 (write_refusal (replicate 256 0) backwards [])
    ∷ []
