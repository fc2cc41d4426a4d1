-- The twelve examples of docs/RULES.md, in one table. Each row asks the definitions for a number: a colour's word, or a count. Definitions only.
use Rattle.std.specs.Prelude.{None, Result, Ok, Err, Bool, true, ◌&&◌, List, [], ◌∷◌, ℕ, eqb, ℤ, pos, negsuc, Float, get_or}
use Rattle.refusal.specs.declared.Refusal.{Refusal}
use Rattle.color.specs.declared.Color.{Color}
use Rattle.std.specs.Float.{nan}
use Rattle.std.specs.Float.Ieee.{neg}
use Rattle.lists.specs.Tabulate.{tabulate}
use Rattle.floats.specs.RampIndex.{exception_fraction}
use Rattle.refusal.specs.Outcome.{made_or}
use Rattle.refusal.specs.Table.{number_of}
use Rattle.color.specs.Word.{word_of}
use Rattle.color.specs.Hex.{hex_color}
use Rattle.lookup.specs.Entries.{plain_entry, lane_entry, entry_color}
use Rattle.colormap.specs.Positions.{ramp_colors}
use Rattle.colormapper.specs.declared.UnmappableColors.{UnmappableColors}
use Rattle.colormapper.specs.Tolerance.{E}
use Rattle.colormapper.specs.Unmappable.{unmappable}
use Rattle.painting.specs.Masked.{masked_color}
use Rattle.linear_rule.specs.Rule as linear
use Rattle.banded_columns.specs.declared.LegendBand.{LegendBand}
use Rattle.banded_rule.specs.PlainRule as bands
use Rattle.banded_lanes.specs.LaneRule.{lane_colors}
use Rattle.banded_lists.specs.Padded.{blank_band}
use Rattle.banded.specs.declared.Banded.{Banded}
use Rattle.banded.specs.Record.{banded_of}
use Rattle.banded.specs.EqualBands.{with_equal_bands}
use Rattle.categoric_keys.specs.Rule as categories
use Rattle.catgegoric.specs.declared.CategoricNumeric.{CategoricNumeric}
use Rattle.catgegoric.specs.Made.{for_values, empty_categoric}
use Rattle.claim_examples.specs.Decimals.{integer, decimal}

-- G is the ramp whose entry i is i, i, i, 255
unfoldable pub gray : ℕ → ℕ
gray i = word_of (record { r = i; g = i; b = i; a = 255 })

unfoldable pub G : List ℕ
G = tabulate 256 gray

-- colours that stand for themselves
abbrev pub TRANSPARENT : ℕ
TRANSPARENT = 0

abbrev pub A : ℕ
A = 101

abbrev pub B : ℕ
B = 102

abbrev pub nodata : ℕ
nodata = 103

abbrev pub low : ℕ
low = 104

abbrev pub high : ℕ
high = 105

abbrev pub settings : UnmappableColors
settings = record { nodata = nodata; low = low; high = high }

abbrev pub band : (start end : Float) (color : ℕ) → LegendBand
band start end color = record { start = start; end = end; color = color }

-- what is asked. A text is given by its bytes
pub data Question : Type 0 where
  plain_ramp lane_ramp : (fraction : Float) → Question
  linear_over : (start end value : Float) → Question
  -- a sample plainly, and lane k of a chunk
  bands_at : List LegendBand → (value : Float) → Question
  chunk_at : List LegendBand → (values : List Float) (k : ℕ) → Question
  -- the colour of band k of `count` equal bands from G
  equal_from_ramp : (count k : ℕ) → Question
  category_at : (keys : List ℤ) (colors : List ℕ) (value : Float) → Question
  category_count table_words : (keys : List ℤ) (colors : List ℕ) → Question
  hex_text : List ℕ → Question
  -- a sample of the linear legend 0 to 255 over G, with zero-is-nodata
  zero_is_nodata : (value : Float) → Question

-- the word of a hex colour; a refusal's number is no word of an opaque colour
abbrev pub hex_word_or_number : Result Color Refusal → ℕ
hex_word_or_number (Ok color) = word_of color
hex_word_or_number (Err why) = number_of why

-- what the builders make, else the empty records
abbrev pub equal_bands_from_ramp : (count : ℕ) → Banded
equal_bands_from_ramp count = made_or (with_equal_bands count (integer 0) (integer 1) (ramp_colors count G)) (banded_of [])

abbrev pub categories_for : (keys : List ℤ) (colors : List ℕ) → CategoricNumeric
categories_for keys colors = made_or (for_values keys colors) empty_categoric

unfoldable pub category_of : CategoricNumeric → Float → ℕ
category_of m v = categories.plain_color m.keys m.colors m.count m.lookup m.lookup_count nodata v

unfoldable pub example_word : Question → ℕ
example_word (plain_ramp fraction) = entry_color G (plain_entry fraction)
example_word (lane_ramp fraction) = entry_color G (lane_entry fraction)
example_word (linear_over start end value) = linear.plain_color G start end settings value
example_word (bands_at bs value) = bands.plain_color bs settings value
example_word (chunk_at bs values k) = get_or (lane_colors bs settings values) k 0
example_word (equal_from_ramp count k) = (get_or (equal_bands_from_ramp count).bands k blank_band).color
example_word (category_at keys colors value) = category_of (categories_for keys colors) value
example_word (category_count keys colors) = (categories_for keys colors).count
example_word (table_words keys colors) = (categories_for keys colors).lookup_count
example_word (hex_text text) = hex_word_or_number (hex_color text)
example_word (zero_is_nodata value) = masked_color (unmappable None true) nodata (linear.plain_color G (integer 0) (integer 255) settings) value

pub record Example : Type 0 where
  pub line : ℕ
  pub question : Question
  pub answer : ℕ

abbrev row : ℕ → Question → ℕ → Example
row line question answer = record { line = line; question = question; answer = answer }

-- bands 0 to 1 (A) and 2 to 3 (B)
abbrev gapped : List LegendBand
gapped = band (integer 0) (integer 1) A ∷ band (integer 2) (integer 3) B ∷ []

-- bands 0 to 0.00005 (A) and 0.00005 to 1 (B)
abbrev narrow : List LegendBand
narrow = band (integer 0) (decimal 5 100_000) A ∷ band (decimal 5 100_000) (integer 1) B ∷ []

-- two keys with the colours A and B
abbrev two : List ℕ
two = A ∷ B ∷ []

unfoldable pub examples : List Example
examples =
    -- 0.5
    row 1 (plain_ramp (decimal 5 10)) (gray 128)
    ∷ row 1 (lane_ramp (decimal 5 10)) (gray 128)
    ∷ row 2 (plain_ramp exception_fraction) (gray 0)
    ∷ row 2 (lane_ramp exception_fraction) (gray 1)
    -- 1 and a NaN
    ∷ row 3 (plain_ramp (integer 1)) (gray 255)
    ∷ row 3 (lane_ramp (integer 1)) (gray 255)
    ∷ row 3 (plain_ramp nan) TRANSPARENT
    ∷ row 3 (lane_ramp nan) TRANSPARENT
    -- 0 to 255: -E and -0.0002
    ∷ row 4 (linear_over (integer 0) (integer 255) (neg E)) (gray 0)
    ∷ row 4 (linear_over (integer 0) (integer 255) (neg (decimal 2 10_000))) low
    -- 5 to 5: 5
    ∷ row 5 (linear_over (integer 5) (integer 5) (integer 5)) (gray 0)
    -- 0, 1, 3, 3.5, -0.5
    ∷ row 6 (bands_at gapped (integer 0)) A
    ∷ row 6 (bands_at gapped (integer 1)) nodata
    ∷ row 6 (bands_at gapped (integer 3)) B
    ∷ row 6 (bands_at gapped (decimal 35 10)) high
    ∷ row 6 (bands_at gapped (neg (decimal 5 10))) low
    -- 0.00006: plainly, in a chunk with 7.0, in a chunk wholly inside
    ∷ row 7 (bands_at narrow (decimal 6 100_000)) B
    ∷ row 7 (chunk_at narrow ((decimal 6 100_000) ∷ (integer 7) ∷ (decimal 6 100_000) ∷ (decimal 6 100_000) ∷ []) 0) A
    ∷ row 7 (chunk_at narrow ((decimal 6 100_000) ∷ (decimal 5 10) ∷ (decimal 6 100_000) ∷ (decimal 6 100_000) ∷ []) 0) B
    ∷ row 8 (equal_from_ramp 11 10) TRANSPARENT
    -- 3, -0.5, 5.9, 6
    ∷ row 9 (category_at (pos 2 ∷ pos 5 ∷ []) two (integer 3)) TRANSPARENT
    ∷ row 9 (category_at (pos 2 ∷ pos 5 ∷ []) two (neg (decimal 5 10))) TRANSPARENT
    ∷ row 9 (category_at (pos 2 ∷ pos 5 ∷ []) two (decimal 59 10)) B
    ∷ row 9 (category_at (pos 2 ∷ pos 5 ∷ []) two (integer 6)) nodata
    -- 3, -1.5
    ∷ row 10 (category_at (negsuc 0 ∷ pos 5 ∷ []) two (integer 3)) nodata
    ∷ row 10 (category_at (negsuc 0 ∷ pos 5 ∷ []) two (neg (decimal 15 10))) A
    -- 7
    ∷ row 11 (category_count (pos 7 ∷ pos 7 ∷ []) two) 1
    ∷ row 11 (category_at (pos 7 ∷ pos 7 ∷ []) two (integer 7)) B
    ∷ row 11 (table_words (pos 1 ∷ pos 512 ∷ []) two) 513
    ∷ row 11 (table_words (pos 1 ∷ pos 513 ∷ []) two) 0
    -- #+F0000, and -0.0
    ∷ row 12 (hex_text (35 ∷ 43 ∷ 70 ∷ 48 ∷ 48 ∷ 48 ∷ 48 ∷ [])) (word_of (record { r = 15; g = 0; b = 0; a = 255 }))
    ∷ row 12 (zero_is_nodata (neg (integer 0))) nodata
    ∷ []

-- each row holds
unfoldable pub all_examples_hold : List Example → Bool
all_examples_hold [] = true
all_examples_hold (e ∷ es) = eqb (example_word e.question) e.answer && all_examples_hold es
