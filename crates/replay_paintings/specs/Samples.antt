-- The samples of a row and its nodata value, as f32. Definitions only.
use Rattle.std.specs.Prelude.{Option, Some, None, Bool, cond, List, ℕ, ◌/◌, ◌%◌, eqb, Float, get_or, take}
use Rattle.cast.specs.Samples.{of_u8, of_i16}
use Rattle.words.specs.Values.{float_of, short_of, at_most}
use Rattle.replay_rows.specs.Parts.{values_at}

abbrev pub is_given : (row : List ℕ) → Bool
is_given row = eqb (get_or row 4 0 / 8 % 2) 1

-- the number of the samples' type: 0 f32, 1 u8, otherwise i16
abbrev pub sample_type : (row : List ℕ) → ℕ
sample_type row = get_or row 8 0

-- the f32 that a word stands for, by that number
unfoldable pub sample_of : (number word : ℕ) → Float
sample_of number word = cond (eqb number 0) (float_of word) (cond (eqb number 1) (of_u8 (word % 256)) (of_i16 (short_of word)))

abbrev pub nodata_of : (row : List ℕ) → Option Float
nodata_of row = cond (is_given row) (Some (sample_of (sample_type row) (get_or row 7 0))) None

-- the first of the forty samples, by that number; those of a row are as many as it counts
abbrev pub samples_as : (number count : ℕ) → (row : List ℕ) → List Float
samples_as number count row = take count (values_at (sample_of number) 80 40 row)

abbrev pub samples_of : (row : List ℕ) → List Float
samples_of row = samples_as (sample_type row) (at_most (get_or row 9 0) 40) row
