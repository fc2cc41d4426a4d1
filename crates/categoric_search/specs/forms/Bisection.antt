-- A form of the code: the search among 256 ascending numbers, a first step and five bisections. That it gives `key_color` is proofs/Sought.antt (sample_color).
-- Definitions only.
use Rattle.std.specs.Prelude.{ℕ, ◌+◌, ◌*◌, ◌≤◌, ◌<◌, cond, List, Float, ℤ, pos, get_or}
use Rattle.std.specs.Int.Signed.{le_z}
use mir.Val.{bool_byte}
use Rattle.cast.specs.Truncated.{truncated}
use Rattle.categoric_keys.specs.Rule.{eq_z}
use Rattle.categoric_search.specs.forms.Narrow.{narrow_key}

-- 1 where the number at an index is not above z
abbrev pub reaches : (narrow : List ℤ) (z : ℤ) (index : ℕ) → ℕ
reaches narrow z index = bool_byte (le_z (get_or narrow index (pos 0)) z)

-- the first of the 32 indices among which z can be: as many times 32 as the numbers at every thirty-second index that are not above z
unfoldable pub first_step : (narrow : List ℤ) (z : ℤ) → ℕ
first_step narrow z =
    let r = reaches narrow z in
    32 * (r 32 + r 64 + r 96 + r 128 + r 160 + r 192 + r 224)

-- the index, or the one a step further where the number there is not above z
unfoldable pub bisect : (narrow : List ℤ) (step : ℕ) (z : ℤ) (index : ℕ) → ℕ
bisect narrow step z index = index + step * reaches narrow z (index + step)

-- where the search for z ends: after the first step and five halvings
unfoldable pub searched : (narrow : List ℤ) (z : ℤ) → ℕ
searched narrow z =
    let h : ℕ → ℕ → ℕ = λ step index. bisect narrow step z index in
    h 1 (h 2 (h 4 (h 8 (h 16 (first_step narrow z)))))

-- the colour at that index where the number there is z, else nodata
unfoldable pub color_at_end : (narrow : List ℤ) (colors : List ℕ) (nodata : ℕ) (z : ℤ) → ℕ
color_at_end narrow colors nodata z =
    let index = searched narrow z in
    cond (eq_z (get_or narrow index (pos 0)) z) (get_or colors index 0) nodata

-- and so a sample's, by its key
abbrev pub search_color : (narrow : List ℤ) (colors : List ℕ) (nodata : ℕ) → Float → ℕ
search_color narrow colors nodata v = color_at_end narrow colors nodata (narrow_key (truncated v))

-- in each of sixteen lanes there are `width` numbers from the lane's index on
abbrev pub Within : (width : ℕ) (indices : List ℕ) → Type 0
Within width indices = (k : ℕ) → k < 16 → get_or indices k 0 + width ≤ 256
