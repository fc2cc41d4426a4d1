-- A form of the code: a sample looked up in a table of `size` words, by the test of the sample and the float whose whole part is the index that the code reads
-- whatever the test says. That the choice is `table_color` is proofs/TableTest.antt (chosen). Definitions only.
use Rattle.std.specs.Prelude.{ℕ, zero, suc, Bool, true, false, cond, ◌&&◌, pos, Float}
use Rattle.std.specs.Float.{fin, binary32}
use Rattle.std.specs.Float.Ieee.{lt, le, ne, of_int}
use Rattle.floats.specs.RampIndex.{nought}
use Rattle.colormapper.specs.declared.Exclusions.{Exclusions}

abbrev pub minus_one : Float
minus_one = fin true 1 (pos 0)

-- the size as a float; above -1 and below the limit of an empty table lies nothing
unfoldable pub size_limit : (size : ℕ) → Float
size_limit zero = minus_one
size_limit (suc n) = of_int binary32 (pos (suc n))

-- above -1 and below the size, so no NaN
unfoldable pub in_table : (size : ℕ) → Float → Bool
in_table size v = lt minus_one v && lt v (size_limit size)

-- in the table and unlike both excluded values
unfoldable pub mappable_in_table : Exclusions → (size : ℕ) → Float → Bool
mappable_in_table e size v = (in_table size v && ne v e.nodata) && ne v e.zero

-- not below 0
abbrev pub at_least_zero : Float → Float
at_least_zero x = cond (lt nought x) x nought

-- the sample itself from 0 to below the size, else 0
unfoldable pub clamp : (size : ℕ) → Float → Float
clamp size v = at_least_zero (cond (lt v (size_limit size)) v nought)

-- from 0 to below 513, which is the number of an array's words
abbrev pub array_end : Float
array_end = fin false 513 (pos 0)

unfoldable pub is_index : Float → Bool
is_index x = le nought x && lt x array_end
