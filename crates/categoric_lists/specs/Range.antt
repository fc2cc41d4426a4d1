-- The keys of a range of whole numbers (docs/RULES.md, "Categoric" and "Where each call says no"). Definitions only.
use Rattle.std.specs.Prelude.{ℕ, Bool, false, not, ◌&&◌, List, eqb, ℤ, pos, negsuc, ◌+ℤ◌, ◌-ℤ◌}
use Rattle.std.specs.Int.Signed.{le_z}
use Rattle.lists.specs.Tabulate.{tabulate}
use Rattle.categoric_lists.specs.Whole.{whole}

-- end - start + 1, below 1 where the end is below the start
abbrev pub range_count : (start end : ℤ) → ℤ
range_count start end = end -ℤ start +ℤ pos 1

-- from -2^63 to 2^63 - 1
abbrev pub in_i64 : ℤ → Bool
in_i64 z = le_z (negsuc 9223372036854775807) z && le_z z (pos 9223372036854775807)

-- end - start, or that plus 1, does not fit i64
unfoldable pub too_wide : (start end : ℤ) → Bool
too_wide start end = not (in_i64 (end -ℤ start) && in_i64 (range_count start end))

-- whether a count is how many are given; one below 0 never is
abbrev pub count_is : (count : ℤ) (given : ℕ) → Bool
count_is (pos n) given = eqb n given
count_is (negsuc n) given = false

-- start, start + 1, .. up to end
unfoldable pub range_keys : (start end : ℤ) → List ℤ
range_keys start end = tabulate (whole (range_count start end)) (λ k. start +ℤ pos k)
