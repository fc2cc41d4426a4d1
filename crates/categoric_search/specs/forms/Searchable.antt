-- A form of the code: the keys that the search takes, ascending and within the builders' range (docs/RULES.md, 17), so that they can be narrowed. For these the
-- search gives `key_color` (proofs/Sought.antt, sample_color); others are scanned. Definitions only.
use Rattle.std.specs.Prelude.{ℕ, zero, suc, Bool, true, ◌&&◌, List, ℤ, pos, negsuc, get_or}
use Rattle.std.specs.Int.Signed.{lt_z}
use Rattle.categoric_lists.specs.Ascending.{ascends}

-- from -16,777,216 to 16,777,216 (`negsuc n` is -(n + 1))
unfoldable pub in_key_range : ℤ → Bool
in_key_range z = lt_z (negsuc 16777216) z && lt_z z (pos 16777217)

-- the first and the last of the counted keys
unfoldable pub ends_in_key_range : (keys : List ℤ) (count : ℕ) → Bool
ends_in_key_range keys zero = true
ends_in_key_range keys (suc n) = in_key_range (get_or keys 0 (pos 0)) && in_key_range (get_or keys n (pos 0))

-- and so each of them
unfoldable pub searchable : (keys : List ℤ) (count : ℕ) → Bool
searchable keys count = ascends keys count && ends_in_key_range keys count
