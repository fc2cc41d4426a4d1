-- Keys in order (docs/RULES.md, "Categoric"). Definitions only.
use Rattle.std.specs.Prelude.{ℕ, zero, suc, Bool, true, ◌&&◌, List, ℤ, pos, get_or}
use Rattle.std.specs.Int.Signed.{lt_z}

-- each of the first n keys is below the next of them
unfoldable pub ascends : (keys : List ℤ) (n : ℕ) → Bool
ascends keys zero = true
ascends keys (suc zero) = true
ascends keys (suc (suc n)) = ascends keys (suc n) && lt_z (get_or keys n (pos 0)) (get_or keys (suc n) (pos 0))
