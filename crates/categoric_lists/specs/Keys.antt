-- Which keys are refused (docs/RULES.md, "Where each call says no", 17). Definitions only.
use Rattle.std.specs.Prelude.{ℕ, suc, Bool, ◌||◌, List, [], ◌∷◌, ℤ, pos, negsuc}
use Rattle.refusal.specs.Outcome.{Answer, Done, refuse_if}
use Rattle.std.specs.Int.Signed.{lt_z}
use Rattle.refusal.specs.declared.Refusal.TheVariants.{KeyOutOfRange}

-- outside -16,777,216 to 16,777,216 (negsuc n is -(n + 1))
abbrev pub outside : ℤ → Bool
outside key = lt_z key (negsuc 16777215) || lt_z (pos 16777216) key

-- the first key outside, counted from i
unfoldable pub outside_from : (i : ℕ) (keys : List ℤ) → Answer
outside_from i [] = Done
outside_from i (k ∷ ks) = refuse_if (outside k) (KeyOutOfRange i) (outside_from (suc i) ks)

abbrev pub keys_refusal : List ℤ → Answer
keys_refusal keys = outside_from 0 keys
