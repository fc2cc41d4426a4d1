-- Painting a whole raster (docs/RULES.md, "Painting"): what output and scratch hold. Definitions only.
-- A legend hands in its two rules: `plain`, the colour of one sample, and `chunk`, the colours of a chunk of samples.
use Rattle.std.specs.Prelude.{cond, List, map, ◌++◌, ℕ, zero, suc, ◌*◌, ◌-◌, ◌/◌, ltb, Float, length, take, drop}

-- plainly: sample by sample
abbrev pub plain_painted : (plain : Float → ℕ) → List Float → List ℕ
plain_painted plain xs = map plain xs

-- k chunks of L samples by the chunk rule, then the rest plainly
unfoldable pub chunked : (k L : ℕ) (chunk : List Float → List ℕ) (plain : Float → ℕ) → List Float → List ℕ
chunked zero L chunk plain xs = map plain xs
chunked (suc k) L chunk plain xs = chunk (take L xs) ++ chunked k L chunk plain (drop L xs)

-- in lanes: the full chunks are the first L × (n div L) pixels
abbrev pub full : (L n : ℕ) → ℕ
full L n = n / L * L

unfoldable pub lane_painted : (L : ℕ) (chunk : List Float → List ℕ) (plain : Float → ℕ) → List Float → List ℕ
lane_painted L chunk plain xs = chunked (length xs / L) L chunk plain xs

-- scratch after lane painting: the last full chunk's colours, then what it held; all that it held where there is no full chunk
unfoldable pub scratch_after : (L : ℕ) (painted before : List ℕ) → List ℕ
scratch_after L painted before = cond (ltb (length painted) L) before (take L (drop (length painted / L * L - L) painted) ++ drop L before)
