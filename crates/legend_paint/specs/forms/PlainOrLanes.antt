-- A form of the code: painting plainly and in lanes as one, where a lane count of 0 stands for plain painting. That it is `plain_painted` and `lane_painted` is
-- proofs/Lanes.antt (painted-plain, painted-lanes). Definitions only.
use Rattle.std.specs.Prelude.{ℕ, zero, suc, Bool, cond, ◌||◌, List, eqb, Float}
use Rattle.painting.specs.Painted.{plain_painted, lane_painted}
use Rattle.painting.specs.Paintings.{Painter, lane_count}

unfoldable pub painted : Painter → (lanes : ℕ) → List Float → List ℕ
painted p zero xs = plain_painted p.plain xs
painted p (suc l) xs = cond p.simd (lane_painted (suc l) p.chunk p.plain xs) (plain_painted p.plain xs)

abbrev pub plain_or_lanes : ℕ → Bool
plain_or_lanes lanes = eqb lanes 0 || lane_count lanes
