-- The whole contracts of the two paintings, for every legend and every sample type: the answer, the output and the scratch, for every input. Definitions only.
use Rattle.std.specs.Prelude.{◌≡◌, Bool, cond, not, ◌||◌, List, ℕ, ltb, eqb, Float, length}
use Rattle.refusal.specs.Outcome.{Answer, Done, refuse_if, if_done, first_of}
use Rattle.refusal.specs.declared.Refusal.TheVariants.{OutputLengthDiffers, NoSuchLaneCount, ScratchTooShort}
use Rattle.painting.specs.Painted.{plain_painted, lane_painted, scratch_after}

-- 13 output length differs from raster length
abbrev pub length_refusal : (raster out : ℕ) → Answer
length_refusal raster out = refuse_if (not (eqb out raster)) OutputLengthDiffers Done

-- 16, by the legend's record; 13
unfoldable pub plain_refusal : (stored : Answer) (raster out : ℕ) → Answer
plain_refusal stored raster out = first_of stored (length_refusal raster out)

abbrev pub lane_count : ℕ → Bool
lane_count L = (eqb L 4 || eqb L 8) || eqb L 16

-- 16; 14 lane count not 4, 8 or 16; 15 scratch below 16 words; 13
unfoldable pub lane_refusal : (stored : Answer) (L scratch raster out : ℕ) → Answer
lane_refusal stored L scratch raster out =
    first_of stored (refuse_if (not (lane_count L)) NoSuchLaneCount (refuse_if (ltb scratch 16) ScratchTooShort (length_refusal raster out)))

-- a legend for painting: what its stored record is refused by, whether its lanes have a rule of their own, and its two rules
pub record Painter : Type 0 where
  pub stored : Answer
  pub simd : Bool
  pub plain : Float → ℕ
  pub chunk : List Float → List ℕ

-- the same, but what a call's own arguments are refused by comes first
abbrev pub refused_first : Answer → Painter → Painter
refused_first first p = record { stored = first_of first p.stored; simd = p.simd; plain = p.plain; chunk = p.chunk }

-- what a call answers, by the lengths of what it is lent
abbrev pub plain_answer : Painter → (xs : List Float) (out : List ℕ) → Answer
plain_answer p xs out = plain_refusal p.stored (length xs) (length out)

abbrev pub lane_answer : Painter → (L : ℕ) (xs : List Float) (out scratch : List ℕ) → Answer
lane_answer p L xs out scratch = lane_refusal p.stored L (length scratch) (length xs) (length out)

-- xs are the raster's samples as f32; out and scratch what the buffers held, out' and scratch' what they hold after the call
pub record PlainPainting (p : Painter) (xs : List Float) (out : List ℕ) (answer : Answer) (out' : List ℕ) : Type 0 where
  pub answered : answer ≡ plain_answer p xs out
  pub output : out' ≡ if_done answer (plain_painted p.plain xs) out

-- a legend without a rule for lanes is painted plainly, and scratch is unchanged
pub record LanePainting (p : Painter) (L : ℕ) (xs : List Float) (out scratch : List ℕ) (answer : Answer) (out' scratch' : List ℕ) : Type 0 where
  pub answered : answer ≡ lane_answer p L xs out scratch
  pub output : out' ≡ if_done answer (cond p.simd (lane_painted L p.chunk p.plain xs) (plain_painted p.plain xs)) out
  pub scratch_after : scratch' ≡ if_done answer (cond p.simd (scratch_after L out' scratch) scratch) scratch
