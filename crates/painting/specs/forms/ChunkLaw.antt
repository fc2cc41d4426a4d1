-- What is to be shown of one chunk, so that the chunking rule holds of whole outputs (docs/PROMISES.md, demand 3): proofs/Chunks.antt. Definitions only.
use Rattle.std.specs.Prelude.{◌≡◌, ◌⊎◌, true, List, ℕ, ◌<◌, Float, length, get_or}
use Rattle.std.specs.Float.{nan}
use Rattle.painting.specs.Paintings.{Painter}

-- how the lanes of a legend may differ from its plain rule: which samples count as one, the samples of the exception, and the exception's two colours
pub record Terms : Type 1 where
  pub Alike : Float → Float → Type 0
  pub RoundingException : Float → Type 0
  pub lane-color : ℕ
  pub plain-color : ℕ

-- of a chunk of L samples: as many colours; in each lane the plain colour of its sample, unless it is the exception; at the exception the exception's two
-- colours; and whatever the other lanes hold, one colour for samples that count as one
pub record ChunkLaw (L : ℕ) (chunk : List Float → List ℕ) (plain : Float → ℕ) (t : Terms) : Type 0 where
  pub long : (c : List Float) → length c ≡ L → length (chunk c) ≡ L
  pub lane : (c : List Float) → length c ≡ L → (k : ℕ) → k < L → (get_or (chunk c) k 0 ≡ plain (get_or c k nan)) ⊎ t.RoundingException (get_or c k nan)
  pub exception : (c : List Float) → length c ≡ L → (k : ℕ) → k < L → t.RoundingException (get_or c k nan)
      → (get_or (chunk c) k 0 ≡ t.lane-color) × (plain (get_or c k nan) ≡ t.plain-color)
  pub by_sample : (c d : List Float) → length c ≡ L → length d ≡ L → (k : ℕ) → k < L → t.Alike (get_or c k nan) (get_or d k nan)
      → get_or (chunk c) k 0 ≡ get_or (chunk d) k 0

-- of a legend for painting: the law of a chunk where its lanes have a rule, without which there is no exception; and plainly one colour for samples
-- that count as one
pub record PainterLaw (p : Painter) (L : ℕ) (t : Terms) : Type 0 where
  pub chunks : p.simd ≡ true → ChunkLaw L p.chunk p.plain t
  pub exception-in_lanes : (v : Float) → t.RoundingException v → p.simd ≡ true
  pub plain_by_sample : (v w : Float) → t.Alike v w → p.plain v ≡ p.plain w
