-- Painting in whole chunks of L samples, counted: the invariant after k of them, each turn and the end. Assumes nothing.
use mathlib.Core.Path.{◌≡◌, subst}
use mathlib.Core.List.{List, ◌++◌, map}
use Prim.Native.Nat.{ℕ, ◌+◌, ◌*◌, ◌/◌, ◌≤◌, ◌<◌}
use native.Mathlib.Nat.{le-div_iff_mul-le}
use native.Mathlib.Omega.{arith}
use lib.Ieee.{Float}
use lib.ListN.{length, take, drop}
use Rattle.painting.specs.Painted.{lane_painted}
use Rattle.painting.specs.forms.ChunkOver.{chunk_over}
use Rattle.painting.proofs.Steps.{InChunks, chunk_turn, chunks-end}

-- chunk k lies within n samples, and less than a chunk is left after all of them
pub chunk_within : (L n k : ℕ) → 0 < L → k < n / L → L * k + L ≤ n
chunk_within L n k p h = let m : (k + 1) * L ≤ n = (le-div_iff_mul-le p).0 (omega (arith, h)) in omega (arith, m)

pub chunks_left : (L n : ℕ) → 0 < L → (L * (n / L) ≤ n) × (n < L * (n / L) + L)
chunks_left L n p = (omega arith, omega arith)

module _ {L : ℕ} {chunk : List Float → List ℕ} {plain : Float → ℕ} {xs : List Float} {k : ℕ} {out : List ℕ} where
  pub counted_turn : {out' : List ℕ} → InChunks L chunk plain xs (L * k) out → 0 < L → k < length xs / L → ((c : List Float) → length (chunk c) ≡ length c)
      → out' ≡ chunk_over chunk xs out (L * k) L → InChunks L chunk plain xs (L * (k + 1)) out'
  counted_turn {out'} g p h l e =
      let next : L * k + L ≡ L * (k + 1) = omega arith in
      subst (λ (i : ℕ). InChunks L chunk plain xs i out') next (chunk_turn g p (chunk_within L (length xs) k p h) l e)

  pub counted-end : InChunks L chunk plain xs (L * k) out → 0 < L → k ≡ length xs / L → take (L * (length xs / L)) out ++ map plain (drop (L * (length xs / L)) xs)
      ≡ lane_painted L chunk plain xs
  counted-end g p e =
      chunks-end (subst (λ (j : ℕ). InChunks L chunk plain xs (L * j) out) e g) (chunks_left L (length xs) p).1
