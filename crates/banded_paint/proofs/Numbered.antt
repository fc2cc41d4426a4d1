-- A loop over the numbers of the whole chunks of L samples: chunk k begins at L * k. Its room, its first turn, each turn and the end. Assumes nothing.
use mathlib.Core.Path.{◌≡◌, subst}
use mathlib.Core.List.{List, ◌++◌, map}
use Prim.Native.Nat.{ℕ, ◌+◌, ◌*◌, ◌/◌, ◌≤◌, ◌<◌}
use native.Mathlib.Nat.{mul-le-mul_left}
use native.Mathlib.Omega.{arith}
use lib.Ieee.{Float}
use lib.ListN.{length, take, drop}
use Rattle.painting.specs.Painted.{lane_painted}
use Rattle.painting.specs.forms.ChunkOver.{chunk_over}
use Rattle.painting.proofs.Steps.{InChunks, chunks_start, chunk_turn, chunks-end}

pub chunk_room : (L n k : ℕ) → 0 < L → k < n / L → L * k + L ≤ n
chunk_room L n k p h = let next : k + 1 ≤ n / L = omega arith in omega (arith, mul-le-mul_left L next)

module _ {L : ℕ} {chunk : List Float → List ℕ} {plain : Float → ℕ} {xs : List Float} where
  pub numbered_start : {out : List ℕ} → length out ≡ length xs → InChunks L chunk plain xs (L * 0) out
  numbered_start {out} e = let none : 0 ≡ L * 0 = omega arith in subst (λ (i : ℕ). InChunks L chunk plain xs i out) none (chunks_start e)

  pub numbered_turn : {k : ℕ} {out out' : List ℕ} → InChunks L chunk plain xs (L * k) out → out' ≡ chunk_over chunk xs out (L * k) L
      → ((c : List Float) → length (chunk c) ≡ length c) → 0 < L → k < length xs / L → InChunks L chunk plain xs (L * (k + 1)) out'
  numbered_turn {k} {out' = out'} g e l p h =
      let next : L * k + L ≡ L * (k + 1) = omega arith in
      subst (λ (i : ℕ). InChunks L chunk plain xs i out') next (chunk_turn g p (chunk_room L (length xs) k p h) l e)

  pub numbered_end : {k : ℕ} {out : List ℕ} → InChunks L chunk plain xs (L * k) out → 0 < L → k ≡ length xs / L
      → take (L * (length xs / L)) out ++ map plain (drop (L * (length xs / L)) xs) ≡ lane_painted L chunk plain xs
  numbered_end {out = out} g p e = chunks-end (subst (λ (j : ℕ). InChunks L chunk plain xs (L * j) out) e g) (omega arith)
