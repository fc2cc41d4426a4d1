-- A form of the code: an output after one chunk. That all chunks, then the rest, are `lane_painted` is proofs/Steps.antt (chunks-end). Definitions only.
use Rattle.std.specs.Prelude.{List, ◌++◌, ℕ, ◌+◌, Float, take, drop}

-- an output with the colours of the chunk of L samples at i laid over it
unfoldable pub chunk_over : (chunk : List Float → List ℕ) → List Float → List ℕ → (i L : ℕ) → List ℕ
chunk_over chunk xs out i L = take i out ++ chunk (take L (drop i xs)) ++ drop (i + L) out
