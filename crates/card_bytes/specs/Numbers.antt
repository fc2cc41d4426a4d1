-- Numbers in bytes, the lowest byte first, and bytes laid over a buffer (docs/RULES.md, "Cards"). Definitions only.
use Rattle.std.specs.Prelude.{ℕ, zero, suc, ◌+◌, ◌*◌, ◌/◌, ◌%◌, ◌<◌, List, [], ◌∷◌, ◌++◌, length, take, drop}

-- each is below 256
unfoldable pub Bytes : List ℕ → Type 0
Bytes [] = Unit {0}
Bytes (b ∷ bs) = (b < 256) × Bytes bs

-- a number in w bytes
unfoldable pub bytes_of : (w n : ℕ) → List ℕ
bytes_of zero n = []
bytes_of (suc w) n = n % 256 ∷ bytes_of w (n / 256)

-- the number that some bytes stand for
unfoldable pub number_in : List ℕ → ℕ
number_in [] = 0
number_in (b ∷ bs) = b + 256 * number_in bs

-- that of the w bytes from a place on
unfoldable pub number_at : (at w : ℕ) (bytes : List ℕ) → ℕ
number_at at w bytes = number_in (take w (drop at bytes))

-- bytes laid over those of a buffer, from a place on
unfoldable pub overwritten : (at : ℕ) (bytes buffer : List ℕ) → List ℕ
overwritten at bytes buffer = take at buffer ++ bytes ++ drop (at + length bytes) buffer
