-- The values that words of bits stand for, and the words of values: bytes, floats and whole numbers. Definitions only.
use Rattle.std.specs.Prelude.{cond, List, ℕ, ◌+◌, ◌*◌, ◌-◌, ◌/◌, ◌%◌, ltb, ℤ, pos, negsuc, Float, get_or}
use Rattle.std.specs.Float.{binary32, nan}
use Rattle.std.specs.Float.Ieee.{of_bits, to_bits}

-- bytes, the lowest first
abbrev pub word_as_number : (a b c d : ℕ) → ℕ
word_as_number a b c d = a + 256 * b + 65536 * c + 16777216 * d

abbrev pub word_at : List ℕ → ℕ → ℕ
word_at bytes i = word_as_number (get_or bytes (4 * i) 0) (get_or bytes (4 * i + 1) 0) (get_or bytes (4 * i + 2) 0) (get_or bytes (4 * i + 3) 0)

-- a float's bits; every pattern of a NaN is the one NaN, whose own is 7FC00000
unfoldable pub float_of : ℕ → Float
float_of word = cond (ltb 2139095040 (word % 2147483648)) nan (of_bits binary32 word)

unfoldable pub bits_of : Float → ℕ
bits_of x = to_bits binary32 x

-- two's complement: of the low half of a word, and of a word (negsuc n is -(n + 1)), ..
unfoldable pub short_of : ℕ → ℤ
short_of word =
    let half = word % 65536 in
    cond (ltb half 32768) (pos half) (negsuc (65535 - half))

unfoldable pub whole_of : ℕ → ℤ
whole_of word = cond (ltb word 2147483648) (pos word) (negsuc (4294967295 - word))

-- of 64 bits, and those bits of a whole number
unfoldable pub signed_of : ℕ → ℤ
signed_of bits = cond (ltb bits 9223372036854775808) (pos bits) (negsuc (18446744073709551615 - bits))

abbrev pub unsigned_of : ℤ → ℕ
unsigned_of (pos n) = n
unsigned_of (negsuc n) = 18446744073709551615 - n

-- a whole number's low and high word
abbrev pub low_of : ℤ → ℕ
low_of (pos n) = n % 4294967296
low_of (negsuc n) = 4294967295 - n % 4294967296

abbrev pub high_of : ℤ → ℕ
high_of (pos n) = n / 4294967296
high_of (negsuc n) = 4294967295 - n / 4294967296

-- the smaller of the two
abbrev pub at_most : (word most : ℕ) → ℕ
at_most word most = cond (ltb word most) word most
