-- A form of the code: the bit pattern of an f32, by its exponent's field. That the whole part read off it is `truncated` is proofs/Bits.antt (small, middle,
-- edge, large). Definitions only.
use Rattle.std.specs.Prelude.{ℕ, ◌+◌, ◌-◌, ◌*◌, ◌/◌, ◌%◌, ◌^◌}

abbrev pub field : ℕ → ℕ
field b = b / 2 ^ 23 % 2 ^ 8

-- the size is the 24 digits * 2 ^ (field - 150)
abbrev pub whole_part : ℕ → ℕ
whole_part b = (2 ^ 23 + b % 2 ^ 23) * 2 ^ (field b - 1) / 2 ^ 149
