-- A number ±a, negative where its sign is true, by its part above zero and its part below. Definitions only.
use Rattle.std.specs.Prelude.{ℕ, Bool, true, false}

abbrev pub positive : Bool → ℕ → ℕ
positive true a = 0
positive false a = a

abbrev pub negative : Bool → ℕ → ℕ
negative true a = a
negative false a = 0
