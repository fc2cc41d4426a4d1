-- A test is true exactly where what it tests holds. Assumes nothing.
use mathlib.Core.Path.{◌≡◌, sym, subst}
use mathlib.Core.Logic.{◌↔◌}
use mathlib.Core.Bool.{Bool, true}
use lib.Dec.{T}
use lib.Ieee.Bits.{is_true}

pub test_is : (b : Bool) {P : Type 0} → T b ↔ P → (b ≡ true) ↔ P
test_is b h = (λ (e : b ≡ true). h.0 (subst T (sym e) tt), λ p. is_true b (h.1 p))
