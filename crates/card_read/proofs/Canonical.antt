-- What the test of a bound's word says. Assumes nothing.
use Prim.Native.Nat.{ℕ, ◌%◌, ◌<◌, ◌≤◌}
use mathlib.Core.Path.{◌≡◌, refl, sym, ap, ◌∙◌}
use mathlib.Core.Bool.{Bool, true, false, not, ◌||◌}
use borrow.Author.Tests.{leb-true, leb-false, le-ltb, lt-ltb}
use lib.Dec.{leb, ltb, eqb}
use lib.Ieee.{binary32}
use lib.Ieee.Bits.{nan_bits_above}
use Rattle.card_layout.specs.Entries.{canonical}

-- at most is not above
at_most : (a b : ℕ) → leb a b ≡ not (ltb b a)
at_most a b = go (leb a b) (leb-true a b) (leb-false a b)
  where
    go : (t : Bool) → (t ≡ true → a ≤ b) → (t ≡ false → b < a) → t ≡ not (ltb b a)
    go true y n = sym (ap not (le-ltb b a (y refl)))
    go false y n = sym (ap not (lt-ltb b a (n refl)))

pub canonical_test : (bits : ℕ) → (eqb bits 0x7FC00000 || leb (bits % 0x80000000) 0x7F800000) ≡ canonical bits
unfolding canonical
canonical_test bits =
    ap (λ (t : Bool). eqb bits 0x7FC00000 || t) (at_most (bits % 0x80000000) 0x7F800000 ∙ ap not (sym (nan_bits_above binary32 bits)))
