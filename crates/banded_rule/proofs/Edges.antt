-- The size of a difference is below E where the difference and its negative are. Assumes nothing.
use Prim.Native.Nat.{ℕ, suc, ◌+◌, ◌*◌, ◌<◌}
use mathlib.Core.Path.{◌≡◌, refl, ap, ◌∙◌}
use mathlib.Core.Bool.{Bool, true, false, ◌&&◌}
use native.Mathlib.Nat.{mul-pos, zero-lt-suc}
use native.Mathlib.Omega.{arith}
use lib.IntN.{ℤ, negsuc}
use lib.Ieee.{Float, nan, inf, fin, binary32, up, down, lt, neg, sub, of_bits}
use lib.Ieee.Fits.{up_pos, down_pos}
use borrow.Author.Tests.{lt-ltb}
use Rattle.floats.specs.Size.{abs}
use Rattle.colormapper.specs.Tolerance.{E, within}

-- a negative number is below a positive one
under : (m : ℕ) (x : ℤ) (n : ℕ) (d : ℤ) → lt (fin true m x) (fin false (suc n) d) ≡ true
unfolding lt
under m x n d =
    let p : 0 < suc n * up d * down x = mul-pos (mul-pos (zero-lt-suc n) (up_pos d)) (down_pos x) in
    lt-ltb 0 (m * up x * down d + suc n * up d * down x) (omega arith)

and_true : (b : Bool) → (b && true) ≡ b
and_true true = refl
and_true false = refl

both : (n : ℕ) (d : ℤ) (x : Float) → (lt x (fin false (suc n) d) && lt (neg x) (fin false (suc n) d)) ≡ lt (abs x) (fin false (suc n) d)
unfolding neg
both n d nan = unfold lt in refl
both n d (inf true) = unfold lt in refl
both n d (inf false) = unfold lt in refl
both n d (fin true m x) = ap (λ (b : Bool). b && lt (fin false m x) (fin false (suc n) d)) (under m x n d)
both n d (fin false m x) =
    ap (λ (b : Bool). lt (fin false m x) (fin false (suc n) d) && b) (under m x n d) ∙ and_true (lt (fin false m x) (fin false (suc n) d))

pub within-is : (edge v : Float) → (lt (sub binary32 v edge) E && lt (neg (sub binary32 v edge)) E) ≡ within edge v
unfolding of_bits
within-is edge v = both 13743894 (negsuc 36) (sub binary32 v edge)
