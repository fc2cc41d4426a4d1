-- The library's sum, difference, product, quotient and negation meet the definitions of `Operations` on every operand, in both formats. Assumes nothing.
use mathlib.Core.Path.{◌≡◌, refl, sym, ap, ◌∙◌, subst}
use Prim.Native.Nat.{ℕ, zero, suc, ◌*◌}
use native.Mathlib.Nat.{mul-pos, zero-lt-suc}
use mathlib.Core.Bool.{Bool, true, false, cond}
use lib.IntN.{ℤ}
use lib.Dec.{eqb, eqb-suc-zero}
use lib.Ieee.{Float, nan, inf, fin, Format, up, down, unlike, round, neg, add, sub, mul, div}
use lib.Ieee.Fits.{up_pos, down_pos}
use Rattle.floats.specs.Formats.{parameters}
use Rattle.floats.specs.Operations.{Adds, opposite, Subtracts, Multiplies, Divides}
use Rattle.floats.proofs.Sums.{sums, add_is}
use Rattle.floats.proofs.RoundingLaw.{rounds_by}

-- ---- sums
pub add_meets : (f : Format) (x y : Float) → Adds (parameters f) x y (add f x y)
add_meets f nan y = unfold add in refl
add_meets f (inf s) nan = unfold add in refl
add_meets f (inf true) (inf true) = unfold add in refl
add_meets f (inf true) (inf false) = unfold add in refl
add_meets f (inf false) (inf true) = unfold add in refl
add_meets f (inf false) (inf false) = unfold add in refl
add_meets f (inf s) (fin t n d) = unfold add in refl
add_meets f (fin s m e) nan = unfold add in refl
add_meets f (fin s m e) (inf t) = unfold add in refl
add_meets f (fin s m e) (fin t n d) =
    let z = sums f s (m * up e * down d) t (n * up d * down e) (down e * down d) in
    (z.0, z.1, z.2, rounds_by f (mul-pos (down_pos e) (down_pos d)) (add_is f s m e t n d ∙ z.3))

-- ---- negation
pub neg_meets : (y : Float) → neg y ≡ opposite y
unfolding neg
neg_meets nan = refl
neg_meets (inf s) = refl
neg_meets (fin s m e) = refl

-- ---- differences
pub sub_is : (f : Format) (x y : Float) → sub f x y ≡ add f x (neg y)
unfolding sub
sub_is f x y = refl

pub sub_meets : (f : Format) (x y : Float) → Subtracts (parameters f) x y (sub f x y)
sub_meets f x y = subst (λ (r : Float). Subtracts (parameters f) x y r) (sym (sub_is f x y ∙ ap (add f x) (neg_meets y))) (add_meets f x (opposite y))

-- ---- products
mul_is : (f : Format) (s : Bool) (m : ℕ) (e : ℤ) (t : Bool) (n : ℕ) (d : ℤ)
    → mul f (fin s m e) (fin t n d) ≡ round f (unlike s t) (m * up e * (n * up d)) (down e * down d)
unfolding mul
mul_is f s m e t n d = refl

pub mul_meets : (f : Format) (x y : Float) → Multiplies (parameters f) x y (mul f x y)
mul_meets f nan y = unfold mul in refl
mul_meets f (inf s) nan = unfold mul in refl
mul_meets f (inf s) (inf t) = unfold mul in refl
mul_meets f (inf s) (fin t zero d) = unfold mul in refl
mul_meets f (inf s) (fin t (suc n) d) = unfold mul in ap (λ (b : Bool). cond b nan (inf (unlike s t))) (eqb-suc-zero n)
mul_meets f (fin s m e) nan = unfold mul in refl
mul_meets f (fin s zero e) (inf t) = unfold mul in refl
mul_meets f (fin s (suc m) e) (inf t) = unfold mul in ap (λ (b : Bool). cond b nan (inf (unlike s t))) (eqb-suc-zero m)
mul_meets f (fin s m e) (fin t n d) = rounds_by f (mul-pos (down_pos e) (down_pos d)) (mul_is f s m e t n d)

-- ---- quotients
div_is : (f : Format) (s : Bool) (m : ℕ) (e : ℤ) (t : Bool) (n : ℕ) (d : ℤ)
    → div f (fin s m e) (fin t (suc n) d) ≡ round f (unlike s t) (m * up e * down d) (suc n * up d * down e)
unfolding div
div_is f s m e t n d =
    let r = round f (unlike s t) (m * up e * down d) (suc n * up d * down e) in
    ap (λ (b : Bool). cond b (cond (eqb m 0) nan (inf (unlike s t))) r) (eqb-suc-zero n)

pub div_meets : (f : Format) (x y : Float) → Divides (parameters f) x y (div f x y)
div_meets f nan y = unfold div in refl
div_meets f (inf s) nan = unfold div in refl
div_meets f (inf s) (inf t) = unfold div in refl
div_meets f (inf s) (fin t n d) = unfold div in refl
div_meets f (fin s m e) nan = unfold div in refl
div_meets f (fin s m e) (inf t) = unfold div in (refl, refl)
div_meets f (fin s zero e) (fin t zero d) = unfold div in refl
div_meets f (fin s (suc m) e) (fin t zero d) = unfold div in ap (λ (b : Bool). cond b nan (inf (unlike s t))) (eqb-suc-zero m)
div_meets f (fin s m e) (fin t (suc n) d) = rounds_by f (mul-pos (mul-pos (zero-lt-suc n) (up_pos d)) (down_pos e)) (div_is f s m e t n d)
