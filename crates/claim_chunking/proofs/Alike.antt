-- Samples that are the same number are one float, or both are zeros. Assumes nothing.
use mathlib.Core.Path.{◌≡◌, refl, sym, ap, ◌∙◌, subst, subst₂}
use mathlib.Core.Logic.{◌⊎◌, inl, inr}
use mathlib.Core.Bool.{Bool, true, false, ◌||◌, ◌&&◌, beq}
use Prim.Native.Nat.{ℕ, zero, suc, ◌*◌}
use lib.Dec.{T, eqb, eqb→eq}
use lib.IntN.{ℤ, pos}
use lib.Ieee.{Float, nan, inf, fin, binary32, up, down, fits, eq, is_nan}
use Rattle.floats.proofs.Order.{eq_sym, eq_r}
use Rattle.floats.proofs.Same.{eq→same, zero_exponent}
use Rattle.floats.proofs.ComparisonLaw.{eq_meets}
use Rattle.claim_chunking.specs.Rule.{SameSample}

pub data Alike : Float → Float → Type 0 where
  one : {x : Float} → Alike x x
  zeros : (s t : Bool) → Alike (fin s 0 (pos 0)) (fin t 0 (pos 0))

pub alike_of : {x y : Float} → x ≡ y → Alike x y
alike_of {x} e = subst (Alike x) e one

is_zero : (s : Bool) (e : ℤ) → T (fits binary32 (fin s 0 e)) → fin s 0 e ≡ fin s 0 (pos 0)
unfolding fits
is_zero s e f = ap (fin s 0) (zero_exponent e (eqb→eq (up e * down e) 1 f))

-- equal numbers that are f32s
of_equal : (x y : Float) → T (fits binary32 x) → T (fits binary32 y) → T (eq x y) → Alike x y
of_equal x nan f g h = absurd (unfold is_nan in eq_r x nan h)
of_equal nan (inf t) f g h = absurd (unfold eq in h)
of_equal (inf true) (inf true) f g h = one
of_equal (inf true) (inf false) f g h = absurd (unfold eq in h)
of_equal (inf false) (inf true) f g h = absurd (unfold eq in h)
of_equal (inf false) (inf false) f g h = one
of_equal (fin s m e) (inf t) f g h = absurd (unfold eq in h)
of_equal x (fin t (suc n) d) f g h = alike_of (eq→same binary32 x t n d f g h)
of_equal nan (fin t zero d) f g h = absurd (unfold eq in h)
of_equal (inf s) (fin t zero d) f g h = absurd (unfold eq in h)
of_equal (fin s zero e) (fin t zero d) f g h = subst₂ Alike (sym (is_zero s e f)) (sym (is_zero t d g)) (zeros s t)
of_equal (fin s (suc m) e) (fin t zero d) f g h = alike_of (sym (eq→same binary32 (fin t zero d) s m e g f (eq_sym (fin s (suc m) e) (fin t zero d) h)))

pub alike : (x y : Float) → T (fits binary32 x) → T (fits binary32 y) → SameSample x y → Alike x y
alike x y f g (inl e) = of_equal x y f g ((eq_meets x y).1 e)
alike x y f g (inr e) = alike_of (e.0 ∙ sym e.1)
