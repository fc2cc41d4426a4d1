-- A sample whose fraction has the bits 3B008080 lies between start and end, so it is neither low nor high. Assumes nothing.
use mathlib.Core.Path.{◌≡◌, refl, subst, sym}
use mathlib.Core.Bool.{Bool, true, false, not, cond}
use native.Mathlib.Omega.{arith}
use lib.Dec.{T}
use lib.Ieee.{Float, nan, inf, fin, binary32, neg, add, sub, div, lt, le, is_nan, fits, to_bits}
use Rattle.floats.specs.RampIndex.{nought, one}
use Rattle.floats.proofs.Order.{not_le, le_lt, lt_le, lt_lt, lt_irrefl_float}
use Rattle.interpolate.specs.Fraction.{fraction}
use Rattle.colormapper.specs.Tolerance.{E}
use Rattle.linear_rule.proofs.Edges.{start_moves_down, end_moves_up}

-- ---- where a result is no NaN, no operand is
abbrev real : Float → Bool
real x = not (is_nan x)

sub_real : (x y : Float) → T (real (sub binary32 x y)) → T (real x) × T (real y)
unfolding sub add neg is_nan
sub_real nan y r = absurd r
sub_real (inf s) nan r = absurd r
sub_real (fin s m e) nan r = absurd r
sub_real (inf s) (inf t) r = (tt, tt)
sub_real (inf s) (fin t n d) r = (tt, tt)
sub_real (fin s m e) (inf t) r = (tt, tt)
sub_real (fin s m e) (fin t n d) r = (tt, tt)

div_real : (x y : Float) → T (real (div binary32 x y)) → T (real x) × T (real y)
unfolding div is_nan
div_real nan y r = absurd r
div_real (inf s) nan r = absurd r
div_real (fin s m e) nan r = absurd r
div_real (inf s) (inf t) r = (tt, tt)
div_real (inf s) (fin t n d) r = (tt, tt)
div_real (fin s m e) (inf t) r = (tt, tt)
div_real (fin s m e) (fin t n d) r = (tt, tt)

-- ---- the bits are not those of 0, of 1 or of NaN
quotient : (b c : Bool) (q : Float) → to_bits binary32 (cond b nought (cond c one q)) ≡ 0x3B00_8080 → (b ≡ false) × (c ≡ false) × T (real q)
unfolding to_bits is_nan
quotient true c q h = absurd (omega arith)
quotient false true q h = absurd (omega arith)
quotient false false nan h = absurd (omega arith)
quotient false false (inf s) h = (refl, refl, tt)
quotient false false (fin s m e) h = (refl, refl, tt)

asymmetric : (x y : Float) → T (lt x y) → lt y x ≡ false
asymmetric x y h = go (lt y x) (λ k. lt_irrefl_float x (lt_lt x y x h k))
  where
    go : (b : Bool) → (T b → ⊥) → b ≡ false
    go true n = absurd (n tt)
    go false n = refl

module _ (start end v : Float) (f : T (fits binary32 start)) (g : T (fits binary32 end)) (bits : to_bits binary32 (fraction start end v) ≡ 0x3B00_8080) where
  pub inside : (lt v (sub binary32 start E) ≡ false) × (lt (add binary32 end E) v ≡ false)
  unfolding fraction
  inside =
      let q = quotient (le v start) (le end v) (div binary32 (sub binary32 v start) (sub binary32 end start)) bits in
      let r = div_real (sub binary32 v start) (sub binary32 end start) q.2 in
      let x = sub_real v start r.0 in
      let y = sub_real end start r.1 in
      let low : T (lt start v) = not_le v start x.0 x.1 (subst (λ (b : Bool). T (not b)) (sym q.0) tt) in
      let high : T (lt v end) = not_le end v y.0 x.0 (subst (λ (b : Bool). T (not b)) (sym q.1) tt) in (
        asymmetric (sub binary32 start E) v (le_lt (sub binary32 start E) start v (start_moves_down start f x.1) low),
        asymmetric v (add binary32 end E) (lt_le v end (add binary32 end E) high (end_moves_up end g y.0)),
      )
