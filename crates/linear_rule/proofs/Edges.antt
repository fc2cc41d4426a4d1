-- E moves an edge that is an f32 no other way than out: start - E is not above start, nor end + E below end, in f32. Assumes nothing.
use mathlib.Core.Path.{◌≡◌, refl, ◌∙◌}
use mathlib.Core.Bool.{Bool, true, false, not}
use Prim.Native.Nat.{ℕ, ◌+◌, ◌*◌, ◌≤◌, ◌<◌}
use native.Mathlib.Nat.{mul_assoc, mul_right_comm, mul-pos}
use native.Mathlib.Omega.{arith}
use lib.IntN.{ℤ, negsuc}
use lib.Dec.{T}
use lib.Ieee.{Float, nan, inf, fin, binary32, up, down, round, neg, add, sub, le, is_nan, fits, of_bits}
use lib.Ieee.Fits.{down_pos}
use lib.Ieee.Scale.{round_same}
use Rattle.floats.specs.Operations.{Sum}
use Rattle.floats.proofs.Order.{off, le_refl_float}
use Rattle.floats.proofs.Mono.{round_signed}
use Rattle.floats.proofs.Representable.{round_own}
use Rattle.floats.proofs.Sums.{sums, add_is}
use Rattle.floats.proofs.OperationsLaw.{sub_is}
use Rattle.colormapper.specs.Tolerance.{E}

-- ---- ±a + b is no smaller than ±a, and ±a - b no larger
module _ (B a b k : ℕ) where
  more : (s u : Bool) → Sum s a false b u k → off B s a ≤ off B u k
  more true true h = omega (arith, h.exact)
  more true false h = omega (arith, h.exact)
  more false true h = omega (arith, h.exact)
  more false false h = omega (arith, h.exact)

  less : (s u : Bool) → Sum s a true b u k → off B u k ≤ off B s a
  less true true h = omega (arith, h.exact)
  less true false h = omega (arith, h.exact)
  less false true h = omega (arith, h.exact)
  less false false h = omega (arith, h.exact)

module _ (s : Bool) (m : ℕ) (e : ℤ) (n : ℕ) (d : ℤ) (t : T (fits binary32 (fin s m e))) where
  abbrev a : ℕ
  a = m * up e * down d

  abbrev c : ℕ
  c = down e * down d

  positive : 0 < c
  positive = mul-pos (down_pos e) (down_pos d)

  rounded : round binary32 s a c ≡ fin s m e
  rounded =
      let same = mul_right_comm (m * up e) (down d) (down e) ∙ mul_assoc (m * up e) (down e) (down d) in
      round_same binary32 s a c (m * up e) (down e) positive (down_pos e) same ∙ round_own binary32 s m e t

  above : T (le (fin s m e) (add binary32 (fin s m e) (fin false n d)))
  above =
      let z = sums binary32 s a false (n * up d * down e) c in
      let B = a + z.1 + 1 in
      let l = round_signed binary32 B c s z.0 a z.1 positive (omega arith) (omega arith) (more B a (n * up d * down e) z.1 s z.0 z.2) in
      rw (add_is binary32 s m e false n d, z.3, ← rounded) l

  below : T (le (add binary32 (fin s m e) (fin true n d)) (fin s m e))
  below =
      let z = sums binary32 s a true (n * up d * down e) c in
      let B = a + z.1 + 1 in
      let l = round_signed binary32 B c z.0 s z.1 a positive (omega arith) (omega arith) (less B a (n * up d * down e) z.1 s z.0 z.2) in
      rw (add_is binary32 s m e true n d, z.3, ← rounded) l

-- ---- the edges
E-is : E ≡ fin false 13_743_895 (negsuc 36)
unfolding of_bits
E-is = refl

pub end_moves_up : (x : Float) → T (fits binary32 x) → T (not (is_nan x)) → T (le x (add binary32 x E))
end_moves_up nan f n = absurd (unfold is_nan in n)
end_moves_up (inf s) f n = unfold add of_bits in le_refl_float (inf s) n
end_moves_up (fin s m e) f n = rw E-is (above s m e 13_743_895 (negsuc 36) f)

pub start_moves_down : (x : Float) → T (fits binary32 x) → T (not (is_nan x)) → T (le (sub binary32 x E) x)
start_moves_down nan f n = absurd (unfold is_nan in n)
start_moves_down (inf s) f n = unfold sub add neg of_bits in le_refl_float (inf s) n
start_moves_down (fin s m e) f n = rw (sub_is binary32 (fin s m e) E) (unfold neg of_bits in below s m e 13_743_895 (negsuc 36) f)
