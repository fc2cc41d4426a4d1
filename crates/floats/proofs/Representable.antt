-- A value that fits a format is what its own value rounds to. Assumes nothing.
use mathlib.Core.Path.{◌≡◌, refl, sym, ap, ◌∙◌, subst}
use Prim.Native.Nat.{ℕ, ◌+◌, ◌-◌, ◌*◌, ◌^◌, ◌<◌, suc}
use native.Mathlib.Nat.{mul_assoc}
use mathlib.Core.Bool.{Bool}
use lib.IntN.{ℤ}
use lib.Dec.{T}
use lib.Ieee.{Format, fin, low, emax, up, down, round, fits}
use lib.Ieee.Exact.{round_exact}
use lib.Ieee.Fits.{down_pos, round-fits}
use Rattle.floats.proofs.Order.{depth, size_at}
use Rattle.floats.proofs.Mono.{unit_split}
use Rattle.floats.proofs.Fitting.{fits_says, fits_size, power_of}
use Rattle.floats.proofs.Same.{value→same}

pub round_own : (f : Format) (s : Bool) (m : ℕ) (e : ℤ) → T (fits f (fin s m e)) → round f s (m * up e) (down e) ≡ fin s m e
round_own f s m e t =
    let L = low f in
    let g = fits_says f s m e t in
    let j = power_of L e in
    let sized : size_at L m e ≡ m * 2 ^ j.0 = j.1 m in
    let exact : m * up e * 2 ^ L ≡ m * 2 ^ j.0 * down e =
    ap (λ (z : ℕ). m * up e * z) (unit_split L e g.1) ∙ sym (mul_assoc (m * up e) (2 ^ (L - depth e)) (down e)) ∙ ap (λ (z : ℕ). z * down e) sized in
    let small : m * 2 ^ j.0 < 2 ^ (L + suc (emax f)) = subst (λ (z : ℕ). z < 2 ^ (L + suc (emax f))) sized (fits_size f s m e t) in
    value→same f s (m * up e) (down e) (round f s (m * up e) (down e)) (fin s m e) (down_pos e) (round-fits f s (m * up e) (down e)) t
    (round_exact f s (m * up e) (down e) m j.0 (down_pos e) g.0 small exact) (refl, refl)
