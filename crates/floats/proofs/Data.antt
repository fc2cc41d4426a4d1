-- The finite floats that fit a format are its data, with a sign: each has the size of a datum, and each datum is the size of one. Assumes nothing.
use mathlib.Core.Path.{◌≡◌, sym, ap}
use mathlib.Core.Logic.{inl, inr}
use Prim.Native.Nat.{ℕ, suc, ◌+◌, ◌*◌, ◌^◌, ◌≤◌, ◌<◌}
use native.Mathlib.Nat.{lt_of_lt_of_le}
use native.Mathlib.Omega.{arith}
use mathlib.Core.Bool.{Bool, true≢false}
use lib.IntN.{ℤ}
use lib.Dec.{T}
use lib.Pow.{pow_pos, pow_mono, shl_lt}
use lib.Ieee.{Float, inf, fin, Format, prec, emax, low, up, down, round, fits}
use lib.Ieee.Exact.{HasValue, round_exact}
use lib.Ieee.Fits.{two, down_pos, round-fits}
use lib.Ieee.Scale.{finite}
use Rattle.lists.proofs.Numbers.{lt_or_le}
use Rattle.floats.specs.Formats.{places, parameters}
use Rattle.floats.specs.Rounding.{Datum, limit, Rounds}
use Rattle.floats.proofs.FormatsLaw.{emax-two}
use Rattle.floats.proofs.RoundingLaw.{rounds_by}
use Rattle.floats.proofs.Representable.{round_own}

module _ (f : Format) (s : Bool) where
  pub fits→datum : (m : ℕ) (e : ℤ) → T (fits f (fin s m e)) → (n : ℕ) × HasValue (fin s m e) s n (2 ^ places (parameters f)) × Datum (parameters f) n
  fits→datum m e t = elim (lt_or_le (m * up e * 2 ^ prec f) (limit (parameters f) * down e)) [
    | inl l ↦ let n = own.under l in (n.n, n.value, n.datum)
    | inr l ↦ absurd (infinite (own.over l))
  ]
    where
      own : Rounds (parameters f) s (m * up e) (down e) (fin s m e)
      own = rounds_by f (down_pos e) (sym (round_own f s m e t))

      infinite : fin s m e ≡ inf s → ⊥
      infinite h = true≢false (ap finite h)

  pub datum→fits : (n : ℕ) → Datum (parameters f) n → (x : Float) × T (fits f x) × HasValue x s n (2 ^ places (parameters f))
  datum→fits n d =
      let L = low f in
      let top : prec f + d.power ≤ L + suc (emax f) = omega (arith, d.low, two f, emax-two f) in
      let small : d.digits * 2 ^ d.power < 2 ^ (L + suc (emax f)) = lt_of_lt_of_le (shl_lt (prec f) d.power d.short) (pow_mono top) in
      let value = round_exact f s n (2 ^ L) d.digits d.power (pow_pos L) d.short small (ap (λ (z : ℕ). z * 2 ^ L) d.is) in
      (round f s n (2 ^ L), round-fits f s n (2 ^ L), value)
