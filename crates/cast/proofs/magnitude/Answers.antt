-- `magnitude` meets its contract. Assumes nothing.
use mathlib.Core.Path.{sym, subst}
use Prim.Native.Nat.{ℕ, ◌<◌, ◌^◌}
use native.Mathlib.Omega.{arith}
use Rattle.cast.proofs.Bits.{field_is, digits_are, digits_lt, whole_lt, down_is, up_is}
use Rattle.cast.proofs.magnitude.Goals as goal

pub overflow_cast-digits : goal.overflow_cast-digits
overflow_cast-digits c = omega (arith, digits_are c.args.bits, digits_lt c.args.bits)

pub overflow_shr-result : goal.overflow_shr-result
overflow_shr-result c = omega (arith, field_is c.args.bits)

pub overflow_cast-result-else-exponent-le150 : goal.overflow_cast-result-else-exponent-le150
overflow_cast-result-else-exponent-le150 c = omega (arith, field_is c.args.bits)

pub overflow_shl-result : goal.overflow_shl-result
overflow_shl-result c = omega (arith, field_is c.args.bits)

pub returns-then-exponent-le150 : goal.returns-then-exponent-le150
returns-then-exponent-le150 c =
    let b = c.args.bits in
    let e = down_is b c.requires.0 (omega (arith, field_is b)) in
    (e, subst (λ (n : ℕ). n < 2 ^ 63) (sym e) (whole_lt b c.requires.1))

pub returns-else-exponent-le150 : goal.returns-else-exponent-le150
returns-else-exponent-le150 c =
    let b = c.args.bits in
    let e = up_is b (omega (arith, field_is b)) c.requires.1 in
    (e, subst (λ (n : ℕ). n < 2 ^ 63) (sym e) (whole_lt b c.requires.1))
