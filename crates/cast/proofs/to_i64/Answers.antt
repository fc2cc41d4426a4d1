-- `to_i64` meets its contract. Assumes nothing.
use Rattle.std.specs.Prelude.{Some}
use mathlib.Core.Path.{◌≡◌, sym, ap, ◌∙◌, subst}
use mathlib.Core.Bool.{Bool, false, not, true≢false}
use Prim.Native.Nat.{ℕ, ◌^◌}
use native.Mathlib.Omega.{arith}
use lib.Dec.{T, le→leb, leb}
use lib.Arith.{lt→nleb}
use lib.Ieee.{Float, nan, inf, fin, binary32, fits, is_nan, ne, to_bits}
use lib.Ieee.Bits.{is_true, is_false}
use lib.Ieee.Compare.{differs_from_itself}
use Rattle.cast.specs.Truncated.{signed, truncated}
use Rattle.cast.specs.forms.Pattern.{whole_part}
use Rattle.cast.proofs.Bits.{field_is, small, middle, edge, large, nought_less, less_fits}
use lib.IntN.{pos, neg_ℤ, ◌-ℤ◌}
use mir.Syntax.{w64}
use mir.Val.{to_z}
use mir.ValLaws.{to_z_pos, to_z-of_z}
use Rattle.cast.proofs.to_i64.Goals as goal
use Rattle.cast.proofs.to_i64.Goals.{Start}

held : (c : Start) → T (fits binary32 c.args.x)
held c = subst T (sym c.well_formed.0.1) tt

number : (x : Float) → ne x x ≡ false → T (not (is_nan x))
unfolding is_nan ne
number nan h = absurd (true≢false h)
number (inf s) h = tt
number (fin s m e) h = tt

pub returns-then-x : goal.returns-then-x
unfolding truncated
returns-then-x c = sym (ap truncated (differs_from_itself c.args.x (subst T (sym c.if-x.true) tt)))

pub float_to_bits-bits : goal.float_to_bits-bits
float_to_bits-bits c = number c.args.x c.if-x.false

pub returns-then-exponent-lt127 : goal.returns-then-exponent-lt127
returns-then-exponent-lt127 c = let s = c in sym (small s.args.x (held c.before.before) (omega (arith, field_is (to_bits binary32 s.args.x))))

pub returns-then-bits : goal.returns-then-bits
returns-then-bits c = let s = c in sym (edge s.args.x (held c.before.before.before.before) c.if-bits.true)

pub returns-then-exponent-ge190 : goal.returns-then-exponent-ge190
returns-then-exponent-ge190 c =
    let s = c in sym (large s.args.x (held c.before.before.before.before) (omega (arith, field_is (to_bits binary32 s.args.x))) c.if-bits.false)

pub magnitude-size-requires : goal.magnitude-size-requires
magnitude-size-requires c = let s = c in omega (arith, field_is (to_bits binary32 s.args.x))

pub overflow_sub-result : goal.overflow_sub-result
overflow_sub-result c = less_fits c.magnitude-size.result c.magnitude-size.ensures.1

pub returns-then-bits-ge2147483648 : goal.returns-then-bits-ge2147483648
returns-then-bits-ge2147483648 c =
    let s4 = c in
    let s = s4 in
    let x = s.args.x in
    let b = to_bits binary32 x in
    let u = c.magnitude-size.result in
    let h = c.magnitude-size.ensures.1 in
    ap Some (to_z-of_z w64 (pos 0 -ℤ to_z w64 u) (less_fits u h) ∙ nought_less u h ∙ ap (λ (n : ℕ). neg_ℤ (pos n)) c.magnitude-size.ensures.0
    ∙ ap (λ (t : Bool). signed t (whole_part b)) (sym (is_true (leb (2 ^ 31) b) (le→leb (2 ^ 31) b c.if-bits-ge2147483648.true))))
    ∙ sym (middle x (held c.before.before.before.before.before) (omega (arith, field_is b)) (omega (arith, field_is b)))

pub returns : goal.returns
returns c =
    let s4 = c in
    let s = s4 in
    let x = s.args.x in
    let b = to_bits binary32 x in
    let u = c.magnitude-size.result in
    ap Some (to_z_pos w64 u c.magnitude-size.ensures.1 ∙ ap pos c.magnitude-size.ensures.0 ∙ ap (λ (t : Bool). signed t (whole_part b))
    (sym (is_false (leb (2 ^ 31) b) (lt→nleb (2 ^ 31) b c.if-bits-ge2147483648.false))))
    ∙ sym (middle x (held c.before.before.before.before.before) (omega (arith, field_is b)) (omega (arith, field_is b)))
