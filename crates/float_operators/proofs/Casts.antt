-- The machine reads a signed integer back from its bits before it converts it, and that is the integer. Assumes nothing.
use mathlib.Core.Path.{sym, subst}
use Prim.Native.Nat.{◌≤◌, ◌^◌}
use lib.IntN.{ℤ, nat_abs}
use lib.Dec.{T}
use lib.Ieee.{Format, prec, of_int, in_float}
use mir.Syntax.{Width}
use mir.Val.{SFits, of_z, to_z}
use mir.ValLaws.{to_z-of_z}
use Rattle.floats.specs.Formats.{parameters}
use Rattle.floats.specs.Conversions.{FromInt}
use Rattle.floats.proofs.ConversionsLaw.{of_int_meets, of_int_defined}

module _ (f : Format) (w : Width) (z : ℤ) (h : SFits w z) where
  pub signed_meets : FromInt (parameters f) z (of_int f (to_z w (of_z w z)))
  signed_meets = subst (λ (y : ℤ). FromInt (parameters f) z (of_int f y)) (sym (to_z-of_z w z h)) (of_int_meets f z)

  pub signed_defined : nat_abs z ≤ 2 ^ prec f → T (in_float f (to_z w (of_z w z)))
  signed_defined l = subst (λ (y : ℤ). T (in_float f y)) (sym (to_z-of_z w z h)) (of_int_defined f z l)
