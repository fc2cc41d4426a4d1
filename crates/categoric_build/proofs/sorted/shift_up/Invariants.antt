use mathlib.Core.Path.{◌≡◌}
use Prim.Native.Nat.{◌≤◌}
use Rattle.categoric_build.specs.forms.Insertion.{shifted_up}
use Rattle.categoric_build.proofs.sorted.shift_up.Given as goal

abbrev pub invariant-loop-i : goal.invariant-loop-i
invariant-loop-i l = (l.at ≤ l.i) × (l.keys ≡ shifted_up l.i l.count l.initial.keys) × (l.colors ≡ shifted_up l.i l.count l.initial.colors)
