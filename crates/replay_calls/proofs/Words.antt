-- A flag as a word. Assumes nothing.
use mathlib.Core.Bool.{Bool, true, false}
use Prim.Native.Nat.{◌≤◌}
use lib.Dec.{lit≤}
use mir.Val.{bool_byte}

pub flag_most : (t : Bool) → bool_byte t ≤ 1
flag_most true = lit≤ tt
flag_most false = lit≤ tt
