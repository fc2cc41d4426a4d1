-- What the code of the lookups works out is what the definitions say. Assumes nothing.
use Rattle.std.specs.Prelude.{Some, None}
use mathlib.Core.Path.{◌≡◌, refl, sym, ap, ◌∙◌, subst}
use mathlib.Core.Bool.{Bool, true, false, cond, ◌&&◌}
use mathlib.Core.List.{List}
use Prim.Native.Nat.{ℕ}
use lib.Dec.{T}
use lib.Ieee.{Float, binary32, mul, le}
use lib.ListN.{get_or}
use Rattle.floats.specs.RampIndex.{c255, nought, one, half_up, in_unit, plain_index, lane_index}
use Rattle.floats.proofs.RampBounds.{plain-is}
use Rattle.lookup.specs.Entries.{plain_entry, lane_entry, entry_color}
use Rattle.lookup.specs.forms.UnitOrZero.{unit_or_zero}

pub holds : {b : Bool} → b ≡ true → T b
holds e = subst T (sym e) tt

pub nought-inside : in_unit nought ≡ true
unfolding le
nought-inside = refl

-- the two tests of the code, and the first of them that fails
module _ (f : Float) where
  pub both_hold : le nought f ≡ true → le f one ≡ true → in_unit f ≡ true
  both_hold h k = cc

  pub second_fails : le nought f ≡ true → le f one ≡ false → in_unit f ≡ false
  second_fails h k = cc

  pub first_fails : le nought f ≡ false → in_unit f ≡ false
  first_fails h = cc

  pub plain-inside : in_unit f ≡ true → Some (half_up (mul binary32 f c255)) ≡ plain_entry f
  unfolding plain_entry
  plain-inside h = rw (h, plain-is f)

  pub plain-outside : in_unit f ≡ false → None ≡ plain_entry f
  unfolding plain_entry
  plain-outside h = rw h

  pub lane_inside : in_unit f ≡ true → Some (lane_index f) ≡ lane_entry f
  unfolding lane_entry
  lane_inside h = rw h

  pub lane-outside : in_unit f ≡ false → None ≡ lane_entry f
  unfolding lane_entry
  lane-outside h = rw h

  pub kept_inside : in_unit f ≡ true → f ≡ unit_or_zero f
  unfolding unit_or_zero
  kept_inside h = rw h

  pub kept_outside : in_unit f ≡ false → nought ≡ unit_or_zero f
  unfolding unit_or_zero
  kept_outside h = rw h

  -- a colour looked up first and replaced outside
  chosen : (cmap : List ℕ) (index : Float → ℕ) → cond (in_unit f) (get_or cmap (index (unit_or_zero f)) 0) 0
      ≡ entry_color cmap (cond (in_unit f) (Some (index f)) None)
  unfolding unit_or_zero
  chosen cmap index = go (in_unit f)
    where
      go : (b : Bool) → cond b (get_or cmap (index (cond b f nought)) 0) 0 ≡ entry_color cmap (cond b (Some (index f)) None)
      go true = refl
      go false = refl

  pub plain_chosen : (cmap : List ℕ) → cond (in_unit f) (get_or cmap (plain_index (unit_or_zero f)) 0) 0 ≡ entry_color cmap (plain_entry f)
  unfolding plain_entry
  plain_chosen cmap = chosen cmap plain_index

  pub lane_chosen : (cmap : List ℕ) → cond (in_unit f) (get_or cmap (lane_index (unit_or_zero f)) 0) 0 ≡ entry_color cmap (lane_entry f)
  unfolding lane_entry
  lane_chosen cmap = chosen cmap lane_index
