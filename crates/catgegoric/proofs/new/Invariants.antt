use Prim.Native.Nat.{◌≤◌}
use Rattle.categoric_build.specs.Categories.{inserted_up_to}
use Rattle.categoric_build.specs.forms.Insertion.{HoldsCategories}
use Rattle.catgegoric.proofs.new.Given as goal

abbrev pub invariant-loop-i : goal.invariant-loop-i
invariant-loop-i l = (l.count ≤ l.i) × HoldsCategories (inserted_up_to l.i l.given l.words) l.keys l.colors l.count
