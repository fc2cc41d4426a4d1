use Prim.Native.Nat.{ℕ}
use mathlib.Core.List.{List}
use mathlib.Core.Path.{◌≡◌}
use Rattle.lists.specs.Each.{each}
use Rattle.banded_columns.specs.Order.{starts_below_end}
use Rattle.banded_rule.specs.forms.Columns.{from_columns}
use Rattle.banded_search.proofs.indices.start_below_ends.Given as goal

abbrev pub invariant-loop-i : goal.invariant-loop-i
invariant-loop-i l = (colors : List ℕ) → l.result ≡ each starts_below_end (from_columns l.starts l.ends colors l.i)
