use Prim.Native.Nat.{ℕ, min}
use mathlib.Core.List.{List}
use mathlib.Core.Path.{◌≡◌}
use Rattle.banded_columns.specs.Order.{clears, each_next}
use Rattle.banded_rule.specs.forms.Columns.{from_columns}
use Rattle.banded_search.proofs.indices.are_disjoint.Given as goal

abbrev pub invariant-loop-i : goal.invariant-loop-i
invariant-loop-i l = (colors : List ℕ) → l.result ≡ each_next clears (from_columns l.starts l.ends colors (min l.i l.count))
