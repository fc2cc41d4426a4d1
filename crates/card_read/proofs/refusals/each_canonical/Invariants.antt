-- The first i pass.
use mathlib.Core.Path.{◌≡◌}
use mathlib.Core.Bool.{true}
use Rattle.lists.specs.Each.{each}
use Rattle.card_bytes.specs.Entries.{entries_in}
use Rattle.card_layout.specs.Entries.{bounds_canonical}
use Rattle.card_read.proofs.refusals.each_canonical.Given as goal

abbrev pub invariant-loop-i : goal.invariant-loop-i
invariant-loop-i l = each bounds_canonical (entries_in 12 l.i (λ entry. entry) l.entries) ≡ true
