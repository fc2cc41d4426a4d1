-- The first i are laid.
use mathlib.Core.Path.{◌≡◌}
use lib.ListN.{take}
use Rattle.card_bytes.specs.Numbers.{overwritten}
use Rattle.card_bytes.specs.Entries.{entries_of}
use Rattle.card_layout.specs.Entries.{category_bytes}
use Rattle.card_write.specs.forms.Parts.{paired}
use Rattle.card_write.proofs.fields.put_categories.Given as goal

abbrev pub invariant-loop-i : goal.invariant-loop-i
invariant-loop-i l = l.buffer ≡ overwritten l.at (entries_of category_bytes (paired (take l.i l.keys) (take l.i l.colors))) l.initial.buffer
