-- The first i are laid.
use mathlib.Core.Path.{◌≡◌}
use lib.ListN.{take}
use Rattle.card_bytes.specs.Numbers.{bytes_of, overwritten}
use Rattle.card_bytes.specs.Entries.{entries_of}
use Rattle.card_write.proofs.fields.put_colors.Given as goal

abbrev pub invariant-loop-i : goal.invariant-loop-i
invariant-loop-i l = l.buffer ≡ overwritten l.at (entries_of (bytes_of 4) (take l.i l.colors)) l.initial.buffer
