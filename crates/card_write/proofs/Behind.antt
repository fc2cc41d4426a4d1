-- A part laid behind another. Assumes nothing.
use Prim.Native.Nat.{ℕ, ◌+◌, ◌≤◌}
use mathlib.Core.Path.{◌≡◌, refl}
use mathlib.Core.List.{List, ◌++◌}
use native.Mathlib.Omega.{arith}
use lib.ListN.{length}
use Rattle.card_bytes.specs.Numbers.{overwritten}
use Rattle.card_bytes.proofs.Overwriting.{wrote_then}

pub overwritten_after : (at' at : ℕ) (ys xs l : List ℕ) → at' ≡ at + length xs → at' ≤ length l
    → overwritten at' ys (overwritten at xs l) ≡ overwritten at (xs ++ ys) l
overwritten_after at' at ys xs l e h = wrote_then at xs ys l refl refl e (omega arith)
