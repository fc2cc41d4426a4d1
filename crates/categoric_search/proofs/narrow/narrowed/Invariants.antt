use mathlib.Core.Path.{◌≡◌}
use Prim.Native.Nat.{ℕ, ◌<◌, ◌≤◌}
use lib.ListN.{length, get_or}
use lib.IntN.{pos}
use Rattle.categoric_search.proofs.narrow.narrowed.Given as goal

abbrev pub invariant-loop-i : goal.invariant-loop-i
invariant-loop-i l =
    (length l.result ≡ 256) × ((k : ℕ) → k < l.i → get_or l.result k (pos 0) ≡ get_or l.keys k (pos 0))
    × ((k : ℕ) → l.i ≤ k → k < 256 → get_or l.result k (pos 0) ≡ pos 2147483647)
