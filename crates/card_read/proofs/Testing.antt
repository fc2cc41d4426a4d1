-- A test of each entry: of none, of one more, and where one fails. Assumes nothing.
use Prim.Native.Nat.{ℕ, ◌+◌, ◌*◌, ◌<◌}
use mathlib.Core.Bool.{Bool, true, false, ◌&&◌}
use mathlib.Core.Path.{◌≡◌, ap}
use mathlib.Core.List.{List}
use native.Mathlib.Numerals.{add-one}
use lib.ListN.{drop}
use Rattle.lists.specs.Each.{each}
use Rattle.lists.proofs.Each.{each_more, one_fails}
use Rattle.card_bytes.specs.Entries.{entries_in}
use Rattle.card_bytes.proofs.Entries.{entries_in-none}

module _ {A : Type 0} (test : A → Bool) (w : ℕ) (read : List ℕ → A) (bytes : List ℕ) where
  pub none_tested : each test (entries_in w 0 read bytes) ≡ true
  unfolding each
  none_tested = ap (each test) (entries_in-none w read bytes)

  pub one_tested : (i : ℕ) → each test (entries_in w (i + 1) read bytes) ≡ (each test (entries_in w i read bytes) && test (read (drop (w * i) bytes)))
  unfolding entries_in
  one_tested i = rw (add-one i) (each_more test i (λ k. read (drop (w * k) bytes)))

  pub one_refused : (n i : ℕ) → i < n → test (read (drop (w * i) bytes)) ≡ false → each test (entries_in w n read bytes) ≡ false
  unfolding entries_in
  one_refused n i h e = one_fails test n (λ k. read (drop (w * k) bytes)) i h e

-- for the check's own search
pub ruleset testing = (none_tested, one_tested)
