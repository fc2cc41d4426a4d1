-- A text's first bytes, and fractions looked up lane by lane. Assumes nothing.
use Rattle.std.specs.Prelude.{Option}
use mathlib.Core.Bool.{Bool, true, false, cond}
use mathlib.Core.List.{List}
use mathlib.Core.Path.{◌≡◌, refl, sym}
use Prim.Native.Nat.{ℕ, ◌≤◌}
use native.Mathlib.Omega.{arith}
use borrow.Author.Tests.{ltb-true}
use lib.Dec.{ltb}
use lib.Ieee.{Float, nan}
use lib.ListN.{length, get_or, take}
use lib.Seq.{length-take-le}
use Rattle.lists.specs.Lanes.{Lanes}
use Rattle.lists.proofs.Tabulated.{tabulated}
use Rattle.lookup.specs.Entries.{entry_color}
use Rattle.words.specs.Values.{at_most}
use Rattle.replay_calls.specs.Rows.{looked_up}

at_most_40 : (word : ℕ) → at_most word 40 ≤ 40
at_most_40 word = go (ltb word 40) refl
  where
    go : (t : Bool) → ltb word 40 ≡ t → cond t word 40 ≤ 40
    go true e = omega (arith, ltb-true word 40 e)
    go false e = omega arith

module _ {count : ℕ} (word : ℕ) (text : List ℕ) (c : count ≡ at_most word 40) (long : length text ≡ 40) where
  pub text_fits : count ≤ length text
  text_fits = omega (arith, c, at_most_40 word, long)

  pub text_long : count ≡ length (take count text)
  text_long = sym (length-take-le count text text_fits)

pub looked_up_lem : (entry : Float → Option ℕ) (cmap : List ℕ) (fractions : List Float) {r : List ℕ} → length r ≡ 16
    → Lanes 0 16 r (λ k. entry_color cmap (entry (get_or fractions k nan))) → r ≡ looked_up entry cmap fractions
unfolding looked_up
looked_up_lem entry cmap fractions {r} long l = tabulated 0 16 (λ k. entry_color cmap (entry (get_or fractions k nan))) r long l
