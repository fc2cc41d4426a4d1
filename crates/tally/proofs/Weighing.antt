-- The loop that adds up the weights of the first m codes: its invariant, the first turn, each turn and the end. Assumes nothing.
use Prim.Native.Nat.{ℕ, ◌+◌, ◌≤◌, ◌<◌}
use mathlib.Core.Path.{◌≡◌, refl, ap}
use mathlib.Core.List.{List}
use native.Mathlib.Numerals.{add-one}
use native.Mathlib.Omega.{arith}
use lib.ListN.{length, get_or, take, drop, length-take, drop_of_length-le}
use lib.Seq.{drop-cons, get_or-take, length-take-le}
use Rattle.tally.specs.forms.Packed.{weight_sum}

-- the weights that are left bring the number so far to the whole
pub record Weighing (weights : List ℕ) (m : ℕ) (codes : List ℕ) (number i now : ℕ) : Type 0 where
  pub upto : i ≤ m
  pub is : now + weight_sum weights (drop i (take m codes)) ≡ number + weight_sum weights (take m codes)

module _ (weights : List ℕ) (m : ℕ) (codes : List ℕ) (number : ℕ) where
  pub weighing_start : Weighing weights m codes number 0 number
  weighing_start = record { upto = omega arith; is = refl }

  -- what is left, the code at i first
  weight_left : (i : ℕ) → i < m → m ≤ length codes
      → weight_sum weights (drop i (take m codes)) ≡ get_or weights (get_or codes i 0) 0 + weight_sum weights (drop (i + 1) (take m codes))
  unfolding weight_sum
  weight_left i h g =
      let q : i < length (take m codes) = omega (arith, length-take-le m codes g) in
      rw (add-one, drop-cons (take m codes) i 0 q, get_or-take)

  module _ {i now : ℕ} (p : Weighing weights m codes number i now) (h : i < m) (g : m ≤ length codes) where
    pub weighing_bound : now + get_or weights (get_or codes i 0) 0 ≤ number + weight_sum weights (take m codes)
    weighing_bound = omega (arith, p.is, weight_left i h g)

    pub weighing_turn : Weighing weights m codes number (i + 1) (now + get_or weights (get_or codes i 0) 0)
    weighing_turn = record { upto = omega arith; is = omega (arith, p.is, weight_left i h g) }

  pub weighing_end : {i now : ℕ} → Weighing weights m codes number i now → m ≤ i → now ≡ number + weight_sum weights (take m codes)
  unfolding weight_sum
  weighing_end {i} p h =
      let none = drop_of_length-le (take m codes) {i = i} (omega (arith, length-take m codes)) in
      omega (arith, p.is, ap (weight_sum weights) none)
