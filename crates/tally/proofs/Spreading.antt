-- The loop that adds each slot's total to the count of the slot's rule: its invariant, the first turn, each turn and the end. Assumes nothing.
use Prim.Native.Nat.{ℕ, ◌+◌, ◌^◌, ◌≤◌, ◌<◌}
use mathlib.Core.Path.{◌≡◌, refl, sym, ap, ◌∙◌}
use mathlib.Core.Bool.{true}
use mathlib.Core.List.{List}
use native.Mathlib.Numerals.{add-one}
use native.Mathlib.Omega.{arith}
use lib.ListN.{length, get_or, set, drop, drop_of_length-le}
use lib.Seq.{drop-cons}
use Rattle.tally.specs.Counts.{sum, has_room}
use Rattle.tally.specs.forms.Packed.{count_added, spread}
use Rattle.tally.proofs.Adding.{added_length, added_bound, set_added}
use Rattle.tally.proofs.Room.{room_at}

-- the counts so far have room for what is left of the totals, which goes to them
pub record Spreading (counts rules totals : List ℕ) (s : ℕ) (now : List ℕ) : Type 0 where
  pub upto : s ≤ length rules
  pub long : length now ≡ length counts
  pub room : (k : ℕ) → k < length now → get_or now k 0 + sum (drop s totals) < 2 ^ 64
  pub is : spread now (drop s rules) (drop s totals) ≡ spread counts rules totals

module _ (counts rules totals : List ℕ) where
  pub spreading_start : has_room counts (sum totals) ≡ true → Spreading counts rules totals 0 counts
  spreading_start e = record { upto = omega arith; long = refl; room = room_at counts (sum totals) e; is = refl }

  -- what is left, the total at s first
  sum_left : (s : ℕ) → s < length totals → sum (drop s totals) ≡ get_or totals s 0 + sum (drop (s + 1) totals)
  unfolding sum
  sum_left s h = ap sum (drop-cons totals s 0 h) ∙ ap (λ (j : ℕ). get_or totals s 0 + sum (drop j totals)) (sym (add-one s))

  spread_left : (now : List ℕ) (s : ℕ) → s < length rules → s < length totals
      → spread now (drop s rules) (drop s totals) ≡ spread (count_added now (get_or rules s 0) (get_or totals s 0)) (drop (s + 1) rules) (drop (s + 1) totals)
  unfolding spread
  spread_left now s h g = rw (add-one, drop-cons rules s 0, drop-cons totals s 0)

  module _ {s : ℕ} {now : List ℕ} (p : Spreading counts rules totals s now) (g : s < length totals) where
    -- the sum that is stored fits
    pub spreading_fits : (k : ℕ) → k < length counts → get_or now k 0 + get_or totals s 0 < 2 ^ 64
    spreading_fits k h = omega (arith, p.room k (omega (arith, p.long)), sum_left s g)

    pub spreading_turn : s < length rules
        → Spreading counts rules totals (s + 1) (set now (get_or rules s 0) (get_or now (get_or rules s 0) 0 + get_or totals s 0))
    spreading_turn h =
        let rule = get_or rules s 0 in
        let total = get_or totals s 0 in
        let same = added_length now rule total in
        rw set_added
        (record {
          upto = omega arith;
          long = same ∙ p.long;
          room = λ k q. omega (arith, added_bound now rule total k, p.room k (omega (arith, same)), sum_left s g);
          is = sym (spread_left now s h g) ∙ p.is;
        })

  pub spreading_end : {s : ℕ} {now : List ℕ} → Spreading counts rules totals s now → length rules ≤ s → now ≡ spread counts rules totals
  unfolding spread
  spreading_end {s} {now} p h = sym (ap (λ (rs : List ℕ). spread now rs (drop s totals)) (drop_of_length-le rules h)) ∙ p.is
