-- What ascending and disjoint bands are: each starts below its end, none starts below the end of the one before, and so starts ascend. Bands that the
-- user calls ordered are among them. Assumes nothing.
use mathlib.Core.Path.{◌≡◌, ap, ◌∙◌}
use mathlib.Core.Bool.{Bool, ◌&&◌}
use mathlib.Core.List.{List, [], ◌∷◌}
use Prim.Native.Nat.{ℕ, zero, suc, ◌<◌}
use native.Mathlib.Omega.{arith}
use lib.Dec.{T, not_T}
use lib.Ieee.{lt, le}
use lib.Ieee.Fits.{and_i, and_l, and_r}
use Rattle.lists.specs.Each.{each}
use Rattle.lists.specs.Tabulate.{tabulate}
use Rattle.lists.proofs.Each.{and_and, and_true}
use Rattle.floats.proofs.Order.{lt_le, lt_not_le, lt→le, lt_l, lt_r, not_lt}
use Rattle.banded_columns.specs.declared.LegendBand.{LegendBand}
use Rattle.banded_columns.specs.Order.{starts_below_end, starts_ascend, clears, each_after, each_next, ascending_disjoint, Ordered}

module _ (bands : List LegendBand) where
  pub starts-below : T (ascending_disjoint bands) → T (each starts_below_end bands)
  unfolding ascending_disjoint
  starts-below h = and_l (each starts_below_end bands) (each_next clears bands) h

  pub disjoint : T (ascending_disjoint bands) → T (each_next clears bands)
  unfolding ascending_disjoint
  disjoint h = and_r (each starts_below_end bands) (each_next clears bands) h

  pub ordered-disjoint : Ordered bands → T (ascending_disjoint bands)
  unfolding ascending_disjoint
  ordered-disjoint o = and_i (each starts_below_end bands) (each_next clears bands) o.starts o.disjoint

-- a band that starts below its end is followed by one that does not start below that end
pub end-start : (a b : LegendBand) → T (starts_below_end a) → T (starts_below_end b) → T (clears a b) → T (le a.end b.start)
end-start a b p q r = not_lt b.start a.end (lt_l b.start b.end q) (lt_r a.start a.end p) r

after : (a : LegendBand) (bs : List LegendBand) → T (each starts_below_end (a ∷ bs)) → T (each_after clears a bs) → T (each_after starts_ascend a bs)
unfolding each each_after
after a [] q r = tt
after a (b ∷ bs) q r =
    let starts : T (starts_below_end a) = and_l (starts_below_end a) (each starts_below_end (b ∷ bs)) q in
    let later : T (each starts_below_end (b ∷ bs)) = and_r (starts_below_end a) (each starts_below_end (b ∷ bs)) q in
    let e : T (le a.end b.start) = end-start a b starts (and_l (starts_below_end b) (each starts_below_end bs) later)
    (and_l (clears a b) (each_after clears b bs) r) in
    let s : T (lt a.start b.start) = lt_le a.start a.end b.start starts e in
    and_i (starts_ascend a b) (each_after starts_ascend b bs)
    (not_T (lt b.start a.start) (λ (h : T (lt b.start a.start)). lt_not_le b.start a.start h (lt→le a.start b.start s)))
    (after b bs later (and_r (clears a b) (each_after clears b bs) r))

pub disjoint-ascends : (bands : List LegendBand) → T (ascending_disjoint bands) → T (each_next starts_ascend bands)
unfolding each_next
disjoint-ascends [] d = tt
disjoint-ascends (b ∷ bs) d = after b bs (starts-below (b ∷ bs) d) (disjoint (b ∷ bs) d)

-- ---- the tests of neighbours in a list that is given by a rule: of each entry, and one entry more
module _ (test : LegendBand → LegendBand → Bool) where
  abbrev later : ℕ → (ℕ → LegendBand) → List LegendBand
  later n f = tabulate n (λ k. f (suc k))

  pub next_at : (n : ℕ) (f : ℕ → LegendBand) → T (each_next test (tabulate (suc n) f)) → (k : ℕ) → k < n → T (test (f k) (f (suc k)))
  unfolding tabulate each_after each_next
  next_at zero f h k q = absurd (omega arith)
  next_at (suc n) f h zero q = and_l (test (f 0) (f 1)) (each_after test (f 1) (later n (λ k. f (suc k)))) h
  next_at (suc n) f h (suc k) q = next_at n (λ k. f (suc k)) (and_r (test (f 0) (f 1)) (each_after test (f 1) (later n (λ k. f (suc k)))) h) k (omega arith)

  pub next_more : (n : ℕ) (f : ℕ → LegendBand) → each_next test (tabulate (suc (suc n)) f) ≡ (each_next test (tabulate (suc n) f) && test (f n) (f (suc n)))
  unfolding tabulate each_after each_next
  next_more zero f = and_true (test (f 0) (f 1))
  next_more (suc n) f =
      ap (λ (b : Bool). test (f 0) (f 1) && b) (next_more n (λ k. f (suc k)))
      ∙ and_and (test (f 0) (f 1)) (each_next test (tabulate (suc n) (λ k. f (suc k)))) (test (f (suc n)) (f (suc (suc n))))
