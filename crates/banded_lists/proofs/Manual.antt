-- Manual ranges: what an answer of `Done` says, the first empty range by a search, and bands by their index. Assumes nothing.
use Rattle.std.specs.Prelude.{Ok}
use mathlib.Core.Path.{◌≡◌, refl, ap}
use mathlib.Core.Bool.{Bool, true, false, cond, not}
use Rattle.std.specs.List.{position, position_or_len}
use Rattle.std.specs.Option.{unwrap_or}
use Rattle.std.proofs.Common.{Some, None}
use mathlib.Core.List.{List, [], ◌∷◌, ◌++◌}
use Prim.Native.Nat.{ℕ, suc, ◌+◌, ◌-◌, ◌≤◌}
use native.Mathlib.Nat.{le_of_suc-le-suc}
use native.Mathlib.Omega.{arith}
use borrow.Author.Tests.{ltb-false}
use lib.Dec.{ltb}
use lib.ListN.{length, get_or, replicate}
use Rattle.lists.specs.Tabulate.{tabulate}
use Rattle.lists.specs.Padded.{padded}
use Rattle.refusal.specs.declared.Refusal.TheVariants.{TooManyBands, EmptyRange}
use Rattle.refusal.proofs.Outcomes.{passed}
use Rattle.banded_lists.specs.declared.ValueRange.{ValueRange}
use Rattle.banded_lists.specs.declared.ValueRanges.{ValueRanges}
use Rattle.banded_lists.specs.ManualRanges.{ranges_of, is_empty, first_empty, band_of, range_bands, manual_refusal}
use Rattle.banded_lists.proofs.Equal.{same_count}

module _ (values : ValueRanges) (given : ℕ) (e : manual_refusal values given ≡ Ok tt) where
  pub manual_few : values.count ≤ 64
  unfolding manual_refusal
  manual_few = ltb-false 64 values.count (passed (ltb 64 values.count) TooManyBands _ e).0

  pub manual_same : given ≡ values.count
  unfolding manual_refusal
  manual_same =
      let first = first_empty (ranges_of values) in
      same_count given values.count (Ok tt) (passed (ltb first values.count) (EmptyRange first) _ (passed (ltb 64 values.count) TooManyBands _ e).1).1

-- ---- the first empty range, by a search, or else the end
first_is : (rs : List ValueRange) → position_or_len is_empty rs ≡ first_empty rs
unfolding first_empty
first_is [] = refl
first_is (r ∷ rs) = go (is_empty r) (first_is rs)
  where
    go : (t : Bool) → position_or_len is_empty rs ≡ first_empty rs → cond (not t) (1 + position_or_len is_empty rs) 0 ≡ cond t 0 (suc (first_empty rs))
    go true e = refl
    go false e = omega arith

first_≤ : (rs : List ValueRange) → first_empty rs ≤ length rs
unfolding first_empty
first_≤ [] = omega arith
first_≤ (r ∷ rs) = go (is_empty r) (first_≤ rs)
  where
    go : (t : Bool) → first_empty rs ≤ length rs → cond t 0 (suc (first_empty rs)) ≤ suc (length rs)
    go true h = omega arith
    go false h = omega arith

pub first_found : (rs : List ValueRange) → unwrap_or (position is_empty rs) (length rs) ≡ first_empty rs
first_found rs = go (ltb (position_or_len is_empty rs) (length rs)) refl
  where
    go : (t : Bool) → ltb (position_or_len is_empty rs) (length rs) ≡ t → unwrap_or (cond t (Some (position_or_len is_empty rs)) None) (length rs) ≡ first_empty rs
    go true e = first_is rs
    go false e = omega (arith, ltb-false (position_or_len is_empty rs) (length rs) e, first_is rs, first_≤ rs)

-- ---- band k by range k and colour k
pub range-bands : (z : ValueRange) (rs : List ValueRange) (colors : List ℕ) → length rs ≤ length colors
    → tabulate (length rs) (λ k. band_of (get_or rs k z) (get_or colors k 0)) ≡ range_bands rs colors
unfolding tabulate range_bands
range-bands z [] colors h = refl
range-bands z (r ∷ rs) [] h = absurd (omega arith)
range-bands z (r ∷ rs) (c ∷ cs) h = ap (λ bs. band_of r c ∷ bs) (range-bands z rs cs (le_of_suc-le-suc h))

pub range_length : (rs : List ValueRange) (colors : List ℕ) → length rs ≤ length colors → length (range_bands rs colors) ≡ length rs
unfolding range_bands
range_length [] colors h = refl
range_length (r ∷ rs) [] h = absurd (omega arith)
range_length (r ∷ rs) (c ∷ cs) h = ap suc (range_length rs cs (le_of_suc-le-suc h))

-- colours after the last range are not read
unread : (rs : List ValueRange) (colors more : List ℕ) → length rs ≤ length colors → range_bands rs (colors ++ more) ≡ range_bands rs colors
unfolding range_bands
unread [] colors more h = refl
unread (r ∷ rs) [] more h = absurd (omega arith)
unread (r ∷ rs) (c ∷ cs) more h = ap (λ bs. band_of r c ∷ bs) (unread rs cs more (le_of_suc-le-suc h))

pub range-padded : (rs : List ValueRange) (colors : List ℕ) → length rs ≤ length colors → range_bands rs (padded 0 256 colors) ≡ range_bands rs colors
unfolding padded
range-padded rs colors h = unread rs colors (replicate (256 - length colors) 0) h
