-- What follows where a stored record is not refused: its counts are within capacity. Assumes nothing.
use Rattle.std.specs.Prelude.{Ok}
use mathlib.Core.Path.{◌≡◌, refl, sym, ap, ◌∙◌}
use mathlib.Core.Bool.{Bool, true, false, ◌||◌, true≢false}
use Prim.Native.Nat.{ℕ, ◌≤◌}
use borrow.Author.Tests.{ltb-false}
use lib.Dec.{ltb}
use Rattle.refusal.specs.declared.Refusal.TheVariants.{CountAboveCapacity}
use Rattle.refusal.proofs.Outcomes.{passed}
use Rattle.banded.specs.Record.{banded_refusal}
use Rattle.catgegoric.specs.Made.{categoric_refusal}
use Rattle.legend.specs.declared.LegendKind.{LegendKind}
use Rattle.legend.specs.declared.LegendKind.TheVariants as kind
use Rattle.legend.specs.declared.Legend.{Legend}
use Rattle.legend.specs.Record.{stored_in, stored_refusal}

pub few_bands : (count : ℕ) → banded_refusal count ≡ Ok tt → count ≤ 64
unfolding banded_refusal
few_bands count e = ltb-false 64 count (passed (ltb 64 count) CountAboveCapacity (Ok tt) e).0

pub neither : (a b : Bool) → (a || b) ≡ false → (a ≡ false) × (b ≡ false)
neither true b e = absurd (true≢false e)
neither false b e = (refl, e)

pub few_categories : (count words : ℕ) → categoric_refusal count words ≡ Ok tt → (count ≤ 256) × (words ≤ 513)
unfolding categoric_refusal
few_categories count words e =
    let n = neither (ltb 256 count) (ltb 513 words) (passed (ltb 256 count || ltb 513 words) CountAboveCapacity (Ok tt) e).0 in
    (ltb-false 256 count n.0, ltb-false 513 words n.1)

-- of a legend of a kind
module _ (l : Legend) (stored : stored_refusal l ≡ Ok tt) where
  pub of_kind : (k : LegendKind) → l.kind ≡ k → stored_in k l ≡ Ok tt
  unfolding stored_refusal
  of_kind k e = sym (ap (λ (x : LegendKind). stored_in x l) e) ∙ stored

  pub bands-stored : l.kind ≡ kind.Banded → l.banded.count ≤ 64
  bands-stored e = few_bands l.banded.count (of_kind kind.Banded e)

  pub categories-stored : l.kind ≡ kind.CategoricNumeric → (l.categoric.count ≤ 256) × (l.categoric.lookup_count ≤ 513)
  categories-stored e = few_categories l.categoric.count l.categoric.lookup_count (of_kind kind.CategoricNumeric e)
