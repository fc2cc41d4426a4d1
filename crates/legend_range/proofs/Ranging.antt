-- The range of a legend's values, by what the code reads; and a stored key in range is an f32 without loss. Assumes nothing.
use Rattle.std.specs.Prelude.{Ok, Err}
use Rattle.refusal.specs.Outcome.{Answer, first_of}
use mathlib.Core.Path.{◌≡◌, refl, sym, ap, subst, ◌∙◌}
use mathlib.Core.Bool.{Bool, true, false, cond}
use mathlib.Core.List.{List, [], ◌∷◌}
use Prim.Native.Nat.{ℕ, zero, suc, ◌-◌, ◌^◌, ◌≤◌, ◌<◌}
use native.Mathlib.Omega.{arith}
use borrow.Author.Tests.{ltb-false}
use lib.Dec.{T, ltb, le→leb, lt→ltb}
use lib.IntN.{ℤ, pos, negsuc}
use lib.Signed.{mag, lt_z}
use lib.Ieee.{binary32, of_int, of_bits, in_float}
use Rattle.floats.specs.RampIndex.{nought}
use lib.ListN.{length, get_or, take}
use mir.Syntax.{w64}
use mir.Val.{to_z, of_z}
use Rattle.refusal.specs.declared.Refusal.TheVariants.{KeyOutOfRange}
use Rattle.refusal.proofs.Outcomes.{passed, not_done}
use Rattle.banded_columns.specs.declared.LegendBand.{LegendBand}
use Rattle.banded_columns.proofs.Outer.{last_of_lem}
use Rattle.categoric_build.specs.Table.{foremost, smallest, largest}
use Rattle.categoric_lists.specs.Keys.{outside, outside_from, keys_refusal}
use Rattle.categoric_lists.proofs.Numbers.{back}
use Rattle.legend.specs.declared.LegendKind.{LegendKind}
use Rattle.legend.specs.declared.LegendKind.TheVariants as kind
use Rattle.legend.specs.declared.Legend.{Legend}
use Rattle.legend.specs.Record.{stored_refusal}
use Rattle.legend.proofs.Stored.{neither}
use Rattle.legend_range.specs.ValueRanges.{from_to, bands_range, keys_range, keys_in, total_range_refusal}

-- ---- bands
-- the literal 0.0
nothing : from_to (of_bits binary32 0) (of_bits binary32 0) ≡ from_to nought nought
unfolding of_bits
nothing = refl

pub bands-none : (xs : List LegendBand) → length xs ≡ 0 → from_to (of_bits binary32 0) (of_bits binary32 0) ≡ bands_range xs
unfolding bands_range
bands-none [] e = nothing
bands-none (x ∷ xs) e = absurd (omega arith)

pub bands-from_to : (z : LegendBand) (xs : List LegendBand) → 0 < length xs → from_to (get_or xs 0 z).start (get_or xs (length xs - 1) z).end ≡ bands_range xs
unfolding bands_range
bands-from_to z [] h = absurd (omega arith)
bands-from_to z (x ∷ xs) h =
    let p : suc (length xs) - 1 ≡ length xs = omega arith in
    ap (λ (b : LegendBand). from_to x.start b.end) (ap (λ (k : ℕ). get_or (x ∷ xs) k z) p ∙ sym (last_of_lem z 0 x xs))

-- with an entry named by its place past the end
pub ruleset some_bands = (bands-from_to)

-- ---- keys
pub keys_none : (keys : List ℤ) → length keys ≡ 0 → from_to (of_bits binary32 0) (of_bits binary32 0) ≡ keys_range keys
unfolding keys_range
keys_none [] e = nothing
keys_none (k ∷ ks) e = absurd (omega arith)

pub ruleset no_values = (bands-none, keys_none)

pub keys-from_to : (keys : List ℤ) → 0 < length keys → from_to (of_int binary32 (smallest keys)) (of_int binary32 (largest keys)) ≡ keys_range keys
unfolding keys_range
keys-from_to [] h = absurd (omega arith)
keys-from_to (k ∷ ks) h = refl

inside : (i : ℕ) (keys : List ℤ) → outside_from i keys ≡ Ok tt → (k : ℕ) → k < length keys → outside (get_or keys k (pos 0)) ≡ false
unfolding outside_from
inside i [] e k h = absurd (omega arith)
inside i (x ∷ xs) e zero h = (passed (outside x) (KeyOutOfRange i) (outside_from (suc i) xs) e).0
inside i (x ∷ xs) e (suc k) h = inside (suc i) xs (passed (outside x) (KeyOutOfRange i) (outside_from (suc i) xs) e).1 k (omega arith)

chosen : (b : Bool) (x y : ℤ) → outside x ≡ false → outside y ≡ false → outside (cond b x y) ≡ false
chosen true x y p q = p
chosen false x y p q = q

foremost-inside : (before : ℤ → ℤ → Bool) (keys : List ℤ) → keys_refusal keys ≡ Ok tt → 0 < length keys → (n : ℕ) → n ≤ length keys
    → outside (foremost before n keys) ≡ false
unfolding foremost
foremost-inside before keys e p zero h = inside 0 keys e 0 p
foremost-inside before keys e p (suc n) h =
    chosen (before (get_or keys n (pos 0)) (foremost before n keys)) (get_or keys n (pos 0)) (foremost before n keys) (inside 0 keys e n h)
    (foremost-inside before keys e p n (omega arith))

-- the smallest and the largest are among the keys
module _ (keys : List ℤ) (e : keys_refusal keys ≡ Ok tt) (some : 0 < length keys) where
  pub smallest-inside : outside (smallest keys) ≡ false
  smallest-inside = foremost-inside lt_z keys e some (length keys) (omega arith)

  pub largest-inside : outside (largest keys) ≡ false
  largest-inside = foremost-inside (λ x y. lt_z y x) keys e some (length keys) (omega arith)

exact : (z : ℤ) → outside z ≡ false → T (in_float binary32 z)
unfolding in_float
exact (pos n) e = le→leb n (2 ^ 24) (ltb-false 16777216 n e)
exact (negsuc n) e = lt→ltb n (2 ^ 24) (let h = ltb-false 16777215 n (neither (ltb 16777215 n) false e).0 in omega arith)

small : (z : ℤ) → outside z ≡ false → mag z < 2 ^ 63
small (pos n) e = let h = ltb-false 16777216 n e in omega arith
small (negsuc n) e = let h = ltb-false 16777215 n (neither (ltb 16777215 n) false e).0 in omega arith

pub same : (z : ℤ) → outside z ≡ false → to_z w64 (of_z w64 z) ≡ z
same z e = back z (small z e)

pub fits : (z : ℤ) → outside z ≡ false → T (in_float binary32 (to_z w64 (of_z w64 z)))
fits z e = subst (λ (x : ℤ). T (in_float binary32 x)) (sym (same z e)) (exact z e)

-- ---- the two refusals
both_done : (a b : Answer) → first_of a b ≡ Ok tt → (a ≡ Ok tt) × (b ≡ Ok tt)
both_done (Ok _) b e = (refl, e)
both_done (Err why) b e = not_done e

module _ (l : Legend) where
  pub range-stored : total_range_refusal l ≡ Ok tt → stored_refusal l ≡ Ok tt
  unfolding total_range_refusal
  range-stored e = (both_done (stored_refusal l) (keys_refusal (keys_in l.kind l)) e).0

  pub range-keys : total_range_refusal l ≡ Ok tt → l.kind ≡ kind.CategoricNumeric → keys_refusal (take l.categoric.count l.categoric.keys) ≡ Ok tt
  unfolding total_range_refusal
  range-keys e k = sym (ap (λ (x : LegendKind). keys_refusal (keys_in x l)) k) ∙ (both_done (stored_refusal l) (keys_refusal (keys_in l.kind l)) e).1
