-- The keys of a range that is not too wide, as the code works them out: how many there are, that each fits, and which they are. Assumes nothing.
use Rattle.std.specs.Prelude.{Ok}
use Rattle.refusal.specs.Outcome.{Answer}
use mathlib.Core.Bool.{false}
use mathlib.Core.List.{List}
use mathlib.Core.Path.{◌≡◌, sym, subst, ap, ◌∙◌}
use Prim.Native.Nat.{ℕ, ◌^◌, ◌<◌, ◌≤◌}
use native.Mathlib.Omega.{arith}
use lib.IntN.{ℤ, pos, ◌+ℤ◌}
use lib.ListN.{length, take}
use lib.Signed.{mag}
use mir.Syntax.{w64}
use mir.Val.{to_z, of_z}
use Rattle.std.proofs.Common.{SFits}
use Rattle.lists.specs.Tabulate.{tabulate}
use Rattle.lists.specs.Padded.{padded}
use Rattle.categoric_lists.specs.Whole.{whole}
use Rattle.categoric_lists.specs.Range.{range_count, too_wide, range_keys}
use Rattle.catgegoric.specs.Made.{wide_refusal}
use Rattle.categoric_lists.proofs.Numbers.{back, back₂}
use Rattle.categoric_lists.proofs.Ranges.{key_fits, keys_are, length-range}
use Rattle.catgegoric.proofs.Making.{wide-narrow, wide_few, counted_list, counted_length}

-- the bounds as the code holds them
module _ (start end : ℤ) (fs : mag start < 2 ^ 63) (fe : mag end < 2 ^ 63) where
  abbrev first : ℤ
  first = to_z w64 (of_z w64 start)

  abbrev last : ℤ
  last = to_z w64 (of_z w64 end)

  pub same_bounds : {A : Type 0} (f : ℤ → ℤ → A) → f first last ≡ f start end
  same_bounds f = back₂ f start end fs fe

  -- what a check of the code's bounds lets pass
  pub passes : (f : ℤ → ℤ → Answer) {r : Answer} → r ≡ f first last → r ≡ Ok tt → f start end ≡ Ok tt
  passes f e d = sym (same_bounds f) ∙ sym e ∙ d

  module _ (wide : wide_refusal start end (Ok tt) ≡ Ok tt) where
    pub narrow : too_wide first last ≡ false
    narrow = same_bounds too_wide ∙ wide-narrow start end wide

    module _ {n : ℕ} (e : n ≡ whole (range_count first last)) where
      pub count-is : n ≡ whole (range_count start end)
      count-is = e ∙ same_bounds (λ a b. whole (range_count a b))

      pub count_few : n ≤ 256
      count_few = omega (arith, count-is, wide_few start end wide)

      pub each_fits : (k : ℕ) → k < n → SFits w64 (first +ℤ pos k)
      each_fits k h = record {
        sfits = subst (λ z. mag (z +ℤ pos k) < 2 ^ 63) (sym (back start fs)) (key_fits start end fs fe k (omega (arith, count-is, h)));
      }

      module _ {keys : List ℤ} (k : keys ≡ padded (pos 0) 256 (tabulate n (λ k. first +ℤ pos k))) where
        keys-is : keys ≡ padded (pos 0) 256 (range_keys start end)
        keys-is = k ∙ ap (padded (pos 0) 256) (keys_are start end first last n (back start fs) (back end fe) e)

        pub keys_counted : (n ≤ length keys) × (n ≡ length (take n keys))
        keys_counted = counted_length (pos 0) 256 n (range_keys start end) (count-is ∙ sym (length-range start end)) count_few keys-is

        pub counted_keys : take n keys ≡ range_keys start end
        counted_keys = counted_list (pos 0) 256 n (range_keys start end) (count-is ∙ sym (length-range start end)) keys-is
