-- A list that a rule gives: its length, its entries, and a list that has its entries. Assumes nothing.
use mathlib.Core.Path.{◌≡◌, refl, sym, ap, ◌∙◌}
use mathlib.Core.List.{List}
use Prim.Native.Nat.{ℕ, zero, suc, ◌<◌}
use native.Mathlib.Nat.{le_of_suc-le-suc, not-suc-le-zero}
use native.Mathlib.Omega.{arith}
use lib.ListN.{length, get_or}
use lib.Seq.{ext_get_or}
use Rattle.lists.specs.Tabulate.{tabulate}
use Rattle.lists.specs.Lanes.{Lanes}

module _ {A : Type 0} where
  pub length-tabulate : (n : ℕ) (f : ℕ → A) → length (tabulate n f) ≡ n
  unfolding tabulate
  length-tabulate zero f = refl
  length-tabulate (suc n) f = ap suc (length-tabulate n (λ k. f (suc k)))

  pub get_d_tabulate : (n : ℕ) (f : ℕ → A) (k : ℕ) (z : A) → k < n → get_or (tabulate n f) k z ≡ f k
  unfolding tabulate
  get_d_tabulate zero f k z h = absurd (not-suc-le-zero h)
  get_d_tabulate (suc n) f zero z h = refl
  get_d_tabulate (suc n) f (suc k) z h = get_d_tabulate n (λ j. f (suc j)) k z (le_of_suc-le-suc h)

  pub tabulated : (z : A) (n : ℕ) (f : ℕ → A) (r : List A) → length r ≡ n → Lanes z n r f → r ≡ tabulate n f
  tabulated z n f r e all = ext_get_or z r (tabulate n f) (e ∙ sym (length-tabulate n f)) (λ k h. all k (omega arith) ∙ sym (get_d_tabulate n f k z (omega arith)))

  -- a list by its own entries
  pub tabulate_own : (z : A) (xs : List A) → tabulate (length xs) (λ k. get_or xs k z) ≡ xs
  tabulate_own z xs = sym (tabulated z (length xs) (λ k. get_or xs k z) xs refl (λ k h. refl))
