-- Lists by their entries: by one rule, mapped, and the first entries of an array. Assumes nothing.
use Prim.Native.Nat.{ℕ, zero, suc, ◌≤◌, ◌<◌}
use mathlib.Core.Path.{◌≡◌, refl, sym, ap, ap₂, ◌∙◌}
use mathlib.Core.List.{List, [], ◌∷◌, map}
use native.Mathlib.Nat.{zero-lt-suc, le_of_suc-le-suc, not-suc-le-zero}
use native.Mathlib.Omega.{arith}
use lib.ListN.{length, get_or, take}
use lib.Seq.{length-take-le, get_or-take}
use Rattle.lists.specs.Lanes.{Lanes}
use Rattle.lists.specs.Tabulate.{tabulate}
use Rattle.lists.proofs.Tabulated.{tabulated}

module _ {A : Type 0} where
  pub same_rule : (n : ℕ) (f g : ℕ → A) → ((k : ℕ) → k < n → f k ≡ g k) → tabulate n f ≡ tabulate n g
  unfolding tabulate
  same_rule zero f g h = refl
  same_rule (suc n) f g h =
      ap₂ (λ (x : A) (xs : List A). x ∷ xs) (h 0 (zero-lt-suc n)) (same_rule n (λ k. f (suc k)) (λ k. g (suc k)) (λ k q. h (suc k) (omega arith)))

  -- the first n entries of an array, of which each is known
  pub front : (z : A) (n : ℕ) (f : ℕ → A) (r : List A) → n ≤ length r → Lanes z n r f → take n r ≡ tabulate n f
  front z n f r h all = tabulated z n f (take n r) (length-take-le n r h) (λ k q. get_or-take n r k z q ∙ all k q)

  -- by its own entries
  pub tabulate_front : (z : A) (n : ℕ) (xs : List A) → n ≤ length xs → tabulate n (λ k. get_or xs k z) ≡ take n xs
  tabulate_front z n xs h = sym (front z n (λ k. get_or xs k z) xs h (λ k q. refl))

module _ {A B : Type 0} where
  pub map_rule : (g : A → B) (n : ℕ) (f : ℕ → A) → map g (tabulate n f) ≡ tabulate n (λ k. g (f k))
  unfolding tabulate
  map_rule g zero f = refl
  map_rule g (suc n) f = ap (λ (xs : List B). g (f 0) ∷ xs) (map_rule g n (λ k. f (suc k)))

  pub map_same : (f g : A → B) (xs : List A) → ((x : A) → f x ≡ g x) → map f xs ≡ map g xs
  map_same f g [] h = refl
  map_same f g (x ∷ xs) h = ap₂ (λ (y : B) (ys : List B). y ∷ ys) (h x) (map_same f g xs h)

  pub map_at : (f : A → B) (xs : List A) (k : ℕ) (z : A) (y : B) → k < length xs → get_or (map f xs) k y ≡ f (get_or xs k z)
  map_at f [] k z y h = absurd (not-suc-le-zero h)
  map_at f (x ∷ xs) zero z y h = refl
  map_at f (x ∷ xs) (suc k) z y h = map_at f xs k z y (le_of_suc-le-suc h)
