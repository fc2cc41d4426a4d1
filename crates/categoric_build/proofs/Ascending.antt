-- The keys of a record that a builder makes ascend. Assumes nothing.
use mathlib.Core.Path.{◌≡◌, refl, sym, ap₂, subst}
use mathlib.Core.Bool.{Bool, true, false, cond, ◌&&◌}
use mathlib.Core.List.{List, [], ◌∷◌}
use Prim.Native.Nat.{ℕ, zero, suc, ◌<◌}
use native.Mathlib.Omega.{arith}
use lib.Dec.{T}
use lib.IntN.{ℤ, pos}
use lib.Ieee.Fits.{and_i, and_l, and_r}
use lib.ListN.{length, get_or}
use lib.Signed.{lt_z}
use Rattle.categoric_build.specs.Categories.{Category, category, inserted, inserted_up_to, categories, keys_of}
use Rattle.categoric_lists.specs.Ascending.{ascends}
use Rattle.categoric_lists.proofs.Numbers.{lt_no, equal, both}

-- ---- from the head of the list on: each key is below the next one
abbrev under_next : ℤ → List ℤ → Bool
under_next k [] = true
under_next k (j ∷ ks) = lt_z k j

unfoldable ascending : List ℤ → Bool
ascending [] = true
ascending (k ∷ ks) = under_next k ks && ascending ks

abbrev at : List ℤ → ℕ → ℤ
at ks i = get_or ks i (pos 0)

next_below : (ks : List ℤ) → T (ascending ks) → (i : ℕ) → suc i < length ks → T (lt_z (at ks i) (at ks (suc i)))
unfolding ascending
next_below [] h i q = absurd (omega arith)
next_below (k ∷ []) h i q = absurd (omega arith)
next_below (k ∷ j ∷ ks) h zero q = and_l (lt_z k j) (ascending (j ∷ ks)) h
next_below (k ∷ j ∷ ks) h (suc i) q = next_below (j ∷ ks) (and_r (lt_z k j) (ascending (j ∷ ks)) h) i (omega arith)

by_next : (ks : List ℤ) (n : ℕ) → ((i : ℕ) → suc i < n → T (lt_z (at ks i) (at ks (suc i)))) → T (ascends ks n)
unfolding ascends
by_next ks zero h = tt
by_next ks (suc zero) h = tt
by_next ks (suc (suc n)) h = and_i (ascends ks (suc n)) (lt_z (at ks n) (at ks (suc n))) (by_next ks (suc n) (λ i q. h i (omega arith))) (h n (omega arith))

list_ascends : (ks : List ℤ) → ascending ks ≡ true → T (ascends ks (length ks))
list_ascends ks e = by_next ks (length ks) (next_below ks (subst T (sym e) tt))

-- ---- one category more
module _ (key : ℤ) (color : ℕ) where
  -- a smaller key before the categories stays before them
  under : (k : ℤ) (cs : List Category) → lt_z k key ≡ true → under_next k (keys_of cs) ≡ true → under_next k (keys_of (inserted key color cs)) ≡ true
  unfolding inserted
  under k [] h g = h
  under k (c ∷ cs) h g = go (lt_z c.key key) (lt_z key c.key)
    where
      go : (t u : Bool) → under_next k (keys_of (cond t (c ∷ inserted key color cs) (cond u (category key color ∷ c ∷ cs) (category key color ∷ cs)))) ≡ true
      go true u = g
      go false true = h
      go false false = h

  put_in : (cs : List Category) → ascending (keys_of cs) ≡ true → ascending (keys_of (inserted key color cs)) ≡ true
  unfolding inserted ascending
  put_in [] e = refl
  put_in (c ∷ cs) e = go (put_in cs) (lt_z c.key key) (lt_z key c.key) refl refl
    where
      go : (ascending (keys_of cs) ≡ true → ascending (keys_of (inserted key color cs)) ≡ true) → (t u : Bool) → lt_z c.key key ≡ t → lt_z key c.key ≡ u
          → ascending (keys_of (cond t (c ∷ inserted key color cs) (cond u (category key color ∷ c ∷ cs) (category key color ∷ cs)))) ≡ true
      go rest true u f g = let b = both (under_next c.key (keys_of cs)) (ascending (keys_of cs)) e in ap₂ ◌&&◌ (under c.key cs f b.0) (rest b.1)
      go rest false true f g = ap₂ ◌&&◌ g e
      go rest false false f g =
          subst (λ (k : ℤ). (under_next k (keys_of cs) && ascending (keys_of cs)) ≡ true)
          (equal c.key key (omega (arith, lt_no c.key key f, lt_no key c.key g))) e

first_ascend : (n : ℕ) (keys : List ℤ) (colors : List ℕ) → ascending (keys_of (inserted_up_to n keys colors)) ≡ true
unfolding inserted_up_to ascending
first_ascend zero keys colors = refl
first_ascend (suc n) keys colors = put_in (get_or keys n (pos 0)) (get_or colors n 0) (inserted_up_to n keys colors) (first_ascend n keys colors)

-- ---- THE LAW
pub categories_ascend : (keys : List ℤ) (colors : List ℕ) → T (ascends (keys_of (categories keys colors)) (length (keys_of (categories keys colors))))
categories_ascend keys colors = list_ascends (keys_of (categories keys colors)) (first_ascend (length keys) keys colors)
