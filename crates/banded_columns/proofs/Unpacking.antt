-- An array of one field of each band, and the bands again from the three arrays. Assumes nothing.
use mathlib.Core.Path.{◌≡◌, refl, sym, ap, ◌∙◌}
use mathlib.Core.List.{List, [], ◌∷◌, map}
use Prim.Native.Nat.{ℕ, zero, suc, ◌≤◌, ◌<◌}
use lib.Ieee.{nan}
use lib.ListN.{length, get_or, take}
use lib.Seq.{length-take-le, get_or-take}
use Rattle.lists.specs.Tabulate.{tabulate}
use Rattle.lists.proofs.Tabulated.{tabulated}
use Rattle.banded_columns.specs.declared.LegendBand.{LegendBand}
use Rattle.banded_columns.proofs.Past.{no_band}

-- a list's map by its entries
mapped : {A B : Type 0} (g : A → B) (z : A) (xs : List A) → tabulate (length xs) (λ k. g (get_or xs k z)) ≡ map g xs
unfolding tabulate
mapped g z [] = refl
mapped g z (x ∷ xs) = ap (λ ys. g x ∷ ys) (mapped g z xs)

pub unpacked : {A B : Type 0} (g : A → B) (z : A) (y : B) (xs : List A) {n : ℕ} {r : List B} → length xs ≡ n → length r ≡ n
    → ((k : ℕ) → k < n → get_or r k y ≡ g (get_or xs k z)) → r ≡ map g xs
unpacked g z y xs {n} {r} e l each =
    tabulated y n (λ k. g (get_or xs k z)) r l each ∙ ap (λ m. tabulate m (λ k. g (get_or xs k z))) (sym e) ∙ mapped g z xs

-- the bands again, from the three arrays
together : (bands : List LegendBand) (k : ℕ)
    → ◌≡◌ {A =
    LegendBand} (record {
      start = get_or (map (λ (b : LegendBand). b.start) bands) k nan;
      end = get_or (map (λ (b : LegendBand). b.end) bands) k nan;
      color = get_or (map (λ (b : LegendBand). b.color) bands) k 0;
    }) (get_or bands k no_band)
together [] k = refl
together (b ∷ bs) zero = refl
together (b ∷ bs) (suc k) = together bs k

pub repacked : (n : ℕ) (bands : List LegendBand) → n ≤ length bands
    → tabulate n (λ k. record {
      start = get_or (map (λ (b : LegendBand). b.start) bands) k nan;
      end = get_or (map (λ (b : LegendBand). b.end) bands) k nan;
      color = get_or (map (λ (b : LegendBand). b.color) bands) k 0;
    }) ≡ take n bands
repacked n bands h = sym (tabulated no_band n _ (take n bands) (length-take-le n bands h) (λ k q. get_or-take n bands k no_band q ∙ sym (together bands k)))
