-- A stored table against that of the keys: its size, and its words one by one. Assumes nothing.
use Prim.Native.Nat.{ℕ, zero, suc, ◌≤◌, ◌<◌}
use mathlib.Core.Path.{◌≡◌, refl, sym, ap, ap₂, ◌∙◌}
use mathlib.Core.Bool.{Bool, true, false, ◌&&◌}
use mathlib.Core.List.{List, [], ◌∷◌}
use native.Mathlib.Omega.{arith}
use borrow.Author.Tests.{eq-eqb, ne_eqb}
use lib.Dec.{eqb}
use lib.IntN.{ℤ}
use lib.ListN.{length, get_or, take}
use Rattle.lists.specs.Padded.{padded}
use Rattle.lists.proofs.Padding.{padded_front}
use Rattle.categoric_build.specs.Table.{table_size, table}
use Rattle.categoric_build.proofs.Tables.{length-table}
use Rattle.catgegoric.specs.declared.CategoricNumeric.{CategoricNumeric}
use Rattle.card_layout.specs.Stored.{same_words, table_of_keys}

-- ---- the first n words of two lists
pub words_same : (n : ℕ) (ws os : List ℕ) → n ≤ length ws → n ≤ length os → ((k : ℕ) → k < n → get_or ws k 0 ≡ get_or os k 0)
    → same_words (take n ws) (take n os) ≡ true
unfolding same_words
words_same zero ws os h g same = refl
words_same (suc n) [] os h g same = absurd (omega (arith, h))
words_same (suc n) (w ∷ ws) [] h g same = absurd (omega (arith, g))
words_same (suc n) (w ∷ ws) (o ∷ os) h g same =
    ap₂ ◌&&◌ (eq-eqb w o (same 0 (omega arith))) (words_same n ws os (omega (arith, h)) (omega (arith, g)) (λ k q. same (suc k) (omega (arith, q))))

pub words_differ : (n i : ℕ) (ws os : List ℕ) → i < n → i < length ws → i < length os → (get_or ws i 0 ≡ get_or os i 0 → ⊥)
    → same_words (take n ws) (take n os) ≡ false
unfolding same_words
words_differ zero i ws os q h g e = absurd (omega (arith, q))
words_differ (suc n) i [] os q h g e = absurd (omega (arith, h))
words_differ (suc n) i (w ∷ ws) [] q h g e = absurd (omega (arith, g))
words_differ (suc n) zero (w ∷ ws) (o ∷ os) q h g e = ap (λ (b : Bool). b && same_words (take n ws) (take n os)) (ne_eqb w o e)
words_differ (suc n) (suc i) (w ∷ ws) (o ∷ os) q h g e =
    go (eqb w o) (words_differ n i ws os (omega (arith, q)) (omega (arith, h)) (omega (arith, g)) e)
  where
    go : (b : Bool) {t : Bool} → t ≡ false → (b && t) ≡ false
    go true f = f
    go false f = refl

-- ---- that of a record
module _ (c : CategoricNumeric) where
  abbrev keys : List ℤ
  keys = take c.count c.keys

  abbrev colors : List ℕ
  colors = take c.count c.colors

  pub size_differs : (c.lookup_count ≡ table_size keys → ⊥) → false ≡ table_of_keys c
  unfolding table_of_keys
  size_differs n =
      sym (ap (λ (b : Bool). b && same_words (take c.lookup_count c.lookup) (table keys colors)) (ne_eqb c.lookup_count (table_size keys) n))

  pub words_compared : {n : ℕ} {others : List ℕ} → c.lookup_count ≡ n → n ≡ table_size keys → others ≡ padded 0 513 (table keys colors)
      → same_words (take n c.lookup) (take n others) ≡ table_of_keys c
  unfolding table_of_keys
  words_compared {n} {others} e f g =
      let stored : ℕ → List ℕ = λ k. take k c.lookup in
      ap (same_words (stored n)) (padded_front 0 513 (table keys colors) g (length-table keys colors ∙ sym f))
      ∙ ap (λ (k : ℕ). same_words (stored k) (table keys colors)) (sym e)
      ∙ sym (ap (λ (b : Bool). b && same_words (stored c.lookup_count) (table keys colors)) (eq-eqb c.lookup_count (table_size keys) (e ∙ f)))
