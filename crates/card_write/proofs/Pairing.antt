-- Keys and colours of one length, paired: one more, how many, and those that a record counts. Assumes nothing.
use Prim.Native.Nat.{ℕ, zero, suc, ◌+◌, ◌*◌, ◌≤◌, ◌<◌}
use mathlib.Core.Path.{◌≡◌, refl, sym, ap, ◌∙◌}
use mathlib.Core.List.{List, [], ◌∷◌, ◌++◌}
use native.Mathlib.Numerals.{add-one}
use native.Mathlib.Omega.{arith}
use lib.IntN.{ℤ, pos}
use lib.ListN.{length, get_or, take}
use Rattle.lists.specs.Tabulate.{tabulate}
use Rattle.categoric_lists.proofs.Numbers.{back}
use Rattle.categoric_build.specs.Categories.{Category, category}
use Rattle.catgegoric.specs.declared.CategoricNumeric.{CategoricNumeric}
use Rattle.card_bytes.specs.Numbers.{overwritten}
use Rattle.card_bytes.specs.Entries.{entries_of}
use Rattle.card_bytes.proofs.Entries.{entries_of_more, length-entries_of}
use Rattle.card_layout.specs.Entries.{category_bytes}
use Rattle.card_layout.specs.Stored.{counted_categories}
use Rattle.card_write.specs.forms.Parts.{paired}
use Rattle.card_write.proofs.Lengths.{length-category, stored_counts}
use Rattle.card_write.proofs.Behind.{overwritten_after}
use Rattle.card_write.proofs.Putting.{no_entries}

paired_more : (keys : List ℤ) (colors : List ℕ) (i : ℕ) → i < length keys → i < length colors
    → paired (take (suc i) keys) (take (suc i) colors) ≡ paired (take i keys) (take i colors) ++ (category (get_or keys i (pos 0)) (get_or colors i 0) ∷ [])
unfolding paired
paired_more [] colors i h g = absurd (omega arith)
paired_more (key ∷ keys) [] i h g = absurd (omega arith)
paired_more (key ∷ keys) (color ∷ colors) zero h g = refl
paired_more (key ∷ keys) (color ∷ colors) (suc i) h g =
    ap (λ (cs : List Category). category key color ∷ cs) (paired_more keys colors i (omega arith) (omega arith))

length_paired : (keys : List ℤ) (colors : List ℕ) (i : ℕ) → i ≤ length keys → i ≤ length colors → length (paired (take i keys) (take i colors)) ≡ i
unfolding paired
length_paired keys colors zero h g = refl
length_paired [] colors (suc i) h g = absurd (omega arith)
length_paired (key ∷ keys) [] (suc i) h g = absurd (omega arith)
length_paired (key ∷ keys) (color ∷ colors) (suc i) h g = ap suc (length_paired keys colors i (omega arith) (omega arith))

paired_tabulate : (keys : List ℤ) (colors : List ℕ) (n : ℕ) → n ≤ length keys → n ≤ length colors
    → paired (take n keys) (take n colors) ≡ tabulate n (λ k. category (get_or keys k (pos 0)) (get_or colors k 0))
unfolding paired tabulate
paired_tabulate keys colors zero h g = refl
paired_tabulate [] colors (suc n) h g = absurd (omega arith)
paired_tabulate (key ∷ keys) [] (suc n) h g = absurd (omega arith)
paired_tabulate (key ∷ keys) (color ∷ colors) (suc n) h g =
    ap (λ (cs : List Category). category key color ∷ cs) (paired_tabulate keys colors n (omega arith) (omega arith))

pub paired_counted : (c : CategoricNumeric) → c.count ≤ length c.keys → c.count ≤ length c.colors
    → paired (take c.count c.keys) (take c.count c.colors) ≡ counted_categories c
unfolding counted_categories
paired_counted c h g = paired_tabulate c.keys c.colors c.count h g

-- ---- their bytes
pub length_categories : (keys : List ℤ) (colors : List ℕ) (i : ℕ) → i ≤ length keys → i ≤ length colors
    → length (entries_of category_bytes (paired (take i keys) (take i colors))) ≡ 12 * i
length_categories keys colors i h g =
    length-entries_of 12 category_bytes (paired (take i keys) (take i colors)) length-category ∙ ap (λ (n : ℕ). 12 * n) (length_paired keys colors i h g)

pub no_categories : (at : ℕ) (l : List ℕ) → overwritten at (entries_of category_bytes (paired [] [])) l ≡ l
unfolding paired
no_categories at l = no_entries at category_bytes l

pub categories_more : (keys : List ℤ) (colors : List ℕ) (i : ℕ) → i < length keys → i < length colors
    → entries_of category_bytes (paired (take i keys) (take i colors)) ++ category_bytes (category (get_or keys i (pos 0)) (get_or colors i 0))
    ≡ entries_of category_bytes (paired (take (i + 1) keys) (take (i + 1) colors))
categories_more keys colors i h g =
    rw (add-one i) (sym (ap (entries_of category_bytes) (paired_more keys colors i h g)
    ∙ entries_of_more category_bytes (paired (take i keys) (take i colors)) (category (get_or keys i (pos 0)) (get_or colors i 0))))

pub ruleset stored_entries = (stored_counts, paired_counted)

pub ruleset laying_categories = (overwritten_after, no_categories, categories_more, length_categories, back)
