-- The table of colours by key (docs/RULES.md, "Categoric"), of any keys and colours. Definitions only.
use Rattle.std.specs.Prelude.{ℕ, zero, suc, ◌+◌, Bool, cond, ◌&&◌, List, [], ltb, ℤ, pos, length, get_or, set, replicate}
use Rattle.std.specs.Int.Signed.{lt_z, le_z}
use Rattle.categoric_lists.specs.Whole.{whole}

-- of the first n keys the one that comes before the others; 0 where there is no key
unfoldable pub foremost : (before : ℤ → ℤ → Bool) (n : ℕ) (keys : List ℤ) → ℤ
foremost before zero keys = get_or keys 0 (pos 0)
foremost before (suc n) keys = cond (before (get_or keys n (pos 0)) (foremost before n keys)) (get_or keys n (pos 0)) (foremost before n keys)

abbrev pub smallest : List ℤ → ℤ
smallest keys = foremost lt_z (length keys) keys

abbrev pub largest : List ℤ → ℤ
largest keys = foremost (λ x y. lt_z y x) (length keys) keys

-- at least one key, smallest >= 0 and largest <= 512
unfoldable pub has_table : List ℤ → Bool
has_table keys = (ltb 0 (length keys) && le_z (pos 0) (smallest keys)) && le_z (largest keys) (pos 512)

-- largest + 1 words; no table has none
unfoldable pub table_size : List ℤ → ℕ
table_size keys = cond (has_table keys) (whole (largest keys) + 1) 0

-- the words of the first n keys, written over others one after the other
unfoldable pub written : (n : ℕ) (keys : List ℤ) (colors words : List ℕ) → List ℕ
written zero keys colors words = words
written (suc n) keys colors words = set (written n keys colors words) (whole (get_or keys n (pos 0))) (get_or colors n 0)

-- TRANSPARENT in every word, then the keys' words over it
unfoldable pub table : (keys : List ℤ) (colors : List ℕ) → List ℕ
table keys colors = cond (has_table keys) (written (length keys) keys colors (replicate (table_size keys) 0)) []
