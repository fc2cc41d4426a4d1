-- Lists that are read by index, and what holds of each of their entries. Assumes nothing.
use mathlib.Core.Path.{◌≡◌, refl, sym, ap₂, ◌∙◌}
use mathlib.Core.Bool.{true, ◌&&◌, true≢false}
use mathlib.Core.List.{List, [], ◌∷◌}
use Prim.Native.Nat.{ℕ, zero, suc, ◌<◌}
use native.Mathlib.Omega.{arith}
use lib.Dec.{eqb}
use borrow.Author.Tests.{eq-eqb, eqb-true}
use lib.IntN.{pos}
use lib.ListN.{length, get_or, take, length-map, get_or-map}
use Rattle.lists.specs.Padded.{padded}
use Rattle.lists.proofs.Tabulated.{tabulate_own}
use Rattle.lists.proofs.Entries.{same_rule}
use Rattle.lists.proofs.Padding.{get_or-padded, padded_front}
use Rattle.categoric_build.specs.Categories.{Category, category, keys_of, colors_of}
use Rattle.categoric_build.specs.Table.{table_size, table}
use Rattle.categoric_build.proofs.Tables.{length-table}
use Rattle.catgegoric.specs.Made.{record_of}
use Rattle.card_bytes.specs.Entries.{All}
use Rattle.card_layout.specs.Stored.{counted_categories, same_words}
use Rattle.claim_cards.proofs.Settings.{both}

module _ {A : Type 0} (P : A → Type 0) where
  pub all_take : (n : ℕ) (xs : List A) → All P xs → All P (take n xs)
  unfolding All
  all_take zero xs h = tt
  all_take (suc n) [] h = tt
  all_take (suc n) (x ∷ xs) h = (h.0, all_take n xs h.1)

  pub all_at : (xs : List A) (k : ℕ) (z : A) → All P xs → k < length xs → P (get_or xs k z)
  unfolding All
  all_at [] k z h q = absurd (omega arith)
  all_at (x ∷ xs) zero z h q = h.0
  all_at (x ∷ xs) (suc k) z h q = all_at xs k z h.1 (omega arith)

-- ---- words
pub same_itself : (ws : List ℕ) → same_words ws ws ≡ true
unfolding same_words
same_itself [] = refl
same_itself (w ∷ ws) = ap₂ ◌&&◌ (eq-eqb w w refl) (same_itself ws)

pub same_told : (ws os : List ℕ) → same_words ws os ≡ true → ws ≡ os
unfolding same_words
same_told [] [] e = refl
same_told (w ∷ ws) (o ∷ os) e = let b = both (eqb w o) (same_words ws os) e in ap₂ (λ x xs. x ∷ xs) (eqb-true w o b.0) (same_told ws os b.1)
same_told [] (o ∷ os) e = absurd (true≢false (sym e))
same_told (w ∷ ws) [] e = absurd (true≢false (sym e))

-- ---- the record of some categories counts them
module _ (cs : List Category) where
  pub counted-record : counted_categories (record_of cs) ≡ cs
  unfolding counted_categories record_of
  counted-record =
      same_rule (length cs) (λ k. category (get_or (padded (pos 0) 256 (keys_of cs)) k (pos 0)) (get_or (padded 0 256 (colors_of cs)) k 0))
      (λ k. get_or cs k none) (λ k h. ap₂ category (key_at k h) (color_at_lem k h))
      ∙ tabulate_own none cs
    where
      none : Category
      none = category (pos 0) 0

      key_at : (k : ℕ) → k < length cs → get_or (padded (pos 0) 256 (keys_of cs)) k (pos 0) ≡ (get_or cs k none).key
      key_at k h =
          get_or-padded (pos 0) 256 (keys_of cs) k (pos 0) (omega (arith, h, length-map cs (λ (c : Category). c.key)))
          ∙ get_or-map (λ (c : Category). c.key) cs k none

      color_at_lem : (k : ℕ) → k < length cs → get_or (padded 0 256 (colors_of cs)) k 0 ≡ (get_or cs k none).color
      color_at_lem k h =
          get_or-padded 0 256 (colors_of cs) k 0 (omega (arith, h, length-map cs (λ (c : Category). c.color)))
          ∙ get_or-map (λ (c : Category). c.color) cs k none

  pub keys_recorded : take (length cs) (padded (pos 0) 256 (keys_of cs)) ≡ keys_of cs
  keys_recorded = padded_front (pos 0) 256 (keys_of cs) refl (length-map cs (λ (c : Category). c.key))

  pub colors_recorded : take (length cs) (padded 0 256 (colors_of cs)) ≡ colors_of cs
  colors_recorded = padded_front 0 256 (colors_of cs) refl (length-map cs (λ (c : Category). c.color))

  pub table_recorded : take (table_size (keys_of cs)) (padded 0 513 (table (keys_of cs) (colors_of cs))) ≡ table (keys_of cs) (colors_of cs)
  table_recorded = padded_front 0 513 (table (keys_of cs) (colors_of cs)) refl (length-table (keys_of cs) (colors_of cs))
