-- A record's colour is that of its table, or without one that of its keys; its lanes are looked up as its samples are. Assumes nothing.
use Rattle.std.specs.Prelude.{Option, Some, None}
use mathlib.Core.Path.{◌≡◌, refl, sym, ap, ◌∙◌}
use mathlib.Core.Bool.{Bool, true, false, cond}
use mathlib.Core.List.{List, []}
use Prim.Native.Nat.{ℕ, zero, suc, ◌<◌}
use borrow.Author.Tests.{lt-ltb}
use lib.Dec.{ltb}
use lib.IntN.{ℤ, pos, negsuc}
use lib.Ieee.{Float}
use lib.ListN.{get_or}
use mir.Syntax.{w64}
use mir.Val.{SFits, of_z, to_z}
use mir.ValLaws.{to_z-of_z}
use Rattle.cast.specs.Truncated.{truncated}
use Rattle.colormapper.specs.Rule.{Rule, word, category, unknown, rule_color}
use Rattle.categoric_table.specs.Rule.{table_rule, categoric_rule_colors, table_color}
use Rattle.categoric_keys.specs.Rule.{eq_z, first_key, key_rule, plain_rule, plain_color, key_color}

-- a table has no entries, and keys have no words
table_only : (lookup xs ys : List ℕ) (size nodata : ℕ) (t : (Option ℤ))
    → rule_color (categoric_rule_colors lookup xs nodata) (table_rule size t) ≡ rule_color (categoric_rule_colors lookup ys nodata) (table_rule size t)
unfolding table_rule
table_only lookup xs ys size nodata (Some (pos n)) = go (ltb n size)
  where
    go : (b : Bool) → rule_color (categoric_rule_colors lookup xs nodata) (cond b (word n) unknown) ≡ rule_color (categoric_rule_colors lookup ys nodata)
        (cond b (word n) unknown)
    go true = refl
    go false = refl
table_only lookup xs ys size nodata (Some (negsuc n)) = refl
table_only lookup xs ys size nodata None = refl

entry_or : (xs ys colors : List ℕ) (nodata k : ℕ) (b : Bool) (r : Rule)
    → rule_color (categoric_rule_colors xs colors nodata) r ≡ rule_color (categoric_rule_colors ys colors nodata) r
    → rule_color (categoric_rule_colors xs colors nodata) (cond b (category k) r) ≡ rule_color (categoric_rule_colors ys colors nodata) (cond b (category k) r)
entry_or xs ys colors nodata k true r e = refl
entry_or xs ys colors nodata k false r e = e

first_only : (xs ys colors : List ℕ) (nodata : ℕ) (keys : List ℤ) (z : ℤ) (k n : ℕ)
    → rule_color (categoric_rule_colors xs colors nodata) (first_key keys z k n) ≡ rule_color (categoric_rule_colors ys colors nodata) (first_key keys z k n)
unfolding first_key
first_only xs ys colors nodata keys z k zero = refl
first_only xs ys colors nodata keys z k (suc n) =
    entry_or xs ys colors nodata k (eq_z (get_or keys k (pos 0)) z) (first_key keys z (suc k) n)
    (first_only xs ys colors nodata keys z (suc k) n)

key_only : (xs ys colors : List ℕ) (nodata : ℕ) (keys : List ℤ) (count : ℕ) (t : (Option ℤ))
    → rule_color (categoric_rule_colors xs colors nodata) (key_rule keys count t) ≡ rule_color (categoric_rule_colors ys colors nodata) (key_rule keys count t)
unfolding key_rule
key_only xs ys colors nodata keys count (Some z) = first_only xs ys colors nodata keys z 0 count
key_only xs ys colors nodata keys count None = refl

module _ (keys : List ℤ) (colors : List ℕ) (count : ℕ) (lookup : List ℕ) (size nodata : ℕ) where
  pub with_table : 0 < size → (v : Float) → table_color lookup size nodata v ≡ plain_color keys colors count lookup size nodata v
  unfolding table_color plain_color plain_rule
  with_table h v =
      table_only lookup [] colors size nodata (truncated v)
      ∙ sym (ap (λ (b : Bool). rule_color (categoric_rule_colors lookup colors nodata) (cond b (table_rule size (truncated v)) (key_rule keys count (truncated v))))
      (lt-ltb 0 size h))

  pub without_table : (v : Float) → key_color keys colors count nodata v ≡ plain_color keys colors count lookup 0 nodata v
  unfolding key_color plain_color plain_rule
  without_table v = key_only [] lookup colors nodata keys count (truncated v)

-- the colour by the keys: of a sample truncated to z, which the code hands on by its bits, and of one outside
module _ (keys : List ℤ) (colors : List ℕ) (count nodata : ℕ) (v : Float) where
  pub by_key : (z : ℤ) → SFits w64 z → truncated v ≡ Some z → {r : ℕ}
      → r ≡ rule_color (categoric_rule_colors [] colors nodata) (first_key keys (to_z w64 (of_z w64 z)) 0 count) → r ≡ key_color keys colors count nodata v
  unfolding key_color key_rule
  by_key z f e h =
      h
      ∙ ap (λ (y : ℤ). rule_color (categoric_rule_colors [] colors nodata) (first_key keys y 0 count)) (to_z-of_z w64 z f)
      ∙ sym (ap (λ (t : (Option ℤ)). rule_color (categoric_rule_colors [] colors nodata) (key_rule keys count t)) e)

  pub by_no_key : truncated v ≡ None → nodata ≡ key_color keys colors count nodata v
  unfolding key_color key_rule
  by_no_key e = sym (ap (λ (t : (Option ℤ)). rule_color (categoric_rule_colors [] colors nodata) (key_rule keys count t)) e)
