-- A chunk that is looked up in a table in two phases has the table's colours, and nodata where a sample is excluded. Assumes nothing.
use mathlib.Core.Path.{◌≡◌, refl, ap, ◌∙◌}
use mathlib.Core.Bool.{Bool, true, false, not, cond, ◌&&◌, ◌||◌}
use mathlib.Core.List.{List}
use Prim.Native.Nat.{ℕ, ◌≤◌}
use lib.Ieee.{Float, nan, inf, fin, lt, eq, ne, is_nan}
use lib.ListN.{get_or}
use Rattle.floats.specs.RampIndex.{floor_of}
use Rattle.lists.specs.Lanes.{LanesOf}
use Rattle.lists.proofs.LanesOf.{lane_at_lem, lanes_agree}
use Rattle.colormapper.specs.declared.Exclusions.{Exclusions}
use Rattle.colormapper.specs.forms.Exclusions.{excluded}
use Rattle.categoric_table.specs.Rule.{table_color}
use Rattle.categoric_table.specs.forms.InTable.{in_table, clamp, mappable_in_table}
use Rattle.categoric_table.proofs.TableTest.{chosen}

-- ---- both tests give nodata, so one choice does for two; a NaN, which is excluded, is in no table
one_choice : (t a b : Bool) (w nodata : ℕ) → cond ((t && not a) && not b) w nodata ≡ cond (a || b) nodata (cond t w nodata)
one_choice true true b w nodata = refl
one_choice true false true w nodata = refl
one_choice true false false w nodata = refl
one_choice false true b w nodata = refl
one_choice false false true w nodata = refl
one_choice false false false w nodata = refl

masked_once : (e : Exclusions) (size : ℕ) (v : Float) (w nodata : ℕ) → cond (mappable_in_table e size v) w nodata ≡ cond (excluded e v) nodata
    (cond (in_table size v) w nodata)
unfolding mappable_in_table excluded ne is_nan
masked_once e size nan w nodata = unfold in_table lt in refl
masked_once e size (inf s) w nodata = one_choice (in_table size (inf s)) (eq (inf s) e.nodata) (eq (inf s) e.zero) w nodata
masked_once e size (fin s m k) w nodata = one_choice (in_table size (fin s m k)) (eq (fin s m k) e.nodata) (eq (fin s m k) e.zero) w nodata

module _ (lanes : ℕ) (lookup : List ℕ) (size nodata : ℕ) (e : Exclusions) (value : List Float) (words r : List ℕ) where
  pub in-two-phases :
      size ≤ 513
      → LanesOf 0 lanes (λ k. get_or lookup (floor_of (clamp size (get_or value k nan))) 0) words
      → LanesOf 0 lanes (λ k. cond (mappable_in_table e size (get_or value k nan)) (get_or words k 0) nodata) r
      → LanesOf 0 lanes (λ k. cond (excluded e (get_or value k nan)) nodata (table_color lookup size nodata (get_or value k nan))) r
  in-two-phases h gathered known =
      lanes_agree known
      (λ k q.
      let v = get_or value k nan in
      masked_once e size v (get_or words k 0) nodata
      ∙ ap (λ (w : ℕ). cond (excluded e v) nodata (cond (in_table size v) w nodata)) (lane_at_lem gathered 0 k q)
      ∙ ap (cond (excluded e v) nodata) (chosen lookup size nodata h v))
