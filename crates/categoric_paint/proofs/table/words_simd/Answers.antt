-- `words_simd` meets its contract: looked up, and then shown where the sample is in the table, whose size is that of the look-up. Assumes nothing.
use mathlib.Core.Path.{◌≡◌, subst}
use mathlib.Core.Bool.{cond}
use mathlib.Core.List.{List}
use Prim.Native.Nat.{ℕ}
use native.Mathlib.Omega.{arith}
use lib.Ieee.{Float, nan}
use lib.ListN.{get_or}
use Rattle.lists.specs.Lanes.{LanesOf}
use Rattle.colormapper.specs.declared.Exclusions.{Exclusions}
use Rattle.categoric_table.specs.forms.InTable.{mappable_in_table}
use Rattle.categoric_table.proofs.Phases.{in-two-phases}
use Rattle.categoric_paint.proofs.table.words_simd.Goals as goal

sized : {lanes size asked : ℕ} (nodata : ℕ) (e : Exclusions) (value : List Float) (words : List ℕ) {r : List ℕ}
    → LanesOf 0 lanes (λ k. cond (mappable_in_table e asked (get_or value k nan)) (get_or words k 0) nodata) r → asked ≡ size
    → LanesOf 0 lanes (λ k. cond (mappable_in_table e size (get_or value k nan)) (get_or words k 0) nodata) r
sized {lanes} nodata e value words {r} masked same =
    subst (λ (m : ℕ). LanesOf 0 lanes (λ k. cond (mappable_in_table e m (get_or value k nan)) (get_or words k 0) nodata) r) same masked

pub returns : goal.returns
returns g c =
    in-two-phases _ _ _ _ c.args.p.exclusions c.args.v _ _ c.args.table.capacity c.gather-words.ensures (sized _ _ _ _ c.mask_missing.ensures (grind arith))
