-- From what the parts of a call promise to the contract of lane painting, for samples of any type: xs are the samples as
-- f32, of which the raster has n. Assumes nothing.
use Rattle.std.specs.Prelude.{Option, Ok, Err}
use Rattle.refusal.specs.Outcome.{Answer}
use mathlib.Core.Path.{◌≡◌, sym, ap, subst, ◌∙◌}
use mathlib.Core.Bool.{Bool, true, cond}
use mathlib.Core.List.{List}
use Prim.Native.Nat.{ℕ, ◌≤◌, ◌<◌}
use native.Mathlib.Omega.{arith}
use lib.Ieee.{Float}
use lib.ListN.{length}
use Rattle.refusal.specs.declared.Refusal.{Refusal}
use Rattle.painting.specs.Painted.{scratch_after}
use Rattle.painting.specs.Paintings.{LanePainting, lane_refusal}
use Rattle.painting.proofs.Refusals.{Free, lane_free, lane_sizes}
use Rattle.painting.proofs.Whole.{lane_refused}
use Rattle.legend.specs.declared.Legend.{Legend}
use Rattle.legend.specs.Record.{stored_refusal, simd_supported}
use Rattle.legend.specs.Painters.{painter}
use Rattle.legend.proofs.AnyKind.{stored_is, simd-is}
use Rattle.legend_paint.specs.forms.PlainOrLanes.{painted, plain_or_lanes}
use Rattle.legend_paint.proofs.Lanes.{painted-lanes, count-lanes}

-- what `update_scratch` and the painter ask, once nothing is refused; k and o are the lengths of scratch and output
module _ (s : Answer) (L k n o : ℕ) {a : Answer} (d : a ≡ lane_refusal s L k n o) (e : a ≡ Ok tt) where
  free : Free s L k n o
  free = lane_free s L k n o (sym d ∙ e)

  pub scratch_free : (0 < L) × (L ≤ k)
  scratch_free = let z = lane_sizes L free.count in (z.0, omega (arith, free.room, z.1))

  pub lanes_free : (l : Legend) → s ≡ stored_refusal l → (stored_refusal l ≡ Ok tt) × (plain_or_lanes L ≡ true) × (o ≡ n)
  lanes_free l stored = (sym stored ∙ free.sound, count-lanes L free.count, free.same)

asked : (l : Legend) (nodata : (Option Float)) (L k n o : ℕ) {s a : Answer} → s ≡ stored_refusal l → a ≡ lane_refusal s L k n o
    → a ≡ lane_refusal (painter l nodata).stored L k n o
asked l nodata L k n o stored d = d ∙ ap (λ (t : Answer). lane_refusal t L k n o) (stored ∙ sym (stored_is l nodata))

module _ (l : Legend) (nodata : (Option Float)) {xs : List Float} {out scratch : List ℕ} {n L : ℕ} (m : n ≡ length xs)
    {s a : Answer} (stored : s ≡ stored_refusal l) (d : a ≡ lane_refusal s L (length scratch) n (length out)) where
  -- the call answers what it is refused by
  pub lanes_refused : {why : Refusal} {r : Answer} → a ≡ Err why → r ≡ Err why → LanePainting (painter l nodata) L xs out scratch r out scratch
  lanes_refused e f =
      subst (λ (r : Answer). LanePainting (painter l nodata) L xs out scratch r out scratch) (e ∙ sym f)
      (lane_refused (painter l nodata) xs out m L scratch (asked l nodata L (length scratch) n (length out) stored d) e)

  pub lanes-done : a ≡ Ok tt → {out' scratch' : List ℕ} {simd : Bool} → simd ≡ simd_supported l → out' ≡ painted (painter l nodata) L xs
      → scratch' ≡ cond simd (scratch_after L out' scratch) scratch → LanePainting (painter l nodata) L xs out scratch (Ok tt) out' scratch'
  lanes-done e {out'} supported w k =
      let p = painter l nodata in
      let sizes = scratch_free s L (length scratch) n (length out) d e in
      record {
        answered = sym e ∙ asked l nodata L (length scratch) n (length out) stored d ∙ ap (λ (t : ℕ). lane_refusal p.stored L (length scratch) t (length out)) m;
        output = w ∙ sym (painted-lanes p L xs (λ (z : L ≡ 0). omega (arith, sizes.0, z)));
        scratch_after = k ∙ ap (λ (b : Bool). cond b (scratch_after L out' scratch) scratch) (supported ∙ sym (simd-is l nodata));
      }
