-- From what the parts of a call promise to the contract of plain painting, for samples of any type: xs are the samples as
-- f32, of which the raster has n. Assumes nothing.
use Rattle.std.specs.Prelude.{Option, Ok, Err}
use Rattle.refusal.specs.Outcome.{Answer}
use mathlib.Core.Path.{◌≡◌, refl, sym, ap, subst, ◌∙◌}
use mathlib.Core.Bool.{true}
use mathlib.Core.List.{List}
use Prim.Native.Nat.{ℕ}
use lib.Ieee.{Float}
use lib.ListN.{length}
use Rattle.refusal.specs.declared.Refusal.{Refusal}
use Rattle.painting.specs.Paintings.{PlainPainting, plain_refusal}
use Rattle.painting.proofs.Refusals.{plain_free}
use Rattle.painting.proofs.Whole.{plain_refused, plain_done}
use Rattle.legend.specs.declared.Legend.{Legend}
use Rattle.legend.specs.Record.{stored_refusal}
use Rattle.legend.specs.Painters.{painter}
use Rattle.legend.proofs.AnyKind.{stored_is}
use Rattle.legend_paint.specs.forms.PlainOrLanes.{painted, plain_or_lanes}

-- what the painter asks, once nothing is refused
pub plainly_free : (l : Legend) {n o : ℕ} {s a : Answer} → s ≡ stored_refusal l → a ≡ plain_refusal s n o → a ≡ Ok tt
    → (stored_refusal l ≡ Ok tt) × (plain_or_lanes 0 ≡ true) × (o ≡ n)
plainly_free l {n} {o} {s} stored d e = let f = plain_free s n o (sym d ∙ e) in (sym stored ∙ f.0, refl, f.1)

asked : (l : Legend) (nodata : (Option Float)) (n o : ℕ) {s a : Answer} → s ≡ stored_refusal l → a ≡ plain_refusal s n o → a ≡ plain_refusal (painter l nodata).stored n o
asked l nodata n o stored d = d ∙ ap (λ (t : Answer). plain_refusal t n o) (stored ∙ sym (stored_is l nodata))

module _ (l : Legend) (nodata : (Option Float)) {xs : List Float} {out : List ℕ} {n : ℕ} (m : n ≡ length xs)
    {s a : Answer} (stored : s ≡ stored_refusal l) (d : a ≡ plain_refusal s n (length out)) where
  -- the call answers what it is refused by
  pub plainly_refused : {why : Refusal} {r : Answer} → a ≡ Err why → r ≡ Err why → PlainPainting (painter l nodata) xs out r out
  plainly_refused e f =
      subst (λ (r : Answer). PlainPainting (painter l nodata) xs out r out) (e ∙ sym f)
      (plain_refused (painter l nodata) xs out m (asked l nodata n (length out) stored d) e)

  pub plainly_done : a ≡ Ok tt → {out' : List ℕ} → out' ≡ painted (painter l nodata) 0 xs → PlainPainting (painter l nodata) xs out (Ok tt) out'
  unfolding painted
  plainly_done e {out'} w =
      subst (λ (r : Answer). PlainPainting (painter l nodata) xs out r out') e
      (plain_done (painter l nodata) xs out m (asked l nodata n (length out) stored d) e w)
