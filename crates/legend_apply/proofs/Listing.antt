-- The values of a list of colours, and the list. Assumes nothing.
use Rattle.std.specs.Prelude.{None, Ok, Err}
use mathlib.Core.Path.{◌≡◌, refl, sym, ap, ◌∙◌}
use mathlib.Core.List.{List, map}
use Prim.Native.Nat.{ℕ}
use lib.IntN.{pos}
use lib.Ieee.{Float, binary32, add, sub, mul, div, of_int, of_bits}
use Rattle.lists.specs.Tabulate.{tabulate}
use Rattle.refusal.specs.declared.Refusal.{Refusal}
use Rattle.refusal.proofs.Outcomes.{made_done, made_refused, made_when, not_made}
use Rattle.banded_lists.specs.declared.ValueRange.{ValueRange}
use Rattle.legend.specs.declared.Legend.{Legend}
use Rattle.legend.specs.Record.{stored_refusal}
use Rattle.legend.specs.Painters.{painter}
use Rattle.legend_range.specs.ValueRanges.{range_in, total_range_refusal, total_value_range}
use Rattle.legend_range.proofs.Ranging.{range-stored}
use Rattle.legend_apply.specs.ColorLists.{value_at, list_colors, color_list}

-- the literal 255.0
last : of_bits binary32 0x437F_0000 ≡ of_int binary32 (pos 255)
unfolding of_bits of_int
last = refl

pub value-is : (range : ValueRange) (i : ℕ)
    → add binary32 range.start
    (mul binary32 (sub binary32 range.end range.start) (div binary32 (of_int binary32 (pos i)) (of_bits binary32 0x437F_0000))) ≡ value_at range i
unfolding value_at
value-is range i =
    ap (λ (d : Float). add binary32 range.start (mul binary32 (sub binary32 range.end range.start) (div binary32 (of_int binary32 (pos i)) d))) last

module _ (l : Legend) where
  -- a legend that has a range is not refused
  pub ranged : {range : ValueRange} → total_value_range l ≡ Ok range → (total_range_refusal l ≡ Ok tt) × (range_in l.kind l ≡ range)
  unfolding total_value_range
  ranged e = made_done (total_range_refusal l) (range_in l.kind l) e

  pub ranged_stored : {range : ValueRange} → total_value_range l ≡ Ok range → stored_refusal l ≡ Ok tt
  ranged_stored e = range-stored l (ranged e).0

  pub list_refused : {why : Refusal} → total_value_range l ≡ Err why → color_list l ≡ Err why
  unfolding total_value_range color_list
  list_refused e = not_made (list_colors l) (made_refused (total_range_refusal l) (range_in l.kind l) e)

  pub list_done : {range : ValueRange} {values : List Float} {words : List ℕ} → total_value_range l ≡ Ok range → values ≡ tabulate 256 (value_at range)
      → words ≡ map (painter l None).plain values → Ok words ≡ color_list l
  unfolding list_colors color_list
  list_done e v w =
      let r = ranged e in
      ap Ok (w ∙ ap (map (painter l None).plain) (v ∙ ap (λ (x : ValueRange). tabulate 256 (value_at x)) (sym r.1))) ∙ sym (made_when (list_colors l) r.0)
