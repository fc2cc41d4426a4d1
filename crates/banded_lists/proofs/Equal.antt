-- Equal bands: what an answer of `Done` says of the count and the colours, how many there are, and that the zeros after the colours are not read. Assumes
-- nothing.
use Rattle.std.specs.Prelude.{Ok}
use Rattle.refusal.specs.Outcome.{Answer, refuse_if}
use mathlib.Core.Path.{◌≡◌, refl, sym, ap, ◌∙◌}
use mathlib.Core.Bool.{not}
use mathlib.Core.List.{List, []}
use Prim.Native.Nat.{ℕ, ◌+◌, ◌≤◌, ◌<◌}
use native.Mathlib.Numerals.{add-one}
use native.Mathlib.Omega.{arith}
use borrow.Author.Tests.{ltb-false, eqb-true, not-false}
use lib.Dec.{ltb, eqb}
use lib.Ieee.{Float, binary32, add, lt}
use lib.ListN.{length, get_or, set}
use Rattle.lists.specs.Tabulate.{tabulate}
use Rattle.lists.specs.Padded.{padded}
use Rattle.lists.proofs.Tabulated.{length-tabulate, get_d_tabulate, tabulated}
use Rattle.lists.proofs.Padding.{get_or-padded, Storing, storing_turn}
use Rattle.refusal.specs.declared.Refusal.TheVariants.{StartAboveEnd, TooManyBands, ColorCountDiffers}
use Rattle.refusal.proofs.Outcomes.{passed}
use Rattle.banded_columns.specs.declared.LegendBand.{LegendBand}
use Rattle.banded_lists.specs.Padded.{blank_band, padded_bands}
use Rattle.banded_lists.specs.EqualBands.{band_step, band_start, band_from, equal_bands, equal_refusal}
use Rattle.banded_lists.proofs.Storing.{no_bands-stored}

-- a list whose length is not refused is as long as the count
pub same_count : (given count : ℕ) (rest : Answer) → refuse_if (not (eqb given count)) ColorCountDiffers rest ≡ Ok tt → given ≡ count
same_count given count rest e = eqb-true given count (not-false (eqb given count) (passed (not (eqb given count)) ColorCountDiffers rest e).0)

module _ (count : ℕ) (start end : Float) (given : ℕ) (e : equal_refusal count start end given ≡ Ok tt) where
  past : refuse_if (ltb 64 count) TooManyBands (refuse_if (not (eqb given count)) ColorCountDiffers (Ok tt)) ≡ Ok tt
  unfolding equal_refusal
  past = (passed (lt end start) StartAboveEnd (refuse_if (ltb 64 count) TooManyBands (refuse_if (not (eqb given count)) ColorCountDiffers (Ok tt))) e).1

  pub equal_few : count ≤ 64
  equal_few = ltb-false 64 count (passed (ltb 64 count) TooManyBands (refuse_if (not (eqb given count)) ColorCountDiffers (Ok tt)) past).0

  pub equal_same : given ≡ count
  equal_same = same_count given count (Ok tt) (passed (ltb 64 count) TooManyBands (refuse_if (not (eqb given count)) ColorCountDiffers (Ok tt)) past).1

-- two rules that agree below n
tabulate-same : {A : Type 0} (z : A) (n : ℕ) (f g : ℕ → A) → ((k : ℕ) → k < n → f k ≡ g k) → tabulate n f ≡ tabulate n g
tabulate-same z n f g all = tabulated z n g (tabulate n f) (length-tabulate n f) (λ k h. get_d_tabulate n f k z h ∙ all k h)

pub equal_length : (count : ℕ) (start end : Float) (colors : List ℕ) → length (equal_bands count start end colors) ≡ count
unfolding equal_bands
equal_length count start end colors = length-tabulate count _

pub equal_padded : (count : ℕ) (start end : Float) (colors : List ℕ) → length colors ≡ count → equal_bands count start end (padded 0 256 colors)
    ≡ equal_bands count start end colors
unfolding equal_bands
equal_padded count start end colors e =
    let step = band_step count start end in
    tabulate-same blank_band count (λ k. band_from (band_start start step k) step (get_or (padded 0 256 colors) k 0))
    (λ k. band_from (band_start start step k) step (get_or colors k 0))
    (λ k h. ap (band_from (band_start start step k) step) (get_or-padded 0 256 colors k 0 (omega arith)))

-- ---- the loop over the bands: its position, and the bands stored so far
pub record Laying (start step : Float) (colors : List ℕ) (count i : ℕ) (position : Float) (bands : List LegendBand) : Type 0 where
  pub at : position ≡ band_start start step i
  pub stored : Storing blank_band (λ k. band_from (band_start start step k) step (get_or colors k 0)) 64 count i bands

module _ {start step : Float} {colors : List ℕ} {count : ℕ} where
  pub laying_start : {bands : List LegendBand} → bands ≡ padded_bands [] → Laying start step colors count 0 start bands
  unfolding band_start
  laying_start e = record { at = refl; stored = no_bands-stored e }

  pub laying_turn : {i : ℕ} {position : Float} {bands : List LegendBand} {b : LegendBand} → Laying start step colors count i position bands → i < count
      → count ≤ 64 → b ≡ band_from position step (get_or colors i 0)
      → Laying start step colors count (i + 1) (add binary32 position step) (set bands i b)
  unfolding band_start
  laying_turn {i} l h g e =
      record {
        at = ap (λ (p : Float). add binary32 p step) l.at ∙ sym (ap (band_start start step) (add-one i));
        stored = storing_turn l.stored h g (e ∙ ap (λ (p : Float). band_from p step (get_or colors i 0)) l.at);
      }
