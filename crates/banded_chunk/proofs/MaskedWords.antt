-- The colours of lanes, masked, are their words by the rule that gave the colours: the lane rule or the plain rule, for any lane count. Assumes nothing.
use mathlib.Core.Path.{◌≡◌, ap, ◌∙◌}
use mathlib.Core.Bool.{cond}
use mathlib.Core.List.{List}
use Prim.Native.Nat.{ℕ, ◌≤◌}
use native.Mathlib.Omega.{arith}
use lib.Ieee.{Float, nan}
use lib.ListN.{length, take, get_or}
use lib.Seq.{length-take-le}
use Rattle.lists.specs.Lanes.{LanesOf}
use Rattle.lists.specs.Padded.{padded}
use Rattle.lists.proofs.Padding.{length-padded, padded_front}
use Rattle.lists.proofs.LanesOf.{lane_at_lem, lanes-length, lanes-padded}
use Rattle.colormapper.specs.forms.Exclusions.{excluded}
use Rattle.colormapper.proofs.MaskedLanes.{masked-lanes}
use Rattle.painting.specs.Masked.{masked}
use Rattle.painting.proofs.Masking.{lanes-masked}
use Rattle.banded_columns.specs.declared.LegendBand.{LegendBand}
use Rattle.banded_rule.specs.PlainRule.{plain_color}
use Rattle.banded_lanes.specs.LaneRule.{lane_colors}
use Rattle.banded_lanes.proofs.LaneLaw.{lane-length}
use Rattle.banded_chunk.specs.declared.BandedPaint.{BandedPaint}
use Rattle.banded_chunk.specs.forms.Samples.{plain_sample, lane_chunk}

module _ (l : ℕ) (bands : List LegendBand) (p : BandedPaint) (v : List Float) (m : l ≤ length v) where
  colors-length : length (lane_colors bands p.unmappable (take l v)) ≡ l
  colors-length = lane-length bands p.unmappable (take l v) ∙ length-take-le l v m

  -- the colours are those of the chunk, and the words are masked lane by lane, nodata where the sample is unmappable
  pub lane-words : {colors d : List ℕ} → l ≤ 16 → LanesOf 0 l (λ k. cond (excluded p.exclusions (get_or v k nan)) p.unmappable.nodata (get_or colors k 0)) d
      → colors ≡ padded 0 16 (lane_colors bands p.unmappable (take l v)) → d ≡ padded 0 16 (lane_chunk bands p (take l v))
  lane-words {colors} {d} h masks colored =
      let e = excluded p.exclusions in
      let cs = lane_colors bands p.unmappable (take l v) in
      let front : take l colors ≡ cs = padded_front 0 16 cs colored colors-length in
      let n : l ≤ length colors = omega (arith, ap length colored, length-padded 0 16 cs (omega (arith, colors-length))) in
      lanes-padded masks
      (lanes-masked e p.unmappable.nodata l d v colors (omega (arith, lanes-length masks h)) m n (lane_at_lem masks 0)
      ∙ ap (masked e p.unmappable.nodata (take l v)) front)

-- the same by the plain rule, lane by lane
pub plain-masked : (bands : List LegendBand) (p : BandedPaint) (v : List Float) {l : ℕ} {colors d : List ℕ}
    → LanesOf 0 l (λ k. cond (excluded p.exclusions (get_or v k nan)) p.unmappable.nodata (get_or colors k 0)) d
    → LanesOf 0 l (λ k. plain_color bands p.unmappable (get_or v k nan)) colors → LanesOf 0 l (λ k. plain_sample bands p (get_or v k nan)) d
plain-masked bands p v {colors = colors} masks colored =
    masked-lanes p.exclusions p.unmappable.nodata (plain_color bands p.unmappable) v colors colored masks
