-- Where the start is not above the end the lane rule is the plain rule, but at a fraction that is the f32 with the bits 3B008080: there the lane takes ramp
-- entry 1, and plainly it is entry 0.
-- Bounds and sample may be NaN or infinite. Assumes nothing.
use Rattle.std.specs.Prelude.{Option, Some, None}
use mathlib.Core.Path.{◌≡◌, refl, sym, ap, ◌∙◌}
use mathlib.Core.Logic.{◌⊎◌, inl, inr, ◌≢◌}
use mathlib.Core.Bool.{Bool, true, false, cond}
use mathlib.Core.List.{List}
use Prim.Native.Nat.{ℕ}
use borrow.Author.Tests.{eqb-true, eqb-false}
use lib.Dec.{T, eqb}
use lib.ListN.{get_or}
use lib.Ieee.{Float, binary32, add, sub, div, lt, le, fits, of_bits, to_bits}
use lib.Ieee.Fits.{cond-fits, div-fits}
use lib.Ieee.Bits.{of_bits-to_bits}
use Rattle.floats.specs.RampIndex.{nought, one, in_unit, plain_index, lane_index}
use Rattle.floats.proofs.RampIndexLaw.{index_same, index_differs}
use Rattle.interpolate.specs.Fraction.{fraction, plain_fraction}
use Rattle.lookup.specs.Entries.{plain_entry, lane_entry}
use Rattle.colormapper.specs.declared.UnmappableColors.{UnmappableColors}
use Rattle.colormapper.specs.Tolerance.{E}
use Rattle.colormapper.specs.Rule.{ramp_entry, rule_color}
use Rattle.linear_rule.specs.Rule.{entry_rule, rule_in_range, plain_rule, lane_rule, linear_rule_colors, plain_color, lane_color}
use Rattle.linear_rule.specs.Exception.{ExceptionFraction}
use Rattle.linear_rule.proofs.Inside.{inside}

-- ---- the two lookups of one fraction
pub entry_same : (f : Float) → T (fits binary32 f) → to_bits binary32 f ≢ 0x3B00_8080 → lane_entry f ≡ plain_entry f
unfolding plain_entry lane_entry
entry_same f g n = go (in_unit f) (λ h. index_same f g h n)
  where
    go : (b : Bool) → (T b → plain_index f ≡ lane_index f) → cond b (Some (lane_index f)) None ≡ cond b (Some (plain_index f)) None
    go true e = ap Some (sym (e tt))
    go false e = refl

in_unit_lem : in_unit (of_bits binary32 0x3B00_8080) ≡ true
unfolding of_bits le
in_unit_lem = refl

pub entry_differs : (f : Float) → T (fits binary32 f) → to_bits binary32 f ≡ 0x3B00_8080 → (lane_entry f ≡ Some 1) × (plain_entry f ≡ Some 0)
unfolding plain_entry lane_entry
entry_differs f g b =
    let at : in_unit f ≡ true = ap in_unit (sym (of_bits-to_bits binary32 f g) ∙ ap (of_bits binary32) b) ∙ in_unit_lem in
    let i = index_differs f g b in
    (rw (at, i.1), rw (at, i.0))

-- ---- the two fractions of one sample
pub fraction_fits : (start end v : Float) → T (fits binary32 (fraction start end v))
unfolding fraction
fraction_fits start end v =
    let q = div binary32 (sub binary32 v start) (sub binary32 end start) in
    cond-fits binary32 (le v start) nought (cond (le end v) one q) (unfold fits in tt)
    (cond-fits binary32 (le end v) one q (unfold fits in tt) (div-fits binary32 (sub binary32 v start) (sub binary32 end start)))

pub fraction-same : (start end v : Float) → lt end start ≡ false → plain_fraction start end v ≡ fraction start end v
unfolding plain_fraction
fraction-same start end v ordered = rw ordered

-- ---- the two rules of one sample, and their colours on every ramp
module _ (start end v : Float) (ordered : lt end start ≡ false) where
  pub rule_same : to_bits binary32 (fraction start end v) ≢ 0x3B00_8080 → lane_rule start end v ≡ plain_rule start end v
  unfolding lane_rule plain_rule
  rule_same n =
      ap (rule_in_range start end v) (entry_same (fraction start end v) (fraction_fits start end v) n ∙ ap plain_entry (sym (fraction-same start end v ordered)))

  pub color-same : (cmap : List ℕ) (u : UnmappableColors) → to_bits binary32 (fraction start end v) ≢ 0x3B00_8080 → lane_color cmap start end u v
      ≡ plain_color cmap start end u v
  unfolding lane_color plain_color
  color-same cmap u n = ap (rule_color (linear_rule_colors cmap u)) (rule_same n)

  module _ (bits : to_bits binary32 (fraction start end v) ≡ 0x3B00_8080) (within : (lt v (sub binary32 start E) ≡ false) × (lt (add binary32 end E) v ≡ false))
    where
      in_range_lem : (entry : (Option ℕ)) → rule_in_range start end v entry ≡ entry_rule entry
      in_range_lem entry = rw (within.0, within.1)

      pub rule_differs : (lane_rule start end v ≡ ramp_entry 1) × (plain_rule start end v ≡ ramp_entry 0)
      unfolding lane_rule plain_rule
      rule_differs =
          let d = entry_differs (fraction start end v) (fraction_fits start end v) bits in (
            in_range_lem (lane_entry (fraction start end v)) ∙ ap entry_rule d.0,
            in_range_lem (plain_entry (plain_fraction start end v)) ∙ ap entry_rule (ap plain_entry (fraction-same start end v ordered) ∙ d.1),
          )

      pub color-differs : (cmap : List ℕ) (u : UnmappableColors) → (lane_color cmap start end u v ≡ get_or cmap 1 0)
          × (plain_color cmap start end u v ≡ get_or cmap 0 0)
      unfolding lane_color plain_color
      color-differs cmap u = (ap (rule_color (linear_rule_colors cmap u)) rule_differs.0, ap (rule_color (linear_rule_colors cmap u)) rule_differs.1)

  -- THE LAW: the two colours are one, but at that fraction
  pub lane_law : (cmap : List ℕ) (u : UnmappableColors) → (lane_color cmap start end u v ≡ plain_color cmap start end u v) ⊎ ExceptionFraction start end v
  lane_law cmap u = go (eqb (to_bits binary32 (fraction start end v)) 0x3B00_8080) refl
    where
      go : (b : Bool) → eqb (to_bits binary32 (fraction start end v)) 0x3B00_8080 ≡ b → (lane_color cmap start end u v ≡ plain_color cmap start end u v)
          ⊎ ExceptionFraction start end v
      go true e = inr (eqb-true (to_bits binary32 (fraction start end v)) 0x3B00_8080 e)
      go false e = inl (color-same cmap u (eqb-false (to_bits binary32 (fraction start end v)) 0x3B00_8080 e))

  -- there they are entry 1 and entry 0, for bounds that are f32s, as a record's are: a sample of that fraction is then neither low nor high
  pub odd_law : (cmap : List ℕ) (u : UnmappableColors) → T (fits binary32 start) → T (fits binary32 end) → ExceptionFraction start end v
      → (lane_color cmap start end u v ≡ get_or cmap 1 0) × (plain_color cmap start end u v ≡ get_or cmap 0 0)
  odd_law cmap u f g b = color-differs b (inside start end v f g b) cmap u
