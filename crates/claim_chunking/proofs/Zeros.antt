-- The two zeros are one sample: every rule gives them one colour. Assumes nothing.
use Rattle.std.specs.Prelude.{Option, Some, None}
use mathlib.Core.Path.{◌≡◌, refl, sym, ap, ap₂, ◌∙◌}
use mathlib.Core.Bool.{Bool, true, false, not, cond, ◌&&◌, ◌||◌}
use mathlib.Core.List.{List, [], ◌∷◌}
use Prim.Native.Nat.{ℕ, zero, suc, ◌+◌, ◌*◌, ◌<◌}
use native.Mathlib.Nat.{mul-pos, zero-lt-suc}
use native.Mathlib.Omega.{arith}
use lib.Dec.{T, ltb, T_not, not_T}
use lib.IntN.{ℤ, pos}
use lib.Ieee.{Float, nan, inf, fin, binary32, up, down, add, sub, neg, div, sum, round, lt, le, eq, is_nan}
use lib.Ieee.Bits.{is_true, is_false}
use lib.Ieee.Fits.{up_pos, down_pos}
use Rattle.floats.specs.RampIndex.{nought, one}
use Rattle.floats.specs.Operations.{Sum}
use Rattle.floats.specs.Size.{abs}
use Rattle.floats.proofs.Order.{lt_le, le_lt, le_le, eq_eq, eq_sym, eq→le, zeros_equal, zero_times}
use Rattle.floats.proofs.Sums.{sums, add_is}
use Rattle.floats.proofs.Distance.{abs_round}
use Rattle.cast.specs.Truncated.{truncated}
use Rattle.colormapper.specs.declared.UnmappableColors.{UnmappableColors}
use Rattle.colormapper.specs.Rule.{rule_color}
use Rattle.colormapper.specs.Rule as rule
use Rattle.colormapper.specs.Tolerance.{E, within}
use Rattle.colormapper.specs.Unmappable.{is_nodata, unmappable}
use Rattle.interpolate.specs.Fraction.{fraction, plain_fraction}
use Rattle.lookup.specs.Entries.{plain_entry, lane_entry}
use Rattle.linear_rule.specs.Rule as linear
use Rattle.banded_columns.specs.declared.LegendBand.{LegendBand}
use Rattle.banded_columns.specs.Band.{holds, last_of}
use Rattle.banded_rule.specs.forms.Steps.{first_color, edge_color}
use Rattle.banded_rule.specs.PlainRule as bands
use Rattle.banded_rule.proofs.Forms.{plain_form, edge_chain}
use Rattle.categoric_table.specs.Rule as words
use Rattle.categoric_keys.specs.Rule as categories

abbrev pub signed_zero : Bool → Float
signed_zero s = fin s 0 (pos 0)

-- ---- equal numbers compare alike
ext : (a b : Bool) → (T a → T b) → (T b → T a) → a ≡ b
ext true true f g = refl
ext true false f g = absurd (f tt)
ext false true f g = absurd (g tt)
ext false false f g = refl

module _ (x y : Float) (e : T (eq x y)) (a : Float) where
  e' : T (eq y x)
  e' = eq_sym x y e

  lt_left : lt x a ≡ lt y a
  lt_left = ext (lt x a) (lt y a) (le_lt y x a (eq→le y x e')) (le_lt x y a (eq→le x y e))

  lt_right : lt a x ≡ lt a y
  lt_right = ext (lt a x) (lt a y) (λ h. lt_le a x y h (eq→le x y e)) (λ h. lt_le a y x h (eq→le y x e'))

  le_left : le x a ≡ le y a
  le_left = ext (le x a) (le y a) (le_le y x a (eq→le y x e')) (le_le x y a (eq→le x y e))

  le_right : le a x ≡ le a y
  le_right = ext (le a x) (le a y) (λ h. le_le a x y h (eq→le x y e)) (λ h. le_le a y x h (eq→le y x e'))

  eq_left : eq x a ≡ eq y a
  eq_left = ext (eq x a) (eq y a) (eq_eq y x a e') (eq_eq x y a e)

-- ---- a zero less a number
-- ±0 + ±b is ±b in size, with its sign where it is not 0
zero-sum : (s w u : Bool) (a b k : ℕ) → a ≡ 0 → Sum s a w b u k → (k ≡ b) × (0 < b → u ≡ w)
zero-sum true true true a b k z h = (omega (arith, h.exact), λ p. refl)
zero-sum true true false a b k z h = (omega (arith, h.exact), λ p. absurd (omega (arith, h.exact)))
zero-sum true false true a b k z h = (omega (arith, h.exact), λ p. absurd (omega (arith, h.exact)))
zero-sum true false false a b k z h = (omega (arith, h.exact), λ p. refl)
zero-sum false true true a b k z h = (omega (arith, h.exact), λ p. refl)
zero-sum false true false a b k z h = (omega (arith, h.exact), λ p. absurd (omega (arith, h.exact)))
zero-sum false false true a b k z h = (omega (arith, h.exact), λ p. absurd (omega (arith, h.exact)))
zero-sum false false false a b k z h = (omega (arith, h.exact), λ p. refl)

module _ (s : Bool) (w : Bool) (a b c : ℕ) (z : a ≡ 0) where
  sum_is : 0 < b → sum binary32 s a w b c ≡ round binary32 w b c
  sum_is p =
      let r = sums binary32 s a w b c in let k = zero-sum s w r.0 a b r.1 z r.2 in r.3 ∙ ap₂ (λ (u : Bool) (n : ℕ). round binary32 u n c) (k.1 p)
      k.0

  sum_size : abs (sum binary32 s a w b c) ≡ round binary32 false b c
  sum_size =
      let r = sums binary32 s a w b c in let k = zero-sum s w r.0 a b r.1 z r.2 in ap abs r.3 ∙ abs_round binary32 r.0 r.1 c
      ∙ ap (λ (n : ℕ). round binary32 false n c) k.0

sub_is : (s : Bool) (t : Bool) (n : ℕ) (d : ℤ) → sub binary32 (signed_zero s) (fin t n d) ≡ sum binary32 s (0 * 1 * down d) (not t) (n * up d * 1) (1 * down d)
unfolding sub neg
sub_is s t n d = add_is binary32 s 0 (pos 0) (not t) n d

sub_zeros : (s t : Bool) (a : Float) → T (not (eq (signed_zero s) a)) → sub binary32 (signed_zero s) a ≡ sub binary32 (signed_zero t) a
sub_zeros s t nan h = unfold sub add neg in refl
sub_zeros s t (inf u) h = unfold sub add neg in refl
sub_zeros s t (fin u zero d) h = absurd (T_not (eq (signed_zero s) (fin u 0 d)) h (zeros_equal s u (pos 0) d))
sub_zeros s t (fin u (suc n) d) h =
    let b = suc n * up d * 1 in
    let p : 0 < b = mul-pos (mul-pos (zero-lt-suc n) (up_pos d)) (zero-lt-suc 0) in
    sub_is s u (suc n) d ∙ sum_is s (not u) (0 * 1 * down d) b (1 * down d) (zero_times 1 (down d)) p
    ∙ sym (sub_is t u (suc n) d ∙ sum_is t (not u) (0 * 1 * down d) b (1 * down d) (zero_times 1 (down d)) p)

size_zeros : (s t : Bool) (a : Float) → abs (sub binary32 (signed_zero s) a) ≡ abs (sub binary32 (signed_zero t) a)
size_zeros s t nan = unfold sub add neg in refl
size_zeros s t (inf u) = unfold sub add neg in refl
size_zeros s t (fin u n d) =
    ap abs (sub_is s u n d) ∙ sum_size s (not u) (0 * 1 * down d) (n * up d * 1) (1 * down d) (zero_times 1 (down d))
    ∙ sym (ap abs (sub_is t u n d) ∙ sum_size t (not u) (0 * 1 * down d) (n * up d * 1) (1 * down d) (zero_times 1 (down d)))

-- ---- the rules
module _ (s t : Bool) where
  abbrev x : Float
  x = signed_zero s

  abbrev y : Float
  y = signed_zero t

  zeros : T (eq x y)
  zeros = zeros_equal s t (pos 0) (pos 0)

  nodata_alike : (nodata : Option Float) → is_nodata nodata x ≡ is_nodata nodata y
  nodata_alike (Some a) = eq_left x y zeros a
  nodata_alike None = refl

  pub unmappable_zeros : (nodata : Option Float) (flag : Bool) → unmappable nodata flag x ≡ unmappable nodata flag y
  unfolding unmappable is_nan
  unmappable_zeros nodata flag = ap₂ (λ (a b : Bool). a || (flag && b)) (nodata_alike nodata) (eq_left x y zeros nought)

  -- linear
  fraction_zeros : (start end : Float) → fraction start end x ≡ fraction start end y
  unfolding fraction
  fraction_zeros start end =
      go (le x start) refl ∙ ap (λ (b : Bool). cond b nought (cond (le end y) one (div binary32 (sub binary32 y start) (sub binary32 end start))))
      (le_left x y zeros start)
    where
      go : (b : Bool) → le x start ≡ b
          → cond b nought (cond (le end x) one (div binary32 (sub binary32 x start) (sub binary32 end start)))
          ≡ cond b nought (cond (le end y) one (div binary32 (sub binary32 y start) (sub binary32 end start)))
      go true e = refl
      go false e =
          let apart : T (not (eq x start)) = not_T (eq x start) (λ h. T_not (le x start) (rw e tt) (eq→le x start h)) in
          ap₂ (λ (b : Bool) (q : Float). cond b one (div binary32 q (sub binary32 end start))) (le_right x y zeros end) (sub_zeros s t start apart)

  range_zeros : {A : Type 0} (start end : Float) (low high : A) {u v : A} → u ≡ v → linear.by_range start end x low high u
      ≡ linear.by_range start end y low high v
  range_zeros start end low high e = rw (lt_left x y zeros (sub binary32 start E), lt_right x y zeros (add binary32 end E), e)

  module _ (cmap : List ℕ) (start end : Float) (u : UnmappableColors) where
    pub lane_zeros : linear.lane_color cmap start end u x ≡ linear.lane_color cmap start end u y
    unfolding linear.lane_color linear.lane_rule
    lane_zeros =
        ap (rule_color (linear.linear_rule_colors cmap u))
        (range_zeros start end rule.low rule.high (ap (λ (f : Float). linear.entry_rule (lane_entry f)) (fraction_zeros start end)))

    pub plain_zeros : linear.plain_color cmap start end u x ≡ linear.plain_color cmap start end u y
    unfolding linear.plain_color linear.plain_rule plain_fraction
    plain_zeros =
        ap (rule_color (linear.linear_rule_colors cmap u))
        (range_zeros start end rule.low rule.high (ap (λ (f : Float). linear.entry_rule (plain_entry (cond (lt end start) nought f))) (fraction_zeros start end)))

  -- banded
  holds_zeros : (b : LegendBand) → holds b x ≡ holds b y
  holds_zeros b = ap₂ (λ (p q : Bool). p && q) (le_right x y zeros b.start) (lt_left x y zeros b.end)

  first_zeros : (bs : List LegendBand) {c d : ℕ} → c ≡ d → first_color bs x c ≡ first_color bs y d
  unfolding first_color
  first_zeros [] e = e
  first_zeros (b ∷ bs) e = ap₂ (λ (h : Bool) (rest : ℕ). cond h b.color rest) (holds_zeros b) (first_zeros bs e)

  within_zeros : (edge : Float) → within edge x ≡ within edge y
  within_zeros edge = ap (λ (d : Float). lt d E) (size_zeros s t edge)

  edge_zeros : (b l : LegendBand) (u : UnmappableColors) → edge_color b l u x ≡ edge_color b l u y
  edge_zeros b l u =
      edge_chain u b l x
      ∙ (rw (within_zeros b.start, lt_left x y zeros b.start, within_zeros l.end, lt_right x y zeros l.end))
      ∙ sym (edge_chain u b l y)

  pub banded_zeros : (bs : List LegendBand) (u : UnmappableColors) → bands.plain_color bs u x ≡ bands.plain_color bs u y
  unfolding bands.plain_rule
  banded_zeros [] u = refl
  banded_zeros (b ∷ bs) u = unfold bands.plain_rule in plain_form u b bs x ∙ first_zeros (b ∷ bs) (edge_zeros b (last_of b bs) u) ∙ sym (plain_form u b bs y)

-- categoric
truncated_zeros : (s t : Bool) → truncated (signed_zero s) ≡ truncated (signed_zero t)
unfolding truncated
truncated_zeros true true = refl
truncated_zeros true false = refl
truncated_zeros false true = refl
truncated_zeros false false = refl

pub categoric_zeros : (s t : Bool) (keys : List ℤ) (colors : List ℕ) (count : ℕ) (lookup : List ℕ) (size nodata : ℕ)
    → categories.plain_color keys colors count lookup size nodata (signed_zero s) ≡ categories.plain_color keys colors count lookup size nodata (signed_zero t)
unfolding categories.plain_color categories.plain_rule
categoric_zeros s t keys colors count lookup size nodata =
    ap (λ z. rule_color (words.categoric_rule_colors lookup colors nodata) (cond (ltb 0 size) (words.table_rule size z) (categories.key_rule keys count z)))
    (truncated_zeros s t)
