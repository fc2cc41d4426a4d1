-- What a builder is given is what the row asks for: by a palette's ramp or by the list, for each builder. Assumes nothing.
use Rattle.std.specs.Prelude.{Option, Result, Ok, Err}
use Rattle.std.specs.Result.{result_and}
use mathlib.Core.Bool.{Bool, true, false, cond}
use mathlib.Core.List.{List}
use mathlib.Core.Path.{◌≡◌, refl, sym, ap, ap₂, ◌∙◌}
use Prim.Native.Nat.{ℕ, ◌/◌, ◌%◌, ◌≤◌, ◌<◌}
use native.Mathlib.Omega.{arith}
use borrow.Author.Tests.{ltb-true, lt-ltb, le-ltb}
use lib.Dec.{ltb, eqb}
use lib.Ieee.{Float}
use lib.IntN.{ℤ, pos}
use lib.ListN.{length, get_or, take}
use lib.Seq.{length-take-le}
use Rattle.refusal.specs.declared.Refusal.{Refusal}
use Rattle.refusal.specs.Outcome.{answer_of}
use Rattle.colormap.specs.Positions.{ramp_colors}
use Rattle.colormap.specs.Made.{ramp_of_list, ramp_of_preset}
use Rattle.lists.specs.Padded.{padded}
use Rattle.lists.specs.Tabulate.{tabulate}
use Rattle.colormapper.specs.declared.MappingConfig.{MappingConfig}
use Rattle.linear.specs.Made.{linear_of_ramp, linear_of_list}
use Rattle.banded_lists.specs.declared.ValueRanges.{ValueRanges}
use Rattle.banded.specs.EqualBands.{with_equal_bands}
use Rattle.banded.specs.ManualRanges.{with_manual_ranges}
use Rattle.catgegoric.specs.Made.{for_values, for_values_from_ramp, for_value_range, for_value_range_from_ramp}
use Rattle.legend_builders.specs.Building.{linear_with_settings, banded_with_settings, categoric_with_settings}
use Rattle.linear.specs.declared.Linear.{Linear}
use Rattle.banded_columns.specs.declared.LegendBand.{LegendBand}
use Rattle.banded_lists.specs.Padded.{padded_bands}
use Rattle.banded.specs.declared.Banded.{Banded}
use Rattle.catgegoric.specs.declared.CategoricNumeric.{CategoricNumeric}
use Rattle.legend.specs.declared.Legend.{Legend}
use Rattle.legend.specs.Record.{linear_legend, banded_legend, categoric_legend}
use Rattle.words.specs.Values.{whole_of, at_most}
use Rattle.replay_rows.specs.Parts.{values_at, words_at}
use Rattle.replay_legends.specs.Lists.{list_of, row_keys, row_ranges, row_band}
use Rattle.replay_legends.specs.Asked.{optional_of, row_settings, by_source, ramp_of, cmap_of, start_of, end_of, linear_of, equal_bands_of, manual_ranges_of}
use Rattle.replay_legends.specs.Asked.{categories_of, category_range_of, bands_given, linear_stored, categories_stored}

-- ---- the first entries of a list of sixteen
at_most_16 : (word : ℕ) → at_most word 16 ≤ 16
at_most_16 word = go (ltb word 16) refl
  where
    go : (t : Bool) → ltb word 16 ≡ t → cond t word 16 ≤ 16
    go true e = omega (arith, ltb-true word 16 e)
    go false e = omega arith

module _ {A : Type 0} {count : ℕ} (word : ℕ) (list : List A) (c : count ≡ at_most word 16) (long : length list ≡ 16) where
  pub prefix_fits : count ≤ length list
  prefix_fits = omega (arith, c, at_most_16 word, long)

  pub prefix_long : count ≡ length (take count list)
  prefix_long = sym (length-take-le count list prefix_fits)

-- ---- what a call that makes something answers
pub answered : {A : Type 0} (made : Result A Refusal) → result_and made (Ok tt) ≡ answer_of made
answered (Ok x) = refl
answered (Err why) = refl

-- ---- where the colours come from
module _ {A : Type 0} (row : List ℕ) (x y : A) where
  by_palette : get_or row 1 0 < 32 → by_source row x y ≡ x
  by_palette h = ap (λ (t : Bool). cond t x y) (lt-ltb (get_or row 1 0) 32 h)

  by_list : 32 ≤ get_or row 1 0 → by_source row x y ≡ y
  by_list h = ap (λ (t : Bool). cond t x y) (le-ltb (get_or row 1 0) 32 h)

-- ---- by a palette
module _ (row : List ℕ) (config : MappingConfig) (h : get_or row 1 0 < 32) where
  pub ramp-palette : {n : ℕ} → n ≡ get_or row 1 0 → ramp_of_preset n ≡ ramp_of row
  unfolding ramp_of
  ramp-palette e = ap ramp_of_preset e ∙ sym (by_palette row _ _ h)

  pub linear-palette : {s e : Float} {cmap : List ℕ} → s ≡ start_of row → e ≡ end_of row → cmap ≡ cmap_of row → linear_with_settings (linear_of_ramp s e cmap) config
      ≡ linear_of row config
  unfolding linear_of
  linear-palette {s} {e} {cmap} p q r =
      let m : linear_of_ramp s e cmap ≡ linear_of_ramp (start_of row) (end_of row) (cmap_of row) = cc in
      ap (λ x. linear_with_settings x config) (m ∙ sym (by_palette row _ _ h))

  pub equal_palette : {n : ℕ} {s e : Float} {cmap : List ℕ} → n ≡ get_or row 10 0 → s ≡ start_of row → e ≡ end_of row → cmap ≡ cmap_of row
      → banded_with_settings (with_equal_bands n s e (ramp_colors n cmap)) config ≡ equal_bands_of row config
  unfolding equal_bands_of
  equal_palette {n} {s} {e} {cmap} k p q r =
      let m : with_equal_bands n s e (ramp_colors n cmap) ≡ with_equal_bands (get_or row 10 0) (start_of row) (end_of row)
      (ramp_colors (get_or row 10 0) (cmap_of row)) = cc in
      ap (λ x. banded_with_settings x config) (m ∙ ap (with_equal_bands (get_or row 10 0) (start_of row) (end_of row)) (sym (by_palette row _ (list_of row) h)))

  pub manual_palette : {values : ValueRanges} {cmap : List ℕ} → values ≡ row_ranges row → cmap ≡ cmap_of row
      → banded_with_settings (with_manual_ranges values (ramp_colors values.count cmap)) config ≡ manual_ranges_of row config
  unfolding manual_ranges_of
  manual_palette p r =
      ap₂ (λ v c. banded_with_settings (with_manual_ranges v (ramp_colors v.count c)) config) p r
      ∙ ap (λ l. banded_with_settings (with_manual_ranges (row_ranges row) l) config) (sym (by_palette row _ (list_of row) h))

  pub categories-palette : {keys : List ℤ} {cmap : List ℕ} → keys ≡ row_keys row → cmap ≡ cmap_of row → categoric_with_settings (for_values_from_ramp keys cmap) config
      ≡ categories_of row config
  unfolding categories_of
  categories-palette p r = ap (λ x. categoric_with_settings x config) (ap₂ for_values_from_ramp p r ∙ sym (by_palette row _ _ h))

  pub range-palette : {s e : ℤ} {cmap : List ℕ} → s ≡ whole_of (get_or row 32 0) → e ≡ whole_of (get_or row 33 0) → cmap ≡ cmap_of row
      → categoric_with_settings (for_value_range_from_ramp s e cmap) config ≡ category_range_of row config
  unfolding category_range_of
  range-palette {s} {e} {cmap} p q r =
      let m : for_value_range_from_ramp s e cmap ≡ for_value_range_from_ramp (whole_of (get_or row 32 0)) (whole_of (get_or row 33 0)) (cmap_of row) = cc in
      ap (λ x. categoric_with_settings x config) (m ∙ sym (by_palette row _ _ h))

-- ---- by the list
module _ (row : List ℕ) (config : MappingConfig) (h : 32 ≤ get_or row 1 0) {count : ℕ} {list : List ℕ} (c : count ≡ at_most (get_or row 2 0) 16)
    (l : list ≡ words_at 16 16 row) where
  list_is : take count list ≡ list_of row
  list_is = ap₂ take c l

  pub ramp_list : ramp_of_list (take count list) ≡ ramp_of row
  unfolding ramp_of
  ramp_list = ap ramp_of_list list_is ∙ sym (by_list row _ _ h)

  pub linear_list : {s e : Float} → s ≡ start_of row → e ≡ end_of row → linear_with_settings (linear_of_list s e (take count list)) config ≡ linear_of row config
  unfolding linear_of
  linear_list {s} {e} p q =
      let i = list_is in
      let m : linear_of_list s e (take count list) ≡ linear_of_list (start_of row) (end_of row) (list_of row) = cc in
      ap (λ x. linear_with_settings x config) (m ∙ sym (by_list row _ _ h))

  pub equal_list : {n : ℕ} {s e : Float} → n ≡ get_or row 10 0 → s ≡ start_of row → e ≡ end_of row → banded_with_settings (with_equal_bands n s e (take count list))
      config ≡ equal_bands_of row config
  unfolding equal_bands_of
  equal_list {n} {s} {e} k p q =
      let i = list_is in
      let m : with_equal_bands n s e (take count list) ≡ with_equal_bands (get_or row 10 0) (start_of row) (end_of row) (list_of row) = cc in
      ap (λ x. banded_with_settings x config)
      (m ∙ ap (with_equal_bands (get_or row 10 0) (start_of row) (end_of row)) (sym (by_list row (ramp_colors (get_or row 10 0) (cmap_of row)) _ h)))

  pub manual_list : {values : ValueRanges} → values ≡ row_ranges row → banded_with_settings (with_manual_ranges values (take count list)) config
      ≡ manual_ranges_of row config
  unfolding manual_ranges_of
  manual_list p =
      ap₂ (λ v c. banded_with_settings (with_manual_ranges v c) config) p list_is
      ∙ ap (λ l. banded_with_settings (with_manual_ranges (row_ranges row) l) config) (sym (by_list row (ramp_colors (row_ranges row).count (cmap_of row)) _ h))

  pub categories_list : {keys : List ℤ} → keys ≡ row_keys row → categoric_with_settings (for_values keys (take count list)) config ≡ categories_of row config
  unfolding categories_of
  categories_list p = ap (λ x. categoric_with_settings x config) (ap₂ for_values p list_is ∙ sym (by_list row _ _ h))

  pub range_list : {s e : ℤ} → s ≡ whole_of (get_or row 32 0) → e ≡ whole_of (get_or row 33 0) → categoric_with_settings (for_value_range s e (take count list)) config
      ≡ category_range_of row config
  unfolding category_range_of
  range_list {s} {e} p q =
      let i = list_is in
      let m : for_value_range s e (take count list) ≡ for_value_range (whole_of (get_or row 32 0)) (whole_of (get_or row 33 0)) (list_of row) = cc in
      ap (λ x. categoric_with_settings x config) (m ∙ sym (by_list row _ _ h))

-- ---- settings
with_colors : (row : List ℕ) → Option ℕ → Option ℕ → MappingConfig
with_colors row low high =
    record { nodata_color = get_or row 3 0; out_of_range_low_color = low; out_of_range_high_color = high; zero_is_nodata = eqb (get_or row 4 0 / 4 % 2) 1 }

pub settings_are : (row : List ℕ) {low high : (Option ℕ)} → low ≡ optional_of (eqb (get_or row 4 0 % 2) 1) (get_or row 5 0) → high
    ≡ optional_of (eqb (get_or row 4 0 / 2 % 2) 1) (get_or row 6 0)
    → ◌≡◌ {A =
    MappingConfig} (record {
      nodata_color = get_or row 3 0;
      out_of_range_low_color = low;
      out_of_range_high_color = high;
      zero_is_nodata = eqb (get_or row 4 0 / 4 % 2) 1;
    }) (row_settings row)
unfolding row_settings with_colors
settings_are row l h = ap₂ (with_colors row) l h

-- ---- records that no builder made
banded : List LegendBand → ℕ → Banded
banded bands count = record { bands = bands; count = count }

module _ (row : List ℕ) (config : MappingConfig) {legend : Legend} where
  pub given_is : {bands : List LegendBand} {count : ℕ} → legend ≡ banded_legend (record { bands = bands; count = count }) config → bands
      ≡ padded_bands (tabulate 16 (row_band row)) → count ≡ at_most (get_or row 10 0) 16
      → legend ≡ bands_given row config
  unfolding bands_given banded
  given_is e b n = e ∙ ap₂ (λ bands count. banded_legend (banded bands count) config) b n

  pub linear-stored-is : {s e : Float} {cmap : List ℕ} → legend ≡ linear_legend (record { start = s; end = e; cmap = cmap }) config → s ≡ start_of row → e
      ≡ end_of row → cmap ≡ cmap_of row
      → legend ≡ linear_stored row config
  unfolding linear_stored
  linear-stored-is {s} {e} {cmap} l p q r =
      let m : ◌≡◌ {A = Linear} (record { start = s; end = e; cmap = cmap }) (record { start = start_of row; end = end_of row; cmap = cmap_of row }) = cc in
      l ∙ ap (λ x. linear_legend x config) m

  pub categories-stored-is : {keys : List ℤ} {colors lookup : List ℕ} {count size : ℕ} → legend
      ≡ categoric_legend (record { keys = keys; colors = colors; count = count; lookup = lookup; lookup_count = size }) config
      → keys ≡ padded (pos 0) 256 (values_at whole_of 32 16 row) → colors ≡ padded 0 256 (words_at 16 16 row) → count ≡ at_most (get_or row 10 0) 16 → lookup
      ≡ padded 0 513 (words_at 64 16 row) → size ≡ at_most (get_or row 11 0) 16
      → legend ≡ categories_stored row config
  unfolding categories_stored
  categories-stored-is {keys} {colors} {lookup} {count} {size} l k c n t m =
      let x : ◌≡◌ {A = CategoricNumeric} (record { keys = keys; colors = colors; count = count; lookup = lookup; lookup_count = size })
      (record {
        keys = padded (pos 0) 256 (values_at whole_of 32 16 row);
        colors = padded 0 256 (words_at 16 16 row);
        count = at_most (get_or row 10 0) 16;
        lookup = padded 0 513 (words_at 64 16 row);
        lookup_count = at_most (get_or row 11 0) 16;
      }) = cc in
      l ∙ ap (λ y. categoric_legend y config) x
