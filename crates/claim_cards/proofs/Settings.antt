-- The settings on a card there and back. Assumes nothing.
use Rattle.std.specs.Prelude.{Option, Some, None}
use mathlib.Core.Path.{◌≡◌, refl, sym, ap, ◌∙◌}
use mathlib.Core.Bool.{Bool, true, false, cond, ◌&&◌, ◌||◌, true≢false}
use Prim.Native.Nat.{ℕ, zero, suc, ◌+◌, ◌*◌, ◌/◌, ◌%◌, ◌<◌}
use native.Mathlib.Nat.{div-div-eq-div-mul}
use native.Mathlib.Omega.{arith}
use borrow.Author.Tests.{eqb-true, ltb-true}
use lib.Dec.{ltb, eqb}
use Rattle.colormapper.specs.declared.MappingConfig.{MappingConfig}
use Rattle.colormapper.specs.Settings.{or_else, color_if, given_flag, flag_of}
use Rattle.card_layout.specs.Settings.{flags_of, low_flag, high_flag, zero_flag, settings_in, settings_fit}
use Rattle.claim_cards.specs.Held.{Word, HeldColor, HeldSettings}

pub both : (a b : Bool) → (a && b) ≡ true → (a ≡ true) × (b ≡ true)
both true b e = (refl, e)
both false b e = absurd (true≢false (sym e))

pub three : (a b c : Bool) → (a && b && c) ≡ true → (a ≡ true) × (b ≡ true) × (c ≡ true)
three a b c e = let p = both (a && b) c e in let q = both a b p.0 in (q.0, q.1, p.1)

-- ---- written and read: each colour is there or not, and zero is nodata or not
module _ (nodata : ℕ) where
  abbrev settings : (low high : Option ℕ) (zero_is : Bool) → MappingConfig
  settings low high zero_is =
      record { nodata_color = nodata; out_of_range_low_color = low; out_of_range_high_color = high; zero_is_nodata = zero_is }

  abbrev Back : MappingConfig → Type 0
  Back config =
      let low = or_else config.out_of_range_low_color 0 in
      let high = or_else config.out_of_range_high_color 0 in
      (settings_in nodata (flags_of config) low high ≡ config) × (settings_fit (flags_of config) low high ≡ true) × (flags_of config < 256)

  each_way : (low high : Option ℕ) (zero_is : Bool) → Back (settings low high zero_is)
  unfolding settings_in settings_fit flags_of
  each_way (Some l) (Some h) true = (refl, refl, omega arith)
  each_way (Some l) (Some h) false = (refl, refl, omega arith)
  each_way (Some l) None true = (refl, refl, omega arith)
  each_way (Some l) None false = (refl, refl, omega arith)
  each_way None (Some h) true = (refl, refl, omega arith)
  each_way None (Some h) false = (refl, refl, omega arith)
  each_way None None true = (refl, refl, omega arith)
  each_way None None false = (refl, refl, omega arith)

pub settings_back : (config : MappingConfig) → Back config.nodata_color config
settings_back config =
    each_way config.nodata_color config.out_of_range_low_color config.out_of_range_high_color config.zero_is_nodata

-- ---- read and written
given_again : (given color : ℕ) → given < 2 → given_flag (color_if given color) ≡ given
given_again zero color h = refl
given_again (suc zero) color h = refl
given_again (suc (suc n)) color h = absurd (omega arith)

flag_again : (flag : ℕ) → flag < 2 → flag_of (eqb flag 1) ≡ flag
flag_again zero h = refl
flag_again (suc zero) h = refl
flag_again (suc (suc n)) h = absurd (omega arith)

color_again : (given color : ℕ) → (eqb given 1 || eqb color 0) ≡ true → or_else (color_if given color) 0 ≡ color
color_again given color e = go (eqb given 1) refl
  where
    go : (t : Bool) → eqb given 1 ≡ t → or_else (cond (eqb given 1) (Some color) None) 0 ≡ color
    go true f = ap (λ (t : Bool). or_else (cond t (Some color) None) 0) f
    go false f =
        ap (λ (t : Bool). or_else (cond t (Some color) None) 0) f
        ∙ sym (eqb-true color 0 (sym (ap (λ (t : Bool). t || eqb color 0) f) ∙ e))

color_held : (given color : ℕ) → Word color → HeldColor (color_if given color)
color_held given color h = go (eqb given 1)
  where
    go : (t : Bool) → HeldColor (cond t (Some color) None)
    go true = h
    go false = tt

-- a byte below 8 is its three bits
bits : (flags : ℕ) → flags < 8 → low_flag flags + 2 * high_flag flags + 4 * zero_flag flags ≡ flags
bits flags h =
    let half = flags / 2 in
    let quarter = half / 2 in
    let e : quarter ≡ flags / 4 = div-div-eq-div-mul flags 2 2 in
    let top : flags / 4 % 2 ≡ quarter = omega (arith, h, e) in
    let low : flags ≡ 2 * half + flags % 2 = omega arith in
    let mid : half ≡ 2 * quarter + half % 2 = omega arith in
    omega (arith, top, low, mid)

module _ (nodata flags low high : ℕ) where
  pub settings_held : Word nodata → Word low → Word high → HeldSettings (settings_in nodata flags low high)
  unfolding settings_in
  settings_held n l h = record { nodata = n; low = color_held (low_flag flags) low l; high = color_held (high_flag flags) high h }

  module _ (fit : settings_fit flags low high ≡ true) where
    told : (flags < 8) × ((eqb (low_flag flags) 1 || eqb low 0) ≡ true) × ((eqb (high_flag flags) 1 || eqb high 0) ≡ true)
    unfolding settings_fit
    told =
        let l = eqb (low_flag flags) 1 || eqb low 0 in
        let h = eqb (high_flag flags) 1 || eqb high 0 in
        let t = three (ltb flags 8) l h fit in
        (ltb-true flags 8 t.0, t.1, t.2)

    pub flags_again : flags_of (settings_in nodata flags low high) ≡ flags
    unfolding settings_in flags_of
    flags_again =
        omega (
          arith,
          bits flags told.0,
          given_again (low_flag flags) low (omega arith),
          given_again (high_flag flags) high (omega arith),
          flag_again (zero_flag flags) (omega arith),
        )

    pub low_again : or_else (settings_in nodata flags low high).out_of_range_low_color 0 ≡ low
    unfolding settings_in
    low_again = color_again (low_flag flags) low told.1

    pub high_again : or_else (settings_in nodata flags low high).out_of_range_high_color 0 ≡ high
    unfolding settings_in
    high_again = color_again (high_flag flags) high told.2
