-- Where a search by halving among narrowed keys ends, there is the entry with the sample's key, or nowhere. Assumes nothing.
use Rattle.std.specs.Prelude.{Option, Some, None}
use mathlib.Core.Path.{◌≡◌, refl, sym, ap, ◌∙◌, subst}
use mathlib.Core.Bool.{Bool, true, false, not, cond}
use mathlib.Core.List.{List, []}
use mathlib.Core.Logic.{⊎_elim}
use Prim.Native.Nat.{ℕ, ◌≤◌, ◌<◌}
use native.Mathlib.Nat.{eq-or-lt_of_le}
use native.Mathlib.Omega.{arith}
use lib.Dec.{T, T_not}
use lib.Ieee.{Float}
use lib.IntN.{ℤ, pos}
use lib.ListN.{get_or}
use lib.Signed.{lt_z, le_z, ≤ℤ_refl}
use Rattle.lists.proofs.Numbers.{lt_or_le}
use Rattle.cast.specs.Truncated.{truncated}
use Rattle.categoric_lists.specs.Ascending.{ascends}
use Rattle.colormapper.specs.Rule.{category, unknown, rule_color}
use Rattle.categoric_table.specs.Rule.{categoric_rule_colors}
use Rattle.categoric_keys.specs.Rule.{eq_z, first_key, key_rule, key_color}
use Rattle.categoric_keys.proofs.Ascent.{lt→le, lt_le, lt_apart, counted-below}
use Rattle.categoric_keys.proofs.FirstKey.{eq_z→eq, same_key, found_at, found_nowhere}
use Rattle.categoric_search.specs.forms.Searchable.{in_key_range}
use Rattle.categoric_search.specs.forms.Narrow.{Narrow, none, narrow_key}
use Rattle.categoric_search.proofs.NearKeys.{they_ascend, they_are_near, near_below, none-is_not, key_below}
use Rattle.categoric_search.specs.forms.Bisection.{color_at_end, search_color}
use Rattle.categoric_search.proofs.Steps.{Rising, Narrowed, end_narrowed}

module _ (keys : List ℤ) (count : ℕ) (narrow : List ℤ) (n : Narrow keys count narrow) where
  abbrev key : ℕ → ℤ
  key j = get_or keys j (pos 0)

  abbrev at : ℕ → ℤ
  at j = get_or narrow j (pos 0)

  up : T (ascends keys count)
  up = they_ascend keys count n.sought

  -- ---- the numbers do not descend
  top : (i : ℕ) → i < 256 → T (le_z (at i) (pos 2147483647))
  top i h =
      ⊎_elim
      (λ (l : i < count). subst (λ (x : ℤ). T (le_z x (pos 2147483647))) (sym (n.below i l))
      (lt→le (key i) (pos 2147483647) (near_below (key i) (they_are_near keys count n.sought i l))))
      (λ (l : count ≤ i). subst (λ (x : ℤ). T (le_z x (pos 2147483647))) (sym (n.past i l h)) tt)
      (lt_or_le i count)

  pub rising : Rising narrow
  rising i j l h =
      ⊎_elim
      (λ (q : j < count).
      let i-is = sym (n.below i (omega arith)) in
      let j-is = sym (n.below j q) in
      subst (λ (x : ℤ). T (le_z x (at j))) i-is (subst (λ (x : ℤ). T (le_z (key i) x)) j-is (lt→le (key i) (key j) (counted-below keys count up i j l q))))
      (λ (q : count ≤ j). subst (λ (x : ℤ). T (le_z (at i) x)) (sym (n.past j q h)) (top i (omega arith)))
      (lt_or_le j count)

  -- ---- one index is left
  module _ (z : ℤ) (low : T (lt_z z (pos 2147483647))) (index : ℕ) (p : Narrowed narrow z 1 index) where
    -- a number that is not above z is a key
    counted_at : T (le_z (at index) z) → index < count
    counted_at h =
        ⊎_elim
        (λ (l : index < count). l)
        (λ (l : count ≤ index).
        let m = subst (λ (x : ℤ). T (le_z x z)) (n.past index l (omega (arith, p.within))) h in
        absurd (lt_apart z z (lt_le z (pos 2147483647) z low m) refl))
        (lt_or_le index count)

    hit : at index ≡ z → first_key keys z 0 count ≡ category index
    hit e =
        let l = counted_at (subst (λ (x : ℤ). T (le_z (at index) x)) e (≤ℤ_refl (at index)).le) in
        let is = sym (n.below index l) ∙ e in
        found_at keys z count index l is (λ j q d. lt_apart (key j) (key index) (counted-below keys count up j index q l) (d ∙ sym is))

    before_index : (j : ℕ) → j < index → key j ≡ z → ⊥
    before_index j q e =
        let s = p.start (omega arith) in
        let l = counted_at s in
        let m = subst (λ (x : ℤ). T (le_z x z)) (n.below index l) s in
        lt_apart (key j) z (lt_le (key j) (key index) z (counted-below keys count up j index q l) m) e

    miss : (at index ≡ z → ⊥) → first_key keys z 0 count ≡ unknown
    miss other =
        found_nowhere keys z count
        (λ j q e. ⊎_elim
        (λ (l : index < j). lt_apart z (at j) (p.above j (omega arith) (omega (arith, n.counted))) (sym (n.below j q ∙ e)))
        (λ (l : j ≤ index). ⊎_elim
        (λ (d : j ≡ index). other (ap at (sym d) ∙ n.below j q ∙ e))
        (λ (l : j < index). before_index j l e)
        (eq-or-lt_of_le l))
        (lt_or_le index j))

    looked_up_lem : (colors : List ℕ) (nodata : ℕ) → cond (eq_z (at index) z) (get_or colors index 0) nodata ≡ rule_color (categoric_rule_colors [] colors nodata)
        (first_key keys z 0 count)
    looked_up_lem colors nodata = go (eq_z (at index) z) (λ t. t) (λ t. t)
      where
        go : (t : Bool) → (T t → T (eq_z (at index) z)) → (T (not t) → T (not (eq_z (at index) z))) → cond t (get_or colors index 0) nodata
            ≡ rule_color (categoric_rule_colors [] colors nodata) (first_key keys z 0 count)
        go true holds fails = sym (ap (rule_color (categoric_rule_colors [] colors nodata)) (hit (eq_z→eq (at index) z (holds tt))))
        go false holds fails =
            sym (ap (rule_color (categoric_rule_colors [] colors nodata))
            (miss (λ e. T_not (eq_z (at index) z) (fails tt) (subst T (sym (same_key (at index) z e)) tt))))

  -- ---- a sample outside the range is no key
  far : (z : ℤ) → (T (in_key_range z) → ⊥) → first_key keys z 0 count ≡ unknown
  far z h = found_nowhere keys z count (λ j q e. h (subst (λ (x : ℤ). T (in_key_range x)) e (they_are_near keys count n.sought j q)))

  by_rule : (t : (Option ℤ)) → first_key keys (narrow_key t) 0 count ≡ key_rule keys count t
  unfolding narrow_key key_rule
  by_rule (Some z) = go (in_key_range z) (λ t. t)
    where
      go : (b : Bool) → (T (in_key_range z) → T b) → first_key keys (cond b z none) 0 count ≡ first_key keys z 0 count
      go true f = refl
      go false f = far none none-is_not ∙ sym (far z f)
  by_rule None = far none none-is_not

  -- ---- the colour of a sample
  at_end : (z : ℤ) → T (lt_z z (pos 2147483647)) → (colors : List ℕ) (nodata : ℕ) → color_at_end narrow colors nodata z
      ≡ rule_color (categoric_rule_colors [] colors nodata) (first_key keys z 0 count)
  unfolding color_at_end
  at_end z low colors nodata = looked_up_lem z low _ (end_narrowed narrow z rising) colors nodata

  pub sample_color : (colors : List ℕ) (nodata : ℕ) (v : Float) → search_color narrow colors nodata v ≡ key_color keys colors count nodata v
  unfolding key_color
  sample_color colors nodata v =
      at_end (narrow_key (truncated v)) (key_below (truncated v)) colors nodata ∙ ap (rule_color (categoric_rule_colors [] colors nodata)) (by_rule (truncated v))
