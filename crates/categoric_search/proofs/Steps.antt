-- A search among 256 numbers that do not descend: its first step, and those by halving. Assumes nothing.
use mathlib.Core.Path.{◌≡◌, refl, sym, subst, ap, ap₂, ◌∙◌}
use mathlib.Core.Bool.{Bool, true, false, not, cond}
use mathlib.Core.List.{List}
use mathlib.Core.Logic.{⊎_elim}
use Prim.Native.Nat.{ℕ, suc, ◌+◌, ◌*◌, ◌≤◌, ◌<◌}
use native.Mathlib.Nat.{eq-or-lt_of_le}
use native.Mathlib.Omega.{arith}
use lib.Dec.{T, lit<, lit≤}
use lib.IntN.{ℤ, pos}
use lib.ListN.{get_or}
use lib.Signed.{lt_z, le_z}
use mir.Syntax.{w32}
use mir.Val.{bool_byte, to_z, of_z, SFits}
use mir.ValLaws.{to_z-of_z}
use Rattle.categoric_keys.proofs.Ascent.{lt_le, not_le, lt_apart}
use Rattle.categoric_keys.specs.Rule.{eq_z}
use Rattle.categoric_search.specs.forms.Bisection.{reaches, first_step, bisect, searched, color_at_end}

-- of the numbers only the `width` ones from `index` on can be z: those from there on are above z, and the one at the index
-- is not, unless it is the first
pub record Narrowed (narrow : List ℤ) (z : ℤ) (width index : ℕ) : Type 0 where
  pub within : index + width ≤ 256
  pub above : (j : ℕ) → index + width ≤ j → j < 256 → T (lt_z z (get_or narrow j (pos 0)))
  pub start : 0 < index → T (le_z (get_or narrow index (pos 0)) z)

-- after n of the numbers at every thirty-second index: all of them were not above z; or one was, and z is among the 32 before it
data Reached (narrow : List ℤ) (z : ℤ) (n index : ℕ) : Type 0 where
  all : index ≡ 32 * n → (0 < index → T (le_z (get_or narrow index (pos 0)) z)) → Reached narrow z n index
  some : index + 32 ≤ 32 * n → Narrowed narrow z 32 index → Reached narrow z n index

abbrev pub Rising : List ℤ → Type 0
Rising narrow = (i j : ℕ) → i < j → j < 256 → T (le_z (get_or narrow i (pos 0)) (get_or narrow j (pos 0)))

seven_times : (a b c d e f g : ℕ) → 0 + 32 * a + 32 * b + 32 * c + 32 * d + 32 * e + 32 * f + 32 * g ≡ 32 * (a + b + c + d + e + f + g)
seven_times a b c d e f g = omega arith

module _ (narrow : List ℤ) (z : ℤ) (up : Rising narrow) where
  abbrev at : ℕ → ℤ
  at j = get_or narrow j (pos 0)

  -- where a number is above z, so are those after it
  above_from : (i : ℕ) → T (not (le_z (at i) z)) → (j : ℕ) → i ≤ j → j < 256 → T (lt_z z (at j))
  above_from i t j p q =
      let m = not_le (at i) z t in
      ⊎_elim
      (λ (e : i ≡ j). subst (λ (k : ℕ). T (lt_z z (at k))) e m)
      (λ (l : i < j). lt_le z (at i) (at j) m (up i j l q))
      (eq-or-lt_of_le p)

  -- ---- the first step: the numbers at every thirty-second index, one after the other

  one_more : (n index : ℕ) → n < 7 → Reached narrow z n index → (t : Bool) → (T t → T (le_z (at (32 * suc n)) z))
      → (T (not t) → T (not (le_z (at (32 * suc n)) z))) → Reached narrow z (suc n) (index + 32 * bool_byte t)
  one_more n index l (all e s) true f g =
      all (omega (arith, e)) (λ p. let i : 32 * suc n ≡ index + 32 * 1 = omega (arith, e) in subst (λ (k : ℕ). T (le_z (at k) z)) i (f tt))
  one_more n index l (all e s) false f g =
      some (omega (arith, e))
      (record {
        within = omega (arith, e, l);
        above = λ j p q. above_from (32 * suc n) (g tt) j (omega (arith, e, p)) q;
        start = λ p. let i : index ≡ index + 32 * 0 = omega arith in subst (λ (k : ℕ). T (le_z (at k) z)) i (s (omega arith));
      })
  one_more n index l (some h m) true f g =
      absurd (lt_apart z z (lt_le z (at (32 * suc n)) z (m.above (32 * suc n) (omega (arith, h)) (omega (arith, l))) (f tt)) refl)
  one_more n index l (some h m) false f g = some (omega (arith, h)) (let i : index ≡ index + 32 * 0 = omega arith in subst (Narrowed narrow z 32) i m)

  one_reached : (n index : ℕ) → n < 7 → Reached narrow z n index → Reached narrow z (suc n) (index + 32 * reaches narrow z (32 * suc n))
  one_reached n index l r = one_more n index l r (le_z (at (32 * suc n)) z) (λ t. t) (λ t. t)

  all_reached : (index : ℕ) → Reached narrow z 7 index → Narrowed narrow z 32 index
  all_reached index (all e s) = record { within = omega (arith, e); above = λ j p q. absurd (omega (arith, e)); start = s }
  all_reached index (some h m) = m

  pub leading_step : {a : ℕ} → a ≡ first_step narrow z → Narrowed narrow z 32 a
  unfolding first_step
  leading_step {a} e =
      let r = reaches narrow z in
      let n0 : Reached narrow z 0 0 = all refl (λ p. absurd (omega arith)) in
      let n1 = one_reached 0 _ (lit< tt) n0 in
      let n2 = one_reached 1 _ (lit< tt) n1 in
      let n3 = one_reached 2 _ (lit< tt) n2 in
      let n4 = one_reached 3 _ (lit< tt) n3 in
      let n5 = one_reached 4 _ (lit< tt) n4 in
      let n6 = one_reached 5 _ (lit< tt) n5 in
      let n7 = one_reached 6 _ (lit< tt) n6 in
      subst (Narrowed narrow z 32) (seven_times (r 32) (r 64) (r 96) (r 128) (r 160) (r 192) (r 224) ∙ sym e) (all_reached _ n7)

  -- ---- a step by halving

  module _ (step index : ℕ) (n : Narrowed narrow z (step * 2) index) where
    by_flag : (t : Bool) → (T t → T (le_z (at (index + step)) z)) → (T (not t) → T (not (le_z (at (index + step)) z)))
        → Narrowed narrow z step (index + step * bool_byte t)
    by_flag true f g =
        record {
          within = omega (arith, n.within);
          above = λ j p q. n.above j (omega arith) q;
          start = λ p. let e : index + step ≡ index + step * 1 = omega arith in subst (λ (k : ℕ). T (le_z (at k) z)) e (f tt);
        }
    by_flag false f g =
        record {
          within = omega (arith, n.within);
          above = λ j p q. above_from (index + step) (g tt) j (omega arith) q;
          start = λ p. let e : index ≡ index + step * 0 = omega arith in subst (λ (k : ℕ). T (le_z (at k) z)) e (n.start (omega arith));
        }

    -- the index after a step
    one-step : {r : ℕ} → r ≡ bisect narrow step z index → Narrowed narrow z step r
    unfolding bisect
    one-step {r} e = subst (Narrowed narrow z step) (sym e) (by_flag (le_z (at (index + step)) z) (λ t. t) (λ t. t))

  -- the first step and five halvings leave one index
  pub end_narrowed : Narrowed narrow z 1 (searched narrow z)
  unfolding searched
  end_narrowed =
      let n1 = one-step 16 _ (leading_step refl) refl in
      let n2 = one-step 8 _ n1 refl in
      let n3 = one-step 4 _ n2 refl in
      let n4 = one-step 2 _ n3 refl in
      one-step 1 _ n4 refl

-- the colour by the indices that the steps give
pub color-at-end :
    (narrow : List ℤ) (colors : List ℕ) (nodata : ℕ) (z : ℤ) {a b c d e f : ℕ}
    → a ≡ first_step narrow z
    → b ≡ bisect narrow 16 z a
    → c ≡ bisect narrow 8 z b
    → d ≡ bisect narrow 4 z c
    → e ≡ bisect narrow 2 z d
    → f ≡ bisect narrow 1 z e
    → cond (eq_z (get_or narrow f (pos 0)) z) (get_or colors f 0) nodata ≡ color_at_end narrow colors nodata z
unfolding color_at_end searched
color-at-end narrow colors nodata z p0 p1 p2 p3 p4 p5 =
    ap (λ (n : ℕ). cond (eq_z (get_or narrow n (pos 0)) z) (get_or colors n 0) nodata)
    (p5 ∙ ap (bisect narrow 1 z) (p4 ∙ ap (bisect narrow 2 z) (p3 ∙ ap (bisect narrow 4 z) (p2 ∙ ap (bisect narrow 8 z) (p1 ∙ ap (bisect narrow 16 z) p0)))))

-- a step stays within the indices
pub step_within : (narrow : List ℤ) (step : ℕ) (z : ℤ) (index : ℕ) → index + step * 2 ≤ 256 → bisect narrow step z index + step ≤ 256
unfolding bisect
step_within narrow step z index h = by_flag (le_z (get_or narrow (index + step) (pos 0)) z)
  where
    by_flag : (t : Bool) → index + step * bool_byte t + step ≤ 256
    by_flag true = omega arith
    by_flag false = omega arith

-- a flag is 0 or 1
pub flag_most : (t : Bool) → bool_byte t ≤ 1
flag_most true = lit≤ tt
flag_most false = lit≤ tt

-- the flag of a stored number: it and z are read back as they were stored
pub reaches-is : (narrow : List ℤ) (z : ℤ) (index : ℕ) {r : ℕ} → SFits w32 z → SFits w32 (get_or narrow index (pos 0)) → r
    ≡ bool_byte (le_z (to_z w32 (of_z w32 (get_or narrow index (pos 0)))) (to_z w32 (of_z w32 z))) → r ≡ reaches narrow z index
reaches-is narrow z index f g e = e ∙ ap₂ (λ (x y : ℤ). bool_byte (le_z x y)) (to_z-of_z w32 (get_or narrow index (pos 0)) g) (to_z-of_z w32 z f)

-- a step by the flag of a stored number
pub halved : (narrow : List ℤ) (z : ℤ) (step index : ℕ) {r : ℕ} → SFits w32 z → SFits w32 (get_or narrow (index + step) (pos 0)) → r
    ≡ bool_byte (le_z (to_z w32 (of_z w32 (get_or narrow (index + step) (pos 0)))) (to_z w32 (of_z w32 z))) → index + step * r ≡ bisect narrow step z index
unfolding bisect
halved narrow z step index f g e = ap (λ (r : ℕ). index + step * r) (reaches-is narrow z (index + step) f g e)

-- the count of the first step, by its seven flags
pub leading-is :
    (narrow : List ℤ) (z : ℤ) {a b c d e f g : ℕ}
    → a ≡ reaches narrow z 32
    → b ≡ reaches narrow z 64
    → c ≡ reaches narrow z 96
    → d ≡ reaches narrow z 128
    → e ≡ reaches narrow z 160
    → f ≡ reaches narrow z 192
    → g ≡ reaches narrow z 224
    → 32 * (a + b + c + d + e + f + g) ≡ first_step narrow z
unfolding first_step
leading-is narrow z p q r s t u v = omega (arith, p, q, r, s, t, u, v)

-- and it stays within the indices
pub leading_within : (narrow : List ℤ) (z : ℤ) → first_step narrow z + 32 ≤ 256
unfolding first_step
leading_within narrow z =
    let most : (index : ℕ) → reaches narrow z index ≤ 1 = λ index. flag_most (le_z (get_or narrow index (pos 0)) z) in
    omega (arith, most 32, most 64, most 96, most 128, most 160, most 192, most 224)
