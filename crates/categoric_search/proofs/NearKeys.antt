-- Keys near 0: each of them is where the ends are, and their narrowing to 32 bits. Assumes nothing.
use Rattle.std.specs.Prelude.{Option, Some, None}
use mathlib.Core.Path.{◌≡◌, refl, sym, subst, ap}
use mathlib.Core.Bool.{Bool, true, false, cond, ◌&&◌}
use mathlib.Core.List.{List}
use mathlib.Core.Logic.{⊎_elim}
use Prim.Native.Nat.{ℕ, zero, suc, ◌-◌, ◌<◌}
use native.Mathlib.Nat.{eq-or-lt_of_le}
use native.Mathlib.Omega.{arith}
use lib.Dec.{T, ltb→lt, lit<}
use lib.Ieee.Fits.{and_i, and_l, and_r}
use lib.IntN.{ℤ, pos, negsuc}
use lib.ListN.{get_or}
use lib.Signed.{mag, lt_z}
use mir.Syntax.{w32}
use mir.Val.{SFits}
use Rattle.categoric_lists.specs.Ascending.{ascends}
use Rattle.categoric_keys.proofs.Ascent.{lt_lt, counted-below}
use Rattle.categoric_search.specs.forms.Searchable.{in_key_range, ends_in_key_range, searchable}
use Rattle.categoric_search.specs.forms.Narrow.{none, narrow_key}

-- what lies between two numbers near 0 is near it
near_between : (a z b : ℤ) → T (in_key_range a) → T (in_key_range b) → T (lt_z a z) → T (lt_z z b) → T (in_key_range z)
unfolding in_key_range
near_between a z b l h p q =
    and_i (lt_z none z) (lt_z z (pos 16777217))
    (lt_lt none a z (and_l (lt_z none a) (lt_z a (pos 16777217)) l) p)
    (lt_lt z b (pos 16777217) q (and_r (lt_z none b) (lt_z b (pos 16777217)) h))

near_at : (keys : List ℤ) (count : ℕ) → T (ascends keys count) → T (ends_in_key_range keys count) → (j : ℕ) → j < count → T (in_key_range (get_or keys j (pos 0)))
unfolding ends_in_key_range
near_at keys zero u h j q = absurd (omega arith)
near_at keys (suc n) u h j q =
    let first = and_l (in_key_range (get_or keys 0 (pos 0))) (in_key_range (get_or keys n (pos 0))) h in
    let last = and_r (in_key_range (get_or keys 0 (pos 0))) (in_key_range (get_or keys n (pos 0))) h in
    ⊎_elim
    (λ (e : 0 ≡ j). subst (λ (k : ℕ). T (in_key_range (get_or keys k (pos 0)))) e first)
    (λ (l : 0 < j). ⊎_elim
    (λ (e : j ≡ n). subst (λ (k : ℕ). T (in_key_range (get_or keys k (pos 0)))) (sym e) last)
    (λ (m : j < n). near_between (get_or keys 0 (pos 0)) (get_or keys j (pos 0)) (get_or keys n (pos 0)) first last (counted-below keys (suc n) u 0 j l q)
    (counted-below keys (suc n) u j n m (omega arith)))
    (eq-or-lt_of_le (omega arith)))
    (eq-or-lt_of_le (omega arith))

module _ (keys : List ℤ) (count : ℕ) (h : searchable keys count ≡ true) where
  both : T (ascends keys count && ends_in_key_range keys count)
  unfolding searchable
  both = subst T (sym h) tt

  pub they_ascend : T (ascends keys count)
  they_ascend = and_l (ascends keys count) (ends_in_key_range keys count) both

  pub they_are_near : (j : ℕ) → j < count → T (in_key_range (get_or keys j (pos 0)))
  they_are_near = near_at keys count they_ascend (and_r (ascends keys count) (ends_in_key_range keys count) both)

-- the ends of some keys
pub ends_of : (keys : List ℤ) (count : ℕ) → (count ≡ 0 → ⊥) → (in_key_range (get_or keys 0 (pos 0)) && in_key_range (get_or keys (count - 1) (pos 0)))
    ≡ ends_in_key_range keys count
unfolding ends_in_key_range
ends_of keys zero n = absurd (n refl)
ends_of keys (suc m) n = let last : suc m - 1 ≡ m = omega arith in ap (λ (j : ℕ). in_key_range (get_or keys 0 (pos 0)) && in_key_range (get_or keys j (pos 0))) last

-- ---- one number
pub near_below : (z : ℤ) → T (in_key_range z) → T (lt_z z (pos 2147483647))
unfolding in_key_range
near_below z h = lt_lt z (pos 16777217) (pos 2147483647) (and_r (lt_z none z) (lt_z z (pos 16777217)) h) tt

pub none-is_not : T (in_key_range none) → ⊥
unfolding in_key_range
none-is_not h = h

small : (z : ℤ) → T (lt_z none z) → T (lt_z z (pos 16777217)) → mag z < 2147483648
small (pos n) l h = let q = ltb→lt n 16777217 h in omega arith
small (negsuc n) l h = let q = ltb→lt n 16777216 l in omega arith

pub near_fits : (z : ℤ) → T (in_key_range z) → SFits w32 z
unfolding in_key_range
near_fits z h = record { sfits = small z (and_l (lt_z none z) (lt_z z (pos 16777217)) h) (and_r (lt_z none z) (lt_z z (pos 16777217)) h) }

-- the counted keys fit 32 bits
pub counted_fit : (keys : List ℤ) (count : ℕ) → searchable keys count ≡ true → (j : ℕ) → j < count → SFits w32 (get_or keys j (pos 0))
counted_fit keys count h j q = near_fits (get_or keys j (pos 0)) (they_are_near keys count h j q)

-- ---- a sample's key
-- a sample's key is below the number that stands after the keys
pub key_below : (t : (Option ℤ)) → T (lt_z (narrow_key t) (pos 2147483647))
unfolding narrow_key
key_below (Some z) = go (in_key_range z) (λ h. near_below z h)
  where
    go : (b : Bool) → (T b → T (lt_z z (pos 2147483647))) → T (lt_z (cond b z none) (pos 2147483647))
    go true f = f tt
    go false f = tt
key_below None = tt

-- and fits 32 bits
pub key_fits : (t : (Option ℤ)) → SFits w32 (narrow_key t)
unfolding narrow_key
key_fits (Some z) = go (in_key_range z) (near_fits z)
  where
    go : (b : Bool) → (T b → SFits w32 z) → SFits w32 (cond b z none)
    go true f = f tt
    go false f = record { sfits = lit< tt }
key_fits None = record { sfits = lit< tt }
