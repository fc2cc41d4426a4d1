-- Keys ascend where each is below the next; then each is below all after it. Assumes nothing.
use mathlib.Core.Path.{◌≡◌, refl, sym, subst, ap, ap₂, ◌∙◌}
use mathlib.Core.Bool.{Bool, true, false, not, ◌&&◌}
use mathlib.Core.List.{List}
use mathlib.Core.Logic.{⊎_elim}
use Prim.Native.Nat.{ℕ, zero, suc, ◌+◌, ◌-◌, ◌≤◌, ◌<◌}
use native.Mathlib.Omega.{arith}
use native.Mathlib.Nat.{eq-or-lt_of_le}
use native.Mathlib.Numerals.{add-one}
use lib.Dec.{T, le→leb, ltb→lt, lt→ltb, nleb→lt}
use lib.Ieee.Fits.{and_l, and_r}
use lib.IntN.{ℤ, pos, negsuc}
use lib.ListN.{get_or}
use lib.Signed.{lt_z, le_z, lt_z_yes, le_z_yes, <ℤ-≤ℤ_trans, <ℤ_irrefl}
use Rattle.categoric_lists.specs.Ascending.{ascends}

-- ---- the order of two keys
pub lt→le : (a b : ℤ) → T (lt_z a b) → T (le_z a b)
lt→le (pos a) (pos b) h = let l = ltb→lt a b h in le→leb a b (omega arith)
lt→le (pos a) (negsuc b) h = h
lt→le (negsuc a) (pos b) h = tt
lt→le (negsuc a) (negsuc b) h = let l = ltb→lt b a h in le→leb b a (omega arith)

pub lt_le : (a b c : ℤ) → T (lt_z a b) → T (le_z b c) → T (lt_z a c)
lt_le a b c h k = (<ℤ-≤ℤ_trans (lt_z_yes {a = a} {b = b} h) (le_z_yes {a = b} {b = c} k)).lt

pub lt_lt : (a b c : ℤ) → T (lt_z a b) → T (lt_z b c) → T (lt_z a c)
lt_lt a b c h k = lt_le a b c h (lt→le b c k)

pub not_le : (a b : ℤ) → T (not (le_z a b)) → T (lt_z b a)
not_le (pos a) (pos b) t = lt→ltb b a (nleb→lt a b t)
not_le (pos a) (negsuc b) t = tt
not_le (negsuc a) (pos b) t = t
not_le (negsuc a) (negsuc b) t = lt→ltb a b (nleb→lt b a t)

pub lt_apart : (a b : ℤ) → T (lt_z a b) → a ≡ b → ⊥
lt_apart a b h e = <ℤ_irrefl (lt_z_yes {a = b} {b = b} (subst (λ (x : ℤ). T (lt_z x b)) e h))

-- ---- the counted keys
pub counted-below : (keys : List ℤ) (count : ℕ) → T (ascends keys count) → (i j : ℕ) → i < j → j < count → T (lt_z (get_or keys i (pos 0)) (get_or keys j (pos 0)))
unfolding ascends
counted-below keys zero h i j p q = absurd (omega arith)
counted-below keys (suc zero) h i j p q = absurd (omega arith)
counted-below keys (suc (suc n)) h i j p q =
    let rest = and_l (ascends keys (suc n)) (lt_z (get_or keys n (pos 0)) (get_or keys (suc n) (pos 0))) h in
    let last = and_r (ascends keys (suc n)) (lt_z (get_or keys n (pos 0)) (get_or keys (suc n) (pos 0))) h in
    ⊎_elim
    (λ (e : j ≡ suc n). subst (λ (k : ℕ). T (lt_z (get_or keys i (pos 0)) (get_or keys k (pos 0)))) (sym e)
    (⊎_elim
    (λ (g : i ≡ n). subst (λ (k : ℕ). T (lt_z (get_or keys k (pos 0)) (get_or keys (suc n) (pos 0)))) (sym g) last)
    (λ (g : i < n). lt_lt (get_or keys i (pos 0)) (get_or keys n (pos 0)) (get_or keys (suc n) (pos 0)) (counted-below keys (suc n) rest i n g (omega arith)) last)
    (eq-or-lt_of_le (omega arith))))
    (λ (g : j < suc n). counted-below keys (suc n) rest i j p g)
    (eq-or-lt_of_le (omega arith))

-- one key more
pub one_more : (keys : List ℤ) (i : ℕ) → 0 < i → ascends keys (i + 1) ≡ (ascends keys i && lt_z (get_or keys (i - 1) (pos 0)) (get_or keys i (pos 0)))
unfolding ascends
one_more keys zero p = absurd (omega arith)
one_more keys (suc n) p = let e : suc n - 1 ≡ n = omega arith in rw (add-one (suc n), e)

-- none or one ascends
pub few : (keys : List ℤ) (i : ℕ) → i ≤ 1 → ascends keys i ≡ true
unfolding ascends
few keys zero h = refl
few keys (suc zero) h = refl
few keys (suc (suc i)) h = absurd (omega arith)

-- where some of the keys do not ascend, more do not either
pub never_again : (keys : List ℤ) (i k : ℕ) → 0 < i → ascends keys i ≡ false → ascends keys (i + k) ≡ false
never_again keys i zero p e = let g : i + zero ≡ i = omega arith in ap (ascends keys) g ∙ e
never_again keys i (suc k) p e =
    let g : i + suc k ≡ i + k + 1 = omega arith in
    ap (ascends keys) g ∙ one_more keys (i + k) (omega arith) ∙ ap (λ (b : Bool). b && lt_z (get_or keys (i + k - 1) (pos 0)) (get_or keys (i + k) (pos 0)))
    (never_again keys i k p e)

-- ---- the next pair
not_below : (b : Bool) → not b ≡ true → b ≡ false
not_below true e = sym e
not_below false e = refl

is_below : (b : Bool) → not b ≡ false → b ≡ true
is_below true e = refl
is_below false e = sym e

and_no : (a : Bool) → (a && false) ≡ false
and_no true = refl
and_no false = refl

module _ (keys : List ℤ) (i : ℕ) (p : 0 < i) {x y : ℤ} (e : x ≡ get_or keys (i - 1) (pos 0)) (f : y ≡ get_or keys i (pos 0)) where
  pub stops : (count : ℕ) → i < count → not (lt_z x y) ≡ true → ascends keys count ≡ false
  stops count q h =
      let g : i + 1 + (count - (i + 1)) ≡ count = omega arith in
      let fell : ascends keys (i + 1) ≡ false = one_more keys i p ∙ ap (λ (b : Bool). ascends keys i && b) (sym (ap₂ lt_z e f) ∙ not_below (lt_z x y) h)
      ∙ and_no (ascends keys i) in
      sym (ap (ascends keys) g) ∙ never_again keys (i + 1) (count - (i + 1)) (omega arith) fell

  pub goes_on : ascends keys i ≡ true → not (lt_z x y) ≡ false → ascends keys (i + 1) ≡ true
  goes_on up h = one_more keys i p ∙ ap₂ (λ (a b : Bool). a && b) up (sym (ap₂ lt_z e f) ∙ is_below (lt_z x y) h)

-- where none or one is counted, or all up to the count ascend
pub all_ascend : (keys : List ℤ) (i n : ℕ) → n ≤ i → (1 ≤ n → i ≤ n) → ascends keys i ≡ true → ascends keys n ≡ true
unfolding ascends
all_ascend keys i zero h g e = refl
all_ascend keys i (suc n) h g e = let d : suc n ≡ i = omega arith in ap (ascends keys) d ∙ e
