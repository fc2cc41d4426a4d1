-- The library's comparisons meet the definitions of `Comparison` on every operand. Assumes nothing.
use mathlib.Core.Path.{◌≡◌, refl, subst}
use mathlib.Core.Logic.{◌↔◌, ◌⊎◌, inl, inr}
use Prim.Native.Nat.{ℕ, ◌+◌, ◌*◌, ◌<◌}
use native.Mathlib.Omega.{arith}
use mathlib.Core.Bool.{Bool, true, false, not, ◌||◌, beq}
use lib.Dec.{T, T_not, eqb, ltb→lt, lt→ltb, eqb→eq}
use lib.Ieee.{Float, nan, inf, fin, up, down, lt, le, eq, ne, is_nan, level, below}
use lib.Ieee.Fits.{and_i, and_l, and_r, eq→eqb}
use Rattle.floats.specs.Signed.{positive, negative}
use Rattle.floats.specs.Comparison.{Less, Same, AtMost, Unordered, Differs}
use Rattle.floats.proofs.Order.{or_split, or_l, or_r, total, lt_l, lt_r, eq_l, eq_r, eq_sym, eq→le, lt→le, lt_not_le}

-- ---- less
below→ : (s : Bool) (a : ℕ) (t : Bool) (b : ℕ) → T (below s a t b) → positive s a + negative t b < positive t b + negative s a
below→ false a false b h = omega (arith, ltb→lt a b h)
below→ true a false b h = omega (arith, ltb→lt 0 (a + b) h)
below→ true a true b h = omega (arith, ltb→lt b a h)
below→ false a true b h = absurd h

below← : (s : Bool) (a : ℕ) (t : Bool) (b : ℕ) → positive s a + negative t b < positive t b + negative s a → T (below s a t b)
below← false a false b h = lt→ltb a b (omega arith)
below← true a false b h = lt→ltb 0 (a + b) (omega arith)
below← true a true b h = lt→ltb b a (omega arith)
below← false a true b h = absurd (omega arith)

pub lt_meets : (x y : Float) → T (lt x y) ↔ Less x y
unfolding lt
lt_meets nan y = (λ h. h, λ h. h)
lt_meets (inf true) nan = (λ h. h, λ h. h)
lt_meets (inf false) nan = (λ h. h, λ h. h)
lt_meets (inf true) (inf true) = (λ h. h, λ h. h)
lt_meets (inf true) (inf false) = (λ h. h, λ h. h)
lt_meets (inf false) (inf true) = (λ h. h, λ h. h)
lt_meets (inf false) (inf false) = (λ h. h, λ h. h)
lt_meets (inf true) (fin t n d) = (λ h. h, λ h. h)
lt_meets (inf false) (fin t n d) = (λ h. h, λ h. h)
lt_meets (fin s m e) nan = (λ h. h, λ h. h)
lt_meets (fin s m e) (inf true) = (λ h. h, λ h. h)
lt_meets (fin s m e) (inf false) = (λ h. h, λ h. h)
lt_meets (fin s m e) (fin t n d) = (below→ s (m * up e * down d) t (n * up d * down e), below← s (m * up e * down d) t (n * up d * down e))

-- ---- equal
level→ : (s : Bool) (a : ℕ) (t : Bool) (b : ℕ) → T (level s a t b) → positive s a + negative t b ≡ positive t b + negative s a
level→ s a t b h = go s t (eqb→eq a b (and_l (eqb a b) (beq s t || eqb a 0) h)) (and_r (eqb a b) (beq s t || eqb a 0) h)
  where
    go : (s t : Bool) → a ≡ b → T (beq s t || eqb a 0) → positive s a + negative t b ≡ positive t b + negative s a
    go true true e k = omega arith
    go false false e k = omega arith
    go true false e k = omega (arith, eqb→eq a 0 k)
    go false true e k = omega (arith, eqb→eq a 0 k)

level← : (s : Bool) (a : ℕ) (t : Bool) (b : ℕ) → positive s a + negative t b ≡ positive t b + negative s a → T (level s a t b)
level← true a true b h = and_i (eqb a b) true (eq→eqb {a = a} {b = b} (omega arith)) tt
level← false a false b h = and_i (eqb a b) true (eq→eqb {a = a} {b = b} (omega arith)) tt
level← true a false b h = and_i (eqb a b) (eqb a 0) (eq→eqb {a = a} {b = b} (omega arith)) (eq→eqb {a = a} {b = 0} (omega arith))
level← false a true b h = and_i (eqb a b) (eqb a 0) (eq→eqb {a = a} {b = b} (omega arith)) (eq→eqb {a = a} {b = 0} (omega arith))

signs→ : (s t : Bool) → T (beq s t) → s ≡ t
signs→ true true h = refl
signs→ true false h = absurd h
signs→ false true h = absurd h
signs→ false false h = refl

signs← : (s t : Bool) → s ≡ t → T (beq s t)
signs← true t e = subst (λ (b : Bool). T (beq true b)) e tt
signs← false t e = subst (λ (b : Bool). T (beq false b)) e tt

pub eq_meets : (x y : Float) → T (eq x y) ↔ Same x y
unfolding eq
eq_meets nan y = (λ h. h, λ h. h)
eq_meets (inf s) nan = (λ h. h, λ h. h)
eq_meets (inf s) (inf t) = (signs→ s t, signs← s t)
eq_meets (inf s) (fin t n d) = (λ h. h, λ h. h)
eq_meets (fin s m e) nan = (λ h. h, λ h. h)
eq_meets (fin s m e) (inf t) = (λ h. h, λ h. h)
eq_meets (fin s m e) (fin t n d) = (level→ s (m * up e * down d) t (n * up d * down e), level← s (m * up e * down d) t (n * up d * down e))

-- ---- at most
pub le_meets : (x y : Float) → T (le x y) ↔ AtMost x y
unfolding le
le_meets x y = (there, back)
  where
    there : T (lt x y || eq x y) → AtMost x y
    there h = elim (or_split (lt x y) (eq x y) h) [ inl l ↦ inl ((lt_meets x y).0 l) | inr e ↦ inr ((eq_meets x y).0 e) ]

    back : AtMost x y → T (lt x y || eq x y)
    back (inl l) = or_l (lt x y) (eq x y) ((lt_meets x y).1 l)
    back (inr e) = or_r (lt x y) (eq x y) ((eq_meets x y).1 e)

-- ---- not equal
strict : (x y : Float) → T (le x y) → (T (eq x y) → ⊥) → T (lt x y)
unfolding le
strict x y l n = elim (or_split (lt x y) (eq x y) l) [ inl i ↦ i | inr e ↦ absurd (n e) ]

refuted : (b : Bool) → (T b → ⊥) → T (not b)
refuted true n = n tt
refuted false n = tt

-- of two values that are no NaN and not equal one is less
ordered : (x y : Float) → T (not (is_nan x)) → T (not (is_nan y)) → T (not (eq x y)) → Differs x y
ordered x y n m h = elim (total x y n m) [
  | inl l ↦ inl ((lt_meets x y).0 (strict x y l (T_not (eq x y) h)))
  | inr l ↦ inr (inl ((lt_meets y x).0 (strict y x l (λ (e : T (eq y x)). T_not (eq x y) h (eq_sym y x e)))))
]

there : (x y : Float) → T (not (eq x y)) → Differs x y
unfolding is_nan
there nan y h = inr (inr (inl refl))
there (inf s) nan h = inr (inr (inr refl))
there (inf s) (inf t) h = ordered (inf s) (inf t) tt tt h
there (inf s) (fin t n d) h = ordered (inf s) (fin t n d) tt tt h
there (fin s m e) nan h = inr (inr (inr refl))
there (fin s m e) (inf t) h = ordered (fin s m e) (inf t) tt tt h
there (fin s m e) (fin t n d) h = ordered (fin s m e) (fin t n d) tt tt h

back : (x y : Float) → Differs x y → T (eq x y) → ⊥
unfolding is_nan
back x y (inl l) e = lt_not_le x y ((lt_meets x y).1 l) (eq→le y x (eq_sym x y e))
back x y (inr (inl l)) e = lt_not_le y x ((lt_meets y x).1 l) (eq→le x y e)
back x y (inr (inr (inl n))) e = subst (λ (z : Float). T (not (is_nan z))) n (eq_l x y e)
back x y (inr (inr (inr n))) e = subst (λ (z : Float). T (not (is_nan z))) n (eq_r x y e)

pub ne_meets : (x y : Float) → T (ne x y) ↔ Differs x y
unfolding ne
ne_meets x y = (there x y, λ (d : Differs x y). refuted (eq x y) (back x y d))

-- ---- 5.11: of less, equal, greater and unordered one holds, and no two
module _ (x y : Float) where
  pub some_relation : Same x y ⊎ Less x y ⊎ Less y x ⊎ Unordered x y
  some_relation = go (eq x y) (eq_meets x y).0 (there x y)
    where
      go : (b : Bool) → (T b → Same x y) → (T (not b) → Differs x y) → Same x y ⊎ Less x y ⊎ Less y x ⊎ Unordered x y
      go true p q = inl (p tt)
      go false p q = inr (q tt)

  pub same-alone : Same x y → Less x y ⊎ Less y x ⊎ Unordered x y → ⊥
  same-alone h d = back x y d ((eq_meets x y).1 h)

  pub less_not_greater : Less x y → Less y x → ⊥
  less_not_greater h k = lt_not_le x y ((lt_meets x y).1 h) (lt→le y x ((lt_meets y x).1 k))

  pub less_not_unordered : Less x y → Unordered x y → ⊥
  unfolding is_nan
  less_not_unordered h (inl n) = subst (λ (z : Float). T (not (is_nan z))) n (lt_l x y ((lt_meets x y).1 h))
  less_not_unordered h (inr n) = subst (λ (z : Float). T (not (is_nan z))) n (lt_r x y ((lt_meets x y).1 h))
