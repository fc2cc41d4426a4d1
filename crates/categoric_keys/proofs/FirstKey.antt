-- What makes an entry the first with a key: its key is the one sought, and none before it is. Assumes nothing.
use mathlib.Core.Path.{◌≡◌, refl, sym, ap, ◌∙◌, subst}
use mathlib.Core.Bool.{Bool, true, false, not}
use mathlib.Core.List.{List}
use mathlib.Core.Logic.{⊎_elim}
use Prim.Native.Nat.{ℕ, zero, suc, ◌+◌, ◌≤◌, ◌<◌}
use native.Mathlib.Nat.{eq-or-lt_of_le}
use native.Mathlib.Omega.{arith}
use lib.Dec.{T, T_not, not_T, eqb, eqb→eq, eqb_refl}
use lib.Ieee.Bits.{is_true, is_false}
use lib.IntN.{ℤ, pos, negsuc}
use lib.ListN.{get_or}
use mir.Syntax.{Width}
use mir.Val.{SFits, of_z, to_z}
use mir.ValLaws.{to_z-of_z}
use Rattle.colormapper.specs.Rule.{category, unknown}
use Rattle.categoric_keys.specs.Rule.{eq_z, first_key}

-- ---- the same key
pub eq_z→eq : (a b : ℤ) → T (eq_z a b) → a ≡ b
eq_z→eq (pos a) (pos b) h = ap pos (eqb→eq a b h)
eq_z→eq (pos a) (negsuc b) h = absurd h
eq_z→eq (negsuc a) (pos b) h = absurd h
eq_z→eq (negsuc a) (negsuc b) h = ap negsuc (eqb→eq a b h)

eq_z_refl : (a : ℤ) → T (eq_z a a)
eq_z_refl (pos a) = eqb_refl a
eq_z_refl (negsuc a) = eqb_refl a

pub same_key : (a b : ℤ) → a ≡ b → eq_z a b ≡ true
same_key a b e = is_true (eq_z a b) (subst (λ (x : ℤ). T (eq_z a x)) e (eq_z_refl a))

pub other_key : (a b : ℤ) → (a ≡ b → ⊥) → eq_z a b ≡ false
other_key a b n = is_false (eq_z a b) (not_T (eq_z a b) (λ t. n (eq_z→eq a b t)))

-- by the bits
pub same_bits : (w : Width) (a b : ℤ) → SFits w a → SFits w b → of_z w a ≡ of_z w b → a ≡ b
same_bits w a b f g e = sym (to_z-of_z w a f) ∙ ap (to_z w) e ∙ to_z-of_z w b g

pub by_bits : (w : Width) (a b : ℤ) → SFits w a → SFits w b → eqb (of_z w a) (of_z w b) ≡ eq_z a b
by_bits w a b f g = go (eqb (of_z w a) (of_z w b)) (λ t. t) (λ t. t)
  where
    go : (t : Bool) → (T t → T (eqb (of_z w a) (of_z w b))) → (T (not t) → T (not (eqb (of_z w a) (of_z w b)))) → t ≡ eq_z a b
    go true holds fails = sym (same_key a b (same_bits w a b f g (eqb→eq (of_z w a) (of_z w b) (holds tt))))
    go false holds fails =
        sym (other_key a b (λ e. T_not (eqb (of_z w a) (of_z w b)) (fails tt) (subst (λ (x : ℤ). T (eqb (of_z w a) (of_z w x))) e (eqb_refl (of_z w a)))))

-- ---- of n entries from entry m on
module _ (keys : List ℤ) (z : ℤ) where
  found_from : (m n k : ℕ) → m ≤ k → k < m + n → get_or keys k (pos 0) ≡ z → ((j : ℕ) → j < k → get_or keys j (pos 0) ≡ z → ⊥) → first_key keys z m n ≡ category k
  unfolding first_key
  found_from m zero k l h e before = absurd (omega arith)
  found_from m (suc n) k l h e before =
      ⊎_elim
      (λ (q : m ≡ k). let here : get_or keys m (pos 0) ≡ z = ap (λ (i : ℕ). get_or keys i (pos 0)) q ∙ e in rw (same_key (get_or keys m (pos 0)) z here)
      (ap category q))
      (λ (q : m < k). rw (other_key (get_or keys m (pos 0)) z (before m q)) (found_from (suc m) n k q (omega arith) e before))
      (eq-or-lt_of_le l)

  missing_from : (m n : ℕ) → ((j : ℕ) → j < m + n → get_or keys j (pos 0) ≡ z → ⊥) → first_key keys z m n ≡ unknown
  unfolding first_key
  missing_from m zero none = refl
  missing_from m (suc n) none = rw (other_key (get_or keys m (pos 0)) z (none m (omega arith))) (missing_from (suc m) n (λ j q. none j (omega arith)))

  -- ---- of the counted entries
  pub found_at : (count k : ℕ) → k < count → get_or keys k (pos 0) ≡ z → ((j : ℕ) → j < k → get_or keys j (pos 0) ≡ z → ⊥) → first_key keys z 0 count ≡ category k
  found_at count k h e before = found_from 0 count k (omega arith) (omega arith) e before

  pub found_nowhere : (count : ℕ) → ((j : ℕ) → j < count → get_or keys j (pos 0) ≡ z → ⊥) → first_key keys z 0 count ≡ unknown
  found_nowhere count none = missing_from 0 count (λ j q. none j (omega arith))
