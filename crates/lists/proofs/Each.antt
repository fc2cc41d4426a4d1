-- A test of each entry of a list that is given by a rule: at an entry, with one entry more, where all pass and where one fails. Assumes nothing.
use Prim.Native.Nat.{ℕ, zero, suc, ◌<◌}
use mathlib.Core.Path.{◌≡◌, refl, sym, ap, ◌∙◌, subst}
use mathlib.Core.Bool.{Bool, true, false, ◌&&◌}
use native.Mathlib.Nat.{le_of_suc-le-suc}
use native.Mathlib.Omega.{arith}
use lib.Dec.{T}
use lib.Ieee.Fits.{and_l, and_r}
use lib.Ieee.Bits.{is_true}
use Rattle.lists.specs.Each.{each}
use Rattle.lists.specs.Tabulate.{tabulate}

pub and_and : (a b c : Bool) → (a && (b && c)) ≡ ((a && b) && c)
and_and true b c = refl
and_and false b c = refl

pub and_true : (a : Bool) → (a && true) ≡ a
and_true true = refl
and_true false = refl

and_false : (a : Bool) → (a && false) ≡ false
and_false true = refl
and_false false = refl

module _ {A : Type 0} (test : A → Bool) where
  abbrev later : ℕ → (ℕ → A) → Bool
  later n f = each test (tabulate n (λ k. f (suc k)))

  pub each_at : (n : ℕ) (f : ℕ → A) → T (each test (tabulate n f)) → (k : ℕ) → k < n → T (test (f k))
  unfolding tabulate each
  each_at zero f h k q = absurd (omega arith)
  each_at (suc n) f h zero q = and_l (test (f 0)) (later n f) h
  each_at (suc n) f h (suc k) q = each_at n (λ k. f (suc k)) (and_r (test (f 0)) (later n f) h) k (omega arith)

  pub each_told : (n : ℕ) (f : ℕ → A) → each test (tabulate n f) ≡ true → (k : ℕ) → k < n → test (f k) ≡ true
  each_told n f e k q = is_true (test (f k)) (each_at n f (subst T (sym e) _) k q)

  pub each_more : (n : ℕ) (f : ℕ → A) → each test (tabulate (suc n) f) ≡ (each test (tabulate n f) && test (f n))
  unfolding tabulate each
  each_more zero f = and_true (test (f 0))
  each_more (suc n) f = ap (λ (b : Bool). test (f 0) && b) (each_more n (λ k. f (suc k))) ∙ and_and (test (f 0)) (later n f) (test (f (suc n)))

  pub each_pass : (n : ℕ) (f : ℕ → A) → ((k : ℕ) → k < n → test (f k) ≡ true) → each test (tabulate n f) ≡ true
  unfolding each tabulate
  each_pass zero f h = refl
  each_pass (suc n) f h = ap (λ (t : Bool). t && later n f) (h 0 (omega arith)) ∙ each_pass n (λ k. f (suc k)) (λ k q. h (suc k) (omega arith))

  pub one_fails : (n : ℕ) (f : ℕ → A) (i : ℕ) → i < n → test (f i) ≡ false → each test (tabulate n f) ≡ false
  unfolding each tabulate
  one_fails zero f i h e = absurd (omega arith)
  one_fails (suc n) f zero h e = ap (λ (t : Bool). t && later n f) e
  one_fails (suc n) f (suc i) h e =
      ap (λ (t : Bool). test (f 0) && t) (one_fails n (λ k. f (suc k)) i (le_of_suc-le-suc h) e) ∙ and_false (test (f 0))
