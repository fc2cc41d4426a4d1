-- The index of a band, found by counting: one start more, how large it is, and what the starts are before and after it where bands ascend and are disjoint.
-- Assumes nothing.
use mathlib.Core.Path.{◌≡◌, refl, sym, subst}
use mathlib.Core.Bool.{Bool, true, false, not, cond}
use mathlib.Core.List.{List}
use mathlib.Core.Logic.{inl, inr, ⊎_elim}
use Prim.Native.Nat.{ℕ, zero, suc, ◌+◌, ◌^◌, ◌≤◌, ◌<◌}
use native.Mathlib.Nat.{eq-or-lt_of_le}
use native.Mathlib.Numerals.{add-one}
use native.Mathlib.Omega.{arith}
use lib.Dec.{T, T_not, not_T}
use lib.Ieee.{Float, nan, lt, le}
use lib.Ieee.Fits.{and_l, and_r}
use lib.ListN.{get_or}
use mir.Val.{bool_byte}
use Rattle.lists.proofs.Numbers.{lt_or_le}
use Rattle.floats.proofs.Order.{le_le, lt_le, lt_not_le}
use Rattle.banded_search.specs.forms.Indices.{band_index, held_at}
use Rattle.banded_search.proofs.Ascent.{Ascent}

at_most_one : (t : Bool) → cond t 1 0 ≤ 1
at_most_one true = omega arith
at_most_one false = omega arith

-- a flag as a number
pub flag_is : (t : Bool) → bool_byte t ≡ cond t 1 0
flag_is true = refl
flag_is false = refl

-- an index in the arrays, moved on by a flag, still fits a word
pub moved_fits : (index : ℕ) (t : Bool) → index < 64 → index + bool_byte t < 2 ^ 32
moved_fits index true h = omega arith
moved_fits index false h = omega arith

yes_is : (t : Bool) → T t → ◌≡◌ {A = ℕ} (cond t 1 0) 1
yes_is true h = refl
yes_is false h = absurd h

module _ (starts : List Float) (v : Float) where
  abbrev start : ℕ → Float
  start j = get_or starts j nan

  abbrev reached : ℕ → Bool
  reached j = le (start j) v

  pub index_few : (i : ℕ) → i ≤ 1 → band_index starts i v ≡ 0
  unfolding band_index
  index_few zero h = refl
  index_few (suc zero) h = refl
  index_few (suc (suc i)) h = absurd (omega arith)

  pub index_more : (i : ℕ) → 0 < i → band_index starts (i + 1) v ≡ band_index starts i v + cond (reached i) 1 0
  unfolding band_index
  index_more zero h = absurd (omega arith)
  index_more (suc n) h = rw (add-one (suc n))

  at_most : (n : ℕ) → band_index starts (suc n) v ≤ n
  unfolding band_index
  at_most zero = omega arith
  at_most (suc n) = omega (arith, at_most n, at_most_one (reached (suc n)))

  pub index_below : (count : ℕ) → 0 < count → band_index starts count v < count
  index_below zero h = absurd (omega arith)
  index_below (suc n) h = omega (arith, at_most n)

  pub index_in_arrays : (count : ℕ) → count ≤ 64 → band_index starts count v < 64
  index_in_arrays zero h = omega (arith, index_few 0 (omega arith))
  index_in_arrays (suc n) h = omega (arith, at_most n)

  -- all count where each is reached
  all-count : (n : ℕ) → ((j : ℕ) → 0 < j → j ≤ n → T (reached j)) → band_index starts (suc n) v ≡ n
  unfolding band_index
  all-count zero h = refl
  all-count (suc n) h = omega (arith, all-count n (λ j p q. h j p (omega arith)), yes_is (reached (suc n)) (h (suc n) (omega arith) (omega arith)))

  -- the start at an index is reached, unless it is the first, and those after it are not
  record Stands (count index : ℕ) : Type 0 where
    pub here : 0 < index → T (reached index)
    pub later : (j : ℕ) → index < j → j < count → T (not (reached j))

  module _ (ends : List Float) where
    one-start_more : (n : ℕ) → Ascent starts ends (suc (suc n)) → (t : Bool) → (T t → T (reached (suc n))) → (T (not t) → T (not (reached (suc n)))) →
        Stands (suc n) (band_index starts (suc n) v) → Stands (suc (suc n)) (band_index starts (suc n) v + cond t 1 0)
    one-start_more n a true f g s =
        let e : band_index starts (suc n) v
        ≡ n = all-count n (λ j p q. le_le (start j) (start (suc n)) v (a j (suc n) (omega arith) (omega arith)).starts_ascend (f tt)) in
        let d : suc n ≡ band_index starts (suc n) v + 1 = omega arith in
        record { here = λ p. subst (λ (k : ℕ). T (reached k)) d (f tt); later = λ j p q. absurd (omega arith) }
    one-start_more n a false f g s =
        let e : band_index starts (suc n) v ≡ band_index starts (suc n) v + 0 = omega arith in
        record {
          here = λ p. subst (λ (k : ℕ). T (reached k)) e (s.here (omega arith));
          later = λ j p q. ⊎_elim
              (λ (d : j ≡ suc n). subst (λ (k : ℕ). T (not (reached k))) (sym d) (g tt))
              (λ (l : j < suc n). s.later j (omega arith) l)
              (eq-or-lt_of_le (omega arith));
        }

    stands : (count : ℕ) → Ascent starts ends count → Stands count (band_index starts count v)
    unfolding band_index
    stands zero a = record { here = λ p. absurd (omega arith); later = λ j p q. absurd (omega arith) }
    stands (suc zero) a = record { here = λ p. absurd (omega arith); later = λ j p q. absurd (omega arith) }
    stands (suc (suc n)) a = one-start_more n a (reached (suc n)) (λ h. h) (λ h. h) (stands (suc n) (λ i j p q. a i j p (omega arith)))

    -- no band but the one at the index holds the sample
    pub no_other : (count : ℕ) → Ascent starts ends count → (j : ℕ) → j < count → (j ≡ band_index starts count v → ⊥) → T (not (held_at starts ends j v))
    no_other count a j q d =
        let p = band_index starts count v in
        not_T (held_at starts ends j v)
        (λ (h : T (held_at starts ends j v)). elim (lt_or_le j p) [
          | inl l ↦ lt_not_le v (start p)
              (lt_le v (get_or ends j nan) (start p) (and_r (reached j) (lt v (get_or ends j nan)) h) (a j p l (index_below count (omega arith))).past)
              ((stands count a).here (omega arith))
          | inr l ↦ T_not (reached j) ((stands count a).later j (elim (eq-or-lt_of_le l) [ inl x ↦ absurd (d (sym x)) | inr x ↦ x ]) q)
              (and_l (reached j) (lt v (get_or ends j nan)) h)
        ])
