-- A list in an array that has more places: its length, its entries, and one entry more. Assumes nothing.
use mathlib.Core.Path.{◌≡◌, refl, sym, ap, ◌∙◌}
use mathlib.Core.List.{List, [], ◌∷◌, ◌++◌, append_assoc, append-nil}
use Prim.Native.Nat.{ℕ, zero, suc, ◌+◌, ◌-◌, ◌≤◌, ◌<◌}
use mathlib.Core.Logic.{inl, inr}
use native.Mathlib.Nat.{le_antisymm}
use native.Mathlib.Numerals.{add-one}
use native.Mathlib.Omega.{arith}
use lib.ListN.{length, get_or, take, drop, set, replicate, length-append, length-drop, length-replicate, get_or-replicate, get_or-append, get_or-eq_default}
use lib.Seq.{set_at, take-append_seam, get_or-append-add, length-take-le, get_or-take, get_or-drop}
use Rattle.lists.proofs.Numbers.{lt_or_le}
use Rattle.lists.specs.Tabulate.{tabulate}
use Rattle.lists.specs.Padded.{padded}
use Rattle.lists.proofs.Tabulated.{length-tabulate, tabulated}

module _ {A : Type 0} (z : A) (n : ℕ) where
  pub length-padded : (xs : List A) → length xs ≤ n → length (padded z n xs) ≡ n
  unfolding padded
  length-padded xs h = omega (arith, length-append xs (replicate (n - length xs) z), length-replicate (n - length xs) z)

  pub padded-none : padded z n [] ≡ replicate n z
  unfolding padded
  padded-none = let e : n - 0 ≡ n = omega arith in ap (λ (m : ℕ). replicate m z) e

  pub padded-full : (xs : List A) → length xs ≡ n → padded z n xs ≡ xs
  unfolding padded
  padded-full xs e = let none : n - length xs ≡ 0 = omega arith in ap (λ (m : ℕ). xs ++ replicate m z) none ∙ append-nil xs

  pub take-padded : (xs : List A) → take (length xs) (padded z n xs) ≡ xs
  unfolding padded
  take-padded xs = take-append_seam xs (replicate (n - length xs) z)

  -- the list again, from the first places of an array that holds it
  pub padded_front : (xs : List A) {r : List A} {l : ℕ} → r ≡ padded z n xs → length xs ≡ l → take l r ≡ xs
  padded_front xs {r} e h = ap (λ (m : ℕ). take m r) (sym h) ∙ ap (take (length xs)) e ∙ take-padded xs

  -- the same of a part of a list
  pub padded_part : (xs : List A) (base l : ℕ) {r : List A} → r ≡ padded z n (take l (drop base xs)) → base + l ≤ length xs → take l r ≡ take l (drop base xs)
  padded_part xs base l e h = padded_front (take l (drop base xs)) e (length-take-le l (drop base xs) (omega (arith, length-drop base xs)))

  -- within the list its entries, and past its end z
  pub get_or-padded : (xs : List A) (k : ℕ) (y : A) → k < length xs → get_or (padded z n xs) k y ≡ get_or xs k y
  unfolding padded
  get_or-padded xs k y h = get_or-append xs (replicate (n - length xs) z) y k h

  blank : (m : ℕ) → 0 < m → replicate m z ≡ z ∷ replicate (m - 1) z
  blank zero h = absurd (omega arith)
  blank (suc m) h = ap (λ (j : ℕ). z ∷ replicate j z) (less m)
    where
      less : (m : ℕ) → m ≡ suc m - 1
      less m = omega arith

  -- the store of x in the first unused place
  pub padded_more : (xs : List A) (x : A) (i : ℕ) → length xs ≡ i → i < n → set (padded z n xs) i x ≡ padded z n (xs ++ (x ∷ []))
  unfolding padded
  padded_more xs x i e h =
      let m : n - length (xs ++ (x ∷ [])) ≡ n - length xs - 1 = omega (arith, length-append xs (x ∷ [])) in
      ap (λ (r : List A). set (xs ++ r) i x) (blank (n - length xs) (omega arith))
      ∙ set_at xs z (replicate (n - length xs - 1) z) x i e
      ∙ sym (append_assoc xs (x ∷ []) (replicate (n - length (xs ++ (x ∷ []))) z) ∙ ap (λ (j : ℕ). xs ++ x ∷ replicate j z) m)

  -- an entry past the list's end
  pub get_d_past : (xs : List A) (k : ℕ) (y : A) → length xs ≤ k → k < n → get_or (padded z n xs) k y ≡ z
  unfolding padded
  get_d_past xs k y h g =
      let e : k ≡ length xs + (k - length xs) = omega arith in
      ap (λ (j : ℕ). get_or (xs ++ replicate (n - length xs) z) j y) e
      ∙ get_or-append-add xs (replicate (n - length xs) z) (k - length xs) y ∙ get_or-replicate (n - length xs) (k - length xs) z y (omega arith)

-- one entry more by the rule
next : {A : Type 0} (n : ℕ) (f : ℕ → A) → tabulate (suc n) f ≡ tabulate n f ++ (f n ∷ [])
unfolding tabulate
next zero f = refl
next (suc n) f = ap (λ r. f zero ∷ r) (next n (λ k. f (suc k)))

pub tabulate_more : {A : Type 0} (n : ℕ) (f : ℕ → A) → tabulate (n + 1) f ≡ tabulate n f ++ (f n ∷ [])
tabulate_more n f = ap (λ (m : ℕ). tabulate m f) (add-one n) ∙ next n f

-- all places by the list's entries, and z past its end
pub tabulate-padded : {A : Type 0} (z : A) (n : ℕ) (xs : List A) → length xs ≤ n → tabulate n (λ k. get_or xs k z) ≡ padded z n xs
tabulate-padded z n xs h =
    sym
    (tabulated z n (λ k. get_or xs k z) (padded z n xs) (length-padded z n xs h)
    (λ k q. elim (lt_or_le k (length xs)) [ inl l ↦ get_or-padded z n xs k z l | inr l ↦ get_d_past z n xs k z l q ∙ sym (get_or-eq_default xs z l) ]))

-- ---- a loop that stores f k in place k of an array of n, for each k below l, and leaves z in the others: its invariant at i, the first turn, each turn and
-- the end
pub record Storing {A : Type 0} (z : A) (f : ℕ → A) (n l i : ℕ) (r : List A) : Type 0 where
  pub upto : i ≤ l
  pub is : r ≡ padded z n (tabulate i f)

module _ {A : Type 0} {z : A} {f : ℕ → A} {n l : ℕ} where
  pub storing_start : Storing z f n l 0 (replicate n z)
  unfolding tabulate
  storing_start = record { upto = omega arith; is = sym (padded-none z n) }

  pub storing_turn : {i : ℕ} {r : List A} {x : A} → Storing z f n l i r → i < l → l ≤ n → x ≡ f i → Storing z f n l (i + 1) (set r i x)
  storing_turn {i} {r} {x} s h g e =
      record {
        upto = omega arith;
        is =
            ap (λ (y : List A). set y i x) s.is ∙ padded_more z n (tabulate i f) x i (length-tabulate i f) (omega arith)
            ∙ ap (λ (y : A). padded z n (tabulate i f ++ (y ∷ []))) e ∙ ap (padded z n) (sym (tabulate_more i f));
      }

  pub storing_end : {i : ℕ} {r : List A} → Storing z f n l i r → l ≤ i → r ≡ padded z n (tabulate l f)
  storing_end s h = s.is ∙ ap (λ (i : ℕ). padded z n (tabulate i f)) (le_antisymm s.upto h)

-- a loop that stores a part of a list
pub storing_part : {A : Type 0} {z : A} {n l i : ℕ} {r : List A} (y : A) (xs : List A) (base : ℕ)
    → Storing z (λ k. get_or xs (base + k) y) n l i r → l ≤ i → base + l ≤ length xs → r ≡ padded z n (take l (drop base xs))
storing_part {A} {z} {n} {l} y xs base s h g =
    let part = take l (drop base xs) in
    let e : length part ≡ l = length-take-le l (drop base xs) (omega (arith, length-drop base xs)) in
    let each : (k : ℕ) → k < l → get_or part k y ≡ get_or xs (base + k) y = λ k q. get_or-take l (drop base xs) k y q ∙ get_or-drop base xs k y in
    storing_end s h ∙ ap (padded z n) (sym (tabulated y l (λ k. get_or xs (base + k) y) part e each))
