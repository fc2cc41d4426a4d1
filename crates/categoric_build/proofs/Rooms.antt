-- Room made in an array: the entries from a place on, moved one place up from the last; and an entry stored there. Assumes nothing.
use mathlib.Core.List.{List, [], ◌∷◌, ◌++◌, append_assoc}
use mathlib.Core.Path.{◌≡◌, sym, ap, ap₂, ◌∙◌}
use Prim.Native.Nat.{ℕ, suc, ◌+◌, ◌-◌, ◌≤◌, ◌<◌}
use native.Mathlib.Numerals.{add-one}
use native.Mathlib.Omega.{arith}
use lib.ListN.{length, get_or, take, drop, set, replicate, length-append, length-drop, take-append-drop, get_or-append}
use lib.Seq.{length-take-le, take-suc, drop-cons, drop-length, take-append-le, drop-append-add, get_or-take, set_at, set-append_left, set_split}
use Rattle.lists.specs.Padded.{padded}
use Rattle.lists.proofs.Padding.{take-padded, length-padded}
use Rattle.categoric_build.specs.forms.Insertion.{shifted_up}

module _ {A : Type 0} (z : A) where
  -- before the first move
  pub moved_start : (count : ℕ) (a : List A) → count ≤ length a → shifted_up count count a ≡ a
  unfolding shifted_up
  moved_start count a h =
      ap (λ (l : List A). take (count + 1) a ++ (l ++ drop (count + 1) a)) (none (take count a) (length-take-le count a h))
      ∙ take-append-drop (count + 1) a
    where
      none : (l : List A) → length l ≡ count → drop count l ≡ []
      none l e = ap (λ (n : ℕ). drop n l) (sym e) ∙ drop-length l

  -- the array in front of and behind the place, which still holds what it held
  moved_is : (at count : ℕ) (a : List A) → at < length a → shifted_up at count a ≡ take at a ++ get_or a at z ∷ (drop at (take count a) ++ drop (count + 1) a)
  unfolding shifted_up
  moved_is at count a h =
      ap (λ (n : ℕ). take n a ++ (drop at (take count a) ++ drop (count + 1) a)) (add-one at)
      ∙ ap (λ (l : List A). l ++ (drop at (take count a) ++ drop (count + 1) a)) (take-suc a at z h)
      ∙ append_assoc (take at a) (get_or a at z ∷ []) (drop at (take count a) ++ drop (count + 1) a)

  -- one move
  pub moved_turn : (i m count : ℕ) (a : List A) → i ≡ suc m → i ≤ count → count < length a → set (shifted_up i count a) i (get_or (shifted_up i count a) m z)
      ≡ shifted_up m count a
  moved_turn i m count a e h g =
      let l : length (take i a) ≡ i = length-take-le i a (omega arith) in
      ap (λ (r : List A). set r i (get_or r m z)) (moved_is i count a (omega arith))
      ∙ ap (λ (y : A). set (take i a ++ get_or a i z ∷ rest i) i y)
      (get_or-append (take i a) (get_or a i z ∷ rest i) z m (omega arith) ∙ get_or-take i a m z (omega arith))
      ∙ set_at (take i a) (get_or a i z) (rest i) (get_or a m z) i l
      ∙ ap (λ (n : ℕ). take n a ++ get_or a m z ∷ rest n) e
      ∙ ap (λ (r : List A). r ++ get_or a m z ∷ rest (suc m)) (take-suc a m z (omega arith))
      ∙ append_assoc (take m a) (get_or a m z ∷ []) (get_or a m z ∷ rest (suc m))
      ∙ ap (λ (y : A). take m a ++ get_or a m z ∷ y ∷ rest (suc m)) (sym (get_or-take count a m z (omega arith)))
      ∙ ap (λ (r : List A). take m a ++ get_or a m z ∷ (r ++ drop (count + 1) a))
      (sym (drop-cons (take count a) m z (omega (arith, length-take-le count a (omega arith)))))
      ∙ sym (moved_is m count a (omega arith))
    where
      rest : ℕ → List A
      rest n = drop n (take count a) ++ drop (count + 1) a

  -- a list in n places, with an entry stored in the room made
  pub roomed : (n at count : ℕ) (xs : List A) (x : A) → count ≡ length xs → at ≤ count → count < n → set (shifted_up at count (padded z n xs)) at x
      ≡ padded z n (take at xs ++ x ∷ drop at xs)
  unfolding padded
  roomed n at count xs x e h g =
      let a : List A = xs ++ replicate (n - length xs) z in
      let s : length (take at xs) ≡ at = length-take-le at xs (omega arith) in
      let t : length (take at a) ≡ at = length-take-le at a (omega (arith, length-padded z n xs (omega arith))) in
      ap (λ (r : List A). set r at x) (moved_is at count a (omega (arith, length-padded z n xs (omega arith))))
      ∙ set_at (take at a) (get_or a at z) (drop at (take count a) ++ drop (count + 1) a) x at t
      ∙ ap (λ (r : List A). r ++ x ∷ (drop at (take count a) ++ drop (count + 1) a)) (take-append-le at xs (replicate (n - length xs) z) (omega arith))
      ∙ ap₂ (λ (r q : List A). take at xs ++ x ∷ (drop at r ++ q)) (ap (λ (k : ℕ). take k a) e ∙ take-padded z n xs)
      (ap (λ (k : ℕ). drop (k + 1) a) e ∙ drop-append-add xs (replicate (n - length xs) z) 1
      ∙ blanks (n - length xs) (n - length (take at xs ++ x ∷ drop at xs)) (omega (arith, length-append (take at xs) (x ∷ drop at xs), length-drop at xs)))
      ∙ sym (append_assoc (take at xs) (x ∷ drop at xs) (replicate (n - length (take at xs ++ x ∷ drop at xs)) z))
    where
      blanks : (m k : ℕ) → m ≡ suc k → drop 1 (replicate m z) ≡ replicate k z
      blanks m k e = ap (λ (j : ℕ). drop 1 (replicate j z)) e

  -- an entry stored over another
  pub replaced : (n at : ℕ) (xs : List A) (x : A) → at < length xs → set (padded z n xs) at x ≡ padded z n (take at xs ++ x ∷ drop (suc at) xs)
  unfolding padded
  replaced n at xs x h =
      let s : length (take at xs) ≡ at = length-take-le at xs (omega arith) in
      let e : length xs ≡ length (take at xs ++ x ∷ drop (suc at) xs) = omega
      (arith, length-append (take at xs) (x ∷ drop (suc at) xs), length-drop (suc at) xs) in
      set-append_left xs (replicate (n - length xs) z) at x h
      ∙ ap₂ (λ (r : List A) (m : ℕ). r ++ replicate (n - m) z) (set_split xs at x h) e
