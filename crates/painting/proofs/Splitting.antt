-- Lane painting splits at whole chunks, plain painting anywhere; blocks coloured plainly are plain painting; and each gives a colour for each sample. For any
-- lane count above 0. Assumes nothing.
use mathlib.Core.Path.{◌≡◌, refl, sym, ap, ◌∙◌}
use mathlib.Core.List.{List, [], ◌∷◌, ◌++◌, map, append_assoc, map-append}
use Prim.Native.Nat.{ℕ, zero, suc, ◌+◌, ◌*◌, ◌/◌, ◌≤◌, ◌<◌}
use native.Mathlib.Nat.{suc-mul, zero-mul, div-mul-le_self}
use native.Mathlib.Omega.{arith}
use lib.Ieee.{Float}
use lib.ListN.{length, take, drop, length-append, length-drop, length-map, take-append-drop}
use lib.Seq.{take-append-le, drop-append-le, length-take-le}
use Rattle.painting.specs.Painted.{chunked, lane_painted}
use Rattle.painting.proofs.Steps.{lane_more, lane_rest}

module _ (L : ℕ) (p : 0 < L) (chunk : List Float → List ℕ) (plain : Float → ℕ) where
  -- k whole chunks, then the rest
  pub lane_split : (k : ℕ) (xs ys : List Float) → length xs ≡ k * L → lane_painted L chunk plain (xs ++ ys) ≡ lane_painted L chunk plain xs
      ++ lane_painted L chunk plain ys
  lane_split zero [] ys e = ap (λ (r : List ℕ). r ++ lane_painted L chunk plain ys) (sym (lane_rest L chunk plain [] p))
  lane_split zero (x ∷ xs) ys e = absurd (omega (arith, zero-mul L))
  lane_split (suc k) xs ys e =
      let l : L ≤ length xs = omega (arith, suc-mul k L) in
      let m : L ≤ length (xs ++ ys) = omega (arith, length-append xs ys) in
      let d : length (drop L xs) ≡ k * L = omega (arith, length-drop L xs, suc-mul k L) in
      lane_more L chunk plain (xs ++ ys) p m
      ∙ ap (λ (c : List Float). chunk c ++ lane_painted L chunk plain (drop L (xs ++ ys))) (take-append-le L xs ys l)
      ∙ ap (λ (r : List Float). chunk (take L xs) ++ lane_painted L chunk plain r) (drop-append-le L xs ys l)
      ∙ ap (λ (r : List ℕ). chunk (take L xs) ++ r) (lane_split k (drop L xs) ys d)
      ∙ sym (append_assoc (chunk (take L xs)) (lane_painted L chunk plain (drop L xs)) (lane_painted L chunk plain ys))
      ∙ ap (λ (r : List ℕ). r ++ lane_painted L chunk plain ys) (sym (lane_more L chunk plain xs p l))

-- blocks coloured plainly
blocks : (k L : ℕ) (plain : Float → ℕ) (xs : List Float) → chunked k L (map plain) plain xs ≡ map plain xs
unfolding chunked
blocks zero L plain xs = refl
blocks (suc k) L plain xs =
    ap (λ (r : List ℕ). map plain (take L xs) ++ r) (blocks k L plain (drop L xs))
    ∙ sym (map-append plain (take L xs) (drop L xs)) ∙ ap (map plain) (take-append-drop L xs)

pub plain_in_blocks : (L : ℕ) (plain : Float → ℕ) (xs : List Float) → lane_painted L (map plain) plain xs ≡ map plain xs
unfolding lane_painted
plain_in_blocks L plain xs = blocks (length xs / L) L plain xs

-- as many colours as samples
module _ (L : ℕ) (chunk : List Float → List ℕ) (plain : Float → ℕ) (same : (c : List Float) → length (chunk c) ≡ length c) where
  long : (k : ℕ) (xs : List Float) → k * L ≤ length xs → length (chunked k L chunk plain xs) ≡ length xs
  unfolding chunked
  long zero xs h = length-map xs plain
  long (suc k) xs h =
      let q : suc k * L ≡ k * L + L = suc-mul k L in
      let n : length (take L xs) ≡ L = length-take-le L xs (omega arith) in
      omega (
        arith,
        length-append (chunk (take L xs)) (chunked k L chunk plain (drop L xs)),
        same (take L xs),
        long k (drop L xs)
            (omega (arith, length-drop L xs)),
        length-drop L xs,
      )

  pub length-painted : (xs : List Float) → length (lane_painted L chunk plain xs) ≡ length xs
  unfolding lane_painted
  length-painted xs = long (length xs / L) xs (div-mul-le_self (length xs) L)
