-- Numbers in bytes and back, at each width, and a number at a place of a list of bytes. Assumes nothing.
use Prim.Native.Nat.{ℕ, zero, suc, ◌+◌, ◌*◌, ◌/◌, ◌%◌, ◌^◌, ◌≤◌, ◌<◌}
use mathlib.Core.Path.{◌≡◌, refl, sym, ap, ap₂, ◌∙◌}
use mathlib.Core.List.{List, [], ◌∷◌, ◌++◌}
use native.Mathlib.Nat.{pow-succ', pow-le-pow_right, lt_of_lt_of_le}
use native.Mathlib.Omega.{arith}
use lib.ListN.{length, get_or, take, drop, length-take, length-drop}
use lib.Seq.{length-take-le, take_at, drop-cons, drop-append-add, drop-drop}
use Rattle.card_bytes.specs.Numbers.{Bytes, bytes_of, number_in, number_at}

-- ---- bytes

pub length-bytes_of : (w n : ℕ) → length (bytes_of w n) ≡ w
unfolding bytes_of
length-bytes_of zero n = refl
length-bytes_of (suc w) n = ap suc (length-bytes_of w (n / 256))

pub bytes_are : (w n : ℕ) → Bytes (bytes_of w n)
unfolding Bytes bytes_of
bytes_are zero n = tt
bytes_are (suc w) n = (omega arith, bytes_are w (n / 256))

pub Bytes-append : (xs ys : List ℕ) → Bytes xs → Bytes ys → Bytes (xs ++ ys)
unfolding Bytes
Bytes-append [] ys h g = g
Bytes-append (x ∷ xs) ys h g = (h.0, Bytes-append xs ys h.1 g)

pub Bytes-take : (n : ℕ) (xs : List ℕ) → Bytes xs → Bytes (take n xs)
unfolding Bytes
Bytes-take zero xs h = tt
Bytes-take (suc n) [] h = tt
Bytes-take (suc n) (x ∷ xs) h = (h.0, Bytes-take n xs h.1)

pub Bytes-drop : (n : ℕ) (xs : List ℕ) → Bytes xs → Bytes (drop n xs)
unfolding Bytes
Bytes-drop zero xs h = h
Bytes-drop (suc n) [] h = tt
Bytes-drop (suc n) (x ∷ xs) h = Bytes-drop n xs h.1

-- ---- there and back

pub number_back : (w n : ℕ) → n < 256 ^ w → number_in (bytes_of w n) ≡ n
unfolding number_in bytes_of
number_back zero n h = omega arith
number_back (suc w) n h = omega (arith, number_back w (n / 256) (omega (arith, pow-succ' 256 w)))

pub bytes_back : (bs : List ℕ) → Bytes bs → bytes_of (length bs) (number_in bs) ≡ bs
unfolding Bytes number_in bytes_of
bytes_back [] h = refl
bytes_back (b ∷ bs) h =
    let low : (b + 256 * number_in bs) % 256 ≡ b = omega (arith, h.0) in
    let high : (b + 256 * number_in bs) / 256 ≡ number_in bs = omega (arith, h.0) in
    ap₂ (λ (x n : ℕ). x ∷ bytes_of (length bs) n) low high ∙ ap (λ (r : List ℕ). b ∷ r) (bytes_back bs h.1)

pub number-below : (bs : List ℕ) → Bytes bs → number_in bs < 256 ^ length bs
unfolding Bytes number_in
number-below [] h = omega arith
number-below (b ∷ bs) h = omega (arith, h.0, number-below bs h.1, pow-succ' 256 (length bs))

-- ---- a number at a place

pub number-one : (at : ℕ) (bs : List ℕ) → at < length bs → get_or bs at 0 ≡ number_at at 1 bs
unfolding number_at number_in
number-one at bs h = omega (arith, ap (λ (r : List ℕ). number_in (take 1 r)) (drop-cons bs at 0 h))

pub number_at-below : (at w : ℕ) (bs : List ℕ) → Bytes bs → number_at at w bs < 256 ^ w
unfolding number_at
number_at-below at w bs h =
    lt_of_lt_of_le (number-below (take w (drop at bs)) (Bytes-take w (drop at bs) (Bytes-drop at bs h)))
    (pow-le-pow_right (omega arith) (omega (arith, length-take w (drop at bs))))

pub number_at_front : (w n : ℕ) (rest : List ℕ) → n < 256 ^ w → number_at 0 w (bytes_of w n ++ rest) ≡ n
unfolding number_at
number_at_front w n rest h = ap number_in (take_at (bytes_of w n) rest w (length-bytes_of w n)) ∙ number_back w n h

pub number_at-past : (xs : List ℕ) (at w : ℕ) (ys : List ℕ) → number_at (length xs + at) w (xs ++ ys) ≡ number_at at w ys
unfolding number_at
number_at-past xs at w ys = ap (λ (r : List ℕ). number_in (take w r)) (drop-append-add xs ys at)

pub number_at-drop : (b a w : ℕ) (bs : List ℕ) → number_at a w (drop b bs) ≡ number_at (b + a) w bs
unfolding number_at
number_at-drop b a w bs = ap (λ (r : List ℕ). number_in (take w r)) (drop-drop a b bs)

module _ (at w : ℕ) (bs : List ℕ) where
  length_part : at + w ≤ length bs → length (take w (drop at bs)) ≡ w
  length_part h = length-take-le w (drop at bs) (omega (arith, length-drop at bs))

  pub part_back : Bytes bs → at + w ≤ length bs → bytes_of w (number_at at w bs) ≡ take w (drop at bs)
  unfolding number_at
  part_back b h =
      let part = take w (drop at bs) in
      ap (λ (k : ℕ). bytes_of k (number_in part)) (sym (length_part h)) ∙ bytes_back part (Bytes-take w (drop at bs) (Bytes-drop at bs b))

-- for the check's own search
pub ruleset first_byte = (number-one)
