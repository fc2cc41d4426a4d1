-- The bytes that std gives to a number, and the number that it gives to bytes, are those of the rules. Assumes nothing.
use Prim.Native.Nat.{ℕ, zero, suc, ◌+◌, ◌*◌, ◌/◌, ◌%◌, ◌^◌, ◌<◌}
use mathlib.Core.Path.{◌≡◌, refl, sym, ap, ap₂, ◌∙◌}
use mathlib.Core.List.{List, [], ◌∷◌}
use native.Mathlib.Nat.{mul_assoc, mul_comm, pow-suc, pow-succ', div-one, div-div-eq-div-mul}
use native.Mathlib.Omega.{arith}
use lib.ListN.{length, get_or, take}
use lib.Seq.{take_all}
use Rattle.std.specs.Int.{w16, w32, w64, byte_at, byte_worth, bytes_low_first, sum_through, to_le_bytes, from_le_bytes}
use Rattle.card_bytes.specs.Numbers.{bytes_of, number_in}

-- ---- the bytes of a number

byte_is : (i n : ℕ) → byte_at i n ≡ n / 256 ^ i % 256
byte_is zero n = ap (λ (m : ℕ). m % 256) (sym (div-one n))
byte_is (suc i) n = refl

bytes_from : (k i n : ℕ) → bytes_low_first i k n ≡ bytes_of k (n / 256 ^ i)
unfolding bytes_of
bytes_from zero i n = refl
bytes_from (suc k) i n =
    let e : n / 256 ^ i / 256 ≡ n / 256 ^ suc i = div-div-eq-div-mul n (256 ^ i) 256 ∙ ap (λ (m : ℕ). n / m) (sym (pow-suc 256 i)) in
    ap₂ (λ (b : ℕ) (bs : List ℕ). b ∷ bs) (byte_is i n) (bytes_from k (suc i) n ∙ ap (bytes_of k) (sym e))

all_bytes : (k n : ℕ) → bytes_low_first 0 k n ≡ bytes_of k n
all_bytes k n = bytes_from k 0 n ∙ ap (bytes_of k) (div-one n)

pub bytes_2 : (n : ℕ) → take 2 (to_le_bytes w32 n) ≡ bytes_of 2 n
bytes_2 n = all_bytes 2 n

pub bytes_4 : (n : ℕ) → to_le_bytes w32 n ≡ bytes_of 4 n
bytes_4 n = all_bytes 4 n

pub bytes_8 : (n : ℕ) → to_le_bytes w64 n ≡ bytes_of 8 n
bytes_8 n = all_bytes 8 n

-- ---- the number of some bytes

worth_is : (i b : ℕ) → byte_worth i b ≡ 256 ^ i * b
worth_is zero b = omega arith
worth_is (suc i) b = mul_comm b (256 ^ suc i)

-- one byte more
number_more : (k : ℕ) (bs : List ℕ) → k < length bs → number_in (take (suc k) bs) ≡ number_in (take k bs) + 256 ^ k * get_or bs k 0
unfolding number_in
number_more k [] h = absurd (omega arith)
number_more zero (b ∷ bs) h = omega arith
number_more (suc k) (b ∷ bs) h =
    let p : 256 ^ suc k * get_or bs k 0 ≡ 256 * (256 ^ k * get_or bs k 0) =
    ap (λ (m : ℕ). m * get_or bs k 0) (pow-succ' 256 k) ∙ mul_assoc 256 (256 ^ k) (get_or bs k 0) in
    omega (arith, number_more k bs (omega arith))

number_of_first : (k : ℕ) (bs : List ℕ) → k < length bs → sum_through (λ (i : ℕ). byte_worth i (get_or bs i 0)) k ≡ number_in (take (suc k) bs)
unfolding number_in
number_of_first zero bs h = let e : get_or bs 0 0 ≡ number_in (take 1 bs) = omega (arith, number_more 0 bs h) in e
number_of_first (suc k) bs h = omega (arith, number_of_first k bs (omega arith), worth_is (suc k) (get_or bs (suc k) 0), number_more (suc k) bs h)

number_of_all : (k : ℕ) (bs : List ℕ) → length bs ≡ suc k → sum_through (λ (i : ℕ). byte_worth i (get_or bs i 0)) k ≡ number_in bs
number_of_all k bs e = number_of_first k bs (omega arith) ∙ ap number_in (take_all (suc k) bs (omega arith))

pub number_2 : (bs : List ℕ) → length bs ≡ 2 → from_le_bytes w16 bs ≡ number_in bs
number_2 bs e = number_of_all 1 bs e

pub number_4 : (bs : List ℕ) → length bs ≡ 4 → from_le_bytes w32 bs ≡ number_in bs
number_4 bs e = number_of_all 3 bs e

pub number_8 : (bs : List ℕ) → length bs ≡ 8 → from_le_bytes w64 bs ≡ number_in bs
number_8 bs e = number_of_all 7 bs e
