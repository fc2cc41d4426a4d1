-- Bytes laid over a buffer: its length, one store, and one part after the other. Assumes nothing.
use Prim.Native.Nat.{ℕ, ◌+◌, ◌-◌, ◌≤◌, ◌<◌}
use mathlib.Core.Path.{◌≡◌, refl, sym, ap, ap₂, ◌∙◌}
use mathlib.Core.List.{List, [], ◌∷◌, ◌++◌, append_assoc}
use native.Mathlib.Nat.{zero-add}
use native.Mathlib.Numerals.{add-one}
use native.Mathlib.Omega.{arith}
use lib.ListN.{length, take, drop, get_or, set, length-append, length-drop}
use borrow.Rule.Slice.PartMut.{put_mid}
use Rattle.std.proofs.lemmas.Slice.{put_mid-paste}
use lib.Seq.{take_all, take-suc, length-take-le, take_at, drop_at, drop-drop, sets-eq, paste-zero}
use Rattle.card_bytes.specs.Numbers.{overwritten}

-- what is laid, with what stands before it
length_head : (at : ℕ) (xs l : List ℕ) → at + length xs ≤ length l → length (take at l ++ xs) ≡ at + length xs
length_head at xs l h = omega (arith, length-append (take at l) xs, length-take-le at l (omega arith))

pub length-overwritten : (at : ℕ) (xs l : List ℕ) → at + length xs ≤ length l → length (overwritten at xs l) ≡ length l
unfolding overwritten
length-overwritten at xs l h =
    let rest = drop (at + length xs) l in
    omega (arith, length-append (take at l ++ xs) rest, length_head at xs l h, length-drop (at + length xs) l)

pub overwritten_nothing : (at : ℕ) (l : List ℕ) → overwritten at [] l ≡ l
unfolding overwritten
overwritten_nothing at l = sym (paste-zero l at [])

pub overwritten_front : (xs l : List ℕ) → overwritten 0 xs l ≡ xs ++ drop (length xs) l
unfolding overwritten
overwritten_front xs l = ap (λ (k : ℕ). xs ++ drop k l) (zero-add (length xs))

pub set-overwritten : (at b : ℕ) (l : List ℕ) → at < length l → set l at b ≡ overwritten at (b ∷ []) l
unfolding overwritten
set-overwritten at b l h = sets-eq (b ∷ []) l at (omega arith)

-- what `copy_from_slice` leaves of a buffer
pub put_mid-overwritten : (at : ℕ) (xs part l : List ℕ) → part ≡ xs → put_mid at (at + length xs - at) l part ≡ overwritten at xs l
unfolding overwritten
put_mid-overwritten at xs part l e =
    put_mid-paste at (at + length xs - at) l part xs (length xs) e (omega arith) refl
    ∙ ap (λ (a : List ℕ). take at l ++ a ++ drop (at + length xs) l) (take_all (length xs) xs (omega arith))

-- a second part from the first's end on
pub overwritten_then : (at : ℕ) (xs ys l : List ℕ) → at + length xs ≤ length l
    → overwritten (at + length xs) ys (overwritten at xs l) ≡ overwritten at (xs ++ ys) l
unfolding overwritten
overwritten_then at xs ys l h =
    let n = at + length xs in
    let head = take at l ++ xs in
    let long : length head ≡ n = length_head at xs l h in
    let end : n + length ys ≡ at + length (xs ++ ys) = omega (arith, length-append xs ys) in
    let after : drop (n + length ys) (head ++ drop n l) ≡ drop (at + length (xs ++ ys)) l =
    sym (drop-drop (length ys) n (head ++ drop n l)) ∙ ap (drop (length ys)) (drop_at head (drop n l) n long) ∙ drop-drop (length ys) n l
    ∙ ap (λ (k : ℕ). drop k l) end in
    ap₂ (λ (a b : List ℕ). a ++ ys ++ b) (take_at head (drop n l) n long) after
    ∙ ap (λ (a : List ℕ). a ++ drop (at + length (xs ++ ys)) l) (append_assoc (take at l) xs ys)

-- the same of two stores, by what each wrote
pub wrote_then : {at' : ℕ} {l₁ l₂ : List ℕ} (at : ℕ) (xs ys l : List ℕ) → l₁ ≡ overwritten at xs l → l₂ ≡ overwritten at' ys l₁
    → at' ≡ at + length xs → at + length xs ≤ length l → l₂ ≡ overwritten at (xs ++ ys) l
wrote_then at xs ys l e f g h = f ∙ ap₂ (λ (k : ℕ) (r : List ℕ). overwritten k ys r) g e ∙ overwritten_then at xs ys l h

-- one byte of a part more
pub wrote_more : {l₁ : List ℕ} (at i : ℕ) (part l : List ℕ) → l₁ ≡ overwritten at (take i part) l → i < length part → at + length part ≤ length l
    → set l₁ (at + i) (get_or part i 0) ≡ overwritten at (take (i + 1) part) l
wrote_more {l₁} at i part l e h g =
    let long : length (take i part) ≡ i = length-take-le i part (omega arith) in
    let all : length l₁ ≡ length l = ap length e ∙ length-overwritten at (take i part) l (omega arith) in
    wrote_then at (take i part) (get_or part i 0 ∷ []) l e (set-overwritten (at + i) (get_or part i 0) l₁ (omega arith)) (omega arith) (omega arith)
    ∙ ap (λ (r : List ℕ). overwritten at r l) (sym (ap (λ (k : ℕ). take k part) (add-one i) ∙ take-suc part i 0 h))

-- for the check's own search
pub ruleset overwriting = (set-overwritten, put_mid-overwritten)
