-- Lists and lanes, for any painter. Assumes nothing.
use mathlib.Core.Path.{◌≡◌, refl, sym, ap, ◌∙◌}
use mathlib.Core.List.{List, [], ◌∷◌, ◌++◌, map}
use Prim.Native.Nat.{ℕ, zero, suc, ◌+◌, ◌≤◌, ◌<◌}
use native.Mathlib.Nat.{le_of_suc-le-suc, not-suc-le-zero, zero-lt-suc, le_antisymm}
use native.Mathlib.Numerals.{add-one}
use native.Mathlib.Omega.{arith}
use lib.ListN.{length, take, drop, get_or, set, replicate, length-drop, length-set}
use Rattle.std.proofs.lemmas.List.{drop-replicate}
use Rattle.lists.specs.Lanes.{Lanes}
use Rattle.lists.specs.Padded.{padded}
use lib.Seq.{take-take, length-take-le, paste, paste-zero, paste-suc}

-- all lanes below l, as a list
pub lanes_list : {A B : Type 0} (y : A) (z : B) (f : A → B) (l : ℕ) (r : List B) (xs : List A) → l ≤ length r → l ≤ length xs
    → Lanes z l r (λ k. f (get_or xs k y)) → take l r ≡ map f (take l xs)
lanes_list y z f zero r xs h g all = refl
lanes_list y z f (suc l) [] xs h g all = absurd (not-suc-le-zero h)
lanes_list y z f (suc l) (b ∷ r) [] h g all = absurd (not-suc-le-zero g)
lanes_list y z f (suc l) (b ∷ r) (x ∷ xs) h g all =
    let e : b ≡ f x = all zero (zero-lt-suc l) in
    let t : take l r ≡ map f (take l xs) = lanes_list y z f l r xs (le_of_suc-le-suc h) (le_of_suc-le-suc g) (λ k q. all (suc k) (omega arith)) in
    cc

take-map : {A B : Type 0} (f : A → B) (m : ℕ) (xs : List A) → take m (map f xs) ≡ map f (take m xs)
take-map f zero xs = refl
take-map f (suc m) [] = refl
take-map f (suc m) (x ∷ xs) = ap (λ t. f x ∷ t) (take-map f m xs)

-- what is mapped up to n is mapped up to any m below it
pub front_mapped : {A B : Type 0} (f : A → B) (m n : ℕ) (r : List B) (xs : List A) → m ≤ n → take n r ≡ map f (take n xs) → take m r ≡ map f (take m xs)
front_mapped f m n r xs h e = sym (take-take m n r h) ∙ ap (take m) e ∙ take-map f m (take n xs) ∙ ap (map f) (take-take m n xs h)

-- an element of a mapped list, whatever stands for one past the end
pub get_or-map_in : {A B : Type 0} (f : A → B) (xs : List A) (i : ℕ) (y : A) (z : B) → i < length xs → f (get_or xs i y) ≡ get_or (map f xs) i z
get_or-map_in f [] i y z h = absurd (not-suc-le-zero h)
get_or-map_in f (x ∷ xs) zero y z h = refl
get_or-map_in f (x ∷ xs) (suc i) y z h = get_or-map_in f xs i y z (le_of_suc-le-suc h)

-- a part of a list, copied over the first places of an array of z
pub part_over : {A : Type 0} (z : A) (n l base : ℕ) (xs : List A) {part : List A} → part ≡ take l (drop base xs) → base + l ≤ length xs
    → part ++ drop l (replicate n z) ≡ padded z n (take l (drop base xs))
unfolding padded
part_over z n l base xs e h =
    let m : length (take l (drop base xs)) ≡ l = length-take-le l (drop base xs) (omega (arith, length-drop base xs)) in rw (e, m, drop-replicate) refl

-- ---- a copy: the first l of s go over d from at on; its loop's invariant at j
pub record Copied (d : List ℕ) (at : ℕ) (s : List ℕ) (l j : ℕ) (out : List ℕ) : Type 0 where
  pub upto : j ≤ l
  pub same : length out ≡ length d
  pub is : out ≡ paste d at s j

pub copy_start : {d : List ℕ} {at : ℕ} {s : List ℕ} {l : ℕ} → Copied d at s l 0 d
copy_start {d} {at} {s} = record { upto = omega arith; same = refl; is = paste-zero d at s }

-- a turn: the store of s's j-th at at + j
pub copy_turn : {d : List ℕ} {at : ℕ} {s : List ℕ} {l j : ℕ} {out : List ℕ} {p x : ℕ} → Copied d at s l j out → j < l → at + l ≤ length d → l ≤ length s
    → p ≡ at + j → x ≡ get_or s j 0
    → Copied d at s l (j + 1) (set out p x)
copy_turn {d} {at} {s} {l} {j} {out} {p} {x} c h g k e v =
    let w : out ≡ paste d at s j = c.is in
    record {
      upto = omega arith;
      same = length-set out p x ∙ c.same;
      is = ap (λ (o : List ℕ). set o p x) w ∙ rw (e, v, add-one) (paste-suc d at s j 0 (omega arith) (omega arith));
    }

pub copy_end : {d : List ℕ} {at : ℕ} {s : List ℕ} {l j : ℕ} {out : List ℕ} → Copied d at s l j out → l ≤ j → out ≡ paste d at s l
copy_end {d} {at} {s} c h = c.is ∙ ap (paste d at s) (le_antisymm c.upto h)
