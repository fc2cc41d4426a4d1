-- Entries of one width, written and read back: one more, their bytes, and each way round. Assumes nothing.
use Prim.Native.Nat.{ℕ, zero, suc, ◌+◌, ◌*◌, ◌≤◌, ◌<◌}
use mathlib.Core.Path.{◌≡◌, refl, sym, ap, ap₂, ◌∙◌, subst}
use mathlib.Core.List.{List, [], ◌∷◌, ◌++◌, append_assoc, append-nil}
use native.Mathlib.Nat.{mul-zero, mul-suc, add_comm, zero-lt-suc}
use native.Mathlib.Omega.{arith}
use lib.ListN.{length, take, drop, length-append, length-drop, take-append-drop}
use lib.Seq.{drop_at, drop-drop}
use Rattle.lists.specs.Tabulate.{tabulate}
use Rattle.lists.proofs.Tabulated.{length-tabulate}
use Rattle.lists.proofs.Entries.{same_rule}
use Rattle.card_bytes.specs.Numbers.{Bytes}
use Rattle.card_bytes.specs.Entries.{All, entries_of, entries_in}
use Rattle.card_bytes.proofs.Numbers.{Bytes-append}

-- the place of an entry after the first
next_place : (w k : ℕ) (bytes : List ℕ) → drop (w * suc k) bytes ≡ drop (w * k) (drop w bytes)
next_place w k bytes = ap (λ (j : ℕ). drop j bytes) (mul-suc w k ∙ add_comm (w * k) w) ∙ sym (drop-drop (w * k) w bytes)

module _ {A : Type 0} where
  -- ---- written

  pub entries_of_more : (write : A → List ℕ) (xs : List A) (x : A) → entries_of write (xs ++ (x ∷ [])) ≡ entries_of write xs ++ write x
  unfolding entries_of
  entries_of_more write [] x = append-nil (write x)
  entries_of_more write (y ∷ xs) x = ap (λ (r : List ℕ). write y ++ r) (entries_of_more write xs x) ∙ sym (append_assoc (write y) (entries_of write xs) (write x))

  pub length-entries_of : (w : ℕ) (write : A → List ℕ) (xs : List A) → ((x : A) → length (write x) ≡ w) → length (entries_of write xs) ≡ w * length xs
  unfolding entries_of
  length-entries_of w write [] h = sym (mul-zero w)
  length-entries_of w write (x ∷ xs) h =
      omega (arith, length-append (write x) (entries_of write xs), h x, length-entries_of w write xs h, mul-suc w (length xs))

  pub Bytes-entries_of : (write : A → List ℕ) (xs : List A) → ((x : A) → Bytes (write x)) → Bytes (entries_of write xs)
  unfolding entries_of Bytes
  Bytes-entries_of write [] h = tt
  Bytes-entries_of write (x ∷ xs) h = Bytes-append (write x) (entries_of write xs) (h x) (Bytes-entries_of write xs h)

  -- ---- read

  pub length-entries_in : (w n : ℕ) (read : List ℕ → A) (bytes : List ℕ) → length (entries_in w n read bytes) ≡ n
  unfolding entries_in
  length-entries_in w n read bytes = length-tabulate n (λ k. read (drop (w * k) bytes))

  pub entries_in-none : (w : ℕ) (read : List ℕ → A) (bytes : List ℕ) → entries_in w 0 read bytes ≡ []
  unfolding entries_in tabulate
  entries_in-none w read bytes = refl

  -- the first, and the others from the second on
  pub entries_in_first : (w n : ℕ) (read : List ℕ → A) (bytes : List ℕ) → entries_in w (suc n) read bytes ≡ read bytes ∷ entries_in w n read (drop w bytes)
  unfolding entries_in tabulate
  entries_in_first w n read bytes =
      ap₂ (λ (k : ℕ) (r : List A). read (drop k bytes) ∷ r) (mul-zero w)
      (same_rule n (λ k. read (drop (w * suc k) bytes)) (λ k. read (drop (w * k) (drop w bytes))) (λ k q. ap read (next_place w k bytes)))

  -- ---- there and back

  pub entries_back : (w : ℕ) (write : A → List ℕ) (read : List ℕ → A) (P : A → Type 0) → ((x : A) → length (write x) ≡ w)
      → ((x : A) → P x → (rest : List ℕ) → read (write x ++ rest) ≡ x)
      → (xs : List A) → All P xs → entries_in w (length xs) read (entries_of write xs) ≡ xs
  unfolding entries_of All
  entries_back w write read P long back [] h = entries_in-none w read []
  entries_back w write read P long back (x ∷ xs) h =
      entries_in_first w (length xs) read (write x ++ entries_of write xs)
      ∙ ap₂ (λ (y : A) (r : List ℕ). y ∷ entries_in w (length xs) read r) (back x h.0 (entries_of write xs))
      (drop_at (write x) (entries_of write xs) w (long x))
      ∙ ap (λ (r : List A). x ∷ r) (entries_back w write read P long back xs h.1)

  pub entries_again : (w n : ℕ) (write : A → List ℕ) (read : List ℕ → A) (Q : List ℕ → Type 0) (bytes : List ℕ) → length bytes ≡ w * n
      → ((k : ℕ) → k < n → Q (drop (w * k) bytes)) → ((e : List ℕ) → w ≤ length e → Q e → write (read e) ≡ take w e)
      → entries_of write (entries_in w n read bytes) ≡ bytes
  unfolding entries_of
  entries_again w zero write read Q bytes e q again = ap (entries_of write) (entries_in-none w read bytes) ∙ sym (nothing bytes (e ∙ mul-zero w))
    where
      nothing : (l : List ℕ) → length l ≡ 0 → l ≡ []
      nothing [] e = refl
      nothing (x ∷ l) e = absurd (omega arith)
  entries_again w (suc n) write read Q bytes e q again =
      let all : length bytes ≡ w * n + w = e ∙ mul-suc w n in
      let first : Q bytes = subst (λ (k : ℕ). Q (drop k bytes)) (mul-zero w) (q 0 (zero-lt-suc n)) in
      let rest : entries_of write (entries_in w n read (drop w bytes)) ≡ drop w bytes =
      entries_again w n write read Q (drop w bytes) (omega (arith, length-drop w bytes))
      (λ k h. subst Q (next_place w k bytes) (q (suc k) (omega arith))) again in
      ap (entries_of write) (entries_in_first w n read bytes)
      ∙ ap₂ (λ (a b : List ℕ). a ++ b) (again bytes (omega arith) first) rest ∙ take-append-drop w bytes
