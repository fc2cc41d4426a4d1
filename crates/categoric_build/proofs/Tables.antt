-- The table: which keys have one, that each key has a word in it, and that the words written over 513 zeros are the table, then zeros.
-- Assumes nothing.
use mathlib.Core.Bool.{Bool, true, false, cond, not, ◌&&◌}
use mathlib.Core.List.{List, [], ◌++◌}
use mathlib.Core.Logic.{◌⊎◌, inl, inr}
use mathlib.Core.Path.{◌≡◌, refl, sym, ap, ◌∙◌, subst}
use Rattle.std.proofs.Common.{◌≢◌}
use lib.Dec.{T}
use lib.IntN.{nat_abs}
use lib.Signed.{non_neg}
use Rattle.categoric_lists.proofs.Numbers.{cast_is, cast_may}
use Prim.Native.Nat.{ℕ, zero, suc, ◌+◌, ◌-◌, ◌≤◌, ◌<◌}
use native.Mathlib.Nat.{le_of_suc-le-suc, eq-or-lt_of_le}
use native.Mathlib.Numerals.{add-one}
use native.Mathlib.Omega.{arith}
use borrow.Author.Tests.{not-true, lt-ltb, le-ltb, ltb-true}
use lib.Dec.{ltb}
use lib.IntN.{ℤ, pos, negsuc}
use lib.ListN.{length, get_or, set, replicate, length-set, length-replicate, replicate-append-replicate}
use lib.Seq.{set-append_left}
use lib.Signed.{lt_z, le_z}
use Rattle.lists.specs.Padded.{padded}
use Rattle.lists.proofs.Padding.{padded-none}
use Rattle.categoric_lists.specs.Whole.{whole}
use Rattle.categoric_build.specs.Table.{foremost, smallest, largest, has_table, table_size, written, table}
use Rattle.categoric_lists.proofs.Numbers.{below, lt_yes, lt_no, le_is, not_negative, up_to, both}

-- ---- the foremost key
module _ (before : ℤ → ℤ → Bool) (keys : List ℤ) (i : ℕ) where
  next : (t : Bool) → before (get_or keys i (pos 0)) (foremost before i keys) ≡ t → foremost before (i + 1) keys ≡ cond t (get_or keys i (pos 0)) (foremost before i keys)
  unfolding foremost
  next t e =
      ap (λ (m : ℕ). foremost before m keys) (add-one i) ∙ ap (λ (u : Bool). cond u (get_or keys i (pos 0)) (foremost before i keys)) e

  -- a turn of the search
  pub foremost_new : before (get_or keys i (pos 0)) (foremost before i keys) ≡ true → get_or keys i (pos 0) ≡ foremost before (i + 1) keys
  foremost_new e = sym (next true e)

  pub foremost_kept : before (get_or keys i (pos 0)) (foremost before i keys) ≡ false → foremost before i keys ≡ foremost before (i + 1) keys
  foremost_kept e = sym (next false e)

-- not above
infix 50 ◌⊑◌
abbrev ◌⊑◌ : ℤ → ℤ → Type 0
a ⊑ b = whole a + below b ≤ whole b + below a

module _ (before : ℤ → ℤ → Bool) (R : ℤ → ℤ → Type 0) (same : (a : ℤ) → R a a) (join : (a b c : ℤ) → R a b → R b c → R a c)
    (yes : (a b : ℤ) → before a b ≡ true → R a b) (no : (a b : ℤ) → before a b ≡ false → R b a) where
  foremost-all : (n : ℕ) (keys : List ℤ) (k : ℕ) → k < n → R (foremost before n keys) (get_or keys k (pos 0))
  unfolding foremost
  foremost-all zero keys k h = absurd (omega arith)
  foremost-all (suc n) keys k h =
      let x = get_or keys n (pos 0) in let f = foremost before n keys in go x f (before x f) refl (yes x f) (no x f) (eq-or-lt_of_le (le_of_suc-le-suc h))
      (foremost-all n keys k)
    where
      go : (x f : ℤ) (t : Bool) → x ≡ get_or keys n (pos 0) → (t ≡ true → R x f) → (t ≡ false → R f x) → (k ≡ n) ⊎ (k < n) → (k < n → R f (get_or keys k (pos 0)))
          → R (cond t x f) (get_or keys k (pos 0))
      go x f true s y m (inl e) rest = subst (λ (v : ℤ). R x v) (s ∙ sym (ap (λ (j : ℕ). get_or keys j (pos 0)) e)) (same x)
      go x f true s y m (inr l) rest = join x f (get_or keys k (pos 0)) (y refl) (rest l)
      go x f false s y m (inl e) rest = subst (λ (v : ℤ). R f v) (s ∙ sym (ap (λ (j : ℕ). get_or keys j (pos 0)) e)) (m refl)
      go x f false s y m (inr l) rest = rest l

smallest-all : (keys : List ℤ) (k : ℕ) → k < length keys → smallest keys ⊑ get_or keys k (pos 0)
smallest-all keys =
    foremost-all lt_z (λ a b. a ⊑ b) (λ a. omega arith) (λ a b c h g. omega arith) (λ a b e. omega (arith, lt_yes a b e)) (λ a b e. lt_no a b e) (length keys)
    keys

largest-all : (keys : List ℤ) (k : ℕ) → k < length keys → get_or keys k (pos 0) ⊑ largest keys
largest-all keys =
    foremost-all (λ x y. lt_z y x) (λ a b. b ⊑ a) (λ a. omega arith) (λ a b c h g. omega arith) (λ a b e. omega (arith, lt_yes b a e)) (λ a b e. lt_no b a e)
    (length keys) keys

-- ---- which keys have a table
module _ (keys : List ℤ) where
  pub not_tabled : has_table keys ≡ false → table_size keys ≡ 0
  unfolding table_size
  not_tabled e = ap (λ (t : Bool). cond t (whole (largest keys) + 1) 0) e

  pub is_tabled : has_table keys ≡ true → table_size keys ≡ whole (largest keys) + 1
  unfolding table_size
  is_tabled e = ap (λ (t : Bool). cond t (whole (largest keys) + 1) 0) e

  pub sized : (table_size keys ≡ 0 → ⊥) → has_table keys ≡ true
  sized n = go (has_table keys) (λ e. n (not_tabled e))
    where
      go : (t : Bool) → (t ≡ false → ⊥) → t ≡ true
      go true h = refl
      go false h = absurd (h refl)

  pub unsized : table_size keys ≡ 0 → has_table keys ≡ false
  unsized e = go (has_table keys) is_tabled
    where
      go : (t : Bool) → (t ≡ true → table_size keys ≡ whole (largest keys) + 1) → t ≡ false
      go true h = absurd (omega (arith, h refl))
      go false h = refl

  pub empty-none : length keys ≡ 0 → has_table keys ≡ false
  unfolding has_table
  empty-none e = ap (λ (t : Bool). (t && le_z (pos 0) (smallest keys)) && le_z (largest keys) (pos 512)) (le-ltb 0 (length keys) (omega arith))

  pub negative-none : lt_z (smallest keys) (pos 0) ≡ true → has_table keys ≡ false
  unfolding has_table
  negative-none e = go (ltb 0 (length keys)) (le_z (pos 0) (smallest keys)) (le_z (largest keys) (pos 512)) (le_is (pos 0) (smallest keys) ∙ ap not e)
    where
      go : (a b c : Bool) → b ≡ false → ((a && b) && c) ≡ false
      go true b c e = ap (λ (t : Bool). t && c) e
      go false b c e = refl

  pub large_none : lt_z (pos 512) (largest keys) ≡ true → has_table keys ≡ false
  unfolding has_table
  large_none e = go (ltb 0 (length keys) && le_z (pos 0) (smallest keys)) (le_z (largest keys) (pos 512)) (le_is (largest keys) (pos 512) ∙ ap not e)
    where
      go : (a b : Bool) → b ≡ false → (a && b) ≡ false
      go true b e = e
      go false b e = refl

  pub has_table_lem : 0 < length keys → lt_z (smallest keys) (pos 0) ≡ false → lt_z (pos 512) (largest keys) ≡ false → has_table keys ≡ true
  unfolding has_table
  has_table_lem n l g = simp (lt-ltb 0 (length keys) n, le_is (pos 0) (smallest keys) ∙ ap not l, le_is (largest keys) (pos 512) ∙ ap not g)

-- what that says of the keys
no_less : (z : ℤ) → below z ≤ whole z → below z ≡ 0
no_less (pos n) h = refl
no_less (negsuc n) h = absurd (omega arith)

module _ (keys : List ℤ) (e : has_table keys ≡ true) where
  smallest_from_0 : below (smallest keys) ≡ 0
  unfolding has_table
  smallest_from_0 =
      not_negative (smallest keys)
      (not-true (lt_z (smallest keys) (pos 0))
      (sym (le_is (pos 0) (smallest keys)) ∙ (both (ltb 0 (length keys)) (le_z (pos 0) (smallest keys))
      (both (ltb 0 (length keys) && le_z (pos 0) (smallest keys)) (le_z (largest keys) (pos 512)) e).0).1))

  pub largest_to_512 : whole (largest keys) ≤ 512
  unfolding has_table
  largest_to_512 =
      up_to (largest keys) 512
      (not-true (lt_z (pos 512) (largest keys))
      (sym (le_is (largest keys) (pos 512)) ∙ (both (ltb 0 (length keys) && le_z (pos 0) (smallest keys)) (le_z (largest keys) (pos 512)) e).1))

  pub size_≤ : table_size keys ≤ 513
  size_≤ = omega (arith, is_tabled keys e, largest_to_512)

  -- each key is an index of the table, the largest too
  pub key_from_0 : (k : ℕ) → k < length keys → below (get_or keys k (pos 0)) ≡ 0
  key_from_0 k h = no_less (get_or keys k (pos 0)) (omega (arith, smallest-all keys k h, smallest_from_0))

  pub key-in_table : (k : ℕ) → k < length keys → whole (get_or keys k (pos 0)) < table_size keys
  key-in_table k h = omega (arith, is_tabled keys e, largest-all keys k h, key_from_0 k h)

  pub largest_from_0 : below (largest keys) ≡ 0
  unfolding has_table
  largest_from_0 =
      let some = ltb-true 0 (length keys)
      (both (ltb 0 (length keys)) (le_z (pos 0) (smallest keys))
      (both (ltb 0 (length keys) && le_z (pos 0) (smallest keys)) (le_z (largest keys) (pos 512)) e).0).0 in
      no_less (largest keys) (omega (arith, largest-all keys 0 some, key_from_0 0 some))

-- ---- the words
module _ (keys : List ℤ) (colors : List ℕ) where
  pub length-written : (n : ℕ) (words : List ℕ) → length (written n keys colors words) ≡ length words
  unfolding written
  length-written zero words = refl
  length-written (suc n) words = length-set (written n keys colors words) (whole (get_or keys n (pos 0))) (get_or colors n 0) ∙ length-written n words

  -- words behind those that the keys reach stay
  written_front : (n : ℕ) (words rest : List ℕ) → ((k : ℕ) → k < n → whole (get_or keys k (pos 0)) < length words) → written n keys colors (words ++ rest)
      ≡ written n keys colors words ++ rest
  unfolding written
  written_front zero words rest h = refl
  written_front (suc n) words rest h =
      ap (λ (l : List ℕ). set l (whole (get_or keys n (pos 0))) (get_or colors n 0)) (written_front n words rest (λ k q. h k (omega arith)))
      ∙ set-append_left (written n keys colors words) rest (whole (get_or keys n (pos 0))) (get_or colors n 0)
      (omega (arith, length-written n words, h n (omega arith)))

  pub no_table : has_table keys ≡ false → replicate 513 0 ≡ padded 0 513 (table keys colors)
  unfolding table
  no_table e = sym (ap (λ (t : Bool). padded 0 513 (cond t (written (length keys) keys colors (replicate (table_size keys) 0)) [])) e ∙ padded-none 0 513)

  pub a-table : has_table keys ≡ true → written (length keys) keys colors (replicate 513 0) ≡ padded 0 513 (table keys colors)
  unfolding table padded
  a-table e =
      let w : List ℕ = written (length keys) keys colors (replicate (table_size keys) 0) in
      let s : table_size keys + (513 - table_size keys) ≡ 513 = omega (arith, size_≤ keys e) in
      let l : length w ≡ table_size keys = length-written (length keys) (replicate (table_size keys) 0) ∙ length-replicate (table_size keys) 0 in
      ap (λ (n : ℕ). written (length keys) keys colors (replicate n 0)) (sym s)
      ∙ ap (written (length keys) keys colors) (sym (replicate-append-replicate (table_size keys) (513 - table_size keys) 0))
      ∙ written_front (length keys) (replicate (table_size keys) 0) (replicate (513 - table_size keys) 0)
      (λ k q. omega (arith, key-in_table keys e k q, length-replicate {A = ℕ} (table_size keys) 0))
      ∙ ap (λ (n : ℕ). w ++ replicate (513 - n) 0) (sym l)
      ∙ sym (ap (λ (t : Bool). (cond t w []) ++ replicate (513 - length (cond t w [])) 0) e)

-- ---- one of the keys, as an index of the table
module _ (keys : List ℤ) (size : ℕ) (is : size ≡ table_size keys) (some : size ≢ 0) (i : ℕ) (h : i < length keys) where
  tabled : has_table keys ≡ true
  tabled = sized keys (λ e. some (is ∙ e))

  pub index_may : T (non_neg (get_or keys i (pos 0)))
  index_may = cast_may (get_or keys i (pos 0)) (key_from_0 keys tabled i h)

  index_is : nat_abs (get_or keys i (pos 0)) ≡ whole (get_or keys i (pos 0))
  index_is = cast_is (get_or keys i (pos 0)) (key_from_0 keys tabled i h)

  pub index_in_table : nat_abs (get_or keys i (pos 0)) < 513
  index_in_table = omega (arith, index_is, key-in_table keys tabled i h, size_≤ keys tabled)

  pub word_written : (colors words : List ℕ) → set (written i keys colors words) (nat_abs (get_or keys i (pos 0))) (get_or colors i 0) ≡ written (i + 1) keys colors words
  unfolding written
  word_written colors words = rw (add-one, index_is)

-- the words of all keys, or of none
pub looked_up : (keys : List ℤ) (colors : List ℕ) (size : ℕ) → size ≡ table_size keys → size ≢ 0 → (i : ℕ) → i ≡ length keys
    → written i keys colors (replicate 513 0) ≡ padded 0 513 (table keys colors)
looked_up keys colors size is some i e = ap (λ (n : ℕ). written n keys colors (replicate 513 0)) e ∙ a-table keys colors (sized keys (λ q. some (is ∙ q)))

pub not_looked_up : (keys : List ℤ) (colors : List ℕ) (size : ℕ) → size ≡ table_size keys → size ≡ 0 → replicate 513 0 ≡ padded 0 513 (table keys colors)
not_looked_up keys colors size is e = no_table keys colors (unsized keys (sym is ∙ e))

-- what `create_fast_lookup` needs of a table, and what a search for the foremost key needs
pub ruleset lookups = (index_may, index_in_table, word_written, looked_up, not_looked_up)

pub ruleset searches = (foremost_new, foremost_kept)

-- ---- the table of any keys
pub size_few : (keys : List ℤ) → table_size keys ≤ 513
size_few keys = go (has_table keys) (size_≤ keys) (not_tabled keys)
  where
    go : (t : Bool) → (t ≡ true → table_size keys ≤ 513) → (t ≡ false → table_size keys ≡ 0) → table_size keys ≤ 513
    go true f g = f refl
    go false f g = omega (arith, g refl)

pub length-table : (keys : List ℤ) (colors : List ℕ) → length (table keys colors) ≡ table_size keys
unfolding table
length-table keys colors = go (has_table keys) (not_tabled keys)
  where
    words : List ℕ
    words = written (length keys) keys colors (replicate (table_size keys) 0)

    go : (t : Bool) → (t ≡ false → table_size keys ≡ 0) → length (cond t words []) ≡ table_size keys
    go true f = length-written keys colors (length keys) (replicate (table_size keys) 0) ∙ length-replicate (table_size keys) 0
    go false f = sym (f refl)
